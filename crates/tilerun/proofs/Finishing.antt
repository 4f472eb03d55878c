-- From what went to the board and came back to what the target holds.
use Rattle.std.proofs.Common.{◌≡◌, ◌∙◌, sym, ap, refl, subst, ⊎_elim, arith, ℕ, ◌<◌, List, length, get_or, Some, IsSome}
use Rattle.std.proofs.lemmas.List.Recursion.{is_sum_by}
use Rattle.std.specs.List.{Contains, AllZip}
use mathlib.Core.Option.{some, some-injective}
use lib.ListN.{get_elem?}
use Rattle.gfxspec.specs.declared.pixel.Pixel.{Pixel}
use Rattle.gfxspec.specs.declared.geometry.Size.{Size}
use Rattle.gfxspec.specs.declared.geometry.PixelRect.{PixelRect}
use Rattle.gfxspec.specs.Tiles.{tile_count, tile_of, tile_rect, IsIn}
use Rattle.gfxspec.proofs.TileLaws.{in_own_tile, only_tile}
use Rattle.tileblock.specs.Block.{Block, pixel_at}
use Rattle.tileblock.specs.Surface.{Surface, IsWhole, block_of, pixel_in, pixel_of}
use Rattle.tileblock.proofs.Slots.{has_block_within, IsSome-from, pixel_of-block}
use Rattle.tilecore.specs.Schedule.{total}
use Rattle.tilerun.specs.Touched.{AreTiles}
use Rattle.tilerun.specs.Drawn.{IsDrawn, AreCounts}
use Rattle.tilerun.specs.Moving.{AreOut, AreBack, MayComeBack, HaveRun, Opens}
use Rattle.tilecore.proofs.Lists.{within}
use Rattle.tilerun.proofs.Lists.{there, place_of, is_among, zip_at, zip_from, zip_long, total_alike}

module _ {O D : Type 0} (number : O → ℕ) (block : O → Block) (done_block : D → Block) (R : O → D → Type 0) (tiles : List ℕ) (mid : Surface) (placed : List O) (results : List D)
    (may : MayComeBack number block tiles mid placed) (zip : AllZip R placed results) where
  pub as_many : length results ≡ length tiles
  as_many = zip_long R placed results zip ∙ may.many

  -- a result fits into the place that the list has it at
  pub rects_fit : ((o : O) (d : D) → R o d → (done_block d).rect ≡ (block o).rect)
      → (p : ℕ) (d : D) (t : ℕ) → get_elem? results p ≡ some d → get_elem? tiles p ≡ some t → (done_block d).rect ≡ tile_rect mid.size t
  rects_fit keeps p d t e at = let z = zip_at R placed results p d zip e in let h = may.held p z.0 z.1 in
      keeps z.0 d z.2 ∙ (h.3 ∙ ap (tile_rect mid.size) (some-injective h.0 t (sym h.1 ∙ at)))

  pub have_run : (drawn : ℕ → ℕ → ℕ → Pixel → Pixel) (new : Surface) → AreBack done_block tiles mid new results
      → ((o : O) (d : D) (t x y : ℕ) → R o d → get_elem? tiles (number o) ≡ some t → IsIn (block o).rect x y → pixel_at (done_block d) x y ≡ drawn t x y (pixel_at (block o) x y))
      → HaveRun block drawn tiles mid new placed
  have_run drawn new back draws = record {
    size = back.size;
    back = λ p o t e at. let z = zip_from R placed results p o zip e in let h = may.held p o e in
        (done_block z.0, back.back p z.0 t z.1 at, λ x y i. draws o z.0 t x y z.2 (ap (get_elem? tiles) h.2 ∙ at) i);
    rest = back.rest;
  }

  pub all_counted : (issues : ℕ) (done_count : D → ℕ → ℕ) (counted : ℕ → ℕ → (ℕ → ℕ → Pixel) → ℕ) (opening : ℕ → ℕ → Pixel) (counts : List ℕ) → Opens block placed opening → length counts ≡ issues
      → ((i : ℕ) → i < issues → get_or counts i 0 ≡ total (λ d. done_count d i) results)
      → ((o : O) (d : D) (t i : ℕ) → R o d → get_elem? tiles (number o) ≡ some t → i < issues → ((x y : ℕ) → IsIn (block o).rect x y → opening x y ≡ pixel_at (block o) x y) → done_count d i ≡ counted t i opening)
      → AreCounts counted issues tiles opening counts
  all_counted issues done_count counted opening counts opens long sums counts_are = record {
    many = long;
    each = λ i less. sums i less ∙ (total_alike (λ d. done_count d i) (λ t. counted t i opening) results tiles as_many
        (λ p d t e at. let z = zip_at R placed results p d zip e in let h = may.held p z.0 z.1 in counts_are z.0 d t i z.2 (ap (get_elem? tiles) h.2 ∙ at) less (opens p z.0 z.1))
        ∙ is_sum_by (total (λ t. counted t i opening)) (λ t. counted t i opening) refl (λ x xs. refl) tiles);
  }

-- a seat that ran the tiles still knows those that were placed
pub still_out : {O : Type 0} (number : O → ℕ) (block : O → Block) (tiles : List ℕ) (old mid : Surface) (placed after : List O) → after ≡ placed → AreOut number block tiles old mid placed → AreOut number block tiles old mid after
still_out number block tiles old mid placed after e = subst (AreOut number block tiles old mid) (sym e)

module _ {O : Type 0} (number : O → ℕ) (block : O → Block) (tiles : List ℕ) (old mid : Surface) (placed : List O) (out : AreOut number block tiles old mid placed) where
  pub may_come_back : AreTiles old.size tiles → IsWhole old → MayComeBack number block tiles mid placed
  may_come_back are whole = record {
    many = out.many;
    out = λ t c.
        let less : t < tile_count old.size = subst (λ (u : ℕ). u < tile_count old.size) c.2 (are.in_range c.0 t c.1) in
        let near = has_block_within old t (whole t less) in
        (((let e : tile_count mid.size ≡ tile_count old.size = ap tile_count out.size in omega arith), out.out t c), (let e = out.long in omega arith));
    held = λ p o e. let h = out.held p o e in (h.0, h.1, h.2, h.4 ∙ ap (λ (z : Size). tile_rect z h.0) (sym out.size));
  }

  -- the opening values of the target are those of the tiles on the board
  pub opens : Opens block placed (pixel_of old)
  opens p o e x y i = let h = out.held p o e in
      pixel_of-block old h.0 x y (block o) (sym (only_tile old.size h.0 x y (subst (λ (r : PixelRect). IsIn r x y) h.4 i))) h.3

  -- a tile of the list stands on the board
  standing : (t : ℕ) → Contains tiles t → (p : ℕ) × (o : O) × (get_elem? placed p ≡ some o) × (get_elem? tiles p ≡ some t) × (block_of old t ≡ Some (block o)) × ((block o).rect ≡ tile_rect old.size t)
  standing t c = let a = place_of tiles t c in let less : a.0 < length placed = (let b = within tiles a.0 t a.1 in let d = out.many in omega arith) in
      let o = there placed a.0 less in let h = out.held a.0 o.0 o.1 in let same : h.0 ≡ t = some-injective h.0 t (sym h.1 ∙ a.1) in
      (a.0, o.0, o.1, a.1, ap (block_of old) (sym same) ∙ h.3, h.4 ∙ ap (tile_rect old.size) same)

  pub is_drawn : (drawn : ℕ → ℕ → ℕ → Pixel → Pixel) (new : Surface) → IsWhole old → HaveRun block drawn tiles mid new placed → IsDrawn drawn tiles old new
  is_drawn drawn new whole run = record {
    size = size;
    whole = λ t less. ⊎_elim
        (λ (c : Contains tiles t). let s = standing t c in let b = run.back s.0 s.1 t s.2 s.3 in IsSome-from (block_of new t) b.0 b.1)
        (λ (c : ¬ Contains tiles t). subst IsSome (sym (run.rest t c ∙ out.rest t c)) (whole t (let e : tile_count new.size ≡ tile_count old.size = ap tile_count size in omega arith)))
        (is_among tiles t);
    here = λ x y p q c. let t : ℕ = tile_of old.size x y in let s = standing t c in let b = run.back s.0 s.1 t s.2 s.3 in
        pixel_of-block new t x y b.0 (ap (λ (z : Size). tile_of z x y) size) b.1
        ∙ (b.2 x y (subst (λ (r : PixelRect). IsIn r x y) (sym s.5) (in_own_tile old.size x y p q)) ∙ ap (drawn t x y) (sym (pixel_of-block old t x y (block s.1) refl s.4)));
    elsewhere = λ x y p q c. ap (λ (z : Size). pixel_in (block_of new (tile_of z x y)) x y) size ∙ ap (λ slot. pixel_in slot x y) (run.rest (tile_of old.size x y) c ∙ out.rest (tile_of old.size x y) c);
  }
    where
      size : new.size ≡ old.size
      size = run.size ∙ out.size
