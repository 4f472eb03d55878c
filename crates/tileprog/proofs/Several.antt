-- Lists that run one behind the other: what their job leaves of its tiles is what all of them leave of the target.
use Rattle.std.proofs.Common.{◌≡◌, ◌∙◌, ap, sym, subst, refl, ⊎_elim, ℕ, ◌+◌, ◌<◌, List, [], ◌∷◌, ◌++◌, length, get_or, drop}
use Rattle.std.specs.Prelude.{All}
use Rattle.std.specs.List.{Contains}
use Rattle.std.proofs.lemmas.List.{drop_more}
use Rattle.std.proofs.lemmas.List.Elements.{All-nil, All-cons, All-head, All-tail, All-weaker}
use Rattle.gfxspec.specs.declared.geometry.PixelRect.{PixelRect}
use Rattle.gfxspec.specs.declared.geometry.Size.{Size}
use Rattle.gfxspec.specs.declared.pixel.Pixel.{Pixel}
use Rattle.gfxspec.specs.Items.{Item, after_items}
use Rattle.gfxspec.specs.Tiles.{tile_count, tile_of, tile_rect, IsIn}
use Rattle.gfxspec.proofs.TileLaws.{tile_numbered, in_own_tile}
use Rattle.meaning.proofs.Folding.{after_items-append}
use Rattle.tileblock.specs.Surface.{Surface, pixel_of}
use Rattle.binner.specs.Program.{program_pixel}
use Rattle.binner.specs.Compiled.{Compilation, IsCompilation}
use Rattle.binner.specs.Segments.{AreCompiled}
use Rattle.tilerun.specs.Drawn.{IsDrawn, AreCounts}
use Rattle.tilerun.proofs.Lists.{is_among}
use Rattle.tileprog.specs.declared.program.TileProgram.{TileProgram}
use Rattle.tileprog.specs.Several.{AreLists, CanRunBehind, HasTile, HasWordsIn}
use Rattle.tileprog.specs.Programs.{pixel_by, pixel_by_all, count_by, lists_of, tiles_of, AllRan}
use Rattle.tileprog.proofs.Touched.{untouched, are_tiles}

-- ---- the job of one list

-- what it draws is what the list leaves of the tiles that it touches
pub alone_drawn : {A : Type 0} (job : TileProgram A) (c : Compilation) (old new : Surface) → lists_of job ≡ c ∷ [] → tiles_of job ≡ c.touched → IsDrawn (pixel_by_all (lists_of job)) (tiles_of job) old new → IsDrawn (pixel_by c) c.touched old new
alone_drawn {A} job c old new lists tiles drawn =
    subst (λ (ts : List ℕ). IsDrawn (pixel_by c) ts old new) tiles
    (subst (λ (cs : List Compilation). IsDrawn (pixel_by_all cs) (tiles_of job) old new) lists drawn)

-- and what it counts is what the list counts there
pub alone_counts : {A : Type 0} (job : TileProgram A) (c : Compilation) (opening : ℕ → ℕ → Pixel) (counts : List ℕ) → job.first ≡ c → tiles_of job ≡ c.touched → AreCounts (count_by job.first) job.first.issues (tiles_of job) opening counts → AreCounts (count_by c) c.issues c.touched opening counts
alone_counts {A} job c opening counts first tiles counted =
    subst (λ (ts : List ℕ). AreCounts (count_by c) c.issues ts opening counts) tiles
    (subst (λ (d : Compilation). AreCounts (count_by d) d.issues (tiles_of job) opening counts) first counted)

-- what such a job keeps of its list
pub alone_kept : (c : Compilation) → IsCompilation c → AreLists c.size (c ∷ []) c.touched
alone_kept c sound = record {
  sizes = All-cons (λ (d : Compilation). d.size ≡ c.size) c [] refl (All-nil (λ (d : Compilation). d.size ≡ c.size));
  tiles = are_tiles c sound;
  words = All-cons (HasWordsIn c.touched) c [] (untouched c sound) (All-nil (HasWordsIn c.touched));
}

-- ---- the job of several

-- each of them has a tile of the target at its rectangle
pub have_tile : (size : Size) (t : ℕ) (r : PixelRect) (cs : List Compilation) → All (λ c. c.size ≡ size) cs → t < tile_count size → r ≡ tile_rect size t → All (HasTile t r) cs
have_tile size t r cs same less rect =
    All-weaker (λ (c : Compilation). c.size ≡ size) (HasTile t r)
    (λ (c : Compilation) (e : c.size ≡ size). (subst (λ (s : Size). t < tile_count s) (sym e) less, rect ∙ ap (λ (s : Size). tile_rect s t) (sym e))) cs same

-- where the list at a place runs, those from that place on are left
pub next_runs : (cs : List Compilation) (i : ℕ) (c : Compilation) (t x y : ℕ) (old : Pixel) → i < length cs → c ≡ get_or cs i c → pixel_by_all (drop (i + 1) cs) t x y (pixel_by c t x y old) ≡ pixel_by_all (drop i cs) t x y old
next_runs cs i c t x y old less is =
    ap (λ (d : Compilation). pixel_by_all (drop (i + 1) cs) t x y (pixel_by d t x y old)) is
    ∙ ap (λ (ds : List Compilation). pixel_by_all ds t x y old) (sym (drop_more cs i c less))

-- in a tile where no list has words they leave each pixel as it is
idle : (cs : List Compilation) (tiles : List ℕ) (t x y : ℕ) (old : Pixel) → All (HasWordsIn tiles) cs → ¬ Contains tiles t → pixel_by_all cs t x y old ≡ old
idle [] tiles t x y old all out = refl
idle (c ∷ cs) tiles t x y old all out =
    ap (λ ws. pixel_by_all cs t x y (program_pixel c.tables ws x y old)) (All-head (HasWordsIn tiles) c cs all t out)
    ∙ idle cs tiles t x y old (All-tail (HasWordsIn tiles) c cs all) out

-- so each pixel of the target is what its tile's words in all lists leave of it
pub lists_ran : (size : Size) (cs : List Compilation) (tiles : List ℕ) (old new : Surface) → AreLists size cs tiles → IsDrawn (pixel_by_all cs) tiles old new → AllRan cs old new
lists_ran size cs tiles old new are drawn = record {
  size = drawn.size;
  whole = drawn.whole;
  pixels = λ x y p q.
      ⊎_elim
      (λ (there : Contains tiles (tile_of old.size x y)). drawn.here x y p q there)
      (λ (out : ¬ Contains tiles (tile_of old.size x y)).
      drawn.elsewhere x y p q out
      ∙ sym (idle cs tiles (tile_of old.size x y) x y (pixel_of old x y) are.words out))
      (is_among tiles (tile_of old.size x y));
}

pub all_ran : {A : Type 0} (job : TileProgram A) (old new : Surface) → IsDrawn (pixel_by_all (lists_of job)) (tiles_of job) old new → AllRan (lists_of job) old new
all_ran {A} job old new drawn = lists_ran job.first.size (lists_of job) (tiles_of job) old new job.lists drawn

-- ---- what lists mean that were compiled apart

-- in a tile they leave what their items leave, one behind the other
tile_means : (size : Size) (is : List Item) (cs : List Compilation) (t x y : ℕ) (old : Pixel) → AreCompiled size is cs → t < tile_count size → IsIn (tile_rect size t) x y → pixel_by_all cs t x y old ≡ after_items is x y old
tile_means size is [] t x y old are within inside = ap (λ (js : List Item). after_items js x y old) (sym are)
tile_means size is (c ∷ cs) t x y old are within inside =
    let js = are.0 in
    let ks = are.1 in
    let is_all : is ≡ js ++ ks = are.2 in
    let same : c.size ≡ size = are.3 in
    let here = (are.5 t (subst (λ (s : Size). t < tile_count s) (sym same) within)).pixel x y old (subst (λ (s : Size). IsIn (tile_rect s t) x y) (sym same) inside) in
    ap (pixel_by_all cs t x y) here
    ∙ tile_means size ks cs t x y (after_items js x y old) are.6 within inside
    ∙ sym (after_items-append js ks x y old)
    ∙ ap (λ (ls : List Item). after_items ls x y old) (sym is_all)

-- once all of them ran, each pixel of the target is what the items leave of it
pub several_drawn : (is : List Item) (cs : List Compilation) (old new : Surface) → AreCompiled old.size is cs → AllRan cs old new → (x y : ℕ) → x < old.size.width → y < old.size.height → pixel_of new x y ≡ after_items is x y (pixel_of old x y)
several_drawn is cs old new are ran x y p q =
    ran.pixels x y p q
    ∙ tile_means old.size is cs (tile_of old.size x y) x y (pixel_of old x y) are (tile_numbered old.size x y p q) (in_own_tile old.size x y p q)

-- those behind the first can run behind it
fit_behind : (size : Size) (is : List Item) (cs : List Compilation) → AreCompiled size is cs → All (CanRunBehind size) cs
fit_behind size is [] are = All-nil (CanRunBehind size)
fit_behind size is (c ∷ cs) are = All-cons (CanRunBehind size) c cs (are.3, are.4) (fit_behind size are.1 cs are.6)

pub can_run_behind : (size : Size) (is : List Item) (c : Compilation) (cs : List Compilation) → AreCompiled size is (c ∷ cs) → (c.size ≡ size) × (c.issues ≡ 0) × All (CanRunBehind c.size) cs
can_run_behind size is c cs are =
    (are.3, are.4, subst (λ (s : Size). All (CanRunBehind s) cs) (sym are.3) (fit_behind size are.1 cs are.6))
