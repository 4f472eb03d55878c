-- When words are in order, and when they mean items.
use Rattle.std.specs.Prelude.{ℕ, ◌≡◌, ◌<◌, ◌==◌, ◌&&◌, IsTrue, false, List, [], ◌∷◌, Option, Some, None, slice_get, is_some, if◌then◌else◌}
use Rattle.std.specs.List.{list_any, list_all}
use Rattle.std.specs.Int.{bit_at}
use Rattle.gfxspec.specs.declared.pixel.Pixel.{Pixel}
use Rattle.gfxspec.specs.declared.pixel.DepthStencil.{DepthStencil}
use Rattle.gfxspec.specs.declared.geometry.PixelRect.{PixelRect}
use Rattle.gfxspec.specs.Limits.{side_bound}
use Rattle.gfxspec.specs.Raster.{centre, covers}
use Rattle.gfxspec.specs.DepthStencil.{DepthStencilSetting}
use Rattle.gfxspec.specs.Facing.{is_culled}
use Rattle.gfxspec.specs.State.{Settings}
use Rattle.gfxspec.specs.Assembly.{Primitive}
use Rattle.gfxspec.specs.Items.{Item, after_items, count_at, face_setting, facing, in_scissor, is_in_rect, reaches, snapped_triangle}
use Rattle.gfxspec.specs.Tiles.{IsIn}
use Rattle.classify.specs.Region.{IsClassOf}
use Rattle.classify.specs.declared.Class.TheVariants.{Cut}
use Rattle.tileword.specs.declared.word.Word.{Word}
use Rattle.tileword.specs.declared.word.Word.TheVariants.{State, Tri, ClearC, ClearDs}
use Rattle.tileword.specs.EdgeMask.{edge_bits}
use Rattle.tileword.specs.Word.{decoded}
use Rattle.meaning.specs.Over.{count_over}
use Rattle.binner.specs.declared.entry.StateEntry.{StateEntry}
use Rattle.binner.specs.declared.setup.TriSetup.{TriSetup}
use Rattle.binner.specs.Program.{Tables, force_after, force_behind, after_words, words_count, lets_through, program, program_pixel, program_count}

-- ---- words that are in order

-- under this entry the triangle reaches no pixel outside of its bounds
abbrev pub IsBounded : TriSetup → StateEntry → Type 0
IsBounded t e =
    (x y : ℕ) → x < side_bound → y < side_bound → (is_in_rect t.bounds x y && covers t.plane.triangle (centre x y)) ≡ (covers t.plane.triangle (centre x y) && lets_through e x y)

-- The word's number names an entry. A triangle has an entry in force, each of its edges holds somewhere in the rectangle, and the mask names exactly those that fail somewhere.
abbrev pub WordFits : Tables → PixelRect → Option StateEntry → Word → Type 0
WordFits t r e (State n) = (now : StateEntry) × (slice_get t.states n ≡ Some now)
WordFits t r e (Tri n m) = (now : StateEntry) × (p : TriSetup) × (e ≡ Some now) × (slice_get t.triangles n ≡ Some p) × IsClassOf (Cut (edge_bits m)) p.plane.triangle r × IsBounded p now
WordFits t r e (ClearC n) = (color : List ℕ) × (slice_get t.colors n ≡ Some color)
WordFits t r e (ClearDs n) = (ds : DepthStencil) × (slice_get t.depths n ≡ Some ds)

abbrev pub WordsFit : Tables → PixelRect → Option StateEntry → List Word → Type 0
WordsFit t r e [] = Unit {0}
WordsFit t r e (w ∷ ws) = WordFits t r e w × WordsFit t r (force_after t e w) ws

-- each number is a word
abbrev pub Decode : List ℕ → Type 0
Decode numbers = IsTrue (list_all (λ n. is_some (decoded n)) numbers)

-- what the type of a compiled list keeps of each tile
pub record ProgramFits (t : Tables) (r : PixelRect) (numbers : List ℕ) : Type 0 where
  pub decode : Decode numbers
  pub fit : WordsFit t r None (program numbers)

-- ---- words that mean items

-- on this rectangle the words do what the items do, from every value, and count what the items count; `from` is in force before them and `to` behind them
pub record Means (t : Tables) (r : PixelRect) (from to : Option StateEntry) (items : List Item) (ws : List Word) : Type 0 where
  pub fit : WordsFit t r from ws
  pub force : force_behind t from ws ≡ to
  pub pixel : (x y : ℕ) (old : Pixel) → IsIn r x y → after_words t from ws x y old ≡ after_items items x y old
  pub count : (issue x y : ℕ) (old : Pixel) → issue < 64 → IsIn r x y → words_count t from issue ws x y old ≡ count_at issue items x y old

-- what a tile's program means: at each pixel of its rectangle what the items mean, and for each issue their count over the rectangle
pub record ProgramMeans (t : Tables) (r : PixelRect) (items : List Item) (numbers : List ℕ) : Type 0 where
  pub pixel : (x y : ℕ) (old : Pixel) → IsIn r x y → program_pixel t numbers x y old ≡ after_items items x y old
  pub count : (issue : ℕ) (opening : ℕ → ℕ → Pixel) → issue < 64 → program_count t issue numbers r opening ≡ count_over issue items r opening

-- ---- entries and triangles of items

-- the entry of settings and of open issues, which are bits
abbrev pub entry_of : Settings → ℕ → StateEntry
entry_of s issues =
    record { raster = s.raster; scissor = s.scissor; depth_stencil = s.depth_stencil; reference = s.reference; blend = s.blend; issues = issues }

-- Under this entry triangles that are made ready are drawn as under these settings, with these issues open as bits. Culling, facing and the bias may differ, since they were heeded before.
pub record DrawsUnder (e : StateEntry) (s : Settings) (bits : ℕ) : Type 0 where
  pub scissor : (x y : ℕ) → lets_through e x y ≡ in_scissor s x y
  pub depth_stencil : e.depth_stencil ≡ s.depth_stencil
  pub reference : e.reference ≡ s.reference
  pub blend : e.blend ≡ s.blend
  pub issues : e.issues ≡ bits

-- the bits are the open issues
abbrev pub AreBits : ℕ → List ℕ → Type 0
AreBits bits opened = (k : ℕ) → k < 64 → (bit_at bits k == 1) ≡ list_any (λ j. j == k) opened

-- a triangle of the code is one of the definitions, which isn't dropped
pub record IsSetupOf (t : TriSetup) (p : Primitive) (s : Settings) : Type 0 where
  pub triangle : t.plane.triangle ≡ snapped_triangle p
  pub z0 : t.plane.z0 ≡ p.first.z
  pub z1 : t.plane.z1 ≡ p.second.z
  pub z2 : t.plane.z2 ≡ p.third.z
  pub bias : t.plane.bias ≡ s.raster.depth_bias
  pub kept : is_culled s.raster.cull (facing p s) ≡ false
  pub face : (d : DepthStencilSetting) → (if t.front then d.front else d.back) ≡ face_setting (facing p s) d
  pub rgba : t.rgba ≡ p.first.rgba
  pub reach : (x y : ℕ) → x < side_bound → y < side_bound → (is_in_rect t.bounds x y && covers t.plane.triangle (centre x y)) ≡ (covers t.plane.triangle (centre x y) && in_scissor s x y)

-- the triangle reaches no pixel of the rectangle
abbrev pub IsSkipped : Primitive → Settings → PixelRect → Type 0
IsSkipped p s r = (x y : ℕ) → IsIn r x y → reaches p s x y ≡ false

-- ---- tables that grow

pub record Keeps (t u : Tables) : Type 0 where
  pub states : (n : ℕ) (e : StateEntry) → slice_get t.states n ≡ Some e → slice_get u.states n ≡ Some e
  pub triangles : (n : ℕ) (p : TriSetup) → slice_get t.triangles n ≡ Some p → slice_get u.triangles n ≡ Some p
  pub colors : (n : ℕ) (c : List ℕ) → slice_get t.colors n ≡ Some c → slice_get u.colors n ≡ Some c
  pub depths : (n : ℕ) (d : DepthStencil) → slice_get t.depths n ≡ Some d → slice_get u.depths n ≡ Some d
