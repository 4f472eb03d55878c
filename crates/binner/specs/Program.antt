-- What a tile's words do at a pixel, and what they count there (this project's own): the second meaning of a list, that of its compiled form.
use Rattle.std.specs.Prelude.{ℕ, ◌+◌, ◌==◌, Bool, false, not, ◌&&◌, ◌||◌, List, [], ◌∷◌, Option, Some, None, filter_map, slice_get, if◌then◌else◌}
use Rattle.std.specs.Int.{bit_at}
use Rattle.gfxspec.specs.declared.pixel.Pixel.{Pixel}
use Rattle.gfxspec.specs.declared.pixel.DepthStencil.{DepthStencil}
use Rattle.gfxspec.specs.declared.geometry.PixelRect.{PixelRect}
use Rattle.gfxspec.specs.Raster.{Point, Triangle, centre, edge, edge_holds}
use Rattle.gfxspec.specs.DepthStencil.{TestOutcome, tested}
use Rattle.gfxspec.specs.Color.{written_color}
use Rattle.gfxspec.specs.Items.{is_in_rect}
use Rattle.depthplane.specs.Place.{depth_of}
use Rattle.tileword.specs.declared.edge_mask.EdgeMask.{EdgeMask}
use Rattle.tileword.specs.declared.word.Word.{Word}
use Rattle.tileword.specs.declared.word.Word.TheVariants.{State, Tri, ClearC, ClearDs}
use Rattle.tileword.specs.Word.{decoded}
use Rattle.meaning.specs.Over.{sum_over}
use Rattle.binner.specs.declared.entry.StateEntry.{StateEntry}
use Rattle.binner.specs.declared.setup.TriSetup.{TriSetup}

-- what the numbers in words name
pub record Tables : Type 0 where
  pub states : List StateEntry
  pub triangles : List TriSetup
  pub colors : List (List ℕ)
  pub depths : List DepthStencil

-- the edges that the mask names hold
abbrev pub passes_edges : EdgeMask → Triangle → Point → Bool
passes_edges m t p =
    (not m.edge0 || edge_holds (edge t 0) p) && ((not m.edge1 || edge_holds (edge t 1) p) && (not m.edge2 || edge_holds (edge t 2) p))

-- an enabled scissor rectangle lets the pixel through
abbrev pub lets_through : StateEntry → ℕ → ℕ → Bool
lets_through e x y = not e.raster.scissor || is_in_rect e.scissor x y

abbrev pub reaches_by : EdgeMask → TriSetup → StateEntry → ℕ → ℕ → Bool
reaches_by m t e x y = passes_edges m t.plane.triangle (centre x y) && lets_through e x y

-- both tests of a triangle at a pixel that it reaches; its plane has the bias
abbrev pub outcome : TriSetup → StateEntry → ℕ → ℕ → Pixel → TestOutcome
outcome t e x y old =
    tested e.depth_stencil (if t.front then e.depth_stencil.front else e.depth_stencil.back) e.reference (depth_of t.plane x y) old.ds

abbrev pub drawn : TriSetup → StateEntry → TestOutcome → Pixel → Pixel
drawn t e tests old =
    record {
      rgba = if tests.passed then written_color e.blend t.rgba old.rgba else old.rgba;
      ds = tests.after;
    }

-- a pixel after a triangle under the entry in force; a number that names nothing, or no entry in force, changes nothing
abbrev pub triangle_by : EdgeMask → Option TriSetup → Option StateEntry → ℕ → ℕ → Pixel → Pixel
triangle_by m None e x y old = old
triangle_by m (Some t) None x y old = old
triangle_by m (Some t) (Some e) x y old = if reaches_by m t e x y then drawn t e (outcome t e x y old) old else old

abbrev pub color_put : Option (List ℕ) → Pixel → Pixel
color_put None old = old
color_put (Some rgba) old = record { rgba = rgba; ds = old.ds }

abbrev pub depth_put : Option DepthStencil → Pixel → Pixel
depth_put None old = old
depth_put (Some ds) old = record { rgba = old.rgba; ds = ds }

-- a pixel after one word, where this entry is in force
abbrev pub after_word : Tables → Option StateEntry → Word → ℕ → ℕ → Pixel → Pixel
after_word t e (State n) x y old = old
after_word t e (Tri n m) x y old = triangle_by m (slice_get t.triangles n) e x y old
after_word t e (ClearC n) x y old = color_put (slice_get t.colors n) old
after_word t e (ClearDs n) x y old = depth_put (slice_get t.depths n) old

-- the entry in force after a word
abbrev pub force_after : Tables → Option StateEntry → Word → Option StateEntry
force_after t e (State n) = slice_get t.states n
force_after t e (Tri n m) = e
force_after t e (ClearC n) = e
force_after t e (ClearDs n) = e

abbrev pub force_behind : Tables → Option StateEntry → List Word → Option StateEntry
force_behind t e [] = e
force_behind t e (w ∷ ws) = force_behind t (force_after t e w) ws

-- a pixel after the words in order
abbrev pub after_words : Tables → Option StateEntry → List Word → ℕ → ℕ → Pixel → Pixel
after_words t e [] x y old = old
after_words t e (w ∷ ws) x y old = after_words t (force_after t e w) ws x y (after_word t e w x y old)

-- the triangle reaches the pixel and passes both tests there, under an entry in which the issue is open
abbrev pub triangle_counts : ℕ → EdgeMask → Option TriSetup → Option StateEntry → ℕ → ℕ → Pixel → Bool
triangle_counts issue m None e x y old = false
triangle_counts issue m (Some t) None x y old = false
triangle_counts issue m (Some t) (Some e) x y old =
    (bit_at e.issues issue == 1) && (reaches_by m t e x y && (outcome t e x y old).passed)

abbrev pub word_counts : Tables → Option StateEntry → ℕ → Word → ℕ → ℕ → Pixel → Bool
word_counts t e issue (State n) x y old = false
word_counts t e issue (Tri n m) x y old = triangle_counts issue m (slice_get t.triangles n) e x y old
word_counts t e issue (ClearC n) x y old = false
word_counts t e issue (ClearDs n) x y old = false

-- how many words count for the issue at one pixel, each at its place
abbrev pub words_count : Tables → Option StateEntry → ℕ → List Word → ℕ → ℕ → Pixel → ℕ
words_count t e issue [] x y old = 0
words_count t e issue (w ∷ ws) x y old =
    (if word_counts t e issue w x y old then 1 else 0) + words_count t (force_after t e w) issue ws x y (after_word t e w x y old)

-- ---- the program of a tile, as numbers

abbrev pub program : List ℕ → List Word
program numbers = filter_map decoded numbers

-- no entry is in force at first
abbrev pub program_pixel : Tables → List ℕ → ℕ → ℕ → Pixel → Pixel
program_pixel t numbers x y old = after_words t None (program numbers) x y old

abbrev pub program_count : Tables → ℕ → List ℕ → PixelRect → (ℕ → ℕ → Pixel) → ℕ
program_count t issue numbers r opening =
    sum_over r (λ x y. words_count t None issue (program numbers) x y (opening x y))
