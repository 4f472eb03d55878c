-- Which pixels a word's triangle passes, and how many a word and a list of words count for an issue.
use Rattle.std.specs.Prelude.{ℕ, ◌≡◌, ◌+◌, ◌<◌, ◌≤◌, ◌==◌, Bool, false, ◌&&◌, Option, Some, None, List, length, slice_index, slice_get}
use Rattle.std.specs.Borrow.{Bor}
use Rattle.std.specs.Int.{bit_at}
use Rattle.gfxspec.specs.declared.geometry.PixelRect.{PixelRect}
use Rattle.gfxspec.specs.declared.pixel.Pixel.{Pixel}
use Rattle.gfxspec.specs.Limits.{side_bound}
use Rattle.gfxspec.specs.Tiles.{IsInTile}
use Rattle.tileblock.specs.Block.{Block, pixel_at}
use Rattle.tileword.specs.declared.edge_mask.EdgeMask.{EdgeMask}
use Rattle.tileword.specs.declared.word.Word.{Word}
use Rattle.tileword.specs.declared.word.Word.TheVariants.{State, Tri, ClearC, ClearDs}
use Rattle.meaning.specs.Over.{sum_over}
use Rattle.binner.specs.declared.entry.StateEntry.{StateEntry}
use Rattle.binner.specs.declared.setup.TriSetup.{TriSetup}
use Rattle.binner.specs.Program.{Tables, reaches_by, outcome, word_counts, words_count}
use Rattle.tileprog.specs.Counting.{one_if}

-- the entry that a borrow shows
abbrev pub shown : Option (Bor StateEntry) → Option StateEntry
shown None = None
shown (Some e) = Some e.now

-- the number of a state's word names an entry
abbrev pub NamesState : Tables → Word → Type 0
NamesState t (State n) = n < length t.states
NamesState t (Tri n m) = Unit {0}
NamesState t (ClearC n) = Unit {0}
NamesState t (ClearDs n) = Unit {0}

-- the triangle reaches the pixel and passes both tests there
abbrev pub triangle_passes : EdgeMask → TriSetup → StateEntry → ℕ → ℕ → Pixel → Bool
triangle_passes m t e x y old = reaches_by m t e x y && (outcome t e x y old).passed

abbrev pub triangle_count : EdgeMask → TriSetup → StateEntry → Block → ℕ → ℕ → ℕ
triangle_count m t e old u v = one_if (triangle_passes m t e u v (pixel_at old u v))

-- a word's triangle passes the pixel, whichever issues are open
abbrev pub passes_by : EdgeMask → Option TriSetup → Option StateEntry → ℕ → ℕ → Pixel → Bool
passes_by m None e x y old = false
passes_by m (Some t) None x y old = false
passes_by m (Some t) (Some e) x y old = triangle_passes m t e x y old

abbrev pub word_passes : Tables → Option StateEntry → Word → ℕ → ℕ → Pixel → Bool
word_passes t e (State n) x y old = false
word_passes t e (Tri n m) x y old = passes_by m (slice_get t.triangles n) e x y old
word_passes t e (ClearC n) x y old = false
word_passes t e (ClearDs n) x y old = false

abbrev pub word_passed : Tables → Option StateEntry → Word → (ℕ → ℕ → Pixel) → ℕ → ℕ → ℕ
word_passed t e w old u v = one_if (word_passes t e w u v (old u v))

-- the issue is open in the entry in force
abbrev pub is_open : Option StateEntry → ℕ → Bool
is_open None issue = false
is_open (Some e) issue = bit_at e.issues issue == 1

-- how many pixels of a rectangle a word counts for an issue, and how many a list of words does
abbrev pub word_total : Tables → Option StateEntry → ℕ → Word → PixelRect → (ℕ → ℕ → Pixel) → ℕ
word_total t e issue w r old = sum_over r (λ u v. one_if (word_counts t e issue w u v (old u v)))

abbrev pub words_total : Tables → Option StateEntry → ℕ → List Word → PixelRect → (ℕ → ℕ → Pixel) → ℕ
words_total t e issue ws r old = sum_over r (λ u v. words_count t e issue ws u v (old u v))

-- each of the 64 counts grew by f of its issue
pub record HasGrown (old new : List ℕ) (f : ℕ → ℕ) : Type 0 where
  pub each : (k : ℕ) → k < 64 → slice_index new k ≡ slice_index old k + f k

-- each of the 64 counts is at most n
pub record AtMost (counts : List ℕ) (n : ℕ) : Type 0 where
  pub each : (k : ℕ) → k < 64 → slice_index counts k ≤ n

-- a rectangle of a tile of a target
pub record IsTile (r : PixelRect) : Type 0 where
  pub place : IsInTile r
  pub wide : r.left < r.right
  pub high : r.top < r.bottom
  pub right : r.left + 32 ≤ side_bound
  pub bottom : r.top + 32 ≤ side_bound
