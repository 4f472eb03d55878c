-- The target and the query results, and what a run makes of them (Direct3D 11.3 Functional Specification, "Output Merger Stage", "Asynchronous Notification").
use Rattle.std.specs.Prelude.{ℕ, ◌≡◌, ◌<◌, List, length, Option, Some}
use Rattle.gfxspec.specs.declared.TheConstants.{QUERY_LIMIT}
use Rattle.gfxspec.specs.Commands.{Command}
use Rattle.gfxspec.specs.Items.{Item}
use Rattle.gfxspec.specs.Recorded.{issues}
use Rattle.gfxspec.specs.Predication.{performed, result_of}
use Rattle.gfxspec.specs.Tiles.{tile_count}
use Rattle.tileblock.specs.Surface.{Surface, IsWhole, pixel_of}
use Rattle.binmem.specs.Lists.{no_words}
use Rattle.binner.specs.Compiled.{Compilation, MeansList}
use Rattle.binner.specs.Segments.{cut_items}
use Rattle.meaning.specs.Contexts.{pixels_after, result_after, result_at}

-- for each query the count of its last issue that ran
pub record Outputs : Type 0 where
  pub surface : Surface
  pub results : List (Option ℕ)

-- no block is out, there is a result for each query, and the bins that wait are empty
pub record IsOutput (surface : Surface) (results : List (Option ℕ)) (waiting : Option (List (List ℕ))) : Type 0 where
  pub whole : IsWhole surface
  pub many : length results ≡ 64
  pub empty : (bins : List (List ℕ)) → waiting ≡ Some bins → bins ≡ no_words (tile_count surface.size)

-- the commands of a list that are performed under these results
abbrev pub performed_over : Outputs → List Command → List Command
performed_over o list = performed (λ q. result_of (result_at o.results q)) list

-- the items of segments of lists, one behind the other; none of these begins a query, so the stored results tell what is performed
abbrev pub cut_over : Outputs → List (List Command) → List Item
cut_over o segments = cut_items (λ q. result_of (result_at o.results q)) segments

-- a list ran
pub record HasRun (list : List Command) (old new : Outputs) : Type 0 where
  pub size : new.surface.size ≡ old.surface.size
  pub pixels : (x y : ℕ) → x < old.surface.size.width → y < old.surface.size.height → pixel_of new.surface x y ≡ pixels_after (performed_over old list) (pixel_of old.surface) x y
  pub results : (q : ℕ) → q < QUERY_LIMIT → result_at new.results q ≡ result_after old.surface.size (performed_over old list) (pixel_of old.surface) q (result_at old.results q)

-- a compilation of the list for the target, under the results
pub record IsCompiled (list : List Command) (o : Outputs) (c : Compilation) : Type 0 where
  pub size : c.size ≡ o.surface.size
  pub issues : c.issues ≡ length (issues list)
  pub means : MeansList (performed_over o list) c
