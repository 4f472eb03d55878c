-- What one more command of a list, or one more step of a session, changes. The definitions (gfxspec) look back over all of them; these follow from them, as this crate proves.
use Rattle.std.specs.Prelude.{ℕ, Bool, true, if◌then◌else◌, ◌==◌, not, List, [], ◌∷◌, ◌++◌, length, filter, unwrap_or, slice_index_or}
use Rattle.gfxspec.specs.State.{Settings}
use Rattle.gfxspec.specs.Assembly.{draw_primitives, draw_indexed_primitives}
use Rattle.gfxspec.specs.Commands.{Command, Draw, DrawIndexed, Begin, End}
use Rattle.gfxspec.specs.Recorded.{vertices_set, indices_set, topology_set, raster_set, scissor_set, depth_stencil_set, reference_set, blend_set, predicate_set, items_at, after_finish}
use Rattle.gfxspec.specs.Items.{Item}
use Rattle.gfxspec.specs.Predication.{withholds}
use Rattle.gfxspec.specs.Session.{Step, Records, Executes, Flushes, all_seen}

-- settings with those kinds changed that a command sets
abbrev pub settings_with : Command → Settings → Settings
settings_with c s =
    record {
      vertices = unwrap_or (vertices_set c) s.vertices;
      indices = unwrap_or (indices_set c) s.indices;
      topology = unwrap_or (topology_set c) s.topology;
      raster = unwrap_or (raster_set c) s.raster;
      scissor = unwrap_or (scissor_set c) s.scissor;
      depth_stencil = unwrap_or (depth_stencil_set c) s.depth_stencil;
      reference = unwrap_or (reference_set c) s.reference;
      blend = unwrap_or (blend_set c) s.blend;
      predicate = unwrap_or (predicate_set c) s.predicate;
    }

-- how many triangles a command draws
abbrev pub triangles_of : Settings → Command → ℕ
triangles_of s (Draw count start) = length (draw_primitives s count start)
triangles_of s (DrawIndexed count start base) = length (draw_indexed_primitives s count start base)
triangles_of s c = 0

-- the items of a command, unless its predicate withholds them
abbrev pub performed_items : (ℕ → Bool) → Settings → List ℕ → Command → List Item
performed_items results s opened c = if withholds results s.predicate then [] else items_at s opened c

-- the open queries but this one
abbrev pub without : ℕ → List ℕ → List ℕ
without q open_queries = filter (λ p. not (q == p)) open_queries

-- the queries that are open after one more command
abbrev pub queries_with : Command → List ℕ → List ℕ
queries_with (Begin q) open_queries = open_queries ++ q ∷ []
queries_with (End q) open_queries = without q open_queries
queries_with c open_queries = open_queries

-- the issues that are open after one more command; `begun` has the query of each issue so far
abbrev pub open_with : List ℕ → Command → List ℕ → List ℕ
open_with begun (Begin q) open_issues = open_issues ++ length begun ∷ []
open_with begun (End q) open_issues = filter (λ k. not (q == slice_index_or begun k 0)) open_issues
open_with begun c open_issues = open_issues

-- the pending list behind one more step
abbrev pub pending_with : List Command → List Step → Step → List Command
pending_with list steps (Records c) = list ++ c ∷ []
pending_with list steps (Executes commands restore) = after_finish restore (all_seen steps)
pending_with list steps Flushes = after_finish true (all_seen steps)
