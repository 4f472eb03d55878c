-- When a call is refused: of each call its rows, a refusal and its test, in the order in which they are looked at (this project's own; the numbers stand in `Error`).
use Rattle.std.specs.Prelude.{ℕ, ◌+◌, ◌≡◌, ◌⊎◌, ℤ, pos, ◌+ℤ◌, int_le, int_lt, unsigned_abs, nat_lt, nat_le, ◌==◌, Bool, false, not, ◌&&◌, ◌||◌, List, [], ◌∷◌, ◌++◌, length, Option, Some, None, is_none, Result, Ok, Err, if◌then◌else◌}
use Rattle.std.specs.List.{list_any, list_all}
use Rattle.gfxspec.specs.declared.TheConstants.{SIDE_LIMIT, DEPTH_MAX, BUFFER_LIMIT, LIST_LIMIT, QUERY_LIMIT, ISSUE_LIMIT, WORKER_LIMIT}
use Rattle.gfxspec.specs.declared.error.GfxError.{GfxError}
use Rattle.gfxspec.specs.declared.error.GfxError.TheVariants.{OutOfMemory, VertexRange, VertexCount, DrawRange, IndexRange, TopologyUnset, ScissorRect, QueryOpen, QueryNotOpen, QueryNumber, QueryLeftOpen, ListTooLong, TooManyIssues, PixelRange, WorkerCount, NotIssued, PredicateInList}
use Rattle.gfxspec.specs.declared.geometry.PixelRect.{PixelRect}
use Rattle.gfxspec.specs.declared.geometry.Size.{Size}
use Rattle.gfxspec.specs.declared.geometry.Vertex.{Vertex}
use Rattle.gfxspec.specs.declared.state.Topology.{Topology}
use Rattle.gfxspec.specs.declared.state.Topology.TheVariants.{TriangleList, TriangleStrip}
use Rattle.gfxspec.specs.State.{Settings}
use Rattle.gfxspec.specs.Assembly.{is_cut, part, draw_primitives, draw_indexed_primitives}
use Rattle.gfxspec.specs.Commands.{Command, SetVertices, SetIndices, SetScissor, SetPredication, Draw, DrawIndexed, ClearDepthStencil, Begin, End, Kept}
use Rattle.gfxspec.specs.Recorded.{settings_after, queries_open, queries_named, issues, triangle_count}

-- a refusal, and whether it applies
abbrev pub Row : Type 0
Row = GfxError × Bool

-- the first row that applies
abbrev pub first_row : List Row → Option GfxError
first_row [] = None
first_row (row ∷ rows) = if row.1 then Some row.0 else first_row rows

-- the rows of a call gave its answer: it is refused by the first that applies, and if none does, for want of memory alone
abbrev pub AnswersBy : {T : Type 0} → List Row → Result T GfxError → Type 0
AnswersBy rows (Ok x) = first_row rows ≡ None
AnswersBy rows (Err e) = (first_row rows ≡ Some e) ⊎ ((first_row rows ≡ None) × (e ≡ OutOfMemory))

abbrev pub is_among : ℕ → List ℕ → Bool
is_among q qs = list_any (λ p. p == q) qs

-- a vertex whose position and depth are in range
abbrev pub is_in_range : Vertex → Bool
is_in_range v = nat_le (unsigned_abs v.x) 268435456 && (nat_le (unsigned_abs v.y) 268435456 && nat_le v.z DEPTH_MAX)

-- out of order, or beyond what a target may have
abbrev pub is_bad_scissor : PixelRect → Bool
is_bad_scissor r =
    nat_lt r.right r.left || (nat_lt r.bottom r.top || (nat_lt SIDE_LIMIT r.right || nat_lt SIDE_LIMIT r.bottom))

-- an index with the base is a vertex
abbrev pub names_vertex : ℕ → ℤ → ℕ → Bool
names_vertex count base index = int_le (pos 0) (pos index +ℤ base) && int_lt (pos index +ℤ base) (pos count)

-- Each index of a list is used; of a strip each but the cuts.
abbrev pub is_used_well : Option Topology → ℕ → ℤ → ℕ → Bool
is_used_well None count base index = names_vertex count base index
is_used_well (Some TriangleList) count base index = names_vertex count base index
is_used_well (Some TriangleStrip) count base index = is_cut index || names_vertex count base index

abbrev pub are_used_well : Settings → ℤ → List ℕ → Bool
are_used_well s base indices = list_all (is_used_well s.topology (length s.vertices) base) indices

-- a predicate by a query that is none
abbrev pub is_bad_predicate : Option (ℕ × Bool) → Bool
is_bad_predicate None = false
is_bad_predicate (Some (query, value)) = nat_le QUERY_LIMIT query

-- a predicate by a query that a list begins
abbrev pub is_begun_predicate : List Command → Option (ℕ × Bool) → Bool
is_begun_predicate list None = false
is_begun_predicate list (Some (query, value)) = is_among query (issues list)

-- one more command, and its triangles, are too many
abbrev pub too_long : List Command → ℕ → Row
too_long list triangles =
    (ListTooLong, nat_lt LIST_LIMIT (length list + 1) || nat_lt LIST_LIMIT (triangle_count list + triangles))

-- a command behind those of a list, with these settings and open queries; the kept state is no call
abbrev pub command_rows : List Command → Settings → List ℕ → Command → List Row
command_rows list s opened (SetVertices vertices) =
    (VertexCount, nat_lt BUFFER_LIMIT (length vertices)) ∷ (VertexRange, not (list_all is_in_range vertices)) ∷ too_long list 0 ∷ []
command_rows list s opened (SetIndices indices) = (VertexCount, nat_lt BUFFER_LIMIT (length indices)) ∷ too_long list 0 ∷ []
command_rows list s opened (SetScissor scissor) = (ScissorRect, is_bad_scissor scissor) ∷ too_long list 0 ∷ []
command_rows list s opened (SetPredication predicate) =
    (QueryNumber, is_bad_predicate predicate) ∷ (PredicateInList, is_begun_predicate list predicate) ∷ too_long list 0 ∷ []
command_rows list s opened (Draw count start) =
    (TopologyUnset, is_none s.topology) ∷ (DrawRange, nat_lt (length s.vertices) (start + count))
    ∷ too_long list (length (draw_primitives s count start)) ∷ []
command_rows list s opened (DrawIndexed count start base) =
    (TopologyUnset, is_none s.topology) ∷ (DrawRange, nat_lt (length s.indices) (start + count))
    ∷ (IndexRange, not (are_used_well s base (part count start s.indices)))
    ∷ too_long list (length (draw_indexed_primitives s count start base)) ∷ []
command_rows list s opened (ClearDepthStencil depth stencil) = (VertexRange, nat_lt DEPTH_MAX depth) ∷ too_long list 0 ∷ []
command_rows list s opened (Begin query) =
    (QueryNumber, nat_le QUERY_LIMIT query) ∷ (QueryOpen, is_among query opened)
    ∷ (PredicateInList, is_among query (queries_named list)) ∷ (TooManyIssues, nat_le ISSUE_LIMIT (length (issues list))) ∷ too_long list 0 ∷ []
command_rows list s opened (End query) =
    (QueryNumber, nat_le QUERY_LIMIT query) ∷ (QueryNotOpen, not (is_among query opened)) ∷ too_long list 0 ∷ []
command_rows list s opened (Kept settings) = []
command_rows list s opened c = too_long list 0 ∷ []

-- a command behind those of a list of its own
abbrev pub list_rows : List Command → Command → List Row
list_rows list c = command_rows list (settings_after list) (queries_open list) c

abbrev pub some_open : List ℕ → Bool
some_open opened = not (length opened == 0)

abbrev pub finish_rows : List Command → List Row
finish_rows list = (QueryLeftOpen, some_open (queries_open list)) ∷ []

-- Calls of the immediate context that run the pending commands. `crew` has the rows on who runs them: none where the caller does alone.
abbrev pub worker_rows : ℕ → List Row
worker_rows workers = (WorkerCount, nat_lt WORKER_LIMIT workers) ∷ []

abbrev pub flush_rows_by : List Row → List ℕ → List Row
flush_rows_by crew opened = (QueryOpen, some_open opened) ∷ crew

abbrev pub pixel_rows_by : List Row → Size → List ℕ → ℕ → ℕ → List Row
pixel_rows_by crew size opened x y =
    (PixelRange, not (nat_lt x size.width && nat_lt y size.height)) ∷ flush_rows_by crew opened

-- `last` is the last ended issue of the query
abbrev pub query_rows_by : List Row → List ℕ → Option ℕ → ℕ → List Row
query_rows_by crew opened last query =
    (QueryNumber, nat_le QUERY_LIMIT query) ∷ flush_rows_by crew opened ++ (NotIssued, is_none last) ∷ []

abbrev pub flush_rows : List ℕ → List Row
flush_rows opened = flush_rows_by [] opened

abbrev pub pixel_rows : Size → List ℕ → ℕ → ℕ → List Row
pixel_rows size opened x y = pixel_rows_by [] size opened x y

abbrev pub query_rows : List ℕ → Option ℕ → ℕ → List Row
query_rows opened last query = query_rows_by [] opened last query
