-- Worked rows of limits, assembly, tiles, refusals, lists and sessions, each computed.
use Rattle.std.proofs.Common.{◌≡◌, refl, ℕ, Bool, true, false, List, [], ◌∷◌, ◌++◌, length}
use Rattle.std.specs.Prelude.{pos, negsuc, Option, Some, None, replicate}
use Rattle.std.specs.List.{flat_map}
use Rattle.gfxspec.specs.declared.TheConstants.{COORDINATE_LIMIT, DEPTH_MAX, SIDE_LIMIT, BUFFER_LIMIT, LIST_LIMIT, QUERY_LIMIT, ISSUE_LIMIT, TILE_SIDE, STRIP_CUT}
use Rattle.gfxspec.specs.declared.error.GfxError.{GfxError}
use Rattle.gfxspec.specs.declared.error.GfxError.TheVariants as E
use Rattle.gfxspec.specs.declared.geometry.Vertex.{Vertex}
use Rattle.gfxspec.specs.declared.geometry.Size.{Size}
use Rattle.gfxspec.specs.declared.state.Cull.TheVariants as C
use Rattle.gfxspec.specs.declared.state.Topology.{Topology}
use Rattle.gfxspec.specs.declared.state.Topology.TheVariants.{TriangleList, TriangleStrip}
use Rattle.gfxspec.specs.Limits.{is_size}
use Rattle.gfxspec.specs.Depth.{biased}
use Rattle.gfxspec.specs.State.{defaults, default_raster}
use Rattle.gfxspec.specs.Items.{Drawn, opening, after_items, issue_count}
use Rattle.gfxspec.specs.Commands.{Command, SetVertices, SetIndices, SetTopology, SetRaster, SetScissor, SetPredication, Draw, DrawIndexed, ClearColor, ClearDepthStencil, Begin, End}
use Rattle.gfxspec.specs.Recorded.{items, triangle_count, after_finish}
use Rattle.gfxspec.specs.Session.{Step, Records, Executes, Flushes, items_of_session, settings_now, last_issue, pending}
use Rattle.gfxspec.specs.Predication.{performed, performed_session, results_behind}
use Rattle.gfxspec.specs.Refusals.{first_row, list_rows, finish_rows, worker_rows, flush_rows, flush_rows_by, pixel_rows, query_rows, query_rows_by}
use Rattle.gfxspec.specs.Tiles.{tile_count, tile_of, tile_rect}
use Rattle.gfxspec.proofs.Vectors.{at, grey, upper_left, count_of}

limits : (COORDINATE_LIMIT ≡ pos 268435456) × (DEPTH_MAX ≡ 16777215) × (SIDE_LIMIT ≡ 4096) × (BUFFER_LIMIT ≡ 65536) × (LIST_LIMIT ≡ 65536) × (QUERY_LIMIT ≡ 64) × (ISSUE_LIMIT ≡ 64) × (TILE_SIDE ≡ 32) × (STRIP_CUT ≡ 65535)
limits = (refl, refl, refl, refl, refl, refl, refl, refl, refl)

abbrev of_size : ℕ → ℕ → Size
of_size width height = record { width = width; height = height }

sizes : (is_size (of_size 1 1) ≡ true) × (is_size (of_size 4096 4096) ≡ true) × (is_size (of_size 4097 1) ≡ false) × (is_size (of_size 1 0) ≡ false)
sizes = (refl, refl, refl, refl)

four_tiles : (tile_count (of_size 33 33) ≡ 4) × (tile_of (of_size 33 33) 31 32 ≡ 2) × (tile_rect (of_size 33 33) 3 ≡ record { left = 32; top = 32; right = 33; bottom = 33 }) × (tile_count (of_size 4096 4096) ≡ 16384)
four_tiles = (refl, refl, refl, refl)

-- ---- assembly

-- the corners of a square of 4 pixels in the order of a strip, and the two halves with a cut between them
abbrev square : Topology → List Command
square topology =
    SetVertices (at 0 0 0 (grey 1) ∷ at 4 0 0 (grey 2) ∷ at 0 4 0 (grey 3) ∷ at 4 4 0 (grey 4) ∷ [])
    ∷ SetIndices (0 ∷ 1 ∷ 2 ∷ 65535 ∷ 1 ∷ 3 ∷ 2 ∷ []) ∷ SetTopology topology ∷ []

abbrev counted : List Command → ℕ
counted commands = issue_count 0 (items (Begin 0 ∷ commands)) 4 4 (λ x y. opening)

strip : (counted (square TriangleStrip ++ Draw 4 0 ∷ []) ≡ 16) × ((after_items (items (square TriangleStrip ++ Draw 4 0 ∷ [])) 3 0 opening).rgba ≡ grey 2)
strip = (refl, refl)

cut_strip : counted (square TriangleStrip ++ DrawIndexed 7 0 (pos 0) ∷ []) ≡ 16
cut_strip = refl

-- ---- refusals

abbrev refused : List Command → Command → Option GfxError
refused list c = first_row (list_rows list c)

abbrev far : Vertex → Command
far v = SetVertices (v ∷ [])

vertices : (refused [] (far (record { x = pos 268435456; y = negsuc 268435455; z = 16777215; rgba = grey 0 })) ≡ None) × (refused [] (far (record { x = pos 268435457; y = pos 0; z = 0; rgba = grey 0 })) ≡ Some E.VertexRange) × (refused [] (far (record { x = pos 0; y = negsuc 268435456; z = 0; rgba = grey 0 })) ≡ Some E.VertexRange) × (refused [] (far (record { x = pos 0; y = pos 0; z = 16777216; rgba = grey 0 })) ≡ Some E.VertexRange)
vertices = (refl, refl, refl, refl)

draws : (refused [] (Draw 3 0) ≡ Some E.TopologyUnset) × (refused (square TriangleList) (Draw 4 1) ≡ Some E.DrawRange) × (refused (square TriangleList) (Draw 0 4) ≡ None)
draws = (refl, refl, refl)

-- a cut is an ordinary index of a list
indexed_draws : (refused (square TriangleList) (DrawIndexed 7 0 (pos 0)) ≡ Some E.IndexRange) × (refused (square TriangleStrip) (DrawIndexed 7 0 (pos 0)) ≡ None) × (refused (square TriangleList) (DrawIndexed 3 4 (pos 1)) ≡ Some E.IndexRange) × (refused (square TriangleList) (DrawIndexed 3 4 (negsuc 1)) ≡ Some E.IndexRange) × (refused (square TriangleList) (DrawIndexed 3 4 (negsuc 0)) ≡ None) × (refused (square TriangleList) (DrawIndexed 7 1 (pos 0)) ≡ Some E.DrawRange)
indexed_draws = (refl, refl, refl, refl, refl, refl)

abbrev to : ℕ → ℕ → Command
to left right = SetScissor (record { left = left; top = 0; right = right; bottom = 4096 })

scissors : (refused [] (to 0 4096) ≡ None) × (refused [] (to 0 4097) ≡ Some E.ScissorRect) × (refused [] (to 7 7) ≡ None) × (refused [] (to 8 7) ≡ Some E.ScissorRect)
scissors = (refl, refl, refl, refl)

clears : (refused [] (ClearDepthStencil 16777215 255) ≡ None) × (refused [] (ClearDepthStencil 16777216 0) ≡ Some E.VertexRange)
clears = (refl, refl)

-- so many issues, begun and ended
abbrev issued : ℕ → List Command
issued n = flat_map (λ q. Begin q ∷ End q ∷ []) (replicate n 0)

queries : (refused [] (Begin 63) ≡ None) × (refused [] (Begin 64) ≡ Some E.QueryNumber) × (refused (Begin 0 ∷ []) (Begin 0) ≡ Some E.QueryOpen) × (refused (Begin 0 ∷ []) (End 1) ≡ Some E.QueryNotOpen) × (refused (Begin 0 ∷ []) (End 0) ≡ None) × (refused (issued 63) (Begin 0) ≡ None) × (refused (issued 64) (Begin 0) ≡ Some E.TooManyIssues)
queries = (refl, refl, refl, refl, refl, refl, refl)

ends : (first_row (finish_rows (Begin 0 ∷ [])) ≡ Some E.QueryLeftOpen) × (first_row (finish_rows (issued 1)) ≡ None) × (first_row (flush_rows (0 ∷ [])) ≡ Some E.QueryOpen) × (first_row (pixel_rows (of_size 4 4) [] 3 3) ≡ None) × (first_row (pixel_rows (of_size 4 4) (0 ∷ []) 4 0) ≡ Some E.PixelRange) × (first_row (query_rows (0 ∷ []) None 64) ≡ Some E.QueryNumber) × (first_row (query_rows [] None 0) ≡ Some E.NotIssued)
ends = (refl, refl, refl, refl, refl, refl, refl)

-- an open query is refused before too many workers, and these before a query that has no result
by_workers : (first_row (flush_rows_by (worker_rows 16) (0 ∷ [])) ≡ Some E.QueryOpen) × (first_row (flush_rows_by (worker_rows 16) []) ≡ Some E.WorkerCount) × (first_row (flush_rows_by (worker_rows 15) []) ≡ None) × (first_row (query_rows_by (worker_rows 16) [] None 0) ≡ Some E.WorkerCount) × (first_row (query_rows_by (worker_rows 15) [] None 0) ≡ Some E.NotIssued)
by_workers = (refl, refl, refl, refl, refl)

-- a full list takes no command, and one of as many triangles as it may have takes a clear
full : (list : List Command) → length list ≡ 65536 → refused list (ClearColor (grey 0)) ≡ Some E.ListTooLong
full list h = rw h refl

last_one : (list : List Command) → length list ≡ 65535 → triangle_count list ≡ 65536 → refused list (ClearColor (grey 0)) ≡ None
last_one list h k = rw h (rw k refl)

-- ---- sessions

abbrev turned : List Command
turned = SetVertices (at 0 0 0 (grey 9) ∷ at 0 4 0 (grey 9) ∷ at 4 0 0 (grey 9) ∷ []) ∷ SetTopology TriangleList ∷ []

abbrev asked : List Command
asked = Begin 0 ∷ Draw 3 0 ∷ End 0 ∷ []

abbrev recorded : List Command → List Step
recorded commands = flat_map (λ c. Records c ∷ []) commands

-- the immediate context culls nothing, and executes a list that culls by default
abbrev executed : Bool → List Step
executed restore =
    recorded (turned ++ SetRaster (record default_raster { cull = C.None }) ∷ []) ++ Executes (turned ++ asked) restore ∷ []

abbrev session_count : ℕ → List Step → ℕ
session_count issue steps = issue_count issue (items_of_session steps) 4 4 (λ x y. opening)

list_inherits_nothing : (session_count 0 (executed true ++ recorded asked) ≡ 0) × (session_count 1 (executed true ++ recorded asked) ≡ 6) × (last_issue 0 (executed true ++ recorded asked) ≡ Some 1) × (last_issue 1 (executed true) ≡ None)
list_inherits_nothing = (refl, refl, refl, refl)

nothing_restored : (settings_now (executed false) ≡ defaults) × (refused (pending (executed false)) (Draw 3 0) ≡ Some E.TopologyUnset)
nothing_restored = (refl, refl)

-- a flush leaves the kept settings, which count as one command
counts_begin_anew : (length (pending (recorded asked ++ Flushes ∷ [])) ≡ 1) × (length (pending (executed true ++ recorded asked)) ≡ 4) × (length (pending (executed false)) ≡ 0)
counts_begin_anew = (refl, refl, refl)

-- ---- depth bias

biases : (biased (negsuc 2) 1 ≡ 0) × (biased (negsuc 2) 6 ≡ 3) × (biased (pos 16777215) 1 ≡ 16777215) × (count_of (Drawn upper_left (record defaults { raster = record default_raster { depth_bias = pos 16777215 } }) (0 ∷ []) ∷ []) ≡ 0)
biases = (refl, refl, refl, refl)

-- ---- predication

-- a triangle that covers 6 pixels
abbrev halves : List Command
halves = SetVertices (at 0 0 0 (grey 9) ∷ at 4 0 0 (grey 9) ∷ at 0 4 0 (grey 9) ∷ []) ∷ SetTopology TriangleList ∷ []

abbrev predicated : ℕ → Bool → Command
predicated q value = SetPredication (Some (q, value))

-- the steps that are performed on 4 by 4 pixels, and what a session of them leaves
abbrev left : List Step → List Step
left steps = performed_session (of_size 4 4) steps

abbrev left_pixel : List Step → ℕ → ℕ → List ℕ
left_pixel steps x y = (after_items (items_of_session (left steps)) x y opening).rgba

abbrev left_count : ℕ → List Step → ℕ
left_count issue steps = session_count issue (left steps)

-- query 0 counted, and it ran
abbrev counted_first : List Step
counted_first = recorded (halves ++ asked) ++ Flushes ∷ []

abbrev cleared : Bool → ℕ → List Step
cleared value n = recorded (predicated 0 value ∷ ClearColor (grey n) ∷ []) ++ Flushes ∷ []

-- a clear is dropped where the result is the value, and performed where it isn't
dropped_and_not : (left_pixel (counted_first ++ cleared true 1) 0 0 ≡ grey 9) × (left_pixel (counted_first ++ cleared false 1) 0 0 ≡ grey 1) × (left_pixel (counted_first ++ cleared true 1 ++ cleared false 2) 0 0 ≡ grey 2)
dropped_and_not = (refl, refl, refl)

-- a query without an issue is FALSE
never_issued : (left_pixel (cleared true 1) 3 3 ≡ grey 1) × (left_pixel (cleared false 1) 3 3 ≡ grey 0)
never_issued = (refl, refl)

-- only the last ended issue tells, and one that is open doesn't yet
last_ended_tells : (results_behind (of_size 4 4) counted_first 0 ≡ true) × (results_behind (of_size 4 4) (counted_first ++ recorded asked) 0 ≡ false) × (results_behind (of_size 4 4) (counted_first ++ recorded (Begin 0 ∷ [])) 0 ≡ true) × (results_behind (of_size 4 4) (recorded (halves ++ Begin 0 ∷ Draw 3 0 ∷ [])) 0 ≡ false)
last_ended_tells = (refl, refl, refl, refl)

-- a list is executed twice, round a change of the result
abbrev clearing : List Command
clearing = predicated 0 true ∷ ClearColor (grey 7) ∷ []

executed_twice : (left_pixel (Executes clearing true ∷ []) 3 3 ≡ grey 7) × (left (Executes clearing true ∷ counted_first ++ Executes clearing true ∷ []) ≡ Executes clearing true ∷ counted_first ++ Executes (predicated 0 true ∷ []) true ∷ [])
executed_twice = (refl, refl)

-- a list has none of the predicate of the immediate context, which goes on behind it
not_inherited : left (counted_first ++ recorded (predicated 0 true ∷ []) ++ Executes (ClearColor (grey 3) ∷ []) true ∷ recorded (ClearColor (grey 4) ∷ [])) ≡ counted_first ++ recorded (predicated 0 true ∷ []) ++ Executes (ClearColor (grey 3) ∷ []) true ∷ []
not_inherited = refl

-- the kept state has the predicate, and no execution that doesn't restore leaves it
kept_on : (performed (λ q. true) (after_finish true clearing ++ ClearColor (grey 3) ∷ []) ≡ after_finish true clearing) × (left (counted_first ++ recorded (predicated 0 true ∷ []) ++ Executes [] false ∷ recorded (ClearColor (grey 4) ∷ [])) ≡ counted_first ++ recorded (predicated 0 true ∷ []) ++ Executes [] false ∷ recorded (ClearColor (grey 4) ∷ []))
kept_on = (refl, refl)

-- an issue of which each draw is dropped ends with count 0, and so tells FALSE
abbrev dropped_issue : List Step
dropped_issue = recorded (halves ++ predicated 1 false ∷ asked)

dropped_issue_ends : (left dropped_issue ≡ recorded (halves ++ predicated 1 false ∷ Begin 0 ∷ End 0 ∷ [])) × (left_count 0 dropped_issue ≡ 0) × (last_issue 0 (left dropped_issue) ≡ Some 0) × (results_behind (of_size 4 4) (left dropped_issue) 0 ≡ false)
dropped_issue_ends = (refl, refl, refl, refl)

-- dropped draws still count towards the limit of a list, and still are refused
dropped_draws_count : (triangle_count (halves ++ predicated 1 false ∷ Draw 3 0 ∷ []) ≡ 1) × (refused (predicated 1 false ∷ []) (Draw 3 0) ≡ Some E.TopologyUnset) × (refused (halves ++ predicated 1 false ∷ []) (Draw 3 1) ≡ Some E.DrawRange)
dropped_draws_count = (refl, refl, refl)

-- no list both begins a query and names it in a predicate; an issue that has ended counts, and so does the kept state
apart : (refused [] (predicated 63 true) ≡ None) × (refused [] (predicated 64 true) ≡ Some E.QueryNumber) × (refused asked (predicated 0 true) ≡ Some E.PredicateInList) × (refused asked (predicated 1 true) ≡ None) × (refused asked (SetPredication None) ≡ None) × (refused (predicated 0 true ∷ []) (Begin 0) ≡ Some E.PredicateInList) × (refused (predicated 0 true ∷ []) (Begin 1) ≡ None) × (refused (predicated 0 true ∷ SetPredication None ∷ []) (Begin 0) ≡ Some E.PredicateInList)
apart = (refl, refl, refl, refl, refl, refl, refl, refl)

-- behind a flush only the predicate that is kept is named
apart_behind_a_flush : (refused (pending counted_first) (predicated 0 true) ≡ None) × (refused (pending (recorded (predicated 0 true ∷ []) ++ Flushes ∷ [])) (Begin 0) ≡ Some E.PredicateInList) × (refused (pending (recorded (predicated 0 true ∷ SetPredication None ∷ []) ++ Flushes ∷ [])) (Begin 0) ≡ None) × (refused (pending (recorded (predicated 0 true ∷ []) ++ Executes [] false ∷ [])) (Begin 0) ≡ None)
apart_behind_a_flush = (refl, refl, refl, refl)

-- in the order of the rows
predicates_in_order : (refused (issued 64) (predicated 0 true) ≡ Some E.PredicateInList) × (refused (predicated 1 true ∷ issued 64) (Begin 1) ≡ Some E.PredicateInList) × (refused (Begin 1 ∷ predicated 1 true ∷ []) (Begin 1) ≡ Some E.QueryOpen)
predicates_in_order = (refl, refl, refl)
