-- What a recorded list means: its settings found by looking back, its issues, its items (Microsoft Learn, "Command List", ID3D11DeviceContext::FinishCommandList; Direct3D 11.3 Functional Specification, "Asynchronous Notification": begin and end of a query).
use Rattle.std.specs.Prelude.{ℕ, ◌+◌, ◌==◌, Bool, true, false, List, [], ◌∷◌, ◌++◌, map, Option, Some, None, option_map, filter_map, count_by, if◌then◌else◌}
use Rattle.std.specs.List.{list_any}
use Rattle.gfxspec.specs.declared.geometry.Vertex.{Vertex}
use Rattle.gfxspec.specs.declared.geometry.PixelRect.{PixelRect}
use Rattle.gfxspec.specs.declared.state.Topology.{Topology}
use Rattle.gfxspec.specs.DepthStencil.{DepthStencilSetting}
use Rattle.gfxspec.specs.Color.{BlendSetting}
use Rattle.gfxspec.specs.State.{RasterSetting, Settings, default_raster, default_scissor, default_depth_stencil, default_blend}
use Rattle.gfxspec.specs.Assembly.{Primitive, draw_primitives, draw_indexed_primitives}
use Rattle.gfxspec.specs.Items.{Item, Drawn, ColorCleared, DepthStencilCleared}
use Rattle.gfxspec.specs.Commands.{Command, SetVertices, SetIndices, SetTopology, SetRaster, SetScissor, SetDepthStencil, SetBlend, SetPredication, Draw, DrawIndexed, ClearColor, ClearDepthStencil, Begin, End, Kept}

-- ---- settings: that of the nearest earlier command which sets the kind, else the default

abbrev pub vertices_set : Command → Option (List Vertex)
vertices_set (SetVertices vertices) = Some vertices
vertices_set (Kept s) = Some s.vertices
vertices_set c = None

abbrev pub indices_set : Command → Option (List ℕ)
indices_set (SetIndices indices) = Some indices
indices_set (Kept s) = Some s.indices
indices_set c = None

abbrev pub topology_set : Command → Option (Option Topology)
topology_set (SetTopology topology) = Some (Some topology)
topology_set (Kept s) = Some s.topology
topology_set c = None

abbrev pub raster_set : Command → Option RasterSetting
raster_set (SetRaster raster) = Some raster
raster_set (Kept s) = Some s.raster
raster_set c = None

abbrev pub scissor_set : Command → Option PixelRect
scissor_set (SetScissor scissor) = Some scissor
scissor_set (Kept s) = Some s.scissor
scissor_set c = None

abbrev pub depth_stencil_set : Command → Option DepthStencilSetting
depth_stencil_set (SetDepthStencil depth_stencil reference) = Some depth_stencil
depth_stencil_set (Kept s) = Some s.depth_stencil
depth_stencil_set c = None

abbrev pub reference_set : Command → Option ℕ
reference_set (SetDepthStencil depth_stencil reference) = Some reference
reference_set (Kept s) = Some s.reference
reference_set c = None

abbrev pub blend_set : Command → Option BlendSetting
blend_set (SetBlend blend) = Some blend
blend_set (Kept s) = Some s.blend
blend_set c = None

abbrev pub predicate_set : Command → Option (Option (ℕ × Bool))
predicate_set (SetPredication predicate) = Some predicate
predicate_set (Kept s) = Some s.predicate
predicate_set c = None

-- the last of some values, else a default
abbrev pub last_or : {A : Type 0} → A → List A → A
last_or d [] = d
last_or d (x ∷ xs) = last_or x xs

abbrev pub nearest : {A : Type 0} → (Command → Option A) → A → List Command → A
nearest set default earlier = last_or default (filter_map set earlier)

-- the settings behind some commands
abbrev pub settings_after : List Command → Settings
settings_after earlier =
    record {
      vertices = nearest vertices_set [] earlier;
      indices = nearest indices_set [] earlier;
      topology = nearest topology_set None earlier;
      raster = nearest raster_set default_raster earlier;
      scissor = nearest scissor_set default_scissor earlier;
      depth_stencil = nearest depth_stencil_set default_depth_stencil earlier;
      reference = nearest reference_set 0 earlier;
      blend = nearest blend_set default_blend earlier;
      predicate = nearest predicate_set None earlier;
    }

-- ---- issues: issue k is the k-th `Begin`, counted from 0

abbrev pub query_begun : Command → Option ℕ
query_begun (Begin query) = Some query
query_begun c = None

-- the query of each issue
abbrev pub issues : List Command → List ℕ
issues commands = filter_map query_begun commands

-- the query by which a command sets a predicate; the kept state's command too
abbrev pub query_named : Command → Option ℕ
query_named (SetPredication predicate) = option_map (λ p. p.0) predicate
query_named (Kept s) = option_map (λ p. p.0) s.predicate
query_named c = None

-- the queries by which commands set predicates
abbrev pub queries_named : List Command → List ℕ
queries_named commands = filter_map query_named commands

abbrev pub ends : ℕ → Command → Bool
ends q (End query) = query == q
ends q c = false

-- the issues from number k on whose `Begin` stands here and whose query no later command here ends
abbrev pub open_from : ℕ → List Command → List ℕ
open_from k [] = []
open_from k (Begin q ∷ cs) = if list_any (ends q) cs then open_from (k + 1) cs else k ∷ open_from (k + 1) cs
open_from k (c ∷ cs) = open_from k cs

-- the issues that are open behind some commands
abbrev pub open_after : List Command → List ℕ
open_after earlier = open_from 0 earlier

-- the queries that are open behind some commands
abbrev pub queries_open : List Command → List ℕ
queries_open [] = []
queries_open (Begin q ∷ cs) = if list_any (ends q) cs then queries_open cs else q ∷ queries_open cs
queries_open (c ∷ cs) = queries_open cs

-- ---- items

abbrev pub drawn_items : Settings → List ℕ → List Primitive → List Item
drawn_items s opened primitives = map (λ p. Drawn p s opened) primitives

-- the items of a command under these settings, with these issues open
abbrev pub items_at : Settings → List ℕ → Command → List Item
items_at s opened (Draw count start) = drawn_items s opened (draw_primitives s count start)
items_at s opened (DrawIndexed count start base) = drawn_items s opened (draw_indexed_primitives s count start base)
items_at s opened (ClearColor rgba) = ColorCleared rgba ∷ []
items_at s opened (ClearDepthStencil depth stencil) = DepthStencilCleared depth stencil ∷ []
items_at s opened c = []

-- the items of commands behind earlier ones; `begun` has the commands that ran before the list, which number its issues
abbrev pub items_behind : List Command → List Command → List Command → List Item
items_behind begun earlier [] = []
items_behind begun earlier (c ∷ cs) =
    items_at (settings_after earlier) (open_after (begun ++ earlier)) c ++ items_behind begun (earlier ++ c ∷ []) cs

-- the items of a list
abbrev pub items : List Command → List Item
items commands = items_behind [] [] commands

-- the triangles that count towards the limit of a list: culled and empty ones too
abbrev pub is_drawn : Item → Bool
is_drawn (Drawn p s opened) = true
is_drawn item = false

abbrev pub triangle_count : List Command → ℕ
triangle_count commands = count_by is_drawn (items commands)

-- a draw or a clear, which changes pixels
abbrev pub is_drawing : Command → Bool
is_drawing (Draw count start) = true
is_drawing (DrawIndexed count start base) = true
is_drawing (ClearColor rgba) = true
is_drawing (ClearDepthStencil depth stencil) = true
is_drawing c = false

-- what a finish leaves for the next list: one command that sets all kinds, or nothing
abbrev pub after_finish : Bool → List Command → List Command
after_finish true commands = Kept (settings_after commands) ∷ []
after_finish false commands = []
