-- The table of commands: the word, who may use it, and its arguments; and of each verb its words, and the values that they may have. A command that comes in later is a row of each definition.
use Rattle.std.specs.Prelude.{ℕ, ℤ, pos, zero, ◌==◌, ◌<◌, ◌/◌, ◌%◌, Bool, true, false, ◌&&◌, not, List, [], ◌∷◌, ◌++◌, length, map, Option, Some, None, bytes_eq, codes, decimal, find, replicate, FitsSigned, if◌then◌else◌}
use Rattle.std.specs.List.{flat_map, AllByRecursion}
use Rattle.std.specs.Int.{w32}
use Rattle.std.specs.Fmt.{signed_decimal}
use Rattle.gfxspec.specs.declared.geometry.Vertex.{Vertex}
use Rattle.gfxspec.specs.declared.geometry.PixelRect.{PixelRect}
use Rattle.gfxspec.specs.Numbers.{cull_number, topology_number, compare_number, stencil_op_number, logic_op_number}
use Rattle.gfxspec.specs.DepthStencil.{FaceSetting, DepthStencilSetting}
use Rattle.gfxspec.specs.Color.{BlendSetting}
use Rattle.gfxspec.specs.State.{RasterSetting}
use Rattle.gfxspec.specs.Commands as gfx
use Rattle.scenetext.specs.Scene.{Verb, Call}
use Rattle.scenetext.specs.Scene as scene
use Rattle.scenetext.specs.declared.verbs.CommandWord.{CommandWord}
use Rattle.scenetext.specs.declared.verbs.CommandWord.TheVariants.{Vb, Ib, Topology, Raster, Scissor, Ds, Blend, Predicate, Draw, Drawi, Clearc, Cleards, Begin, End, Finish, Flush, Exec, Query, Pixel}
use Rattle.scenetext.specs.declared.range.Range.{Range}
use Rattle.scenetext.specs.declared.range.TheConstants.{U32, BYTE, FLAG, INDEX, TOPOLOGY, CULL, COMPARISON, STENCIL_OP, LOGIC_OP, COLOR_MASK}
use Rattle.scenetext.specs.Numbers.{Kind, NonZero, Context, i32s, context_word}
use Rattle.scenetext.specs.Ranges.{kinds, AreIn}

abbrev pub commands : List CommandWord
commands = Vb ∷ Ib ∷ Topology ∷ Raster ∷ Scissor ∷ Ds ∷ Blend ∷ Predicate ∷ Draw ∷ Drawi ∷ Clearc ∷ Cleards ∷ Begin ∷ End ∷ Finish ∷ Flush ∷ Exec ∷ Query ∷ Pixel ∷ []

abbrev pub name : CommandWord → List ℕ
name Vb = codes "vb"
name Ib = codes "ib"
name Topology = codes "topology"
name Raster = codes "raster"
name Scissor = codes "scissor"
name Ds = codes "ds"
name Blend = codes "blend"
name Predicate = codes "predicate"
name Draw = codes "draw"
name Drawi = codes "drawi"
name Clearc = codes "clearc"
name Cleards = codes "cleards"
name Begin = codes "begin"
name End = codes "end"
name Finish = codes "finish"
name Flush = codes "flush"
name Exec = codes "exec"
name Query = codes "query"
name Pixel = codes "pixel"

-- who may use a command: the immediate context (true) or a deferred one (false)
abbrev pub serves : CommandWord → Bool → Bool
serves Finish immediate = not immediate
serves Flush immediate = immediate
serves Exec immediate = immediate
serves Query immediate = immediate
serves Pixel immediate = immediate
serves command immediate = true

-- a face's three stencil operations (where the stencil test fails, where the depth test does, where both pass), and its comparison
abbrev pub face_ranges : List Range
face_ranges = STENCIL_OP ∷ STENCIL_OP ∷ STENCIL_OP ∷ COMPARISON ∷ []

-- the ranges of a command's natural numbers, in order: of one vertex behind its x and y, of one index, of `raster` before its bias, of `predicate` where it has any, of `drawi` before its base, of `exec` behind its context
abbrev pub ranges : CommandWord → List Range
ranges Vb = U32 ∷ BYTE ∷ BYTE ∷ BYTE ∷ BYTE ∷ []
ranges Ib = INDEX ∷ []
ranges Topology = TOPOLOGY ∷ []
ranges Raster = CULL ∷ FLAG ∷ FLAG ∷ []
ranges Scissor = U32 ∷ U32 ∷ U32 ∷ U32 ∷ []
ranges Ds = FLAG ∷ FLAG ∷ COMPARISON ∷ FLAG ∷ BYTE ∷ BYTE ∷ (face_ranges ++ (face_ranges ++ BYTE ∷ []))
ranges Blend = FLAG ∷ LOGIC_OP ∷ COLOR_MASK ∷ []
ranges Predicate = U32 ∷ FLAG ∷ []
ranges Draw = U32 ∷ U32 ∷ []
ranges Drawi = U32 ∷ U32 ∷ []
ranges Clearc = BYTE ∷ BYTE ∷ BYTE ∷ BYTE ∷ []
ranges Cleards = U32 ∷ BYTE ∷ []
ranges Begin = U32 ∷ []
ranges End = U32 ∷ []
ranges Finish = FLAG ∷ []
ranges Flush = []
ranges Exec = U32 ∷ FLAG ∷ []
ranges Query = U32 ∷ []
ranges Pixel = U32 ∷ U32 ∷ []

-- the arguments of a command: one of some lists of kinds, or any number of groups
pub data Shape : Type 0 where
  OneOf : (options : List (List Kind)) → Shape
  Groups : (kinds : List Kind) → Shape

-- x, y, z, red, green, blue and alpha of a vertex
abbrev pub vertex_kinds : List Kind
vertex_kinds = i32s ∷ i32s ∷ kinds (ranges Vb)

abbrev pub shape : CommandWord → Shape
shape Vb = Groups vertex_kinds
shape Ib = Groups (kinds (ranges Ib))
shape Raster = OneOf (kinds (ranges Raster) ∷ (kinds (ranges Raster) ++ NonZero ∷ []) ∷ [])
shape Predicate = OneOf ([] ∷ kinds (ranges Predicate) ∷ [])
shape Drawi = OneOf ((kinds (ranges Drawi) ++ i32s ∷ []) ∷ [])
shape Exec = OneOf ((Context ∷ kinds (ranges Exec)) ∷ [])
shape command = OneOf (kinds (ranges command) ∷ [])

-- the kinds of this many arguments, if there may be so many
abbrev pub kinds_of : Shape → ℕ → Option (List Kind)
kinds_of (OneOf options) n = find (λ ks. length ks == n) options
kinds_of (Groups ks) n = if n % length ks == 0 then Some (flat_map (λ k. k) (replicate (n / length ks) ks)) else None

abbrev pub is_named : List ℕ → Bool → CommandWord → Bool
is_named word immediate command = bytes_eq word (name command) && serves command immediate

-- the command of this word, if it is one of this kind of context
abbrev pub command_named : List ℕ → Bool → Option CommandWord
command_named word immediate = find (is_named word immediate) commands

-- ---- the arguments of a verb, and its words

-- a flag is a number, 0 or 1
abbrev pub flag_number : Bool → ℕ
flag_number false = 0
flag_number true = 1

abbrev pub vertex_words : Vertex → List (List ℕ)
vertex_words v = signed_decimal v.x ∷ signed_decimal v.y ∷ decimal v.z ∷ map decimal v.rgba

abbrev pub raster_numbers : RasterSetting → List ℕ
raster_numbers r = cull_number r.cull ∷ flag_number r.front_ccw ∷ flag_number r.scissor ∷ []

-- a bias of 0 is not spelled
abbrev pub bias_words : ℤ → List (List ℕ)
bias_words (pos zero) = []
bias_words bias = signed_decimal bias ∷ []

abbrev pub face_numbers : FaceSetting → List ℕ
face_numbers f = stencil_op_number f.fail ∷ stencil_op_number f.depth_fail ∷ stencil_op_number f.pass ∷ compare_number f.func ∷ []

abbrev pub depth_stencil_numbers : DepthStencilSetting → ℕ → List ℕ
depth_stencil_numbers s reference =
    flag_number s.depth ∷ flag_number s.write ∷ compare_number s.func ∷ flag_number s.stencil ∷ s.read_mask ∷ s.write_mask
    ∷ (face_numbers s.front ++ (face_numbers s.back ++ reference ∷ []))

abbrev pub blend_numbers : BlendSetting → List ℕ
blend_numbers b = flag_number b.logic ∷ logic_op_number b.op ∷ b.mask ∷ []

abbrev pub rect_numbers : PixelRect → List ℕ
rect_numbers r = r.left ∷ r.top ∷ r.right ∷ r.bottom ∷ []

-- a query and a value, or none
abbrev pub predicate_numbers : Option (ℕ × Bool) → List ℕ
predicate_numbers None = []
predicate_numbers (Some (query, value)) = query ∷ flag_number value ∷ []

-- the command word of a verb, and its arguments in order; kept settings have no word
abbrev pub verb_words : Verb → List (List ℕ)
verb_words (Call (gfx.SetVertices vertices)) = codes "vb" ∷ flat_map vertex_words vertices
verb_words (Call (gfx.SetIndices indices)) = codes "ib" ∷ map decimal indices
verb_words (Call (gfx.SetTopology topology)) = codes "topology" ∷ decimal (topology_number topology) ∷ []
verb_words (Call (gfx.SetRaster r)) = codes "raster" ∷ (map decimal (raster_numbers r) ++ bias_words r.depth_bias)
verb_words (Call (gfx.SetScissor r)) = codes "scissor" ∷ map decimal (rect_numbers r)
verb_words (Call (gfx.SetDepthStencil s reference)) = codes "ds" ∷ map decimal (depth_stencil_numbers s reference)
verb_words (Call (gfx.SetBlend b)) = codes "blend" ∷ map decimal (blend_numbers b)
verb_words (Call (gfx.SetPredication predicate)) = codes "predicate" ∷ map decimal (predicate_numbers predicate)
verb_words (Call (gfx.Draw count start)) = codes "draw" ∷ decimal count ∷ decimal start ∷ []
verb_words (Call (gfx.DrawIndexed count start base)) = codes "drawi" ∷ decimal count ∷ decimal start ∷ signed_decimal base ∷ []
verb_words (Call (gfx.ClearColor rgba)) = codes "clearc" ∷ map decimal rgba
verb_words (Call (gfx.ClearDepthStencil depth stencil)) = codes "cleards" ∷ decimal depth ∷ decimal stencil ∷ []
verb_words (Call (gfx.Begin query)) = codes "begin" ∷ decimal query ∷ []
verb_words (Call (gfx.End query)) = codes "end" ∷ decimal query ∷ []
verb_words (scene.Finish restore) = codes "finish" ∷ decimal (flag_number restore) ∷ []
verb_words scene.Flush = codes "flush" ∷ []
verb_words (scene.Execute context list restore) = codes "exec" ∷ context_word context ∷ decimal list ∷ decimal (flag_number restore) ∷ []
verb_words (scene.Query query) = codes "query" ∷ decimal query ∷ []
verb_words (scene.Pixel x y) = codes "pixel" ∷ decimal x ∷ decimal y ∷ []
verb_words v = []

-- who may take a verb: the immediate context (true) or a deferred one (false)
abbrev pub may_take : Verb → Bool → Bool
may_take (Call c) immediate = true
may_take (scene.Finish restore) immediate = not immediate
may_take v immediate = immediate

pub record IsVertex (v : Vertex) : Type 0 where
  pub x : FitsSigned w32 v.x
  pub y : FitsSigned w32 v.y
  pub others : AreIn (ranges Vb) (v.z ∷ v.rgba)

abbrev pub IsPredicate : Option (ℕ × Bool) → Type 0
IsPredicate None = Unit {0}
IsPredicate (Some (query, value)) = AreIn (ranges Predicate) (query ∷ flag_number value ∷ [])

-- the values that the arguments may have: numbers in the ranges of the command; kept settings have no spelling
abbrev pub IsVerb : Verb → Type 0
IsVerb (Call (gfx.SetVertices vertices)) = AllByRecursion IsVertex vertices
IsVerb (Call (gfx.SetIndices indices)) = AllByRecursion (λ i. AreIn (ranges Ib) (i ∷ [])) indices
IsVerb (Call (gfx.SetTopology topology)) = AreIn (ranges Topology) (topology_number topology ∷ [])
IsVerb (Call (gfx.SetRaster r)) = AreIn (ranges Raster) (raster_numbers r) × FitsSigned w32 r.depth_bias
IsVerb (Call (gfx.SetScissor r)) = AreIn (ranges Scissor) (rect_numbers r)
IsVerb (Call (gfx.SetDepthStencil s reference)) = AreIn (ranges Ds) (depth_stencil_numbers s reference)
IsVerb (Call (gfx.SetBlend b)) = AreIn (ranges Blend) (blend_numbers b)
IsVerb (Call (gfx.SetPredication predicate)) = IsPredicate predicate
IsVerb (Call (gfx.Draw count start)) = AreIn (ranges Draw) (count ∷ start ∷ [])
IsVerb (Call (gfx.DrawIndexed count start base)) = AreIn (ranges Drawi) (count ∷ start ∷ []) × FitsSigned w32 base
IsVerb (Call (gfx.ClearColor rgba)) = AreIn (ranges Clearc) rgba
IsVerb (Call (gfx.ClearDepthStencil depth stencil)) = AreIn (ranges Cleards) (depth ∷ stencil ∷ [])
IsVerb (Call (gfx.Begin query)) = AreIn (ranges Begin) (query ∷ [])
IsVerb (Call (gfx.End query)) = AreIn (ranges End) (query ∷ [])
IsVerb (scene.Finish restore) = AreIn (ranges Finish) (flag_number restore ∷ [])
IsVerb scene.Flush = Unit {0}
IsVerb (scene.Execute context list restore) = (context < 8) × AreIn (ranges Exec) (list ∷ flag_number restore ∷ [])
IsVerb (scene.Query query) = AreIn (ranges Query) (query ∷ [])
IsVerb (scene.Pixel x y) = AreIn (ranges Pixel) (x ∷ y ∷ [])
IsVerb v = ⊥
