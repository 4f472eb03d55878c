-- Triangles that are made ready before any word is written.
use Rattle.std.specs.Prelude.{ℕ, ◌≡◌, ◌<◌, ◌⊎◌, false, List, [], ◌∷◌, ◌++◌, map, take, Option, Some, None, slice_get, IsTrue, IfSome}
use Rattle.std.specs.List.{flat_map, list_all}
use Rattle.std.specs.declared.vec.Vec.{Vec}
use Rattle.gfxspec.specs.declared.geometry.Size.{Size}
use Rattle.gfxspec.specs.Limits.{side_bound}
use Rattle.gfxspec.specs.State.{Settings}
use Rattle.gfxspec.specs.Assembly.{Primitive}
use Rattle.gfxspec.specs.Items.{reaches}
use Rattle.gfxspec.specs.Recorded.{settings_after}
use Rattle.gfxspec.specs.Refusals.{is_in_range}
use Rattle.assemble.specs.Drawing.{IsInRange, triangles_of}
use Rattle.command.specs.declared.command.Command.{Command as Code}
use Rattle.command.specs.Seen.{command_value}
use Rattle.binner.specs.declared.setup.TriSetup.{TriSetup}
use Rattle.binner.specs.declared.ahead.DrawSetups.{DrawSetups}
use Rattle.cmdlist.specs.Drawable.{drawn_by}
use Rattle.cmdlist.specs.declared.draws.Drawing.{Drawing}
use Rattle.cmdlist.specs.declared.draws.Drawing.TheVariants.{Triangles}
use Rattle.binner.specs.Meaning.{IsSetupOf}

-- the triangle reaches no pixel of a target of this size
abbrev pub ReachesNothing : Settings → Size → Primitive → Type 0
ReachesNothing s size p =
    (x y : ℕ) → x < side_bound → y < side_bound → x < size.width → y < size.height → reaches p s x y ≡ false

-- they are made of these triangles, in order, without some that reach nothing
abbrev pub AreSetups : Settings → Size → List Primitive → List TriSetup → Type 0
AreSetups s size [] ts = ts ≡ []
AreSetups s size (p ∷ ps) ts =
    (ReachesNothing s size p × AreSetups s size ps ts) ⊎ ((t : TriSetup) × (rest : List TriSetup) × (ts ≡ t ∷ rest) × IsSetupOf t p s × AreSetups s size ps rest)

-- the parts side by side
abbrev pub all_setups : {A : Type 0} → List (Vec TriSetup A) → List TriSetup
all_setups parts = flat_map (λ p. p.items) parts

-- the settings before a command of a list
abbrev pub settings_at : {A : Type 0} → List (Code A) → ℕ → Settings
settings_at cs place = settings_after (map command_value (take place cs))

-- the command at its place draws just these triangles
abbrev pub MatchesDraw : {A : Type 0} → List (Code A) → Size → DrawSetups A → Type 0
MatchesDraw {A = A} cs size a =
    (c : Code A) → slice_get cs a.place ≡ Some c → AreSetups (settings_at cs a.place) size (drawn_by (settings_at cs a.place) (command_value c)) (all_setups a.parts.items)

-- what is drawn has vertices in range, and its triangles are those of the parts, if it was set up already
abbrev pub IsSetUp : {A : Type 0} → Settings → Size → Option (Vec (Vec TriSetup A) A) → Drawing → Type 0
IsSetUp s size parts (Triangles draw) =
    IsInRange draw × IsTrue (list_all is_in_range draw.vertices.now) × IfSome parts (λ p. AreSetups s size (triangles_of draw) (all_setups p.items))
IsSetUp s size parts drawing = Unit {0}

-- these parts were added for this place, if there are any
abbrev pub Notes : {A : Type 0} → ℕ → Option (Vec (Vec TriSetup A) A) → List (DrawSetups A) → List (DrawSetups A) → Type 0
Notes place None old new = new ≡ old
Notes place (Some p) old new = new ≡ old ++ record { place = place; parts = p } ∷ []
