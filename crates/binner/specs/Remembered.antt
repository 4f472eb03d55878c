-- Draws whose triangles are set up already.
use Rattle.std.specs.Prelude.{◌≡◌, ◌≤◌, ◌-◌, List, length, All}
use Rattle.gfxspec.specs.State.{Settings}
use Rattle.gfxspec.specs.Assembly.{primitives, part}
use Rattle.binner.specs.declared.setup.TriSetup.{TriSetup}
use Rattle.binner.specs.declared.earlier.EarlierDraw.{EarlierDraw}
use Rattle.binner.specs.Setups.{AreSetups}

-- the triangles that a draw names are its own, under all settings with its rasterizer state and its scissor rectangle
pub record IsRemembered {A : Type 0} (setups : List TriSetup) (d : EarlierDraw A) : Type 0 where
  pub order : d.first ≤ d.past
  pub inside : d.past ≤ length setups
  pub set_up : (s : Settings) → s.raster ≡ d.raster → s.scissor ≡ d.scissor → AreSetups s d.size (primitives d.topology d.vertices.items) (part (d.past - d.first) d.first setups)

abbrev pub AreRemembered : {A : Type 0} → List TriSetup → List (EarlierDraw A) → Type 0
AreRemembered setups draws = All (IsRemembered setups) draws
