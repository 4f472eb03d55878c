-- The tests of a word with what is made once for them.
use Rattle.std.specs.Prelude.{◌≡◌}
use Rattle.gfxspec.specs.Raster.{Triangle}
use Rattle.tileprog.specs.declared.brush.Brush.{Brush}
use Rattle.tileprog.specs.declared.kind.MadeTests.{MadeTests}
use Rattle.tileprog.specs.declared.kind.MadeTests.TheVariants.{Nothing, DepthAlone, Both}
use Rattle.tileprog.specs.declared.kind.Tests.TheVariants.{Open, Depth}
use Rattle.tileprog.specs.Kinds.{tests_of}

-- they are those of a brush and a triangle
abbrev pub AreOf : MadeTests → Brush → Triangle → Type 0
AreOf Nothing b t = tests_of b.state ≡ Open
AreOf (DepthAlone func write) b t = tests_of b.state ≡ Depth func write
AreOf (Both tested set) b t = (tested.now.brush ≡ b) × (set.now ≡ t)
