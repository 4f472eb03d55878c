-- What eight walks with a bias keep: walks of the same triangle without one, and the bias.
use Rattle.std.specs.Prelude.{◌≡◌, pos}
use Rattle.depthplane.specs.declared.biased_walks.BiasedWalks.TheInside.{Inside}
use Rattle.depthplane.specs.Height.{AreDepths}
use Rattle.depthplane.specs.Places.{Places}

abbrev pub place_of : Inside → Places
place_of w = record w.walks { plane = record w.walks.plane { bias = w.bias } }

pub record IsUnbiased (w : Inside) : Type 0 where
  pub still : w.walks.plane.bias ≡ pos 0
  pub depths : AreDepths w.walks.plane
