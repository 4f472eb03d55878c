use Rattle.std.proofs.Common.{refl, ◌<◌}
use Rattle.std.proofs.lemmas.Simd.{Each1-from_get_or}
use lib.Lanes.{Each1}
use Rattle.tga.proofs.Swapping.{all_swapped}
use Rattle.tga.proofs.row.all_swapped.Goals as goal

pub returns : goal.returns
returns c =
    let fit : Each1 (λ x. x < 4294967296) c.args.colors = Each1-from_get_or (λ x. x < 4294967296) c.args.colors 0 (λ j _. c.requires j) in
    all_swapped c.args.colors _ fit refl
