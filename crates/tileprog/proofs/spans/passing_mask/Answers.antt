use Rattle.std.proofs.Common.{◌∙◌, sym, refl}
use Rattle.std.specs.Prelude.{slice_index}
use Rattle.tileprog.proofs.Lanes.{has_all}
use Rattle.tileprog.proofs.spans.passing_mask.Goals as goal

pub returns-then-always : goal.returns-then-always
returns-then-always c = λ j h. has_all 255 j refl h ∙ sym (c.requires c.if-always.true (slice_index c.args.stored.now j))
