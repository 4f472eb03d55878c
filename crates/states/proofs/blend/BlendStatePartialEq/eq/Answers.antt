use Rattle.states.specs.MaskLaws.{red_flag, green_flag, blue_flag, alpha_flag}
use Rattle.states.proofs.blend.BlendStatePartialEq.eq.Goals as goal

pub returns : goal.returns
returns c = rw (← c.t1-1.view_is, ← c.t2-1.view_is) (simp (red_flag, green_flag, blue_flag, alpha_flag) c.eq.ensures)
