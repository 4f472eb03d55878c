-- What a stencil test keeps.
use Rattle.std.specs.Prelude.{◌≡◌, ◌≤◌, ◌-◌, IsTrue, bit_and, if◌then◌else◌, replicate}
use Rattle.gfxspec.specs.declared.state.StencilOp.TheVariants.{Keep}
use Rattle.lanes.specs.declared.stencil.StencilTest.TheInside.{Inside}
use Rattle.lanes.specs.ByteChange.{AreChanges}
use Rattle.lanes.specs.Stencil.{StencilRule}

abbrev pub rule_of : Inside → StencilRule
rule_of t = record { setting = t.state; face = if t.front then t.state.front else t.state.back; reference = t.reference }

pub record IsTest (t : Inside) : Type 0 where
  pub func : t.func ≡ (rule_of t).face.func
  pub compared : t.compared ≡ replicate 8 (bit_and t.reference t.state.read_mask)
  pub read_mask : t.read_mask ≡ replicate 8 t.state.read_mask
  pub write_mask : t.write_mask ≡ replicate 8 t.state.write_mask
  pub kept_mask : t.kept_mask ≡ replicate 8 (255 - t.state.write_mask)
  pub mask_fits : t.state.write_mask ≤ 255
  pub fail : AreChanges t.fail (rule_of t).face.fail t.reference
  pub depth_fail : AreChanges t.depth_fail (rule_of t).face.depth_fail t.reference
  pub pass : AreChanges t.pass (rule_of t).face.pass t.reference
  pub pass_keeps : IsTrue t.pass_keeps → (rule_of t).face.pass ≡ Keep
  pub fail_keeps : IsTrue t.fail_keeps → (rule_of t).face.fail ≡ Keep
  pub all_keep : IsTrue t.all_keep → ((rule_of t).face.fail ≡ Keep) × ((rule_of t).face.depth_fail ≡ Keep) × ((rule_of t).face.pass ≡ Keep)
