use Rattle.std.proofs.Common.{inl, inr}
use Rattle.scenetext.proofs.CutLemmas.{cuts_formed, bad_line, bad_byte, no_end, byte_at_added}
use Rattle.scenetext.proofs.text.formed_end.Goals as goal

pub returns-then-formed-clause-some : goal.returns-then-formed-clause-some
returns-then-formed-clause-some c =
    (c.loop-i-test.true, cuts_formed c.args.text.now c.loop-i.i c.loop-i.form c.loop-i-test.true c.loop-i.invariant c.if-byte-eq10.true c.if-formed.true)

pub returns-else-byte-eq10-clause-none : goal.returns-else-byte-eq10-clause-none
returns-else-byte-eq10-clause-none c =
    elim c.else-byte-eq10.either [
      | inl h ↦ bad_line c.args.text.now c.loop-i.i c.loop-i.form c.loop-i-test.true c.loop-i.invariant h.0 h.1
      | inr h ↦ bad_byte c.args.text.now c.loop-i.i c.loop-i.form c.loop-i-test.true c.loop-i.invariant c.then-byte-lt32.either h
    ]

pub loop-i-preserved : goal.loop-i-preserved
loop-i-preserved c = byte_at_added c.args.text.now c.loop-i.i c.loop-i.form _ c.loop-i-test.true c.loop-i.invariant c.with_byte-form.ensures

pub returns-clause-none : goal.returns-clause-none
returns-clause-none c = no_end c.args.text.now c.loop-i.i c.loop-i.form c.requires c.loop-i-test.false c.loop-i.invariant
