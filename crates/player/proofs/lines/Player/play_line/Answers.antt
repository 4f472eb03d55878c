use Rattle.std.proofs.Common.{subst, inl, inr, refl}
use Rattle.scenetext.specs.Seen.{line_value}
use Rattle.scenetext.specs.Reading.{ReadsNext, IsFaulty}
use Rattle.player.proofs.Answering.{left_by}
use Rattle.player.proofs.lines.Player.play_line.Goals as goal

pub returns-in-Err-clause-refused : goal.returns-in-Err-clause-refused
returns-in-Err-clause-refused g c = inl (subst (λ finished. IsFaulty finished c.args.text.now c.in-Err.fault) c.finished-finished.ensures c.in-Err.ensures.err)

pub returns-in-Err-clause-left : goal.returns-in-Err-clause-left
returns-in-Err-clause-left g c = inl refl

pub returns-in-Ok-call-clause-played : goal.returns-in-Ok-call-clause-played
returns-in-Ok-call-clause-played g c = record {
  line = line_value c.in-Ok.read.0;
  read = subst (λ finished. ReadsNext finished c.args.text.now (line_value c.in-Ok.read.0) c.in-Ok.read.1.now) c.finished-finished.ensures c.in-Ok.ensures.ok;
  called = c.in-Ok-call.ensures.answers;
}

pub returns-clause-refused : goal.returns-clause-refused
returns-clause-refused g c = inr record {
  line = line_value c.in-Ok.read.0;
  rest = c.in-Ok.read.1.now;
  read = subst (λ finished. ReadsNext finished c.args.text.now (line_value c.in-Ok.read.0) c.in-Ok.read.1.now) c.finished-finished.ensures c.in-Ok.ensures.ok;
  refusal = c.in-Err-call.refusal;
  refused = c.in-Err-call.ensures.answers.0;
  numbered = c.number.ensures;
}

pub returns-clause-left : goal.returns-clause-left
returns-clause-left g c = left_by c.in-Err-call.refusal c.number.result _ _ c.number.ensures c.in-Err-call.ensures.answers.1
