use Rattle.scenetext.specs.Seen.{line_value}
use Rattle.scenetext.proofs.LoopLemmas.{next_read}
use Rattle.scenetext.proofs.reader.next_of.Goals as goal

pub returns-clause-ok : goal.returns-clause-ok
returns-clause-ok g c = next_read c.args.finished.now c.args.text.now c.in_ok-line.line.bytes.now c.in_ok-line.rest.now (line_value c.in_ok-line-2.line) c.in_ok-line.ensures.ok c.in_ok-line-2.ensures.ok
