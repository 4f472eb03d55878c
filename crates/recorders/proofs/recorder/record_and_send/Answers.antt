use Rattle.recorders.proofs.PortLemmas.{sent_and_kept}
use Rattle.recorders.proofs.recorder.record_and_send.Goals as goal

pub returns : goal.returns
returns g c =
    sent_and_kept c.args.lines.now c.args.number _ c.record_lines-end.new.sink _ c.record_lines-end.ensures.way c.requires.sender c.record_lines-end.ensures.recorded c.sender.view_is
