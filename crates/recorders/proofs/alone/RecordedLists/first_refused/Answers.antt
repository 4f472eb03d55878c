use Rattle.std.proofs.Common.{◌∙◌, ap, sym, subst, None}
use Rattle.recorders.specs.Ending.{Alone, AreEnds, AreRecorded, first_of}
use Rattle.recorders.proofs.EndLemmas.{all_recorded, match_more}
use Rattle.recorders.proofs.alone.RecordedLists.first_refused.Goals as goal

pub returns : goal.returns
returns g c missing lacks =
    let s = c.args.self.now in
    let ends = subst (λ (x : Alone). AreEnds x.lines x.ends) c.self.view_is c.self.invariant.1 in
    subst (λ o. AreRecorded s.lines o missing) (sym (c.first_refused.ensures ∙ ap (λ (x : Alone). first_of None x.ends) c.self.view_is))
    (all_recorded s.lines s.ends ends missing (match_more missing (λ name l low. l) lacks))
