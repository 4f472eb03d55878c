use Rattle.std.proofs.Common.{rules, ◌≡◌, ◌∙◌, ◌<◌, ap, length, Vec}
use Rattle.std.proofs.Math.Seq.{map-set_same}
use Rattle.recorders.proofs.RowLemmas.{put_next, on_err}
use Rattle.recorders.proofs.rows.ListRows.add.Goals as goal

pub returns-in_err-push-clause-err : goal.returns-in_err-push-clause-err
returns-in_err-push-clause-err g c =
    let items = λ (v : Vec _ _). v.items in
    on_err c.from_residual.result (map-set_same items c.self.inside.rows.items c.args.recorded.context c.push.new.self c.index_mut.result.now (c.in_err-push.ensures.items ∙ ap items c.index_mut.ensures.value) ∙ c.self.view_is)

pub returns-clause-ok : goal.returns-clause-ok
returns-clause-ok g c =
    let low : c.args.recorded.context < length c.self.inside.rows.items = search rules in
    let count : c.args.recorded.number ≡ length c.index.result.now.items = search rules in
    put_next (λ (v : Vec _ _). v.items) c.self.inside.rows.items c.args.self.now c.args.recorded c.index.result.now c.index_mut.result.now c.push.new.self c.self.view_is low c.index.ensures count c.index_mut.ensures.value c.in_ok-push.ensures.items
