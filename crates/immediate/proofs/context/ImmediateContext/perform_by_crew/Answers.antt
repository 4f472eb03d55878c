use Rattle.std.proofs.Common.{rules, subst, sym}
use Rattle.immediate.specs.Engines.{MayList}
use Rattle.immediate.proofs.context.ImmediateContext.perform_by_crew.Goals as goal

pub perform-requires-clause-engine : goal.perform-requires-clause-engine
perform-requires-clause-engine g c κs within =
    let t = c.type_bounds in
    record {
      list_allowed = λ cs size bins may list results is.
          (subst (λ l. MayList l size bins) (sym is) may, (t.send-A, t.sync-A, record { shared = t.sync-R.shared }, t.frees-A-Allocator));
      listed = search rules;
      compile_allowed = search rules;
      compiled = search rules;
      draw_allowed = search rules;
      drawn = search rules;
    }
