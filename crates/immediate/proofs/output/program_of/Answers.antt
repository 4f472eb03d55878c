use Rattle.std.proofs.Common.{rules, vec_len, sym, ap, ◌∙◌, ◌∷◌, List}
use Rattle.binner.specs.Compiled.{Compilation}
use Rattle.immediate.proofs.Ran.{is_none}
use Rattle.immediate.proofs.output.program_of.Goals as goal

pub returns-then-is_empty : goal.returns-then-is_empty
returns-then-is_empty g c = c.new.ensures.lists ∙ ap (λ (cs : List Compilation). c.args.first ∷ cs) (sym (is_none c.args.behind.items (vec_len c.args.behind) c.is_empty.result (search rules) c.is_empty.ensures c.if-is_empty.true))
