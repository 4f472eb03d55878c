use Rattle.std.proofs.Common.{sym, subst, ap, ◌∙◌, ◌++◌, map}
use Rattle.gfxspec.specs.Recorded.{items}
use Rattle.gfxspec.specs.Predication.{performed}
use Rattle.command.specs.Seen.{command_value}
use Rattle.binner.specs.Compiling.{HasCompiled}
use Rattle.cmdlist.specs.Drawable.{told}
use Rattle.binner.proofs.batch.Batch.add.Goals as goal

pub invariant_of-result : goal.invariant_of-result
invariant_of-result g c =
    let b = c.self.invariant in
    record {
      sound = c.in-Ok.ensures.added.sound;
      items = b.items ++ items (performed (told c.args.results.now) (map command_value c.deref.result.now));
      compiled = c.in-Ok.ensures.added.means b.items b.compiled;
    }

pub returns-in-Ok-clause-means : goal.returns-in-Ok-clause-means
returns-in-Ok-clause-means g c is h =
    subst (λ cs. HasCompiled c.add_commands.new.compiling (is ++ items (performed (told c.args.results.now) cs))) (ap (map command_value) c.deref.ensures.value ∙ c.segment.view_is)
    (c.in-Ok.ensures.added.means is (subst (λ k. HasCompiled k is) (sym c.self.view_is) h))
