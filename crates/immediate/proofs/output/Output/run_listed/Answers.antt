use Rattle.std.proofs.Common.{◌∙◌, subst}
use Rattle.binner.specs.Compiled.{IsCompilation}
use Rattle.immediate.specs.Outputs.{IsCompiled}
use Rattle.immediate.proofs.Runs.{kept_output, kept_same, kept_memory, kept_run, bins_behind}
use Rattle.immediate.proofs.output.Output.run_listed.Goals as goal

pub invariant_of-self : goal.invariant_of-self
invariant_of-self g c =
    let list = c.args.commands.now in
    let i = c.self.inside in
    let compiled = subst (λ l. IsCompiled l c.args.self.now c.in_ok-compiled.compiled) c.as_slice.ensures.commands c.in_ok-compiled.ensures.compiled in
    let sound : IsCompilation c.in_ok-compiled.compiled = c.new.ensures.sound in
    kept_output (λ counts. counts.items) list c.args.self.now c.in_ok-compiled.compiled i.target c.draw-drawn.new.target i.results c.keep.new.results (c.self.view_is ∙ c.compiled.ensures.same) compiled.size
    c.draw-drawn.result.0 c.keep.result c.keep.new.bins c.keep.ensures.kept (c.draw-drawn.ensures.alone c.in_ok-compiled.compiled c.new.ensures.lists c.new.ensures.tiles sound) c.draw-drawn.ensures.same c.self.invariant.whole c.self.invariant.many
    (c.keep.ensures.bins ∙ bins_behind (c.draw-drawn.ensures.first ∙ c.new.ensures.first))

pub returns-clause-ok : goal.returns-clause-ok
returns-clause-ok g c =
    let list = c.args.commands.now in
    let i = c.self.inside in
    let compiled = subst (λ l. IsCompiled l c.args.self.now c.in_ok-compiled.compiled) c.as_slice.ensures.commands c.in_ok-compiled.ensures.compiled in
    let sound : IsCompilation c.in_ok-compiled.compiled = c.new.ensures.sound in
    kept_run (λ counts. counts.items) list c.args.self.now c.in_ok-compiled.compiled i.target c.draw-drawn.new.target i.results c.keep.new.results (c.self.view_is ∙ c.compiled.ensures.same) compiled.size
    c.draw-drawn.result.0 c.keep.result compiled sound c.self.invariant.many c.keep.ensures.kept (c.draw-drawn.ensures.alone c.in_ok-compiled.compiled c.new.ensures.lists c.new.ensures.tiles sound)

pub returns-clause-memory : goal.returns-clause-memory
returns-clause-memory g c =
    let list = c.args.commands.now in
    let i = c.self.inside in
    let compiled = subst (λ l. IsCompiled l c.args.self.now c.in_ok-compiled.compiled) c.as_slice.ensures.commands c.in_ok-compiled.ensures.compiled in
    let sound : IsCompilation c.in_ok-compiled.compiled = c.new.ensures.sound in
    kept_memory (λ counts. counts.items) list c.args.self.now c.in_ok-compiled.compiled i.target c.draw-drawn.new.target i.results c.keep.new.results (c.self.view_is ∙ c.compiled.ensures.same) compiled.size
    c.draw-drawn.result.0 c.keep.result c.keep.ensures.kept c.draw-drawn.ensures.memory

pub returns-clause-err : goal.returns-clause-err
returns-clause-err g c =
    let list = c.args.commands.now in
    let i = c.self.inside in
    let compiled = subst (λ l. IsCompiled l c.args.self.now c.in_ok-compiled.compiled) c.as_slice.ensures.commands c.in_ok-compiled.ensures.compiled in
    let sound : IsCompilation c.in_ok-compiled.compiled = c.new.ensures.sound in
    kept_same (λ counts. counts.items) list c.args.self.now c.in_ok-compiled.compiled i.target c.draw-drawn.new.target i.results c.keep.new.results (c.self.view_is ∙ c.compiled.ensures.same) compiled.size
    c.draw-drawn.result.0 c.keep.result c.keep.ensures.kept c.draw-drawn.ensures.same
