use Rattle.std.proofs.Common.{rules, refl, length, ap, ◌∙◌, sym, subst, [], ◌∷◌, ◌++◌, ◌≡◌}
use Rattle.std.proofs.lemmas.List.{nil_from_length}
use Rattle.assemble.specs.Drawing.{triangles_of}
use Rattle.command.specs.Seen.{state_value}
use Rattle.binner.specs.Setups.{AreSetups, all_setups}
use Rattle.binner.proofs.Drawing.{drew_begin, drew_whole}
use Rattle.binner.proofs.Filling.{Filled, filled_all, filled_setup}
use Rattle.binner.proofs.compiling.add_parts.Goals as goal

pub parts-init : goal.parts-init
parts-init g c =
    let s = state_value c.args.state.now in
    let all = triangles_of c.args.draw.now in
    record {
      left = all;
      made = subst (λ l. AreSetups s c.args.compiling.now.lists.size all (all_setups l)) (sym c.into_iter-part-iterator.ensures.into_iter_gives.0) c.requires.made;
      drew = drew_begin c.args.compiling.now s c.args.issues c.in_ok-current.current all c.current_entry.new.compiling all refl c.requires.sound c.in_ok-current.ensures.enters;
    }

pub setups-preserved : goal.setups-preserved
setups-preserved g c =
    let others = all_setups c.next.new.self.rest.items in
    let is : c.setups.setup-iterator.rest.items ≡ c.in-Some-setup.setup ∷ c.next-in-setups.new.self.rest.items = search rules in
    filled_setup c.args.compiling.now c.setups.compiling (state_value c.args.state.now) c.args.issues c.in_ok-current.current (triangles_of c.args.draw.now) c.add_setup.new.compiling c.in-Some-setup.setup (length c.setups.compiling.triangles) (c.next-in-setups.new.self.rest.items ++ others) (c.setups.setup-iterator.rest.items ++ others) (ap (λ l. l ++ others) is) c.setups.invariant c.in_ok-add_setup.ensures.added c.in_ok-add_setup.ensures.bins

pub parts-preserved : goal.parts-preserved
parts-preserved g c =
    let others = all_setups c.next.new.self.rest.items in
    let none = nil_from_length c.setups.setup-iterator.rest.items (sym c.setups.setup-iterator.rest.ok.0 ∙ c.in-None-setup.ensures.steps.0) in
    subst (λ l. Filled c.args.compiling.now c.setups.compiling (state_value c.args.state.now) c.args.issues c.in_ok-current.current (triangles_of c.args.draw.now) (l ++ others)) none c.setups.invariant

pub returns-clause-drawn : goal.returns-clause-drawn
returns-clause-drawn g c =
    let s = state_value c.args.state.now in
    let all = triangles_of c.args.draw.now in
    let none = nil_from_length c.parts.part-iterator.rest.items (sym c.parts.part-iterator.rest.ok.0 ∙ c.in-None.ensures.steps.0) in
    drew_whole c.args.compiling.now s c.args.issues c.in_ok-current.current all c.parts.compiling [] refl
    (filled_all c.args.compiling.now c.parts.compiling s c.args.issues c.in_ok-current.current all (all_setups c.parts.part-iterator.rest.items) (ap all_setups none) c.parts.invariant)
