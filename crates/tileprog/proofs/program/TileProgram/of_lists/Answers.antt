use Rattle.std.proofs.Common.{◌≡◌, arith, sym, subst, List, ◌∷◌}
use Rattle.std.specs.Prelude.{All}
use Rattle.binner.specs.Compiled.{Compilation}
use Rattle.tileprog.specs.Several.{AreLists}
use Rattle.tileprog.proofs.program.TileProgram.of_lists.Goals as goal

pub gather_touched-requires : goal.gather_touched-requires
gather_touched-requires g c =
    subst (λ (behind : List Compilation). All (λ list. list.size ≡ c.args.first.size) behind) (sym c.as_slice.ensures.value) (λ k d l. (c.requires.behind k d l).0)

pub invariant_of-result : goal.invariant_of-result
invariant_of-result g c =
    let is = c.in_ok-touched.ensures in
    let none = c.requires.unissued in
    record {
      few = is.few;
      few_issues = omega (arith, none);
      lists = subst (λ (behind : List Compilation). AreLists c.args.first.size (c.args.first ∷ behind) c.in_ok-touched.touched.items) c.as_slice.ensures.value is.lists;
    }
