use Rattle.std.proofs.Common.{rules, ◌∙◌, ◌<◌, ◌≤◌, ◌+◌, ap, sym, subst, refl, arith, ℕ, length}
use Rattle.std.proofs.Math.Nat.{mod-eq_of_lt, add-mod_right}
use Rattle.recorders.specs.Dealing.{place_at, places_of}
use Rattle.recorders.specs.Recorders.{IsEnd, HasRecorded}
use Rattle.recorders.specs.Taking.{AtWork}
use Rattle.std.proofs.lemmas.List.{get_or_past}
use Rattle.recorders.proofs.Places.{first, next_place}
use Rattle.recorders.proofs.Steps.{IsAt, starts_at, step, on_to}
use Rattle.recorders.proofs.context.record_lines.Goals as goal

pub loop-next-init : goal.loop-next-init
loop-next-init g c =
    let ls = c.args.lines.now in
    let k = c.args.number in
    let lists = λ (x : AtWork). x.end.lists in
    let first = first ls k ls 0 refl (omega arith) in
    record {
      way = refl;
      first = on_to ls k k 0 _ _ (mod-eq_of_lt c.requires) first (starts_at ls k c.new-first.result c.new-first.ensures);
      second = on_to ls (k + 4) k 0 _ _ (add-mod_right k 4 ∙ mod-eq_of_lt c.requires) first (starts_at ls (k + 4) c.new-second.result c.new-second.ensures);
      few = (omega (arith, ap lists c.new-first.ensures), omega (arith, ap lists c.new-second.ensures));
      listed = λ all. all;
      whole = omega (arith, ap lists c.new-first.ensures, ap lists c.new-second.ensures);
    }

pub loop-next-preserved : goal.loop-next-preserved
loop-next-preserved g c =
    let ls = c.args.lines.now in
    let k = c.args.number in
    let i = c.loop-next.next in
    let few : i < length (places_of k 0 ls) = search rules in
    let place = next_place ls k i few in
    let held = c.loop-next.invariant in
    let one = step ls k _ place.inside c.loop-next.first held.first c.take.new.self _ _ _ _ c.line-place.ensures.line c.line-place.ensures.place c.take.ensures.taken in
    let two = step ls (k + 4) _ place.inside c.loop-next.second held.second c.take-in-loop-next.new.self _ _ _ _ c.line-place.ensures.line c.line-place.ensures.place c.take-in-loop-next.ensures.taken in
    record {
      way = c.take-in-loop-next.ensures.way ∙ c.take.ensures.way ∙ held.way;
      first = on_to ls k k _ _ _ (mod-eq_of_lt c.requires) place.next one.now;
      second = on_to ls (k + 4) k _ _ _ (add-mod_right k 4 ∙ mod-eq_of_lt c.requires) place.next two.now;
      few = (omega (arith, held.few.0, one.few), omega (arith, held.few.1, two.few));
      listed = λ all. two.listed_is (one.listed_is (held.listed all));
      whole = omega (arith, held.whole, one.counted, two.counted);
    }

pub returns-clause-recorded : goal.returns-clause-recorded
returns-clause-recorded g c =
    let ls = c.args.lines.now in
    let k = c.args.number in
    let least : length (places_of k 0 ls) ≤ c.loop-next.next = search rules in
    let end = get_or_past (places_of k 0 ls) c.loop-next.next (length ls) least in
    let held = c.loop-next.invariant in
    let lists = λ (x : AtWork). x.end.lists in
    let ended = λ (j : ℕ) (r : AtWork) (at : IsAt ls j (place_at k ls c.loop-next.next) r). subst (λ n. HasRecorded ls j n r.end.lists r.end.refused) end at.recorded in
    record {
      listed = held.listed;
      whole = omega (arith, held.whole, ap lists c.first.view_is, ap lists c.second.view_is);
      ends = record {
        first_is = subst (λ (r : AtWork). IsEnd ls k r.end) (sym c.first.view_is) (ended k c.loop-next.first held.first);
        second_is = subst (λ (r : AtWork). IsEnd ls (k + 4) r.end) (sym c.second.view_is) (ended (k + 4) c.loop-next.second held.second);
      };
    }
