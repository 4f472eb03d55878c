use Rattle.std.proofs.Common.{◌≡◌, ◌∙◌, ap, sym, subst, arith, ℕ, ◌+◌, true, false, List, length, get_or, set}
use Rattle.std.proofs.lemmas.List.{get_or_default}
use Rattle.tileprog.proofs.Marking.{SoFar, has_flag, words_in, same_so_far, more_so_far}
use Rattle.tileprog.proofs.gathering.add_touched.Goals.{then-not-index+in_ok-push, else-not-index}
use Rattle.tileprog.proofs.gathering.add_touched.Goals as goal

pub loop-tile-init : goal.loop-tile-init
loop-tile-init g c = record { marked = c.requires; kept = λ t. omega arith; done = λ j less. absurd (omega arith) }

pub index-requires : goal.index-requires
index-requires g c =
    let l = c.loop-tile in
    let less = has_flag c.args.list.now l.seen.items l.tiles.items c.touched-tile-items.result.now l.tile-index c.touched-tile-items.ensures.sound l.invariant.marked c.touched-tile-items.ensures.value c.loop-tile-test.true in
    let long = l.seen.ok in
    omega (arith, less, long)

pub index_mut-requires : goal.index_mut-requires
index_mut-requires g c =
    let l = c.loop-tile in
    let less = has_flag c.args.list.now l.seen.items l.tiles.items c.touched-tile-items.result.now l.tile-index c.touched-tile-items.ensures.sound l.invariant.marked c.touched-tile-items.ensures.value c.loop-tile-test.true in
    let long = l.seen.ok in
    omega (arith, less, long)

pub loop-tile-preserved : goal.loop-tile-preserved
loop-tile-preserved g c =
    let l = c.loop-tile in
    let size = c.args.list.now.size in
    let old = c.args.tiles.now.items in
    let touched = c.args.list.now.touched in
    let n = get_or c.touched-tile-items.result.now l.tile-index 0 in
    let less = has_flag c.args.list.now l.seen.items l.tiles.items c.touched-tile-items.result.now l.tile-index c.touched-tile-items.ensures.sound l.invariant.marked c.touched-tile-items.ensures.value c.loop-tile-test.true in
    let same : n ≡ get_or touched l.tile-index 0 = ap (λ (ts : List ℕ). get_or ts l.tile-index 0) c.touched-tile-items.ensures.value in
    let flag : get_or l.seen.items n false ≡ c.index.result.now = get_or_default l.seen.items n false c.index.result.now less ∙ sym c.index.ensures in
    elim c.if-not-index.branch [
      | then-not-index+in_ok-push v ↦ rw (v.tiles-is, v.seen-is) (subst (λ (ts : List ℕ). SoFar size (set l.seen.items n true) old ts touched (l.tile-index + 1)) (sym v.in_ok-push.ensures.items)
          (more_so_far size l.seen.items old l.tiles.items touched l.tile-index l.invariant n same less (flag ∙ v.if-not-index.true)))
      | else-not-index v ↦ rw (v.tiles-is, v.seen-is) (same_so_far size l.seen.items old l.tiles.items touched l.tile-index l.invariant (ap (λ (m : ℕ). get_or l.seen.items m false) (sym same) ∙ flag ∙ v.if-not-index.false))
    ]

pub returns-clause-words : goal.returns-clause-words
returns-clause-words g c =
    let l = c.loop-tile in
    let same = ap length c.touched-tile-items.ensures.value in
    let past = c.loop-tile-test.false in
    words_in c.args.list.now l.tiles.items c.touched-tile-items.ensures.sound (λ j less. l.invariant.done j (omega arith))
