use Rattle.std.proofs.Common.{rules, get_or, length, sym, ap, ◌∙◌, subst}
use Rattle.port.specs.Rule.{GivenBack}
use Rattle.port.specs.History.{AllTaken}
use Rattle.port.proofs.Moves.{merges, totals}
use Rattle.port.proofs.Settling.{taken_back, listed, numbers, queue_2, queue_3, all_taken, all_lengths}
use Rattle.port.proofs.ports.Ports.settle.Goals as goal

pub absorb-requires-clause-rule : goal.absorb-requires-clause-rule
absorb-requires-clause-rule g c = let d = c.drain.invariant.is_drain in let is = c.zero.invariant.is_port in
    let n = numbers (listed c.apart-zero.ensures c.zero.view_is c.one.view_is c.two.view_is c.three.view_is) c.requires.passes in
    merges _ _ _ _ (ap (λ v. v.drains) d) (ap (λ v. v.sends) is) (ap (λ v. v.port) is ∙ (ap (λ l. get_or l 0 9) n ∙ sym (ap (λ v. length v.back) d)))

pub absorb-requires-2-clause-rule : goal.absorb-requires-2-clause-rule
absorb-requires-2-clause-rule g c = let d = taken_back c.zero.inside.inner.me.0.client c.drain.invariant.is_drain c.absorb.ensures.rule in let is = c.one.invariant.is_port in
    let n = numbers (listed c.apart-zero.ensures c.zero.view_is c.one.view_is c.two.view_is c.three.view_is) c.requires.passes in
    merges _ _ _ _ (ap (λ v. v.drains) d) (ap (λ v. v.sends) is) (ap (λ v. v.port) is ∙ (ap (λ l. get_or l 1 9) n ∙ sym (ap (λ v. length v.back) d)))

pub absorb-requires-3-clause-queue : goal.absorb-requires-3-clause-queue
absorb-requires-3-clause-queue g c = let z = sym (ap (λ p. p.queue) c.self.view_is) in let q1 = c.absorb.ensures.queue in let q2 = c.absorb-2.ensures.queue in (
  (q2.0 ∙ (q1.0 ∙ (ap (λ p. p.queue) c.drain.view_is ∙ (c.requires.drain ∙ z))), q2.2 ∙ (q1.2 ∙ c.drain.invariant.no_slot)),
  (queue_2 (listed c.apart-zero.ensures c.zero.view_is c.one.view_is c.two.view_is c.three.view_is) c.requires.passes ∙ z, c.two.invariant.no_slot),
)

pub absorb-requires-3-clause-rule : goal.absorb-requires-3-clause-rule
absorb-requires-3-clause-rule g c = let d = taken_back c.one.inside.inner.me.0.client (taken_back c.zero.inside.inner.me.0.client c.drain.invariant.is_drain c.absorb.ensures.rule) c.absorb-2.ensures.rule in let is = c.two.invariant.is_port in
    let n = numbers (listed c.apart-zero.ensures c.zero.view_is c.one.view_is c.two.view_is c.three.view_is) c.requires.passes in
    merges _ _ _ _ (ap (λ v. v.drains) d) (ap (λ v. v.sends) is) (ap (λ v. v.port) is ∙ (ap (λ l. get_or l 2 9) n ∙ sym (ap (λ v. length v.back) d)))

pub absorb-requires-4-clause-queue : goal.absorb-requires-4-clause-queue
absorb-requires-4-clause-queue g c = let z = sym (ap (λ p. p.queue) c.self.view_is) in let q1 = c.absorb.ensures.queue in let q2 = c.absorb-2.ensures.queue in let q3 = c.absorb-3.ensures.queue in (
  (q3.0 ∙ (q2.0 ∙ (q1.0 ∙ (ap (λ p. p.queue) c.drain.view_is ∙ (c.requires.drain ∙ z)))), q3.2 ∙ (q2.2 ∙ (q1.2 ∙ c.drain.invariant.no_slot))),
  (queue_3 (listed c.apart-zero.ensures c.zero.view_is c.one.view_is c.two.view_is c.three.view_is) c.requires.passes ∙ z, c.three.invariant.no_slot),
)

pub absorb-requires-4-clause-rule : goal.absorb-requires-4-clause-rule
absorb-requires-4-clause-rule g c = let d = taken_back c.two.inside.inner.me.0.client (taken_back c.one.inside.inner.me.0.client (taken_back c.zero.inside.inner.me.0.client c.drain.invariant.is_drain c.absorb.ensures.rule) c.absorb-2.ensures.rule) c.absorb-3.ensures.rule in let is = c.three.invariant.is_port in
    let n = numbers (listed c.apart-zero.ensures c.zero.view_is c.one.view_is c.two.view_is c.three.view_is) c.requires.passes in
    merges _ _ _ _ (ap (λ v. v.drains) d) (ap (λ v. v.sends) is) (ap (λ v. v.port) is ∙ (ap (λ l. get_or l 3 9) n ∙ sym (ap (λ v. length v.back) d)))

pub learn_as-requires-clause-rule : goal.learn_as-requires-clause-rule
learn_as-requires-clause-rule g c = let d = taken_back c.three.inside.inner.me.0.client (taken_back c.two.inside.inner.me.0.client (taken_back c.one.inside.inner.me.0.client (taken_back c.zero.inside.inner.me.0.client c.drain.invariant.is_drain c.absorb.ensures.rule) c.absorb-2.ensures.rule) c.absorb-3.ensures.rule) c.absorb-4.ensures.rule in
    totals _ _ (ap (λ v. v.drains) d)

pub returns : goal.returns
returns g c = let d = taken_back c.three.inside.inner.me.0.client (taken_back c.two.inside.inner.me.0.client (taken_back c.one.inside.inner.me.0.client (taken_back c.zero.inside.inner.me.0.client c.drain.invariant.is_drain c.absorb.ensures.rule) c.absorb-2.ensures.rule) c.absorb-3.ensures.rule) c.absorb-4.ensures.rule in
    let is = listed c.apart-zero.ensures c.zero.view_is c.one.view_is c.two.view_is c.three.view_is in
    let told = c.learn_as.ensures.rule in let items = told.0 in let known = subst (λ v. GivenBack v items) d told.1 in (
      all_lengths is c.requires.passes c.zero.invariant.counted c.one.invariant.counted c.two.invariant.counted c.three.invariant.counted,
      subst (λ t. AllTaken c.args.passes t) (ap (λ p. p.taken) c.drain.view_is)
          (all_taken is c.requires.passes _ items known c.zero.invariant.counted c.one.invariant.counted c.two.invariant.counted c.three.invariant.counted (search rules) c.drain.invariant.counted),
    )
