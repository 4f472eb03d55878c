use Rattle.std.proofs.Common.{rules, ◌≡◌, ◌≤◌, ◌<◌, ◌-◌, ◌+◌, ℕ, subst, sym, get_or, w32, Fits}
use Rattle.pixelevents.specs.declared.Event.{Event}
use Rattle.pixelhistory.proofs.Passing.{added_fit}
use Rattle.pixelhistory.proofs.session.add_origins.Goals as goal

pub overflow_sub-item : goal.overflow_sub-item
overflow_sub-item g c =
    let l = c.loop-number in
    let e : Event = c.index.result.now in
    let is : e ≡ get_or l.trace.trace.events.items l.number e = search rules in
    subst (λ (v : Event). c.args.first ≤ v.item) (sym is)
    (added_fit c.args.from c.args.first c.args.origin l.number e c.args.trace.now l.trace (search rules) l.invariant c.requires).0

pub overflow_cast-item : goal.overflow_cast-item
overflow_cast-item g c =
    let l = c.loop-number in
    let e : Event = c.index.result.now in
    let is : e ≡ get_or l.trace.trace.events.items l.number e = search rules in
    small e.item c.args.first
    (subst (λ (v : Event). v.item < c.args.first + 4294967296) (sym is)
    (added_fit c.args.from c.args.first c.args.origin l.number e c.args.trace.now l.trace (search rules) l.invariant c.requires).1)
  where
    small : (a b : ℕ) → a < b + 4294967296 → Fits w32 (a - b)
    small a b h = search rules
