use Rattle.std.proofs.Common.{rules, sym, subst, ℕ, ◌≡◌, ◌+◌, ◌<◌, ◌≤◌, w32, Fits, drop, length}
use Rattle.std.specs.Prelude.{All}
use Rattle.meaning.specs.OneMore.{settings_with, triangles_of, performed_items}
use Rattle.command.specs.Seen.{state_value, command_value}
use Rattle.cmdlist.specs.Drawable.{IsDrawable, told}
use Rattle.binner.proofs.Accepted.{drawable}
use Rattle.pixelevents.specs.declared.Event.{Event}
use Rattle.pixelhistory.specs.Tracing.{GoesPast}
use Rattle.pixelhistory.proofs.Listing.{room}
use Rattle.pixelhistory.proofs.Passing.{passed_none, passed_more, new_fit, few_commands, all_passed}
use Rattle.pixelhistory.proofs.session.trace_list.Goals as goal

pub loop-command-init : goal.loop-command-init
loop-command-init g c =
    passed_none (told c.args.results.now) c.args.commands.now c.args.steps c.args.x c.args.y (state_value c.new-state.result) c.args.trace.now c.new-state.ensures

pub trace_performed-requires-clause-drawable : goal.trace_performed-requires-clause-drawable
trace_performed-requires-clause-drawable g c =
    let l = c.loop-command in
    let s = state_value l.state in
    subst (λ k. IsDrawable s (command_value k)) (sym c.command-item.is)
    (drawable c.args.commands.now l.command-index c.command-item.result s c.requires.accepted (search rules) l.invariant.taken.state)

pub trace_performed-requires-clause-few : goal.trace_performed-requires-clause-few
trace_performed-requires-clause-few g c =
    let l = c.loop-command in
    let s = state_value l.state in
    subst (λ k. l.trace.trace.items + triangles_of s (command_value k) + 1 < 9223372036854775808) (sym c.command-item.is)
    (room (told c.args.results.now) c.args.commands.now c.args.x c.args.y l.command-index c.command-item.result s c.args.trace.now.trace l.trace.trace c.requires.accepted (search rules) (search rules) l.invariant.taken)

pub add_origins-requires : goal.add_origins-requires
add_origins-requires g c =
    let l = c.loop-command in
    let s = state_value l.state in
    let results = told c.args.results.now in
    let after = c.trace_performed.new.trace in
    let from : c.len-from.result ≡ length l.trace.trace.events.items = search rules in
    subst (λ n. All (λ (e : Event). (l.trace.trace.items ≤ e.item) × (e.item < l.trace.trace.items + 4294967296)) (drop n after.events.items)) (sym from)
    (new_fit results c.args.commands.now c.args.steps c.args.x c.args.y l.command-index l.number c.command-item.result s c.args.trace.now l.trace after c.requires.accepted (search rules) l.invariant
    (λ opened. subst (λ k. GoesPast (performed_items results s opened (command_value k)) c.args.x c.args.y l.trace.trace after) c.command-item.is (c.in_ok-trace_performed.ensures opened)))

pub overflow_add-number : goal.overflow_add-number
overflow_add-number g c =
    let l = c.loop-command in
    small l.number (few_commands (told c.args.results.now) c.args.commands.now c.args.steps c.args.x c.args.y l.command-index l.number c.command-item.result (state_value l.state) c.args.trace.now l.trace c.requires.accepted (search rules) l.invariant)
  where
    small : (n : ℕ) → n < 65536 → Fits w32 (n + 1)
    small n h = search rules

pub loop-command-preserved : goal.loop-command-preserved
loop-command-preserved g c =
    let l = c.loop-command in
    let s = state_value l.state in
    let results = told c.args.results.now in
    let after = c.trace_performed.new.trace in
    passed_more results c.args.commands.now c.args.steps c.args.x c.args.y l.command-index l.number c.command-item.result s (state_value c.change.new.self) c.args.trace.now l.trace c.add_origins.new.trace after c.origin_of-origin.result (search rules) l.invariant
    (λ opened. subst (λ k. GoesPast (performed_items results s opened (command_value k)) c.args.x c.args.y l.trace.trace after) c.command-item.is (c.in_ok-trace_performed.ensures opened))
    (subst (λ k. state_value c.change.new.self ≡ settings_with (command_value k) s) c.command-item.is c.change.ensures)
    c.in_ok-add_origins.ensures.trace c.in_ok-add_origins.ensures.step c.origin_of-origin.ensures (search rules)

pub returns : goal.returns
returns g c =
    let l = c.loop-command in
    all_passed (told c.args.results.now) c.args.commands.now c.args.steps c.args.x c.args.y l.command-index l.number (state_value l.state) c.args.trace.now l.trace (search rules) l.invariant
