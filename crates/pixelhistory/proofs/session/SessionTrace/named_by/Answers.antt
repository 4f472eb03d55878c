use Rattle.std.proofs.Common.{rules, ◌≡◌, ◌∙◌, ◌<◌, ◌++◌, ◌∷◌, [], ap, sym, subst, length, take, get_or}
use Rattle.pixelevents.specs.declared.Event.{Event}
use Rattle.pixelevents.specs.declared.Origin.{Origin}
use Rattle.pixelevents.specs.declared.NamedEvent.{NamedEvent}
use Rattle.pixelevents.specs.Named.{named_by}
use Rattle.pixelhistory.proofs.Naming.{named_at, named_more, named_end}
use Rattle.pixelhistory.proofs.session.SessionTrace.named_by.Goals as goal

pub loop-number-init : goal.loop-number-init
loop-number-init g c named told = search rules

pub index-requires : goal.index-requires
index-requires g c =
    let l = c.loop-number in
    let t = c.args.self.now in
    let few : l.number < length t.trace.events.items = search rules in
    let low : l.number < length t.origins.items = (named_at (λ k o. (e : Event) → g.F.Fn.pre c.args.name.now (e, (o, tt))) t.trace.events.items t.origins.items l.number c.index-event.result.now (record { step = 0; place = record { command = 0; triangle = 0 } }) few c.requires.may).0 in
    search rules

pub name-requires : goal.name-requires
name-requires g c =
    let l = c.loop-number in
    let t = c.args.self.now in
    let few : l.number < length t.trace.events.items = search rules in
    let o : Origin = c.index.result.now in
    let is : o ≡ get_or t.origins.items l.number o = search rules in
    let at : (e : Event) → g.F.Fn.pre c.args.name.now (e, (get_or t.origins.items l.number o, tt)) = (named_at (λ k o. (e : Event) → g.F.Fn.pre c.args.name.now (e, (o, tt))) t.trace.events.items t.origins.items l.number c.index-event.result.now o few c.requires.may).1 in
    subst (λ (p : Origin). g.F.Fn.pre c.args.name.now (c.index-event.result.now, (p, tt))) (sym is) (at c.index-event.result.now)

pub loop-number-preserved : goal.loop-number-preserved
loop-number-preserved g c named told =
    let l = c.loop-number in
    let t = c.args.self.now in
    let few : l.number < length t.trace.events.items = search rules in
    let e : Event = c.index-event.result.now in
    let o : Origin = c.index.result.now in
    let e_is : e ≡ get_or t.trace.events.items l.number e = search rules in
    let o_is : o ≡ get_or t.origins.items l.number o = search rules in
    let both = named_at (λ k o. (e : Event) → g.F.Fn.pre c.args.name.now (e, (o, tt))) t.trace.events.items t.origins.items l.number e o few c.requires.may in
    let n : NamedEvent = c.name.result in
    let pushed : c.push.new.self.items ≡ l.events.items ++ n ∷ [] = search rules in
    let name : n ≡ named (get_or t.trace.events.items l.number e) (get_or t.origins.items l.number o) = told e o n c.name.ensures ∙ ap (λ (v : Event). named v o) e_is ∙ ap (named (get_or t.trace.events.items l.number e)) o_is in
    pushed ∙ ap (λ es. es ++ n ∷ []) (l.invariant named told)
    ∙ ap (λ (n : NamedEvent). named_by named (take l.number t.trace.events.items) (take l.number t.origins.items) ++ n ∷ []) name
    ∙ sym (named_more named t.trace.events.items t.origins.items l.number e o few both.0)

pub returns : goal.returns
returns g c named told =
    let l = c.loop-number in
    let t = c.args.self.now in
    l.invariant named told ∙ named_end named (λ k o. (e : Event) → g.F.Fn.pre c.args.name.now (e, (o, tt))) t.trace.events.items t.origins.items l.number (search rules) c.requires.may
