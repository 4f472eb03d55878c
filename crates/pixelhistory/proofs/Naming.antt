-- Events with their origins, named one by one.
use Rattle.std.proofs.Common.{◌≡◌, ◌∙◌, ap, sym, subst, refl, arith, ℕ, Bool, suc, zero, ◌+◌, ◌<◌, ◌≤◌, List, [], ◌∷◌, ◌++◌, length, map, take, get_or}
use Rattle.std.specs.Prelude.{All}
use Rattle.std.proofs.lemmas.List.{take_all, take_more, length-take-le}
use Rattle.std.proofs.lemmas.List.Elements.{All-nil, All-cons}
use Rattle.gfxspec.specs.Commands.{Command}
use Rattle.pixelevents.specs.declared.Event.{Event}
use Rattle.pixelevents.specs.declared.Origin.{Origin}
use Rattle.pixelevents.specs.declared.NamedEvent.{NamedEvent}
use Rattle.pixelevents.specs.Named.{named_by}
use Rattle.pixelevents.specs.Origins.{AreNamed}
use Rattle.pixelevents.specs.Places.{StandsAt}
use Rattle.pixelhistory.specs.declared.session.StepsOf.TheVariants as steps
use Rattle.pixelhistory.specs.Passing.{Comes}

-- an event has an origin at its place
pub named_at : (P : ℕ → Origin → Type 0) (es : List Event) (os : List Origin) (n : ℕ) (d : Event) (q : Origin) → n < length es → AreNamed P es os → (n < length os) × P (get_or es n d).item (get_or os n q)
named_at P [] [] n d q l h = absurd (omega (arith, l))
named_at P [] (o ∷ os) n d q l h = absurd h
named_at P (e ∷ es) [] n d q l h = absurd h
named_at P (e ∷ es) (o ∷ os) zero d q l h = (omega arith, h.0)
named_at P (e ∷ es) (o ∷ os) (suc n) d q l h = let rest = named_at P es os n d q (omega (arith, l)) h.1 in (omega (arith, rest.0), rest.1)

module _ (name : Event → Origin → NamedEvent) where
  pub named_more : (es : List Event) (os : List Origin) (n : ℕ) (d : Event) (q : Origin) → n < length es → n < length os → named_by name (take (n + 1) es) (take (n + 1) os) ≡ named_by name (take n es) (take n os) ++ name (get_or es n d) (get_or os n q) ∷ []
  named_more es os n d q l m =
      ap (λ (fs : List Event). named_by name fs (take (n + 1) os)) (take_more es n d l) ∙ ap (named_by name (take n es ++ get_or es n d ∷ [])) (take_more os n q m)
      ∙ pushed (take n es) (take n os) (length-take-le n es (omega (arith, l)) ∙ sym (length-take-le n os (omega (arith, m))))
    where
      e : Event
      e = get_or es n d

      o : Origin
      o = get_or os n q

      pushed : (fs : List Event) (ps : List Origin) → length fs ≡ length ps → named_by name (fs ++ e ∷ []) (ps ++ o ∷ []) ≡ named_by name fs ps ++ name e o ∷ []
      pushed [] [] h = refl
      pushed (f ∷ fs) (p ∷ ps) h = ap (λ l. name f p ∷ l) (pushed fs ps (omega (arith, h)))
      pushed [] (p ∷ ps) h = absurd (omega (arith, h))
      pushed (f ∷ fs) [] h = absurd (omega (arith, h))

  pub named_end : (P : ℕ → Origin → Type 0) (es : List Event) (os : List Origin) (n : ℕ) → length es ≤ n → AreNamed P es os → named_by name (take n es) (take n os) ≡ named_by name es os
  named_end P es os n l h =
      ap (λ (fs : List Event). named_by name fs (take n os)) (take_all n es l) ∙ ap (named_by name es) (take_all n os (omega (arith, l, long es os h)))
    where
      long : (es : List Event) (os : List Origin) → AreNamed P es os → length es ≡ length os
      long [] [] h = refl
      long (e ∷ es) (o ∷ os) h = ap suc (long es os h.1)
      long [] (o ∷ os) h = absurd h
      long (e ∷ es) [] h = absurd h

  -- the events are those that were named
  pub events_named : ((e : Event) (o : Origin) → (name e o).event ≡ e) → (P : ℕ → Origin → Type 0) (es : List Event) (os : List Origin) → AreNamed P es os → map (λ (e : NamedEvent). e.event) (named_by name es os) ≡ es
  events_named keeps P [] [] h = refl
  events_named keeps P (e ∷ es) (o ∷ os) h = ap (λ f. f ∷ map (λ (e : NamedEvent). e.event) (named_by name es os)) (keeps e o) ∙ ap (λ l. e ∷ l) (events_named keeps P es os h.1)
  events_named keeps P [] (o ∷ os) h = absurd h
  events_named keeps P (e ∷ es) [] h = absurd h

  -- what is known of each event with its origin, is known of each name
  pub names_are : (P : ℕ → Origin → Type 0) (Q : NamedEvent → Type 0) → ((e : Event) (o : Origin) → P e.item o → Q (name e o)) → (es : List Event) (os : List Origin) → AreNamed P es os → All Q (named_by name es os)
  names_are P Q told [] [] h = All-nil Q
  names_are P Q told (e ∷ es) (o ∷ os) h = All-cons Q (name e o) (named_by name es os) (told e o h.0) (names_are P Q told es os h.1)
  names_are P Q told [] (o ∷ os) h = absurd h
  names_are P Q told (e ∷ es) [] h = absurd h

-- an item of a list, the first of which has the number 0, stands at the place of its origin
pub placed : (results : ℕ → Bool) (commands : List Command) (step item : ℕ) (o : Origin) → Comes results commands steps.List step 0 item o → StandsAt results commands item o.place
placed results commands step item o (n, is, comes) =
    subst (λ (k : ℕ). StandsAt results commands k o.place) (sym (same item n is))
    (subst (λ (p : Origin). StandsAt results commands n p.place) (sym comes.is) comes.stands)
  where
    same : (item n : ℕ) → item ≡ 0 + n → item ≡ n
    same item n is = omega (arith, is)
