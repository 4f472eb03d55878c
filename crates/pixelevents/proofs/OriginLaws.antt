-- Where the items of a session come from: those of what is pending, and of a list that is executed.
use Rattle.std.proofs.Common.{◌≡◌, ◌∙◌, ◌⊎◌, inl, inr, ap, sym, subst, refl, arith, ℕ, ◌+◌, ◌<◌, Bool, true, false, List, [], ◌∷◌, ◌++◌, length, append_assoc, append-nil, length-append}
use Rattle.gfxspec.specs.declared.TheConstants.{QUERY_LIMIT}
use Rattle.gfxspec.specs.declared.geometry.Size.{Size}
use Rattle.gfxspec.specs.State.{Settings}
use Rattle.gfxspec.specs.Commands.{Command, Kept}
use Rattle.gfxspec.specs.Recorded.{items, after_finish, queries_open}
use Rattle.gfxspec.specs.Accepted.{AreAccepted}
use Rattle.gfxspec.specs.Session as session
use Rattle.gfxspec.specs.Session.{Step, Records, Executes, Flushes, all_seen, open_now}
use Rattle.gfxspec.specs.Predication.{performed, result_of, results_behind, performed_session}
use Rattle.meaning.specs.Contexts.{Context, answered, performed_next, performed_pending}
use Rattle.meaning.specs.Standing.{settled, session_pixels, session_result, Stands}
use Rattle.meaning.proofs.Standing.{by_steps, settled-record}
use Rattle.meaning.proofs.Sessions.{pending-push}
use Rattle.meaning.proofs.Predicates.{accepted_front, performed_same}
use Rattle.meaning.proofs.Withheld.{items_performed-push}
use Rattle.pixelevents.specs.declared.Event.{Event}
use Rattle.pixelevents.specs.declared.Place.{Place}
use Rattle.pixelevents.specs.declared.Origin.{Origin}
use Rattle.pixelevents.specs.Places.{StandsAt, items_of_command}
use Rattle.pixelevents.specs.Sessions.{performed_items}
use Rattle.pixelevents.specs.Origins.{ComesOf, IsOriginOf, AreNamed, told, of_pending}
use Rattle.pixelevents.proofs.PlaceLaws.{items_more}
use Rattle.pixelevents.proofs.SessionLaws.{pending_counts, execution_counts, answers_told}

-- ---- events and their origins

module _ (P : ℕ → Origin → Type 0) where
  pub named_both : (es fs : List Event) (os qs : List Origin) → AreNamed P es os → AreNamed P fs qs → AreNamed P (es ++ fs) (os ++ qs)
  named_both [] fs [] qs h k = k
  named_both (e ∷ es) fs (o ∷ os) qs h k = (h.0, named_both es fs os qs h.1 k)
  named_both [] fs (o ∷ os) qs h k = absurd h
  named_both (e ∷ es) fs [] qs h k = absurd h

  pub named_as : (Q : ℕ → Origin → Type 0) → ((k : ℕ) (o : Origin) → P k o → Q k o) → (es : List Event) (os : List Origin) → AreNamed P es os → AreNamed Q es os
  named_as Q f [] [] h = tt
  named_as Q f (e ∷ es) (o ∷ os) h = (f e.item o h.0, named_as Q f es os h.1)
  named_as Q f [] (o ∷ os) h = absurd h
  named_as Q f (e ∷ es) [] h = absurd h

-- ---- lists from their ends

module _ {A : Type 0} where
  pub none_in : (front : List A) (c : A) (back : List A) → [] ≡ front ++ c ∷ back → ⊥
  none_in [] c back h = absurd cc
  none_in (f ∷ fs) c back h = absurd cc

  head_is : (x y : A) (xs ys : List A) → x ∷ xs ≡ y ∷ ys → x ≡ y
  head_is x y xs ys h = cc

  tail_is : (x y : A) (xs ys : List A) → x ∷ xs ≡ y ∷ ys → xs ≡ ys
  tail_is x y xs ys h = cc

  -- an element of a list is its last one, or stands before that
  pub at_end : (xs : List A) (x : A) (front : List A) (c : A) (back : List A) → xs ++ x ∷ [] ≡ front ++ c ∷ back → ((xs ≡ front) × (x ≡ c)) ⊎ ((rest : List A) × (xs ≡ front ++ c ∷ rest))
  at_end [] x [] c back h = inl (refl, head_is x c [] back h)
  at_end [] x (f ∷ fs) c back h = absurd (none_in fs c back (tail_is x f [] (fs ++ c ∷ back) h))
  at_end (y ∷ ys) x [] c back h = inr (ys, ap (λ z. z ∷ ys) (head_is y c (ys ++ x ∷ []) back h))
  at_end (y ∷ ys) x (f ∷ fs) c back h = by (at_end ys x fs c back (tail_is y f (ys ++ x ∷ []) (fs ++ c ∷ back) h))
    where
      first : y ≡ f
      first = head_is y f (ys ++ x ∷ []) (fs ++ c ∷ back) h

      by : ((ys ≡ fs) × (x ≡ c)) ⊎ ((rest : List A) × (ys ≡ fs ++ c ∷ rest)) → ((y ∷ ys ≡ f ∷ fs) × (x ≡ c)) ⊎ ((rest : List A) × (y ∷ ys ≡ (f ∷ fs) ++ c ∷ rest))
      by (inl k) = inl (ap (λ z. z ∷ ys) first ∙ ap (λ zs. f ∷ zs) k.0, k.1)
      by (inr k) = inr (k.0, ap (λ z. z ∷ ys) first ∙ ap (λ zs. f ∷ zs) k.1)

-- ---- places in a list

-- the items before a place are fewer than all
pub stands_below : (results : ℕ → Bool) (commands : List Command) (n : ℕ) (place : Place) → StandsAt results commands n place → n < length (items (performed results commands))
stands_below results commands n place h =
    let rest = items_more results (h.front ++ h.command ∷ []) h.back in
    let own = items_of_command results h.front h.command in
    let before = items (performed results h.front) in
    below n (length before) place.triangle (length own) (length rest.0) (length (items (performed results commands))) h.number h.within
    (ap (λ cs. length (items (performed results cs))) (h.split ∙ sym (append_assoc h.front (h.command ∷ []) h.back))
    ∙ ap length rest.1
    ∙ ap (λ is. length (is ++ rest.0)) (items_performed-push results h.front h.command)
    ∙ length-append (before ++ own) rest.0
    ∙ ap (λ k. k + length rest.0) (length-append before own))
  where
    below : (n b t o r all : ℕ) → n ≡ b + t → t < o → all ≡ (b + o) + r → n < all
    below n b t o r all p q e = omega arith

none_kept : (results : ℕ → Bool) (s : Settings) (n : ℕ) (place : Place) → StandsAt results (Kept s ∷ []) n place → ⊥
none_kept results s n place h = absurd (omega (arith, stands_below results (Kept s ∷ []) n place h))

-- nor does what a run keeps have an item
none_behind : (results : ℕ → Bool) (restore : Bool) (cs ds : List Command) (n : ℕ) (place : Place) → ds ≡ after_finish restore cs → StandsAt results ds n place → ⊥
none_behind results true cs ds n place is h = none_kept results _ n place (subst (λ l. StandsAt results l n place) is h)
none_behind results false cs ds n place is h = none_in h.front h.command h.back (sym is ∙ h.split)

accepted_before : (front back : List Command) → AreAccepted (front ++ back) → AreAccepted front
accepted_before front [] h = subst AreAccepted (append-nil front) h
accepted_before front (c ∷ cs) h = accepted_front front c (accepted_before (front ++ c ∷ []) cs (subst AreAccepted (sym (append_assoc front (c ∷ []) cs)) h))

-- where two results agree on all queries, an accepted list has its items at the same places
pub stands_same : (f g : ℕ → Bool) (commands : List Command) (n : ℕ) (place : Place) → AreAccepted commands → ((q : ℕ) → q < QUERY_LIMIT → f q ≡ g q) → StandsAt f commands n place → StandsAt g commands n place
stands_same f g commands n place accepted same h =
    let all : AreAccepted ((h.front ++ h.command ∷ []) ++ h.back) = subst AreAccepted (h.split ∙ sym (append_assoc h.front (h.command ∷ []) h.back)) accepted in
    let next : AreAccepted (h.front ++ h.command ∷ []) = accepted_before (h.front ++ h.command ∷ []) h.back all in
    let before : performed f h.front ≡ performed g h.front = performed_same f g h.front (accepted_front h.front h.command next) same in
    let behind : performed f (h.front ++ h.command ∷ []) ≡ performed g (h.front ++ h.command ∷ []) = performed_same f g (h.front ++ h.command ∷ []) next same in
    record {
      front = h.front;
      command = h.command;
      back = h.back;
      split = h.split;
      before = h.before;
      number = h.number ∙ ap (λ cs. length (items cs) + place.triangle) before;
      within = within place.triangle (length (items (performed f h.front))) (length (items (performed g h.front))) (length (items_of_command f h.front h.command)) (length (items_of_command g h.front h.command))
          (length (items (performed f (h.front ++ h.command ∷ [])))) (length (items (performed g (h.front ++ h.command ∷ [])))) h.within (ap (λ cs. length (items cs)) before) (ap (λ cs. length (items cs)) behind)
          (ap length (items_performed-push f h.front h.command) ∙ length-append (items (performed f h.front)) (items_of_command f h.front h.command))
          (ap length (items_performed-push g h.front h.command) ∙ length-append (items (performed g h.front)) (items_of_command g h.front h.command));
    }
  where
    within : (t a b l m u v : ℕ) → t < l → a ≡ b → u ≡ v → u ≡ a + l → v ≡ b + m → t < m
    within t a b l m u v p q r e d = omega arith

-- ---- steps

module _ (size : Size) where
  -- further steps change no origin
  pub origin_on : (steps more : List Step) (k : ℕ) (o : Origin) → IsOriginOf size steps k o → IsOriginOf size (steps ++ more) k o
  origin_on steps more k o h = record {
    front = h.front;
    step = h.step;
    back = h.back ++ more;
    split = ap (λ ss. ss ++ more) h.split ∙ append_assoc h.front (h.step ∷ h.back) more;
    before = h.before;
    comes = h.comes;
  }

  -- no item comes from a flush
  pub origin_unflushed : (steps : List Step) (k : ℕ) (o : Origin) → IsOriginOf size (steps ++ Flushes ∷ []) k o → IsOriginOf size steps k o
  origin_unflushed steps k o h = by (at_end steps Flushes h.front h.step h.back h.split)
    where
      by : ((steps ≡ h.front) × (Flushes ≡ h.step)) ⊎ ((rest : List Step) × (steps ≡ h.front ++ h.step ∷ rest)) → IsOriginOf size steps k o
      by (inl e) = absurd ((subst (λ s. ComesOf size h.front s k o.place) (sym e.1) h.comes).placed)
      by (inr e) = record { front = h.front; step = h.step; back = e.0; split = e.1; before = h.before; comes = h.comes }

  abbrev PendingCome : List Step → Type 0
  PendingCome steps = (c : Context) (n first : ℕ) (place : Place) → Stands size steps c → length steps ≡ first + length c.pending → StandsAt (told c) c.pending n place → IsOriginOf size steps (length (performed_items size (settled steps)) + n) (of_pending first place)

  module _ (ss : List Step) (k : Command) (c : Context) (h : Stands size (ss ++ Records k ∷ []) c) where
    abbrev earlier : Context
    earlier = record { stored = c.stored; results = c.results; pending = session.pending ss }

    pending_is : c.pending ≡ session.pending ss ++ k ∷ []
    pending_is = h.pending ∙ pending-push ss (Records k)

    stands_earlier : Stands size ss earlier
    stands_earlier = record {
      pixels = λ x y w v. h.pixels x y w v ∙ ap (λ zs. session_pixels size zs x y) (settled-record ss k);
      results = λ q l. h.results q l ∙ ap (λ zs. session_result size zs q) (settled-record ss k);
      none_open = ap open_now (sym (settled-record ss k)) ∙ h.none_open;
      pending = refl;
      accepted = accepted_front (session.pending ss) k (subst AreAccepted pending_is h.accepted);
    }

    recorded_comes : (n first : ℕ) (place : Place) → PendingCome ss → length (ss ++ Records k ∷ []) ≡ first + length c.pending → StandsAt (told c) c.pending n place → IsOriginOf size (ss ++ Records k ∷ []) (length (performed_items size (settled (ss ++ Records k ∷ []))) + n) (of_pending first place)
    recorded_comes n first place ih l s = by (at_end (session.pending ss) k s.front s.command s.back (sym pending_is ∙ s.split))
      where
        long : length c.pending ≡ length (session.pending ss) + 1
        long = ap length pending_is ∙ length-append (session.pending ss) (k ∷ [])

        ran : length (performed_items size (settled (ss ++ Records k ∷ []))) ≡ length (performed_items size (settled ss))
        ran = ap (λ zs. length (performed_items size zs)) (settled-record ss k)

        by : ((session.pending ss ≡ s.front) × (k ≡ s.command)) ⊎ ((rest : List Command) × (session.pending ss ≡ s.front ++ s.command ∷ rest)) → IsOriginOf size (ss ++ Records k ∷ []) (length (performed_items size (settled (ss ++ Records k ∷ []))) + n) (of_pending first place)
        by (inl e) = record {
          front = ss;
          step = Records k;
          back = [];
          split = refl;
          before = number (length (ss ++ Records k ∷ [])) (length ss) first (length c.pending) (length (session.pending ss)) place.command l (length-append ss (Records k ∷ [])) long (s.before ∙ ap length (sym e.0));
          comes = record {
            within = place.triangle;
            number = item _ (length (performed_items size (settled ss))) (length (items (performed (told c) (session.pending ss)))) n place.triangle (length (performed_items size ss)) ran
                (s.number ∙ ap (λ cs. length (items (performed (told c) cs)) + place.triangle) (sym e.0)) (pending_counts size ss earlier stands_earlier);
            below = small _ n (length (items (performed (told c) c.pending))) _ (stands_below (told c) c.pending n place s) (pending_counts size (ss ++ Records k ∷ []) c h);
            placed = (refl, refl);
          };
        }
          where
            number : (a b f p q m : ℕ) → a ≡ f + p → a ≡ b + 1 → p ≡ q + 1 → m ≡ q → f + m ≡ b
            number a b f p q m u v w z = omega arith

            item : (a b i n t all : ℕ) → a ≡ b → n ≡ i + t → all ≡ b + i → a + n ≡ all + t
            item a b i n t all u v w = omega arith

            small : (a n i all : ℕ) → n < i → all ≡ a + i → a + n < all
            small a n i all u v = omega arith
        by (inr e) =
            let o = of_pending first place in
            let own : IsOriginOf size ss (length (performed_items size (settled ss)) + n) o = ih earlier n first place stands_earlier (fewer (length (ss ++ Records k ∷ [])) (length ss) first (length c.pending) (length (session.pending ss)) l (length-append ss (Records k ∷ [])) long)
            record { front = s.front; command = s.command; back = e.0; split = e.1; before = s.before; number = s.number; within = s.within } in
            subst (λ m. IsOriginOf size (ss ++ Records k ∷ []) (m + n) o) (sym ran) (origin_on ss (Records k ∷ []) (length (performed_items size (settled ss)) + n) o own)
          where
            fewer : (a b f p q : ℕ) → a ≡ f + p → a ≡ b + 1 → p ≡ q + 1 → b ≡ f + q
            fewer a b f p q u v w = omega arith

  -- an item of the pending commands comes from the step that recorded its command
  pub pending_comes : (steps : List Step) → PendingCome steps
  pending_comes steps = by_steps PendingCome start next steps
    where
      start : PendingCome []
      start c n first place h l s = absurd (none_in s.front s.command s.back (sym h.pending ∙ s.split))

      next : (ss : List Step) (s : Step) → PendingCome ss → PendingCome (ss ++ s ∷ [])
      next ss (Records k) ih c n first place h l s = recorded_comes ss k c h n first place ih l s
      next ss (Executes commands restore) ih c n first place h l s =
          absurd (none_behind (told c) restore (all_seen ss) c.pending n place (h.pending ∙ pending-push ss (Executes commands restore)) s)
      next ss Flushes ih c n first place h l s = absurd (none_behind (told c) true (all_seen ss) c.pending n place (h.pending ∙ pending-push ss Flushes) s)

  -- an item of a list comes from the step that executes it
  pub executed_comes : (steps : List Step) (c : Context) (list : List Command) (restore : Bool) (n : ℕ) (place : Place) → Stands size steps c → queries_open c.pending ≡ [] → AreAccepted list → StandsAt (λ q. result_of (answered size c q)) list n place
      → IsOriginOf size (steps ++ Executes list restore ∷ []) (length (performed_items size steps) + n) (record { step = length steps; place = place })
  executed_comes steps c list restore n place h none accepted s = record {
    front = steps;
    step = Executes list restore;
    back = [];
    split = refl;
    before = refl;
    comes = record {
      within = n;
      number = refl;
      below = small (length (performed_items size steps)) n (length (items (performed_next size c list))) (length (performed_items size (steps ++ Executes list restore ∷ []))) (stands_below (λ q. result_of (answered size c q)) list n place s)
          (execution_counts size steps c h list restore none accepted);
      placed = stands_same (λ q. result_of (answered size c q)) (results_behind size (performed_session size steps)) list n place accepted (λ q l. answers_told size steps c h q l none) s;
    };
  }
    where
      small : (a n i all : ℕ) → n < i → all ≡ a + i → a + n < all
      small a n i all u v = omega arith
