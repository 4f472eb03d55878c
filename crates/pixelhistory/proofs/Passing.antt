-- A trace through a list, command by command, with the origins of its events.
use Rattle.std.proofs.Common.{◌≡◌, ◌∙◌, ap, sym, subst, refl, arith, ℕ, ◌+◌, ◌-◌, ◌<◌, ◌≤◌, Bool, true, false, if◌then◌else◌, List, [], ◌∷◌, ◌++◌, length, map, take, drop, get_or, append_assoc, append-nil, length-append}
use Rattle.std.specs.Prelude.{All}
use Rattle.std.proofs.lemmas.List.{take_all, take_more, length-take, length-take-le, length-drop, get_or-drop, drop-append-le, map-append}
use Rattle.std.proofs.lemmas.List.Elements.{All-nil, All-cons, All-head, All-tail, All-get_or, All-weaker, All-append}
use Rattle.std.proofs.Math.Seq.{drop-append_seam}
use Rattle.std.proofs.Math.ListN.{drop_of_length-le}
use Rattle.gfxspec.specs.declared.pixel.Pixel.{Pixel}
use Rattle.gfxspec.specs.State.{Settings}
use Rattle.gfxspec.specs.Items.{Item, after_item, after_items}
use Rattle.gfxspec.specs.Commands.{Command}
use Rattle.gfxspec.specs.Recorded.{settings_after, open_after, items, triangle_count}
use Rattle.gfxspec.specs.Accepted.{AreAccepted}
use Rattle.gfxspec.specs.Predication.{performed}
use Rattle.meaning.specs.OneMore.{settings_with, triangles_of, performed_items}
use Rattle.meaning.proofs.Withheld.{items_performed-push}
use Rattle.command.specs.declared.command.Command.{Command as Code}
use Rattle.command.specs.Seen.{command_value}
use Rattle.binner.proofs.Accepted.{done, done_more, accepted_at, within_limits}
use Rattle.pixelevents.specs.declared.Event.{Event}
use Rattle.pixelevents.specs.declared.Origin.{Origin}
use Rattle.pixelevents.specs.History.{event, events_at, history_from, touches}
use Rattle.pixelevents.specs.Origins.{AreNamed}
use Rattle.pixelevents.proofs.HistoryLaws.{follow}
use Rattle.pixelevents.proofs.OriginLaws.{named_both, named_as}
use Rattle.pixelhistory.specs.declared.trace.Trace.{Trace}
use Rattle.pixelhistory.specs.declared.session.StepsOf.{StepsOf}
use Rattle.pixelhistory.specs.declared.session.StepsOf.TheVariants as steps
use Rattle.pixelhistory.specs.declared.session.SessionTrace.{SessionTrace}
use Rattle.pixelhistory.specs.Tracing.{GoesPast}
use Rattle.pixelhistory.specs.Passing.{origin_at, origin_behind, ComesFrom, Comes, PassesList}
use Rattle.pixelhistory.proofs.Listing.{SoFar, so_far, one_more, all_taken, performed_few}

-- ---- numbers of events

-- the number of an event is that of one of the items
abbrev pub IsAmong : ℕ → ℕ → Event → Type 0
IsAmong k n e = (k ≤ e.item) × (e.item < k + n)

all_wider : (k l m n : ℕ) → k ≤ l → l + m ≤ k + n → (es : List Event) → All (IsAmong l m) es → All (IsAmong k n) es
all_wider k l m n a b es h = All-weaker (IsAmong l m) (IsAmong k n) (λ e g. (low e.item g.0, high e.item g.1)) es h
  where
    low : (i : ℕ) → l ≤ i → k ≤ i
    low i v = omega (arith, a)

    high : (i : ℕ) → i < l + m → i < k + n
    high i v = omega (arith, b)

pub numbers : (k : ℕ) (is : List Item) (x y : ℕ) (old : Pixel) → All (IsAmong k (length is)) (history_from k is x y old)
numbers k [] x y old = All-nil (IsAmong k 0)
numbers k (i ∷ is) x y old =
    let n = length (i ∷ is) in
    All-append (IsAmong k n) (events_at k i x y old) (history_from (k + 1) is x y (after_item i x y old)) (own (touches i x y))
    (all_wider k (k + 1) (length is) n (omega arith) (omega arith) (history_from (k + 1) is x y (after_item i x y old)) (numbers (k + 1) is x y (after_item i x y old)))
  where
    own : (b : Bool) → All (IsAmong k (length (i ∷ is))) (if b then event k i x y old ∷ [] else [])
    own true = All-cons (IsAmong k (length (i ∷ is))) (event k i x y old) [] (omega arith, omega arith) (All-nil (IsAmong k (length (i ∷ is))))
    own false = All-nil (IsAmong k (length (i ∷ is)))

-- so they fit
pub numbers_fit : (k n : ℕ) (es : List Event) → n ≤ 65537 → All (IsAmong k n) es → All (λ (e : Event). (k ≤ e.item) × (e.item < k + 4294967296)) es
numbers_fit k n es l h = all_wider k k n 4294967296 (omega arith) (omega (arith, l)) es h

-- each has the origin that its number gives it
pub each_named : (P : ℕ → Origin → Type 0) (f : Event → Origin) (k n : ℕ) → ((e : Event) → k ≤ e.item → e.item < k + n → P e.item (f e)) → (es : List Event) → All (IsAmong k n) es → AreNamed P es (map f es)
each_named P f k n on [] h = tt
each_named P f k n on (e ∷ es) h =
    let own = All-head (IsAmong k n) e es h in
    (on e own.0 own.1, each_named P f k n on es (All-tail (IsAmong k n) e es h))

-- ---- commands

-- the item of a number behind some has its origin in a list, with more commands behind it too
comes_on : (results : ℕ → Bool) (xs : List Command) (c : Command) (s : StepsOf) (step n : ℕ) (o : Origin) → ComesFrom results xs s step n o → ComesFrom results (xs ++ c ∷ []) s step n o
comes_on results xs c s step n o h = record {
  place = h.place;
  stands = record {
    front = h.stands.front;
    command = h.stands.command;
    back = h.stands.back ++ c ∷ [];
    split = ap (λ l. l ++ c ∷ []) h.stands.split ∙ append_assoc h.stands.front (h.stands.command ∷ h.stands.back) (c ∷ []);
    before = h.stands.before;
    number = h.stands.number;
    within = h.stands.within;
  };
  is = h.is;
}

origin_is : (s : StepsOf) (step number first : ℕ) (origin : Origin) (e : Event) → origin ≡ origin_at step s number 0 → origin_behind first origin e ≡ origin_at step s number (e.item - first)
origin_is steps.Each step number first origin e h = ap (λ o. origin_behind first o e) h
origin_is steps.List step number first origin e h = ap (λ o. origin_behind first o e) h

-- ---- the origins of events from a number on

module _ {A : Type 0} (from first : ℕ) (origin : Origin) where
  -- those of the events below this number were added
  pub record Added (number : ℕ) (start now : SessionTrace A) : Type 0 where
    pub trace : now.trace ≡ start.trace
    pub step : now.step ≡ start.step
    pub origins : now.origins.items ≡ start.origins.items ++ map (origin_behind first origin) (drop from (take number start.trace.events.items))
    pub low : from ≤ number

  pub added_none : (start : SessionTrace A) → Added from start start
  added_none start = record {
    trace = refl;
    step = refl;
    origins = sym (append-nil start.origins.items)
        ∙ ap (λ es. start.origins.items ++ map (origin_behind first origin) es) (sym (drop_of_length-le (take from start.trace.events.items) (omega (arith, length-take from start.trace.events.items))));
    low = omega arith;
  }

  pub added_more : (number : ℕ) (d : Event) (start now new : SessionTrace A) → number < length start.trace.events.items → Added number start now → new.trace ≡ now.trace → new.step ≡ now.step → new.origins.items ≡ now.origins.items ++ origin_behind first origin (get_or start.trace.events.items number d) ∷ [] → Added (number + 1) start new
  added_more number d start now new l h a b c =
      let es = start.trace.events.items in
      let f = origin_behind first origin in
      let e = get_or es number d in
      record {
        trace = a ∙ h.trace;
        step = b ∙ h.step;
        origins = c
            ∙ ap (λ os. os ++ f e ∷ []) h.origins
            ∙ append_assoc start.origins.items (map f (drop from (take number es))) (f e ∷ [])
            ∙ ap (λ os. start.origins.items ++ os)
            (sym (map-append f (drop from (take number es)) (e ∷ []))
            ∙ ap (map f) (sym (drop-append-le from (take number es) (e ∷ []) (long from number (length (take number es)) h.low (length-take-le number es (omega (arith, l)))))
            ∙ ap (drop from) (sym (take_more es number d l))));
        low = omega (arith, h.low);
      }
    where
      long : (f n l : ℕ) → f ≤ n → l ≡ n → f ≤ l
      long f n l p q = omega arith

  -- so the next one's number fits
  pub added_fit : (number : ℕ) (d : Event) (start now : SessionTrace A) → number < length now.trace.events.items → Added number start now → All (λ (e : Event). (first ≤ e.item) × (e.item < first + 4294967296)) (drop from start.trace.events.items) → (first ≤ (get_or now.trace.events.items number d).item) × ((get_or now.trace.events.items number d).item < first + 4294967296)
  added_fit number d start now l h fit =
      let es = now.trace.events.items in
      let same : drop from es ≡ drop from start.trace.events.items = ap (λ (t : Trace A). drop from t.events.items) h.trace in
      let P : Event → Type 0 = λ e. (first ≤ e.item) × (e.item < first + 4294967296) in
      let at : number - from < length (drop from es) = long number from (length es) (length (drop from es)) h.low l (length-drop from es) in
      subst P (get_or-drop from es (number - from) d ∙ ap (λ n. get_or es n d) (back number from h.low)) (All-get_or P (drop from es) (number - from) d at (subst (All P) (sym same) fit))
    where
      long : (n f l k : ℕ) → f ≤ n → n < l → k ≡ l - f → n - f < k
      long n f l k p q r = omega arith

      back : (n f : ℕ) → f ≤ n → f + (n - f) ≡ n
      back n f p = omega arith

  pub added_all : (number : ℕ) (start now : SessionTrace A) → length start.trace.events.items ≤ number → Added number start now → now.origins.items ≡ start.origins.items ++ map (origin_behind first origin) (drop from start.trace.events.items)
  added_all number start now all h =
      h.origins ∙ ap (λ es. start.origins.items ++ map (origin_behind first origin) (drop from es)) (take_all number start.trace.events.items all)

module _ {A : Type 0} (results : ℕ → Bool) (cs : List (Code A)) (s : StepsOf) (x y : ℕ) where
  -- the first i commands were gone past, and their events have origins
  pub record Passed (i number : ℕ) (state : Settings) (start now : SessionTrace A) : Type 0 where
    pub taken : SoFar results cs x y i state start.trace now.trace
    pub number_is : number ≡ length (done cs i)
    pub more : List Origin
    pub origins : now.origins.items ≡ start.origins.items ++ more
    pub named : AreNamed (Comes results (done cs i) s start.step start.trace.items) (history_from start.trace.items (items (performed results (done cs i))) x y start.trace.pixel) more
    pub step : now.step ≡ start.step

  pub passed_none : (state : Settings) (start : SessionTrace A) → state ≡ settings_after [] → Passed 0 0 state start start
  passed_none state start e = record {
    taken = so_far results cs x y state start.trace e;
    number_is = refl;
    more = [];
    origins = sym (append-nil start.origins.items);
    named = tt;
    step = refl;
  }

  pub few_commands : (i number : ℕ) (d : Code A) (state : Settings) (start now : SessionTrace A) → AreAccepted (map command_value cs) → i < length cs → Passed i number state start now → number < 65536
  few_commands i number d state start now accepted l h =
      subst (λ n. n < 65536) (sym h.number_is) ((within_limits (done cs i) (command_value (get_or cs i d)) (accepted_at cs i d accepted l)).0)

  -- the events of one more command
  pub new_events : (state : Settings) (c : Command) (now after : Trace A) → ((opened : List ℕ) → GoesPast (performed_items results state opened c) x y now after) → (opened : List ℕ) → drop (length now.events.items) after.events.items ≡ history_from now.items (performed_items results state opened c) x y now.pixel
  new_events state c now after past opened =
      ap (drop (length now.events.items)) ((past opened).events) ∙ drop-append_seam now.events.items (history_from now.items (performed_items results state opened c) x y now.pixel)

  pub new_fit : (i number : ℕ) (d : Code A) (state : Settings) (start now : SessionTrace A) (after : Trace A) → AreAccepted (map command_value cs) → i < length cs → Passed i number state start now → ((opened : List ℕ) → GoesPast (performed_items results state opened (command_value (get_or cs i d))) x y now.trace after)
      → All (λ (e : Event). (now.trace.items ≤ e.item) × (e.item < now.trace.items + 4294967296)) (drop (length now.trace.events.items) after.events.items)
  new_fit i number d state start now after accepted l h past =
      let c = command_value (get_or cs i d) in
      let xs = done cs i in
      let own = performed_items results state [] c in
      let w = within_limits xs c (accepted_at cs i d accepted l) in
      subst (All (λ (e : Event). (now.trace.items ≤ e.item) × (e.item < now.trace.items + 4294967296))) (sym (new_events state c now.trace after past []))
      (numbers_fit now.trace.items (length own) (history_from now.trace.items own x y now.trace.pixel)
      (small (length own) (triangle_count xs) (triangles_of state c) (performed_few results state [] c) (subst (λ u. triangle_count xs + triangles_of u c ≤ 65536) (sym h.taken.state) w.1))
      (numbers now.trace.items own x y now.trace.pixel))
    where
      small : (n t k : ℕ) → n ≤ k + 1 → t + k ≤ 65536 → n ≤ 65537
      small n t k p q = omega arith

  pub passed_more : (i number : ℕ) (d : Code A) (state behind : Settings) (start now new : SessionTrace A) (after : Trace A) (origin : Origin) → i < length cs → Passed i number state start now
      → ((opened : List ℕ) → GoesPast (performed_items results state opened (command_value (get_or cs i d))) x y now.trace after) → behind ≡ settings_with (command_value (get_or cs i d)) state
      → new.trace ≡ after → new.step ≡ now.step → origin ≡ origin_at now.step s number 0
      → new.origins.items ≡ now.origins.items ++ map (origin_behind now.trace.items origin) (drop (length now.trace.events.items) after.events.items) → Passed (i + 1) (number + 1) behind start new
  passed_more i number d state behind start now new after origin l h past e trace step origin_eq origins =
      let c = command_value (get_or cs i d) in
      let xs = done cs i in
      let ys = done cs (i + 1) in
      let grown : ys ≡ xs ++ c ∷ [] = done_more cs i d l in
      let first = now.trace.items in
      let own = performed_items results state (open_after xs) c in
      let before = items (performed results xs) in
      let es = history_from first own x y now.trace.pixel in
      let named_by = origin_behind first origin in
      record {
        taken = subst (λ t. SoFar results cs x y (i + 1) behind start.trace t) (sym trace) (one_more results cs x y i d state behind start.trace now.trace after l h.taken past e);
        number_is = ap (λ n. n + 1) h.number_is ∙ sym (length-append xs (c ∷ [])) ∙ ap length (sym grown);
        more = h.more ++ map named_by es;
        origins = origins
            ∙ ap (λ l. now.origins.items ++ map named_by l) (new_events state c now.trace after past (open_after xs))
            ∙ ap (λ l. l ++ map named_by es) h.origins
            ∙ append_assoc start.origins.items h.more (map named_by es);
        named = subst (λ zs. AreNamed (Comes results zs s start.step start.trace.items) (history_from start.trace.items (items (performed results zs)) x y start.trace.pixel) (h.more ++ map named_by es)) (sym grown)
            (subst (λ l. AreNamed (Comes results (xs ++ c ∷ []) s start.step start.trace.items) l (h.more ++ map named_by es))
            (sym (ap (λ is. history_from start.trace.items is x y start.trace.pixel) (items_performed-push results xs c ∙ ap (λ u. before ++ performed_items results u (open_after xs) c) (sym h.taken.state))
            ∙ follow start.trace.items before own x y start.trace.pixel
            ∙ ap (λ k. history_from start.trace.items before x y start.trace.pixel ++ history_from k own x y (after_items before x y start.trace.pixel)) (sym h.taken.past.items)
            ∙ ap (λ p. history_from start.trace.items before x y start.trace.pixel ++ history_from first own x y p) (sym h.taken.past.pixel)))
            (named_both (Comes results (xs ++ c ∷ []) s start.step start.trace.items) (history_from start.trace.items before x y start.trace.pixel) es h.more (map named_by es)
            (named_as (Comes results xs s start.step start.trace.items) (Comes results (xs ++ c ∷ []) s start.step start.trace.items) (λ k o given. (given.0, given.1, comes_on results xs c s start.step given.0 o given.2)) (history_from start.trace.items before x y start.trace.pixel) h.more h.named)
            (each_named (Comes results (xs ++ c ∷ []) s start.step start.trace.items) named_by first (length own) (λ e low high. one e low high) es (numbers first own x y now.trace.pixel))));
        step = step ∙ h.step;
      }
    where
      one : (e : Event) → now.trace.items ≤ e.item → e.item < now.trace.items + length (performed_items results state (open_after (done cs i)) (command_value (get_or cs i d))) → Comes results (done cs i ++ command_value (get_or cs i d) ∷ []) s start.step start.trace.items e.item (origin_behind now.trace.items origin e)
      one e low high =
          let n = length (items (performed results (done cs i))) + (e.item - now.trace.items) in
          let c = command_value (get_or cs i d) in
          let xs = done cs i in (
            n,
            behind_all e.item start.trace.items now.trace.items (length (items (performed results xs))) low h.taken.past.items,
            record {
              place = record { command = number; triangle = e.item - now.trace.items };
              stands = record {
                front = xs;
                command = c;
                back = [];
                split = refl;
                before = h.number_is;
                number = refl;
                within = within e.item now.trace.items (length (performed_items results state (open_after xs) c)) (length (performed_items results (settings_after xs) (open_after xs) c)) low high
                    (ap (λ u. length (performed_items results u (open_after xs) c)) h.taken.state);
              };
              is = origin_is s start.step number now.trace.items origin e (origin_eq ∙ ap (λ k. origin_at k s number 0) h.step);
            },
          )
        where
          behind_all : (k a b l : ℕ) → b ≤ k → b ≡ a + l → k ≡ a + (l + (k - b))
          behind_all k a b l q r = omega arith

          within : (k b l m : ℕ) → b ≤ k → k < b + l → l ≡ m → k - b < m
          within k b l m p q r = omega arith

  pub all_passed : (i number : ℕ) (state : Settings) (start now : SessionTrace A) → length cs ≡ i → Passed i number state start now → PassesList results (map command_value cs) s x y start now
  all_passed i number state start now all h =
      let whole : done cs i ≡ map command_value cs = ap (map command_value) (take_all i cs (omega (arith, all))) in
      record {
        past = all_taken results cs x y i state start.trace now.trace all h.taken;
        more = h.more;
        origins = h.origins;
        named = subst (λ zs. AreNamed (Comes results zs s start.step start.trace.items) (history_from start.trace.items (items (performed results zs)) x y start.trace.pixel) h.more) whole h.named;
        step = h.step;
      }
