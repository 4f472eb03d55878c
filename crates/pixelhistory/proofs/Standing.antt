-- A trace beside a session: what each run makes of it.
use Rattle.std.proofs.Common.{◌≡◌, ◌∙◌, ap, sym, subst, refl, arith, ℕ, ◌+◌, ◌<◌, Bool, true, false, if◌then◌else◌, List, [], ◌∷◌, ◌++◌, length, append_assoc, length-append}
use Rattle.std.specs.List.{list_any}
use Rattle.gfxspec.specs.declared.geometry.Size.{Size}
use Rattle.gfxspec.specs.declared.pixel.Pixel.{Pixel}
use Rattle.gfxspec.specs.State.{Settings}
use Rattle.gfxspec.specs.Items.{Item, after_items}
use Rattle.gfxspec.specs.Commands.{Command, Kept}
use Rattle.gfxspec.specs.Recorded.{items, queries_open, after_finish}
use Rattle.gfxspec.specs.Accepted.{AreAccepted}
use Rattle.gfxspec.specs.Session as session
use Rattle.gfxspec.specs.Session.{Step, Records, Executes, Flushes, all_seen}
use Rattle.gfxspec.specs.Predication.{performed, result_of}
use Rattle.meaning.specs.Contexts.{Context, HasRun, result_after, result_at, answered, performed_pending, performed_next, shown}
use Rattle.meaning.specs.Standing.{is_run, settled, Stands}
use Rattle.meaning.proofs.Standing.{settled-record, settled-run}
use Rattle.meaning.proofs.Sessions.{pending-push}
use Rattle.meaning.proofs.Contexts.{shows}
use Rattle.meaning.proofs.Flushing.{performed-flush}
use Rattle.pixelevents.specs.declared.Event.{Event}
use Rattle.pixelevents.specs.declared.Place.{Place}
use Rattle.pixelevents.specs.declared.Origin.{Origin}
use Rattle.pixelevents.specs.History.{history_from}
use Rattle.pixelevents.specs.Origins.{AreNamed, IsOriginOf, told}
use Rattle.pixelevents.specs.Sessions.{performed_items, session_history, GrowsBy}
use Rattle.pixelevents.proofs.SessionLaws.{pending_adds, execution_adds, flush_keeps_items}
use Rattle.pixelevents.proofs.OriginLaws.{named_both, named_as, origin_on, origin_unflushed, stands_same, pending_comes, executed_comes}
use Rattle.pixelhistory.specs.declared.trace.Trace.{Trace}
use Rattle.pixelhistory.specs.Tracing.{IsTraceOf, GoesPast}
use Rattle.pixelhistory.specs.declared.session.StepsOf.TheVariants as steps_of
use Rattle.pixelhistory.specs.declared.session.SessionTrace.{SessionTrace}
use Rattle.pixelhistory.specs.Passing.{Comes, PassesList}
use Rattle.pixelhistory.specs.Standing.{TracesAll, Traces}

-- it went past all that ran of a session
abbrev PastRuns : {A : Type 0} → Size → List Step → ℕ → ℕ → Trace A → Type 0
PastRuns size steps x y t = IsTraceOf (performed_items size (settled steps)) x y t

-- the steps that ran are the first
settled_front : (steps : List Step) → (rest : List Step) × (steps ≡ settled steps ++ rest)
settled_front [] = ([], refl)
settled_front (s ∷ ss) = by (settled_front ss) (list_any is_run (s ∷ ss))
  where
    by : (rest : List Step) × (ss ≡ settled ss ++ rest) → (b : Bool) → (rest : List Step) × (s ∷ ss ≡ (if b then s ∷ settled ss else []) ++ rest)
    by h true = (h.0, ap (λ l. s ∷ l) h.1)
    by h false = (s ∷ ss, refl)

-- how many steps a run is before the first pending command, beside the one that it keeps
abbrev kept_count : Bool → ℕ
kept_count restore = if restore then 0 else 1

after_count : (restore : Bool) (cs : List Command) → length (after_finish restore cs) + kept_count restore ≡ 1
after_count true cs = refl
after_count false cs = refl

module _ {A : Type 0} where
  moved : (size : Size) (x y : ℕ) (before behind : List Step) (is : List Item) (p : Pixel) (t u : Trace A) → GrowsBy size x y before behind is p → p ≡ t.pixel → IsTraceOf (performed_items size before) x y t → GoesPast is x y t u → IsTraceOf (performed_items size behind) x y u
  moved size x y before behind is p t u g e h k = record {
    pixel = k.pixel ∙ ap (after_items is x y) (sym e) ∙ sym g.left;
    items = k.items ∙ ap (λ n. n + length is) h.items ∙ sym g.items;
    events = k.events
        ∙ ap (λ es. es ++ history_from t.items is x y t.pixel) h.events
        ∙ ap (λ n. session_history size before x y ++ history_from n is x y t.pixel) h.items
        ∙ ap (λ q. session_history size before x y ++ history_from (length (performed_items size before)) is x y q) (sym e)
        ∙ sym g.events;
  }

  -- past what is pending: the whole session so far
  past_all : (size : Size) (steps : List Step) (c : Context) (x y : ℕ) (t u : Trace A) → Stands size steps c → x < size.width → y < size.height → PastRuns size steps x y t → GoesPast (items (performed_pending c)) x y t u → IsTraceOf (performed_items size steps) x y u
  past_all size steps c x y t u h w v tr k =
      moved size x y (settled steps) steps (items (performed_pending c)) (c.stored x y) t u (pending_adds size steps c h x y w v) (h.pixels x y w v ∙ sym tr.pixel) tr k

  -- past a flush
  past_flush : (size : Size) (steps : List Step) (c : Context) (x y : ℕ) (t u : Trace A) → Stands size steps c → x < size.width → y < size.height → PastRuns size steps x y t → GoesPast (items (performed_pending c)) x y t u → PastRuns size (steps ++ Flushes ∷ []) x y u
  past_flush size steps c x y t u h w v tr k =
      subst (λ ss. IsTraceOf (performed_items size ss) x y u) (sym (settled-run steps Flushes refl))
      (subst (λ is. IsTraceOf is x y u) (sym (flush_keeps_items size steps)) (past_all size steps c x y t u h w v tr k))

  -- past a list that is executed where the kept state alone is pending
  past_list : (size : Size) (steps : List Step) (c : Context) (s : Settings) (list : List Command) (restore : Bool) (x y : ℕ) (t u : Trace A) → c.pending ≡ Kept s ∷ [] → Stands size steps c → AreAccepted list → x < size.width → y < size.height → IsTraceOf (performed_items size steps) x y t → GoesPast (items (performed (λ q. result_of (result_at c.results q)) list)) x y t u → PastRuns size (steps ++ Executes list restore ∷ []) x y u
  past_list size steps c s list restore x y t u kept h accepted w v tr k =
      subst (λ ss. IsTraceOf (performed_items size ss) x y u) (sym (settled-run steps (Executes list restore) refl))
      (moved size x y steps (steps ++ Executes list restore ∷ []) (items (performed_next size c list)) (shown c x y) t u
      (execution_adds size steps c h list restore x y (ap queries_open kept) accepted w v) (sym pixel) tr
      (subst (λ l. GoesPast (items l) x y t u) (sym same) k))
    where
      same : performed_next size c list ≡ performed (λ q. result_of (result_at c.results q)) list
      same = ap (λ p. performed (λ q. result_of (result_after size (performed (λ q. result_of (result_at c.results q)) p) c.stored q (result_at c.results q))) list) kept

      pixel : t.pixel ≡ shown c x y
      pixel = tr.pixel ∙ sym ((shows size steps c h).pixels x y w v)

  -- a flush before an execution is forgotten
  past_forgotten : (size : Size) (steps : List Step) (list : List Command) (restore : Bool) (x y : ℕ) (t : Trace A) → PastRuns size ((steps ++ Flushes ∷ []) ++ Executes list restore ∷ []) x y t → PastRuns size (steps ++ Executes list restore ∷ []) x y t
  past_forgotten size steps list restore x y t h =
      subst (λ is. IsTraceOf is x y t)
      (ap (performed_items size) (settled-run (steps ++ Flushes ∷ []) (Executes list restore) refl ∙ append_assoc steps (Flushes ∷ []) (Executes list restore ∷ []))
      ∙ performed-flush size steps (Executes list restore ∷ [])
      ∙ ap (performed_items size) (sym (settled-run steps (Executes list restore) refl)))
      h

  -- ---- with the origins of events

  -- further events with their origins
  named_more : (P Q : ℕ → Origin → Type 0) (t u : SessionTrace A) (es : List Event) (more : List Origin) → u.trace.events.items ≡ t.trace.events.items ++ es → u.origins.items ≡ t.origins.items ++ more → ((k : ℕ) (o : Origin) → P k o → Q k o) → AreNamed P t.trace.events.items t.origins.items → AreNamed Q es more → AreNamed Q u.trace.events.items u.origins.items
  named_more P Q t u es more a b on h k =
      subst (λ l. AreNamed Q l u.origins.items) (sym a) (subst (λ l. AreNamed Q (t.trace.events.items ++ es) l) (sym b)
      (named_both Q t.trace.events.items es t.origins.items more (named_as P Q on t.trace.events.items t.origins.items h) k))

  module _ (size : Size) (steps : List Step) (c : Context) (x y : ℕ) (t u : SessionTrace A) (h : Stands size steps c) (w : x < size.width) (v : y < size.height) (tr : Traces size steps x y t) (k : PassesList (told c) c.pending steps_of.Each x y t u) where
    comes : (item : ℕ) (o : Origin) → Comes (told c) c.pending steps_of.Each t.step t.trace.items item o → IsOriginOf size steps item o
    comes item o g =
        let from = g.2 in
        let first : length steps ≡ t.step + length c.pending = tr.first ∙ ap (λ cs. t.step + length cs) (sym h.pending) in
        subst (λ i. IsOriginOf size steps i o) (sym (g.1 ∙ ap (λ i. i + g.0) tr.ran.past.items))
        (subst (IsOriginOf size steps (length (performed_items size (settled steps)) + g.0)) (sym from.is) (pending_comes size steps c g.0 t.step from.place h first from.stands))

    -- past what is pending: the whole session so far
    pub traced_all : TracesAll size steps x y u
    traced_all =
        let front = settled_front steps in
        record {
          past = past_all size steps c x y t.trace u.trace h w v tr.ran.past k.past;
          named = named_more (IsOriginOf size (settled steps)) (IsOriginOf size steps) t u _ k.more k.past.events k.origins
              (λ i o g. subst (λ ss. IsOriginOf size ss i o) (sym front.1) (origin_on size (settled steps) front.0 i o g)) tr.ran.named
              (named_as (Comes (told c) c.pending steps_of.Each t.step t.trace.items) (IsOriginOf size steps) comes _ k.more k.named);
        }

    -- past a flush
    pub traced_flush : (z : SessionTrace A) (count : ℕ) → count ≡ length c.pending → z.trace ≡ u.trace → z.origins ≡ u.origins → z.step ≡ u.step + count → Traces size (steps ++ Flushes ∷ []) x y z
    traced_flush z count many trace origins step = record {
      ran = subst (λ ss. TracesAll size ss x y z) (sym (settled-run steps Flushes refl)) record {
        past = subst (λ (p : Trace A). IsTraceOf (performed_items size (steps ++ Flushes ∷ [])) x y p) (sym trace) (subst (λ is. IsTraceOf is x y u.trace) (sym (flush_keeps_items size steps)) traced_all.past);
        named = subst (λ (p : Trace A). AreNamed (IsOriginOf size (steps ++ Flushes ∷ [])) p.events.items z.origins.items) (sym trace)
            (subst (λ os. AreNamed (IsOriginOf size (steps ++ Flushes ∷ [])) u.trace.events.items os) (sym (ap (λ os. os.items) origins))
            (named_as (IsOriginOf size steps) (IsOriginOf size (steps ++ Flushes ∷ [])) (λ i o g. origin_on size steps (Flushes ∷ []) i o g) u.trace.events.items u.origins.items traced_all.named));
      };
      first = behind_run (length (steps ++ Flushes ∷ [])) (length steps) t.step u.step z.step count (length c.pending) (length (session.pending steps)) (length (session.pending (steps ++ Flushes ∷ []))) (length-append steps (Flushes ∷ [])) tr.first (ap length h.pending) k.step many step (ap length (pending-push steps Flushes));
    }
      where
        behind_run : (n m a b d e p q l : ℕ) → n ≡ m + 1 → m ≡ a + q → p ≡ q → b ≡ a → e ≡ p → d ≡ b + e → l ≡ 1 → n ≡ d + l
        behind_run n m a b d e p q l h1 h2 h3 h4 h5 h6 h7 = omega arith

  -- past a list that is executed behind a flush
  pub traced_list : (size : Size) (steps : List Step) (a m : Context) (s : Settings) (list : List Command) (restore : Bool) (x y : ℕ) (t u z : SessionTrace A) (count : ℕ) → m.pending ≡ Kept s ∷ [] → Stands size steps a → HasRun size [] true a m → Stands size (steps ++ Flushes ∷ []) m → queries_open a.pending ≡ [] → AreAccepted list → x < size.width → y < size.height → Traces size (steps ++ Flushes ∷ []) x y t → PassesList (told m) list steps_of.List x y t u
      → z.trace ≡ u.trace → z.origins ≡ u.origins → z.step ≡ u.step + count → count ≡ kept_count restore → Traces size (steps ++ Executes list restore ∷ []) x y z
  traced_list size steps a m s list restore x y t u z count kept h ran flushed none accepted w v tr k trace origins step counted = record {
    ran = subst (λ ss. TracesAll size ss x y z) (sym (settled-run steps (Executes list restore) refl)) record {
      past = subst (λ (p : Trace A). IsTraceOf (performed_items size (steps ++ Executes list restore ∷ [])) x y p) (sym trace)
          (subst (λ ss. IsTraceOf (performed_items size ss) x y u.trace) (settled-run steps (Executes list restore) refl)
          (past_forgotten size steps list restore x y u.trace
          (past_list size (steps ++ Flushes ∷ []) m s list restore x y t.trace u.trace kept flushed accepted w v flushed_all.past k.past)));
      named = subst (λ (p : Trace A). AreNamed Q p.events.items z.origins.items) (sym trace)
          (subst (λ os. AreNamed Q u.trace.events.items os) (sym (ap (λ os. os.items) origins))
          (named_more (IsOriginOf size (steps ++ Flushes ∷ [])) Q t u _ k.more k.past.events k.origins
          (λ i o g. origin_on size steps (Executes list restore ∷ []) i o (origin_unflushed size steps i o g)) flushed_all.named
          (named_as (Comes (told m) list steps_of.List t.step t.trace.items) Q comes _ k.more k.named)));
    };
    first = behind_run (length (steps ++ Executes list restore ∷ [])) (length steps) t.step u.step z.step count (kept_count restore) (length (session.pending (steps ++ Executes list restore ∷ []))) (length-append steps (Executes list restore ∷ [])) step_is k.step counted step
        (ap (λ cs. length cs + kept_count restore) (pending-push steps (Executes list restore)) ∙ after_count restore (all_seen steps));
  }
    where
      Q : ℕ → Origin → Type 0
      Q = IsOriginOf size (steps ++ Executes list restore ∷ [])

      flushed_all : TracesAll size (steps ++ Flushes ∷ []) x y t
      flushed_all = subst (λ ss. TracesAll size ss x y t) (settled-run steps Flushes refl) tr.ran

      step_is : t.step ≡ length steps
      step_is = one_less (length (steps ++ Flushes ∷ [])) (length steps) t.step (length (session.pending (steps ++ Flushes ∷ []))) (length-append steps (Flushes ∷ [])) tr.first (ap length (pending-push steps Flushes))
        where
          one_less : (n m a l : ℕ) → n ≡ m + 1 → n ≡ a + l → l ≡ 1 → a ≡ m
          one_less n m a l p q r = omega arith

      behind_run : (n m a b d e r l : ℕ) → n ≡ m + 1 → a ≡ m → b ≡ a → e ≡ r → d ≡ b + e → l + r ≡ 1 → n ≡ d + l
      behind_run n m a b d e r l h1 h2 h3 h4 h5 h6 = omega arith

      comes : (item : ℕ) (o : Origin) → Comes (told m) list steps_of.List t.step t.trace.items item o → Q item o
      comes item o g =
          let from = g.2 in
          let place : Place = from.place in
          let is : o ≡ record { step = length steps; place = place } = from.is ∙ ap (λ n. record { step = n; place = place }) step_is in
          subst (λ i. Q i o) (sym (g.1 ∙ ap (λ i. i + g.0) (flushed_all.past.items ∙ ap length (flush_keeps_items size steps))))
          (subst (Q (length (performed_items size steps) + g.0)) (sym is)
          (executed_comes size steps a list restore g.0 place h none accepted
          (stands_same (told m) (λ q. result_of (answered size a q)) list g.0 place accepted (λ q l. ap result_of (ran.results q l)) from.stands)))

  -- a trace of a new target
  pub traced_new : (size : Size) (x y : ℕ) (t : SessionTrace A) → IsTraceOf [] x y t.trace → t.origins.items ≡ [] → t.step ≡ 0 → Traces size [] x y t
  traced_new size x y t past none zero = record {
    ran = record { past = past; named = subst (λ l. AreNamed (IsOriginOf size []) l t.origins.items) (sym past.events) (subst (λ l. AreNamed (IsOriginOf size []) [] l) (sym none) tt) };
    first = sym (ap (λ n. n + 0) zero);
  }

  -- a command that is recorded doesn't run
  pub traced_record : (size : Size) (steps : List Step) (k : Command) (x y : ℕ) (t : SessionTrace A) → Traces size steps x y t → Traces size (steps ++ Records k ∷ []) x y t
  traced_record size steps k x y t h = record {
    ran = subst (λ ss. TracesAll size ss x y t) (sym (settled-record steps k)) h.ran;
    first = one_more (length (steps ++ Records k ∷ [])) (length steps) t.step (length (session.pending steps)) (length (session.pending (steps ++ Records k ∷ []))) (length-append steps (Records k ∷ [])) h.first (ap length (pending-push steps (Records k)) ∙ length-append (session.pending steps) (k ∷ []));
  }
    where
      one_more : (n m a p q : ℕ) → n ≡ m + 1 → m ≡ a + p → q ≡ p + 1 → n ≡ a + q
      one_more n m a p q h1 h2 h3 = omega arith
