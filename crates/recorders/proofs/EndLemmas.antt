-- The first refused line of all contexts.
use Rattle.std.proofs.Common.{◌≡◌, subst, refl, ℕ, ◌+◌, ◌-◌, ◌<◌, ◌≤◌, arith, Bool, true, false, cond, nat_lt, List, [], ◌∷◌, length, Some, None, Option}
use Rattle.std.specs.Prelude.{MatchOption, All}
use Rattle.std.proofs.lemmas.Bool.Decides.{nat_tests}
use Rattle.std.proofs.lemmas.List.Elements.{All-cons, All-nil, All-head, All-tail, All-from_get_or}
use Rattle.atomic_table.specs.Seated.{TableId}
use Rattle.gfxspec.specs.Commands.{Command}
use Rattle.scenetext.specs.Scene.{Line}
use Rattle.port.specs.History.{PortHistory, DrainHistory}
use Rattle.recorders.specs.declared.ports.Recorded.{Recorded}
use Rattle.recorders.specs.declared.refusal.RefusedLine.{RefusedLine}
use Rattle.recorders.specs.declared.refusal.ContextEnd.{ContextEnd}
use Rattle.recorders.specs.declared.refusal.RecordingEnd.{RecordingEnd}
use Rattle.recorders.specs.declared.recorder.RecorderResult.{RecorderResult}
use Rattle.recorders.specs.Apart.{IsStopOf, IsListed, stop_or}
use Rattle.recorders.specs.Sinks.{lists_sent}
use Rattle.recorders.specs.Recorders.{IsEnd, AreEnded}
use Rattle.recorders.specs.Ending.{earlier_of, first_of, no_end, pair_at, end_at, IsStopOfSome, Lacks, AreRecorded, AreEnds, EndsLack}
use Rattle.recorders.specs.Receiving.{IsResultOf, AreResults}
use Rattle.recorders.proofs.Growing.{fewer_lists}
use Rattle.recorders.proofs.PortLemmas.{each_port}

pub match_more : {X : Type 0} {P Q : X → Type 0} (o : Option X) → ((x : X) → P x → Q x) → MatchOption o (Unit {0}) P → MatchOption o (Unit {0}) Q
match_more None f h = tt
match_more (Some x) f h = f x h

-- ---- the first of many

-- context k of each recorder, and context k + 4
each_context : (F : ℕ → ContextEnd → Type 0) (ends : List RecordingEnd) → ((p : ℕ) → p < 4 → F p (pair_at ends p).first × F (p + 4) (pair_at ends p).second) → (k : ℕ) → k < 8 → F k (end_at ends k)
each_context F ends each k low = by (nat_lt k 4) refl
  where
    by : (b : Bool) → nat_lt k 4 ≡ b → F k (cond b (pair_at ends (cond b k (k - 4))).first (pair_at ends (cond b k (k - 4))).second)
    by true e = let less : k < 4 = grind (arith, nat_tests) in (each k less).0
    by false e =
        let more : 4 ≤ k = grind (arith, nat_tests) in
        let back : k - 4 + 4 ≡ k = omega (arith, more) in
        subst (λ j. F j (pair_at ends (k - 4)).second) back (each (k - 4) (omega (arith, more, low))).1

module _ (ls : List Line) where
  abbrev place_of : Option RefusedLine → ℕ
  place_of o = stop_or o (length ls)

  within : (o : Option RefusedLine) → IsStopOfSome ls o → place_of o ≤ length ls
  within None is = omega arith
  within (Some s) is = let low = is.2.0 in omega (arith, low)

  -- the earlier of two is one of them, and behind neither
  both : (a b : Option RefusedLine) → IsStopOfSome ls a → IsStopOfSome ls b → IsStopOfSome ls (earlier_of a b) × (place_of (earlier_of a b) ≤ place_of a) × (place_of (earlier_of a b) ≤ place_of b)
  both None b p q = (q, within b q, omega arith)
  both (Some a) None p q = (p, omega arith, within (Some a) p)
  both (Some a) (Some b) p q = by (nat_lt b.place a.place) refl
    where
      by : (t : Bool) → nat_lt b.place a.place ≡ t → IsStopOfSome ls (cond t (Some b) (Some a)) × (place_of (cond t (Some b) (Some a)) ≤ a.place) × (place_of (cond t (Some b) (Some a)) ≤ b.place)
      by true e = let less : b.place < a.place = grind (arith, nat_tests) in (q, omega (arith, less), omega arith)
      by false e = let more : a.place ≤ b.place = grind (arith, nat_tests) in (p, omega arith, more)

  abbrev AreStops : RecordingEnd → Type 0
  AreStops e = IsStopOfSome ls e.first.refused × IsStopOfSome ls e.second.refused

  abbrev NotBefore : ℕ → RecordingEnd → Type 0
  NotBefore n e = (n ≤ place_of e.first.refused) × (n ≤ place_of e.second.refused)

  -- the first is one of them, or was known, and none of them is before it
  first_is : (known : Option RefusedLine) (ends : List RecordingEnd) → IsStopOfSome ls known → All AreStops ends → IsStopOfSome ls (first_of known ends) × (place_of (first_of known ends) ≤ place_of known) × All (NotBefore (place_of (first_of known ends))) ends
  first_is known [] h stops = (h, omega arith, All-nil (NotBefore (place_of known)))
  first_is known (e ∷ ends) h stops =
      let here = All-head AreStops e ends stops in
      let pair = both e.first.refused e.second.refused here.0 here.1 in
      let two = both known (earlier_of e.first.refused e.second.refused) h pair.0 in
      let rest = first_is (earlier_of known (earlier_of e.first.refused e.second.refused)) ends two.0 (All-tail AreStops e ends stops) in (
        rest.0,
        omega (arith, rest.1, two.1),
        All-cons (NotBefore (place_of (first_of known (e ∷ ends)))) e ends (omega (arith, rest.1, two.2, pair.1), omega (arith, rest.1, two.2, pair.2)) rest.2,
      )

module _ (ls : List Line) (ends : List RecordingEnd) (are : AreEnds ls ends) where
  ended : (k : ℕ) → k < 8 → IsEnd ls k (end_at ends k)
  ended = each_context (IsEnd ls) ends (λ p low. ((are.1 p low).first_is, (are.1 p low).second_is))

  stop : (k : ℕ) → k < 8 → (s : Option RefusedLine) → IsStopOf ls k (length ls) s → IsStopOfSome ls s
  stop k low None is = tt
  stop k low (Some s) is = (k, low, is)

  abbrev none : RecordingEnd
  none = record { first = no_end; second = no_end }

  stops : All (AreStops ls) ends
  stops =
      All-from_get_or (AreStops ls) ends none
      (λ p few. let e = are.1 p (omega (arith, few, are.0)) in (stop p (omega (arith, few, are.0)) _ e.first_is.stop_is, stop (p + 4) (omega (arith, few, are.0)) _ e.second_is.stop_is))

  abbrev first : Option RefusedLine
  first = first_of None ends

  none_before : (k : ℕ) → k < 8 → place_of ls first ≤ place_of ls (end_at ends k).refused
  none_before = each_context (λ k e. place_of ls first ≤ place_of ls e.refused) ends (λ p low. (first_is ls None ends tt stops).2 p none (omega (arith, low, are.0)))

  pub all_recorded : (missing : Option (ℕ × ℕ)) → MatchOption missing (Unit {0}) (λ name. name.0 < 8 → EndsLack ends name.0 name.1) → AreRecorded ls first missing
  all_recorded missing lacks = record {
    accepted = λ k low j less own. let most = none_before k low in (ended k low).accepts j (omega (arith, most, less)) own;
    stop_is = (first_is ls None ends tt stops).0;
    missing_is = match_more missing (λ name lack low. fewer name.0 name.1 low (lack low)) lacks;
  }
    where
      fewer : (k n : ℕ) → k < 8 → EndsLack ends k n → Lacks ls first k n
      fewer k n low lack =
          let less = fewer_lists ls k (place_of ls first) (place_of ls (end_at ends k).refused) (none_before k low) in
          omega (arith, lack, (ended k low).counted, less)

-- ---- of four recorders

pub all_ended : (ls : List Line) (a b c d : RecordingEnd) → AreEnded ls 0 a → AreEnded ls 1 b → AreEnded ls 2 c → AreEnded ls 3 d → AreEnds ls (a ∷ b ∷ c ∷ d ∷ [])
all_ended ls a b c d p q r s = (refl, each_port (λ n. AreEnded ls n (pair_at (a ∷ b ∷ c ∷ d ∷ []) n)) p q r s)

all_four : {X : Type 0} (P : X → Type 0) (a b c d : X) → P a → P b → P c → P d → All P (a ∷ b ∷ c ∷ d ∷ [])
all_four P a b c d p q r s = All-cons P a (b ∷ c ∷ d ∷ []) p (All-cons P b (c ∷ d ∷ []) q (All-cons P c (d ∷ []) r (All-cons P d [] s (All-nil P))))

pub all_results : {A : Type 0} (ls : List Line) (queue : TableId) (drain : DrainHistory (Recorded (List Command))) (a b c d : RecorderResult A) → IsResultOf ls queue 0 a → IsResultOf ls queue 1 b → IsResultOf ls queue 2 c → IsResultOf ls queue 3 d → AreResults {A = A} ls queue (record { passes = record { 0 = a.pass; 1 = b.pass; 2 = c.pass; 3 = d.pass }; ends = a.end ∷ b.end ∷ c.end ∷ d.end ∷ []; drain = drain })
all_results ls queue drain a b c d p q r s = record {
  back = (
    (λ i. p.port_is i ∷ q.port_is i ∷ r.port_is i ∷ s.port_is i ∷ []),
    all_four (λ (h : PortHistory (Recorded (List Command))). h.queue ≡ queue) _ _ _ _ p.queue_is q.queue_is r.queue_is s.queue_is,
  );
  sent = all_four (λ (h : PortHistory (Recorded (List Command))). All (IsListed ls) (lists_sent h.sent)) _ _ _ _ p.sent q.sent r.sent s.sent;
  ends = all_ended ls _ _ _ _ p.ends q.ends r.ends s.ends;
}
