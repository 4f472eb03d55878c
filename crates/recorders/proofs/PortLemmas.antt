-- What was taken of each port.
use Rattle.std.proofs.Common.{◌≡◌, ◌∙◌, ap, sym, subst, refl, ℕ, zero, suc, ◌<◌, ◌≤◌, arith, List, [], ◌∷◌, ◌++◌, length, Some, None, Option}
use Rattle.std.specs.Prelude.{unwrap_or, MatchOption, All, Result, OnOk, OnErr}
use Rattle.std.proofs.lemmas.Bool.Decides.{nat_tests}
use Rattle.std.proofs.Math.Seq.{take-append_seam, drop-append_seam}
use Rattle.atomic_table.specs.Seated.{TableId}
use Rattle.gfxspec.specs.Commands.{Command}
use Rattle.scenetext.specs.Scene.{Line}
use Rattle.port.specs.declared.submission.Submission.{Submission}
use Rattle.port.specs.History.{DrainHistory, drain_history}
use Rattle.recorders.specs.declared.ports.Returned.{Returned}
use Rattle.recorders.specs.declared.ports.Recorded.{Recorded}
use Rattle.recorders.specs.declared.recorder.RecorderResult.{RecorderResult}
use Rattle.recorders.specs.Sinks.{Way, Sender, lists_sent, sender_lists, sender_way}
use Rattle.recorders.specs.Apart.{IsListed}
use Rattle.recorders.specs.Recording.{listed}
use Rattle.recorders.specs.Asking.{Asked}
use Rattle.recorders.specs.Recorders.{IsRecording, end_in, port_of}
use Rattle.recorders.specs.Rows.{AreRows, IsNext, with_list}
use Rattle.recorders.proofs.RowLemmas.{added}
use Rattle.std.proofs.lemmas.List.Elements.{All-nil, All-take, All-drop, All-contains, Contains-push}
use Rattle.recorders.specs.Receiving.{Receipts, Task, IsResultOf, LacksBy, AreResults, TakenAgrees, ReceiptAgrees, IsMore, receipt_frame, receipt_right}

-- ---- four ports

pub each_port : (F : ℕ → Type 0) → F 0 → F 1 → F 2 → F 3 → (p : ℕ) → p < 4 → F p
each_port F zero_is one_is two_is three_is zero low = zero_is
each_port F zero_is one_is two_is three_is (suc zero) low = one_is
each_port F zero_is one_is two_is three_is (suc (suc zero)) low = two_is
each_port F zero_is one_is two_is three_is (suc (suc (suc zero))) low = three_is
each_port F zero_is one_is two_is three_is (suc (suc (suc (suc p)))) low = absurd (omega (arith, low))

pub port_low : (k : ℕ) → k < 8 → port_of k < 4
port_low k low = grind (arith, nat_tests)

-- ---- what was taken

front_all : {X : Type 0} (P : X → Type 0) (xs ys : List X) → All P (xs ++ ys) → All P xs
front_all P xs ys h = subst (All P) (take-append_seam xs ys) (All-take P (length xs) (xs ++ ys) h)

-- what is taken later changes nothing of what came before
pub agrees_before : (ls : List Line) (taken rest all : List (Submission (Recorded (List Command)))) → all ≡ taken ++ rest → TakenAgrees ls all → TakenAgrees ls taken
agrees_before ls taken rest all more agrees = front_all (λ (s : Submission (Recorded (List Command))). s.port < 4 → IsListed ls s.list) taken rest (subst (TakenAgrees ls) more agrees)

pub more_more : {A : Type 0} {r s t : Receipts A} → IsMore r s → IsMore s t → IsMore r t
more_more a b = record { frame = b.frame ∙ a.frame; agrees = λ h. a.agrees (b.agrees h) }

-- ---- at the end

pub some_same : {X : Type 0} (a b : X) → Some a ≡ Some b → a ≡ b
some_same a b h = ap (λ o. unwrap_or o a) h

pub results_for : {A : Type 0} (ls : List Line) (queue : TableId) (s : Receipts A) (results : Returned A) → receipt_frame s ≡ record { lines = ls; queue = Some queue } → AreResults s.lines s.queue results → AreResults ls queue results
results_for ls queue s results e h =
    subst (λ q. AreResults ls q results) (some_same s.queue queue (ap (λ (x : Asked). x.queue) e)) (subst (λ xs. AreResults xs s.queue results) (ap (λ (x : Asked). x.lines) e) h)

-- the right lists are those of the lines
pub right_for : {A : Type 0} (ls : List Line) (queue : TableId) (s : Receipts A) → receipt_frame s ≡ record { lines = ls; queue = Some queue } → receipt_right s ≡ listed ls
right_for ls queue s e = let right : Asked → ℕ → ℕ → List Command = λ a k n. listed a.lines k n in ap right e

pub agrees_for : {A : Type 0} (ls : List Line) (queue : TableId) (s : Receipts A) (drain : DrainHistory (Recorded (List Command))) → receipt_frame s ≡ record { lines = ls; queue = Some queue } → drain ≡ drain_history s.queue s.taken → TakenAgrees ls drain.taken → ReceiptAgrees s
agrees_for ls queue s drain e is agrees =
    subst (λ xs. TakenAgrees xs s.taken) (sym (ap (λ (a : Asked). a.lines) e)) (subst (TakenAgrees ls) (ap (λ (d : DrainHistory (Recorded (List Command))). d.taken) is) agrees)

-- ---- one recorder

pub sent_and_kept : {A : Type 0} (ls : List Line) (number : ℕ) (s0 s : Sender) (r : RecorderResult A) → sender_way s ≡ sender_way s0 → s0 ≡ record { queue = s0.queue; port = number; sent = []; kept = [] } → IsRecording ls number (sender_lists s0) (sender_lists s) r.end → record { queue = r.pass.queue; port = r.pass.port; sent = lists_sent r.pass.sent; kept = r.kept.items } ≡ s → IsResultOf ls s0.queue number r
sent_and_kept ls number s0 s r way start h is =
    let w = some_same {X = Way} _ _ way in
    let listed = h.listed (subst (λ x. All (IsListed ls) (sender_lists x)) (sym start) (All-nil (IsListed ls))) in
    let both = subst (λ x. All (IsListed ls) (sender_lists x)) (sym is) listed in
    record {
      queue_is = ap (λ (x : Sender). x.queue) is ∙ ap (λ (x : Way). x.queue) w;
      port_is = ap (λ (x : Sender). x.port) is ∙ ap (λ (x : Way). x.port) w ∙ ap (λ (x : Sender). x.port) start;
      sent = front_all (IsListed ls) (lists_sent r.pass.sent) r.kept.items both;
      kept = subst (All (IsListed ls)) (drop-append_seam (lists_sent r.pass.sent) r.kept.items) (All-drop (IsListed ls) (length (lists_sent r.pass.sent)) (lists_sent r.pass.sent ++ r.kept.items) both);
      ends = h.ends;
    }

pub result_at : {A : Type 0} (t d : Task) (r : RecorderResult A) → d ≡ t → IsResultOf d.lines d.queue d.number r → IsResultOf t.lines t.queue t.number r
result_at t d r is h = subst (λ (x : Task). IsResultOf x.lines x.queue x.number r) is h

pub lacks_same : {A : Type 0} (o : Option (RecorderResult A)) (r : RecorderResult A) → MatchOption o (Unit {0}) (λ q. r ≡ q) → (k n : ℕ) → LacksBy o k n → (end_in r.end k).lists ≤ n
lacks_same None r same k n l = absurd l
lacks_same (Some q) r same k n l = subst (λ (x : RecorderResult _). (end_in x.end k).lists ≤ n) (sym same) l

-- ---- one list more, or no room for it

pub took : {E : Type 0} (ls : List Line) (taken : List (Submission (Recorded (List Command)))) (rows new : List (List (List Command))) (x : Submission (Recorded (List Command))) (r : Result (Unit {0}) E) → (TakenAgrees ls taken → AreRows ls rows) → x.port < 4 → OnOk r (IsNext rows x.list × (new ≡ with_list rows x.list.context x.list.list)) → OnErr r (new ≡ rows) → TakenAgrees ls (taken ++ x ∷ []) → AreRows ls new
took ls taken rows new x r h low ok err agrees =
    let one = All-contains (λ (s : Submission (Recorded (List Command))). s.port < 4 → IsListed ls s.list) (taken ++ x ∷ []) x agrees (Contains-push taken x) low in
    added ls rows new x.list r ok err one (h (agrees_before ls taken (x ∷ []) (taken ++ x ∷ []) refl agrees))
