-- What waits: more behind it, and its run.
use Rattle.std.proofs.Common.{◌≡◌, ◌∙◌, inl, inr, sym, ap, subst, refl, arith, ℕ, ◌+◌, ◌-◌, ◌<◌, ◌≤◌, length, take, drop, take-add, take_all, Bool, true, List, [], ◌∷◌, ◌++◌, append_assoc, Option}
use Rattle.std.specs.Prelude.{Result, Ok, Err, OnOk, OnErr}
use Rattle.std.proofs.lemmas.List.{take-append-drop, drop_all}
use Rattle.gfxspec.specs.declared.geometry.Size.{Size}
use Rattle.gfxspec.specs.Items.{Item, after_items}
use Rattle.gfxspec.specs.Commands.{Command, Kept}
use Rattle.cmdlist.specs.Recorder.{is_kept_alone}
use Rattle.gfxspec.specs.Recorded.{items, issues, after_finish}
use Rattle.gfxspec.specs.Predication.{performed, result_of}
use Rattle.gfxspec.specs.Accepted.{AreAccepted}
use Rattle.meaning.specs.Contexts.{HasRun, result_after, result_at, performed_next}
use Rattle.meaning.proofs.Contexts.{result_same}
use Rattle.meaning.proofs.Folding.{after_items-append}
use Rattle.tileblock.specs.Surface.{pixel_of}
use Rattle.binner.specs.Segments.{cut_items}
use Rattle.immediate.specs.Outputs.{Outputs, performed_over, cut_over}
use Rattle.immediate.specs.Held.{Held, Executed, Ran, Stays, MayHaveRun, stored, shown, answered, context_of, held_of, held_behind, outputs_of}
use Rattle.immediate.specs.Batched.{HasDrawn, PartDrawn, part, executed_items}
use Rattle.immediate.proofs.Settled.{stored_settled}
use Rattle.immediate.proofs.Drawn.{answers_stay, run_behind, performed_told_alike}

cut_items-append : (told : ℕ → Bool) (w v : List (List Command)) → cut_items told (w ++ v) ≡ cut_items told w ++ cut_items told v
cut_items-append told [] v = refl
cut_items-append told (s ∷ w) v =
    ap (λ (is : List Item). items (performed told s) ++ is) (cut_items-append told w v) ∙ sym (append_assoc (items (performed told s)) (cut_items told w) (cut_items told v))

-- ---- more that waits

module _ (o : Outputs) (w : List (List Command)) (p : List Command) (unissued : issues p ≡ []) where
  abbrev before : Held
  before = held_behind o w p

  -- what waits and what is pending
  abbrev all : List Item
  all = cut_over o w ++ items (performed_over o p)

  shows_all : (x y : ℕ) → shown before x y ≡ after_items all x y (pixel_of o.surface x y)
  shows_all x y = sym (after_items-append (cut_over o w) (items (performed_over o p)) x y (pixel_of o.surface x y))

  -- what waits behind it has these items
  wait_behind : (list : List Command) (restore : Bool) (v : List (List Command)) (q : List Command) → AreAccepted list → issues list ≡ [] → all ++ items (performed_over o list) ≡ cut_over o v → after_finish restore p ≡ q → Executed list restore before (held_behind o v q)
  wait_behind list restore v q accepted none is begun = record {
    size = refl;
    run = subst (λ (l : List Command). HasRun o.surface.size list restore (context_of before) record { stored = stored (held_behind o v q); results = o.results; pending = l }) begun
        (subst (λ (js : List Item). HasRun o.surface.size list restore (context_of before) record { stored = λ x y. after_items js x y (pixel_of o.surface x y); results = o.results; pending = after_finish restore p }) is
        (run_behind o.surface.size before (context_of before) all shows_all (answers_stay o.surface.size before unissued) list restore accepted none));
  }

  -- the pending commands and a list wait
  pub list_waits : (list : List Command) (restore : Bool) (more v : List (List Command)) (q : List Command) → AreAccepted list → issues list ≡ [] → v ≡ w ++ more → cut_over o more ≡ executed_items o p list → q ≡ after_finish restore p → Executed list restore before (held_behind o v q)
  list_waits list restore more v q accepted none joined means begun =
      wait_behind list restore v q accepted none
      (append_assoc (cut_over o w) (items (performed_over o p)) (items (performed_over o list)) ∙ ap (λ (is : List Item). cut_over o w ++ is) (sym means)
      ∙ sym (cut_items-append (λ q. result_of (result_at o.results q)) w more) ∙ ap (cut_over o) (sym joined))
      (sym begun)

-- the kept state alone has no item
pub kept_items : (p : List Command) → is_kept_alone p ≡ true → (issues p ≡ []) × ((o : Outputs) → [] ≡ items (performed_over o p))
kept_items (Kept s ∷ []) e = (refl, λ o. refl)
kept_items p e = absurd cc

-- ---- its run

pub stays_same : (a b : Held) → b ≡ a → Stays a b
stays_same a b same = subst (λ (h : Held). Stays a h) (sym same) record { size = refl; pixels = λ x y w h. refl; results = refl; pending = refl }

-- nothing was drawn
pub none_drawn_yet : (o : Outputs) → HasDrawn [] o o
none_drawn_yet o = record { size = refl; pixels = λ x y w h. refl; results = refl }

-- and then more
pub drawn_behind : (is js : List Item) (a b c : Outputs) → HasDrawn is a b → HasDrawn js b c → HasDrawn (is ++ js) a c
drawn_behind is js a b c i j = record {
  size = j.size ∙ i.size;
  pixels = λ x y w h.
      j.pixels x y (subst (λ (z : Size). x < z.width) (sym i.size) w) (subst (λ (z : Size). y < z.height) (sym i.size) h)
      ∙ ap (after_items js x y) (i.pixels x y w h)
      ∙ sym (after_items-append is js x y (pixel_of a.surface x y));
  results = j.results ∙ i.results;
}

told_alike : (a o : Outputs) (ss : List (List Command)) → a.results ≡ o.results → cut_over a ss ≡ cut_over o ss
told_alike a o ss same = ap (λ (rs : List (Option ℕ)). cut_items (λ q. result_of (result_at rs q)) ss) same

-- the first segments, and one more
pub one_more_drawn : (o a b : Outputs) (w : List (List Command)) (i : ℕ) → HasDrawn (cut_over o (take i w)) o a → HasDrawn (cut_over a (part i (i + 1) w)) a b → HasDrawn (cut_over o (take (i + 1) w)) o b
one_more_drawn o a b w i first more =
    let one : i + 1 - i ≡ 1 = omega arith in
    let all : take i w ++ part i (i + 1) w ≡ take (i + 1) w = ap (λ (n : ℕ). take i w ++ take n (drop i w)) one ∙ sym (take-add i 1 w) in
    subst (λ (is : List Item). HasDrawn is o b) (sym (cut_items-append (λ q. result_of (result_at o.results q)) (take i w) (part i (i + 1) w)) ∙ ap (cut_over o) all)
    (drawn_behind (cut_over o (take i w)) (cut_over o (part i (i + 1) w)) o a b first (subst (λ (is : List Item). HasDrawn is a b) (told_alike a o (part i (i + 1) w) first.results) more))

-- the first segments were drawn, and the others wait
pub first_drawn : (o n : Outputs) (w v : List (List Command)) (i : ℕ) → HasDrawn (cut_over o (take i w)) o n → v ≡ drop i w → PartDrawn o w n v
first_drawn o n w v i drawn rest = record { gone = take i w; split = sym (ap (λ (ss : List (List Command)). take i w ++ ss) rest ∙ take-append-drop i w); drawn = drawn }

-- all of them
pub all_drawn : (o n : Outputs) (w u v : List (List Command)) (i k : ℕ) → HasDrawn (cut_over o (take i w)) o n → length w ≤ i → u ≡ w → v ≡ drop k u → length w ≤ k → HasDrawn (cut_over o w) o n × (v ≡ [])
all_drawn o n w u v i k drawn past same rest all = (
  subst (λ (ss : List (List Command)). HasDrawn (cut_over o ss) o n) (take_all i w past) drawn,
  rest ∙ ap (drop k) same ∙ drop_all k w all,
)

pub none_left : (w u v : List (List Command)) (n : ℕ) → u ≡ w → n ≡ length w → v ≡ drop n u → v ≡ []
none_left w u v n same many rest = rest ∙ ap (drop n) same ∙ drop_all n w (let e : length w ≤ n = omega arith in e)

-- what waited ran, or a part of it
pub part_settled : (o n : Outputs) (w v : List (List Command)) (p : List Command) → PartDrawn o w n v → Stays (held_behind o w p) (held_behind n v p)
part_settled o n w v p is = record {
  size = is.drawn.size;
  pixels = λ x y k h.
      ap (λ (js : List Item). after_items js x y (pixel_of n.surface x y)) (told_alike n o v is.drawn.results)
      ∙ ap (after_items (cut_over o v) x y) (is.drawn.pixels x y k h)
      ∙ sym (after_items-append (cut_over o is.gone) (cut_over o v) x y (pixel_of o.surface x y))
      ∙ ap (λ (js : List Item). after_items js x y (pixel_of o.surface x y)) (sym (cut_items-append (λ q. result_of (result_at o.results q)) is.gone v) ∙ ap (cut_over o) (sym is.split));
  results = is.drawn.results;
  pending = refl;
}

pub has_settled : (o n : Outputs) (w v : List (List Command)) (p : List Command) → HasDrawn (cut_over o w) o n → v ≡ [] → Stays (held_behind o w p) (held_behind n v p)
has_settled o n w v p drawn none = record {
  size = drawn.size;
  pixels = λ x y k h. stored_settled (held_behind n v p) none x y ∙ drawn.pixels x y k h;
  results = drawn.results;
  pending = refl;
}

-- and before it something was executed
pub settled_behind : (list : List Command) (restore : Bool) (a b c : Held) → Executed list restore a b → Stays b c → c.waiting ≡ [] → Ran list restore a c
settled_behind list restore a b c e s none = record {
  size = s.size ∙ e.size;
  run = record {
    pixels = λ x y w h. s.pixels x y (subst (λ (z : Size). x < z.width) (sym e.size) w) (subst (λ (z : Size). y < z.height) (sym e.size) h) ∙ e.run.pixels x y w h;
    results = λ q l. ap (λ (rs : List (Option ℕ)). result_at rs q) s.results ∙ e.run.results q l;
    pending = s.pending ∙ e.run.pending;
  };
  settled = none;
}

-- the same is shown
module _ (a b : Held) (s : Stays a b) where
  performed_stay : performed_over (outputs_of b) b.pending ≡ performed_over (outputs_of a) a.pending
  performed_stay =
      ap (λ (rs : List (Option ℕ)). performed (λ q. result_of (result_at rs q)) b.pending) s.results
      ∙ ap (λ (l : List Command). performed_over (outputs_of a) l) s.pending

  shown_stay : (x y : ℕ) → x < a.surface.size.width → y < a.surface.size.height → shown b x y ≡ shown a x y
  shown_stay x y w h =
      ap (λ (l : List Command). after_items (items l) x y (stored b x y)) performed_stay
      ∙ ap (after_items (items (performed_over (outputs_of a) a.pending)) x y) (s.pixels x y w h)

  answered_stay : (q : ℕ) → answered b q ≡ answered a q
  answered_stay q =
      ap (λ (z : Size). result_after z (performed_over (outputs_of b) b.pending) (stored b) q (result_at b.results q)) s.size
      ∙ ap (λ (l : List Command). result_after a.surface.size l (stored b) q (result_at b.results q)) performed_stay
      ∙ result_same a.surface.size (performed_over (outputs_of a) a.pending) (stored b) (stored a) q (result_at b.results q) (result_at a.results q) s.pixels (ap (λ (rs : List (Option ℕ)). result_at rs q) s.results)

  left_stay : (list : List Command) → performed_next b.surface.size (context_of b) list ≡ performed_next a.surface.size (context_of a) list
  left_stay list = performed_told_alike (λ q. result_of (answered b q)) (λ q. result_of (answered a q)) (λ q. ap result_of (answered_stay q)) [] list

  -- and then something was executed
  pub executed_behind : (list : List Command) (restore : Bool) (c : Held) → Executed list restore b c → Executed list restore a c
  executed_behind list restore c ran =
      let left : List Command = performed_next b.surface.size (context_of b) list in
      record {
        size = ran.size ∙ s.size;
        run = record {
          pixels = λ x y w h.
              ran.run.pixels x y (subst (λ (z : Size). x < z.width) (sym s.size) w) (subst (λ (z : Size). y < z.height) (sym s.size) h)
              ∙ ap (after_items (items left) x y) (shown_stay x y w h)
              ∙ ap (λ (cs : List Command). after_items (items cs) x y (shown a x y)) (left_stay list);
          results = λ q l.
              ran.run.results q l
              ∙ ap (λ (z : Size). result_after z left (shown b) q (answered b q)) s.size
              ∙ result_same a.surface.size left (shown b) (shown a) q (answered b q) (answered a q) shown_stay (answered_stay q)
              ∙ ap (λ (cs : List Command). result_after a.surface.size cs (shown a) q (answered a q)) (left_stay list);
          pending = ran.run.pending ∙ ap (λ (l : List Command). after_finish restore l) s.pending;
        };
      }

  pub ran_behind : (c : Held) → Ran [] true b c → Ran [] true a c
  ran_behind c ran = let e = executed_behind [] true c record { size = ran.size; run = ran.run } in record { size = e.size; run = e.run; settled = ran.settled }

-- all ran, where the pending commands couldn't wait
pub all_ran : (o n m : Outputs) (w v u : List (List Command)) (p q r : List Command) → (v ≡ w) × (q ≡ p) → HasDrawn (cut_over o v) o n × (u ≡ []) → Ran [] true (held_of n q) (held_of m r) → Ran [] true (held_behind o w p) (held_behind m u r)
all_ran o n m w v u p q r same drawn ran =
    subst (λ (a : Held). Ran [] true a (held_behind m u r)) (ap (λ (s : List (List Command)). held_behind o s q) same.0 ∙ ap (held_behind o w) same.1)
    (ran_behind (held_behind o v q) (held_behind n u q) (has_settled o n v u q drawn.0 drawn.1) (held_behind m u r)
    (subst (λ (s : List (List Command)). Ran [] true (held_behind n s q) (held_behind m s r)) (sym drawn.1) ran))

-- a part of what waits ran, where the pending commands couldn't wait
pub part_left : (o n : Outputs) (w v u : List (List Command)) (p q : List Command) → (v ≡ w) × (q ≡ p) → PartDrawn o v n u → MayHaveRun (held_behind o w p) (held_behind n u q)
part_left o n w v u p q same is =
    inl (subst (λ (a : Held). Stays a (held_behind n u q)) (ap (λ (s : List (List Command)). held_behind o s q) same.0 ∙ ap (held_behind o w) same.1) (part_settled o n v u q is))

-- a part of what waits ran behind what was executed
pub part_waits : (a : Held) (o n : Outputs) (w v : List (List Command)) (p : List Command) → Executed [] true a (held_behind o w p) → PartDrawn o w n v → MayHaveRun a (held_behind n v p)
part_waits a o n w v p e is =
    let s = part_settled o n w v p is in
    inr record {
      size = s.size ∙ e.size;
      run = record {
        pixels = λ x y k h. s.pixels x y (subst (λ (z : Size). x < z.width) (sym e.size) k) (subst (λ (z : Size). y < z.height) (sym e.size) h) ∙ e.run.pixels x y k h;
        results = λ q l. ap (λ (rs : List (Option ℕ)). result_at rs q) s.results ∙ e.run.results q l;
        pending = e.run.pending;
      };
    }

-- ---- answers

pub on_ok : {T E P Q : Type 0} (r : Result T E) → (P → Q) → OnOk r P → OnOk r Q
on_ok (Ok x) f h = f h
on_ok (Err e) f h = tt

pub on_err : {T E P Q : Type 0} (r : Result T E) → (P → Q) → OnErr r P → OnErr r Q
on_err (Ok x) f h = tt
on_err (Err e) f h = f h

-- ---- what ran behind what stays

stays_behind : (a b c : Held) → Stays a b → Stays b c → Stays a c
stays_behind a b c s t = record {
  size = t.size ∙ s.size;
  pixels = λ x y w h. t.pixels x y (subst (λ (z : Size). x < z.width) (sym s.size) w) (subst (λ (z : Size). y < z.height) (sym s.size) h) ∙ s.pixels x y w h;
  results = t.results ∙ s.results;
  pending = t.pending ∙ s.pending;
}

module _ (a b : Held) (same : b ≡ a) (d e : Held) (s : Stays b d) (rest : e ≡ d) (c : Held) where
  stayed : Stays a e
  stayed = subst (λ (h : Held). Stays h e) same (subst (λ (h : Held). Stays b h) (sym rest) s)

  pub executed_settled : (list : List Command) (restore : Bool) → Executed list restore e c → Executed list restore a c
  executed_settled list restore ran = executed_behind a e stayed list restore c ran

  pub left_settled : MayHaveRun e c → MayHaveRun a c
  left_settled (inl t) = inl (stays_behind a e c stayed t)
  left_settled (inr ran) = inr (executed_settled [] true ran)
