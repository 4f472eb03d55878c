-- Segments on the target, over what stands in the code, and an execution behind the pending commands.
use Rattle.std.proofs.Common.{◌≡◌, ◌∙◌, sym, ap, subst, refl, ℕ, Bool, cond, List, [], ◌∷◌, ◌++◌, None, Some, Option}
use Rattle.std.specs.Prelude.{is_ok, true, Result, Ok, Err, IfOk, IfSome, OnOk, not, ◌&&◌}
use Rattle.gfxspec.specs.declared.error.GfxError.{GfxError}
use Rattle.gfxspec.specs.Recorded.{items, issues, queries_open, after_finish, settings_after, is_drawing}
use Rattle.gfxspec.specs.Predication.{performed, performed_behind, result_of, withholds}
use Rattle.gfxspec.specs.Refusals.{is_among}
use Rattle.gfxspec.specs.Accepted.{AreAccepted}
use Rattle.meaning.specs.Contexts.{Context, HasRun, shown, answered, performed_next, counted_or, last_begun, result_at}
use Rattle.meaning.proofs.Folding.{after_items-append}
use Rattle.meaning.proofs.Performed.{performed_alike}
use Rattle.meaning.proofs.Predicates.{performed_same, no_last_begun, withholds_same}
use Rattle.gfxspec.specs.declared.geometry.Size.{Size}
use Rattle.gfxspec.specs.Items.{Item, after_items}
use Rattle.gfxspec.specs.Commands.{Command, Begin}
use Rattle.tileblock.specs.Surface.{Surface, pixel_of}
use Rattle.binner.specs.Compiled.{Compilation}
use Rattle.binner.specs.Segments.{cut_items, AreCompiled}
use Rattle.tileprog.specs.Programs.{ProgramsRan, AllRan}
use Rattle.tileprog.proofs.Several.{several_drawn}
use Rattle.immediate.specs.Outputs as outputs
use Rattle.immediate.specs.Outputs.{Outputs, performed_over, cut_over}
use Rattle.immediate.specs.Held.{Held, outputs_of, context_of, stored}
use Rattle.cmdlist.specs.Drawable.{told}
use Rattle.immediate.specs.Batched.{HasDrawn}
use Rattle.immediate.proofs.Runs.{IsKept}

-- ---- segments

-- the same commands are performed under results that are the same
pub performed_told_alike : (f g : ℕ → Bool) → ((q : ℕ) → f q ≡ g q) → (earlier cs : List Command) → performed_behind f earlier cs ≡ performed_behind g earlier cs
performed_told_alike f g same earlier [] = refl
performed_told_alike f g same earlier (c ∷ cs) =
    let predicate = (settings_after earlier).predicate in
    ap (λ w. cond (not (is_drawing c && w)) (c ∷ performed_behind f (earlier ++ c ∷ []) cs) (performed_behind f (earlier ++ c ∷ []) cs))
    (withholds_same f g predicate (λ p is. same p.0))
    ∙ ap (λ l. cond (not (is_drawing c && withholds g predicate)) (c ∷ l) l) (performed_told_alike f g same (earlier ++ c ∷ []) cs)

pub cut_alike : (f g : ℕ → Bool) → ((q : ℕ) → f q ≡ g q) → (segments : List (List Command)) → cut_items f segments ≡ cut_items g segments
cut_alike f g same [] = refl
cut_alike f g same (s ∷ ss) =
    ap (λ cs. items cs ++ cut_items f ss) (performed_told_alike f g same [] s) ∙ ap (λ is. items (performed g s) ++ is) (cut_alike f g same ss)

-- segments that were compiled under the results, one after the other, of what is held
pub compiled_over : (o : Outputs) (size : Size) (flags : List Bool) (segments : List (List Command)) (cs : List Compilation) (target : Surface) (results : List (Option ℕ)) → record { surface = target; results = results } ≡ o → size ≡ target.size → ((q : ℕ) → told flags q ≡ result_of (result_at results q)) → AreCompiled size (cut_items (told flags) segments) cs → AreCompiled o.surface.size (cut_over o segments) cs
compiled_over o size flags segments cs target results is sized same made =
    subst (λ (p : Outputs). AreCompiled p.surface.size (cut_over p segments) cs) is
    (subst (λ (z : Size). AreCompiled z (cut_items (λ q. result_of (result_at results q)) segments) cs) sized
    (subst (λ items. AreCompiled size items cs) (cut_alike (told flags) (λ q. result_of (result_at results q)) same segments) made))

module _ (o : Outputs) (old new : Surface) (results : List (Option ℕ)) (is : record { surface = old; results = results } ≡ o) where
  -- compiled lists that mean these items ran one behind the other
  has_drawn : (items : List Item) (cs : List Compilation) → AreCompiled o.surface.size items cs → AllRan cs old new → HasDrawn items o record { surface = new; results = results }
  has_drawn items cs means ran =
      subst (λ (p : Outputs). HasDrawn items p record { surface = new; results = results }) is
      record {
        size = ran.size;
        pixels = several_drawn items cs old new (subst (λ (z : Size). AreCompiled z items cs) (ap (λ (p : Outputs). p.surface.size) (sym is)) means) ran;
        results = refl;
      }

  -- the same, as its counts are kept
  pub segments_kept : {T : Type 0} (counts : T → List ℕ) (items : List Item) (cs : List Compilation) (drawn : Result T GfxError) (result : Result (Unit {0}) GfxError) (after : List (Option ℕ)) → AreCompiled o.surface.size items cs → IsKept counts [] drawn results after result → IfOk drawn (λ x. AllRan cs old new) → OnOk result (HasDrawn items o record { surface = new; results = after })
  segments_kept counts items cs (Ok x) result after means kept ran =
      subst (λ (r : Result (Unit {0}) GfxError). OnOk r (HasDrawn items o record { surface = new; results = after })) (sym kept.0)
      (subst (λ (rs : List (Option ℕ)). HasDrawn items o record { surface = new; results = rs }) (sym kept.1) (has_drawn items cs means ran))
  segments_kept counts items cs (Err e) result after means kept ran =
      subst (λ (r : Result (Unit {0}) GfxError). OnOk r (HasDrawn items o record { surface = new; results = after })) (sym kept.0) tt

pub some_weaker : {T : Type 0} (P Q : T → Type 0) (r : Option T) → ((x : T) → P x → Q x) → IfSome r P → IfSome r Q
some_weaker P Q None f h = tt
some_weaker P Q (Some x) f h = f x h

pub ok_given : {T E : Type 0} (P : Type 0) (r : Result T E) → is_ok r ≡ true → OnOk r P → P
ok_given P (Ok x) e h = h
ok_given P (Err x) e h = absurd cc

pub ok_weaker : {T E : Type 0} (P Q : T → Type 0) (r : Result T E) → ((x : T) → P x → Q x) → IfOk r P → IfOk r Q
ok_weaker P Q (Ok x) f h = f x h
ok_weaker P Q (Err e) f h = tt

-- the programs of a single list
pub one_ran : (c : Compilation) (old new : Surface) (counts : List ℕ) → ProgramsRan c old new counts → AllRan (c ∷ []) old new
one_ran c old new counts ran = record { size = ran.size; whole = ran.whole; pixels = ran.pixels }

-- ---- behind the pending commands

pub none_begun : (q : ℕ) (told : ℕ → Bool) (list : List Command) → issues list ≡ [] → last_begun q (performed told list) ≡ None
none_begun q told list none =
    no_last_begun q (performed told list) (ap (is_among q) ((performed_alike told list).issues_are ∙ none))

-- so the items of commands that begin none are all that they leave
pub drawn_is_run : (list : List Command) (o new : Outputs) → issues list ≡ [] → HasDrawn (items (performed_over o list)) o new → outputs.HasRun list o new
drawn_is_run list o new none drawn = record {
  size = drawn.size;
  pixels = drawn.pixels;
  results = λ q l.
      ap (λ (rs : List (Option ℕ)). result_at rs q) drawn.results
      ∙ sym (ap (λ (k : Option ℕ). counted_or (result_at o.results q) k (items (performed_over o list)) o.surface.size (pixel_of o.surface)) (none_begun q (λ p. result_of (result_at o.results p)) list none));
}

-- where no issue begins, no query is open
pub none_open : (list : List Command) → issues list ≡ [] → queries_open list ≡ []
none_open [] h = refl
none_open (Begin q ∷ list) h = absurd cc
none_open (c ∷ list) h = none_open list h

-- and each query answers what it answered before
pub answers_stay : (size : Size) (h : Held) → issues h.pending ≡ [] → (q : ℕ) → answered size (context_of h) q ≡ result_at h.results q
answers_stay size h none q =
    let told : ℕ → Bool = λ p. result_of (result_at h.results p) in
    ap (λ (o : Option ℕ). counted_or (result_at h.results q) o (items (performed told h.pending)) size (stored h)) (none_begun q told h.pending none)

-- A context whose pending commands leave these items on what is held, and begin no query; then a list ran that begins none.
module _ (size : Size) (h : Held) (c : Context) (js : List Item) (shows : (x y : ℕ) → shown c x y ≡ after_items js x y (pixel_of h.surface x y)) (answers : (q : ℕ) → answered size c q ≡ result_at h.results q) where
  pub run_behind : (list : List Command) (restore : Bool) → AreAccepted list → issues list ≡ [] → HasRun size list restore c record { stored = λ x y. after_items (js ++ items (performed_over (outputs_of h) list)) x y (pixel_of h.surface x y); results = h.results; pending = after_finish restore c.pending }
  run_behind list restore accepted none =
      let left : List Command = performed_over (outputs_of h) list in
      let left_is : performed_next size c list ≡ left =
      performed_same (λ q. result_of (answered size c q)) (λ q. result_of (result_at h.results q)) list accepted (λ q l. ap result_of (answers q)) in
      record {
        pixels = λ x y w l.
            after_items-append js (items left) x y (pixel_of h.surface x y)
            ∙ ap (after_items (items left) x y) (sym (shows x y))
            ∙ ap (λ (cs : List Command). after_items (items cs) x y (shown c x y)) (sym left_is);
        results = λ q l.
            sym (answers q)
            ∙ ap (λ (o : Option ℕ). counted_or (answered size c q) o (items (performed_next size c list)) size (shown c)) (sym (none_begun q (λ p. result_of (answered size c p)) list none));
        pending = refl;
      }
