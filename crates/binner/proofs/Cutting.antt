-- Lists that are cut into segments, command by command.
use Rattle.std.proofs.Common.{◌≡◌, ◌∙◌, ap, sym, subst, refl, Bool, ℕ, ◌+◌, ◌<◌, ◌≤◌, List, [], ◌∷◌, ◌++◌, length, map, drop, get_or, append_assoc}
use Rattle.std.specs.Prelude.{ℤ, Option, Some, None}
use Rattle.std.proofs.lemmas.List.{append-nil, take_all, map-append}
use Rattle.std.proofs.lemmas.List.Elements.{filter_map-append}
use Rattle.gfxspec.specs.State.{Settings}
use Rattle.gfxspec.specs.Commands.{Command, Begin, Kept}
use Rattle.gfxspec.specs.Recorded.{settings_after, open_from, items, issues, query_begun}
use Rattle.gfxspec.specs.Predication.{performed}
use Rattle.gfxspec.specs.Accepted.{AreSound, AreAccepted}
use Rattle.meaning.specs.OneMore.{settings_with, performed_items}
use Rattle.meaning.proofs.Nearest.{settings_after-push}
use Rattle.meaning.proofs.Withheld.{items_performed-push}
use Rattle.meaning.proofs.Accepting.{sound_with}
use Rattle.command.specs.declared.command.Command.{Command as Code}
use Rattle.command.specs.Seen.{command_value}
use Rattle.binner.specs.Opened.{CanNote}
use Rattle.binner.specs.Compiling.{CanStand, CanCompile}
use Rattle.binner.specs.Segments.{IsOpenSegment, CanFollow, IsSame, IsMore, draw_of, cut_items, laid_items}
use Rattle.binner.proofs.Accepted.{done, done_more, whole, can_note, drawable, accepted_at}

-- ---- where no issue begins, none is open

none_open : (k : ℕ) (cs : List Command) → issues cs ≡ [] → open_from k cs ≡ []
none_open k [] h = refl
none_open k (Begin q ∷ cs) h = absurd cc
none_open k (c ∷ cs) h = none_open k cs h

none_at_front : (xs ys : List ℕ) → xs ++ ys ≡ [] → xs ≡ []
none_at_front [] ys h = refl
none_at_front (x ∷ xs) ys h = absurd cc

begins_none : (c : Command) (cs : List Command) → issues (c ∷ cs) ≡ [] → query_begun c ≡ None
begins_none (Begin q) cs h = absurd cc
begins_none c cs h = refl

begins_none_behind : (xs : List Command) (c : Command) (ys : List Command) → issues (xs ++ c ∷ ys) ≡ [] → query_begun c ≡ None
begins_none_behind [] c ys h = begins_none c ys h
begins_none_behind (Begin q ∷ xs) c ys h = absurd cc
begins_none_behind (x ∷ xs) c ys h = begins_none_behind xs c ys h

none_begun : (c : Command) → query_begun c ≡ None → issues (c ∷ []) ≡ []
none_begun (Begin q) h = absurd cc
none_begun c h = refl

-- ---- the open segment

stands-push : (earlier xs : List Command) (c : Command) → CanCompile earlier xs → CanStand (earlier ++ xs) c → CanCompile earlier (xs ++ c ∷ [])
stands-push earlier [] c h d = (subst (λ e. CanStand e c) (append-nil earlier) d, tt)
stands-push earlier (x ∷ xs) c h d =
    (h.0, stands-push (earlier ++ x ∷ []) xs c h.1 (subst (λ e. CanStand e c) (sym (append_assoc earlier (x ∷ []) xs)) d))

pub still_open : (cs : List Command) (s t : Settings) (c : Command) → IsOpenSegment cs s → CanFollow (settings_after cs) c → t ≡ settings_with c s → IsOpenSegment (cs ++ c ∷ []) t
still_open cs s t c h f e =
    let is : t ≡ settings_with c (settings_after cs) = e ∙ ap (settings_with c) h.state in
    record {
      segment = record {
        can = stands-push [] cs c h.segment.can (record { drawable = f.drawable; note = subst (λ is. CanNote (length is) c) (sym h.segment.unissued) f.note });
        unissued = filter_map-append query_begun cs (c ∷ []) ∙ ap (λ k. k ++ issues (c ∷ [])) h.segment.unissued ∙ none_begun c f.unissued;
      };
      state = is ∙ sym (settings_after-push cs c);
      sound = subst AreSound (sym is) f.sound;
    }

-- a draw changes no setting
pub draw_sets_nothing : (base : Option ℤ) (count start : ℕ) (s : Settings) → s ≡ settings_with (draw_of base count start) s
draw_sets_nothing None count start s = refl
draw_sets_nothing (Some base) count start s = refl

-- ---- what segments mean

cut_items-push : (results : ℕ → Bool) (ss : List (List Command)) (s : List Command) → cut_items results (ss ++ s ∷ []) ≡ laid_items results ss s
cut_items-push results [] s = append-nil (items (performed results s))
cut_items-push results (x ∷ ss) s =
    ap (λ is. items (performed results x) ++ is) (cut_items-push results ss s)
    ∙ sym (append_assoc (items (performed results x)) (cut_items results ss) (items (performed results s)))

pub same_behind_cut : (finished : List (List Command)) (cs : List Command) (s : Settings) → s ≡ settings_after cs → IsSame finished cs (finished ++ cs ∷ []) (Kept s ∷ [])
same_behind_cut finished cs s e = record {
  state = e;
  items = λ results. append-nil (cut_items results (finished ++ cs ∷ [])) ∙ cut_items-push results finished cs;
}

pub more_by_push : (finished : List (List Command)) (cs : List Command) (c : Command) → issues cs ≡ [] → IsMore c finished cs finished (cs ++ c ∷ [])
more_by_push finished cs c h = record {
  state = settings_after-push cs c;
  items = λ results.
      ap (λ is. cut_items results finished ++ is) (items_performed-push results cs c ∙ ap (λ o. items (performed results cs) ++ performed_items results (settings_after cs) o c) (none_open 0 cs h))
      ∙ sym (append_assoc (cut_items results finished) (items (performed results cs)) (performed_items results (settings_after cs) [] c));
}

pub more_behind_same : (c : Command) (fs : List (List Command)) (xs : List Command) (gs : List (List Command)) (ys : List Command) (hs : List (List Command)) (zs : List Command) → IsSame fs xs gs ys → IsMore c gs ys hs zs → IsMore c fs xs hs zs
more_behind_same c fs xs gs ys hs zs k m = record {
  state = m.state ∙ ap (settings_with c) k.state;
  items = λ results.
      m.items results
      ∙ ap (λ is. is ++ performed_items results (settings_after ys) [] c) (k.items results)
      ∙ ap (λ s. laid_items results fs xs ++ performed_items results s [] c) k.state;
}

-- a finished segment, and the next one that begins with the state behind it
pub same_behind : (fs gs : List (List Command)) (cs segment ys : List Command) (s : Settings) → segment ≡ cs → s ≡ settings_after segment → gs ≡ fs ++ segment ∷ [] → ys ≡ Kept s ∷ [] → IsSame fs cs gs ys
same_behind fs gs cs segment ys s e is p q =
    subst (λ (zs : List Command). IsSame fs cs gs zs) (sym q)
    (subst (λ (hs : List (List Command)). IsSame fs cs hs (Kept s ∷ [])) (sym (p ∙ ap (λ x. fs ++ x ∷ []) e)) (same_behind_cut fs cs s (is ∙ ap settings_after e)))

-- ---- steps of the code

pub pushed : {A : Type 0} (xs ys : List (Code A)) (d : Code A) (cs : List Command) → map command_value xs ≡ cs → ys ≡ xs ++ d ∷ [] → map command_value ys ≡ cs ++ command_value d ∷ []
pushed xs ys d cs e p = ap (map command_value) p ∙ map-append command_value xs (d ∷ []) ∙ ap (λ k. k ++ command_value d ∷ []) e

-- ---- the first i commands of a list

-- these commands are cut: they stand in the finished segments behind those that were there, and in the open one
pub record Cut (start : List (List Command)) (commands : List Command) (finished : List (List Command)) (opened : List Command) : Type 0 where
  pub state : settings_after opened ≡ settings_after commands
  pub items : (results : ℕ → Bool) → laid_items results finished opened ≡ cut_items results start ++ items (performed results commands)

pub none_cut : (start : List (List Command)) → Cut start [] start []
none_cut start = record { state = refl; items = λ results. refl }

module _ {A : Type 0} (cs : List (Code A)) (i : ℕ) (d : Code A) (l : i < length cs) where
  none_issued : issues (map command_value cs) ≡ [] → issues (done cs i) ≡ []
  none_issued h =
      none_at_front (issues (done cs i)) _
      (sym (filter_map-append query_begun (done cs i) (command_value (get_or cs i d) ∷ map command_value (drop (i + 1) cs))) ∙ ap issues (sym (whole cs i d l)) ∙ h)

  pub can_follow : (start finished : List (List Command)) (opened : List Command) → AreAccepted (map command_value cs) → issues (map command_value cs) ≡ [] → Cut start (done cs i) finished opened → CanFollow (settings_after opened) (command_value (get_or cs i d))
  can_follow start finished opened accepted unissued h =
      let c = command_value (get_or cs i d) in
      let ready = drawable cs i d (settings_after opened) accepted l h.state in
      record {
        drawable = ready;
        note = subst (λ is. CanNote (length is) c) (none_issued unissued) (can_note (done cs i) c (accepted_at cs i d accepted l));
        sound = sound_with (done cs i) c (settings_after opened) (accepted_at cs i d accepted l) ready.sound;
        unissued = begins_none_behind (done cs i) c _ (subst (λ k. issues k ≡ []) (whole cs i d l) unissued);
      }

  pub one_cut : (start fs : List (List Command)) (xs : List Command) (gs : List (List Command)) (ys : List Command) → issues (map command_value cs) ≡ [] → Cut start (done cs i) fs xs → IsMore (command_value (get_or cs i d)) fs xs gs ys → Cut start (done cs (i + 1)) gs ys
  one_cut start fs xs gs ys unissued h m =
      let c = command_value (get_or cs i d) in
      let more = done_more cs i d l in
      record {
        state = m.state ∙ ap (settings_with c) h.state ∙ sym (settings_after-push (done cs i) c) ∙ ap settings_after (sym more);
        items = λ results.
            m.items results
            ∙ ap (λ is. is ++ performed_items results (settings_after xs) [] c) (h.items results)
            ∙ append_assoc (cut_items results start) (items (performed results (done cs i))) (performed_items results (settings_after xs) [] c)
            ∙ ap (λ is. cut_items results start ++ is)
            (ap (λ s. items (performed results (done cs i)) ++ performed_items results s [] c) h.state
            ∙ ap (λ o. items (performed results (done cs i)) ++ performed_items results (settings_after (done cs i)) o c) (sym (none_open 0 (done cs i) (none_issued unissued)))
            ∙ sym (items_performed-push results (done cs i) c) ∙ ap (λ ys. items (performed results ys)) (sym more));
      }

pub all_cut : {A : Type 0} (results : ℕ → Bool) (cs : List (Code A)) (i : ℕ) (start finished : List (List Command)) (opened : List Command) (now : List (List Command)) → length cs ≤ i → Cut start (done cs i) finished opened → now ≡ finished ++ opened ∷ [] → cut_items results now ≡ cut_items results start ++ items (performed results (map command_value cs))
all_cut results cs i start finished opened now all h e =
    ap (cut_items results) e ∙ cut_items-push results finished opened ∙ h.items results
    ∙ ap (λ ds. cut_items results start ++ items (performed results (map command_value ds))) (take_all i cs all)
