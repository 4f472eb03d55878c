-- Lists that a context has finished stay.
use Rattle.std.proofs.Common.{◌≡◌, ◌∙◌, ap, sym, ℕ, ◌+◌, ◌<◌, ◌≤◌, arith, Bool, true, false, cond, List, [], ◌∷◌, ◌++◌, length, take, drop, refl, append_assoc}
use Rattle.std.specs.Prelude.{slice_index_or, fold}
use Rattle.std.proofs.lemmas.List.{append-nil, get_or_append_left, length-append, take-append-drop, take-take}
use Rattle.std.proofs.lemmas.List.Sums.{fold-append}
use Rattle.gfxspec.specs.Commands.{Command}
use Rattle.scenetext.specs.Scene.{Verb, Finish, Line}
use Rattle.scenetext.specs.Spelling.{is_deferred}
use Rattle.recorders.specs.Recording.{Recording, nothing_recorded, with_verb, with_line, recording_of, listed}
use Rattle.recorders.specs.Apart.{lists_behind}

grows : (k : ℕ) (r : Recording) (ls : List Line) → (more : List (List Command)) × ((fold (with_line k) r ls).lists ≡ r.lists ++ more)
grows k r [] = ([], sym (append-nil r.lists))
grows k r (l ∷ ls) =
    let first = one (is_deferred k l.actor) l.verb in
    let rest = grows k (with_line k r l) ls in
    (first.0 ++ rest.0, rest.1 ∙ ap (λ xs. xs ++ rest.0) first.1 ∙ append_assoc r.lists first.0 rest.0)
  where
    one : (own : Bool) (v : Verb) → (more : List (List Command)) × ((cond own (with_verb r v) r).lists ≡ r.lists ++ more)
    one true (Finish restore) = (r.current ∷ [], refl)
    one true v = ([], sym (append-nil r.lists))
    one false v = ([], sym (append-nil r.lists))

pub lists_grow : (k i : ℕ) (ls : List Line) → (more : List (List Command)) × ((recording_of k ls).lists ≡ lists_behind ls k i ++ more)
lists_grow k i ls =
    let g = grows k (recording_of k (take i ls)) (drop i ls) in
    (g.0, ap (λ (r : Recording). r.lists) (ap (recording_of k) (sym (take-append-drop i ls)) ∙ fold-append (with_line k) nothing_recorded (take i ls) (drop i ls)) ∙ g.1)

pub listed_early : (k i n : ℕ) (ls : List Line) → n < length (lists_behind ls k i) → listed ls k n ≡ slice_index_or (lists_behind ls k i) n []
listed_early k i n ls h = let g = lists_grow k i ls in ap (λ xs. slice_index_or xs n []) g.1 ∙ get_or_append_left (lists_behind ls k i) g.0 [] n h

-- no more lists behind fewer lines
pub fewer_lists : (ls : List Line) (k i j : ℕ) → i ≤ j → length (lists_behind ls k i) ≤ length (lists_behind ls k j)
fewer_lists ls k i j less =
    let g = lists_grow k i (take j ls) in
    let same : lists_behind (take j ls) k i ≡ lists_behind ls k i = ap (λ e. (recording_of k e).lists) (take-take i j ls less) in
    let all : length (lists_behind ls k j) ≡ length (lists_behind (take j ls) k i) + length g.0 = ap length g.1 ∙ length-append (lists_behind (take j ls) k i) g.0 in
    let count = ap length same in
    omega (arith, all, count)
