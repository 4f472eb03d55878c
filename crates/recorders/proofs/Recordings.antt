-- How many lists a deferred context has finished.
use Rattle.std.proofs.Common.{◌≡◌, ℕ, ◌+◌, arith, Bool, true, false, cond, ◌&&◌, List, [], ◌∷◌, length}
use Rattle.std.specs.Prelude.{fold, count_by}
use Rattle.std.proofs.lemmas.List.{length_push}
use Rattle.std.proofs.lemmas.List.Sums.{sum_by-cons}
use Rattle.scenetext.specs.Scene.{Verb, Finish, Line}
use Rattle.scenetext.specs.Spelling.{is_finish, is_deferred, finishes_list}
use Rattle.recorders.specs.Recording.{Recording, nothing_recorded, with_verb, with_line, recording_of}

counted : (k : ℕ) (r : Recording) (ls : List Line) → length (fold (with_line k) r ls).lists ≡ length r.lists + count_by (finishes_list k) ls
counted k r [] = omega arith
counted k r (l ∷ ls) =
    let first = one (is_deferred k l.actor) l.verb in
    let rest = counted k (with_line k r l) ls in
    let sum = sum_by-cons (λ m. cond (finishes_list k m) 1 0) l ls in
    omega (arith, first, rest, sum)
  where
    one : (own : Bool) (v : Verb) → length (cond own (with_verb r v) r).lists ≡ length r.lists + cond (own && is_finish v) 1 0
    one true (Finish restore) = length_push r.lists r.current
    one true v = omega arith
    one false v = omega arith

pub lists_counted : (k : ℕ) (earlier : List Line) → length (recording_of k earlier).lists ≡ count_by (finishes_list k) earlier
lists_counted k earlier = let h = counted k nothing_recorded earlier in omega (arith, h)
