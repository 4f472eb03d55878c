-- Segments one behind the other, and the lists that were compiled of them.
use Rattle.std.proofs.Common.{◌≡◌, ◌∙◌, sym, ap, refl, subst, arith, ℕ, zero, suc, ◌+◌, ◌*◌, ◌<◌, ◌≤◌, Bool, List, [], ◌∷◌, ◌++◌, length, take, get_or, append_assoc, append-nil, take-add, take_all, take-suc}
use Rattle.gfxspec.specs.declared.geometry.Size.{Size}
use Rattle.gfxspec.specs.Items.{Item}
use Rattle.gfxspec.specs.Commands.{Command}
use Rattle.gfxspec.specs.Recorded.{items}
use Rattle.gfxspec.specs.Predication.{performed}
use Rattle.binner.specs.Compiled.{Compilation}
use Rattle.binner.specs.Segments.{cut_items, AreCompiled}
use Rattle.segmentrun.specs.Windows.{window_of, IsCompiled, joined}

-- the items of segments are those of the first of them and those of the others
pub of_both : (results : ℕ → Bool) (xs ys : List (List Command)) → cut_items results (xs ++ ys) ≡ cut_items results xs ++ cut_items results ys
of_both results [] ys = refl
of_both results (x ∷ xs) ys = ap (λ (is : List Item). items (performed results x) ++ is) (of_both results xs ys) ∙ sym (append_assoc (items (performed results x)) (cut_items results xs) (cut_items results ys))

-- with one more segment come its items
pub one_more : (results : ℕ → Bool) (segments : List (List Command)) (i : ℕ) (d : List Command) → i < length segments → cut_items results (take i segments) ++ items (performed results (get_or segments i d)) ≡ cut_items results (take (i + 1) segments)
one_more results segments i d less =
    let s = get_or segments i d in
    let next : suc i ≡ i + 1 = omega arith in
    sym (of_both results (take i segments) (s ∷ []) ∙ ap (λ (is : List Item). cut_items results (take i segments) ++ is) (append-nil (items (performed results s))))
    ∙ (ap (cut_items results) (sym (take-suc segments i d less)) ∙ ap (λ (n : ℕ). cut_items results (take n segments)) next)

-- the first windows mean what the segments in them mean
pub first_windows : (results : ℕ → Bool) (width : ℕ) (segments : List (List Command)) (n : ℕ) → joined (λ number. cut_items results (window_of width number segments)) n ≡ cut_items results (take (n * width) segments)
first_windows results width segments zero = let none : 0 ≡ 0 * width = omega arith in ap (λ (k : ℕ). cut_items results (take k segments)) none
first_windows results width segments (suc n) =
    let before = take (n * width) segments in
    let next : n * width + width ≡ suc n * width = omega arith in
    ap (λ (is : List Item). is ++ cut_items results (window_of width n segments)) (first_windows results width segments n)
    ∙ (sym (of_both results before (window_of width n segments))
    ∙ (ap (cut_items results) (sym (take-add (n * width) width segments)) ∙ ap (λ (k : ℕ). cut_items results (take k segments)) next))

-- and all of them what all segments mean
pub all_windows : (results : ℕ → Bool) (width : ℕ) (segments : List (List Command)) (n : ℕ) → length segments ≤ n * width → joined (λ number. cut_items results (window_of width number segments)) n ≡ cut_items results segments
all_windows results width segments n whole = first_windows results width segments n ∙ ap (cut_items results) (take_all (n * width) segments whole)

-- one list alone
pub one_list : (size : Size) (is : List Item) (c : Compilation) → IsCompiled size is c → AreCompiled size is (c ∷ [])
one_list size is c h = (is, [], sym (append-nil is), h.0, h.1, h.2, refl)

-- lists, and one behind them
pub and_one : (size : Size) (is js : List Item) (cs : List Compilation) (c : Compilation) → AreCompiled size is cs → IsCompiled size js c → AreCompiled size (is ++ js) (cs ++ c ∷ [])
and_one size is js [] c none h = subst (λ (ks : List Item). AreCompiled size (ks ++ js) (c ∷ [])) (sym none) (one_list size js c h)
and_one size is js (d ∷ ds) c h more = (
  h.0,
  h.1 ++ js,
  ap (λ (ks : List Item). ks ++ js) h.2 ∙ append_assoc h.0 h.1 js,
  h.3,
  h.4,
  h.5,
  and_one size h.1 js ds c h.6 more,
)

-- the lists of the first windows, and that of the next one
pub and_next : (size : Size) (meant : ℕ → List Item) (n : ℕ) (cs : List Compilation) (c : Compilation) → AreCompiled size (joined meant n) cs → IsCompiled size (meant n) c → AreCompiled size (joined meant (n + 1)) (cs ++ c ∷ [])
and_next size meant n cs c are one =
    let next : suc n ≡ n + 1 = omega arith in
    subst (λ (k : ℕ). AreCompiled size (joined meant k) (cs ++ c ∷ [])) next (and_one size (joined meant n) (meant n) cs c are one)
