-- One more list in a row.
use Rattle.std.proofs.Common.{◌≡◌, ◌∙◌, ap, sym, subst, refl, ℕ, zero, suc, ◌<◌, ⊎_elim, arith, cond, List, [], ◌∷◌, ◌++◌, length}
use Rattle.std.specs.Prelude.{slice_index_or, map, set, is_ok, OnOk, OnErr, Result, Ok, Err}
use Rattle.std.proofs.lemmas.Bool.{cases_lt, cases_eq}
use Rattle.std.proofs.lemmas.List.{length-map, length_push, map-append, map-set, get_or-map, get_or_append_left, get_or_push, get_or-set_same, get_or-set_other}
use Rattle.gfxspec.specs.Commands.{Command}
use Rattle.scenetext.specs.Scene.{Line}
use Rattle.recorders.specs.declared.ports.Recorded.{Recorded}
use Rattle.recorders.specs.Apart.{IsListed}
use Rattle.recorders.specs.Recording.{listed}
use Rattle.recorders.specs.Rows.{row, with_list, IsNext, IsRow, AreRows}

row_push : (ls : List Line) (k : ℕ) (xs : List (List Command)) (x : List Command) → IsRow ls k xs → x ≡ listed ls k (length xs) → IsRow ls k (xs ++ x ∷ [])
row_push ls k xs x h is n low =
    let one = length_push xs x in
    ⊎_elim (λ less. get_or_append_left xs (x ∷ []) [] n less ∙ h n less)
    (λ more. let same : length xs ≡ n = omega (arith, more, low, one) in get_or_push xs x [] n same ∙ is ∙ ap (listed ls k) same) (cases_lt n (length xs))

pub rows_more : (ls : List Line) (rows : List (List (List Command))) (x : Recorded (List Command)) → IsNext rows x → IsListed ls x → AreRows ls rows → AreRows ls (with_list rows x.context x.list)
rows_more ls rows x next is h k =
    ⊎_elim (λ e.
    subst (IsRow ls k) (sym (ap (λ c. slice_index_or (with_list rows x.context x.list) c []) (sym e) ∙ get_or-set_same rows x.context (row rows x.context ++ x.list ∷ []) [] next.0))
    (subst (λ c. IsRow ls c (row rows x.context ++ x.list ∷ [])) e (row_push ls x.context (row rows x.context) x.list (h x.context) (is ∙ ap (listed ls x.context) next.1))))
    (λ other. subst (IsRow ls k) (sym (get_or-set_other rows x.context k (row rows x.context ++ x.list ∷ []) [] (λ e. other (sym e)))) (h k)) (cases_eq x.context k)

-- a list was added, or there was no room for it
pub added : {E : Type 0} (ls : List Line) (rows new : List (List (List Command))) (x : Recorded (List Command)) (r : Result (Unit {0}) E) → OnOk r (IsNext rows x × (new ≡ with_list rows x.context x.list)) → OnErr r (new ≡ rows) → IsListed ls x → AreRows ls rows → AreRows ls new
added ls rows new x (Ok u) ok err is h = subst (AreRows ls) (sym ok.1) (rows_more ls rows x ok.0 is h)
added ls rows new x (Err e) ok err is h = subst (AreRows ls) (sym err) h

-- rows without lists
pub rows_none : (ls : List Line) (rows : List (List (List Command))) → ((k : ℕ) → row rows k ≡ []) → AreRows ls rows
rows_none ls rows none k n low = let empty = ap length (none k) in absurd (omega (arith, low, empty))

none_push : {Y : Type 0} (rows : List (List Y)) (k : ℕ) → slice_index_or (rows ++ [] ∷ []) k [] ≡ slice_index_or rows k []
none_push [] zero = refl
none_push [] (suc k) = refl
none_push (r ∷ rows) zero = refl
none_push (r ∷ rows) (suc k) = none_push rows k

pub still_none : {X Y Z E : Type 0} (view : X → List Y) (xs ys : List X) (x : X) (r : Result Z E) → ys ≡ cond (is_ok r) (xs ++ x ∷ []) xs → view x ≡ [] → ((k : ℕ) → slice_index_or (map view xs) k [] ≡ []) → (k : ℕ) → slice_index_or (map view ys) k [] ≡ []
still_none view xs ys x (Ok u) is empty none k =
    ap (λ zs. slice_index_or (map view zs) k []) is ∙ ap (λ rows. slice_index_or rows k []) (map-append view xs (x ∷ [])) ∙ ap (λ l. slice_index_or (map view xs ++ l ∷ []) k []) empty ∙ none_push (map view xs) k ∙ none k
still_none view xs ys x (Err e) is empty none k = ap (λ zs. slice_index_or (map view zs) k []) is ∙ none k

-- ---- a row of a vector of rows

-- an element was pushed onto it
pub pushed : {X Y : Type 0} (view : X → List Y) (xs : List X) (k : ℕ) (y : Y) (old new : X) → k < length xs → old ≡ slice_index_or xs k old → view new ≡ view old ++ y ∷ [] → map view (set xs k new) ≡ set (map view xs) k (slice_index_or (map view xs) k [] ++ y ∷ [])
pushed view xs k y old new low at more =
    map-set view xs k new ∙ ap (set (map view xs) k) (more ∙ ap (λ ys. ys ++ y ∷ []) (ap view at ∙ sym (get_or-map view xs k old [] low)))

-- the next list was pushed onto it
pub put_next : {X : Type 0} (view : X → List (List Command)) (xs : List X) (now : List (List (List Command))) (x : Recorded (List Command)) (asked old new : X) → map view xs ≡ now → x.context < length xs → asked ≡ slice_index_or xs x.context asked → x.number ≡ length (view asked) → old ≡ slice_index_or xs x.context old → view new ≡ view old ++ x.list ∷ [] → IsNext now x × (map view (set xs x.context new) ≡ with_list now x.context x.list)
put_next view xs now x asked old new is low asked_at count at more =
    subst (λ rows. IsNext rows x × (map view (set xs x.context new) ≡ with_list rows x.context x.list)) is (
      (subst (λ m. x.context < m) (sym (length-map xs view)) low, count ∙ ap length (ap view asked_at ∙ sym (get_or-map view xs x.context asked [] low))),
      pushed view xs x.context x.list old new low at more,
    )

pub on_err : {X Y : Type 0} {P : Type 0} (r : Result X Y) → P → OnErr r P
on_err (Ok x) p = tt
on_err (Err e) p = p
