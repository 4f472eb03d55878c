-- The first line of a text and its form, byte by byte; the first word of a line.
use Rattle.std.proofs.Common.{◌≡◌, ◌≢◌, ◌⊎◌, ℕ, ◌+◌, ◌-◌, ◌<◌, ◌≤◌, Bool, true, false, cond, not, ◌&&◌, ◌||◌, eqb, ltb, List, [], ◌∷◌, ◌++◌, length, get_or, take, drop, drop-cons, Some, None, add-one, refl, sym, ap, subst, ◌∙◌, append_assoc, ⊎_elim, arith, inl, inr}
use Rattle.std.specs.Prelude.{position}
use Rattle.std.specs.List.{list_all, position_or_len, onto_first}
use Rattle.std.proofs.lemmas.Bool.{cases_lt, ltb-false, eqb-true}
use Rattle.std.proofs.lemmas.Bool.Decides.{nat_tests}
use Rattle.std.proofs.lemmas.List.{take-append-drop, take_more, append-nil, length-drop, take_all, drop_all}
use Rattle.std.proofs.lemmas.List.Folds.{list_all-append}
use Rattle.std.proofs.lemmas.List.Sums.{sum_by_push, prefix_len-le-length}
use Rattle.std.proofs.Math.Seq.{take-add}
use Rattle.scenetext.specs.declared.text.FrontForm.{FrontForm}
use Rattle.scenetext.specs.Text.{lines_of, words_of, is_printable, is_word}
use Rattle.scenetext.specs.Faults.{word}
use Rattle.scenetext.specs.Reading.{line_record, first_length, first_word, form, HasForm, AddsForm, CutsLine, BadForm}
use Rattle.scenetext.proofs.TextLemmas.{Lacks, Lacks-lf, not_lf, lines_of-ended, lines_of-open, cut_first, cut_none}

-- ---- the form of the first line, byte by byte

abbrev have_words : Bool → List (List ℕ) → Bool
have_words false ws = list_all is_word ws
have_words true [] = true
have_words true (w ∷ ws) = list_all is_word ws

and_assoc : (a b c : Bool) → (a && (b && c)) ≡ ((a && b) && c)
and_assoc true b c = refl
and_assoc false b c = refl

and_none : (a : Bool) → (a && false) ≡ false
and_none true = refl
and_none false = refl

onto_words : (begun : Bool) (b : ℕ) (ws : List (List ℕ)) → have_words begun (onto_first b ws) ≡ have_words true ws
onto_words true b [] = refl
onto_words true b (w ∷ ws) = refl
onto_words false b [] = refl
onto_words false b (w ∷ ws) = ap (λ t. t && list_all is_word ws) (some_word b w)
  where
    some_word : (b : ℕ) (w : List ℕ) → is_word (b ∷ w) ≡ true
    some_word b w = grind (arith, nat_tests)

-- one byte, where it is a space or not
form_byte : (t : Bool) (b : ℕ) (p : Bool) (ws : List (List ℕ)) (begun : Bool) (f : Bool → Bool) → (t ≡ true → is_printable b ≡ true) → ((w : Bool) → f w ≡ (p && have_words w ws))
    → cond t (begun && f false) (is_printable b && f true) ≡ (is_printable b && p && have_words begun (cond t ([] ∷ ws) (onto_first b ws)))
form_byte true b p ws true f s h = h false ∙ ap (λ q. q && p && have_words false ws) (sym (s refl))
form_byte true b p ws false f s h = sym (and_none (is_printable b && p))
form_byte false b p ws begun f s h = ap (λ x. is_printable b && x) (h true) ∙ and_assoc (is_printable b) p (have_words true ws) ∙ ap (λ x. is_printable b && p && x) (sym (onto_words begun b ws))

space_printed : (b : ℕ) → eqb b 32 ≡ true → is_printable b ≡ true
space_printed b h = grind (arith, nat_tests)

form-line : (begun : Bool) (bs rest : List ℕ) → Lacks 10 bs → form begun (bs ++ 10 ∷ rest) ≡ (list_all is_printable bs && have_words begun (words_of bs))
form-line true [] rest h = refl
form-line false [] rest h = refl
form-line begun (b ∷ bs) rest h =
    ap (λ t. cond t begun (cond (eqb b 32) (begun && form false (bs ++ 10 ∷ rest)) (is_printable b && form true (bs ++ 10 ∷ rest)))) h.0
    ∙ form_byte (eqb b 32) b (list_all is_printable bs) (words_of bs) begun (λ w. form w (bs ++ 10 ∷ rest)) (space_printed b) (λ w. form-line w bs rest h.1)

-- the lines of a text whose first LF stands at a place
cuts : (text : List ℕ) (i : ℕ) → i < length text → Lacks 10 (take i text) → get_or text i 0 ≡ 10 → form false text ≡ true → CutsLine text (take i text) (drop (i + 1) text)
cuts text i l h e f =
    let whole : text ≡ take i text ++ 10 ∷ drop (i + 1) text = sym (take-append-drop i text) ∙ ap (λ xs. take i text ++ xs) (rw (add-one, drop-cons text i 0, e) refl) in
    record {
      lines = ap lines_of whole ∙ lines_of-ended (take i text) (drop (i + 1) text) h;
      form = sym (form-line false (take i text) (drop (i + 1) text) h) ∙ ap (form false) (sym whole) ∙ f;
      shorter = omega (arith, length-drop (i + 1) text);
    }

-- a text has no LF, or is cut at the first
first_lf : (text : List ℕ) → Lacks 10 text ⊎ ((bs : List ℕ) × (rest : List ℕ) × (text ≡ bs ++ 10 ∷ rest) × Lacks 10 bs)
first_lf [] = inl tt
first_lf (b ∷ bs) = by (eqb b 10) refl (first_lf bs)
  where
    by : (t : Bool) → eqb b 10 ≡ t → Lacks 10 bs ⊎ ((cs : List ℕ) × (rest : List ℕ) × (bs ≡ cs ++ 10 ∷ rest) × Lacks 10 cs) → Lacks 10 (b ∷ bs) ⊎ ((cs : List ℕ) × (rest : List ℕ) × (b ∷ bs ≡ cs ++ 10 ∷ rest) × Lacks 10 cs)
    by true e more = inr ([], bs, ap (λ c. c ∷ bs) (eqb-true b 10 e), tt)
    by false e (inl h) = inl (e, h)
    by false e (inr h) = inr (b ∷ h.0, h.1, ap (λ (xs : List ℕ). b ∷ xs) h.2, (e, h.3))

bad : (text : List ℕ) → 0 < length text → form false text ≡ false → BadForm text
bad [] l f = absurd (omega arith)
bad (b ∷ bs) l f = by (first_lf (b ∷ bs))
  where
    by : Lacks 10 (b ∷ bs) ⊎ ((cs : List ℕ) × (rest : List ℕ) × (b ∷ bs ≡ cs ++ 10 ∷ rest) × Lacks 10 cs) → BadForm (b ∷ bs)
    by (inl h) = record { line = record { bytes = b ∷ bs; ended = false }; rest = []; lines = lines_of-open b bs h; form = refl }
    by (inr h) = record {
      line = line_record h.0;
      rest = lines_of h.1;
      lines = ap lines_of h.2 ∙ lines_of-ended h.0 h.1 h.3;
      form = sym (form-line false h.0 h.1 h.3) ∙ ap (form false) (sym h.2) ∙ f;
    }

form_at : (begun : Bool) (text : List ℕ) (i : ℕ) → i < length text → form begun (drop i text) ≡ form begun (get_or text i 0 ∷ drop (i + 1) text)
form_at begun text i l =
    let e : drop i text ≡ get_or text i 0 ∷ drop (i + 1) text = rw add-one (drop-cons text i 0 l) in
    ap (form begun) e

-- a byte that no line holds, and no LF
form_other : (begun : Bool) (text : List ℕ) (i : ℕ) → i < length text → (get_or text i 0 < 32) ⊎ ((32 ≤ get_or text i 0) × (126 < get_or text i 0)) → get_or text i 0 ≢ 10 → form begun (drop i text) ≡ false
form_other begun text i l out n = form_at begun text i l ∙ other (get_or text i 0) out n
  where
    unprinted : (b : ℕ) → (b < 32) ⊎ ((32 ≤ b) × (126 < b)) → is_printable b ≡ false
    unprinted b (inl h) = grind (arith, nat_tests)
    unprinted b (inr h) = grind (arith, nat_tests)

    not_space : (b : ℕ) → (b < 32) ⊎ ((32 ≤ b) × (126 < b)) → eqb b 32 ≡ false
    not_space b (inl h) = grind (arith, nat_tests)
    not_space b (inr h) = grind (arith, nat_tests)

    other : (b : ℕ) → (b < 32) ⊎ ((32 ≤ b) × (126 < b)) → b ≢ 10 → form begun (b ∷ drop (i + 1) text) ≡ false
    other b out n =
        let lf : eqb b 10 ≡ false = grind (arith, nat_tests) in
        rw (lf, not_space b out, unprinted b out) refl

form_end : (begun : Bool) (text : List ℕ) (i : ℕ) → length text ≤ i → form begun (drop i text) ≡ false
form_end begun text i h = ap (form begun) (drop_all i text h)

form_lf : (begun : Bool) (text : List ℕ) (i : ℕ) → i < length text → get_or text i 0 ≡ 10 → form begun (drop i text) ≡ begun
form_lf begun text i l e = form_at begun text i l ∙ rw e refl

-- ---- what some bytes say of the form

form_one : (begun : Bool) (b : ℕ) (rest : List ℕ) → is_printable b ≡ true → form begun (b ∷ rest) ≡ ((begun || not (eqb b 32)) && form (not (eqb b 32)) rest)
form_one begun b rest p = rw (not_lf b p, p) (by (eqb b 32) begun (λ w. form w rest))
  where
    by : (t begun : Bool) (f : Bool → Bool) → cond t (begun && f false) (f true) ≡ ((begun || not t) && f (not t))
    by true true f = refl
    by true false f = refl
    by false true f = refl
    by false false f = refl

pub form_counted : (begun : Bool) (bytes : List ℕ) (f g : FrontForm) → HasForm begun bytes f → g.in_word ≡ f.in_word → g.separates ≡ f.separates → g.spaces ≡ f.spaces → HasForm begun bytes g
form_counted begun bytes f g h w s n = record {
  printable = h.printable;
  spaces = n ∙ h.spaces;
  behind = λ rest. h.behind rest ∙ ap (λ t. t && form f.in_word rest) (sym s) ∙ ap (λ t. g.separates && form t rest) (sym w);
}

-- one byte more
pub byte_added : (b : ℕ) (f g : FrontForm) → is_printable b ≡ true → g.in_word ≡ not (eqb b 32) → g.separates ≡ (f.separates && (f.in_word || not (eqb b 32))) → g.spaces ≡ f.spaces + cond (eqb b 32) 1 0 → AddsForm (b ∷ []) f g
byte_added b f g p w s n begun before h =
    let next : FrontForm = record { in_word = not (eqb b 32); separates = f.separates && (f.in_word || not (eqb b 32)); spaces = f.spaces + cond (eqb b 32) 1 0 } in
    let is : HasForm begun (before ++ b ∷ []) next = record {
      printable = rw (list_all-append is_printable before (b ∷ []), h.printable, p) refl;
      spaces = ap (λ m. m + cond (eqb b 32) 1 0) h.spaces ∙ sym (sum_by_push (λ x. cond (eqb x 32) 1 0) before b);
      behind = λ rest. ap (form begun) (append_assoc before (b ∷ []) rest) ∙ h.behind (b ∷ rest) ∙ ap (λ t. f.separates && t) (form_one f.in_word b rest p)
          ∙ and_assoc f.separates (f.in_word || not (eqb b 32)) (form (not (eqb b 32)) rest);
    } in
    form_counted begun (before ++ b ∷ []) next g is w s n

-- no byte more
pub none_added : (f g : FrontForm) → g.in_word ≡ f.in_word → g.separates ≡ f.separates → g.spaces ≡ f.spaces → AddsForm [] f g
none_added f g w s n begun before h = form_counted begun (before ++ []) f g (subst (λ bytes. HasForm begun bytes f) (sym (append-nil before)) h) w s n

-- the next byte of a block
pub more_added : (block : List ℕ) (i : ℕ) (f g k : FrontForm) → i < length block → AddsForm (take i block) f g → AddsForm (get_or block i 0 ∷ []) g k → AddsForm (take (i + 1) block) f k
more_added block i f g k l a b begun before h =
    let e : (before ++ take i block) ++ get_or block i 0 ∷ [] ≡ before ++ take (i + 1) block =
    append_assoc before (take i block) (get_or block i 0 ∷ []) ∙ ap (λ xs. before ++ xs) (sym (take_more block i 0 l)) in
    subst (λ bytes. HasForm begun bytes k) e (b begun (before ++ take i block) (a begun before h))

-- a block at a place of a text
pub block_added : (text block rest : List ℕ) (n m : ℕ) (f g : FrontForm) → rest ≡ drop n text → block ≡ take m rest → HasForm false (take n text) f → AddsForm block f g → HasForm false (take (n + m) text) g
block_added text block rest n m f g at front h a =
    let e : take n text ++ block ≡ take (n + m) text = ap (λ xs. take n text ++ xs) (front ∙ ap (take m) at) ∙ sym (take-add n m text) in
    subst (λ bytes. HasForm false bytes g) e (a false (take n text) h)

-- the byte at a place of a text
pub byte_at_added : (text : List ℕ) (i : ℕ) (f g : FrontForm) → i < length text → HasForm false (take i text) f → AddsForm (get_or text i 0 ∷ []) f g → HasForm false (take (i + 1) text) g
byte_at_added text i f g l h a = rw (take_more text i 0 l) (a false (take i text) h)

said : (text : List ℕ) (i : ℕ) (f : FrontForm) → HasForm false (take i text) f → form false text ≡ (f.separates && form f.in_word (drop i text))
said text i f h = ap (form false) (sym (take-append-drop i text)) ∙ h.behind (drop i text)

-- ---- the end of the first line

and_swap : (a b : Bool) → (a && b) ≡ (b && a)
and_swap true true = refl
and_swap true false = refl
and_swap false true = refl
and_swap false false = refl

form_of_line : (text : List ℕ) (i : ℕ) (f : FrontForm) → i < length text → HasForm false (take i text) f → get_or text i 0 ≡ 10 → form false text ≡ (f.in_word && f.separates)
form_of_line text i f l h e = said text i f h ∙ ap (λ t. f.separates && t) (form_lf f.in_word text i l e) ∙ and_swap f.separates f.in_word

pub cuts_formed : (text : List ℕ) (i : ℕ) (f : FrontForm) → i < length text → HasForm false (take i text) f → get_or text i 0 ≡ 10 → (f.in_word && f.separates) ≡ true → CutsLine text (take i text) (drop (i + 1) text)
cuts_formed text i f l h e t = cuts text i l (Lacks-lf (take i text) h.printable) e (form_of_line text i f l h e ∙ t)

pub bad_line : (text : List ℕ) (i : ℕ) (f : FrontForm) → i < length text → HasForm false (take i text) f → get_or text i 0 ≡ 10 → (f.in_word && f.separates) ≡ false → BadForm text
bad_line text i f l h e t = bad text (omega (arith, l)) (form_of_line text i f l h e ∙ t)

bad_behind : (text : List ℕ) (i : ℕ) (f : FrontForm) → 0 < length text → HasForm false (take i text) f → form f.in_word (drop i text) ≡ false → BadForm text
bad_behind text i f some h e = bad text some (said text i f h ∙ ap (λ t. f.separates && t) e ∙ and_none f.separates)

pub bad_byte : (text : List ℕ) (i : ℕ) (f : FrontForm) → i < length text → HasForm false (take i text) f → (get_or text i 0 < 32) ⊎ ((32 ≤ get_or text i 0) × (126 < get_or text i 0)) → get_or text i 0 ≢ 10 → BadForm text
bad_byte text i f l h out n = bad_behind text i f (omega (arith, l)) h (form_other f.in_word text i l out n)

pub no_end : (text : List ℕ) (i : ℕ) (f : FrontForm) → 0 < length text → length text ≤ i → HasForm false (take i text) f → BadForm text
no_end text i f some l h = bad_behind text i f some h (form_end f.in_word text i l)

-- ---- the first word of a line

abbrev is_space : ℕ → Bool
is_space b = eqb b 32

pub found_at : (bs : List ℕ) (i : ℕ) → position is_space bs ≡ Some i → first_length bs ≡ i
found_at bs i h = by (ltb (position_or_len is_space bs) (length bs)) h
  where
    by : (t : Bool) → cond t (Some (position_or_len is_space bs)) None ≡ Some i → first_length bs ≡ i
    by true g = cc
    by false g = absurd cc

pub found_nowhere : (bs : List ℕ) → position is_space bs ≡ None → first_length bs ≡ length bs
found_nowhere bs h = by (ltb (position_or_len is_space bs) (length bs)) refl h
  where
    by : (t : Bool) → ltb (position_or_len is_space bs) (length bs) ≡ t → cond t (Some (position_or_len is_space bs)) None ≡ None → first_length bs ≡ length bs
    by true p g = absurd cc
    by false p g = omega (arith, ltb-false _ _ p, prefix_len-le-length (λ b. not (is_space b)) bs)

-- what is left behind the first word of some words
pub left_behind : (old : List (List ℕ)) (line rest : List ℕ) (count : ℕ) → old ≡ words_of line → first_length line ≡ count → count < length line → rest ≡ take (length line - (count + 1)) (drop (count + 1) line) → old ≡ first_word line ∷ words_of rest
left_behind old line rest count is at less e =
    let all : take (length line - (count + 1)) (drop (count + 1) line) ≡ drop (count + 1) line = take_all _ _ (omega (arith, length-drop (count + 1) line)) in
    is ∙ cut_first line (omega (arith, at, less)) ∙ ap (λ n. first_word line ∷ words_of (drop (n + 1) line)) at ∙ ap (λ r. first_word line ∷ words_of r) (sym (e ∙ all))

pub none_behind : (old : List (List ℕ)) (line : List ℕ) (count : ℕ) → old ≡ words_of line → first_length line ≡ count → length line ≤ count → old ≡ first_word line ∷ []
none_behind old line count is at more =
    is ∙ cut_none line (omega (arith, at, more)) ∙ ap (λ w. w ∷ []) (sym (take_all (first_length line) line (omega (arith, at, more))))

pub first_of_words : (line : List ℕ) → word (words_of line) 0 ≡ first_word line
first_of_words line =
    ⊎_elim
    (λ less. ap (λ ws. word ws 0) (cut_first line less))
    (λ more. ap (λ ws. word ws 0) (cut_none line more) ∙ sym (take_all (first_length line) line more))
    (cases_lt (first_length line) (length line))
