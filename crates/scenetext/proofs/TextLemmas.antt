-- Cutting a text into lines and a line into words, and back.
use Rattle.std.proofs.Common.{◌≡◌, ℕ, ◌<◌, ◌≤◌, Bool, true, false, cond, ◌&&◌, eqb, List, [], ◌∷◌, ◌++◌, length, refl, ap, ◌∙◌, append_assoc, arith}
use Rattle.std.specs.List.{join_with_byte, list_all, flat_map, AllByRecursion, position_or_len, before_first, after_first}
use Rattle.std.proofs.lemmas.Bool.Decides.{nat_tests}
use Rattle.std.proofs.lemmas.Bool.{eqb-true}
use Rattle.std.proofs.lemmas.List.Folds.{list_all-append}
use Rattle.std.proofs.lemmas.List.Splits.{join_with_byte-slice_split, slice_split_first, slice_split_none}
use Rattle.std.proofs.lemmas.List.Sums.{fails_before_first}
use Rattle.scenetext.specs.Text.{TextLine, before_lines, lines_of, words_of, is_printable, is_word, has_form, line_text}

-- no byte of a list is c
abbrev pub Lacks : ℕ → List ℕ → Type 0
Lacks c bs = AllByRecursion (λ b. eqb b c ≡ false) bs

pub lines_of-ended : (bs rest : List ℕ) → Lacks 10 bs → lines_of (bs ++ 10 ∷ rest) ≡ record { bytes = bs; ended = true } ∷ lines_of rest
lines_of-ended [] rest h = refl
lines_of-ended (b ∷ bs) rest h = rw (h.0, lines_of-ended bs rest h.1) refl

pub lines_of-open : (b : ℕ) (bs : List ℕ) → Lacks 10 (b ∷ bs) → lines_of (b ∷ bs) ≡ record { bytes = b ∷ bs; ended = false } ∷ []
lines_of-open b [] h = rw (h.0) refl
lines_of-open b (c ∷ bs) h = rw (h.0) (ap (before_lines b) (lines_of-open c bs h.1))

-- a line's bytes as they stand in the text
abbrev pub line_bytes : TextLine → List ℕ
line_bytes l = cond l.ended (l.bytes ++ 10 ∷ []) l.bytes

before_bytes : (b : ℕ) (bs : List ℕ) (e : Bool) → cond e (b ∷ bs ++ 10 ∷ []) (b ∷ bs) ≡ b ∷ cond e (bs ++ 10 ∷ []) bs
before_bytes b bs true = refl
before_bytes b bs false = refl

before_all : (b : ℕ) (ls : List TextLine) → flat_map line_bytes (before_lines b ls) ≡ b ∷ flat_map line_bytes ls
before_all b [] = refl
before_all b (l ∷ ls) = ap (λ (xs : List ℕ). xs ++ flat_map line_bytes ls) (before_bytes b l.bytes l.ended)

back_step : (b : ℕ) (bs : List ℕ) (ls : List TextLine) (t : Bool) → eqb b 10 ≡ t → flat_map line_bytes ls ≡ bs → flat_map line_bytes (cond t (record { bytes = []; ended = true } ∷ ls) (before_lines b ls)) ≡ b ∷ bs
back_step b bs ls true e h = rw (eqb-true b 10 e) (ap (λ (xs : List ℕ). 10 ∷ xs) h)
back_step b bs ls false e h = before_all b ls ∙ ap (λ (xs : List ℕ). b ∷ xs) h

-- the lines are the text
pub text_from-lines_of : (text : List ℕ) → flat_map line_bytes (lines_of text) ≡ text
text_from-lines_of [] = refl
text_from-lines_of (b ∷ bs) = back_step b bs (lines_of bs) (eqb b 10) refl (text_from-lines_of bs)

split-plain : (w : List ℕ) → Lacks 32 w → words_of w ≡ w ∷ []
split-plain [] h = refl
split-plain (b ∷ bs) h = rw (h.0, split-plain bs h.1) refl

split-cut : (w rest : List ℕ) → Lacks 32 w → words_of (w ++ 32 ∷ rest) ≡ w ∷ words_of rest
split-cut [] rest h = refl
split-cut (b ∷ bs) rest h = rw (h.0, split-cut bs rest h.1) refl

-- joined words are cut into the same words
pub words_of-join : (w : List ℕ) (ws : List (List ℕ)) → AllByRecursion (Lacks 32) (w ∷ ws) → words_of (join_with_byte 32 (w ∷ ws)) ≡ w ∷ ws
words_of-join w [] h = split-plain w h.0
words_of-join w (v ∷ ws) h = split-cut w (join_with_byte 32 (v ∷ ws)) h.0 ∙ ap (λ (xs : List (List ℕ)). w ∷ xs) (words_of-join v ws h.1)

pub join-words_of : (bs : List ℕ) → join_with_byte 32 (words_of bs) ≡ bs
join-words_of bs = join_with_byte-slice_split 32 bs

-- what may stand as a word
pub record IsWordText (w : List ℕ) : Type 0 where
  pub is : is_word w ≡ true
  pub printable : list_all is_printable w ≡ true
  pub no_space : Lacks 32 w

pub printable-join : (w : List ℕ) (ws : List (List ℕ)) → AllByRecursion IsWordText (w ∷ ws) → list_all is_printable (join_with_byte 32 (w ∷ ws)) ≡ true
printable-join w [] h = h.0.printable
printable-join w (v ∷ ws) h = rw (list_all-append is_printable w (32 ∷ join_with_byte 32 (v ∷ ws)), h.0.printable) (printable-join v ws h.1)

all_words : (ws : List (List ℕ)) → AllByRecursion IsWordText ws → list_all is_word ws ≡ true
all_words [] h = refl
all_words (w ∷ ws) h = rw (h.0.is) (all_words ws h.1)

no_spaces : (ws : List (List ℕ)) → AllByRecursion IsWordText ws → AllByRecursion (Lacks 32) ws
no_spaces [] h = tt
no_spaces (w ∷ ws) h = (h.0.no_space, no_spaces ws h.1)

pub not_lf : (b : ℕ) → is_printable b ≡ true → eqb b 10 ≡ false
not_lf b h = grind (arith, nat_tests)

pub and_left : (a b : Bool) → (a && b) ≡ true → a ≡ true
and_left true b h = refl
and_left false b h = absurd cc

pub and_right : (a b : Bool) → (a && b) ≡ true → b ≡ true
and_right true b h = h
and_right false b h = absurd cc

pub Lacks-lf : (bs : List ℕ) → list_all is_printable bs ≡ true → Lacks 10 bs
Lacks-lf [] h = tt
Lacks-lf (b ∷ bs) h = (not_lf b (and_left (is_printable b) (list_all is_printable bs) h), Lacks-lf bs (and_right (is_printable b) (list_all is_printable bs) h))

-- a line of words, in its text
pub joined_words : (w : List ℕ) (ws : List (List ℕ)) → AllByRecursion IsWordText (w ∷ ws) → words_of (join_with_byte 32 (w ∷ ws)) ≡ w ∷ ws
joined_words w ws h = words_of-join w ws (no_spaces (w ∷ ws) h)

pub has_form-joined : (w : List ℕ) (ws : List (List ℕ)) → AllByRecursion IsWordText (w ∷ ws) → has_form (record { bytes = join_with_byte 32 (w ∷ ws); ended = true }) ≡ true
has_form-joined w ws h = rw (printable-join w ws h, joined_words w ws h) (all_words (w ∷ ws) h)

pub lines_of-line : (w : List ℕ) (ws : List (List ℕ)) (rest : List ℕ) → AllByRecursion IsWordText (w ∷ ws) → lines_of (line_text (w ∷ ws) ++ rest) ≡ record { bytes = join_with_byte 32 (w ∷ ws); ended = true } ∷ lines_of rest
lines_of-line w ws rest h =
    let regrouped : line_text (w ∷ ws) ++ rest ≡ join_with_byte 32 (w ∷ ws) ++ 10 ∷ rest = append_assoc (join_with_byte 32 (w ∷ ws)) (10 ∷ []) rest in
    ap lines_of regrouped ∙ lines_of-ended (join_with_byte 32 (w ∷ ws)) rest (Lacks-lf _ (printable-join w ws h))

-- where a line is cut at its first space, or at none
pub cut_first : (bs : List ℕ) → position_or_len (λ b. eqb b 32) bs < length bs → words_of bs ≡ before_first (λ b. eqb b 32) bs ∷ words_of (after_first (λ b. eqb b 32) bs)
cut_first bs h = slice_split_first (λ b. eqb b 32) bs 0 h

pub cut_none : (bs : List ℕ) → length bs ≤ position_or_len (λ b. eqb b 32) bs → words_of bs ≡ bs ∷ []
cut_none bs h = slice_split_none (λ b. eqb b 32) bs (λ k d lt. fails_before_first (λ b. eqb b 32) bs k d (omega (arith, h, lt)))
