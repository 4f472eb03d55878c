-- The first lines of a text of answers are those of the first answers, since a line has one line feed, at its end.
use Rattle.std.proofs.Common.{◌≡◌, ◌∙◌, ap, sym, refl, arith, ℕ, zero, suc, ◌%◌, ◌/◌, ◌+◌, ◌-◌, ◌<◌, Bool, true, false, List, [], ◌∷◌, ◌++◌, map, take, drop, length, get_or, append_assoc}
use Rattle.std.specs.Prelude.{◌==◌, codes, decimal, if◌then◌else◌, nat_lt}
use Rattle.std.proofs.lemmas.List.{drop_more}
use Rattle.std.specs.List.{join_with_byte}
use Rattle.std.specs.Fmt.{digits, digits_onto, digit_glyph}
use Rattle.std.proofs.lemmas.Bool.Decides.{nat_tests}
use Rattle.answers.specs.declared.line.Answer.{Answer}
use Rattle.answers.specs.declared.line.Answer.TheVariants.{Counted, Shown, Refused}
use Rattle.answers.specs.Lines.{answer_words, answer_lines, pixel_numbers}
use Rattle.answers.specs.Ends.{lines_end}

-- no line feed is among these bytes
abbrev IsPlain : List ℕ → Type 0
IsPlain [] = Unit {0}
IsPlain (b ∷ bs) = ((b == 10) ≡ false) × IsPlain bs

plain_both : (xs ys : List ℕ) → IsPlain xs → IsPlain ys → IsPlain (xs ++ ys)
plain_both [] ys p q = q
plain_both (x ∷ xs) ys p q = (p.0, plain_both xs ys p.1 q)

glyph : (b : Bool) (d : ℕ) → ((if b then 48 + d else 87 + d) == 10) ≡ false
glyph true d = grind (arith, nat_tests)
glyph false d = grind (arith, nat_tests)

either : (b : Bool) (xs ys : List ℕ) → IsPlain xs → IsPlain ys → IsPlain (if b then xs else ys)
either true xs ys p q = p
either false xs ys p q = q

plain_onto : (k n : ℕ) (acc : List ℕ) → IsPlain acc → IsPlain (digits_onto k 10 false n acc)
plain_onto zero n acc p = p
plain_onto (suc k) n acc p =
    let more : IsPlain (digit_glyph false (n % 10) ∷ acc) = (glyph (nat_lt (n % 10) 10) (n % 10), p) in
    either (n / 10 == 0) _ _ more (plain_onto k (n / 10) (digit_glyph false (n % 10) ∷ acc) more)

plain_decimal : (n : ℕ) → IsPlain (decimal n)
unfolding digits
plain_decimal n = plain_onto 64 n [] tt

plain_joined : (word : List ℕ) (ns : List ℕ) → IsPlain word → IsPlain (join_with_byte 32 (word ∷ map decimal ns))
plain_joined word [] p = p
plain_joined word (n ∷ ns) p = plain_both word (32 ∷ join_with_byte 32 (map decimal (n ∷ ns))) p (refl, plain_joined (decimal n) ns (plain_decimal n))

plain_words : (a : Answer) → IsPlain (join_with_byte 32 (answer_words a))
plain_words (Counted query count) = plain_joined (codes "query") (query ∷ count ∷ []) (refl, (refl, (refl, (refl, (refl, tt)))))
plain_words (Shown x y value) = plain_joined (codes "pixel") (x ∷ y ∷ pixel_numbers value) (refl, (refl, (refl, (refl, (refl, tt)))))
plain_words (Refused line number) = plain_joined (codes "refused") (line ∷ number ∷ []) (refl, (refl, (refl, (refl, (refl, (refl, (refl, tt)))))))

-- one line, and what stands behind it
one_line : (w rest : List ℕ) (n : ℕ) → IsPlain w → take (lines_end (suc n) (w ++ 10 ∷ rest)) (w ++ 10 ∷ rest) ≡ w ++ 10 ∷ take (lines_end n rest) rest
one_line [] rest n p = refl
one_line (b ∷ w) rest n p =
    ap (λ t. take (suc (lines_end (if t then n else suc n) (w ++ 10 ∷ rest))) (b ∷ (w ++ 10 ∷ rest))) p.0 ∙ ap (λ t. b ∷ t) (one_line w rest n p.1)

pub first_answers : (n : ℕ) (answers : List Answer) → take (lines_end n (answer_lines answers)) (answer_lines answers) ≡ answer_lines (take n answers)
first_answers zero answers = refl
first_answers (suc n) [] = refl
first_answers (suc n) (a ∷ answers) =
    let w = join_with_byte 32 (answer_words a) in
    ap (λ t. take (lines_end (suc n) t) t) (append_assoc w (10 ∷ []) (answer_lines answers))
    ∙ one_line w (answer_lines answers) n (plain_words a)
    ∙ ap (λ t. w ++ 10 ∷ t) (first_answers n answers)
    ∙ sym (append_assoc w (10 ∷ []) (answer_lines (take n answers)))

-- one byte more, which is a line feed or another
pub next_end : (text : List ℕ) (at n left : ℕ) (feed : Bool) → at < length text → (n ≡ 0 → ⊥) → (get_or text at 0 == 10) ≡ feed → left ≡ (if feed then n - 1 else n) → at + lines_end n (drop at text) ≡ at + 1 + lines_end left (drop (at + 1) text)
next_end text at zero left feed below some is same = absurd (some refl)
next_end text at (suc n) left feed below some is same =
    let less : suc n - 1 ≡ n = omega arith in
    let behind : List ℕ = drop (at + 1) text in
    let stepped : lines_end (suc n) (drop at text) ≡ suc (lines_end left behind)
    = ap (lines_end (suc n)) (drop_more text at 0 below) ∙ ap (λ b. suc (lines_end (if b then n else suc n) behind)) is
    ∙ ap (λ m. suc (lines_end m behind)) (sym (same ∙ ap (λ m. if feed then m else suc n) less)) in
    omega (arith, stepped)
