-- Words that stand for two operands and the option.
use Rattle.std.proofs.Common.{◌∷◌, ◌≡◌, ◌++◌, ◌&&◌, subst, sym, List, [], Some, None, true, false, codes, refl}
use Rattle.std.specs.Str.{bytes_eq}
use Rattle.clap.specs.Words.{Text, takes}
use Rattle.clap.specs.Lexer.{long_of, short_of}
use Rattle.clap.specs.ValueTests.{accepts}
use Rattle.clap.specs.declared.builder.value_parser.ValueParser.TheVariants as parser
use Rattle.clap.proofs.OnLiterals.{clap_on_literals}
use Rattle.commandline.specs.CommandLine.{IsCall, is_hyphened, operand, tiledraw}
use Rattle.commandline.specs.CommandLine.IsCall.{before, between, behind, joined}

abbrev hyphens : Text
hyphens = 45 ∷ 45 ∷ []

not_hyphens : (word : Text) → is_hyphened word ≡ false → bytes_eq word hyphens ≡ false
not_hyphens [] plain = refl
not_hyphens (x ∷ xs) plain = rw plain refl

not_long : (word : Text) → is_hyphened word ≡ false → long_of word ≡ None
not_long [] plain = refl
not_long (x ∷ xs) plain = rw plain refl

not_short : (word : Text) → is_hyphened word ≡ false → short_of word ≡ None
not_short [] plain = refl
not_short (x ∷ xs) plain = rw plain refl

-- what stands for the operands and the count in words that are taken where the count is a number from 0 to 15
pub record IsTaken (words : List Text) (script image count : Text) : Type 0 where
  pub is_script : operand (codes "SCRIPT") words ≡ Some script
  pub is_image : operand (codes "OUT.tga") words ≡ Some image
  pub is_count : operand (codes "workers") words ≡ Some count
  pub taken : accepts false (parser.Unsigned 0 15) count ≡ true → takes tiledraw words ≡ true

pub two_taken : (s i : Text) → is_hyphened s ≡ false → is_hyphened i ≡ false → IsTaken (s ∷ i ∷ []) s i (codes "0")
unfolding clap_on_literals
two_taken s i ps pi = record {
  is_script = rw (not_hyphens s ps, not_long s ps, not_short s ps, not_hyphens i pi, not_long i pi, not_short i pi) refl;
  is_image = rw (not_hyphens s ps, not_long s ps, not_short s ps, not_hyphens i pi, not_long i pi, not_short i pi) refl;
  is_count = rw (not_hyphens s ps, not_long s ps, not_short s ps, not_hyphens i pi, not_long i pi, not_short i pi) refl;
  taken = λ passes. rw (not_hyphens s ps, not_long s ps, not_short s ps, not_hyphens i pi, not_long i pi, not_short i pi) refl;
}

-- where the count is tested amid the walk, what the test decides is written out

before_passes : (s i n : Text) → is_hyphened s ≡ false → is_hyphened i ≡ false → is_hyphened n ≡ false
    → accepts false (parser.Unsigned 0 15) n ≡ true → takes tiledraw (codes "--workers" ∷ n ∷ s ∷ i ∷ []) ≡ true
unfolding clap_on_literals
before_passes s i n ps pi pn passes = rw (not_hyphens n pn, not_long n pn, not_short n pn, not_hyphens s ps, not_long s ps, not_short s ps, not_hyphens i pi, not_long i pi, not_short i pi) (subst (λ b. ((b && true) && true) && true ≡ true) (sym passes) refl)

between_passes : (s i n : Text) → is_hyphened s ≡ false → is_hyphened i ≡ false → is_hyphened n ≡ false
    → accepts false (parser.Unsigned 0 15) n ≡ true → takes tiledraw (s ∷ codes "--workers" ∷ n ∷ i ∷ []) ≡ true
unfolding clap_on_literals
between_passes s i n ps pi pn passes = rw (not_hyphens s ps, not_long s ps, not_short s ps, not_hyphens n pn, not_long n pn, not_short n pn, not_hyphens i pi, not_long i pi, not_short i pi) (subst (λ b. ((b && true) && true) && true ≡ true) (sym passes) refl)

before_taken : (s i n : Text) → is_hyphened s ≡ false → is_hyphened i ≡ false → is_hyphened n ≡ false
    → IsTaken (codes "--workers" ∷ n ∷ s ∷ i ∷ []) s i n
unfolding clap_on_literals
before_taken s i n ps pi pn = record {
  is_script = rw (not_hyphens n pn, not_long n pn, not_short n pn, not_hyphens s ps, not_long s ps, not_short s ps, not_hyphens i pi, not_long i pi, not_short i pi) refl;
  is_image = rw (not_hyphens n pn, not_long n pn, not_short n pn, not_hyphens s ps, not_long s ps, not_short s ps, not_hyphens i pi, not_long i pi, not_short i pi) refl;
  is_count = rw (not_hyphens n pn, not_long n pn, not_short n pn, not_hyphens s ps, not_long s ps, not_short s ps, not_hyphens i pi, not_long i pi, not_short i pi) refl;
  taken = λ passes. before_passes s i n ps pi pn passes;
}

between_taken : (s i n : Text) → is_hyphened s ≡ false → is_hyphened i ≡ false → is_hyphened n ≡ false
    → IsTaken (s ∷ codes "--workers" ∷ n ∷ i ∷ []) s i n
unfolding clap_on_literals
between_taken s i n ps pi pn = record {
  is_script = rw (not_hyphens s ps, not_long s ps, not_short s ps, not_hyphens n pn, not_long n pn, not_short n pn, not_hyphens i pi, not_long i pi, not_short i pi) refl;
  is_image = rw (not_hyphens s ps, not_long s ps, not_short s ps, not_hyphens n pn, not_long n pn, not_short n pn, not_hyphens i pi, not_long i pi, not_short i pi) refl;
  is_count = rw (not_hyphens s ps, not_long s ps, not_short s ps, not_hyphens n pn, not_long n pn, not_short n pn, not_hyphens i pi, not_long i pi, not_short i pi) refl;
  taken = λ passes. between_passes s i n ps pi pn passes;
}

behind_taken : (s i n : Text) → is_hyphened s ≡ false → is_hyphened i ≡ false → is_hyphened n ≡ false
    → IsTaken (s ∷ i ∷ codes "--workers" ∷ n ∷ []) s i n
unfolding clap_on_literals
behind_taken s i n ps pi pn = record {
  is_script = rw (not_hyphens s ps, not_long s ps, not_short s ps, not_hyphens i pi, not_long i pi, not_short i pi, not_hyphens n pn, not_long n pn, not_short n pn) refl;
  is_image = rw (not_hyphens s ps, not_long s ps, not_short s ps, not_hyphens i pi, not_long i pi, not_short i pi, not_hyphens n pn, not_long n pn, not_short n pn) refl;
  is_count = rw (not_hyphens s ps, not_long s ps, not_short s ps, not_hyphens i pi, not_long i pi, not_short i pi, not_hyphens n pn, not_long n pn, not_short n pn) refl;
  taken = λ passes. rw (not_hyphens s ps, not_long s ps, not_short s ps, not_hyphens i pi, not_long i pi, not_short i pi, not_hyphens n pn, not_long n pn, not_short n pn, passes) refl;
}

joined_taken : (s i n : Text) → is_hyphened s ≡ false → is_hyphened i ≡ false → is_hyphened n ≡ false
    → IsTaken (s ∷ i ∷ (codes "--workers=" ++ n) ∷ []) s i n
unfolding clap_on_literals
joined_taken s i n ps pi pn = record {
  is_script = rw (not_hyphens s ps, not_long s ps, not_short s ps, not_hyphens i pi, not_long i pi, not_short i pi) refl;
  is_image = rw (not_hyphens s ps, not_long s ps, not_short s ps, not_hyphens i pi, not_long i pi, not_short i pi) refl;
  is_count = rw (not_hyphens s ps, not_long s ps, not_short s ps, not_hyphens i pi, not_long i pi, not_short i pi) refl;
  taken = λ passes. rw (not_hyphens s ps, not_long s ps, not_short s ps, not_hyphens i pi, not_long i pi, not_short i pi, passes) refl;
}

pub call_taken : (s i n : Text) (words : List Text) → IsCall s i n words → is_hyphened s ≡ false → is_hyphened i ≡ false
    → is_hyphened n ≡ false → IsTaken words s i n
call_taken s i n _ before ps pi pn = before_taken s i n ps pi pn
call_taken s i n _ between ps pi pn = between_taken s i n ps pi pn
call_taken s i n _ behind ps pi pn = behind_taken s i n ps pi pn
call_taken s i n _ joined ps pi pn = joined_taken s i n ps pi pn
