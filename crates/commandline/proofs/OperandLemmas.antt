-- What a parse of the command gives its caller.
use Rattle.std.proofs.Common.{zero, suc, ℕ, ◌∷◌, ◌∙◌, ◌≡◌, List, [], Option, Some, Result, Ok, Err, IfErr, MatchResult, Bor, true, false, ap, arith, codes, inl, inr, refl, subst, sym, option_map}
use Rattle.std.specs.List.{All}
use Rattle.std.specs.Prelude.{IsErrAnd, is_some, string_bytes, unwrap_or}
use Rattle.std.specs.Str.{bytes_eq}
use Rattle.clap.specs.Words.{App, HasMatchesOf, Text, fault_of, first_of, first_value, found_of, is_simple, is_simple_and_free, kind_of, takes}
use Rattle.clap.specs.Built.{FitsChain, HasDistinctIds, IsPlainArg}
use Rattle.clap.specs.ValueTests.{accepts}
use Rattle.clap.specs.declared.builder.value_parser.ValueParser.TheVariants as parser
use Rattle.clap.proofs.ValueTestLemmas.{Accepts-accepts}
use Rattle.clap.specs.declared.builder.arg.Arg.{Arg}
use Rattle.clap.specs.declared.error.Error.{Error}
use Rattle.clap.specs.declared.error.kind.ErrorKind.TheVariants.{OutOfMemory}
use Rattle.clap.specs.declared.parser.matches.ArgMatches.{ArgMatches}
use Rattle.clap.proofs.OnLiterals.{clap_on_literals}
use Rattle.clap.proofs.WalkLemmas.{first_value-rows}
use Rattle.commandline.specs.CommandLine.{AreSettingsOf, IsCall, IsFaultOf, IsOperand, IsWorkersOption, SaysWorkers, has_operand, is_hyphened, operand, tiledraw}
use Rattle.commandline.specs.declared.request.Settings.{Settings}
use Rattle.commandline.specs.declared.request.SettingsFault.{SettingsFault}
use Rattle.commandline.specs.declared.request.SettingsFault.TheVariants.{Memory}
use Rattle.commandline.proofs.WordLemmas.{IsTaken, call_taken, two_taken}

-- ---- the arguments in a chain

-- no two of the names are one, by a byte that they don't share
names_differ : (name other : Text) → bytes_eq name other ≡ false → bytes_eq other other ≡ true → name ≡ other → ⊥
names_differ name other differ same e =
    let bad : false ≡ true = sym differ ∙ (ap (λ n. bytes_eq n other) e ∙ same) in
    cc

fits : (name : Text) (a : Arg) → a.id.now ≡ name → IsPlainArg a → a.global ≡ false → bytes_eq name [] ≡ false
    → bytes_eq name (codes "help") ≡ false → bytes_eq name (codes "version") ≡ false → FitsChain a
fits name a id plain local named no_help no_version = (
  plain,
  local,
  (λ e. names_differ name [] named refl (sym id ∙ e)),
  (λ auto. elim auto [
    | inl h ↦ names_differ name (codes "help") no_help refl (sym id ∙ h)
    | inr h ↦ names_differ name (codes "version") no_version refl (sym id ∙ h)
  ]),
)

pub all_fit : (script image workers : Arg) → IsOperand (codes "SCRIPT") script → IsOperand (codes "OUT.tga") image
    → IsWorkersOption workers → All FitsChain (script ∷ image ∷ workers ∷ [])
all_fit script image workers s i w zero d lt = fits (codes "SCRIPT") script s.id s.plain s.local refl refl refl
all_fit script image workers s i w (suc zero) d lt = fits (codes "OUT.tga") image i.id i.plain i.local refl refl refl
all_fit script image workers s i w (suc (suc zero)) d lt = fits (codes "workers") workers w.id w.plain w.local refl refl refl
all_fit script image workers s i w (suc (suc (suc k))) d lt = absurd (omega arith)

pub all_differ : (script image workers : Arg) → IsOperand (codes "SCRIPT") script → IsOperand (codes "OUT.tga") image
    → IsWorkersOption workers → HasDistinctIds (script ∷ image ∷ workers ∷ [])
all_differ script image workers s i w zero zero d e j k same = refl
all_differ script image workers s i w zero (suc zero) d e j k same =
    let bad : false ≡ true = rw (s.id, i.id) at same in
    cc
all_differ script image workers s i w zero (suc (suc zero)) d e j k same =
    let bad : false ≡ true = rw (s.id, w.id) at same in
    cc
all_differ script image workers s i w (suc zero) zero d e j k same =
    let bad : false ≡ true = rw (s.id, i.id) at same in
    cc
all_differ script image workers s i w (suc zero) (suc zero) d e j k same = refl
all_differ script image workers s i w (suc zero) (suc (suc zero)) d e j k same =
    let bad : false ≡ true = rw (i.id, w.id) at same in
    cc
all_differ script image workers s i w (suc (suc zero)) zero d e j k same =
    let bad : false ≡ true = rw (s.id, w.id) at same in
    cc
all_differ script image workers s i w (suc (suc zero)) (suc zero) d e j k same =
    let bad : false ≡ true = rw (i.id, w.id) at same in
    cc
all_differ script image workers s i w (suc (suc zero)) (suc (suc zero)) d e j k same = refl
all_differ script image workers s i w (suc (suc (suc n))) k d e lj lk same = absurd (omega arith)
all_differ script image workers s i w zero (suc (suc (suc n))) d e lj lk same = absurd (omega arith)
all_differ script image workers s i w (suc zero) (suc (suc (suc n))) d e lj lk same = absurd (omega arith)
all_differ script image workers s i w (suc (suc zero)) (suc (suc (suc n))) d e lj lk same = absurd (omega arith)

pub has_word : (name : Text) (a : Arg) (m : ArgMatches) → IsOperand name a
    → is_some (first_value (found_of m) a.id.now) ≡ true → has_operand name m ≡ true
has_word name a m is some = subst (λ n. has_operand n m ≡ true) is.id some

-- ---- what a parse of the command comes to

is_simple_tiledraw : is_simple tiledraw ≡ true
unfolding clap_on_literals
is_simple_tiledraw = refl

is_free_tiledraw : is_simple_and_free tiledraw ≡ true
unfolding clap_on_literals
is_free_tiledraw = refl

-- the first value of a name is the operand of the words
pub operand_found : (a : App) (words : List Text) (m : ArgMatches) (name text : Text) → a ≡ tiledraw → HasMatchesOf a words m
    → first_value (found_of m) name ≡ Some text → operand name words ≡ Some text
operand_found a words m name text app matches got =
    let rows = (subst (λ b. HasMatchesOf b words m) app matches is_simple_tiledraw).0 in
    ap (first_of name) (sym rows) ∙ (sym (first_value-rows (found_of m) name) ∙ got)

-- and so of the word that a getter reads
pub operand_read : (a : App) (words : List Text) (m : ArgMatches) (name : Text) (o : Option (Bor Text)) (v : Bor Text) (text : Text)
    → a ≡ tiledraw → HasMatchesOf a words m → option_map (λ s. s.now) o ≡ first_value (found_of m) name
    → o ≡ Some v → text ≡ v.now → operand name words ≡ Some text
operand_read a words m name o v text app matches got is copied =
    operand_found a words m name text app matches
    (sym got ∙ (ap (option_map (λ s. s.now)) is ∙ ap (λ t. Some t) (sym copied)))

-- a parse that succeeds leaves no fault
pub no_fault : (a : App) (words : List Text) → a ≡ tiledraw
    → (is_simple_and_free a ≡ true → fault_of a words ≡ []) → fault_of tiledraw words ≡ []
no_fault a words app kinds =
    subst (λ b. is_simple_and_free b ≡ true → fault_of b words ≡ []) app kinds is_free_tiledraw

-- where the words are taken, a fault is want of memory
is_memory : (e : Error) (fault : SettingsFault) → kind_of e ≡ OutOfMemory → IsFaultOf e fault → fault ≡ Memory
is_memory e fault kind (inl both) = both.1
is_memory e fault kind (inr both) = absurd (both.0 kind)

pub taken_memory : (a : App) (words : List Text) (e : Error) (r : Result Settings SettingsFault) → a ≡ tiledraw
    → (takes a words ≡ true → kind_of e ≡ OutOfMemory) → IsErrAnd r (IsFaultOf e)
    → takes tiledraw words ≡ true → IfErr r (λ fault. fault ≡ Memory)
taken_memory a words e (Ok s) app passes of_error taken = tt
taken_memory a words e (Err fault) app passes of_error taken =
    is_memory e fault (passes (subst (λ b. takes b words ≡ true) (sym app) taken)) of_error

-- ---- words of which the settings are written out

some_same : (x y : Text) → Some x ≡ Some y → x ≡ y
some_same x y e = ap (λ o. unwrap_or o x) e

-- the settings are the operands and the count
taken_settings : (words : List Text) (script image count : Text) (s : Settings) → IsTaken words script image count → AreSettingsOf words s
    → (string_bytes s.script ≡ script) × (string_bytes s.image ≡ image) × SaysWorkers count s.workers
taken_settings words script image count s is are = (
  some_same _ _ (sym are.script ∙ is.is_script),
  some_same _ _ (sym are.image ∙ is.is_image),
  subst (λ w. SaysWorkers w s.workers) (some_same _ _ (sym are.workers.1 ∙ is.is_count)) are.workers.2,
)

pub two_settings : (words : List Text) (s : Settings) → AreSettingsOf words s → (script image : Text) → words ≡ script ∷ image ∷ []
    → is_hyphened script ≡ false → is_hyphened image ≡ false
    → (string_bytes s.script ≡ script) × (string_bytes s.image ≡ image) × (s.workers ≡ 0)
two_settings words s are script image two plain_script plain_image =
    let is = subst (λ ws. IsTaken ws script image (codes "0")) (sym two) (two_taken script image plain_script plain_image) in
    let given = taken_settings words script image (codes "0") s is are in
    (given.0, given.1, given.2.number)

pub call_settings : (words : List Text) (s : Settings) → AreSettingsOf words s → (script image count : Text)
    → IsCall script image count words → is_hyphened script ≡ false → is_hyphened image ≡ false → is_hyphened count ≡ false
    → (string_bytes s.script ≡ script) × (string_bytes s.image ≡ image) × SaysWorkers count s.workers
call_settings words s are script image count call plain_script plain_image plain_count =
    taken_settings words script image count s (call_taken script image count words call plain_script plain_image plain_count) are

-- want of memory is the only fault of words that are taken
pub two_memory : (a : App) (words : List Text) (e : Error) (r : Result Settings SettingsFault) (P : Settings → Type 0)
    → a ≡ tiledraw → (takes a words ≡ true → kind_of e ≡ OutOfMemory) → IsErrAnd r (IsFaultOf e)
    → (script image : Text) → words ≡ script ∷ image ∷ [] → is_hyphened script ≡ false → is_hyphened image ≡ false
    → MatchResult r P (λ fault. fault ≡ Memory)
two_memory a words e (Ok s) P app passes of_error script image two plain_script plain_image = absurd of_error
two_memory a words e (Err fault) P app passes of_error script image two plain_script plain_image =
    let is = subst (λ ws. IsTaken ws script image (codes "0")) (sym two) (two_taken script image plain_script plain_image) in
    taken_memory a words e (Err fault) app passes of_error (is.taken refl)

says_accepted : (count : Text) (n : ℕ) → SaysWorkers count n → accepts false (parser.Unsigned 0 15) count ≡ true
says_accepted count n says =
    let few = says.few in
    let number = says.number in
    Accepts-accepts false (parser.Unsigned 0 15) count (says.digits, omega arith, omega arith, omega arith)

pub call_memory : (a : App) (words : List Text) (e : Error) (r : Result Settings SettingsFault) (P : Settings → Type 0)
    → a ≡ tiledraw → (takes a words ≡ true → kind_of e ≡ OutOfMemory) → IsErrAnd r (IsFaultOf e)
    → (script image count : Text) → IsCall script image count words → is_hyphened script ≡ false → is_hyphened image ≡ false
    → is_hyphened count ≡ false → MatchResult r P (λ fault. (n : ℕ) → SaysWorkers count n → fault ≡ Memory)
call_memory a words e (Ok s) P app passes of_error script image count call plain_script plain_image plain_count = absurd of_error
call_memory a words e (Err fault) P app passes of_error script image count call plain_script plain_image plain_count =
    let is = call_taken script image count words call plain_script plain_image plain_count in
    λ n says. taken_memory a words e (Err fault) app passes of_error (is.taken (says_accepted count n says))
