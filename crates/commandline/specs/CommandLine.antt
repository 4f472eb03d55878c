-- What the words after the program's name mean, by clap's meaning of a simple command.
use Rattle.std.specs.Prelude.{◌≡◌, ◌≢◌, ◌⊎◌, ◌==◌, ◌≤◌, ◌++◌, ℕ, Bool, true, false, List, [], ◌∷◌, map, Option, Some, None, Result, MatchResult, codes, is_some, String, string_bytes}
use Rattle.std.specs.Str.Parse.{IsNumeral, digits_value, without_leading_plus}
use Rattle.clap.specs.Words.{App, Rule, Text, Accepts, IsAmong, IsParsedFrom, IsPlainArg, fault_of, first_of, first_value, found_of, kind_of, matches_of, new_app, new_rule, one_text, rule_of, with_rule}
use Rattle.clap.specs.Built.{TakesValue}
use Rattle.clap.specs.Facts.{WantsDefault, least_values}
use Rattle.clap.specs.Simple.{on_top}
use Rattle.clap.specs.declared.builder.action.ArgAction.TheVariants.{Set}
use Rattle.clap.specs.declared.builder.arg.Arg.{Arg}
use Rattle.clap.specs.declared.builder.command.Command.{Command}
use Rattle.clap.specs.declared.builder.value_parser.ValueParser.TheVariants as parser
use Rattle.clap.specs.declared.error.Error.{Error}
use Rattle.clap.specs.declared.error.kind.ErrorKind.TheVariants.{OutOfMemory}
use Rattle.clap.specs.declared.parser.matches.ArgMatches.{ArgMatches}
use Rattle.commandline.specs.declared.request.Settings.{Settings}
use Rattle.commandline.specs.declared.request.SettingsFault.{SettingsFault}
use Rattle.commandline.specs.declared.request.SettingsFault.TheVariants.{Memory, Parse}

-- a word that has to be there
abbrev pub wanted : Text → Rule
wanted name = record (new_rule name) { action = Some Set; required = true }

-- the option `--workers N`, of a number from 0 to 15, which is 0 where no word says it
abbrev pub workers_rule : Rule
workers_rule = record (new_rule (codes "workers")) {
  long = Some (codes "workers");
  action = Some Set;
  value_names = 1;
  defaults = codes "0" ∷ [];
  parser = Some (parser.Unsigned 0 15);
}

-- the command `tiledraw SCRIPT OUT.tga [--workers N]`, read from the words after the program's name
abbrev pub tiledraw : App
tiledraw =
    let named = on_top (λ s. record s { no_binary_name = true }) (new_app (codes "tiledraw")) in
    with_rule (with_rule (with_rule named (wanted (codes "SCRIPT"))) (wanted (codes "OUT.tga"))) workers_rule

abbrev pub texts_of : {A : Type 0} → List (String A) → List Text
texts_of = map string_bytes

-- the word that stands for an operand or for the value of the option, where the command takes the words
abbrev pub operand : Text → List Text → Option Text
operand name words = first_of name (matches_of tiledraw words)

-- a word says how many workers there are: decimal digits, after a plus or none, of a number from 0 to 15
pub record SaysWorkers (word : Text) (count : ℕ) : Type 0 where
  pub digits : IsNumeral 10 (without_leading_plus word)
  pub number : count ≡ digits_value 10 (without_leading_plus word)
  pub few : count ≤ 15

-- script and image are the two operands of the words, and the workers are those that the option's value says
pub record AreSettingsOf (words : List Text) (s : Settings) : Type 0 where
  pub script : operand (codes "SCRIPT") words ≡ Some (string_bytes s.script)
  pub image : operand (codes "OUT.tga") words ≡ Some (string_bytes s.image)
  pub workers : (word : Text) × (operand (codes "workers") words ≡ Some word) × SaysWorkers word s.workers

-- a word that could be an option
abbrev pub is_hyphened : Text → Bool
is_hyphened [] = false
is_hyphened (x ∷ xs) = x == 45

-- two words that could be no option are the operands, with no workers, save for want of memory
abbrev pub TakesTwo : List Text → Result Settings SettingsFault → Type 0
TakesTwo words r = (script image : Text) → words ≡ script ∷ image ∷ [] → is_hyphened script ≡ false
    → is_hyphened image ≡ false → MatchResult r
    (λ s. (string_bytes s.script ≡ script) × (string_bytes s.image ≡ image) × (s.workers ≡ 0))
    (λ fault. fault ≡ Memory)

-- two operands and the option, before, between or behind them, as two words or as one
pub data IsCall (script image count : Text) : List Text → Type 0 where
  before : IsCall script image count (codes "--workers" ∷ count ∷ script ∷ image ∷ [])
  between : IsCall script image count (script ∷ codes "--workers" ∷ count ∷ image ∷ [])
  behind : IsCall script image count (script ∷ image ∷ codes "--workers" ∷ count ∷ [])
  joined : IsCall script image count (script ∷ image ∷ (codes "--workers=" ++ count) ∷ [])

-- of such words the operands and the count are taken, save for want of memory, where the count is one from 0 to 15
abbrev pub TakesWorkers : List Text → Result Settings SettingsFault → Type 0
TakesWorkers words r = (script image count : Text) → IsCall script image count words → is_hyphened script ≡ false
    → is_hyphened image ≡ false → is_hyphened count ≡ false → MatchResult r
    (λ s. (string_bytes s.script ≡ script) × (string_bytes s.image ≡ image) × SaysWorkers count s.workers)
    (λ fault. (n : ℕ) → SaysWorkers count n → fault ≡ Memory)

-- what an error of the parser is to the settings
abbrev pub IsFaultOf : Error → SettingsFault → Type 0
IsFaultOf error fault = ((kind_of error ≡ OutOfMemory) × (fault ≡ Memory))
    ⊎ ((kind_of error ≢ OutOfMemory) × (fault ≡ Parse error))

-- memory ran out, or the parser's error is of a kind that the words give
abbrev pub IsFaultAt : List Text → SettingsFault → Type 0
IsFaultAt words Memory = Unit {0}
IsFaultAt words (Parse error) = IsAmong (kind_of error) (fault_of tiledraw words)

-- an argument that takes one word and has to be there
pub record IsOperand (name : Text) (a : Arg) : Type 0 where
  pub rule : rule_of a ≡ wanted name
  pub id : a.id.now ≡ name
  pub plain : IsPlainArg a
  pub local : a.global ≡ false
  pub value : TakesValue a

-- the argument `--workers N`
pub record IsWorkersOption (a : Arg) : Type 0 where
  pub rule : rule_of a ≡ workers_rule
  pub id : a.id.now ≡ codes "workers"
  pub plain : IsPlainArg a
  pub local : a.global ≡ false
  pub action : a.action ≡ Some Set
  pub undivided : a.val_delim ≡ None
  pub value : 1 ≤ least_values a
  pub parser : a.value_parser ≡ Some (parser.Unsigned 0 15)
  pub default : WantsDefault a

-- the matches have a word for the operand
abbrev pub has_operand : Text → ArgMatches → Bool
has_operand name m = is_some (first_value (found_of m) name)

-- the matches have a value of the option, which is a number from 0 to 15
pub record HasWorkers (m : ArgMatches) : Type 0 where
  pub word : Text
  pub first : first_value (found_of m) (codes "workers") ≡ Some word
  pub read : one_text (found_of m) (codes "workers") ≡ Some word
  pub passed : Accepts false (parser.Unsigned 0 15) word

-- each parse that succeeds has a word for both operands, and a value of the option
abbrev pub HasWords : Command → Type 0
HasWords c = (m : ArgMatches) → IsParsedFrom c m
    → (has_operand (codes "SCRIPT") m ≡ true) × (has_operand (codes "OUT.tga") m ≡ true) × HasWorkers m
