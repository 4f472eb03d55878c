-- The value of the option, which is a number from 0 to 15.
use Rattle.std.proofs.Common.{zero, suc, ◌∷◌, ◌∙◌, ◌≡◌, ◌<◌, ◌≤◌, ℕ, Bool, List, [], Option, Some, None, Result, Ok, Err, true, false, ap, arith, codes, inl, inr, is_some, length, refl, subst, sym}
use Rattle.std.specs.Borrow.{Bor}
use Rattle.std.specs.List.{All, slice_index_or}
use Rattle.std.specs.Prelude.{find, option_map, unwrap_or}
use Rattle.std.specs.Str.{bytes_eq}
use Rattle.std.specs.Str.Parse.{ParsesUnsigned}
use Rattle.std.proofs.lemmas.List.Elements.{All-get_or, All-nil}
use Rattle.std.proofs.lemmas.Slice.Eq.{bytes_eq-Decides}
use Rattle.clap.specs.Built.{AddsArg, IsAuto, IsParsedFrom, IsPlain, IsPlainArg, SameRules}
use Rattle.clap.specs.Facts.{Entry, EntryPasses, HasIn, HasReading, IsParsed, PassesArg, WantsDefault, args_of, groups_of, least_values, parser_of, parser_of_value}
use Rattle.clap.specs.Matches.{first_value, found_of, has_subcommand, matched_of, one_text, ReadsOne}
use Rattle.clap.specs.Values.{Accepts, read_as, reading_of}
use Rattle.clap.specs.declared.builder.action.ArgAction.TheVariants.{Count, Set}
use Rattle.clap.specs.declared.builder.arg.Arg.{Arg}
use Rattle.clap.specs.declared.builder.command.Command.{Command}
use Rattle.clap.specs.declared.builder.command.Command.TheViews.{out-Command}
use Rattle.clap.specs.declared.builder.value_parser.Reading.{Reading}
use Rattle.clap.specs.declared.builder.value_parser.ValueParser.{ValueParser}
use Rattle.clap.specs.declared.builder.value_parser.ValueParser.TheVariants as parser
use Rattle.clap.specs.declared.parser.matches.ArgMatches.{ArgMatches}
use Rattle.clap.specs.declared.parser.matches.Found.{Found}
use Rattle.clap.specs.declared.parser.matches.MatchedArg.{MatchedArg}
use Rattle.clap.proofs.CallerLemmas.{added_plain, default_present, entry_by_id, same_rules_by_id}
use Rattle.commandline.specs.CommandLine.{HasWorkers, IsOperand, IsWorkersOption, SaysWorkers}

-- ---- an entry that is there is found

later : (x : Entry) (xs : List Entry) (id : List ℕ) (i : ℕ) → i < length (x ∷ xs)
    → ((d : Entry) → bytes_eq (slice_index_or (x ∷ xs) i d).0.now id ≡ true) → bytes_eq x.0.now id ≡ false → HasIn xs id
later x xs id zero lt has other =
    let bad : false ≡ true = sym other ∙ has x in
    cc
later x xs id (suc i) lt has other = (i, omega arith, has)

found_there : (xs : List Entry) (id : List ℕ) → HasIn xs id
    → is_some (option_map (λ e. e.1) (find (λ e. bytes_eq e.0.now id) xs)) ≡ true
found_there [] id has =
    let none = has.1 in
    absurd (omega arith)
found_there (x ∷ xs) id has = go (bytes_eq x.0.now id) refl (found_there xs id)
  where
    go : (t : Bool) → bytes_eq x.0.now id ≡ t
        → (HasIn xs id → is_some (option_map (λ e. e.1) (find (λ e. bytes_eq e.0.now id) xs)) ≡ true)
        → is_some (option_map (λ e. e.1) (find (λ e. bytes_eq e.0.now id) (x ∷ xs))) ≡ true
    go true t rest = rw t refl
    go false t rest = rw t (rest (later x xs id has.0 has.1 has.2 t))

-- ---- what its values are

-- the argument's values are not none, since it has an action that takes one
record IsValued (c : Command) (id : List ℕ) (q : ValueParser) (x : MatchedArg) : Type 0 where
  some : 0 < length x.vals.items
  pass : All (λ v. PassesArg c id v.now) x.vals.items
  reading : x.reading ≡ reading_of q

-- the value of an option with a default, what a getter reads of it, and that it passed the parser
record ReadsDefault (f : Found) (id : List ℕ) (ignore_case : Bool) (q : ValueParser) : Type 0 where
  word : List ℕ
  first : first_value f id ≡ Some word
  read : one_text f id ≡ Some (read_as (reading_of q) word)
  passed : Accepts ignore_case q word

-- an argument that is the only one with its id, has a default and takes a value
record IsOnlyDefault (old : Command) (k : ℕ) (d : Arg) (q : ValueParser) : Type 0 where
  place : k < length (args_of old)
  unique : (j : ℕ) (e : Arg) → j < length (args_of old)
      → bytes_eq (slice_index_or (args_of old) j e).id.now (slice_index_or (args_of old) k d).id.now ≡ true → j ≡ k
  named : (slice_index_or (args_of old) k d).id.now ≡ [] → ⊥
  own : IsAuto (slice_index_or (args_of old) k d) → ⊥
  default : WantsDefault (slice_index_or (args_of old) k d)
  action : (slice_index_or (args_of old) k d).action ≡ Some Set
  undivided : (slice_index_or (args_of old) k d).val_delim ≡ None
  value : 1 ≤ least_values (slice_index_or (args_of old) k d)
  parser : (slice_index_or (args_of old) k d).value_parser ≡ Some q

no_group : (c : Command) (e : Entry) (id : List ℕ) → groups_of c ≡ [] → e.0.now ≡ id → (id ≡ [] → ⊥) → EntryPasses c e
    → e.1.is_group ≡ true → ⊥
no_group c e id no_groups key named pass group = elim (pass.3 group) [
  | inl empty ↦ absurd (named (sym key ∙ empty))
  | inr lots ↦
      let bad : 0 < 0 = rw no_groups at lots in
      absurd (omega arith)
]

some_values : (old : Command) (m : ArgMatches) (p : IsParsedFrom old m) (k : ℕ) (d : Arg) (q : ValueParser) → IsOnlyDefault old k d q
    → (e : Entry) → (e.1.is_group ≡ true → ⊥) → e.0.now ≡ (slice_index_or (args_of old) k d).id.now
    → EntryPasses p.built e → 0 < length e.1.vals.items
some_values old m p k d q only e single key pass = elim pass.1 [
  | inl h ↦ absurd (single h.0)
  | inr (inl v) ↦ v
  | inr (inr (inl h)) ↦
      let any = h.1 in
      let s = same_rules_by_id old m p k d only.place only.unique only.own any.0 any.1 any.2 any.3 (rw key at any.4.0) in
      let is_set : any.1.action ≡ Some Set = s.action Set only.action in
      let bad : Set ≡ Count = rw is_set at any.4.1 in
      cc
  | inr (inr (inr h)) ↦
      let s = same_rules_by_id old m p k d only.place only.unique only.own h.0 h.1 h.2 h.3 (rw key at h.4.0) in
      elim h.4.1 [
        | inl none ↦
            let one = s.least only.action only.value in
            absurd (omega arith)
        | inr has ↦
            let bad : false ≡ true = rw (s.val_delim, only.undivided) at has in
            cc
      ]
]

values_pass : (c : Command) (e : Entry) (id : List ℕ) → (e.1.is_group ≡ true → ⊥) → e.0.now ≡ id → EntryPasses c e
    → All (λ v. PassesArg c id v.now) e.1.vals.items
values_pass c e id single key pass = elim pass.0 [
  | inl group ↦ absurd (single group)
  | inr vals ↦ subst (λ (w : List ℕ). All (λ v. PassesArg c w v.now) e.1.vals.items) key vals
]

reads_so : (old : Command) (m : ArgMatches) (p : IsParsedFrom old m) (k : ℕ) (d : Arg) (q : ValueParser) → IsOnlyDefault old k d q
    → (r : Reading) → HasReading p.built (slice_index_or (args_of old) k d).id.now r → r ≡ reading_of q
reads_so old m p k d q only r any =
    let s = same_rules_by_id old m p k d only.place only.unique only.own any.0 any.1 any.2 any.3 any.4.0 in
    let is_q : parser_of any.1 ≡ q = ap parser_of_value (s.parser q only.parser) in
    sym any.4.1 ∙ ap reading_of is_q

reading_is : (old : Command) (m : ArgMatches) (p : IsParsedFrom old m) (k : ℕ) (d : Arg) (q : ValueParser) → IsOnlyDefault old k d q
    → (e : Entry) → (e.1.is_group ≡ true → ⊥) → e.0.now ≡ (slice_index_or (args_of old) k d).id.now
    → EntryPasses p.built e → e.1.reading ≡ reading_of q
reading_is old m p k d q only e single key pass = elim pass.4 [
  | inl group ↦ absurd (single group)
  | inr h ↦ reads_so old m p k d q only e.1.reading (subst (λ (w : List ℕ). HasReading p.built w e.1.reading) key h)
]

valued : (old : Command) (m : ArgMatches) (p : IsParsedFrom old m) (k : ℕ) (d : Arg) (q : ValueParser) → IsOnlyDefault old k d q
    → groups_of p.built ≡ [] → (e : Entry) → e.0.now ≡ (slice_index_or (args_of old) k d).id.now
    → EntryPasses p.built e → IsValued p.built (slice_index_or (args_of old) k d).id.now q e.1
valued old m p k d q only no_groups e key pass =
    let single = no_group p.built e _ no_groups key only.named pass in
    record {
      some = some_values old m p k d q only e single key pass;
      pass = values_pass p.built e _ single key pass;
      reading = reading_is old m p k d q only e single key pass;
    }

accepted : (old : Command) (m : ArgMatches) (p : IsParsedFrom old m) (k : ℕ) (d : Arg) (q : ValueParser) → IsOnlyDefault old k d q
    → (v : List ℕ) → PassesArg p.built (slice_index_or (args_of old) k d).id.now v
    → Accepts (slice_index_or (args_of old) k d).ignore_case q v
accepted old m p k d q only v pass =
    let s = same_rules_by_id old m p k d only.place only.unique only.own pass.0 pass.1 pass.2 pass.3 pass.4.0 in
    let is_q : parser_of pass.1 ≡ q = ap parser_of_value (s.parser q only.parser) in
    let as_q : Accepts pass.1.ignore_case q v = subst (λ (w : ValueParser). Accepts pass.1.ignore_case w v) is_q pass.4.1 in
    subst (λ (b : Bool). Accepts b q v) s.ignore_case as_q

read_first : (f : Found) (id : List ℕ) (ignore_case : Bool) (q : ValueParser) (P : Bor (List ℕ) → Type 0) (x : MatchedArg) (vs : List (Bor (List ℕ)))
    → matched_of f id ≡ Some x → x.vals.items ≡ vs → x.reading ≡ reading_of q → 0 < length vs → All P vs
    → ((v : Bor (List ℕ)) → P v → Accepts ignore_case q v.now) → ReadsDefault f id ignore_case q
read_first f id ignore_case q P x [] found is reading some all passes = absurd (omega arith)
read_first f id ignore_case q P x (v ∷ vs) found is reading some all passes = record {
  word = v.now;
  first = rw (found, is) refl;
  read = rw (found, is, reading) refl;
  passed = passes v (All-get_or P (v ∷ vs) 0 v (omega arith) all);
}

default_reads : (old : Command) (m : ArgMatches) (p : IsParsedFrom old m) → IsPlain old → (out-Command old).has_globals ≡ false
    → (k : ℕ) (d : Arg) (q : ValueParser) → IsOnlyDefault old k d q
    → ReadsDefault (found_of m) (slice_index_or (args_of old) k d).id.now (slice_index_or (args_of old) k d).ignore_case q
default_reads old m p plain globals k d q only =
    let id = (slice_index_or (args_of old) k d).id.now in
    let there = found_there _ _ (default_present old m p globals k d only.place only.default) in
    go (matched_of (found_of m) id) refl there (p.parsed (p.from.globals ∙ globals))
  where
    id : List ℕ
    id = (slice_index_or (args_of old) k d).id.now

    go : (o : Option MatchedArg) → matched_of (found_of m) id ≡ o → is_some (matched_of (found_of m) id) ≡ true
        → IsParsed p.built (found_of m) (has_subcommand m)
        → ReadsDefault (found_of m) id (slice_index_or (args_of old) k d).ignore_case q
    go None e some parsed =
        let bad : false ≡ true = rw e at some in
        cc
    go (Some x) e some parsed =
        let got = entry_by_id (EntryPasses p.built) (found_of m).entries.items id x parsed.values e in
        let key = (bytes_eq-Decides got.0.0.now id).0 got.2 in
        let is = subst (λ (y : MatchedArg). IsValued p.built id q y) got.1 (valued old m p k d q only (p.from.plain plain).1 got.0 key got.3) in
        read_first (found_of m) id _ q (λ v. PassesArg p.built id v.now) x x.vals.items e refl is.reading is.some is.pass
        (λ v pass. accepted old m p k d q only v.now pass)

-- ---- the option behind two operands

abbrev three : Arg → Arg → Arg → List Arg
three a b w = a ∷ b ∷ w ∷ []

unique_workers : (a b w : Arg) → a.id.now ≡ codes "SCRIPT" → b.id.now ≡ codes "OUT.tga" → w.id.now ≡ codes "workers"
    → (d : Arg) (j : ℕ) (e : Arg) → j < 3
    → bytes_eq (slice_index_or (three a b w) j e).id.now (slice_index_or (three a b w) 2 d).id.now ≡ true → j ≡ 2
unique_workers a b w is_a is_b is_w d zero e lt same =
    let bad : false ≡ true = rw (is_a, is_w) at same in
    cc
unique_workers a b w is_a is_b is_w d (suc zero) e lt same =
    let bad : false ≡ true = rw (is_b, is_w) at same in
    cc
unique_workers a b w is_a is_b is_w d (suc (suc zero)) e lt same = refl
unique_workers a b w is_a is_b is_w d (suc (suc (suc j))) e lt same = absurd (omega arith)

no_name : (name other : List ℕ) → bytes_eq name other ≡ false → bytes_eq other other ≡ true → name ≡ other → ⊥
no_name name other differ same e =
    let bad : false ≡ true = sym differ ∙ (ap (λ n. bytes_eq n other) e ∙ same) in
    cc

-- of a command whose arguments are these three
only_workers : (c : Command) (a b w : Arg) (d : Arg) → args_of c ≡ three a b w → a.id.now ≡ codes "SCRIPT"
    → b.id.now ≡ codes "OUT.tga" → (option : Arg) → SameRules option w → IsWorkersOption option
    → IsOnlyDefault c 2 d (parser.Unsigned 0 15)
only_workers c a b w d args is_a is_b option rules is =
    let is_w : w.id.now ≡ codes "workers" = ap (λ s. s.now) rules.id ∙ is.id in
    let defaults = rules.defaults is.default.1 in
    record {
      place = subst (λ xs. 2 < length xs) (sym args) (omega arith);
      unique = subst (λ xs. (j : ℕ) (e : Arg) → j < length xs
          → bytes_eq (slice_index_or xs j e).id.now (slice_index_or xs 2 d).id.now ≡ true → j ≡ 2) (sym args)
          (unique_workers a b w is_a is_b is_w d);
      named = subst (λ xs. (slice_index_or xs 2 d).id.now ≡ [] → ⊥) (sym args)
          (λ e. no_name (codes "workers") [] refl refl (sym is_w ∙ e));
      own = subst (λ xs. IsAuto (slice_index_or xs 2 d) → ⊥) (sym args) (λ auto. elim auto [
        | inl h ↦ no_name (codes "workers") (codes "help") refl refl (sym is_w ∙ h)
        | inr h ↦ no_name (codes "workers") (codes "version") refl refl (sym is_w ∙ h)
      ]);
      default = subst (λ xs. WantsDefault (slice_index_or xs 2 d)) (sym args)
          (rules.ifs ∙ is.default.0, rw defaults is.default.1);
      action = subst (λ xs. (slice_index_or xs 2 d).action ≡ Some Set) (sym args) (rules.action Set is.action);
      undivided = subst (λ xs. (slice_index_or xs 2 d).val_delim ≡ None) (sym args) (rules.val_delim ∙ is.undivided);
      value = subst (λ xs. 1 ≤ least_values (slice_index_or xs 2 d)) (sym args) (rules.least is.action is.value);
      parser = subst (λ xs. (slice_index_or xs 2 d).value_parser ≡ Some (parser.Unsigned 0 15)) (sym args)
          (rules.parser (parser.Unsigned 0 15) is.parser);
    }

with_value : (f : Found) (id : List ℕ) (ignore_case : Bool) (m : ArgMatches) → f ≡ found_of m → id ≡ codes "workers"
    → ReadsDefault f id ignore_case (parser.Unsigned 0 15) → HasWorkers m
with_value f id ignore_case m is_f is_id reads = record {
  word = reads.word;
  first = rw (← is_f, ← is_id) reads.first;
  read = rw (← is_f, ← is_id) reads.read;
  passed = reads.passed;
}

pub workers_given : (start c1 c2 c3 : Command) (a b w : Arg) (m : ArgMatches) → AddsArg start a c1 → AddsArg c1 b c2 → AddsArg c2 w c3
    → args_of start ≡ [] → groups_of start ≡ [] → (out-Command start).has_globals ≡ false
    → IsOperand (codes "SCRIPT") a → IsOperand (codes "OUT.tga") b → IsWorkersOption w → IsParsedFrom c3 m → HasWorkers m
workers_given start c1 c2 c3 a b w m x y z args groups globals is_a is_b is_w p =
    let plain : IsPlain start = (subst (All IsPlainArg) (sym args) (All-nil IsPlainArg), groups) in
    let plain3 = added_plain c2 c3 w z (added_plain c1 c2 b y (added_plain start c1 a x plain is_a.plain) is_b.plain) is_w.plain in
    let one : args_of c1 ≡ x.arg ∷ [] = rw args at x.args in
    let two : args_of c2 ≡ x.arg ∷ y.arg ∷ [] = rw one at y.args in
    let list : args_of c3 ≡ three x.arg y.arg z.arg = rw two at z.args in
    let no_globals : (out-Command c3).has_globals ≡ false =
    rw (z.globals, y.globals, x.globals, globals, is_a.local, is_b.local, is_w.local) refl in
    let only = only_workers c3 x.arg y.arg z.arg w list (ap (λ s. s.now) x.rules.id ∙ is_a.id) (ap (λ s. s.now) y.rules.id ∙ is_b.id) w z.rules is_w in
    let third : (slice_index_or (args_of c3) 2 w).id.now ≡ codes "workers" = rw list (ap (λ s. s.now) z.rules.id ∙ is_w.id) in
    with_value (found_of m) _ _ m refl third (default_reads c3 m p plain3 no_globals 2 w (parser.Unsigned 0 15) only)

-- ---- the number that is read

pub number_read : (E : Type 0) (G : List ℕ → Result ℕ E → Type 0) (t : List ℕ) (r : Option ℕ) → ReadsOne G t r
    → ((u : List ℕ) (x : Result ℕ E) → G u x → ParsesUnsigned 32 10 u x) → Accepts false (parser.Unsigned 0 15) t
    → (n : ℕ) × (r ≡ Some n) × SaysWorkers t n
number_read E G t (Some v) read only passed =
    let parsed = only t (Ok v) read in
    let high = passed.3 in
    let is = parsed.1 in
    (v, refl, record { digits = passed.0; number = is; few = omega arith })
number_read E G t None read only passed =
    let high = passed.3 in
    absurd (only t (Err read.0) read.1 (passed.0, omega arith))

pub some_number : (t : List ℕ) (r : Option ℕ) → ((n : ℕ) × (r ≡ Some n) × SaysWorkers t n) → is_some r ≡ true
some_number t r read = ap is_some read.1

pub same_number : (t : List ℕ) (r : Option ℕ) (v : ℕ) → r ≡ Some v → ((n : ℕ) × (r ≡ Some n) × SaysWorkers t n) → SaysWorkers t v
same_number t r v is read =
    subst (λ n. SaysWorkers t n) (ap (λ (o : Option ℕ). unwrap_or o v) (sym read.1 ∙ is)) read.2
