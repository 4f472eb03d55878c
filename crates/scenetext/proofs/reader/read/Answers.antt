use Rattle.std.proofs.Common.{◌≡◌, ℕ, ◌<◌, ◌^◌, List, [], ◌∷◌, ◌++◌, length, map, replicate, sym, ap, subst, ◌∙◌, arith, rules}
use Rattle.std.proofs.lemmas.Bool.Decides.{nat_tests}
use Rattle.std.proofs.lemmas.List.{length-map}
use Rattle.scenetext.specs.declared.fault.ReadError.TheVariants as errors
use Rattle.scenetext.specs.Scene.{Line}
use Rattle.scenetext.specs.Seen.{line_value}
use Rattle.scenetext.proofs.LoopLemmas.{SoFar, has_room, starts, goes_on, seen_more, fails, first_fails, first_known, is_read}
use Rattle.scenetext.proofs.reader.read.Goals as goal
use Rattle.std.proofs.lemmas.Grind.{common_steps}

pub returns-in-Err-clause-refused : goal.returns-in-Err-clause-refused
returns-in-Err-clause-refused g c = rw c.number_of.ensures (first_fails c.args.text.now c.in-Err.error c.in-Err.ensures.err)

pub returns-in-Err-clause-first_line : goal.returns-in-Err-clause-first_line
returns-in-Err-clause-first_line g c = λ one. rw c.number_of.ensures (first_known c.args.text.now c.in-Err.error c.in-Err.ensures.err)

pub loop-rest-init : goal.loop-rest-init
loop-rest-init g c =
    let none : [] ≡ map line_value c.new-lines.result.items = sym (ap (map line_value) c.new-lines.ensures.items) in
    let P : List Line → Type 0 = λ ls. SoFar c.args.text.now c.in-Ok.first.0 ls (replicate 8 0) c.in-Ok.first.1.now in
    subst P none (starts c.args.text.now c.in-Ok.first.1.now c.in-Ok.first.0 c.in-Ok.ensures.ok)

pub returns-in-Err-read_line-clause-refused : goal.returns-in-Err-read_line-clause-refused
returns-in-Err-read_line-clause-refused g c =
    let some : 0 < length c.loop-rest.rest.now = grind (arith, nat_tests) in
    let ls = map line_value c.loop-rest.lines.items in
    let count : c.len.result ≡ length ls = c.len.ensures ∙ c.loop-rest.lines.ok.0 ∙ sym (length-map c.loop-rest.lines.items line_value) in
    rw (count, c.in-Err-read_line.ensures.err.numbered) (fails c.args.text.now c.in-Ok.first.0 ls c.loop-rest.finished c.loop-rest.rest.now c.in-Err-read_line.ensures.err.error c.loop-rest.invariant some c.in-Err-read_line.ensures.err.refuses)

pub returns-then-is_err-clause-refused : goal.returns-then-is_err-clause-refused
returns-then-is_err-clause-refused g c =
    let some : 0 < length c.loop-rest.rest.now = grind (arith, nat_tests) in
    let ls = map line_value c.loop-rest.lines.items in
    let count : c.len.result ≡ length ls = c.len.ensures ∙ c.loop-rest.lines.ok.0 ∙ sym (length-map c.loop-rest.lines.items line_value) in
    rw (count, c.number_of-then-is_err.ensures) (fails c.args.text.now c.in-Ok.first.0 ls c.loop-rest.finished c.loop-rest.rest.now errors.Memory c.loop-rest.invariant some tt)

pub loop-rest-preserved : goal.loop-rest-preserved
loop-rest-preserved g c =
    let ls = map line_value c.loop-rest.lines.items in
    let line = line_value c.in-Ok-read_line.next.0 in
    let next = goes_on c.args.text.now c.in-Ok.first.0 ls c.loop-rest.finished c.in-Ok-read_line.next.1.now c.loop-rest.rest.now line c.loop-rest.invariant c.in-Ok-read_line.ensures.ok in
    let seen = seen_more c.loop-rest.lines.items c.push.new.self.items c.in-Ok-read_line.next.0 _ _ c.push.ensures.items c.is_err.ensures.negation c.if-is_err.false in
    let P : List Line → List ℕ → Type 0 = λ xs finished. SoFar c.args.text.now c.in-Ok.first.0 xs finished c.in-Ok-read_line.next.1.now in
    subst (λ xs. P xs c.count_finish.new.finished) seen (subst (P (ls ++ line ∷ [])) (sym c.count_finish.ensures) next)

pub returns-clause-scene : goal.returns-clause-scene
returns-clause-scene g c =
    let none : length c.loop-rest.rest.now ≡ 0 = grind (arith, nat_tests) in
    is_read c.args.text.now c.in-Ok.first.0 (map line_value c.loop-rest.lines.items) c.loop-rest.finished c.loop-rest.rest.now c.loop-rest.invariant none

pub is_empty-requires : goal.is_empty-requires
is_empty-requires g c κs = search rules

pub number-requires : goal.number-requires
number-requires g c = search rules

pub returns-then-is_empty-clause-scene : goal.returns-then-is_empty-clause-scene
returns-then-is_empty-clause-scene g c = search rules

pub returns-then-is_empty-clause-refused : goal.returns-then-is_empty-clause-refused
returns-then-is_empty-clause-refused g c = grind (arith, common_steps)

pub returns-then-is_empty-clause-first_line : goal.returns-then-is_empty-clause-first_line
returns-then-is_empty-clause-first_line g c = search rules

pub first_of-requires : goal.first_of-requires
first_of-requires g c = search rules

pub number_of-requires : goal.number_of-requires
number_of-requires g c = search rules

pub returns-in-Err-clause-scene : goal.returns-in-Err-clause-scene
returns-in-Err-clause-scene g c = search rules

pub is_empty-requires-in-loop-rest : goal.is_empty-requires-in-loop-rest
is_empty-requires-in-loop-rest g c κs = search rules

pub overflow_add-number : goal.overflow_add-number
overflow_add-number g c = search rules

pub read_line-requires : goal.read_line-requires
read_line-requires g c = search rules

pub returns-in-Err-read_line-clause-scene : goal.returns-in-Err-read_line-clause-scene
returns-in-Err-read_line-clause-scene g c = search rules

pub returns-in-Err-read_line-clause-first_line : goal.returns-in-Err-read_line-clause-first_line
returns-in-Err-read_line-clause-first_line g c = search rules

pub count_finish-requires-clause-actor : goal.count_finish-requires-clause-actor
count_finish-requires-clause-actor g c = search rules

pub count_finish-requires-clause-room : goal.count_finish-requires-clause-room
count_finish-requires-clause-room g c =
    let few : length c.args.text.now < 2 ^ 63 = search rules in
    has_room c.args.text.now c.in-Ok.first.0 (map line_value c.loop-rest.lines.items) c.loop-rest.finished c.loop-rest.rest.now c.loop-rest.invariant few

pub drop-push-requires : goal.drop-push-requires
drop-push-requires g c κs = search rules

pub drop-requires : goal.drop-requires
drop-requires g c κs = search rules

pub number_of-requires-then-is_err : goal.number_of-requires-then-is_err
number_of-requires-then-is_err g c = search rules

pub returns-then-is_err-clause-scene : goal.returns-then-is_err-clause-scene
returns-then-is_err-clause-scene g c = search rules

pub returns-then-is_err-clause-first_line : goal.returns-then-is_err-clause-first_line
returns-then-is_err-clause-first_line g c = search rules

pub loop-rest-smaller : goal.loop-rest-smaller
loop-rest-smaller g c = search rules

pub returns-clause-refused : goal.returns-clause-refused
returns-clause-refused g c = search rules

pub returns-clause-first_line : goal.returns-clause-first_line
returns-clause-first_line g c = search rules
