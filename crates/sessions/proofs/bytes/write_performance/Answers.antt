use Rattle.std.proofs.Common.{rules, ◌≡◌, ◌∙◌, ap, subst, refl, ℕ, ◌+◌, ◌<◌, ◌++◌, length, take}
use Rattle.std.specs.Prelude.{Result, Ok, Err}
use Rattle.tga.specs.Image.{image_bytes}
use Rattle.tileblock.specs.Surface.{pixel_of}
use Rattle.immediate.specs.Held.{Held}
use Rattle.sessions.specs.declared.outcome.Ended.TheVariants as ended
use Rattle.sessions.specs.declared.outcome.SessionFault.TheVariants as faults
use Rattle.answers.specs.declared.line.Answer.TheVariants.{Refused}
use Rattle.answers.specs.Lines.{answer_line}
use Rattle.sessions.specs.Writing.{course}
use Rattle.sessions.proofs.Endings.{wrote_by, broke_off}
use Rattle.sessions.proofs.bytes.write_performance.Goals as goal

pub returns-in-Ok-write_tga-clause-wrote : goal.returns-in-Ok-write_tga-clause-wrote
returns-in-Ok-write_tga-clause-wrote g c image lines =
    let bytes = c.args.performance.answers.items in
    let is = c.in-Ok.is in
    let h : Held = c.in-Ok.context in
    let end : Result Held (ℕ × ℕ) = c.args.performance.end in
    let same : end ≡ Ok h = cc in
    let all = c.in_default.ensures.all lines ∙ ap (λ b. g.L.Sink.written c.args.lines.now ++ b) c.as_slice.ensures.value in
    let drawn = c.in-Ok-write_tga.ensures.image image ∙ ap (λ s. g.I.Sink.written c.args.image.now ++ image_bytes s.size (pixel_of s)) c.target.ensures.target in
    wrote_by bytes end (Ok h) (Ok ended.Done) (course g.L.Sink.written g.L.Sink.failures c.args.lines.now c.put_all.new.sink) (course g.I.Sink.written g.I.Sink.failures c.args.image.now c.write_tga.new.out) same (refl, all, drawn)

pub returns-in-Ok-clause-wrote : goal.returns-in-Ok-clause-wrote
returns-in-Ok-clause-wrote g c image lines =
    let bytes = c.args.performance.answers.items in
    let is = c.in-Ok.is in
    let h : Held = c.in-Ok.context in
    let end : Result Held (ℕ × ℕ) = c.args.performance.end in
    let same : end ≡ Ok h = cc in
    let taken = c.in-Err-write_tga.fault.taken in
    let all = c.in_default.ensures.all lines ∙ ap (λ b. g.L.Sink.written c.args.lines.now ++ b) c.as_slice.ensures.value in
    let drawn = c.in-Err-write_tga.ensures.part image ∙ ap (λ s. g.I.Sink.written c.args.image.now ++ take taken (image_bytes s.size (pixel_of s))) c.target.ensures.target in
    let few = subst (λ s. taken < length (image_bytes s.size (pixel_of s))) c.target.ensures.target c.in-Err-write_tga.ensures.partly in
    wrote_by bytes end (Ok h) (Err (faults.Image taken)) (course g.L.Sink.written g.L.Sink.failures c.args.lines.now c.put_all.new.sink) (course g.I.Sink.written g.I.Sink.failures c.args.image.now c.write_tga.new.out) same (few, all, drawn)

pub returns-clause-wrote : goal.returns-clause-wrote
returns-clause-wrote g c image lines =
    let bytes = c.args.performance.answers.items in
    let e : ℕ × ℕ = (c.in-Err-end.line, c.in-Err-end.number) in
    let is = c.in-Err-end.is in
    let end : Result Held (ℕ × ℕ) = c.args.performance.end in
    let same : end ≡ Err e = cc in
    let taken = c.in-Err-put_all.taken in
    let line = answer_line (Refused e.0 e.1) in
    let line_is : c.as_bytes.result.now ≡ line = search rules in
    let count : c.len.result ≡ length bytes = search rules in
    let first = c.in_default.ensures.all lines ∙ ap (λ b. g.L.Sink.written c.args.lines.now ++ b) c.as_slice.ensures.value in
    let second = c.in-Err-put_all.ensures.taken (c.in_default.ensures.told lines) ∙ ap (λ b. g.L.Sink.written c.put_all.new.sink ++ take taken b) line_is in
    let few = subst (λ b. taken < length b) line_is c.in-Err-put_all.ensures.count in
    let off = broke_off (g.L.Sink.written c.args.lines.now) bytes line _ _ c.len.result taken first second count few in
    wrote_by bytes end (Err e) (Err (faults.Lines (c.len.result + taken))) (course g.L.Sink.written g.L.Sink.failures c.args.lines.now c.put_all-in-Err-end.new.sink) (course g.I.Sink.written g.I.Sink.failures c.args.image.now c.args.image.now) same (off.0, off.1, refl)
