use Rattle.std.proofs.Common.{arith, ◌∙◌, ap, ℕ, ◌+◌, ◌%◌, slice_index, List, [], ◌∷◌, w64}
use Rattle.std.proofs.lemmas.Simd.{get_or-zip2, length-zip2}
use Rattle.std.proofs.lemmas.List.{get_or-replicate}
use borrow.Rule.Simd.Lanes.{act2}
use borrow.Table.Row.{s_int}
use mir.Syntax.{wrap_add}
use Rattle.depthplane.proofs.quads.ValueQuad.stepped.Goals as goal

pub returns-clause-four : goal.returns-clause-four
returns-clause-four c =
    let v = c.args.step in
    let steps : List ℕ = v ∷ v ∷ v ∷ v ∷ [] in
    length-zip2 (act2 wrap_add (s_int w64) (s_int w64) (s_int w64)) c.args.self.lanes steps c.requires ∙ c.requires

pub returns-clause-more : goal.returns-clause-more
returns-clause-more c = λ j h.
    let v = c.args.step in
    let four = c.requires in
    let steps : List ℕ = v ∷ v ∷ v ∷ v ∷ [] in
    get_or-zip2 (act2 wrap_add (s_int w64) (s_int w64) (s_int w64)) c.args.self.lanes steps j 0 0 0 (omega (arith, four, h)) h
    ∙ ap (λ n. (slice_index c.args.self.lanes j + n) % 18446744073709551616) (get_or-replicate 4 j v 0 h)
