use Rattle.std.proofs.Common.{arith, ap, subst, ◌∙◌, map}
use Rattle.std.specs.Prelude.{max, IfOk}
use Rattle.std.specs.List.{AllZip}
use Rattle.rayon.specs.Lists.{chunks_of, chunks_size, chunks_slice, min_len_base}
use Rattle.command.specs.Seen.{state_value}
use Rattle.binner.specs.Setups.{AreSetups}
use Rattle.binner.proofs.Slices.{primitive_at, parts_whole}
use Rattle.binner.proofs.ahead.parts_of.Goals as goal

pub returns : goal.returns
returns g c =
    let made = c.in_ok-parts.ensures in
    let zip = subst (λ f. AllZip (λ x r. IfOk r (λ v. AreSetups (state_value f.1.now) f.2.now (map primitive_at x.now) v.items)) made.1.0 made.0) c.map.ensures.f made.1.2 in
    let base = ap min_len_base c.map.ensures.base ∙ c.with_min_len.ensures.base in
    let chunks = made.1.1 ∙ ap (λ p. chunks_of (max (chunks_size p) 1) (chunks_slice p)) base ∙ ap (λ n. chunks_of (max n 1) c.par_chunks.result.slice.now) c.par_chunks.ensures.size ∙ ap (chunks_of 256) c.par_chunks.ensures.slice in
    parts_whole (state_value c.args.state.now) c.args.size 256 (omega arith) c.args.tris.now made.1.0 made.0 c.in_ok-parts.parts chunks zip made.2
