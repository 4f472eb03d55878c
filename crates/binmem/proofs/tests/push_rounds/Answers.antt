use Rattle.std.proofs.Common.{◌∙◌, ap, arith, length, List, ℕ, []}
use Rattle.std.proofs.lemmas.List.{length-replicate}
use Rattle.binmem.specs.Lists.{word_count}
use Rattle.binmem.proofs.ListLemmas.{count_none}
use Rattle.binmem.proofs.tests.push_rounds.Goals as goal

pub loop-word-init : goal.loop-word-init
loop-word-init g c =
    let none = ap (λ (l : List (List ℕ)). word_count l) c.requires ∙ count_none 4096 in
    record { long = ap (λ (l : List (List ℕ)). length l) c.requires ∙ length-replicate {A = List ℕ} 4096 []; count = omega (arith, none) }
