use Rattle.std.proofs.Common.{◌∙◌, ap, length, List, ℕ}
use Rattle.binmem.specs.Lists.{no_words}
use Rattle.binmem.proofs.tests.rounds_of_all_tiles.Goals as goal

pub push_rounds-requires-2 : goal.push_rounds-requires-2
push_rounds-requires-2 g c =
    let long = ap (λ (l : List (List ℕ)). length l) c.seal-sealed.ensures ∙ c.push_rounds.ensures in
    c.reuse-again.ensures ∙ ap (λ (n : ℕ). no_words n) long
