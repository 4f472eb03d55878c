use Rattle.std.proofs.Common.{◌≡◌, ◌<◌, ◌∙◌, ap, arith, length, List, ℕ, []}
use Rattle.std.proofs.lemmas.List.{length-replicate}
use Rattle.binmem.specs.Lists.{word_count}
use Rattle.binmem.proofs.ListLemmas.{count_none, cut_fewer}
use Rattle.binmem.proofs.tests.one_after_another.Goals as goal

pub push_row-requires-2-clause-room : goal.push_row-requires-2-clause-room
push_row-requires-2-clause-room g c =
    let empty = c.in_ok-bins.ensures.empty in
    let none : word_count c.in_ok-bins.bins ≡ 0 = ap (λ (l : List (List ℕ)). word_count l) empty ∙ count_none 2 in
    let two : length c.in_ok-bins.bins ≡ 2 = ap (λ (l : List (List ℕ)). length l) empty ∙ length-replicate {A = List ℕ} 2 [] in
    let words = c.in_ok-push_row.ensures.words in let tiles = c.in_ok-push_row.ensures.tiles in
    let inside : 0 < length c.push_row.new.bins = omega (arith, tiles, two) in
    let fewer = cut_fewer c.push_row.new.bins c.cut.new.self 0 inside c.cut.ensures in
    let few = c.requires in
    omega (arith, none, words, fewer, few)
