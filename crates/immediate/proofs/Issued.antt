-- Whether a query has an answer.
use Rattle.std.proofs.Common.{◌≡◌, ◌∙◌, sym, ap, refl, ℕ, ◌+◌, List, [], ◌∷◌}
use Rattle.std.specs.Prelude.{Bool, true, false, ◌||◌, ◌==◌, not, Option, Some, None, is_none, is_some}
use Rattle.gfxspec.specs.declared.geometry.Size.{Size}
use Rattle.gfxspec.specs.declared.pixel.Pixel.{Pixel}
use Rattle.gfxspec.specs.Items.{Item}
use Rattle.gfxspec.specs.Commands.{Command, Begin}
use Rattle.gfxspec.specs.Recorded.{items, issues}
use Rattle.gfxspec.specs.Session.{last_of, begun_from}
use Rattle.gfxspec.specs.Predication.{performed}
use Rattle.meaning.proofs.Performed.{performed_alike}
use Rattle.meaning.specs.Contexts.{counted_or, result_after, last_begun}
use Rattle.std.proofs.Common.{cond}
use Rattle.gfxspec.specs.Refusals.{is_among}

begin_none : (q k p : ℕ) (cs : List Command) (b : Bool) → is_none (last_of (begun_from q (k + 1) cs)) ≡ not (is_among q (issues cs))
    → is_none (last_of (cond b (k ∷ begun_from q (k + 1) cs) (begun_from q (k + 1) cs))) ≡ not (b || is_among q (issues cs))
begin_none q k p cs true rest = refl
begin_none q k p cs false rest = rest

begun_none : (q k : ℕ) (cs : List Command) → is_none (last_of (begun_from q k cs)) ≡ not (is_among q (issues cs))
begun_none q k [] = refl
begun_none q k (Begin p ∷ cs) = begin_none q k p cs (p == q) (begun_none q (k + 1) cs)
begun_none q k (c ∷ cs) = begun_none q k cs

-- an issue that ran, or one that the list begins
pub issued : (size : Size) (told : ℕ → Bool) (list : List Command) (pixels : ℕ → ℕ → Pixel) (q : ℕ) (before : Option ℕ) → (is_some before || is_among q (issues list)) ≡ not (is_none (result_after size (performed told list) pixels q before))
issued size told list pixels q before =
    by before (last_begun q (performed told list)) (is_among q (issues list)) (items (performed told list))
    (ap (λ (ks : List ℕ). is_none (last_of ks)) ((performed_alike told list).begun q) ∙ begun_none q 0 list)
  where
    by : (before last : Option ℕ) (b : Bool) (is : List Item) → is_none last ≡ not b → (is_some before || b) ≡ not (is_none (counted_or before last is size pixels))
    by None None true is e = absurd cc
    by None None false is e = refl
    by None (Some k) true is e = refl
    by None (Some k) false is e = absurd cc
    by (Some n) None b is e = refl
    by (Some n) (Some k) b is e = refl

-- where no issue ran, one that the list begins
pub issued_else : (size : Size) (told : ℕ → Bool) (list : List Command) (pixels : ℕ → ℕ → Pixel) (q : ℕ) (before : Option ℕ) (b : Bool) → is_some before ≡ false → b ≡ is_among q (issues list) → b ≡ not (is_none (result_after size (performed told list) pixels q before))
issued_else size told list pixels q before b none e = e ∙ ap (λ a. a || is_among q (issues list)) (sym none) ∙ issued size told list pixels q before
