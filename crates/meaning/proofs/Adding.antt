-- Counts of items one behind the other.
use Rattle.std.proofs.Common.{◌≡◌, ◌∙◌, arith, ℕ, ◌+◌, List, [], ◌∷◌, ◌++◌, if◌then◌else◌}
use Rattle.gfxspec.specs.declared.pixel.Pixel.{Pixel}
use Rattle.gfxspec.specs.Items.{Item, after_item, after_items, counts_for, count_at, issue_count, sum_below}
use Rattle.meaning.proofs.Sums.{same_sums, sum_add}

three_sums : (a b c d : ℕ) → b ≡ c + d → a + b ≡ a + c + d
three_sums a b c d h = omega arith

none_before : (n : ℕ) → n ≡ 0 + n
none_before n = omega arith

pub count_at-append : (issue : ℕ) (is js : List Item) (x y : ℕ) (old : Pixel) → count_at issue (is ++ js) x y old ≡ count_at issue is x y old + count_at issue js x y (after_items is x y old)
count_at-append issue [] js x y old = none_before _
count_at-append issue (i ∷ is) js x y old =
    three_sums (if counts_for issue i x y old then 1 else 0) _ _ _ (count_at-append issue is js x y (after_item i x y old))

pub issue_count-append : (issue : ℕ) (is js : List Item) (w h : ℕ) (opening : ℕ → ℕ → Pixel) → issue_count issue (is ++ js) w h opening ≡ issue_count issue is w h opening + issue_count issue js w h (λ x y. after_items is x y (opening x y))
issue_count-append issue is js w h opening =
    same_sums h _ _ (λ y a.
    same_sums w _ _ (λ x b. count_at-append issue is js x y (opening x y))
    ∙ sum_add w (λ x. count_at issue is x y (opening x y)) (λ x. count_at issue js x y (after_items is x y (opening x y))))
    ∙ sum_add h (λ y. sum_below w (λ x. count_at issue is x y (opening x y))) (λ y. sum_below w (λ x. count_at issue js x y (after_items is x y (opening x y))))
