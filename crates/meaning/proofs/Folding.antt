-- Folds over items at a pixel.
use Rattle.std.proofs.Common.{◌≡◌, ◌∙◌, ap, sym, refl, ℕ, List, [], ◌∷◌, ◌++◌}
use Rattle.gfxspec.specs.declared.pixel.Pixel.{Pixel}
use Rattle.gfxspec.specs.State.{Settings}
use Rattle.gfxspec.specs.Assembly.{Primitive, draw_primitives, draw_indexed_primitives}
use Rattle.gfxspec.specs.Items.{Item, Drawn, after_item, after_items}
use Rattle.gfxspec.specs.Commands.{Command, Draw, DrawIndexed}
use Rattle.gfxspec.specs.Recorded.{settings_after, open_after, drawn_items, items_at, items_behind}

-- the fold over two lists is that over the second from what the first gave
pub after_items-append : (is js : List Item) (x y : ℕ) (old : Pixel) → after_items (is ++ js) x y old ≡ after_items js x y (after_items is x y old)
after_items-append [] js x y old = refl
after_items-append (i ∷ is) js x y old = after_items-append is js x y (after_item i x y old)

-- ---- which issues are open changes no pixel

drawn-same : (s : Settings) (o q : List ℕ) (ps : List Primitive) (x y : ℕ) (old : Pixel) → after_items (drawn_items s o ps) x y old ≡ after_items (drawn_items s q ps) x y old
drawn-same s o q [] x y old = refl
drawn-same s o q (p ∷ ps) x y old = drawn-same s o q ps x y (after_item (Drawn p s o) x y old)

pub items_at-same : (s : Settings) (o q : List ℕ) (c : Command) (x y : ℕ) (old : Pixel) → after_items (items_at s o c) x y old ≡ after_items (items_at s q c) x y old
items_at-same s o q (Draw count start) x y old = drawn-same s o q (draw_primitives s count start) x y old
items_at-same s o q (DrawIndexed count start base) x y old = drawn-same s o q (draw_indexed_primitives s count start base) x y old
items_at-same s o q c x y old = refl

pub items_behind-same : (b d earlier cs : List Command) (x y : ℕ) (old : Pixel) → after_items (items_behind b earlier cs) x y old ≡ after_items (items_behind d earlier cs) x y old
items_behind-same b d earlier [] x y old = refl
items_behind-same b d earlier (c ∷ cs) x y old =
    after_items-append (items_at (settings_after earlier) (open_after (b ++ earlier)) c) (items_behind b (earlier ++ c ∷ []) cs) x y old
    ∙ ap (λ p. after_items (items_behind b (earlier ++ c ∷ []) cs) x y p) (items_at-same (settings_after earlier) (open_after (b ++ earlier)) (open_after (d ++ earlier)) c x y old)
    ∙ items_behind-same b d (earlier ++ c ∷ []) cs x y (after_items (items_at (settings_after earlier) (open_after (d ++ earlier)) c) x y old)
    ∙ sym (after_items-append (items_at (settings_after earlier) (open_after (d ++ earlier)) c) (items_behind d (earlier ++ c ∷ []) cs) x y old)
