-- A list that draws and clears nothing leaves each pixel.
use Rattle.std.proofs.Common.{◌≡◌, ◌∙◌, sym, ap, refl, ℕ, ◌++◌, List, [], ◌∷◌, cond, not, ◌&&◌}
use Rattle.std.specs.Prelude.{Bool, true, false, ◌||◌}
use Rattle.std.specs.List.{list_any}
use Rattle.gfxspec.specs.declared.pixel.Pixel.{Pixel}
use Rattle.gfxspec.specs.Items.{Item, after_items}
use Rattle.gfxspec.specs.State.{Settings}
use Rattle.tileblock.specs.Surface.{Surface, pixel_of}
use Rattle.immediate.specs.Held.{Held, outputs_of, stored, shown}
use Rattle.immediate.specs.Outputs.{cut_over}
use Rattle.gfxspec.specs.Commands.{Command, Draw, DrawIndexed, ClearColor, ClearDepthStencil}
use Rattle.gfxspec.specs.Predication.{withholds, performed_behind, performed, result_of}
use Rattle.meaning.specs.Contexts.{result_at}
use Rattle.gfxspec.specs.Recorded.{is_drawing, items, items_at, items_behind, settings_after, open_after}

-- a command that draws and clears nothing has no item
no_item : (s : Settings) (opened : List ℕ) (c : Command) → is_drawing c ≡ false → items_at s opened c ≡ []
no_item s opened (Draw count start) h = absurd cc
no_item s opened (DrawIndexed count start base) h = absurd cc
no_item s opened (ClearColor rgba) h = absurd cc
no_item s opened (ClearDepthStencil depth stencil) h = absurd cc
no_item s opened c h = refl

pub first_false : (a b : Bool) → (a || b) ≡ false → a ≡ false
first_false false b h = refl
first_false true b h = absurd cc

pub second_false : (a b : Bool) → (a || b) ≡ false → b ≡ false
second_false false b h = h
second_false true b h = absurd cc

no_items_behind : (earlier list : List Command) → list_any is_drawing list ≡ false → items_behind [] earlier list ≡ []
no_items_behind earlier [] h = refl
no_items_behind earlier (c ∷ cs) h =
    ap (λ (is : List Item). is ++ items_behind [] (earlier ++ c ∷ []) cs) (no_item (settings_after earlier) (open_after earlier) c (first_false (is_drawing c) (list_any is_drawing cs) h))
    ∙ no_items_behind (earlier ++ c ∷ []) cs (second_false (is_drawing c) (list_any is_drawing cs) h)

pub no_items : (list : List Command) → list_any is_drawing list ≡ false → items list ≡ []
no_items list h = no_items_behind [] list h

pub nothing_drawn : (list : List Command) → list_any is_drawing list ≡ false → (x y : ℕ) (old : Pixel) → old ≡ after_items (items list) x y old
nothing_drawn list h x y old = sym (ap (λ (is : List Item). after_items is x y old) (no_items list h))

-- where nothing is drawn, nothing is withheld
none_withheld_behind : (results : ℕ → Bool) (earlier list : List Command) → list_any is_drawing list ≡ false → performed_behind results earlier list ≡ list
none_withheld_behind results earlier [] h = refl
none_withheld_behind results earlier (c ∷ cs) h =
    let rest = performed_behind results (earlier ++ c ∷ []) cs in
    ap (λ d. cond (not (d && withholds results (settings_after earlier).predicate)) (c ∷ rest) rest) (first_false (is_drawing c) (list_any is_drawing cs) h)
    ∙ ap (λ l. c ∷ l) (none_withheld_behind results (earlier ++ c ∷ []) cs (second_false (is_drawing c) (list_any is_drawing cs) h))

pub none_withheld : (results : ℕ → Bool) (list : List Command) → list_any is_drawing list ≡ false → performed results list ≡ list
none_withheld results list h = none_withheld_behind results [] list h

-- where nothing waits, the target's pixels are the stored ones
pub stored_settled : (h : Held) → h.waiting ≡ [] → (x y : ℕ) → stored h x y ≡ pixel_of h.surface x y
stored_settled h none x y = ap (λ (ss : List (List Command)). after_items (cut_over (outputs_of h) ss) x y (pixel_of h.surface x y)) none

-- where nothing is drawn besides, they are shown
pub settled : (h : Held) (s : Surface) → h.surface ≡ s → (x y : ℕ) → h.waiting ≡ [] → list_any is_drawing h.pending ≡ false → pixel_of s x y ≡ shown h x y
settled h s e x y still none =
    ap (λ (t : Surface). pixel_of t x y) (sym e) ∙ sym (stored_settled h still x y) ∙ nothing_drawn h.pending none x y (stored h x y)
    ∙ ap (λ (l : List Command). after_items (items l) x y (stored h x y)) (sym (none_withheld (λ q. result_of (result_at h.results q)) h.pending none))
