-- The items of what is performed, command by command.
use Rattle.std.proofs.Common.{◌≡◌, ◌∙◌, ap, sym, refl, ℕ, Bool, true, false, not, ◌&&◌, cond, List, [], ◌∷◌, ◌++◌}
use Rattle.std.proofs.lemmas.List.{append-nil}
use Rattle.gfxspec.specs.State.{Settings}
use Rattle.gfxspec.specs.Commands.{Command, Draw, DrawIndexed, ClearColor, ClearDepthStencil}
use Rattle.gfxspec.specs.Recorded.{settings_after, open_after, items_at, items, is_drawing}
use Rattle.gfxspec.specs.Predication.{withholds, performed}
use Rattle.meaning.specs.OneMore.{performed_items}
use Rattle.meaning.proofs.Growing.{items-push}
use Rattle.meaning.proofs.Performed.{performed-push, performed_alike}

-- what neither draws nor clears has no items
no_items : (s : Settings) (opened : List ℕ) (c : Command) → is_drawing c ≡ false → items_at s opened c ≡ []
no_items s opened (Draw count start) h = absurd cc
no_items s opened (DrawIndexed count start base) h = absurd cc
no_items s opened (ClearColor rgba) h = absurd cc
no_items s opened (ClearDepthStencil depth stencil) h = absurd cc
no_items s opened c h = refl

pub items_performed-push : (results : ℕ → Bool) (cs : List Command) (c : Command) → items (performed results (cs ++ c ∷ [])) ≡ items (performed results cs) ++ performed_items results (settings_after cs) (open_after cs) c
items_performed-push results cs c = ap items (performed-push results cs c) ∙ chosen (is_drawing c) (withholds results (settings_after cs).predicate) refl
  where
    left : List Command
    left = performed results cs

    whole : items (left ++ c ∷ []) ≡ items left ++ items_at (settings_after cs) (open_after cs) c
    whole =
        items-push left c
        ∙ ap (λ s. items left ++ items_at s (open_after left) c) (performed_alike results cs).settings
        ∙ ap (λ o. items left ++ items_at (settings_after cs) o c) (performed_alike results cs).opened

    chosen : (d w : Bool) → is_drawing c ≡ d → items (left ++ cond (not (d && w)) (c ∷ []) []) ≡ items left ++ cond w [] (items_at (settings_after cs) (open_after cs) c)
    chosen true true is = ap items (append-nil left) ∙ sym (append-nil (items left))
    chosen true false is = whole
    chosen false true is = whole ∙ ap (λ l. items left ++ l) (no_items (settings_after cs) (open_after cs) c is)
    chosen false false is = whole
