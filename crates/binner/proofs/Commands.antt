-- One command more.
use Rattle.std.proofs.Common.{◌≡◌, ◌∙◌, ap, sym, subst, refl, ℕ, true, List, [], ◌++◌, append-nil}
use Rattle.std.specs.Prelude.{Option, IfSome}
use Rattle.std.specs.declared.vec.Vec.{Vec}
use Rattle.gfxspec.specs.declared.geometry.Size.{Size}
use Rattle.gfxspec.specs.declared.pixel.DepthStencil.{DepthStencil}
use Rattle.gfxspec.specs.State.{Settings}
use Rattle.gfxspec.specs.Assembly.{Primitive}
use Rattle.gfxspec.specs.Items.{Item}
use Rattle.gfxspec.specs.Commands.{Command, ClearColor, ClearDepthStencil}
use Rattle.gfxspec.specs.Recorded.{items_at, is_drawing}
use Rattle.cmdlist.specs.declared.draws.Drawing.{Drawing}
use Rattle.cmdlist.specs.declared.draws.Drawing.TheVariants.{Nothing, Triangles}
use Rattle.cmdlist.specs.Drawn.{Draws, IsOf}
use Rattle.binner.specs.declared.setup.TriSetup.{TriSetup}
use Rattle.binner.specs.declared.compiling.Compiling.{Compiling}
use Rattle.binner.specs.Setups.{AreSetups, all_setups, IsSetUp}
use Rattle.binner.specs.Compiling.{HasCompiled, IsSound, AddsColor, AddsDepth, Adds}
use Rattle.binner.proofs.Growing.{color_means, color_sound, depth_means, depth_sound}

-- nothing is added
pub adds_nothing : {A : Type 0} (bits : ℕ) (more : List ℕ → List Item) (k : Compiling A) → ((opened : List ℕ) → more opened ≡ []) → IsSound k → Adds bits more k k
adds_nothing bits more k none sound = record {
  sound = sound;
  size = refl;
  means = λ items opened are h. subst (HasCompiled k) (sym (ap (λ l. items ++ l) (none opened) ∙ append-nil items)) h;
}

-- what is drawn is ready, if what was set up ahead is of these triangles
pub drawing_ready : {A : Type 0} (s : Settings) (size : Size) (parts : Option (Vec (Vec TriSetup A) A)) (primitives : List Primitive) (drawing : Drawing) → Draws primitives drawing → IfSome parts (λ p. AreSetups s size primitives (all_setups p.items)) → IsSetUp s size parts drawing
drawing_ready s size parts primitives (Triangles draw) h made = (h.0, h.1, subst (λ ps. IfSome parts (λ p. AreSetups s size ps (all_setups p.items))) (sym h.2) made)
drawing_ready s size parts primitives drawing h made = tt

-- what isn't nothing comes of a draw or a clear
pub drawing_comes : (c : Command) (drawing : Drawing) → IsOf c drawing → (drawing ≡ Nothing → ⊥) → is_drawing c ≡ true
drawing_comes c Nothing h some = absurd (some refl)
drawing_comes c drawing h some = h

-- the same items
pub adds_same : {A : Type 0} {bits : ℕ} {old new : Compiling A} (f g : List ℕ → List Item) → ((opened : List ℕ) → f opened ≡ g opened) → Adds bits f old new → Adds bits g old new
adds_same {new = new} f g is h = record {
  sound = h.sound;
  size = h.size;
  means = λ items opened are m. subst (λ l. HasCompiled new (items ++ l)) (is opened) (h.means items opened are m);
}

module _ {A : Type 0} (old new : Compiling A) (s : Settings) (bits : ℕ) (sound : IsSound old) where
  pub adds_color : (rgba : List ℕ) → AddsColor rgba old new → Adds bits (λ opened. items_at s opened (ClearColor rgba)) old new
  adds_color rgba h = record {
    sound = color_sound old new rgba h sound;
    size = h.lists.size;
    means = λ items opened are c. color_means old new rgba items h c;
  }

  pub adds_depth : (v : DepthStencil) → AddsDepth v old new → Adds bits (λ opened. items_at s opened (ClearDepthStencil v.depth v.stencil)) old new
  adds_depth v h = record {
    sound = depth_sound old new v h sound;
    size = h.lists.size;
    means = λ items opened are c. depth_means old new v items h c;
  }
