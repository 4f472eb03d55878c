-- Lists that are cut into segments, which are compiled apart: each is a list of its own that begins from the default state (Microsoft Learn, ID3D11DeviceContext::ExecuteCommandList), and none begins a query.
use Rattle.std.specs.Prelude.{ℕ, ℤ, ◌≡◌, Bool, List, [], ◌∷◌, ◌++◌, Option, Some, None}
use Rattle.gfxspec.specs.declared.geometry.Size.{Size}
use Rattle.gfxspec.specs.Items.{Item}
use Rattle.gfxspec.specs.Commands.{Command, Draw, DrawIndexed}
use Rattle.gfxspec.specs.Recorded.{items, issues, query_begun, settings_after}
use Rattle.gfxspec.specs.Predication.{performed}
use Rattle.gfxspec.specs.Accepted.{AreSound}
use Rattle.gfxspec.specs.State.{Settings}
use Rattle.meaning.specs.OneMore.{settings_with, performed_items}
use Rattle.cmdlist.specs.Drawable.{IsDrawable}
use Rattle.binner.specs.Opened.{CanNote}
use Rattle.binner.specs.Compiled.{Compilation}
use Rattle.binner.specs.Compiling.{CanCompile}
use Rattle.binner.specs.Batched.{MeansItems}

pub record IsSegment (commands : List Command) : Type 0 where
  pub can : CanCompile [] commands
  pub unissued : issues commands ≡ []

-- the items of segments, one behind the other, under these query results
abbrev pub cut_items : (ℕ → Bool) → List (List Command) → List Item
cut_items results [] = []
cut_items results (s ∷ ss) = items (performed results s) ++ cut_items results ss

-- lists that were compiled apart for a target of this size, without issues, mean some items one behind the other
abbrev pub AreCompiled : Size → List Item → List Compilation → Type 0
AreCompiled size is [] = is ≡ []
AreCompiled size is (c ∷ cs) =
    (js : List Item) × (ks : List Item) × (is ≡ js ++ ks) × (c.size ≡ size) × (c.issues ≡ 0) × MeansItems js c × AreCompiled size ks cs

-- ---- a list that is being cut

-- a segment to which commands are added, and the settings behind those so far
pub record IsOpenSegment (commands : List Command) (s : Settings) : Type 0 where
  pub segment : IsSegment commands
  pub state : s ≡ settings_after commands
  pub sound : AreSound s

-- a draw of so many from a place on: of vertices, or of indices with a base
abbrev pub draw_of : Option ℤ → ℕ → ℕ → Command
draw_of None count start = Draw count start
draw_of (Some base) count start = DrawIndexed count start base

-- a command that can be added to a segment with these settings
pub record CanFollow (s : Settings) (c : Command) : Type 0 where
  pub drawable : IsDrawable s c
  pub note : CanNote 0 c
  pub sound : AreSound (settings_with c s)
  pub unissued : query_begun c ≡ None

-- the items of the finished segments and of the open one behind them
abbrev pub laid_items : (ℕ → Bool) → List (List Command) → List Command → List Item
laid_items results finished opened = cut_items results finished ++ items (performed results opened)

-- a cut changes no item and no setting
pub record IsSame (finished : List (List Command)) (opened : List Command) (more_finished : List (List Command)) (next : List Command) : Type 0 where
  pub state : settings_after next ≡ settings_after opened
  pub items : (results : ℕ → Bool) → laid_items results more_finished next ≡ laid_items results finished opened

-- what is behind is what was there, and the command
pub record IsMore (c : Command) (finished : List (List Command)) (opened : List Command) (more_finished : List (List Command)) (next : List Command) : Type 0 where
  pub state : settings_after next ≡ settings_with c (settings_after opened)
  pub items : (results : ℕ → Bool) → laid_items results more_finished next ≡ laid_items results finished opened ++ performed_items results (settings_after opened) [] c
