-- A list, command by command.
use Rattle.std.proofs.Common.{◌≡◌, ◌∙◌, ap, sym, subst, refl, arith, Bool, ℕ, ◌+◌, ◌<◌, ◌≤◌, List, [], ◌∷◌, ◌++◌, length, map, get_or, length-append, append_assoc, append-nil}
use Rattle.std.proofs.lemmas.List.{take_all}
use Rattle.gfxspec.specs.State.{Settings}
use Rattle.gfxspec.specs.Commands.{Command, Begin}
use Rattle.gfxspec.specs.Recorded.{settings_after, open_after, items, issues}
use Rattle.gfxspec.specs.Predication.{performed}
use Rattle.meaning.specs.OneMore.{settings_with, performed_items}
use Rattle.meaning.proofs.Nearest.{settings_after-push}
use Rattle.meaning.proofs.Growing.{issues-push}
use Rattle.meaning.proofs.Withheld.{items_performed-push}
use Rattle.command.specs.declared.command.Command.{Command as Code}
use Rattle.command.specs.Seen.{command_value}
use Rattle.cmdlist.specs.Drawable.{IsDrawable}
use Rattle.gfxspec.specs.Items.{Item}
use Rattle.binner.specs.declared.compiling.Compiling.{Compiling}
use Rattle.binner.specs.Opened.{IsOpened, CanNote}
use Rattle.binner.specs.Compiling.{HasCompiled, IsSound, Adds, AddsList, CanCompile}
use Rattle.binner.proofs.Accepted.{done, done_more, stands_at}

-- of the first i commands those that are performed are compiled behind what was there, and this is the state behind them
pub record SoFar {A : Type 0} (results : ℕ → Bool) (cs : List (Code A)) (i : ℕ) (s : Settings) (bits begun : ℕ) (of_query : List ℕ) (start now : Compiling A) : Type 0 where
  pub state : s ≡ settings_after (done cs i)
  pub opened : IsOpened bits begun of_query (done cs i)
  pub few : begun ≤ 64
  pub size : now.lists.size ≡ start.lists.size
  pub bins : length now.lists.bins ≡ length start.lists.bins
  pub sound : IsSound now
  pub means : (is : List Item) → HasCompiled start is → HasCompiled now (is ++ items (performed results (done cs i)))

issues_few : (is : List ℕ) (c : Command) → CanNote (length is) c → length is ≤ 64 → length (is ++ issues (c ∷ [])) ≤ 64
issues_few is c can h = let e = length-append is (issues (c ∷ [])) in let k = one c can h in omega (arith, e, k)
  where
    one : (c : Command) → CanNote (length is) c → length is ≤ 64 → length is + length (issues (c ∷ [])) ≤ 64
    one (Begin q) can h = let l = can.1 in omega (arith, l)
    one c can h = omega (arith, h)

module _ {A : Type 0} (results : ℕ → Bool) (cs : List (Code A)) where
  pub so_far : (s : Settings) (of_query : List ℕ) (start : Compiling A) → s ≡ settings_after [] → IsOpened 0 0 of_query [] → IsSound start → SoFar results cs 0 s 0 0 of_query start start
  so_far s of_query start e o sound = record {
    state = e;
    opened = o;
    few = omega arith;
    size = refl;
    bins = refl;
    sound = sound;
    means = λ is m. subst (HasCompiled start) (sym (append-nil is)) m;
  }

  module _ {i : ℕ} {s : Settings} {bits begun : ℕ} {of_query : List ℕ} {start now : Compiling A} (h : SoFar results cs i s bits begun of_query start now) where
    pub stands : (d : Code A) → CanCompile [] (map command_value cs) → i < length cs → IsDrawable s (command_value (get_or cs i d)) × CanNote begun (command_value (get_or cs i d))
    stands d can l =
        let c = command_value (get_or cs i d) in
        let k = stands_at cs i d can l in
        (subst (λ t. IsDrawable t c) (sym h.state) k.drawable, subst (λ n. CanNote n c) (sym h.opened.count) k.note)

    pub one_more : (d : Code A) (t : Settings) (bits' begun' : ℕ) (of_query' : List ℕ) (new : Compiling A) → CanCompile [] (map command_value cs) → i < length cs → length new.lists.bins ≡ length now.lists.bins → Adds bits (λ opened. performed_items results s opened (command_value (get_or cs i d))) now new → IsOpened bits' begun' of_query' (done cs i ++ command_value (get_or cs i d) ∷ []) → t ≡ settings_with (command_value (get_or cs i d)) s → SoFar results cs (i + 1) t bits' begun' of_query' start new
    one_more d t bits' begun' of_query' new can l b m o e =
        let c = command_value (get_or cs i d) in
        let xs = done cs i in
        let more = done_more cs i d l in
        record {
          state = e ∙ ap (settings_with c) h.state ∙ sym (settings_after-push xs c) ∙ ap settings_after (sym more);
          opened = subst (IsOpened bits' begun' of_query') (sym more) o;
          few = subst (λ n. n ≤ 64) (sym (o.count ∙ ap length (issues-push xs c))) (issues_few (issues xs) c (stands_at cs i d can l).note (subst (λ n. n ≤ 64) h.opened.count h.few));
          size = m.size ∙ h.size;
          bins = b ∙ h.bins;
          sound = m.sound;
          means = λ is k.
              subst (HasCompiled new)
              (append_assoc is (items (performed results xs)) (performed_items results s (open_after xs) c)
              ∙ ap (λ js. is ++ js)
              (ap (λ u. items (performed results xs) ++ performed_items results u (open_after xs) c) h.state
              ∙ sym (items_performed-push results xs c) ∙ ap (λ ys. items (performed results ys)) (sym more)))
              (m.means (is ++ items (performed results xs)) (open_after xs) h.opened.open_bits (h.means is k));
        }

    pub all_added : length cs ≡ i → AddsList results (map command_value cs) begun start now
    all_added all =
        let whole = take_all i cs (omega (arith, all)) in
        record {
          begun_are = h.opened.count ∙ ap (λ ds. length (issues (map command_value ds))) whole;
          few = h.few;
          size = h.size;
          sound = h.sound;
          means = λ is m. subst (λ ds. HasCompiled now (is ++ items (performed results (map command_value ds)))) whole (h.means is m);
        }
