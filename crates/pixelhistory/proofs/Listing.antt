-- A trace through a list, command by command.
use Rattle.std.proofs.Common.{◌≡◌, ◌∙◌, ap, sym, subst, arith, ℕ, ◌+◌, ◌<◌, ◌≤◌, Bool, true, false, cond, List, [], ◌∷◌, ◌++◌, length, map, get_or, length-append}
use Rattle.std.proofs.lemmas.List.{length-map, take_all}
use Rattle.gfxspec.specs.State.{Settings}
use Rattle.gfxspec.specs.Assembly.{draw_primitives, draw_indexed_primitives}
use Rattle.gfxspec.specs.Items.{Drawn}
use Rattle.gfxspec.specs.Commands.{Command, Draw, DrawIndexed, ClearColor, ClearDepthStencil}
use Rattle.gfxspec.specs.Recorded.{settings_after, open_after, items, items_at, triangle_count}
use Rattle.gfxspec.specs.Accepted.{AreAccepted}
use Rattle.gfxspec.specs.Predication.{performed, withholds}
use Rattle.meaning.specs.OneMore.{settings_with, triangles_of, performed_items}
use Rattle.meaning.proofs.Nearest.{settings_after-push}
use Rattle.meaning.proofs.Growing.{triangle_count-push}
use Rattle.meaning.proofs.Withheld.{items_performed-push}
use Rattle.command.specs.declared.command.Command.{Command as Code}
use Rattle.command.specs.Seen.{command_value}
use Rattle.binner.proofs.Accepted.{done, done_more, accepted_at, within_limits}
use Rattle.pixelhistory.specs.declared.trace.Trace.{Trace}
use Rattle.pixelhistory.specs.Tracing.{GoesPast}
use Rattle.pixelhistory.proofs.Taking.{past_none, past_both}

-- a command has an item for each of its triangles, or one
items_few : (s : Settings) (o : List ℕ) (c : Command) → length (items_at s o c) ≤ triangles_of s c + 1
items_few s o (Draw count start) = omega (arith, length-map (draw_primitives s count start) (λ p. Drawn p s o))
items_few s o (DrawIndexed count start base) = omega (arith, length-map (draw_indexed_primitives s count start base) (λ p. Drawn p s o))
items_few s o (ClearColor rgba) = omega arith
items_few s o (ClearDepthStencil depth stencil) = omega arith
items_few s o c = omega arith

pub performed_few : (results : ℕ → Bool) (s : Settings) (o : List ℕ) (c : Command) → length (performed_items results s o c) ≤ triangles_of s c + 1
performed_few results s o c = by (withholds results s.predicate)
  where
    by : (b : Bool) → length (cond b [] (items_at s o c)) ≤ triangles_of s c + 1
    by true = omega arith
    by false = items_few s o c

module _ {A : Type 0} (results : ℕ → Bool) (cs : List (Code A)) (x y : ℕ) where
  -- the first i commands were gone past, and this is the state behind them
  pub record SoFar (i : ℕ) (s : Settings) (start now : Trace A) : Type 0 where
    pub state : s ≡ settings_after (done cs i)
    pub past : GoesPast (items (performed results (done cs i))) x y start now
    pub few : now.items ≤ start.items + (triangle_count (done cs i) + length (done cs i))

  pub so_far : (s : Settings) (start : Trace A) → s ≡ settings_after [] → SoFar 0 s start start
  so_far s start e = record { state = e; past = past_none x y start; few = omega arith }

  pub room : (i : ℕ) (d : Code A) (s : Settings) (start now : Trace A) → AreAccepted (map command_value cs) → i < length cs → start.items < 4611686018427387904 → SoFar i s start now → now.items + triangles_of s (command_value (get_or cs i d)) + 1 < 9223372036854775808
  room i d s start now accepted l few h =
      let c = command_value (get_or cs i d) in
      let w = within_limits (done cs i) c (accepted_at cs i d accepted l) in
      subst (λ u. now.items + triangles_of u c + 1 < 9223372036854775808) (sym h.state) (small start.items now.items (triangle_count (done cs i)) (length (done cs i)) (triangles_of (settings_after (done cs i)) c) few h.few w.0 w.1)
    where
      small : (a b t n k : ℕ) → a < 4611686018427387904 → b ≤ a + (t + n) → n < 65536 → t + k ≤ 65536 → b + k + 1 < 9223372036854775808
      small a b t n k p q r v = omega arith

  pub one_more : (i : ℕ) (d : Code A) (s t : Settings) (start now new : Trace A) → i < length cs → SoFar i s start now → ((opened : List ℕ) → GoesPast (performed_items results s opened (command_value (get_or cs i d))) x y now new) → t ≡ settings_with (command_value (get_or cs i d)) s → SoFar (i + 1) t start new
  one_more i d s t start now new l h past e =
      let c = command_value (get_or cs i d) in
      let xs = done cs i in
      let more = done_more cs i d l in
      let own = past (open_after xs) in
      record {
        state = e ∙ ap (settings_with c) h.state ∙ sym (settings_after-push xs c) ∙ ap settings_after (sym more);
        past = subst (λ is. GoesPast is x y start new)
            (ap (λ u. items (performed results xs) ++ performed_items results u (open_after xs) c) h.state ∙ sym (items_performed-push results xs c) ∙ ap (λ ys. items (performed results ys)) (sym more))
            (past_both (items (performed results xs)) (performed_items results s (open_after xs) c) x y start now new h.past own);
        few = subst (λ ys. new.items ≤ start.items + (triangle_count ys + length ys)) (sym more)
            (grown start.items now.items new.items (length (performed_items results s (open_after xs) c)) (triangle_count xs) (length xs) (triangles_of s c) (triangle_count (xs ++ c ∷ [])) (length (xs ++ c ∷ [])) h.few own.items (performed_few results s (open_after xs) c) (triangle_count-push xs c ∙ ap (λ u. triangle_count xs + triangles_of u c) (sym h.state)) (length-append xs (c ∷ [])));
      }
    where
      grown : (a b c l t n k t' n' : ℕ) → b ≤ a + (t + n) → c ≡ b + l → l ≤ k + 1 → t' ≡ t + k → n' ≡ n + 1 → c ≤ a + (t' + n')
      grown a b c l t n k t' n' p q r v w = omega arith

  pub all_taken : (i : ℕ) (s : Settings) (start now : Trace A) → length cs ≡ i → SoFar i s start now → GoesPast (items (performed results (map command_value cs))) x y start now
  all_taken i s start now all h =
      subst (λ ds. GoesPast (items (performed results (map command_value ds))) x y start now) (take_all i cs (omega (arith, all))) h.past
