-- The triangle that stands last among words, and clears behind it.
use Rattle.std.proofs.Common.{◌≡◌, ◌∙◌, ap, sym, refl, arith, ℕ, suc, ◌+◌, ◌<◌, ◌≤◌, List, [], ◌∷◌, ◌++◌, length, take, drop, get_or, slice_get, append_assoc, Option, Some, ◌-◌, false}
use Rattle.std.proofs.lemmas.List.{drop_more, take-append-drop}
use Rattle.std.proofs.lemmas.List.Elements.{filter_map-append}
use Rattle.tileword.specs.declared.edge_mask.EdgeMask.{EdgeMask}
use Rattle.tileword.specs.declared.word.Word.{Word}
use Rattle.tileword.specs.declared.word.Word.TheVariants.{Tri}
use Rattle.tileword.specs.Word.{encoded, decoded}
use Rattle.binmem.specs.Lists.{IsTail}
use Rattle.binner.specs.Program.{program}
use Rattle.binner.specs.Lists.{TileList, drawn_after, drawn_behind, IsDrawnSince, CanCut}
use Rattle.binner.specs.Cuts.{AreBothClears}
use Rattle.binner.proofs.Runs.{drawn_behind-append}

-- words that leave the last triangle as it is
abbrev pub Keeps : List ℕ → Type 0
Keeps numbers = (p : Option ℕ) → drawn_behind p (program numbers) ≡ p

program-cons : (n : ℕ) (ns : List ℕ) (w : Word) → decoded n ≡ Some w → program (n ∷ ns) ≡ w ∷ program ns
program-cons n ns w h = rw h refl

module _ (tail : List ℕ) (i : ℕ) (d : ℕ) (inside : i < length tail) (rest : Keeps (drop (i + 1) tail)) where
  at_place : (w : Word) → decoded (get_or tail i d) ≡ Some w → program (drop i tail) ≡ w ∷ program (drop (i + 1) tail)
  at_place w h = ap program (drop_more tail i d inside) ∙ program-cons (get_or tail i d) (drop (i + 1) tail) w h

  pub kept_on : (w : Word) → decoded (get_or tail i d) ≡ Some w → ((p : Option ℕ) → drawn_after p w ≡ p) → Keeps (drop i tail)
  kept_on w h k p = ap (drawn_behind p) (at_place w h) ∙ rest (drawn_after p w) ∙ k p

  pub found : (first n : ℕ) (m : EdgeMask) → decoded (get_or tail i d) ≡ Some (Tri n m) → first ≤ n → IsDrawnSince first tail
  found first n m h l = record {
    n = n;
    last = λ p.
        ap (λ ns. drawn_behind p (program ns)) (sym (take-append-drop i tail))
        ∙ ap (drawn_behind p) (filter_map-append decoded (take i tail) (drop i tail))
        ∙ drawn_behind-append p (program (take i tail)) (program (drop i tail))
        ∙ ap (drawn_behind (drawn_behind p (program (take i tail)))) (at_place (Tri n m) h)
        ∙ rest (Some n);
    since = l;
  }

-- what the last words tell, all words tell
pub drawn_of_tail : (first : ℕ) (words tail : List ℕ) → IsTail words tail → IsDrawnSince first tail → IsDrawnSince first words
drawn_of_tail first words tail h d = record {
  n = d.n;
  last = λ p.
      ap (λ ns. drawn_behind p (program ns)) h.joined
      ∙ ap (drawn_behind p) (filter_map-append decoded h.front tail)
      ∙ drawn_behind-append p (program h.front) (program tail)
      ∙ d.last (drawn_behind p (program h.front));
  since = d.since;
}

-- a list's last word
pub last_one : (ns : List ℕ) (x : ℕ) → Some x ≡ slice_get ns (length ns - 1) → (front : List ℕ) × (ns ≡ front ++ x ∷ [])
last_one [] x h = absurd cc
last_one (n ∷ []) x h = ([], ap (λ y. y ∷ []) (same n x h))
  where
    same : (n x : ℕ) → Some x ≡ Some n → n ≡ x
    same n x h = cc
last_one (n ∷ m ∷ ns) x h = let more = last_one (m ∷ ns) x (h ∙ shorter) in (n ∷ more.0, ap (λ ys. n ∷ ys) more.1)
  where
    last : length (n ∷ m ∷ ns) - 1 ≡ suc (length (m ∷ ns) - 1)
    last = omega arith

    shorter : slice_get (n ∷ m ∷ ns) (length (n ∷ m ∷ ns) - 1) ≡ slice_get (m ∷ ns) (length (m ∷ ns) - 1)
    shorter = ap (slice_get (n ∷ m ∷ ns)) last

pub can_cut : (number : ℕ) (first w : Word) (tail : List ℕ) (o : TileList) → IsTail o.numbers tail → Some number ≡ slice_get tail (length tail - 1) → decoded number ≡ Some first → encoded first ≡ number → AreBothClears (first ∷ w ∷ []) → o.counted ≡ false → CanCut number w o
can_cut number first w tail o t h d e both free =
    let l = last_one tail number h in
    record {
      front = t.front ++ l.0;
      first = first;
      is = sym e;
      ends = t.joined ∙ ap (λ ns. t.front ++ ns) l.1 ∙ sym (append_assoc t.front l.0 (number ∷ []));
      decodes = ap decoded e ∙ d;
      both = both;
      uncounted = free;
    }
