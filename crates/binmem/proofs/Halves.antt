-- The two parts of a box: each is made of what it owns, and the right shows its allocator's bits again.
use Rattle.std.proofs.Common.{◌≡◌, ℕ, List, [], ◌∷◌, ◌++◌, refl, ap, ◌∙◌}
use seplogic.Ra.Ura.{Ura}
use base.Fraction.{full_share}
use base.Logic.{SProp, ent, sep, ex, guard}
use base.Fml.{Fml, fsep, feq}
use mir.Raw.{raw as bare}
use mir.Val.{Val, vptr, vstruct, vcons, vnil, of_list}
use types.Logic.{Logic, sem}
use types.Kit.{‵, ◌$◌, ◌∵◌, !, qed, done, move, drop, use1, use2, join, fsplit, fjoin, fpick, fpack, feq_i, feq_l, rewrite, show, check}
use denote.Builtin.{RawPtr}
use denote.Memory.{lone}
use denote.RattleType.{RattleType, Valss, owns}
use denote.RawPtr.{Ptr, block_ptr, ptr_val, lies_at}
use denote.Steps.{nothing}
use denote.Struct.Owning.{shape}
use denote.Struct.Struct.{within}
use denote.Struct.Tuple.{Tuple}
use Rattle.std.proofs.alloc.Calls.{Fits, handle_tells}
use Rattle.std.proofs.BoxSteps.Form as box
use Rattle.binmem.specs.contracts.parts.Contents as contents
use Rattle.binmem.specs.contracts.parts.Release as release

module _ (E : box.Bx) where
  abbrev pub Inside : RattleType
  Inside = contents.the_row (box.R E)

  abbrev pub Right : RattleType
  Right = release.the_row (box.R E) (box.P E) E.al.g

  -- the contents as the machine stores them: their pointer
  abbrev pub inside_bits : ℕ → ℕ → Val
  inside_bits b o = vstruct (vcons (vptr b o) vnil)

  abbrev pub both_bits : ℕ → ℕ → Val → Val
  both_bits b o handle = vstruct (vcons (inside_bits b o) (vcons (box.word E handle b o) vnil))

  abbrev pub inside : ℕ → ℕ → (box.R E).Denot → Inside.Denot
  inside b o x = record { at = block_ptr b o; value = x }

  abbrev pub right : ℕ → ℕ → (box.P E).Denot → Right.Denot
  right b o a = record { at = block_ptr b o; alloc = a }

  -- the allocator's leave to free the block
  abbrev pub leave : ℕ → ℕ → (box.P E).Denot → Fml
  leave b o a = E.al.g.dealloc_token a (bare (lone (box.R E).mir)) (block_ptr b o)

  module _ {M : Type 1} {𝓤 : Ura M} (𝓛 : Logic 𝓤) (b o : ℕ) where
    pub inside_made : (x : (box.R E).Denot) → ent 𝓤 (sem 𝓛 (lies_at (box.R E) full_share (block_ptr b o) x)) (sem 𝓛 (Inside.own_val (inside b o x) (inside_bits b o ∷ [])))
    inside_made x =
        let bits = inside_bits b o in
        qed 𝓛 (‵ (lies_at (box.R E) full_share (block_ptr b o) x) ∷ []) ∵
        nothing ! $ feq_i ! (List Val) (vptr b o ∷ []) (vptr b o ∷ []) refl $ fjoin ! $
        feq_i ! (List Val) (bits ∷ []) (bits ∷ []) refl $ fjoin ! $
        fpack ! (Valss (RawPtr ∷ [])) (within (shape (contents.the_type (box.R E))) (block_ptr b o, tt) (bits ∷ [])) (vptr b o ∷ [], tt) $
        fjoin ! $ done !

    pub right_made : (a : (box.P E).Denot) (handle : Val) → ent 𝓤 (sep 𝓤 (sem 𝓛 ((box.P E).own_val a (handle ∷ []))) (sem 𝓛 (leave b o a))) (sem 𝓛 (Right.own_val (right b o a) (box.word E handle b o ∷ [])))
    right_made a handle =
        let bits = box.word E handle b o in
        qed 𝓛 (‵ ((box.P E).own_val a (handle ∷ [])) ∷ ‵ (leave b o a) ∷ []) ∵
        nothing ! $ move ! (1 ∷ 0 ∷ []) $ fjoin ! $
        feq_i ! (List Val) (vptr b o ∷ []) (vptr b o ∷ []) refl $ fjoin ! $
        feq_i ! (List Val) (bits ∷ []) (bits ∷ []) refl $ fjoin ! $
        fpack ! (Valss (RawPtr ∷ box.P E ∷ [])) (within (shape (release.the_type (box.R E) (box.P E) E.al.g)) (block_ptr b o, (a, tt)) (bits ∷ [])) (vptr b o ∷ [], (handle ∷ [], tt)) $
        fjoin ! $ done !

    pub parts_made : (x : (box.R E).Denot) (a : (box.P E).Denot) (handle : Val)
        → ent 𝓤 (sep 𝓤 (sem 𝓛 ((box.P E).own_val a (handle ∷ []))) (sep 𝓤 (sem 𝓛 (leave b o a)) (sem 𝓛 (lies_at (box.R E) full_share (block_ptr b o) x))))
        (sem 𝓛 ((Tuple (Inside ∷ Right ∷ [])).own_val (inside b o x, right b o a) (both_bits b o handle ∷ [])))
    parts_made x a handle =
        let one : Val = inside_bits b o in let two : Val = box.word E handle b o in let both : Val = both_bits b o handle in
        qed 𝓛 (‵ ((box.P E).own_val a (handle ∷ [])) ∷ ‵ (leave b o a) ∷ ‵ (lies_at (box.R E) full_share (block_ptr b o) x) ∷ []) ∵
        use2 𝓛 (‵ (Right.own_val (right b o a) (two ∷ []))) (right_made a handle) $ nothing ! $ move ! (1 ∷ 0 ∷ []) $ fjoin ! $
        move ! (1 ∷ []) $ use1 𝓛 (‵ (Inside.own_val (inside b o x) (one ∷ []))) (inside_made x) $ fjoin ! $
        feq_i ! (List Val) (both ∷ []) (both ∷ []) refl $ fjoin ! $
        fpack ! (Valss (Inside ∷ Right ∷ [])) (λ vss. fsep (feq (List Val) (both ∷ []) (vstruct (of_list (vss.0 ++ (vss.1.0 ++ []))) ∷ [])) (owns (Inside ∷ Right ∷ []) (inside b o x, (right b o a, tt)) vss)) (one ∷ [], (two ∷ [], tt)) $
        done !

    -- a pointer and an allocator, side by side, as a box has them
    abbrev pub Beside : List Val → Val → Type 0
    Beside bits handle = (bits ≡ box.word E handle b o ∷ []) × Fits E.al handle

    abbrev Handle : List Val → (box.P E).Denot → Val → SProp 𝓤
    Handle bits a h = guard 𝓤 (Beside bits h) (sem 𝓛 ((box.P E).own_val a (h ∷ [])))

    abbrev HandleAndLeave : List Val → (box.P E).Denot → Val → SProp 𝓤
    HandleAndLeave bits a h = guard 𝓤 (Beside bits h) (sep 𝓤 (sem 𝓛 ((box.P E).own_val a (h ∷ []))) (sem 𝓛 (leave b o a)))

    pub pair_shows : (r : Ptr × (box.P E).Denot) (bits : List Val) → r.0 ≡ block_ptr b o
        → ent 𝓤 (sem 𝓛 ((Tuple (RawPtr ∷ box.P E ∷ [])).own_val r bits)) (ex 𝓤 (Handle bits r.1))
    pair_shows r bits at =
        qed 𝓛 (‵ ((Tuple (RawPtr ∷ box.P E ∷ [])).own_val r bits) ∷ []) ∵
        fpick ! (λ vss. fsplit ! $ feq_l ! (λ whole. fsplit ! $ feq_l ! (λ first. fsplit ! $ handle_tells E.al ! r.1 vss.1.0 (λ h second fits.
        let placed : vss.0 ≡ vptr b o ∷ [] = first ∙ ap (λ (p : Ptr). ptr_val p ∷ []) at in
        move ! (1 ∷ []) $ drop ! $ show ! (Handle bits r.1) h $
        check ! (whole ∙ (λ j. vstruct (of_list (placed j ++ (second j ++ []))) ∷ []), fits) $ done !))))

    pub right_shows : (v : Right.Denot) (bits : List Val) → v.at ≡ block_ptr b o
        → ent 𝓤 (sem 𝓛 (Right.own_val v bits)) (ex 𝓤 (HandleAndLeave bits v.alloc))
    right_shows v bits at =
        qed 𝓛 (‵ (Right.own_val v bits) ∷ []) ∵
        fsplit ! $ fpick ! (λ vss. fsplit ! $ feq_l ! (λ whole. fsplit ! $ feq_l ! (λ first. fsplit ! $ handle_tells E.al ! v.alloc vss.1.0 (λ h second fits.
        let placed : vss.0 ≡ vptr b o ∷ [] = first ∙ ap (λ (p : Ptr). ptr_val p ∷ []) at in
        move ! (1 ∷ []) $ drop ! $ rewrite ! 1 (λ (p : Ptr). ‵ (E.al.g.dealloc_token v.alloc (bare (lone (box.R E).mir)) p)) at refl $
        show ! (HandleAndLeave bits v.alloc) h $ check ! (whole ∙ (λ j. vstruct (of_list (placed j ++ (second j ++ []))) ∷ []), fits) $ join ! $ done !))))
