-- A handle of a counter becomes a lent.
use Rattle.std.proofs.Common.{◌≡◌, false, List, [], ◌∷◌, ◌++◌, refl, sym, ap, ◌∙◌, subst}
use mir.Syntax.{impl, tnil, dnil}
use mir.Raw.{raw as bare}
use mir.Val.{Val, vptr}
use base.Logic.{SProp, ent, emp, id⊢, never, fst∗}
use base.Fml.{ftrue}
use prog.Wp.{WpFn}
use types.Logic.{sem}
use types.Kit.{‵, raw, ◌⊛◌, ◌$◌, ◌∵◌, !, qed, by, move, keep, drop, split, fsplit, fjoin, rewrite, suffices, use0, use1}
use types.Run.{stop, fld, of_opd, no_more, and_then, returns, enter}
use types.ByLocal.{alloc_all, pass_all, free_all, look_at, get, get_in, sets}
use types.Part.{agg, sub, whole}
use contract.Monad.{fact, fact_i}
use contract.Running.{tables}
use denote.Exit.{yes}
use denote.RattleType.{RattleType, owns}
use denote.Signature.{types_at, plain}
use denote.Memory.{lone}
use denote.RawPtr.{Ptr, block_ptr, null_ptr, in_a_block}
use denote.Steps.{nothing, heard, peeks}
use denote.Laws.{Is, shows}
use denote.Triple.Walked.{Stays, stay_dropped, walk_of, Goes-dropped}
use Rattle.std.specs.Prelude.{Option, Some, None, is_none}
use Rattle.recorders.specs.Recording.{Recording}
use Rattle.core.proofs.alloc.Calls.{handle_tells}
use Rattle.std.specs.Box.Ownership.{box_owns}
use Rattle.std.specs.contracts.alloc.Global as heap
use Rattle.std.proofs.alloc.Global.TheLaws as heap_laws
use Rattle.std.specs.contracts.impls.GlobalAllocator.TheImpl.{ghosts}
use Rattle.std.proofs.raw_atomic.Walks.{proved_at, leaves}
use Rattle.lent_box.proofs.Values.{both, LentRow, lent_good, lent_in}
use Rattle.handles.specs.Players.{owned, described}
use Rattle.handles.specs.contracts.playing.PlayerHandle as handle
use Rattle.handles.proofs.PlayerSteps.{word, word_good, told, Data}
use Rattle.handles.specs.contracts.playing.PlayerHandle.back.{ended, clauses}
use Rattle.handles.specs.contracts.playing.PlayerHandle.back.Key.{name as #self}
use Rattle.handles.proofs.playing.PlayerHandle.back.Statement.{statement}
use Rattle.handles.proofs.playing.PlayerHandle.back.Code as code

held : (m : Option (List Recording)) → is_none m ≡ false → (c : List Recording) × (m ≡ Some c)
held None h = cc
held (Some c) h = (c, refl)

pub back_spec : {M : Type 1} → statement M
back_spec 𝓤 𝓛 𝓜 𝓡 wired =
    let H = 𝓛.H in let 𝓣 = tables 𝓤 H 𝓜 𝓡 𝓡.env in let c = clauses 𝓛 𝓜.mem 𝓡.returns in let fn = code.function in
    let R : RattleType = described in let Z : RattleType = heap.the_row in let LZ = heap_laws.the_row_laws in let Ln : RattleType = LentRow R Z LZ ghosts in let Hd : RattleType = handle.the_row in
    let hs : Stays ended.signature.params ended.kept = (stay_dropped (plain (λ _. Hd)) yes, (stay_dropped (plain (λ _. Z)) yes, tt)) in
    proved_at 𝓛 ended hs c 𝓜 𝓡 (Goes-dropped 𝓛 0 (plain (λ _. Hd)) yes (λ κs x f. refl), (Goes-dropped 𝓛 0 (plain (λ _. Z)) yes (λ κs x f. refl), tt)) #self fn (code.unfolded 𝓤 H 𝓜 𝓡 wired) (λ z are.
    let d = z.0.3.0 in let a = z.0.3.1.0 in let Post : Val → SProp 𝓤 = (walk_of 𝓛 ended hs c).post z in let Run : List Val → SProp 𝓤 = λ ws. WpFn 𝓤 H 𝓣.C 𝓣.Λ fn ws Post in
    qed 𝓛 ((‵ ftrue ⊛ ‵ (owns (types_at ended.signature.params z.0.0) z.0.3 z.0.4)) ∷ raw (fact 𝓤 (is_none d.value ≡ false)) ∷ []) ∵
    move ! (1 ∷ []) $ heard ! (is_none d.value ≡ false) (λ there. let x = (held d.value there).0 in let is = (held d.value there).1 in
    split ! $ drop ! $ fsplit ! $ fsplit ! $
    -- [the handle's field; what it owns; the rest]
    peeks ! Data (Is Data) (shows 𝓛 Data) (d.at, tt) z.0.4.0 (λ has. move ! (1 ∷ []) $
    rewrite ! 0 (λ (m : Option (List Recording)). ‵ (owned d.at m)) is refl $ use1 𝓛 (‵ (box_owns (ghosts.dealloc_token a) R d.at x)) (id⊢ 𝓤 _) $
    in_a_block ! d.at (λ p. box_owns (ghosts.dealloc_token a) R p x) (fst∗ 𝓤 (never 𝓤) (sem 𝓛 (ghosts.dealloc_token a (bare (lone R.mir)) null_ptr))) (λ b o e.
    move ! (2 ∷ []) $ fsplit ! $ handle_tells (record { row = Z; laws = LZ; g = ghosts; d = impl [] tnil dnil; drops = impl [] tnil dnil }) ! a z.0.4.1.0 (λ h ea fits. keep ! (2 ∷ 0 ∷ []) $
    let p = block_ptr b o in let w : Val = both (vptr b o) h in let typed = lent_good R Z LZ ghosts b o h fits in
    let e₀ : z.0.4.0 ≡ word p ∷ [] = told d.at z.0.4.0 has ∙ ap (λ (q : Ptr). word q ∷ []) e in
    let new : Ln.Denot = record { at = p; alloc = a; value = x } in let Told : Type 0 = d.value ≡ Some new.value in
    suffices ! (Run (word p ∷ h ∷ [])) (subst (λ (us : List Val). ent 𝓤 (Run (word p ∷ h ∷ [])) (Run us)) (sym (λ i. e₀ i ++ (ea i ++ []))) (id⊢ 𝓤 (Run (word p ∷ h ∷ [])))) $
    enter ! 𝓣.C 𝓣.Λ fn (word p ∷ h ∷ []) Post $ alloc_all ! (λ l. pass_all ! refl (word_good p, (fits, tt)) $
    sets ! (of_opd ! (get_in ! (fld ! refl (stop !)) (sub ! 0 refl (whole !)))) refl (tt, tt) $ sets ! (of_opd ! (get ! refl)) refl (tt, tt) $
    sets ! (agg ! (and_then ! (get ! refl) (and_then ! (get ! refl) (no_more !)))) refl typed $
    lent_in R Z LZ ghosts ! b o h a x $
    use0 𝓛 (raw (fact 𝓤 Told)) (fact_i 𝓤 Told (emp 𝓤) is) $ nothing ! $ nothing ! $ fjoin ! $ nothing ! $ fjoin ! $ nothing ! $
    returns ! (look_at ! 0 refl) $ free_all ! refl $ keep ! (0 ∷ 1 ∷ 3 ∷ 2 ∷ []) $ by ! (leaves 𝓛 ended hs c z w new (tt, (tt, tt)) (tt, (tt, tt)))))))))
