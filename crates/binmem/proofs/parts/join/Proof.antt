-- `join` makes a box of the value and the right to free its block.
use Rattle.std.proofs.Common.{◌≡◌, List, [], ◌∷◌, ◌++◌, T, sym, refl, ap, subst, ◌∙◌}
use Rattle.std.proofs.raw_atomic.Walks.{proved_at}
use base.Fraction.{full_share}
use base.Logic.{SProp, id⊢}
use base.Fml.{ftrue, flft}
use mir.Syntax.{a_type, dcons, dnil}
use mir.MapTy.{inst_fn}
use mir.Val.{Val, vptr, has_ty, WT}
use prog.Wp.{WpFn}
use contract.BorrowLft.{◌⊑◌}
use contract.Monad.{fact}
use contract.Running.{tables}
use types.Kit.{‵, raw, ◌⊛◌, some, given, later, prop, at_ret, ◌$◌, ◌∵◌, !, qed, done, move, drop, use1, split, split3, join, fsplit, fjoin, feq_i, await, pick, learn, regoal, suffices}
use types.Run.{enter, of_opd, stop, fld, no_more, and_then, first, blocks, exec, returns}
use types.ByLocal.{alloc_all, pass_all, free_all, look_at, get, get_in, is, sets, lands_last, env}
use types.Part.{whole, sub}
use denote.Exit.{no}
use denote.RattleType.{RattleType, owns}
use denote.Param.{bounded}
use denote.Param.Laws.{param_laws}
use denote.RawPtr.{Ptr, block_ptr, lies_at, in_a_block}
use denote.Signature.{plain, types_at}
use denote.Steps.{nothing, heard, only}
use denote.Triple.Call.{calls_at_last}
use denote.Triple.Clauses.{Lasts, lasts}
use denote.Triple.Spec.{triple_of}
use denote.Triple.Table.{framed}
use denote.Triple.Walked.{Stays, walk_of, says, stay_dropped, Goes-dropped, ends_at}
use Rattle.std.proofs.alloc.Calls.{Al, Goes-blank}
use Rattle.std.proofs.BoxSteps.Form as box
use Rattle.std.proofs.BoxSteps.Steps.{box_out, box_in}
use Rattle.std.proofs.VecSteps.Shapes.{after}
use Rattle.std.specs.contracts.boxed.Box.from_raw as callee
use Rattle.std.proofs.boxed.Box.from_raw.Met.{met as callee_met}
use Rattle.binmem.proofs.Halves.{Inside, Right, Beside, inside_bits, leave, right_shows}
use Rattle.binmem.specs.contracts.parts.join as f
use Rattle.binmem.proofs.parts.Contents.TheLaws.{lowers}
use Rattle.binmem.proofs.parts.join.Statement.{statement}
use Rattle.binmem.proofs.parts.join.Code as code

pub join_spec : {M : Type 1} → statement M
join_spec 𝓤 𝓛 𝓜 𝓡 wired V A VL AL ghosts calls adrop kept akept =
    let 𝓣 = tables 𝓤 𝓛.H 𝓜 𝓡 𝓡.env in
    let heap : Al = record { row = A; laws = AL; g = ghosts; d = calls; drops = adrop } in
    let E : box.Bx = record { row = V; laws = VL; al = heap } in
    let Inner : RattleType = box.R E in let Handle : RattleType = box.P E in let Boxed : RattleType = box.B E in
    let Held : RattleType = Inside E in let Leave : RattleType = Right E in
    let given_value = plain (λ _. Held) in let given_right = plain (λ _. Leave) in
    -- this function
    let ended = f.ended V A ghosts calls adrop in
    let stays : Stays ended.signature.params ended.kept = (stay_dropped given_value no, (stay_dropped given_right no, tt)) in
    let clauses = f.clauses V A ghosts calls adrop 𝓛 𝓜.mem 𝓡.returns in
    let key = bounded (a_type ∷ a_type ∷ []) (V, (A, tt)) (dcons calls (dcons adrop dnil)) in
    let body = inst_fn key code.function in
    -- the call that it makes
    let left = callee.ended V A ghosts calls adrop in
    let call = triple_of 𝓛 (callee.signature V A ghosts calls adrop) (callee.spec V A ghosts calls adrop 𝓛 𝓜.mem 𝓡.returns) in
    let meets = callee_met 𝓤 𝓛 𝓜 𝓡 (code.calls-std_alloc::boxed::Box::from_raw 𝓡.env wired) V A VL AL ghosts calls adrop kept akept in
    proved_at 𝓛 ended stays clauses 𝓜 𝓡 (Goes-dropped 𝓛 2 given_value no (λ ages x w. refl), (Goes-blank 𝓛 2 given_right no (λ ages x w. tt), tt)) (f.Key.name key) body
    (code.unfolded 𝓤 𝓛.H 𝓜 𝓡 wired (V, (A, tt)) calls adrop) (λ begun are.
    let ages = begun.0.0 in let shares = begun.0.1 in
    let h : Held.Denot = begun.0.3.0 in let v : Leave.Denot = begun.0.3.1.0 in
    let Post = (walk_of 𝓛 ended stays clauses).post begun in
    let Run : List Val → SProp 𝓤 = λ ws. WpFn 𝓤 𝓛.H 𝓣.C 𝓣.Λ body ws Post in
    let alive = ‵ (flft ages.0 shares.0) ⊛ ‵ (flft ages.1.0 shares.1.0) ⊛ ‵ ftrue in
    let inV = ages.0 ⊑ V.lives in let inA = ages.1.0 ⊑ A.lives in let Asked : Type 0 = h.at ≡ v.at in
    let low = lowers Inner (param_laws 0 V VL) in
    qed 𝓛 ((alive ⊛ ‵ (owns (types_at ended.signature.params ages) begun.0.3 begun.0.4)) ∷ raw ((clauses ages begun.0.3).requires begun.1) ∷ []) ∵
    split ! $ move ! (2 ∷ []) $ use1 𝓛 (raw (fact 𝓤 inV) ⊛ raw (fact 𝓤 inA) ⊛ raw (fact 𝓤 Asked)) (id⊢ 𝓤 _) $ split3 ! $ move ! (2 ∷ []) $ heard ! Asked (λ asked.
    move ! (3 ∷ []) $ fsplit ! $ move ! (1 ∷ []) $ fsplit ! $ move ! (1 ∷ []) $ drop ! $
    -- [the right; the contents; two facts; the tokens]
    move ! (1 ∷ []) $ fsplit ! $ drop ! $ in_a_block ! h.at (λ p. lies_at Inner full_share p h.value) (id⊢ 𝓤 _) (λ b o e.
    let x = h.value in let word : Val = inside_bits E b o in
    let eh' : begun.0.4.0 ≡ word ∷ [] = low.val_is h begun.0.4.0 are.0 ∙ ap (λ (p : Ptr). low.lowered (record h { at = p }) ∷ []) e in
    move ! (1 ∷ []) $ use1 𝓛 (some (λ (a : Val). given (Beside E 𝓛 b o begun.0.4.1.0 a) (‵ (Handle.own_val v.alloc (a ∷ [])) ⊛ ‵ (leave E b o v.alloc)))) (right_shows E 𝓛 b o v begun.0.4.1.0 (sym asked ∙ e)) $
    pick ! (λ hv. learn ! (λ told. split ! $ let pair : Val = box.word E hv b o in let fits = told.1 in let ev' = told.0 in
    -- [the handle; the leave to free; the value; two facts; the tokens]
    move ! (2 ∷ 1 ∷ []) $ fjoin ! $ move ! (3 ∷ 0 ∷ []) $ join ! $ move ! (2 ∷ 0 ∷ []) $ join ! $
    nothing ! $ feq_i ! (List Val) (vptr b o ∷ []) (vptr b o ∷ []) refl $ fjoin ! $ move ! (2 ∷ 0 ∷ []) $ fjoin ! $ move ! (2 ∷ 0 ∷ []) $ join ! $ join ! $
    let asks : call.Ghost = ((ages, shares, tt, (v.alloc, (block_ptr b o, tt)), (hv ∷ [], (vptr b o ∷ [], tt))), x) in
    use1 𝓛 (raw (call.pre asks)) (id⊢ 𝓤 _) $
    regoal ! (λ (ws : List Val). prop (Run ws)) (λ j. eh' j ++ (ev' j ++ [])) refl $
    enter ! _ _ _ _ _ $ alloc_all ! (λ l. pass_all ! refl ((tt, (tt, tt)), (box.box_typed E hv b o fits, tt)) $
    sets ! (of_opd ! (get_in ! (fld ! refl (stop !)) (sub ! 0 refl (whole !)))) refl (tt, tt) $
    sets ! (of_opd ! (get_in ! (fld ! refl (stop !)) (sub ! 1 refl (whole !)))) refl fits $
    first ! $ blocks ! $ sets ! (of_opd ! (get ! refl)) refl fits $
    calls_at_last ! (framed 𝓤 𝓛.H 𝓜 𝓣) call meets asks (and_then ! (get ! refl) (and_then ! (get ! refl) (no_more !))) (λ u.
    use1 𝓛 (later (some (λ (r : Boxed.Denot). (alive ⊛ ‵ (Boxed.own_val r (u ∷ []))) ⊛ some (λ (ws : Lasts left ages asks.0.3). ‵ (lasts left ages asks.0.3 ws) ⊛ (raw (fact 𝓤 (r.value ≡ x)) ⊛ raw (fact 𝓤 (r.alloc ≡ v.alloc))))))) (id⊢ 𝓤 _) $
    await ! tt $ pick ! (λ r. split ! $ move ! (1 ∷ []) $ pick ! (λ _. split3 ! $ drop ! $ heard ! _ (λ same. drop ! $ split ! $ move ! (1 ∷ []) $
    box_out E ! r (u ∷ []) (λ b' o' hw e' eu fits'. box_in E ! r b' o' r.value e' refl $
    let made : Val = box.word E hw b' o' in let typed = box.box_typed E hw b' o' fits' in
    let good = subst (λ (w : Val). T (has_ty (box.box_ty E) w) × WT w) (sym (ap only eu)) typed in
    lands_last ! refl good $ exec ! 𝓣.C 𝓣.Λ (env body.locals l) (after 3 body.body) (at_ret _ Post) $
    sets ! (is ! (of_opd ! (get ! refl)) (ap only eu)) refl typed $
    returns ! (look_at ! 0 refl) $ free_all ! refl $ move ! (1 ∷ []) $
    suffices ! _ (ends_at 𝓛 ended stays clauses begun made r (tt, ((tt, (tt, tt)), tt)) (tt, (tt, tt))) $ says ! same $
    -- [the tokens; nothing of the two; the box]
    nothing ! $ nothing ! $ fjoin ! $ nothing ! $ fjoin ! $ move ! (1 ∷ 0 ∷ []) $ done !)))))))))))
