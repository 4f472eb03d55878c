-- `split` takes a box apart: what lies at its pointer goes to one part, what frees it to the other.
use Rattle.std.proofs.Common.{◌≡◌, List, [], ◌∷◌, ◌++◌, ◌&&◌, true, refl, ap}
use Rattle.std.proofs.raw_atomic.Walks.{proved_at}
use base.Logic.{SProp, id⊢, fst∗, never}
use base.Fml.{ftrue, flft}
use mir.Syntax.{a_type, dcons, dnil}
use mir.MapTy.{inst_fn}
use mir.Raw.{raw as bare}
use mir.Val.{Val, has_ty}
use prog.Wp.{WpFn}
use contract.Monad.{fact}
use contract.Running.{tables}
use types.Kit.{‵, raw, ◌⊛◌, some, given, later, prop, ◌$◌, ◌∵◌, !, qed, done, move, drop, use1, use3, split, split3, join, fsplit, fjoin, await, pick, learn, regoal, rewrite, suffices}
use types.Run.{enter, of_opd, stop, fld, no_more, and_then, returns}
use types.ByLocal.{alloc_all, pass_all, free_all, look_at, get, get_in, sets, lands_as}
use types.Part.{whole, sub, agg}
use denote.Exit.{no}
use denote.RattleType.{RattleType, owns}
use denote.Memory.{lone}
use denote.Param.{layout, bounded}
use denote.RawPtr.{Ptr, null_ptr, in_a_block}
use denote.Builtin.{RawPtr}
use denote.Struct.Tuple.{Tuple}
use types.Logic.{sem}
use Rattle.std.proofs.ResultValues.{and_tt}
use denote.Signature.{plain, types_at}
use denote.Steps.{nothing, heard, only}
use denote.Triple.Call.{calls_at}
use denote.Triple.Clauses.{Lasts, lasts}
use denote.Triple.Spec.{triple_of}
use denote.Triple.Table.{framed}
use denote.Triple.Walked.{Stays, walk_of, says, stay_dropped, ends_at}
use Rattle.std.specs.Box.Ownership.{box_owns}
use Rattle.std.proofs.alloc.Calls.{Al, Goes-blank}
use Rattle.std.proofs.BoxSteps.Form as box
use Rattle.std.proofs.BoxSteps.Steps.{box_out, box_in}
use Rattle.std.specs.contracts.boxed.Box.into_raw_with_allocator as callee
use Rattle.std.proofs.boxed.Box.into_raw_with_allocator.Met.{met as callee_met}
use Rattle.binmem.proofs.Halves.{Inside, Right, Beside, pair_shows, inside, right, both_bits, parts_made}
use Rattle.binmem.specs.contracts.parts.split as f
use Rattle.binmem.proofs.parts.split.Statement.{statement}
use Rattle.binmem.proofs.parts.split.Code as code

pub split_spec : {M : Type 1} → statement M
split_spec 𝓤 𝓛 𝓜 𝓡 wired V A VL AL ghosts calls vdrop adrop kept vkept akept =
    let 𝓣 = tables 𝓤 𝓛.H 𝓜 𝓡 𝓡.env in
    let heap : Al = record { row = A; laws = AL; g = ghosts; d = calls; drops = adrop } in
    let E : box.Bx = record { row = V; laws = VL; al = heap } in
    let Inner : RattleType = box.R E in let Handle : RattleType = box.P E in
    let Value : RattleType = Inside E in let Leave : RattleType = Right E in
    let given_box = plain (λ _. box.B E) in
    -- this function
    let ended = f.ended V A ghosts calls vdrop adrop in
    let stays : Stays ended.signature.params ended.kept = (stay_dropped given_box no, tt) in
    let clauses = f.clauses V A ghosts calls vdrop adrop 𝓛 𝓜.mem 𝓡.returns in
    let key = bounded (a_type ∷ a_type ∷ []) (V, (A, tt)) (dcons calls (dcons vdrop (dcons adrop dnil))) in
    let body = inst_fn key code.function in
    -- the call that it makes
    let left = callee.ended V A ghosts calls adrop vdrop in
    let call = triple_of 𝓛 (callee.signature V A ghosts calls adrop vdrop) (callee.spec V A ghosts calls adrop vdrop 𝓛 𝓜.mem 𝓡.returns) in
    let meets = callee_met 𝓤 𝓛 𝓜 𝓡 (code.calls-std_alloc::boxed::Box::into_raw_with_allocator 𝓡.env wired) V A VL AL ghosts calls adrop vdrop kept akept vkept in
    proved_at 𝓛 ended stays clauses 𝓜 𝓡 (Goes-blank 𝓛 2 given_box no (λ ages x w. tt), tt) (f.Key.name key) body
    (code.unfolded 𝓤 𝓛.H 𝓜 𝓡 wired (V, (A, tt)) calls vdrop adrop) (λ begun are.
    let ages = begun.0.0 in let shares = begun.0.1 in
    let v : (box.B E).Denot = begun.0.3.0 in let x = v.value in
    let Post = (walk_of 𝓛 ended stays clauses).post begun in
    let Run : List Val → SProp 𝓤 = λ ws. WpFn 𝓤 𝓛.H 𝓣.C 𝓣.Λ body ws Post in
    let alive = ‵ (flft ages.0 shares.0) ⊛ ‵ (flft ages.1.0 shares.1.0) ⊛ ‵ ftrue in
    let Both = Tuple (RawPtr ∷ Handle ∷ []) in
    qed 𝓛 ((alive ⊛ ‵ (owns (types_at ended.signature.params ages) begun.0.3 begun.0.4)) ∷ raw ((clauses ages begun.0.3).requires begun.1) ∷ []) ∵
    split ! $ move ! (1 ∷ []) $ fsplit ! $ box_out E ! v begun.0.4.0 (λ b o hv e eu fits. box_in E ! v b o x e refl $
    let whole_word = box.word E hv b o in let typed = box.box_typed E hv b o fits in
    fjoin ! $ move ! (1 ∷ 0 ∷ []) $ join ! $ join ! $
    let asks : call.Ghost = ((ages, shares, tt, (v, tt), (whole_word ∷ [], tt)), tt) in
    use1 𝓛 (raw (call.pre asks)) (id⊢ 𝓤 _) $
    regoal ! (λ (ws : List Val). prop (Run ws)) (λ j. eu j ++ []) refl $
    enter ! _ _ _ _ _ $ alloc_all ! (λ l. pass_all ! refl (typed, tt) $ sets ! (of_opd ! (get ! refl)) refl typed $
    calls_at ! (framed 𝓤 𝓛.H 𝓜 𝓣) call meets asks (and_then ! (get ! refl) (no_more !)) (λ u.
    use1 𝓛 (later (some (λ (r : Ptr × A.Denot). (alive ⊛ ‵ (Both.own_val r (u ∷ []))) ⊛ some (λ (ws : Lasts left ages asks.0.3). ‵ (lasts left ages asks.0.3 ws) ⊛ (raw (fact 𝓤 (r.1 ≡ v.alloc)) ⊛ ‵ (box_owns (ghosts.dealloc_token v.alloc) Inner r.0 x)))))) (id⊢ 𝓤 _) $
    await ! tt $ pick ! (λ r. split ! $ move ! (1 ∷ []) $ pick ! (λ _. split3 ! $ drop ! $ heard ! _ (λ same.
    in_a_block ! r.0 (λ p. box_owns (ghosts.dealloc_token v.alloc) Inner p x) (fst∗ 𝓤 (never 𝓤) (sem 𝓛 (ghosts.dealloc_token v.alloc (bare (lone Inner.mir)) null_ptr))) (λ b' o' ep.
    fsplit ! $ move ! (2 ∷ []) $ split ! $ move ! (1 ∷ []) $
    use1 𝓛 (some (λ (h : Val). given (Beside E 𝓛 b' o' (u ∷ []) h) (‵ (Handle.own_val r.1 (h ∷ []))))) (pair_shows E 𝓛 b' o' r (u ∷ []) ep) $ pick ! (λ hw. learn ! (λ told.
    rewrite ! 0 (λ (s : A.Denot). ‵ (Handle.own_val s (hw ∷ []))) same refl $ let fits' = told.1 in
    let second = box.box_typed E hw b' o' fits' in
    let out : Val = both_bits E b' o' hw in let parts : Value.Denot × Leave.Denot = (inside E b' o' x, right E b' o' v.alloc) in
    lands_as ! (ap only told.0) refl second $
    sets ! (of_opd ! (get_in ! (fld ! refl (stop !)) (sub ! 0 refl (whole !)))) refl (tt, tt) $
    sets ! (of_opd ! (get_in ! (fld ! refl (stop !)) (sub ! 1 refl (whole !)))) refl fits' $
    sets ! (agg ! (and_then ! (get ! refl) (no_more !))) refl (tt, (tt, tt)) $
    sets ! (of_opd ! (get ! refl)) refl fits' $
    sets ! (agg ! (and_then ! (get ! refl) (and_then ! (get ! refl) (no_more !)))) refl second $
    sets ! (agg ! (and_then ! (get ! refl) (and_then ! (get ! refl) (no_more !)))) refl (and_tt (has_ty (layout A) hw && true) second.0, ((tt, tt), (second.1, tt))) $
    returns ! (look_at ! 0 refl) $ free_all ! refl $
    -- [the handle; the tokens; the value; the leave to free]
    move ! (0 ∷ 3 ∷ 2 ∷ []) $ use3 𝓛 (‵ ((Tuple (Value ∷ Leave ∷ [])).own_val parts (out ∷ []))) (parts_made E 𝓛 b' o' x v.alloc hw) $
    suffices ! _ (ends_at 𝓛 ended stays clauses begun out parts ((tt, (tt, tt)), tt) (tt, tt)) $ says ! (refl, refl) $
    nothing ! $ nothing ! $ fjoin ! $ move ! (2 ∷ 0 ∷ []) $ done !))))))))))
