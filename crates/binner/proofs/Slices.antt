-- Setups of slices of triangles, side by side.
use Rattle.std.proofs.Common.{◌≡◌, ◌∙◌, ap, sym, subst, refl, ℕ, ◌+◌, ◌<◌, inl, inr, List, [], ◌∷◌, ◌++◌, length, map, Some, None, take, get_or, append-nil, Bor}
use Rattle.std.specs.Prelude.{Result, Ok, Err, IfOk, IfSome, MatchResult, All, Option}
use Rattle.std.proofs.lemmas.Option.{slice_get-get_or, get_or_from_slice_get}
use Rattle.std.specs.List.{flat_map, AllZip, Contains}
use Rattle.std.specs.declared.vec.Vec.{Vec}
use Rattle.std.specs.declared.alloc.AllocError.{AllocError}
use Rattle.std.proofs.lemmas.List.{take_more, map-append}
use Rattle.std.proofs.lemmas.List.Elements.{All-push}
use Rattle.rayon.specs.Lists.{chunks_of}
use Rattle.rayon.proofs.ToStd.{chunks_of-concat}
use Rattle.gfxspec.specs.declared.geometry.Size.{Size}
use Rattle.gfxspec.specs.State.{Settings}
use Rattle.gfxspec.specs.Assembly.{Primitive}
use Rattle.gfxspec.specs.Recorded.{settings_after}
use Rattle.meaning.specs.OneMore.{settings_with}
use Rattle.meaning.proofs.Nearest.{settings_after-push}
use Rattle.command.specs.declared.command.Command.{Command as Code}
use Rattle.command.specs.Seen.{command_value}
use Rattle.assemble.specs.Triangle.{primitive_of}
use Rattle.binner.specs.declared.setup.TriSetup.{TriSetup}
use Rattle.binner.specs.declared.ahead.DrawSetups.{DrawSetups}
use Rattle.binner.specs.declared.ahead.ReadyTri.{ReadyTri}
use Rattle.binner.specs.Meaning.{IsSetupOf}
use Rattle.binner.proofs.Accepted.{done, done_more}
use Rattle.binner.specs.Setups.{ReachesNothing, AreSetups, all_setups, settings_at, MatchesDraw, Notes}
use Rattle.cmdlist.specs.Drawable.{drawn_by}

abbrev pub primitive_at : ReadyTri → Primitive
primitive_at t = primitive_of (record { v = t.v })

module _ (s : Settings) (size : Size) where
  pub setups_append : (ps qs : List Primitive) (ts us : List TriSetup) → AreSetups s size ps ts → AreSetups s size qs us → AreSetups s size (ps ++ qs) (ts ++ us)
  setups_append [] qs ts us h j = subst (λ l. AreSetups s size qs (l ++ us)) (sym h) j
  setups_append (p ∷ ps) qs ts us (inl h) j = inl (h.0, setups_append ps qs ts us h.1 j)
  setups_append (p ∷ ps) qs ts us (inr h) j = inr (h.0, h.1 ++ us, ap (λ l. l ++ us) h.2, h.3, setups_append ps qs h.1 us h.4 j)

  -- ---- a slice, triangle by triangle

  module _ (xs : List ReadyTri) (i : ℕ) (d : ReadyTri) (ts : List TriSetup) (within : i < length xs) (h : AreSetups s size (map primitive_at (take i xs)) ts) where
    slice_more : map primitive_at (take (i + 1) xs) ≡ map primitive_at (take i xs) ++ primitive_at (get_or xs i d) ∷ []
    slice_more = ap (map primitive_at) (take_more xs i d within) ∙ map-append primitive_at (take i xs) (get_or xs i d ∷ [])

    pub one_dropped : ReachesNothing s size (primitive_at (get_or xs i d)) → AreSetups s size (map primitive_at (take (i + 1) xs)) ts
    one_dropped out = subst (λ ps. AreSetups s size ps ts) (sym slice_more)
        (subst (AreSetups s size (map primitive_at (take i xs) ++ primitive_at (get_or xs i d) ∷ [])) (append-nil ts)
        (setups_append (map primitive_at (take i xs)) (primitive_at (get_or xs i d) ∷ []) ts [] h (inl (out, refl))))

    pub one_made : (t : TriSetup) (new : List TriSetup) → IsSetupOf t (primitive_at (get_or xs i d)) s → new ≡ ts ++ t ∷ [] → AreSetups s size (map primitive_at (take (i + 1) xs)) new
    one_made t new is e = subst (λ ps. AreSetups s size ps new) (sym slice_more)
        (subst (AreSetups s size (map primitive_at (take i xs) ++ primitive_at (get_or xs i d) ∷ [])) (sym e)
        (setups_append (map primitive_at (take i xs)) (primitive_at (get_or xs i d) ∷ []) ts (t ∷ []) h (inr (t, [], refl, is, refl))))

  -- ---- the slices of a draw

  module _ {A : Type 0} where
    parts_made : (xs : List (Bor (List ReadyTri))) (rs : List (Result (Vec TriSetup A) AllocError)) (vs : List (Vec TriSetup A)) → AllZip (λ (x : Bor (List ReadyTri)) (r : Result (Vec TriSetup A) AllocError). IfOk r (λ v. AreSetups s size (map primitive_at x.now) v.items)) xs rs → rs ≡ map Ok vs → AreSetups s size (map primitive_at (flat_map (λ l. l) (map (λ (x : Bor (List ReadyTri)). x.now) xs))) (all_setups vs)
    parts_made [] [] [] h e = refl
    parts_made [] [] (v ∷ vs) h e = absurd cc
    parts_made [] (r ∷ rs) vs h e = absurd h
    parts_made (x ∷ xs) [] vs h e = absurd h
    parts_made (x ∷ xs) (r ∷ rs) [] h e = absurd cc
    parts_made (x ∷ xs) (r ∷ rs) (v ∷ vs) h e =
        let first : r ≡ Ok v = cc in
        let rest : rs ≡ map Ok vs = cc in
        let others = flat_map (λ l. l) (map (λ (x : Bor (List ReadyTri)). x.now) xs) in
        subst (λ ps. AreSetups s size ps (v.items ++ all_setups vs)) (sym (map-append primitive_at x.now others))
        (setups_append (map primitive_at x.now) (map primitive_at others) v.items (all_setups vs)
        (subst (λ (r : Result (Vec TriSetup A) AllocError). IfOk r (λ v. AreSetups s size (map primitive_at x.now) v.items)) first h.0)
        (parts_made xs rs vs h.1 rest))

    pub parts_whole : (n : ℕ) → 0 < n → (tris : List ReadyTri) (xs : List (Bor (List ReadyTri))) (rs : List (Result (Vec TriSetup A) AllocError)) (parts : Result (Vec (Vec TriSetup A) A) AllocError) → map (λ (x : Bor (List ReadyTri)). x.now) xs ≡ chunks_of n tris → AllZip (λ (x : Bor (List ReadyTri)) (r : Result (Vec TriSetup A) AllocError). IfOk r (λ v. AreSetups s size (map primitive_at x.now) v.items)) xs rs → MatchResult parts (λ c. (ys : List (Vec TriSetup A)) × (rs ≡ map Ok ys) × (c.items ≡ ys)) (λ e. Contains rs (Err e)) → IfOk parts (λ v. AreSetups s size (map primitive_at tris) (all_setups v.items))
    parts_whole n pos tris xs rs (Err e) chunks zip m = tt
    parts_whole n pos tris xs rs (Ok v) chunks zip m =
        subst (λ ts. AreSetups s size (map primitive_at ts) (all_setups v.items)) (ap (flat_map (λ l. l)) chunks ∙ chunks_of-concat n tris pos)
        (parts_made xs rs v.items zip (m.1 ∙ ap (map Ok) (sym m.2)))

-- ---- the draws of a list

pub settings_more : {A : Type 0} (cs : List (Code A)) (place : ℕ) (d : Code A) (s t : Settings) → place < length cs → s ≡ settings_at cs place → t ≡ settings_with (command_value (get_or cs place d)) s → t ≡ settings_at cs (place + 1)
settings_more cs place d s t l is e =
    let c = command_value (get_or cs place d) in
    e ∙ ap (settings_with c) is ∙ sym (settings_after-push (done cs place) c) ∙ ap settings_after (sym (done_more cs place d l))

module _ {A : Type 0} (cs : List (Code A)) (size : Size) where
  -- what was set up for a command is what it draws
  pub set_up_for : (place : ℕ) (d : Code A) (s : Settings) (now : Size) (parts : Option (Vec (Vec TriSetup A) A)) → place < length cs → s ≡ settings_at cs place → now ≡ size → IfSome parts (λ p. MatchesDraw cs size (record { place = place; parts = p })) → IfSome parts (λ p. AreSetups s now (drawn_by s (command_value (get_or cs place d))) (all_setups p.items))
  set_up_for place d s now None l is e h = tt
  set_up_for place d s now (Some p) l is e h =
      subst (λ z. AreSetups s z (drawn_by s (command_value (get_or cs place d))) (all_setups p.items)) (sym e)
      (subst (λ t. AreSetups t size (drawn_by t (command_value (get_or cs place d))) (all_setups p.items)) (sym is) (h (get_or cs place d) (slice_get-get_or cs place d l)))

  -- what is kept for a command is what it draws
  pub noted : (place : ℕ) (d : Code A) (s : Settings) (parts : Option (Vec (Vec TriSetup A) A)) (old new : List (DrawSetups A)) → s ≡ settings_at cs place → All (MatchesDraw cs size) old → IfSome parts (λ p. AreSetups s size (drawn_by s (command_value (get_or cs place d))) (all_setups p.items)) → Notes place parts old new → All (MatchesDraw cs size) new
  noted place d s None old new is all h e = subst (All (MatchesDraw cs size)) (sym e) all
  noted place d s (Some p) old new is all h e =
      subst (All (MatchesDraw cs size)) (sym e)
      (All-push (MatchesDraw cs size) old (record { place = place; parts = p }) all
      (λ c q. subst (λ t. AreSetups t size (drawn_by t (command_value c)) (all_setups p.items)) is
      (subst (λ k. AreSetups s size (drawn_by s (command_value k)) (all_setups p.items)) (get_or_from_slice_get cs place c d q) h)))
