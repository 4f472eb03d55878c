-- Draws whose triangles are set up already: what they stand for, and how the table that they name grows.
use Rattle.std.proofs.Common.{◌≡◌, ◌∙◌, ap, sym, subst, refl, arith, ℕ, suc, ◌+◌, ◌-◌, ◌<◌, ◌≤◌, inl, inr, ⊎_elim, List, [], ◌∷◌, ◌++◌, length, take, drop, get_or, append-nil, append_assoc, length-append}
use Rattle.std.specs.Prelude.{slice_index_or, slice_get, Some}
use Rattle.std.proofs.lemmas.Option.{slice_get_cases}
use Rattle.std.proofs.lemmas.List.{drop_more, drop_all, drop-append-le, take-append-le, take_rest, length-drop}
use Rattle.gfxspec.specs.declared.geometry.Size.{Size}
use Rattle.gfxspec.specs.State.{Settings}
use Rattle.gfxspec.specs.Assembly.{Primitive, part, primitives}
use Rattle.binner.specs.declared.setup.TriSetup.{TriSetup}
use Rattle.binner.specs.declared.earlier.EarlierDraw.{EarlierDraw}
use Rattle.binner.specs.declared.compiling.Compiling.{Compiling}
use Rattle.binner.specs.Meaning.{IsSetupOf}
use Rattle.binner.specs.Setups.{ReachesNothing, AreSetups}
use Rattle.binner.specs.Remembered.{IsRemembered, AreRemembered}
use Rattle.binner.proofs.Slices.{setups_append}

-- ---- settings with the same rasterizer state and scissor rectangle

module _ (s u : Settings) (size : Size) where
  -- the other settings, with the raster and the scissor rectangle of these
  abbrev under : Settings
  under = record u { raster = s.raster; scissor = s.scissor }

  setup_under : (t : TriSetup) (p : Primitive) → IsSetupOf t p s → IsSetupOf t p under
  setup_under t p h = record {
    triangle = h.triangle;
    z0 = h.z0;
    z1 = h.z1;
    z2 = h.z2;
    bias = h.bias;
    kept = h.kept;
    face = h.face;
    rgba = h.rgba;
    reach = h.reach;
  }

  setups_under : (ps : List Primitive) (ts : List TriSetup) → AreSetups s size ps ts → AreSetups under size ps ts
  setups_under [] ts h = h
  setups_under (p ∷ ps) ts (inl h) = inl (h.0, setups_under ps ts h.1)
  setups_under (p ∷ ps) ts (inr h) = inr (h.0, h.1, h.2, setup_under h.0 p h.3, setups_under ps h.1 h.4)

  pub setups_alike : s.raster ≡ u.raster → s.scissor ≡ u.scissor → (ps : List Primitive) (ts : List TriSetup) → AreSetups s size ps ts → AreSetups u size ps ts
  setups_alike raster scissor ps ts h =
      subst (λ z. AreSetups z size ps ts)
      (ap (λ r. record u { raster = r; scissor = s.scissor }) raster ∙ ap (λ c. record u { raster = u.raster; scissor = c }) scissor)
      (setups_under ps ts h)

-- ---- a table that grows

part_more : (n first : ℕ) (ts us : List TriSetup) → first + n ≤ length ts → part n first (ts ++ us) ≡ part n first ts
part_more n first ts us h =
    ap (take n) (drop-append-le first ts us (omega (arith, h)))
    ∙ take-append-le n (drop first ts) us (rw (length-drop first ts) (omega (arith, h)))

remembered_more : {A : Type 0} (ts us : List TriSetup) (d : EarlierDraw A) → IsRemembered ts d → IsRemembered (ts ++ us) d
remembered_more ts us d h = record {
  order = h.order;
  inside = rw (length-append ts us) (omega (arith, h.inside));
  set_up = λ s raster scissor. subst (AreSetups s d.size _) (sym (part_more (d.past - d.first) d.first ts us (omega (arith, h.order, h.inside)))) (h.set_up s raster scissor);
}

pub all_remembered_more : {A : Type 0} (ts us : List TriSetup) (ds : List (EarlierDraw A)) → AreRemembered ts ds → AreRemembered (ts ++ us) ds
all_remembered_more ts us ds h k d within = remembered_more ts us (slice_index_or ds k d) (h k d within)

-- a draw whose triangles are the last of the table
pub remembered_last : {A : Type 0} (ts : List TriSetup) (d : EarlierDraw A) (s : Settings) → d.first ≤ length ts → d.past ≡ length ts → d.raster ≡ s.raster → d.scissor ≡ s.scissor → AreSetups s d.size (primitives d.topology d.vertices.items) (drop d.first ts) → IsRemembered ts d
remembered_last ts d s first past raster scissor h = record {
  order = rw past first;
  inside = rw past (omega arith);
  set_up = λ u r c.
      subst (AreSetups u d.size (primitives d.topology d.vertices.items)) (sym (ap (λ p. part (p - d.first) d.first ts) past ∙ take_rest ts d.first))
      (setups_alike s u d.size (sym (r ∙ raster)) (sym (c ∙ scissor)) (primitives d.topology d.vertices.items) (drop d.first ts) h);
}

-- ---- a draw that is new

-- what stands in the table behind what stood there before is set up of the triangles before `left`
pub record Made {A : Type 0} (old new : Compiling A) (s : Settings) (all left : List Primitive) : Type 0 where
  pub done : List Primitive
  pub split : done ++ left ≡ all
  pub grown : length old.triangles ≤ length new.triangles
  pub made : AreSetups s old.lists.size done (drop (length old.triangles) new.triangles)

module _ {A : Type 0} (old : Compiling A) (s : Settings) (all : List Primitive) where
  pub made_begin : (new : Compiling A) (left : List Primitive) → left ≡ all → new.triangles ≡ old.triangles → Made old new s all left
  made_begin new left is same = record {
    done = [];
    split = is;
    grown = rw (ap length same) (omega arith);
    made = drop_all (length old.triangles) new.triangles (rw (ap length same) (omega arith));
  }

  module _ (mid : Compiling A) (p : Primitive) (left whole : List Primitive) (is : whole ≡ p ∷ left) (h : Made old mid s all whole) where
    split_more : (h.done ++ p ∷ []) ++ left ≡ all
    split_more = append_assoc h.done (p ∷ []) left ∙ ap (λ l. h.done ++ l) (sym is) ∙ h.split

    pub made_setup : (new : Compiling A) (setup : TriSetup) → new.triangles ≡ mid.triangles ++ setup ∷ [] → IsSetupOf setup p s → Made old new s all left
    made_setup new setup e k = record {
      done = h.done ++ p ∷ [];
      split = split_more;
      grown = rw (ap length e ∙ length-append mid.triangles (setup ∷ [])) (omega (arith, h.grown));
      made = subst (AreSetups s old.lists.size (h.done ++ p ∷ []))
          (sym (ap (drop (length old.triangles)) e ∙ drop-append-le (length old.triangles) mid.triangles (setup ∷ []) h.grown))
          (setups_append s old.lists.size h.done (p ∷ []) (drop (length old.triangles) mid.triangles) (setup ∷ []) h.made (inr (setup, [], refl, k, refl)));
    }

    pub made_skip : ReachesNothing s old.lists.size p → Made old mid s all left
    made_skip out = record {
      done = h.done ++ p ∷ [];
      split = split_more;
      grown = h.grown;
      made = subst (AreSetups s old.lists.size (h.done ++ p ∷ [])) (append-nil (drop (length old.triangles) mid.triangles))
          (setups_append s old.lists.size h.done (p ∷ []) (drop (length old.triangles) mid.triangles) [] h.made (inl (out, refl)));
    }

  pub made_whole : (new : Compiling A) (left : List Primitive) → left ≡ [] → Made old new s all left → AreSetups s old.lists.size all (drop (length old.triangles) new.triangles)
  made_whole new left is h =
      subst (λ ps. AreSetups s old.lists.size ps (drop (length old.triangles) new.triangles)) (sym (append-nil h.done) ∙ ap (λ l. h.done ++ l) (sym is) ∙ h.split) h.made

-- ---- a draw that comes again

next_part : (ts : List TriSetup) (n past : ℕ) (d : TriSetup) → n < past → past ≤ length ts → part (past - n) n ts ≡ get_or ts n d ∷ part (past - (n + 1)) (n + 1) ts
next_part ts n past d below within =
    let count : past - n ≡ suc (past - (n + 1)) = omega (arith, below) in
    ap (λ k. take k (drop n ts)) count ∙ ap (take (suc (past - (n + 1)))) (drop_more ts n d (omega (arith, below, within)))

-- the setup of a number that is not past
pub record NextOf (ts : List TriSetup) (n past : ℕ) : Type 0 where
  pub setup : TriSetup
  pub place : slice_get ts n ≡ Some setup
  pub more : part (past - n) n ts ≡ setup ∷ part (past - (n + 1)) (n + 1) ts

pub next_of : (ts : List TriSetup) (n past : ℕ) → n < past → past ≤ length ts → NextOf ts n past
next_of ts n past below within =
    ⊎_elim
    (λ x. record { setup = x.0; place = x.2; more = next_part ts n past x.0 below within ∙ ap (λ t. t ∷ part (past - (n + 1)) (n + 1) ts) x.3 })
    (λ x. absurd (outside (length ts) x.0 below within))
    (slice_get_cases ts n).1
  where
    outside : (many : ℕ) → many ≤ n → n < past → past ≤ many → ⊥
    outside many a b c = omega arith

pub last_part : (ts : List TriSetup) (n past : ℕ) → past ≤ n → part (past - n) n ts ≡ []
last_part ts n past h = ap (λ k. take k (drop n ts)) (none past n h)
  where
    none : (a b : ℕ) → a ≤ b → a - b ≡ 0
    none a b h = omega (arith, h)
