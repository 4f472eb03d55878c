-- What happens in one lane of a span.
use Rattle.std.proofs.Common.{◌≡◌, ◌∙◌, ap, sym, refl, arith, ℕ, ◌<◌, ◌%◌, ◌^◌, Bool, true, false, List}
use Rattle.std.specs.Prelude.{◌==◌, ◌&&◌, ◌||◌, not, if◌then◌else◌, bit_and, bit_xor}
use Rattle.std.specs.Int.{bit_at, to_le_bytes, w32}
use Rattle.std.proofs.lemmas.Nat.{and_mask, from_le_bytes-to_le_bytes_4}
use Rattle.std.specs.Int.Bits.{xor_zero_l, xor_zero_r, and_zero_r}
use Rattle.std.proofs.lemmas.Nat.Bits.{bit_at_and, bit_at-lt, bit_at-zero, bit_at_ones}
use Rattle.gfxspec.specs.declared.pixel.Pixel.{Pixel}
use Rattle.gfxspec.specs.declared.pixel.DepthStencil.{DepthStencil}
use Rattle.gfxspec.specs.declared.state.Compare.{Compare}
use Rattle.gfxspec.specs.DepthStencil.{DepthStencilSetting, FaceSetting, TestOutcome, tested, compares, masked, stencil_result, chosen_op}
use Rattle.lanes.proofs.Masks.{both_bits}
use Rattle.tileprog.specs.declared.kind.Tests.TheVariants.{Open, Depth, Stencil}
use Rattle.tileprog.specs.declared.brush.Brush.{Brush}
use Rattle.tileprog.specs.Kinds.{tests_of}
use Rattle.tileprog.specs.Brushes.{tested_by, drawn_by}
use Rattle.tileprog.specs.Painting.{painted_with}
use Rattle.lanes.specs.Stencil.{StencilRule, has, reference_passes, stencil_after}

-- ---- bits

pub has_all : (bits j : ℕ) → bits ≡ 255 → j < 8 → has bits j ≡ true
has_all bits j e h = ap (λ n. bit_at n j == 1) e ∙ ap (λ n. n == 1) (bit_at_ones 8 j h)

pub has_none : (bits j : ℕ) → bits ≡ 0 → has bits j ≡ false
has_none bits j e = ap (λ n. bit_at n j == 1) e ∙ ap (λ n. n == 1) (bit_at-zero j)

pub has_both : (a b j : ℕ) (q : Bool) → has b j ≡ q → has (bit_and a b) j ≡ (has a j && q)
has_both a b j q e = ap (λ n. n == 1) (bit_at_and a b j) ∙ both_bits (bit_at a j) (bit_at b j) (has a j) q (bit_at-lt a j) (bit_at-lt b j) refl e

-- ---- colours

pub lane_painted : (b : Brush) (p : Pixel) (t : Bool) (q n m : ℕ) → q < 2 ^ 32 → to_le_bytes w32 q ≡ p.rgba → n ≡ bit_xor (bit_and q b.write.keep) b.write.flip → m ≡ (if t then n else q) → to_le_bytes w32 m ≡ (if t then painted_with b.write p.rgba else p.rgba)
lane_painted b p true q n m small is write pick =
    ap (to_le_bytes w32) (pick ∙ write ∙ ap (λ k. bit_xor (bit_and k b.write.keep) b.write.flip) (sym (from_le_bytes-to_le_bytes_4 q small))) ∙ ap (painted_with b.write) is
lane_painted b p false q n m small is write pick = ap (to_le_bytes w32) pick ∙ is

-- a write that keeps every bit, and one that keeps none
pub kept_all : (q keep flip : ℕ) → q < 2 ^ 32 → keep ≡ 4294967295 → flip ≡ 0 → q ≡ bit_xor (bit_and q keep) flip
kept_all q keep flip small all none =
    sym ((λ i. bit_xor (bit_and q (all i)) (none i)) ∙ xor_zero_r (bit_and q 4294967295) ∙ and_mask q 32 ∙ whole)
  where
    whole : q % 2 ^ 32 ≡ q
    whole = omega arith

pub kept_none : (q keep flip : ℕ) → keep ≡ 0 → flip ≡ bit_xor (bit_and q keep) flip
kept_none q keep flip none = sym (ap (λ k. bit_xor (bit_and q k) flip) none ∙ ap (λ n. bit_xor n flip) (and_zero_r q) ∙ xor_zero_l flip)

-- both ways of a choice
pub either_same : (t : Bool) (n q : ℕ) → q ≡ n → q ≡ (if t then n else q)
either_same true n q e = e
either_same false n q e = refl

abbrev pub colored : Pixel → List ℕ → Pixel
colored p c = record { rgba = c; ds = p.ds }

pub with_color : (p : Pixel) (c d : List ℕ) → c ≡ d → colored p c ≡ colored p d
with_color p c d e = ap (colored p) e

-- a lane whose colour a write keeps, and one that isn't painted
pub lane_kept : (b : Brush) (p : Pixel) (t : Bool) (q : ℕ) → q < 2 ^ 32 → to_le_bytes w32 q ≡ p.rgba → q ≡ bit_xor (bit_and q b.write.keep) b.write.flip → p ≡ colored p (if t then painted_with b.write p.rgba else p.rgba)
lane_kept b p t q small is kept = with_color p p.rgba _ (sym is ∙ lane_painted b p t q q q small is kept (either_same t q q refl))

pub lane_unpainted : (b : Brush) (p : Pixel) (t : Bool) → t ≡ false → p ≡ colored p (if t then painted_with b.write p.rgba else p.rgba)
lane_unpainted b p t e = ap (λ u. colored p (if u then painted_with b.write p.rgba else p.rgba)) (sym e)

-- a lane whose bit picks a colour
pub lane_chosen : (b : Brush) (p : Pixel) (t : Bool) (q n : ℕ) → q < 2 ^ 32 → to_le_bytes w32 q ≡ p.rgba → n ≡ bit_xor (bit_and q b.write.keep) b.write.flip → (if t then colored p (to_le_bytes w32 n) else p) ≡ colored p (if t then painted_with b.write p.rgba else p.rgba)
lane_chosen b p true q n small is write = with_color p _ _ (lane_painted b p true q n n small is write refl)
lane_chosen b p false q n small is write = refl

-- ---- depth alone

-- a state without stencil, whose depth is tested
pub record IsDepthOnly (s : DepthStencilSetting) (func : Compare) (write : Bool) : Type 0 where
  pub stencil : s.stencil ≡ false
  pub depth : s.depth ≡ true
  pub func_is : s.func ≡ func
  pub write_is : s.write ≡ write

pub record IsOpen (s : DepthStencilSetting) : Type 0 where
  pub stencil : s.stencil ≡ false
  pub depth : s.depth ≡ false

pub depth_only : (s : DepthStencilSetting) (func : Compare) (write : Bool) → tests_of s ≡ Depth func write → IsDepthOnly s func write
depth_only s func write e = by s.stencil s.depth refl refl e
  where
    by : (st de : Bool) → s.stencil ≡ st → s.depth ≡ de → (if st then Stencil else (if de then Depth s.func s.write else Open)) ≡ Depth func write → IsDepthOnly s func write
    by true de a b h = absurd cc
    by false true a b h = record { stencil = a; depth = b; func_is = cc; write_is = cc }
    by false false a b h = absurd cc

pub all_open : (s : DepthStencilSetting) → tests_of s ≡ Open → IsOpen s
all_open s e = by s.stencil s.depth refl refl e
  where
    by : (st de : Bool) → s.stencil ≡ st → s.depth ≡ de → (if st then Stencil else (if de then Depth s.func s.write else Open)) ≡ Open → IsOpen s
    by true de a b h = absurd cc
    by false true a b h = absurd cc
    by false false a b h = record { stencil = a; depth = b }

module _ (s : DepthStencilSetting) (face : FaceSetting) (reference z : ℕ) (old : DepthStencil) where
  abbrev outcome_of : ℕ → Bool → TestOutcome
  outcome_of d passed = record { after = record { depth = d; stencil = old.stencil }; passed = passed }

  -- the tests where the stencil is off, by the flags
  abbrev plain_tests : Bool → Bool → Bool → TestOutcome
  plain_tests depth write c =
      record {
        after = record { depth = if (not depth || c) && depth && write then z else old.depth; stencil = old.stencil };
        passed = not depth || c;
      }

  -- the tests, by the flag of the stencil
  abbrev flagged : Bool → TestOutcome
  flagged stencil =
      let stencil_ok = not stencil || compares face.func (bit_and reference s.read_mask) (bit_and old.stencil s.read_mask) in
      let depth_ok = not s.depth || compares s.func z old.depth in
      record {
        after = record {
          depth = if stencil_ok && depth_ok && s.depth && s.write then z else old.depth;
          stencil = if stencil then masked s.write_mask (stencil_result (chosen_op face stencil_ok depth_ok) old.stencil reference) old.stencil else old.stencil;
        };
        passed = stencil_ok && depth_ok;
      }

  unfolded : s.stencil ≡ false → tested s face reference z old ≡ plain_tests s.depth s.write (compares s.func z old.depth)
  unfolded e = ap flagged e

  only_depth : (write c : Bool) → plain_tests true write c ≡ outcome_of (if c && write then z else old.depth) c
  only_depth write true = refl
  only_depth write false = refl

  pub tested_depth : (func : Compare) (write : Bool) → IsDepthOnly s func write → tested s face reference z old ≡ record { after = record { depth = if compares func z old.depth && write then z else old.depth; stencil = old.stencil }; passed = compares func z old.depth }
  tested_depth func write h =
      unfolded h.stencil
      ∙ (λ i. plain_tests (h.depth i) (h.write_is i) (compares (h.func_is i) z old.depth))
      ∙ only_depth write (compares func z old.depth)

  pub tested_open : IsOpen s → tested s face reference z old ≡ record { after = old; passed = true }
  tested_open h =
      unfolded h.stencil
      ∙ (λ i. plain_tests (h.depth i) s.write (compares s.func z old.depth))

abbrev face_of : Brush → FaceSetting
face_of b = if b.front then b.state.front else b.state.back

abbrev pub deep : ℕ → Bool → DepthStencil → DepthStencil
deep z t old = record { depth = if t then z else old.depth; stencil = old.stencil }

-- a covered lane of a state with depth alone
pub depth_lane : (b : Brush) (func : Compare) (write : Bool) → tests_of b.state ≡ Depth func write → (z : ℕ) (t : Bool) (old : DepthStencil) →
    (if t then (tested_by b z old).after else old) ≡ record { depth = if (t && compares func z old.depth) && write then z else old.depth; stencil = old.stencil }
depth_lane b func write kind z true old = ap (λ (o : TestOutcome). o.after) (tested_depth b.state (face_of b) b.reference z old func write (depth_only b.state func write kind))
depth_lane b func write kind z false old = refl

pub depth_passes : (b : Brush) (func : Compare) (write : Bool) → tests_of b.state ≡ Depth func write → (z : ℕ) (old : DepthStencil) → (tested_by b z old).passed ≡ compares func z old.depth
depth_passes b func write kind z old = ap (λ (o : TestOutcome). o.passed) (tested_depth b.state (face_of b) b.reference z old func write (depth_only b.state func write kind))

pub open_passes : (b : Brush) → tests_of b.state ≡ Open → (z : ℕ) (t : Bool) (old : DepthStencil) → t ≡ (t && (tested_by b z old).passed)
open_passes b kind z true old = sym (ap (λ (o : TestOutcome). o.passed) (tested_open b.state (face_of b) b.reference z old (all_open b.state kind)))
open_passes b kind z false old = refl

-- ---- both

-- what the tests and then the colours leave is what the brush draws
pub both_lanes : (b : Brush) (z : ℕ) (t u : Bool) (p : Pixel) → u ≡ (t && (tested_by b z p.ds).passed) →
    record { rgba = if u then painted_with b.write p.rgba else p.rgba; ds = if t then (tested_by b z p.ds).after else p.ds } ≡ (if t then drawn_by b z p else p)
both_lanes b z true u p e = ap (λ v. record { rgba = if v then painted_with b.write p.rgba else p.rgba; ds = (tested_by b z p.ds).after }) e
both_lanes b z false u p e = ap (λ v. record { rgba = if v then painted_with b.write p.rgba else p.rgba; ds = p.ds }) e

-- where depths are written, and where they aren't
module _ (z : ℕ) (old : DepthStencil) where
  abbrev depth_if : Bool → DepthStencil
  depth_if t = record { depth = if t then z else old.depth; stencil = old.stencil }

  written : (t c w : Bool) → w ≡ true → depth_if (t && c) ≡ depth_if ((t && c) && w)
  written t c true e = ap depth_if (same (t && c))
    where
      same : (a : Bool) → a ≡ (a && true)
      same true = refl
      same false = refl
  written t c false e = absurd cc

  unwritten : (t c w : Bool) → w ≡ false → old ≡ depth_if ((t && c) && w)
  unwritten t c false e = ap depth_if (same (t && c))
    where
      same : (a : Bool) → false ≡ (a && false)
      same true = refl
      same false = refl
  unwritten t c true e = absurd cc

  unpassed : (t c w : Bool) → (t && c) ≡ false → old ≡ depth_if ((t && c) && w)
  unpassed t c w e = ap (λ a. depth_if (a && w)) (sym e)

pub written_where : (t c w : Bool) (z : ℕ) (old : DepthStencil) → w ≡ true → deep z (t && c) old ≡ deep z ((t && c) && w) old
written_where t c w z old e = written z old t c w e

pub no_write : (t c w : Bool) (z : ℕ) (old : DepthStencil) → w ≡ false → old ≡ record { depth = if (t && c) && w then z else old.depth; stencil = old.stencil }
no_write t c w z old e = unwritten z old t c w e

pub none_passed : (t c w : Bool) (z : ℕ) (old : DepthStencil) → (t && c) ≡ false → old ≡ record { depth = if (t && c) && w then z else old.depth; stencil = old.stencil }
none_passed t c w z old e = unpassed z old t c w e

-- depths that are stored where they pass, if they are to be, are what the tests leave
kept_tested : (b : Brush) (func : Compare) (write : Bool) → tests_of b.state ≡ Depth func write → (z : ℕ) (t u : Bool) (p : Pixel) → u ≡ (t && (tested_by b z p.ds).passed) →
    (if write then record { rgba = p.rgba; ds = record { depth = if u then z else p.ds.depth; stencil = p.ds.stencil } } else p) ≡ record { rgba = p.rgba; ds = if t then (tested_by b z p.ds).after else p.ds }
kept_tested b func true kind z t u p e =
    let passes : u ≡ (t && compares func z p.ds.depth) = e ∙ ap (λ c. t && c) (depth_passes b func true kind z p.ds) in
    ap (λ ds. record { rgba = p.rgba; ds = ds })
    ((λ i. record { depth = if passes i then z else p.ds.depth; stencil = p.ds.stencil })
    ∙ written_where t (compares func z p.ds.depth) true z p.ds refl
    ∙ sym (depth_lane b func true kind z t p.ds))
kept_tested b func false kind z t u p e =
    ap (λ ds. record { rgba = p.rgba; ds = ds })
    (no_write t (compares func z p.ds.depth) false z p.ds refl
    ∙ sym (depth_lane b func false kind z t p.ds))

-- and with the colours stored where they pass, it is what the brush draws
pub kept_drawn : (b : Brush) (func : Compare) (write : Bool) → tests_of b.state ≡ Depth func write → (z : ℕ) (t u : Bool) (p kept : Pixel) → u ≡ (t && (tested_by b z p.ds).passed) →
    kept ≡ (if write then record { rgba = p.rgba; ds = record { depth = if u then z else p.ds.depth; stencil = p.ds.stencil } } else p) →
    record { rgba = if u then painted_with b.write kept.rgba else kept.rgba; ds = kept.ds } ≡ (if t then drawn_by b z p else p)
kept_drawn b func write kind z t u p kept e is =
    ap (λ (q : Pixel). record { rgba = if u then painted_with b.write q.rgba else q.rgba; ds = q.ds }) (is ∙ kept_tested b func write kind z t u p e) ∙ both_lanes b z t u p e

-- ---- the stencil

-- a lane whose bit picks a depth
pub depth_chosen : (p : Pixel) (t : Bool) (z : ℕ) →
    (if t then record { rgba = p.rgba; ds = record { depth = z; stencil = p.ds.stencil } } else p) ≡ record { rgba = p.rgba; ds = record { depth = if t then z else p.ds.depth; stencil = p.ds.stencil } }
depth_chosen p true z = refl
depth_chosen p false z = refl

pub with_stencil : (s : DepthStencilSetting) → tests_of s ≡ Stencil → s.stencil ≡ true
with_stencil s e = by s.stencil s.depth refl e
  where
    by : (st de : Bool) → s.stencil ≡ st → (if st then Stencil else (if de then Depth s.func s.write else Open)) ≡ Stencil → s.stencil ≡ true
    by true de a h = a
    by false true a h = absurd cc
    by false false a h = absurd cc

-- the rule of a brush's stencil test
abbrev pub rule_of : Brush → StencilRule
rule_of b = record { setting = b.state; face = face_of b; reference = b.reference }

-- whether depth passes, or isn't tested
abbrev pub deep_enough : Brush → ℕ → DepthStencil → Bool
deep_enough b z old = not b.state.depth || compares b.state.func z old.depth

-- both tests where the stencil is on
pub tested_stencil : (b : Brush) → tests_of b.state ≡ Stencil → (z : ℕ) (old : DepthStencil) →
    tested_by b z old
    ≡ record {
      after = record {
        depth = if (reference_passes (rule_of b) old.stencil && deep_enough b z old) && b.state.depth && b.state.write then z else old.depth;
        stencil = stencil_after (rule_of b) (reference_passes (rule_of b) old.stencil) (deep_enough b z old) old.stencil;
      };
      passed = reference_passes (rule_of b) old.stencil && deep_enough b z old;
    }
tested_stencil b kind z old = ap (flagged b.state (face_of b) b.reference z old) (with_stencil b.state kind)

-- a lane's depth and stencil after their stores are what the tests leave
pub stencil_lane : (b : Brush) → tests_of b.state ≡ Stencil → (z : ℕ) (old : DepthStencil) (t passing deep u d : Bool) (after : ℕ) →
    passing ≡ reference_passes (rule_of b) old.stencil → deep ≡ deep_enough b z old → u ≡ (t && (passing && deep)) → d ≡ (b.state.depth && b.state.write) →
    after ≡ stencil_after (rule_of b) passing deep old.stencil →
    record { depth = if d then (if u then z else old.depth) else old.depth; stencil = if t then after else old.stencil } ≡ (if t then (tested_by b z old).after else old)
stencil_lane b kind z old false passing deep u d after ep ed eu e ea = by d u eu
  where
    by : (d u : Bool) → u ≡ (false && (passing && deep)) → record { depth = if d then (if u then z else old.depth) else old.depth; stencil = old.stencil } ≡ old
    by true true h = absurd cc
    by true false h = refl
    by false u h = refl
stencil_lane b kind z old true passing deep u d after ep ed eu e ea =
    (λ i. record { depth = if e i then (if eu i then z else old.depth) else old.depth; stencil = ea i })
    ∙ (λ i. record {
      depth = if b.state.depth && b.state.write then (if ep i && ed i then z else old.depth) else old.depth;
      stencil = stencil_after (rule_of b) (ep i) (ed i) old.stencil;
    })
    ∙ ap (λ n. record { depth = n; stencil = stencil_after (rule_of b) (reference_passes (rule_of b) old.stencil) (deep_enough b z old) old.stencil })
    (by (reference_passes (rule_of b) old.stencil && deep_enough b z old) b.state.depth b.state.write)
    ∙ sym (ap (λ (o : TestOutcome). o.after) (tested_stencil b kind z old))
  where
    by : (p d w : Bool) → (if d && w then (if p then z else old.depth) else old.depth) ≡ (if p && d && w then z else old.depth)
    by true true true = refl
    by true true false = refl
    by true false w = refl
    by false true true = refl
    by false true false = refl
    by false false w = refl

pub stencil_passes_both : (b : Brush) → tests_of b.state ≡ Stencil → (z : ℕ) (old : DepthStencil) (passing deep : Bool) → passing ≡ reference_passes (rule_of b) old.stencil → deep ≡ deep_enough b z old → (passing && deep) ≡ (tested_by b z old).passed
stencil_passes_both b kind z old passing deep ep ed = (λ i. ep i && ed i) ∙ sym (ap (λ (o : TestOutcome). o.passed) (tested_stencil b kind z old))

-- a covered lane whose value an operation keeps, or changes
abbrev stenciled : Pixel → Bool → ℕ → Pixel
stenciled p t n = record { rgba = p.rgba; ds = record { depth = p.ds.depth; stencil = if t then n else p.ds.stencil } }

pub stencil_kept : (p : Pixel) (t : Bool) (n : ℕ) → (t ≡ true → n ≡ p.ds.stencil) → p ≡ stenciled p t n
stencil_kept p true n same = ap (λ m. stenciled p true m) (sym (same refl))
stencil_kept p false n same = refl

pub stencil_changed : (p : Pixel) (t : Bool) (n m : ℕ) → n ≡ m → stenciled p t n ≡ stenciled p t m
stencil_changed p t n m e = ap (stenciled p t) e
