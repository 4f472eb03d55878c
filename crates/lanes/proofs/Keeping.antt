-- Where an operation keeps what is stored.
use Rattle.std.proofs.Common.{◌≡◌, ◌∙◌, ap, sym, arith, ℕ, ◌-◌, ◌<◌, Bool, true, false, min, w8}
use Rattle.std.specs.Prelude.{◌==◌, max, bit_and, if◌then◌else◌}
use Rattle.std.specs.Int.{bit_at}
use Rattle.std.proofs.lemmas.Nat.Bits.{bit_at-lt, bit_at-zero, bit_at_ones, bit_at_and, bit_at_or, bit_at_not, same_from_bits_below}
use Rattle.std.proofs.lemmas.Nat.{or_of_8, and_le_l}
use Rattle.gfxspec.specs.declared.state.StencilOp.{StencilOp}
use Rattle.gfxspec.specs.declared.state.StencilOp.TheVariants.{Keep}
use Rattle.gfxspec.specs.DepthStencil.{masked, stencil_result, chosen_op}
use Rattle.lanes.specs.Stencil.{StencilRule, has, stencil_after}

-- the bits of a byte under a mask and beside it are the byte
masked_same : (m v : ℕ) → m < 256 → v < 256 → masked m v v ≡ v
masked_same m v small fits =
    same_from_bits_below 8 (masked m v v) v (or_of_8 (bit_and v m) (bit_and v (255 - m)) (omega (arith, and_le_l v m)) (omega (arith, and_le_l v (255 - m)))) fits
    (λ i h. bit_at_or (bit_and v m) (bit_and v (255 - m)) i
    ∙ (λ k. max (bit_at_and v m i k) (bit_at_and v (255 - m) i k))
    ∙ both (bit_at v i) (bit_at m i) (bit_at (255 - m) i) (bit_at-lt v i) (bit_at-lt m i) (bit_at_not w8 m i small h))
  where
    both : (b c n : ℕ) → b < 2 → c < 2 → n ≡ 1 - c → max (min b c) (min b n) ≡ b
    both b c n hb hc is = omega (arith, is)

keeps : (r : StencilRule) (op : StencilOp) (v : ℕ) → r.setting.write_mask < 256 → v < 256 → op ≡ Keep → masked r.setting.write_mask (stencil_result op v r.reference) v ≡ v
keeps r op v small fits is = ap (λ o. masked r.setting.write_mask (stencil_result o v r.reference) v) is ∙ masked_same r.setting.write_mask v small fits

bit_is : (b : ℕ) → (b == 1) ≡ true → b ≡ 1
bit_is b h = grind (arith, h)

not_one : (b : ℕ) → b ≡ 0 → (b == 1) ≡ false
not_one b e = ap (λ n. n == 1) e

-- a covered lane where the stencil test passes nowhere, and where both tests pass everywhere
pub fails_there : (cover passing j : ℕ) → bit_and cover passing ≡ 0 → has cover j ≡ true → has passing j ≡ false
fails_there cover passing j none here =
    let c = bit_is (bit_at cover j) here in
    let z = sym (bit_at_and cover passing j) ∙ ap (λ n. bit_at n j) none ∙ bit_at-zero j in
    let l = bit_at-lt passing j in
    not_one (bit_at passing j) (omega (arith, c, z, l))

pub passes_there : (cover passing deep j : ℕ) → bit_and cover (bit_and passing deep) ≡ cover → has cover j ≡ true → (has passing j ≡ true) × (has deep j ≡ true)
passes_there cover passing deep j all here =
    let c = bit_is (bit_at cover j) here in
    let z = sym (bit_at_and cover (bit_and passing deep) j) ∙ ap (λ n. bit_at n j) all in
    let y = bit_at_and passing deep j in
    let l = bit_at-lt passing j in
    let k = bit_at-lt deep j in
    (one (bit_at passing j) (omega (arith, c, z, y, l, k)), one (bit_at deep j) (omega (arith, c, z, y, l, k)))
  where
    one : (b : ℕ) → b ≡ 1 → (b == 1) ≡ true
    one b e = ap (λ n. n == 1) e

module _ (r : StencilRule) (v : ℕ) (small : r.setting.write_mask < 256) (fits : v < 256) where
  pub fail_kept : (p d : Bool) → p ≡ false → r.face.fail ≡ Keep → stencil_after r p d v ≡ v
  fail_kept p d e is = ap (λ q. stencil_after r q d v) e ∙ keeps r r.face.fail v small fits is

  pub pass_kept : (p d : Bool) → p ≡ true → d ≡ true → r.face.pass ≡ Keep → stencil_after r p d v ≡ v
  pass_kept p d e f is = (λ i. stencil_after r (e i) (f i) v) ∙ keeps r r.face.pass v small fits is

  pub all_kept : (p d : Bool) → (r.face.fail ≡ Keep) × (r.face.depth_fail ≡ Keep) × (r.face.pass ≡ Keep) → stencil_after r p d v ≡ v
  all_kept false d is = keeps r r.face.fail v small fits is.0
  all_kept true false is = keeps r r.face.depth_fail v small fits is.1
  all_kept true true is = keeps r r.face.pass v small fits is.2

-- the result of the operation that two outcomes choose
pub operated_by : (r : StencilRule) (v : ℕ) (p d : Bool) (a b e : ℕ) → a ≡ stencil_result r.face.pass v r.reference → b ≡ stencil_result r.face.depth_fail v r.reference → e ≡ stencil_result r.face.fail v r.reference
    → (if p then (if d then a else b) else e) ≡ stencil_result (chosen_op r.face p d) v r.reference
operated_by r v true true a b e ia ib ie = ia
operated_by r v true false a b e ia ib ie = ib
operated_by r v false d a b e ia ib ie = ie

-- ---- masks of all lanes, and of none

pub has_all : (bits j : ℕ) → bits ≡ 255 → j < 8 → has bits j ≡ true
has_all bits j e h = ap (λ n. bit_at n j == 1) e ∙ ap (λ n. n == 1) (bit_at_ones 8 j h)

pub has_none : (bits j : ℕ) → bits ≡ 0 → has bits j ≡ false
has_none bits j e = ap (λ n. bit_at n j == 1) e ∙ ap (λ n. n == 1) (bit_at-zero j)
