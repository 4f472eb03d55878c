use Rattle.std.proofs.Common.{◌≡◌, subst, ⊎_elim, inl, inr, ◌⊎◌, ◌≤◌, ℕ}
use Rattle.gfxspec.specs.declared.geometry.PixelRect.{PixelRect}
use Rattle.gfxspec.specs.Items.{is_in_rect}
use Rattle.gfxspec.specs.Tiles.{IsIn}
use Rattle.tileprog.proofs.Under.{nothing_left, none_counted}
use Rattle.tileprog.specs.Painting.{stands_for}
use Rattle.tileprog.proofs.triangles.run_triangle.Goals as goal

pub returns-then-clip-clause-pixels : goal.returns-then-clip-clause-pixels
returns-then-clip-clause-pixels c = λ u v is.
    let r = c.args.block.now.rect in
    let p = c.args.triangle.now in
    let clip = c.clipped-clip.result in
    let P : PixelRect → Type 0 = λ r. (u v : ℕ) → IsIn r u v → is_in_rect clip u v ≡ is_in_rect p.bounds u v in
    let inside = subst P c.rect-rect.ensures c.clipped-clip.ensures.pixels in
    let empty : (clip.right ≤ clip.left) ⊎ (clip.bottom ≤ clip.top) = ⊎_elim (λ a. inl a) (λ b. inr b.1) c.then-clip.either in
    nothing_left p c.args.entry.now c.args.mask clip r c.requires.tile c.requires.class c.requires.bounded inside empty u v is (stands_for c.args.flip.now c.args.block.now u v)

pub returns-then-clip-clause-count : goal.returns-then-clip-clause-count
returns-then-clip-clause-count c =
    let r = c.args.block.now.rect in
    let p = c.args.triangle.now in
    let clip = c.clipped-clip.result in
    let P : PixelRect → Type 0 = λ r. (u v : ℕ) → IsIn r u v → is_in_rect clip u v ≡ is_in_rect p.bounds u v in
    let inside = subst P c.rect-rect.ensures c.clipped-clip.ensures.pixels in
    let empty : (clip.right ≤ clip.left) ⊎ (clip.bottom ≤ clip.top) = ⊎_elim (λ a. inl a) (λ b. inr b.1) c.then-clip.either in
    none_counted p c.args.entry.now c.args.mask clip r c.requires.tile c.requires.class c.requires.bounded inside empty c.args.block.now

pub run_small-requires-clause-inside : goal.run_small-requires-clause-inside
run_small-requires-clause-inside c =
    let p = c.args.triangle.now in
    let clip = c.clipped-clip.result in
    let P : PixelRect → Type 0 = λ r. (u v : ℕ) → IsIn r u v → is_in_rect clip u v ≡ is_in_rect p.bounds u v in
    subst P c.rect-rect.ensures c.clipped-clip.ensures.pixels

pub run_large-requires-clause-inside : goal.run_large-requires-clause-inside
run_large-requires-clause-inside c =
    let p = c.args.triangle.now in
    let clip = c.clipped-clip.result in
    let P : PixelRect → Type 0 = λ r. (u v : ℕ) → IsIn r u v → is_in_rect clip u v ≡ is_in_rect p.bounds u v in
    subst P c.rect-rect.ensures c.clipped-clip.ensures.pixels
