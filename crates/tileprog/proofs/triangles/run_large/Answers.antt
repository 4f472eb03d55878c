use Rattle.std.proofs.Common.{◌≡◌, ◌∙◌, ap, sym, subst, ℕ, Bool, true, Option, Some}
use Rattle.std.specs.Prelude.{IfSome}
use Rattle.gfxspec.specs.declared.geometry.PixelRect.{PixelRect}
use Rattle.tileblock.specs.Block.{Block}
use Rattle.classify.specs.Region.{IsClassOf}
use Rattle.classify.specs.declared.Class.TheVariants.{Cut}
use Rattle.tileword.specs.EdgeMask.{edge_bits}
use Rattle.binner.specs.declared.setup.TriSetup.{TriSetup}
use Rattle.tileprog.proofs.Hiding.{hidden_pixel, hidden_count, kept_if, whole_covered, whole_reached}
use Rattle.tileprog.proofs.AlikeLaws.{outcome_there, drawn_everywhere, counted_everywhere}
use Rattle.tileprog.specs.Alike.{HasOutcome}
use Rattle.tileprog.specs.Hidden.{DepthsLie, IsWhole}
use Rattle.tileprog.specs.Painting.{stands_for}
use Rattle.tileprog.proofs.triangles.run_large.Goals as goal

lie_in : (t : TriSetup) (a b : PixelRect) (least greatest : ℕ) → a ≡ b → DepthsLie t a least greatest → DepthsLie t b least greatest
lie_in t a b least greatest e h = subst (λ r. DepthsLie t r least greatest) e h

held : (o : Option Bool) (deep whole : Bool) → o ≡ Some deep → IfSome o (λ d. whole ≡ true) → whole ≡ true
held o deep whole is h =
    let P : Option Bool → Type 0 = λ o. IfSome o (λ d. whole ≡ true) in
    subst P is h

pub depth_range-least-requires-clause-whole : goal.depth_range-least-requires-clause-whole
depth_range-least-requires-clause-whole c = λ both.
    let t = c.args.triangle.now in
    let r = c.rect-rect.result in
    let class = subst (λ r. IsClassOf (Cut (edge_bits c.args.mask)) t.plane.triangle r) (sym c.rect-rect.ensures) c.requires.class in
    whole_covered t c.args.mask c.args.clip r class (c.is_whole-whole.ensures both)

pub returns-then-open-clause-pixels : goal.returns-then-open-clause-pixels
returns-then-open-clause-pixels c = λ u v is.
    let t = c.args.triangle.now in
    let b = c.args.block.now in
    let clip = c.args.clip in
    let inside = c.requires.inside in
    let W : PixelRect → Type 0 = λ r. IsWhole r clip c.args.mask in
    let every = subst W c.rect-rect.ensures (c.is_whole-whole.ensures (c.is_open-open.ensures.whole c.if-open.true)) in
    c.run_open.ensures.pixels u v is
    ∙ drawn_everywhere t c.args.entry.now c.args.mask b (whole_reached t c.args.entry.now c.args.mask clip b.rect c.requires.tile c.requires.class c.requires.bounded inside every) u v is (stands_for c.args.flip.now b u v)

pub returns-then-open-clause-count : goal.returns-then-open-clause-count
returns-then-open-clause-count c =
    let t = c.args.triangle.now in
    let b = c.args.block.now in
    let clip = c.args.clip in
    let inside = c.requires.inside in
    let W : PixelRect → Type 0 = λ r. IsWhole r clip c.args.mask in
    let every = subst W c.rect-rect.ensures (c.is_whole-whole.ensures (c.is_open-open.ensures.whole c.if-open.true)) in
    c.run_open.ensures.count
    ∙ counted_everywhere t c.args.entry.now c.args.mask b (whole_reached t c.args.entry.now c.args.mask clip b.rect c.requires.tile c.requires.class c.requires.bounded inside every)

pub returns-then-hidden-clause-pixels : goal.returns-then-hidden-clause-pixels
returns-then-hidden-clause-pixels c = λ u v is.
    hidden_pixel c.args.triangle.now c.args.entry.now c.args.mask c.args.block.now c.requires.class c.depth_range-least.result.0 c.depth_range-least.result.1 (lie_in c.args.triangle.now c.rect-rect.result c.args.block.now.rect c.depth_range-least.result.0 c.depth_range-least.result.1 c.rect-rect.ensures c.depth_range-least.ensures) c.depth_bounds-stored.result c.depth_bounds-stored.ensures (c.is_hidden-hidden.ensures c.if-hidden.true) c.args.flip.now u v is

pub returns-then-hidden-clause-count : goal.returns-then-hidden-clause-count
returns-then-hidden-clause-count c =
    hidden_count c.args.triangle.now c.args.entry.now c.args.mask c.args.block.now c.requires.class c.depth_range-least.result.0 c.depth_range-least.result.1 (lie_in c.args.triangle.now c.rect-rect.result c.args.block.now.rect c.depth_range-least.result.0 c.depth_range-least.result.1 c.rect-rect.ensures c.depth_range-least.ensures) c.depth_bounds-stored.result c.depth_bounds-stored.ensures (c.is_hidden-hidden.ensures c.if-hidden.true)

pub run_alike-requires-clause-outcome : goal.run_alike-requires-clause-outcome
run_alike-requires-clause-outcome c =
    let t = c.args.triangle.now in
    let e = c.args.entry.now in
    let b = c.args.block.now in
    let deep = c.in-Some.deep in
    let whole : c.is_whole-whole.result ≡ true = held c.alike_outcome-outcome.result _ c.is_whole-whole.result c.in-Some.is c.alike_outcome-outcome.ensures.whole in
    let H : Option Bool → Type 0 = λ o. IfSome o (HasOutcome e.depth_stencil c.depth_range-least.result.0 c.depth_range-least.result.1 c.depth_bounds-stored.result) in
    let has : H (Some deep) = subst H c.in-Some.is c.alike_outcome-outcome.ensures.outcome in
    let W : PixelRect → Type 0 = λ r. IsWhole r c.args.clip c.args.mask in
    let every = subst W c.rect-rect.ensures (c.is_whole-whole.ensures whole) in
    outcome_there t e.depth_stencil b c.depth_range-least.result.0 c.depth_range-least.result.1 c.depth_bounds-stored.result deep (lie_in c.args.triangle.now c.rect-rect.result c.args.block.now.rect c.depth_range-least.result.0 c.depth_range-least.result.1 c.rect-rect.ensures c.depth_range-least.ensures) c.depth_bounds-stored.ensures
    has (whole_covered t c.args.mask c.args.clip b.rect c.requires.class every)

pub returns-in-Some-clause-pixels : goal.returns-in-Some-clause-pixels
returns-in-Some-clause-pixels c = λ u v is.
    let t = c.args.triangle.now in
    let b = c.args.block.now in
    let clip = c.args.clip in
    let inside = c.requires.inside in
    let whole : c.is_whole-whole.result ≡ true = held c.alike_outcome-outcome.result _ c.is_whole-whole.result c.in-Some.is c.alike_outcome-outcome.ensures.whole in
    let W : PixelRect → Type 0 = λ r. IsWhole r clip c.args.mask in
    let every = subst W c.rect-rect.ensures (c.is_whole-whole.ensures whole) in
    c.run_alike.ensures.pixels c.args.flip.now u v is
    ∙ drawn_everywhere t c.args.entry.now c.args.mask b (whole_reached t c.args.entry.now c.args.mask clip b.rect c.requires.tile c.requires.class c.requires.bounded inside every) u v is (stands_for c.args.flip.now b u v)

pub returns-in-Some-clause-count : goal.returns-in-Some-clause-count
returns-in-Some-clause-count c =
    let t = c.args.triangle.now in
    let b = c.args.block.now in
    let clip = c.args.clip in
    let inside = c.requires.inside in
    let whole : c.is_whole-whole.result ≡ true = held c.alike_outcome-outcome.result _ c.is_whole-whole.result c.in-Some.is c.alike_outcome-outcome.ensures.whole in
    let W : PixelRect → Type 0 = λ r. IsWhole r clip c.args.mask in
    let every = subst W c.rect-rect.ensures (c.is_whole-whole.ensures whole) in
    c.run_alike.ensures.count
    ∙ counted_everywhere t c.args.entry.now c.args.mask b (whole_reached t c.args.entry.now c.args.mask clip b.rect c.requires.tile c.requires.class c.requires.bounded inside every)

pub keep_after-requires : goal.keep_after-requires
keep_after-requires c =
    let p = c.args.triangle.now in
    let clip = c.args.clip in
    let inside = c.requires.inside in
    let W : PixelRect → Type 0 = λ r. c.is_whole-whole.result ≡ true → IsWhole r clip c.args.mask in
    let all = subst W c.rect-rect.ensures c.is_whole-whole.ensures in
    kept_if p c.args.entry.now c.args.mask c.args.flip.now c.args.block.now c.draw_under-passed.new.block clip c.depth_range-least.result.0 c.depth_range-least.result.1 c.depth_bounds-stored.result c.bounds_after-after.result c.is_whole-whole.result
    c.requires.tile c.requires.class c.requires.bounded inside (lie_in c.args.triangle.now c.rect-rect.result c.args.block.now.rect c.depth_range-least.result.0 c.depth_range-least.result.1 c.rect-rect.ensures c.depth_range-least.ensures) c.depth_bounds-stored.ensures all c.bounds_after-after.ensures c.draw_under-passed.ensures.rect c.draw_under-passed.ensures.pixels

pub returns-clause-pixels : goal.returns-clause-pixels
returns-clause-pixels c = λ u v is.
    ap (λ (b : Block). stands_for c.args.flip.now b u v) c.keep_after.ensures ∙ c.draw_under-passed.ensures.pixels u v is
