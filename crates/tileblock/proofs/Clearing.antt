-- The pixels of a block behind clears that are noted.
use Rattle.std.proofs.Common.{◌≡◌, ◌∙◌, ap, refl, sym, ℕ, ◌<◌, List, [], ◌∷◌, Option, Some, None, get_or, unwrap_or, Bool, true, false, IsTrue}
use Rattle.std.specs.Prelude.{IfSome}
use Rattle.std.proofs.lemmas.List.{get_or-replicate}
use Rattle.std.specs.Int.{w32, to_le_bytes, from_le_bytes}
use Rattle.gfxspec.specs.declared.geometry.PixelRect.{PixelRect}
use Rattle.gfxspec.specs.declared.pixel.Pixel.{Pixel}
use Rattle.gfxspec.specs.declared.pixel.DepthStencil.{DepthStencil}
use Rattle.gfxspec.specs.Items.{opening}
use Rattle.tileblock.specs.Block.{Block, pixel_at}
use Rattle.tileblock.specs.Cleared.{color_cleared, depth_stencil_cleared, stored_in, behind_color, behind_depth_stencil, behind_clears, plain_color}
use Rattle.tileblock.proofs.PixelLaws.{pixel_at_cleared_color, pixel_at_cleared_depth, pixel_at_new}

-- each of eight lanes that hold the same
pub eight_alike : (n j : ℕ) → j < 8 → get_or (n ∷ n ∷ n ∷ n ∷ n ∷ n ∷ n ∷ n ∷ []) j 0 ≡ n
eight_alike n j h = get_or-replicate 8 j n 0 h

cleared_color : (b : Block) (rgba : List ℕ) (x y : ℕ) → pixel_at (color_cleared rgba b) x y ≡ record { rgba = to_le_bytes w32 (from_le_bytes w32 rgba); ds = (pixel_at b x y).ds }
cleared_color b rgba x y = pixel_at_cleared_color b (color_cleared rgba b) x y (from_le_bytes w32 rgba) _ refl refl refl refl

cleared_depth : (b : Block) (v : DepthStencil) (x y : ℕ) → pixel_at (depth_stencil_cleared v b) x y ≡ record { rgba = (pixel_at b x y).rgba; ds = v }
cleared_depth b v x y = pixel_at_cleared_depth b (depth_stencil_cleared v b) x y v.depth v.stencil refl refl refl

module _ (rect : PixelRect) (stored : List Block) (x y : ℕ) where
  abbrev at : Option (List ℕ) → Option DepthStencil → Pixel
  at color ds = pixel_at (behind_clears rect stored color ds) x y

  color_behind : (b : Block) (ds : Option DepthStencil) → (pixel_at (behind_depth_stencil ds b) x y).rgba ≡ (pixel_at b x y).rgba
  color_behind b None = refl
  color_behind b (Some v) = refl

  pub color_is : (color : Option (List ℕ)) (ds : Option DepthStencil) (rgba : List ℕ) → color ≡ Some rgba → (at color ds).rgba ≡ to_le_bytes w32 (from_le_bytes w32 rgba)
  color_is color ds rgba e = rw e (color_behind (color_cleared rgba (stored_in rect stored)) ds ∙ ap (λ (p : Pixel). p.rgba) (cleared_color (stored_in rect stored) rgba x y))

  pub color_stays : (color : Option (List ℕ)) (ds : Option DepthStencil) → color ≡ None → (at color ds).rgba ≡ (pixel_at (stored_in rect stored) x y).rgba
  color_stays color ds e = rw e (color_behind (stored_in rect stored) ds)

  depth_behind : (b : Block) (color : Option (List ℕ)) → (pixel_at (behind_color color b) x y).ds ≡ (pixel_at b x y).ds
  depth_behind b None = refl
  depth_behind b (Some rgba) = refl

  pub depth_is : (color : Option (List ℕ)) (ds : Option DepthStencil) (v : DepthStencil) → ds ≡ Some v → (at color ds).ds ≡ v
  depth_is color ds v e = rw e (ap (λ (p : Pixel). p.ds) (cleared_depth (behind_color color (stored_in rect stored)) v x y))

  pub depth_stays : (color : Option (List ℕ)) (ds : Option DepthStencil) → ds ≡ None → (at color ds).ds ≡ (pixel_at (stored_in rect stored) x y).ds
  depth_stays color ds e = rw e (depth_behind (stored_in rect stored) color)

pub none_stored : (rect : PixelRect) (stored : List Block) (x y : ℕ) → stored ≡ [] → pixel_at (stored_in rect stored) x y ≡ opening
none_stored rect stored x y e = rw e (pixel_at_new (stored_in rect []) x y refl refl refl)

-- a colour that shows without a look at stored pixels is that of each pixel
pub plain_is : (rect : PixelRect) (stored : List Block) (x y : ℕ) (color : Option (List ℕ)) (ds : Option DepthStencil) (empty : Bool) (n : ℕ) → (IsTrue empty → stored ≡ []) → plain_color color empty ≡ Some n → to_le_bytes w32 n ≡ (pixel_at (behind_clears rect stored color ds) x y).rgba
plain_is rect stored x y (Some rgba) ds empty n none e = ap (to_le_bytes w32) (sym (same _ n e)) ∙ sym (color_is rect stored x y (Some rgba) ds rgba refl)
  where
    same : (a b : ℕ) → Some a ≡ Some b → a ≡ b
    same a b h = cc
plain_is rect stored x y None ds true n none e = ap (to_le_bytes w32) (sym (same _ n e)) ∙ sym (color_stays rect stored x y None ds refl ∙ ap (λ (p : Pixel). p.rgba) (none_stored rect stored x y (none refl)))
  where
    same : (a b : ℕ) → Some a ≡ Some b → a ≡ b
    same a b h = cc
plain_is rect stored x y None ds false n none e = absurd cc

pub plain_shows : (rect : PixelRect) (stored : List Block) (color : Option (List ℕ)) (ds : Option DepthStencil) (empty : Bool) (shown : Option ℕ) → (IsTrue empty → stored ≡ []) → shown ≡ plain_color color empty → IfSome shown (λ n. (x y : ℕ) → to_le_bytes w32 n ≡ (pixel_at (behind_clears rect stored color ds) x y).rgba)
plain_shows rect stored color ds empty None none e = record {}
plain_shows rect stored color ds empty (Some n) none e = λ x y. plain_is rect stored x y color ds empty n none (sym e)

-- where none shows, no clear is noted
pub plain_none : (color : Option (List ℕ)) (empty : Bool) → plain_color color empty ≡ None → (color ≡ None) × (empty ≡ false)
plain_none (Some rgba) empty e = absurd cc
plain_none None true e = absurd cc
plain_none None false e = (refl, refl)

-- one more clear is noted
abbrev made : List ℕ → DepthStencil → Pixel
made rgba ds = record { rgba = rgba; ds = ds }

pub same_pixel : (a b : Pixel) → a.rgba ≡ b.rgba → a.ds ≡ b.ds → a ≡ b
same_pixel a b e f = ap (λ rgba. made rgba a.ds) e ∙ ap (made b.rgba) f

module _ (rect : PixelRect) (stored : List Block) (x y : ℕ) where
  after_color : (ds : Option DepthStencil) (color : Option (List ℕ)) (rgba : List ℕ) → (pixel_at (behind_clears rect stored (Some rgba) ds) x y).ds ≡ (pixel_at (behind_clears rect stored color ds) x y).ds
  after_color None None rgba = refl
  after_color None (Some c) rgba = refl
  after_color (Some v) None rgba = refl
  after_color (Some v) (Some c) rgba = refl

  pub cleared_behind : (color : Option (List ℕ)) (ds : Option DepthStencil) (rgba : List ℕ) → to_le_bytes w32 (from_le_bytes w32 rgba) ≡ rgba → pixel_at (behind_clears rect stored (Some rgba) ds) x y ≡ record { rgba = rgba; ds = (pixel_at (behind_clears rect stored color ds) x y).ds }
  cleared_behind color ds rgba bytes = same_pixel _ _ (color_is rect stored x y (Some rgba) ds rgba refl ∙ bytes) (after_color ds color rgba)

  after_depth : (ds : Option DepthStencil) (b : Block) (v : DepthStencil) → (pixel_at (depth_stencil_cleared v b) x y).rgba ≡ (pixel_at (behind_depth_stencil ds b) x y).rgba
  after_depth None b v = refl
  after_depth (Some w) b v = refl

  pub deepened_behind : (color : Option (List ℕ)) (ds : Option DepthStencil) (v : DepthStencil) → pixel_at (behind_clears rect stored color (Some v)) x y ≡ record { rgba = (pixel_at (behind_clears rect stored color ds) x y).rgba; ds = v }
  deepened_behind color ds v = same_pixel _ _ (after_depth ds (behind_color color (stored_in rect stored)) v) (depth_is rect stored x y color (Some v) v refl)

-- a pixel by what is stored and what is noted
module _ (rect : PixelRect) (stored : List Block) (x y : ℕ) (p : Pixel) (is : p ≡ pixel_at (stored_in rect stored) x y) where
  color_by : (color : Option (List ℕ)) (ds : Option DepthStencil) → ((rgba : List ℕ) → color ≡ Some rgba → to_le_bytes w32 (from_le_bytes w32 rgba) ≡ rgba) → unwrap_or color p.rgba ≡ (pixel_at (behind_clears rect stored color ds) x y).rgba
  color_by None ds bytes = ap (λ (q : Pixel). q.rgba) is ∙ sym (color_stays rect stored x y None ds refl)
  color_by (Some rgba) ds bytes = sym (color_is rect stored x y (Some rgba) ds rgba refl ∙ bytes rgba refl)

  depth_by : (color : Option (List ℕ)) (ds : Option DepthStencil) → unwrap_or ds p.ds ≡ (pixel_at (behind_clears rect stored color ds) x y).ds
  depth_by color None = ap (λ (q : Pixel). q.ds) is ∙ sym (depth_stays rect stored x y color None refl)
  depth_by color (Some v) = sym (depth_is rect stored x y color (Some v) v refl)

  pub pixel_by : (color : Option (List ℕ)) (ds : Option DepthStencil) → ((rgba : List ℕ) → color ≡ Some rgba → to_le_bytes w32 (from_le_bytes w32 rgba) ≡ rgba) → record { rgba = unwrap_or color p.rgba; ds = unwrap_or ds p.ds } ≡ pixel_at (behind_clears rect stored color ds) x y
  pixel_by color ds bytes = same_pixel _ _ (color_by color ds bytes) (depth_by color ds)
