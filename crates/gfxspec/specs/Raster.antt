-- Which pixel centres a triangle covers (Direct3D 11.3 Functional Specification, "Pixel Coordinate System" for centres, "Rasterization Rules" for triangles and the top-left rule). A position is a pair of whole numbers of 1/256 pixel; x grows to the right, y grows downwards.
use Rattle.std.specs.Prelude.{ℕ, zero, suc, ◌+◌, ◌*◌, Bool, not, ◌&&◌, ◌||◌, ℤ, pos, ◌-ℤ◌, ◌*ℤ◌, int_lt}
use Rattle.std.specs.Ordering.{int_eq}

pub record Point : Type 0 where
  pub x : ℤ
  pub y : ℤ

-- three snapped positions, the leading vertex first
pub record Triangle : Type 0 where
  pub first : Point
  pub second : Point
  pub third : Point

-- an edge, and the vertex opposite to it
pub record Edge : Type 0 where
  pub start : Point
  pub end : Point
  pub opposite : Point

-- edge i lies opposite vertex i
abbrev pub edge : Triangle → ℕ → Edge
edge t zero = record { start = t.second; end = t.third; opposite = t.first }
edge t (suc zero) = record { start = t.third; end = t.first; opposite = t.second }
edge t (suc (suc _)) = record { start = t.first; end = t.second; opposite = t.third }

-- the centre of pixel (x, y)
abbrev pub centre : ℕ → ℕ → Point
centre x y = record { x = pos (256 * x + 128); y = pos (256 * y + 128) }

-- twice the area of a b p, with a sign: above 0, 0 or below 0 as p is on the one side of the line from a to b, on it, or on the other side
abbrev pub side : Point → Point → Point → ℤ
side a b p = (b.x -ℤ a.x) *ℤ (p.y -ℤ a.y) -ℤ (b.y -ℤ a.y) *ℤ (p.x -ℤ a.x)

-- the side of p, as seen from an edge
abbrev pub side_of : Edge → Point → ℤ
side_of e p = side e.start e.end p

-- both above 0, or both below 0
abbrev pub same_strict_side : ℤ → ℤ → Bool
same_strict_side u v = (int_lt (pos 0) u && int_lt (pos 0) v) || (int_lt u (pos 0) && int_lt v (pos 0))

-- a top edge is exactly horizontal, and above the opposite vertex
abbrev pub is_top : Edge → Bool
is_top e = int_eq e.start.y e.end.y && int_lt e.start.y e.opposite.y

-- c lies to the right of the line through a and b, where a is above b
abbrev pub right_of : Point → Point → Point → Bool
right_of a b c = int_lt ((c.y -ℤ a.y) *ℤ (b.x -ℤ a.x)) ((c.x -ℤ a.x) *ℤ (b.y -ℤ a.y))

-- a left edge is not horizontal, and the opposite vertex lies to its right
abbrev pub is_left : Edge → Bool
is_left e = (int_lt e.start.y e.end.y && right_of e.start e.end e.opposite) || (int_lt e.end.y e.start.y && right_of e.end e.start e.opposite)

-- an edge holds at p where p is strictly on the opposite vertex's side, or on the line of a top or left edge
abbrev pub edge_holds : Edge → Point → Bool
edge_holds e p =
    same_strict_side (side_of e p) (side_of e e.opposite) || (int_eq (side_of e p) (pos 0) && (is_top e || is_left e))

-- twice the area, with the sign of the order of the vertices: above 0 where they go round clockwise on the target
abbrev pub area : Triangle → ℤ
area t = side t.first t.second t.third

abbrev pub is_empty : Triangle → Bool
is_empty t = int_eq (area t) (pos 0)

-- a triangle covers p where its area is not 0 and its three edges hold
abbrev pub covers : Triangle → Point → Bool
covers t p = not (is_empty t) && (edge_holds (edge t 0) p && (edge_holds (edge t 1) p && edge_holds (edge t 2) p))
