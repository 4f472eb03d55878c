-- Where a triangle begins, from where its rows and its columns begin.
use Rattle.std.proofs.Common.{arith, ◌≡◌, ℕ, ◌+◌, ◌*◌, ◌/◌, ◌≤◌}
use Rattle.std.specs.Prelude.{ℤ, pos, negsuc, ◌+ℤ◌, ◌-ℤ◌, ◌≤ℤ◌, unsigned_abs}
use Rattle.std.specs.Int.{int_max}
use Rattle.std.proofs.lemmas.Int.{ints}
use Rattle.gfxspec.specs.Raster.{Triangle}
use Rattle.edges.specs.Extremes.{least_of, greatest_of}
use Rattle.depthplane.specs.declared.start.LineStart.{LineStart}
use Rattle.depthplane.specs.Start.{IsLineStart, IsStartOf}

pub start_of : (t : Triangle) (a b : LineStart) → IsLineStart a (least_of t.first.x t.second.x t.third.x) (greatest_of t.first.x t.second.x t.third.x) → IsLineStart b (least_of t.first.y t.second.y t.third.y) (greatest_of t.first.y t.second.y t.third.y) → IsStartOf (record { left = a.first; top = b.first; steps = a.steps + b.steps }) t
start_of t a b across down = record {
  left = λ x y w. across.first x w.left;
  top = λ x y w. down.first y w.top;
  steps = λ x y w. let p = across.steps x w.right in let q = down.steps y w.bottom in omega (arith, p, q);
}

first_is : (least : ℤ) (x : ℕ) → least ≤ℤ pos (256 * x + 128) → unsigned_abs (int_max least (pos 0)) / 256 ≤ x
first_is (pos n) x h = grind (arith, ints)
first_is (negsuc n) x h = grind (arith, ints)

steps_is : (least greatest : ℤ) (x : ℕ) → least ≤ℤ greatest → pos (256 * x + 128) ≤ℤ greatest → x ≤ unsigned_abs (int_max least (pos 0)) / 256 + unsigned_abs (greatest -ℤ least +ℤ pos 127) / 256
steps_is (pos n) greatest x o h = grind (arith, ints)
steps_is (negsuc n) greatest x o h = grind (arith, ints)

pub line_start_is : (least greatest low : ℤ) → least ≤ℤ greatest → low ≡ int_max least (pos 0) → IsLineStart (record { first = unsigned_abs low / 256; steps = unsigned_abs (greatest -ℤ least +ℤ pos 127) / 256 }) least greatest
line_start_is least greatest low order is = rw is (record { first = first_is least; steps = λ x. steps_is least greatest x order })
