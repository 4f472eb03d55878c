-- Laws of the bytes of an image.
use Rattle.std.proofs.Common.{◌≡◌, ◌∙◌, sym, ap, refl, arith, ℕ, true, zero, suc, ◌+◌, ◌-◌, ◌*◌, ◌<◌, ◌≤◌, List, [], ◌∷◌, ◌++◌, length, get_or, map, take, Result, Ok, Err, append_assoc, length-append}
use Rattle.std.specs.Prelude.{IfErr}
use Rattle.std.specs.List.{flat_map, range_with_len}
use Rattle.std.proofs.Math.Seq.{take-append-add}
use Rattle.std.proofs.lemmas.List.{take-append-le, length-take-le, get_or-take, map-id, append-nil}
use Rattle.std.proofs.Math.Nat.{mul-le-mul_left}
use Rattle.std.proofs.lemmas.Bool.Decides.{nat_tests}
use Rattle.gfxspec.specs.Limits.{is_size}
use Rattle.std.proofs.lemmas.List.Concat.{flat_map-append}
use Rattle.std.proofs.lemmas.List.FromFn.{fill_by_all, map-range_with_len_more}
use Rattle.gfxspec.specs.declared.geometry.Size.{Size}
use Rattle.gfxspec.specs.declared.pixel.Pixel.{Pixel}
use Rattle.tga.specs.Image.{header_bytes, kept_color, row_bytes, rows_bytes, image_bytes}

-- ---- lists of pieces

range_push : (a n : ℕ) → range_with_len a (n + 1) ≡ range_with_len a n ++ (a + n) ∷ []
range_push a n =
    sym (map-id (range_with_len a (n + 1))) ∙ map-range_with_len_more (λ x. x) a n (a + n) refl ∙ ap (λ xs. xs ++ (a + n) ∷ []) (map-id (range_with_len a n))

pub range_cut : (a m n : ℕ) → range_with_len a (m + n) ≡ range_with_len a m ++ range_with_len (a + m) n
range_cut a zero n =
    let e : zero + n ≡ n = omega arith in
    let f : a ≡ a + zero = omega arith in
    ap (range_with_len a) e ∙ ap (λ b. range_with_len b n) f
range_cut a (suc m) n =
    let e : suc m + n ≡ suc (m + n) = omega arith in
    let f : (a + 1) + m ≡ a + suc m = omega arith in
    ap (range_with_len a) e ∙ ap (λ xs. a ∷ xs) (range_cut (a + 1) m n) ∙ ap (λ b. a ∷ (range_with_len (a + 1) m ++ range_with_len b n)) f

-- pieces of one length
length-pieces : (f : ℕ → List ℕ) (size : ℕ) → ((x : ℕ) → length (f x) ≡ size) → (a n : ℕ) → length (flat_map f (range_with_len a n)) ≡ size * n
length-pieces f size each a zero = omega arith
length-pieces f size each a (suc n) =
    omega (arith, length-append (f a) (flat_map f (range_with_len (a + 1) n)), each a, length-pieces f size each (a + 1) n)

flat_map-map : (f : ℕ → List ℕ) (xs : List ℕ) → flat_map (λ x. x) (map f xs) ≡ flat_map f xs
flat_map-map f [] = refl
flat_map-map f (x ∷ xs) = ap (λ ys. f x ++ ys) (flat_map-map f xs)

-- a list that holds the pieces at its front
pub pieces_of : (f : ℕ → List ℕ) (rows : List (List ℕ)) (n : ℕ) → n ≤ length rows → ((x : ℕ) → x < n → get_or rows x [] ≡ f x) → flat_map (λ x. x) (take n rows) ≡ flat_map f (range_with_len 0 n)
pieces_of f rows n h each =
    ap (flat_map (λ x. x)) (fill_by_all f (take n rows) n [] (length-take-le n rows h) (λ k below. get_or-take n rows k [] below ∙ each k below)) ∙ flat_map-map f (range_with_len 0 n)

same_pieces : (f g : ℕ → List ℕ) (a n : ℕ) → ((x : ℕ) → x < a + n → f x ≡ g x) → flat_map f (range_with_len a n) ≡ flat_map g (range_with_len a n)
same_pieces f g a zero same = refl
same_pieces f g a (suc n) same =
    ap (λ xs. xs ++ flat_map f (range_with_len (a + 1) n)) (same a (omega arith))
    ∙ ap (λ xs. g a ++ xs) (same_pieces f g (a + 1) n (λ x below. same x (omega arith)))

-- ---- the rows

pub length-row : (width : ℕ) (pixels : ℕ → ℕ → Pixel) (y : ℕ) → length (row_bytes width pixels y) ≡ 4 * width
length-row width pixels y = length-pieces (λ x. kept_color (pixels x y).rgba) 4 (λ x. refl) 0 width

pub length-rows : (width height : ℕ) (pixels : ℕ → ℕ → Pixel) → length (rows_bytes width height pixels) ≡ 4 * width * height
length-rows width height pixels = length-pieces (row_bytes width pixels) (4 * width) (length-row width pixels) 0 height

pub length-image : (size : Size) (pixels : ℕ → ℕ → Pixel) → length (image_bytes size pixels) ≡ 18 + 4 * size.width * size.height
length-image size pixels =
    length-append (header_bytes size) (rows_bytes size.width size.height pixels) ∙ ap (λ n. 18 + n) (length-rows size.width size.height pixels)

pub rows_more : (width y : ℕ) (pixels : ℕ → ℕ → Pixel) → rows_bytes width (y + 1) pixels ≡ rows_bytes width y pixels ++ row_bytes width pixels y
rows_more width y pixels =
    let f = row_bytes width pixels in
    let z : 0 + y ≡ y = omega arith in
    ap (flat_map f) (range_push 0 y) ∙ flat_map-append f (range_with_len 0 y) ((0 + y) ∷ []) ∙ ap (λ i. rows_bytes width y pixels ++ (f i ++ [])) z
    ∙ ap (λ row. rows_bytes width y pixels ++ row) (append-nil (f y))

-- the image depends on the pixels of its size alone
pub same_image : (size : Size) (f g : ℕ → ℕ → Pixel) → ((x y : ℕ) → x < size.width → y < size.height → f x y ≡ g x y) → image_bytes size f ≡ image_bytes size g
same_image size f g same =
    ap (λ rows. header_bytes size ++ rows)
    (same_pieces (row_bytes size.width f) (row_bytes size.width g) 0 size.height
    (λ y high. same_pieces (λ x. kept_color (f x y).rgba) (λ x. kept_color (g x y).rgba) 0 size.width
    (λ x wide. ap (λ (p : Pixel). kept_color p.rgba) (same x y (omega arith) (omega arith)))))

-- ---- the image so far

-- the header and some rows
abbrev pub so_far : Size → (ℕ → ℕ → Pixel) → ℕ → List ℕ
so_far size pixels y = header_bytes size ++ rows_bytes size.width y pixels

length-so_far : (size : Size) (pixels : ℕ → ℕ → Pixel) (y : ℕ) → length (so_far size pixels y) ≡ 18 + 4 * size.width * y
length-so_far size pixels y = length-append (header_bytes size) (rows_bytes size.width y pixels) ∙ ap (λ n. 18 + n) (length-rows size.width y pixels)

rows_behind : Size → (ℕ → ℕ → Pixel) → ℕ → List ℕ
rows_behind size pixels y = flat_map (row_bytes size.width pixels) (range_with_len (0 + y) (size.height - y))

image_cut : (size : Size) (pixels : ℕ → ℕ → Pixel) (y : ℕ) → y ≤ size.height → image_bytes size pixels ≡ so_far size pixels y ++ rows_behind size pixels y
unfolding rows_behind
image_cut size pixels y high =
    let f = row_bytes size.width pixels in
    let rest = size.height - y in
    let e : size.height ≡ y + rest = omega arith in
    ap (λ n. header_bytes size ++ flat_map f (range_with_len 0 n)) e ∙ ap (λ r. header_bytes size ++ flat_map f r) (range_cut 0 y rest)
    ∙ ap (λ r. header_bytes size ++ r) (flat_map-append f (range_with_len 0 y) (range_with_len (0 + y) rest))
    ∙ sym (append_assoc (header_bytes size) (rows_bytes size.width y pixels) (flat_map f (range_with_len (0 + y) rest)))

-- a sink took the bytes xs and others wait, and one row more is added
pub added_row : (size : Size) (pixels : ℕ → ℕ → Pixel) (start old new row : List ℕ) (y : ℕ) → row ≡ row_bytes size.width pixels y → old ≡ start ++ so_far size pixels y → new ≡ old ++ row → new ≡ start ++ so_far size pixels (y + 1)
added_row size pixels start old new row y is at more =
    let rows = rows_bytes size.width y pixels in
    more ∙ ap (λ xs. xs ++ row) at ∙ append_assoc start (header_bytes size ++ rows) row ∙ ap (λ xs. start ++ xs) (append_assoc (header_bytes size) rows row)
    ∙ ap (λ xs. start ++ (header_bytes size ++ (rows ++ xs))) is ∙ ap (λ xs. start ++ (header_bytes size ++ xs)) (sym (rows_more size.width y pixels))

pub counted_row : (width : ℕ) (pixels : ℕ → ℕ → Pixel) (row : List ℕ) (y count n : ℕ) → row ≡ row_bytes width pixels y → count ≡ 18 + 4 * width * y → n ≡ count + length row → n ≡ 18 + 4 * width * (y + 1)
counted_row width pixels row y count n is at more = omega (arith, ap length is, length-row width pixels y)

-- a sink took the bytes xs, t of them of the image, and failed amid those that wait
pub failed_at : (size : Size) (pixels : ℕ → ℕ → Pixel) (y : ℕ) (start xs ys new : List ℕ) (t f : ℕ) → y ≤ size.height → xs ++ ys ≡ start ++ so_far size pixels y → t + length ys ≡ 18 + 4 * size.width * y → t ≤ f → f < t + length ys → new ≡ xs ++ take (f - t) ys → new ≡ start ++ take f (image_bytes size pixels)
failed_at size pixels y start xs ys new t f high whole count from to took =
    let s = so_far size pixels y in
    let long : length xs + (f - t) ≡ length start + f = omega (arith, ap length whole, length-append xs ys, length-append start s, length-so_far size pixels y, count, from, to) in
    let part : take f s ≡ take f (image_bytes size pixels) =
    sym (take-append-le f s (rows_behind size pixels y) (omega (arith, length-so_far size pixels y, count, to))) ∙ ap (take f) (sym (image_cut size pixels y high)) in
    took ∙ sym (take-append-add xs ys (f - t)) ∙ ap (take (length xs + (f - t))) whole ∙ ap (λ n. take n (start ++ s)) long ∙ take-append-add start s f ∙ ap (λ r. start ++ r) part

pub ends_in_image : (size : Size) (pixels : ℕ → ℕ → Pixel) (y n t f : ℕ) → y ≤ size.height → t + n ≡ 18 + 4 * size.width * y → f < t + n → f < length (image_bytes size pixels)
ends_in_image size pixels y n t f high count to = omega (arith, count, to, length-image size pixels, mul-le-mul_left (4 * size.width) high)

-- the same of a result
pub fails_in_image : {T E : Type 0} (r : Result T E) (taken : E → ℕ) (size : Size) (pixels : ℕ → ℕ → Pixel) (y : ℕ) (start xs ys new : List ℕ) (t : ℕ) → y ≤ size.height → t + length ys ≡ 18 + 4 * size.width * y → IfErr r (λ e. taken e < t + length ys)
    → (xs ++ ys ≡ start ++ so_far size pixels y → IfErr r (λ e. t ≤ taken e) → IfErr r (λ e. new ≡ xs ++ take (taken e - t) ys) → IfErr r (λ e. new ≡ start ++ take (taken e) (image_bytes size pixels))) × IfErr r (λ e. taken e < length (image_bytes size pixels))
fails_in_image (Ok x) taken size pixels y start xs ys new t high count to = (λ whole from part. tt, tt)
fails_in_image (Err e) taken size pixels y start xs ys new t high count to =
    (λ whole from part. failed_at size pixels y start xs ys new t (taken e) high whole count from to part, ends_in_image size pixels y (length ys) t (taken e) high count to)

pub few_pixels : (size : Size) → is_size size ≡ true → size.width ≤ 4096
few_pixels size h = grind (arith, nat_tests)
