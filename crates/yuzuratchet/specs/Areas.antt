-- Whether the areas that a C caller names fit.
use Rattle.std.specs.Prelude.{◌+◌, ◌^◌, ◌%◌, Bool, false, not, ◌&&◌, ◌||◌, nat_lt, List, [], ◌∷◌, if◌then◌else◌}
use Rattle.std.specs.List.{list_any}
use Rattle.yuzuratchet.specs.declared.areas.Area.{Area}
use Rattle.yuzuratchet.specs.declared.areas.Misfit.{Misfit}
use Rattle.yuzuratchet.specs.declared.areas.Misfit.TheVariants as misfits

abbrev pub is_null : Area → Bool
is_null a = not (nat_lt 0 a.at)

abbrev pub is_empty : Area → Bool
is_empty a = not (nat_lt 0 a.size)

-- 2^63 bytes or more, or past the last address
abbrev pub is_large : Area → Bool
is_large a = not (nat_lt a.size (2 ^ 63)) || nat_lt (2 ^ 64) (a.at + a.size)

-- they share a byte
abbrev pub overlap : Area → Area → Bool
overlap a b = nat_lt a.at (b.at + b.size) && nat_lt b.at (a.at + a.size)

-- two of them overlap
abbrev pub any_overlap : List Area → Bool
any_overlap [] = false
any_overlap (a ∷ rest) = list_any (overlap a) rest || any_overlap rest

-- its address is no multiple of what it has to be one of, if it has to be of any
abbrev pub is_misaligned : Area → Bool
is_misaligned a = nat_lt 0 a.align && nat_lt 0 (a.at % a.align)

-- why areas don't fit, by the first reason that holds of any
abbrev pub misfit_of : List Area → Misfit
misfit_of areas =
    if list_any is_null areas then misfits.Null else
    if list_any is_empty areas then misfits.Empty else
    if list_any is_large areas then misfits.Large else
    if any_overlap areas then misfits.Overlap else
    if list_any is_misaligned areas then misfits.Misaligned else misfits.None
