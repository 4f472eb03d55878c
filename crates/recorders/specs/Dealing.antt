-- Whose each line of a scene is: the recorder's of its deferred context, or the caller's (this project's own).
use Rattle.std.specs.Prelude.{ℕ, ◌≡◌, ◌≤◌, ◌+◌, ◌%◌, ◌==◌, List, [], ◌∷◌, length, slice_index_or, if◌then◌else◌}
use Rattle.scenetext.specs.Scene.{Actor, Immediate, Deferred, Line}

-- recorders 0 to 3 take the lines of contexts k and k + 4, and 4 is the caller, who takes those of the immediate context
abbrev pub taker_of : Actor → ℕ
taker_of Immediate = 4
taker_of (Deferred k) = k % 4

-- the places of the lines of taker t, where the first of these lines has place i
abbrev pub places_of : ℕ → ℕ → List Line → List ℕ
places_of t i [] = []
places_of t i (l ∷ ls) = if taker_of l.actor == t then i ∷ places_of t (i + 1) ls else places_of t (i + 1) ls

-- the place of line n of those of taker t, or the one behind all lines
abbrev pub place_at : ℕ → List Line → ℕ → ℕ
place_at t ls n = slice_index_or (places_of t 0 ls) n (length ls)

-- a row for each of five takers, with the places of its lines
abbrev pub AreDealt : List Line → List (List ℕ) → Type 0
AreDealt ls rows = (5 ≤ length rows) × ((t : ℕ) → slice_index_or rows t [] ≡ places_of t 0 ls)
