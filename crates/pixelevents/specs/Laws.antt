-- What the history of a pixel tells: what its items leave there, and what they count.
use Rattle.std.specs.Prelude.{ℕ, ◌≡◌, ◌+◌, ◌==◌, Bool, false, ◌&&◌, List, [], ◌∷◌, ◌++◌, length, count_by, Option, Some, slice_get}
use Rattle.std.specs.List.{list_any}
use Rattle.gfxspec.specs.declared.pixel.Pixel.{Pixel}
use Rattle.gfxspec.specs.State.{Settings}
use Rattle.gfxspec.specs.Assembly.{Primitive}
use Rattle.gfxspec.specs.Items.{Item, Drawn, after_items, count_at}
use Rattle.gfxspec.specs.Recorded.{drawn_items}
use Rattle.pixelevents.specs.declared.Event.{Event}
use Rattle.pixelevents.specs.History.{event, history_from}

-- what the last event left, or what there was before where there is none
abbrev pub left_by : Pixel → List Event → Pixel
left_by old [] = old
left_by old (e ∷ es) = left_by e.after es

-- each event found what the one before it left
abbrev pub IsChain : Pixel → List Event → Type 0
IsChain old [] = Unit {0}
IsChain old (e ∷ es) = (e.before ≡ old) × IsChain e.after es

-- the issues that are open at an item
abbrev pub issues_at : Option Item → List ℕ
issues_at (Some (Drawn p s opened)) = opened
issues_at item = []

-- an event of an item of the issue that passed both tests
abbrev pub is_counted : ℕ → List Item → Event → Bool
is_counted issue items e = e.passed && list_any (λ k. k == issue) (issues_at (slice_get items e.item))

abbrev pub LastIsWhatIsLeft : Type 0
LastIsWhatIsLeft =
    (k : ℕ) (items : List Item) (x y : ℕ) (old : Pixel) → left_by old (history_from k items x y old) ≡ after_items items x y old

abbrev pub CountsAreOfIssues : Type 0
CountsAreOfIssues =
    (issue : ℕ) (items : List Item) (x y : ℕ) (old : Pixel) → count_by (is_counted issue items) (history_from 0 items x y old) ≡ count_at issue items x y old

abbrev pub EachFindsWhatWasLeft : Type 0
EachFindsWhatWasLeft = (k : ℕ) (items : List Item) (x y : ℕ) (old : Pixel) → IsChain old (history_from k items x y old)

-- the history under two lists is that under the first, and behind it that under the second from what the first left
abbrev pub HistoriesFollow : Type 0
HistoriesFollow =
    (k : ℕ) (front back : List Item) (x y : ℕ) (old : Pixel) → history_from k (front ++ back) x y old ≡ history_from k front x y old ++ history_from (k + length front) back x y (after_items front x y old)

-- which issues are open at triangles changes no history
abbrev pub OpenIssuesChangeNothing : Type 0
OpenIssuesChangeNothing =
    (k : ℕ) (s : Settings) (o q : List ℕ) (ps : List Primitive) (x y : ℕ) (old : Pixel) → history_from k (drawn_items s o ps) x y old ≡ history_from k (drawn_items s q ps) x y old

-- a triangle that failed a test leaves the colour
abbrev pub FailedWritesNoColor : Type 0
FailedWritesNoColor =
    (k : ℕ) (p : Primitive) (s : Settings) (opened : List ℕ) (x y : ℕ) (old : Pixel) → (event k (Drawn p s opened) x y old).passed ≡ false → (event k (Drawn p s opened) x y old).after.rgba ≡ old.rgba
