-- A session, and the immediate context behind it: the steps up to the last run, what the context keeps of them, and in which run an issue lies (Microsoft Learn, ID3D11DeviceContext::ExecuteCommandList; Direct3D 11.3 Functional Specification, "Asynchronous Notification").
use Rattle.std.specs.Prelude.{ℕ, ◌≡◌, ◌+◌, ◌<◌, Bool, true, false, List, [], ◌∷◌, ◌++◌, length, map, Option, None, is_none, if◌then◌else◌}
use Rattle.std.specs.List.{list_any}
use Rattle.gfxspec.specs.declared.TheConstants.{QUERY_LIMIT}
use Rattle.gfxspec.specs.declared.geometry.Size.{Size}
use Rattle.gfxspec.specs.declared.pixel.Pixel.{Pixel}
use Rattle.gfxspec.specs.Items.{Item, after_items, issue_count, opening}
use Rattle.gfxspec.specs.Commands.{Command}
use Rattle.gfxspec.specs.Recorded.{items, issues, settings_after, queries_open}
use Rattle.gfxspec.specs.Session as session
use Rattle.gfxspec.specs.Session.{Step, Records, Executes, Flushes, all_run, items_of_session, settings_now, open_now, last_issue}
use Rattle.gfxspec.specs.Predication.{performed_session}
use Rattle.gfxspec.specs.Accepted.{AreAccepted}
use Rattle.meaning.specs.Contexts.{Context, counted_or, result_at, shown, answered}
use Rattle.meaning.specs.Renumbering.{renumbered}

-- ---- what a session comes to

-- what each pixel of a new target holds after the steps
abbrev pub session_pixels : Size → List Step → ℕ → ℕ → Pixel
session_pixels size steps x y = after_items (items_of_session (performed_session size steps)) x y opening

-- the count of the last issue of a query, if there is one
abbrev pub session_result : Size → List Step → ℕ → Option ℕ
session_result size steps q =
    counted_or None (last_issue q (performed_session size steps)) (items_of_session (performed_session size steps)) size (λ x y. opening)

-- how many issues the steps begin, which is the number of the next one
abbrev pub issues_begun : List Step → ℕ
issues_begun steps = length (issues (all_run steps))

-- ---- up to the last run

-- a step that runs the pending commands
abbrev pub is_run : Step → Bool
is_run (Records c) = false
is_run (Executes commands restore) = true
is_run Flushes = true

-- the steps up to the last run
abbrev pub settled : List Step → List Step
settled [] = []
settled (s ∷ ss) = if list_any is_run (s ∷ ss) then s ∷ settled ss else []

-- What the context keeps behind the steps: the pixels and results are those of the last run, where no query was open; the pending commands were accepted.
pub record Stands (size : Size) (steps : List Step) (c : Context) : Type 0 where
  pub pixels : (x y : ℕ) → x < size.width → y < size.height → c.stored x y ≡ session_pixels size (settled steps) x y
  pub results : (q : ℕ) → q < QUERY_LIMIT → result_at c.results q ≡ session_result size (settled steps) q
  pub none_open : open_now (settled steps) ≡ []
  pub pending : c.pending ≡ session.pending steps
  pub accepted : AreAccepted c.pending

-- What the context shows behind the steps: what the session comes to.
pub record Shows (size : Size) (steps : List Step) (c : Context) : Type 0 where
  pub pixels : (x y : ℕ) → x < size.width → y < size.height → shown c x y ≡ session_pixels size steps x y
  pub answers : (q : ℕ) → q < QUERY_LIMIT → answered size c q ≡ session_result size steps q
  pub issued : (q : ℕ) → q < QUERY_LIMIT → is_none (answered size c q) ≡ is_none (last_issue q steps)
  pub settings : settings_after c.pending ≡ settings_now steps
  pub queries : queries_open c.pending ≡ open_now steps

-- a context of a new target
pub record IsNew (size : Size) (c : Context) : Type 0 where
  pub pixels : (x y : ℕ) → x < size.width → y < size.height → c.stored x y ≡ opening
  pub results : (q : ℕ) → q < QUERY_LIMIT → result_at c.results q ≡ None
  pub pending : c.pending ≡ []

-- ---- in which run an issue lies

-- These items are `front`, which begins n issues, and then those of a list, with the list's issues numbered from n on. So an issue counts in the one or in the other, from the pixels that it finds there.
pub record Follows (n : ℕ) (front : List Item) (list : List Command) (whole : List Item) : Type 0 where
  pub items_are : whole ≡ front ++ map (renumbered n) (items list)
  pub pixel : (x y : ℕ) (old : Pixel) → after_items whole x y old ≡ after_items (items list) x y (after_items front x y old)
  pub own : (issue width height : ℕ) (pixels : ℕ → ℕ → Pixel) → issue_count (n + issue) whole width height pixels ≡ issue_count issue (items list) width height (λ x y. after_items front x y (pixels x y))
  pub earlier : (issue width height : ℕ) (pixels : ℕ → ℕ → Pixel) → issue < n → issue_count issue whole width height pixels ≡ issue_count issue front width height pixels
