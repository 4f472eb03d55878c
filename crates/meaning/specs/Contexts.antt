-- What an immediate context keeps and what it shows: pixels and query results as they were when its pending commands last ran, and the commands recorded since (Direct3D 11.3 Functional Specification, "Asynchronous Notification"; Microsoft Learn, ID3D11DeviceContext::GetData).
use Rattle.std.specs.Prelude.{ℕ, ◌+◌, ◌≡◌, ◌<◌, Bool, List, [], ◌∷◌, Option, Some, None, slice_index_or, slice_set}
use Rattle.gfxspec.specs.declared.TheConstants.{QUERY_LIMIT}
use Rattle.gfxspec.specs.declared.geometry.Size.{Size}
use Rattle.gfxspec.specs.declared.pixel.Pixel.{Pixel}
use Rattle.gfxspec.specs.Items.{Item, after_items, issue_count}
use Rattle.gfxspec.specs.Commands.{Command}
use Rattle.gfxspec.specs.Recorded.{items, after_finish}
use Rattle.gfxspec.specs.Session.{last_of, begun_from}
use Rattle.gfxspec.specs.Predication.{performed, result_of}

-- `results` has, for each query, the count of its last issue that ran
pub record Context : Type 0 where
  pub stored : ℕ → ℕ → Pixel
  pub results : List (Option ℕ)
  pub pending : List Command

-- what each pixel holds after a list's items
abbrev pub pixels_after : List Command → (ℕ → ℕ → Pixel) → ℕ → ℕ → Pixel
pixels_after list pixels x y = after_items (items list) x y (pixels x y)

-- the last issue of a query that a list begins, by its number in the list
abbrev pub last_begun : ℕ → List Command → Option ℕ
last_begun q list = last_of (begun_from q 0 list)

-- the count of an issue, if there is one, else what there was before
abbrev pub counted_or : Option ℕ → Option ℕ → List Item → Size → (ℕ → ℕ → Pixel) → Option ℕ
counted_or before None is size pixels = before
counted_or before (Some issue) is size pixels = Some (issue_count issue is size.width size.height pixels)

-- the result of a query once a list has run: the count of the last issue of it that the list begins, else what it was
abbrev pub result_after : Size → List Command → (ℕ → ℕ → Pixel) → ℕ → Option ℕ → Option ℕ
result_after size list pixels q before = counted_or before (last_begun q list) (items list) size pixels

-- what is kept of a query
abbrev pub result_at : List (Option ℕ) → ℕ → Option ℕ
result_at results q = slice_index_or results q None

-- the counts of the issues from number k on, stored one after the other, each under its query
abbrev pub with_counts : ℕ → (ℕ → ℕ) → List ℕ → List (Option ℕ) → List (Option ℕ)
with_counts k counts [] results = results
with_counts k counts (q ∷ queries) results = with_counts (k + 1) counts queries (slice_set results q (Some (counts k)))

-- the pending commands that are performed: no list both begins a query and names it in a predicate, so the results that tell are the stored ones
abbrev pub performed_pending : Context → List Command
performed_pending c = performed (λ q. result_of (result_at c.results q)) c.pending

-- what a pixel holds: the pending commands, run on what is stored
abbrev pub shown : Context → ℕ → ℕ → Pixel
shown c x y = pixels_after (performed_pending c) c.stored x y

-- what a query answers, if anything: the pending commands, run on what is stored. With no query open each issue has ended, so this is asked there alone.
abbrev pub answered : Size → Context → ℕ → Option ℕ
answered size c q = result_after size (performed_pending c) c.stored q (result_at c.results q)

-- the commands of a list that are performed behind the pending ones, under the results that these leave
abbrev pub performed_next : Size → Context → List Command → List Command
performed_next size c list = performed (λ q. result_of (answered size c q)) list

-- The pending commands ran, and then those of a list, from the default settings and with issues of its own. A call that runs the pending commands and nothing else has the empty list, and restores.
pub record HasRun (size : Size) (list : List Command) (restore : Bool) (old new : Context) : Type 0 where
  pub pixels : (x y : ℕ) → x < size.width → y < size.height → new.stored x y ≡ pixels_after (performed_next size old list) (shown old) x y
  pub results : (q : ℕ) → q < QUERY_LIMIT → result_at new.results q ≡ result_after size (performed_next size old list) (shown old) q (answered size old q)
  pub pending : new.pending ≡ after_finish restore old.pending
