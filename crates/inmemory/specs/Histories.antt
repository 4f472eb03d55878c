-- What stands in an area of memory once the history of a pixel was told into it.
use Rattle.std.specs.Prelude.{ℕ, ◌≡◌, ◌<◌, ◌≤◌, List, length}
use Rattle.pixelevents.specs.declared.NamedEvent.{NamedEvent}
use Rattle.pixelevents.specs.declared.told.EventTold.{EventTold}
use Rattle.pixelevents.specs.Named.{events_filled}
use Rattle.sessions.specs.declared.telling.NoHistory.{NoHistory}
use Rattle.sessions.specs.declared.telling.NoHistory.TheVariants as faults
use Rattle.sessions.specs.Histories.{IsHistory, Prevents}
use Rattle.inmemory.specs.declared.telling.HistoryEnd.{HistoryEnd}
use Rattle.inmemory.specs.declared.telling.HistoryEnd.TheVariants.{Done, Refused, EventsTooSmall, PixelRange}
use Rattle.inmemory.specs.declared.telling.HistoryReport.{HistoryReport}

abbrev pub end_of : NoHistory → HistoryEnd
end_of (faults.Refused line number) = Refused line number
end_of faults.PixelRange = PixelRange

abbrev pub end_told : ℕ → HistoryEnd → HistoryReport
end_told count end = record { count = count; end = end }

-- What may stand in the area, before and after, and in the report: the history, or the area was not touched and the report says why.
pub data TellsHistory (text : List ℕ) (x y : ℕ) (area after : List EventTold) (report : HistoryReport) : Type 0 where
  whole : (events : List NamedEvent) → IsHistory text x y events → length events ≤ length area → report ≡ end_told (length events) Done
      → after ≡ events_filled area events → TellsHistory text x y area after report
  few : (events : List NamedEvent) → IsHistory text x y events → length area < length events → report ≡ end_told (length events) EventsTooSmall
      → after ≡ area → TellsHistory text x y area after report
  none : (why : NoHistory) → Prevents text x y why → report ≡ end_told 0 (end_of why) → after ≡ area → TellsHistory text x y area after report
