-- What a C caller is told.
use Rattle.std.specs.Prelude.{ℕ, ◌≡◌, List}
use Rattle.inmemory.specs.declared.areas.Report.{Report as Plain}
use Rattle.inmemory.specs.declared.areas.Status.{Status}
use Rattle.inmemory.specs.declared.areas.Status.TheVariants.{Done, Refused, LinesTooSmall, ImageTooSmall, NoMemory}
use Rattle.inmemory.specs.Areas.{Drew, Sized}
use Rattle.pixelevents.specs.declared.told.EventTold.{EventTold}
use Rattle.inmemory.specs.declared.telling.HistoryReport.{HistoryReport as PlainHistory}
use Rattle.inmemory.specs.declared.telling.HistoryEnd.{HistoryEnd}
use Rattle.inmemory.specs.declared.telling.HistoryEnd.TheVariants as ends
use Rattle.inmemory.specs.Histories.{TellsHistory}
use Rattle.yuzuratchet.specs.declared.areas.Misfit.{Misfit}
use Rattle.yuzuratchet.specs.declared.areas.Misfit.TheVariants as misfits
use Rattle.yuzuratchet.specs.declared.report.Report.{Report}
use Rattle.yuzuratchet.specs.declared.report.HistoryReport.{HistoryReport}

-- ---- numbers of the header

abbrev pub status_number : Status → ℕ
status_number Done = 0
status_number (Refused line number) = 1
status_number LinesTooSmall = 2
status_number ImageTooSmall = 3
status_number NoMemory = 4

abbrev pub misfit_number : Misfit → ℕ
misfit_number misfits.None = 0
misfit_number misfits.Null = 5
misfit_number misfits.Empty = 6
misfit_number misfits.Large = 7
misfit_number misfits.Overlap = 8
misfit_number misfits.Misaligned = 9

-- ---- reports

abbrev pub refused_line : Status → ℕ
refused_line (Refused line number) = line
refused_line status = 0

abbrev pub refusal : Status → ℕ
refusal (Refused line number) = number
refusal status = 0

abbrev pub told : Plain → Report
told r =
    record {
      lines_size = r.lines;
      image_size = r.image;
      refused_line = refused_line r.status;
      refusal = refusal r.status;
      status = status_number r.status;
    }

-- what a call that draws leaves in the areas for lines and image, and tells
pub record DrewInC (text lines lines_after image image_after : List ℕ) (report : Report) : Type 0 where
  pub plain : Plain
  pub drew : Drew text lines lines_after image image_after plain
  pub told_so : report ≡ told plain

-- what a call that only measures tells
pub record SizedInC (text : List ℕ) (report : Report) : Type 0 where
  pub plain : Plain
  pub sized : Sized text plain
  pub told_so : report ≡ told plain

-- ---- the history of a pixel

abbrev pub history_status : HistoryEnd → ℕ
history_status ends.Done = 0
history_status (ends.Refused line number) = 1
history_status ends.EventsTooSmall = 10
history_status ends.PixelRange = 11

abbrev pub history_line : HistoryEnd → ℕ
history_line (ends.Refused line number) = line
history_line end = 0

abbrev pub history_refusal : HistoryEnd → ℕ
history_refusal (ends.Refused line number) = number
history_refusal end = 0

abbrev pub history_told : PlainHistory → HistoryReport
history_told r = record { count = r.count; refused_line = history_line r.end; refusal = history_refusal r.end; status = history_status r.end }

-- what a call for a history leaves in the area for events, and tells
pub record HistoryInC (text : List ℕ) (x y : ℕ) (area after : List EventTold) (report : HistoryReport) : Type 0 where
  pub plain : PlainHistory
  pub tells : TellsHistory text x y area after plain
  pub told_so : report ≡ history_told plain
