-- How a call is answered that a line spells, by what it gave (this project's own).
use Rattle.std.specs.Prelude.{ℕ, Option, Some, None, option_to_list, Result, Ok, Err}
use Rattle.gfxspec.specs.declared.error.GfxError.{GfxError}
use Rattle.gfxspec.specs.declared.pixel.Pixel.{Pixel as PixelValue}
use Rattle.gfxspec.specs.Refusals.{AnswersBy}
use Rattle.scenetext.specs.Scene.{Actor, Verb}
use Rattle.immediate.specs.Held.{Held, IsRefused}
use Rattle.recorders.specs.Recording.{Recording}
use Rattle.answers.specs.declared.line.Answer.{Answer}
use Rattle.answers.specs.declared.line.Answer.TheVariants.{Counted, Shown}
use Rattle.sessions.specs.Taking.{held_rows}
use Rattle.sessions.specs.Calling.{Contexts, ImmediateCalled, CalledOn}
use Rattle.player.specs.Lines.{call_rows}

abbrev pub untold : Result (Unit {0}) GfxError → Result (Option Answer) GfxError
untold (Ok done) = Ok None
untold (Err e) = Err e

abbrev pub count_told : ℕ → Result ℕ GfxError → Result (Option Answer) GfxError
count_told q (Ok count) = Ok (Some (Counted q count))
count_told q (Err e) = Err e

abbrev pub pixel_told : ℕ → ℕ → Result PixelValue GfxError → Result (Option Answer) GfxError
pixel_told x y (Ok value) = Ok (Some (Shown x y value))
pixel_told x y (Err e) = Err e

-- the call that a verb spells was made on the immediate context, or refused
abbrev pub ImmediateAnswers : (ℕ → Recording) → Verb → Held → Held → Result (Option Answer) GfxError → Type 0
ImmediateAnswers deferred v old new (Ok told) = ImmediateCalled deferred v old new (option_to_list told)
ImmediateAnswers deferred v old new (Err e) = AnswersBy {T = Unit {0}} (held_rows old v) (Err e) × IsRefused e old new

-- the call that a line spells was made on its context, or refused
abbrev pub CallAnswers : Contexts → Actor → Verb → Contexts → Result (Option Answer) GfxError → Type 0
CallAnswers old a v new (Ok told) = CalledOn a v old new (option_to_list told)
CallAnswers old a v new (Err e) = AnswersBy {T = Unit {0}} (call_rows old a v) (Err e) × IsRefused e old.immediate new.immediate
