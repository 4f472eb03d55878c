-- What a call that records does, whichever context it is made on (Microsoft Learn, ID3D11DeviceContext).
use Rattle.std.specs.Prelude.{◌≡◌, List, Result, OnOk, OnErr}
use Rattle.gfxspec.specs.declared.error.GfxError.{GfxError}
use Rattle.gfxspec.specs.Commands.{Command}
use Rattle.gfxspec.specs.Refusals.{AnswersBy, list_rows}

-- a call was made on a context: it is answered by its rows; it is one command more where it is accepted; nothing is changed where it is refused
pub record RecordsCall {S T : Type 0} (recorded : S → List Command) (with : S → Command → S) (old : S) (c : Command) (new : S) (result : Result T GfxError) : Type 0 where
  pub answer : AnswersBy (list_rows (recorded old) c) result
  pub ok : OnOk result (new ≡ with old c)
  pub err : OnErr result (new ≡ old)
