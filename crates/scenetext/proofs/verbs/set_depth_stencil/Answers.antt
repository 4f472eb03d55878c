use Rattle.std.proofs.Common.{ap}
use Rattle.scenetext.specs.declared.verbs.CommandWord.TheVariants.{Ds}
use Rattle.scenetext.specs.Commands.{ranges, shape, kinds_of}
use Rattle.scenetext.specs.Ranges.{kinds}
use Rattle.scenetext.proofs.ReadLemmas.{handed_on, words_fail, refused}
use Rattle.scenetext.proofs.verbs.set_depth_stencil.Goals as goal

pub returns-in_err-next_argument-2-clause-err : goal.returns-in_err-next_argument-2-clause-err
returns-in_err-next_argument-2-clause-err g c = handed_on _ _ _ c.from_residual-in_err-next_argument-2.ensures.1 (refused Ds (kinds (ranges Ds)) _ _ (ap (kinds_of (shape Ds)) c.in_ok-expect.ensures.ok) c.in_err-next_argument-2.ensures.err.0 (search (words_fail, c.in_ok-next_argument.ensures.ok, c.in_err-next_argument-2.ensures.err.1)))

pub returns-in_err-next_argument-3-clause-err : goal.returns-in_err-next_argument-3-clause-err
returns-in_err-next_argument-3-clause-err g c = handed_on _ _ _ c.from_residual-in_err-next_argument-3.ensures.1 (refused Ds (kinds (ranges Ds)) _ _ (ap (kinds_of (shape Ds)) c.in_ok-expect.ensures.ok) c.in_err-next_argument-3.ensures.err.0 (search (words_fail, c.in_ok-next_argument.ensures.ok, c.in_ok-next_argument-2.ensures.ok, c.in_err-next_argument-3.ensures.err.1)))

pub returns-in_err-next_argument-4-clause-err : goal.returns-in_err-next_argument-4-clause-err
returns-in_err-next_argument-4-clause-err g c = handed_on _ _ _ c.from_residual-in_err-next_argument-4.ensures.1 (refused Ds (kinds (ranges Ds)) _ _ (ap (kinds_of (shape Ds)) c.in_ok-expect.ensures.ok) c.in_err-next_argument-4.ensures.err.0 (search (words_fail, c.in_ok-next_argument.ensures.ok, c.in_ok-next_argument-2.ensures.ok, c.in_ok-next_argument-3.ensures.ok, c.in_err-next_argument-4.ensures.err.1)))

pub returns-in_err-next_argument-5-clause-err : goal.returns-in_err-next_argument-5-clause-err
returns-in_err-next_argument-5-clause-err g c = handed_on _ _ _ c.from_residual-in_err-next_argument-5.ensures.1 (refused Ds (kinds (ranges Ds)) _ _ (ap (kinds_of (shape Ds)) c.in_ok-expect.ensures.ok) c.in_err-next_argument-5.ensures.err.0 (search (words_fail, c.in_ok-next_argument.ensures.ok, c.in_ok-next_argument-2.ensures.ok, c.in_ok-next_argument-3.ensures.ok, c.in_ok-next_argument-4.ensures.ok, c.in_err-next_argument-5.ensures.err.1) depth 24))

pub returns-in_err-next_argument-6-clause-err : goal.returns-in_err-next_argument-6-clause-err
returns-in_err-next_argument-6-clause-err g c = handed_on _ _ _ c.from_residual-in_err-next_argument-6.ensures.1 (refused Ds (kinds (ranges Ds)) _ _ (ap (kinds_of (shape Ds)) c.in_ok-expect.ensures.ok) c.in_err-next_argument-6.ensures.err.0 (search (words_fail, c.in_ok-next_argument.ensures.ok, c.in_ok-next_argument-2.ensures.ok, c.in_ok-next_argument-3.ensures.ok, c.in_ok-next_argument-4.ensures.ok, c.in_ok-next_argument-5.ensures.ok, c.in_err-next_argument-6.ensures.err.1) depth 24))

pub returns-in_err-next_face-clause-err : goal.returns-in_err-next_face-clause-err
returns-in_err-next_face-clause-err g c = handed_on _ _ _ c.from_residual-in_err-next_face.ensures.1 (refused Ds (kinds (ranges Ds)) _ _ (ap (kinds_of (shape Ds)) c.in_ok-expect.ensures.ok) c.in_err-next_face.ensures.err.0 (search (words_fail, c.in_ok-next_argument.ensures.ok, c.in_ok-next_argument-2.ensures.ok, c.in_ok-next_argument-3.ensures.ok, c.in_ok-next_argument-4.ensures.ok, c.in_ok-next_argument-5.ensures.ok, c.in_ok-next_argument-6.ensures.ok, c.in_err-next_face.ensures.err.1) depth 24))

pub returns-in_err-next_face-2-clause-err : goal.returns-in_err-next_face-2-clause-err
returns-in_err-next_face-2-clause-err g c = handed_on _ _ _ c.from_residual-in_err-next_face-2.ensures.1 (refused Ds (kinds (ranges Ds)) _ _ (ap (kinds_of (shape Ds)) c.in_ok-expect.ensures.ok) c.in_err-next_face-2.ensures.err.0 (search (words_fail, c.in_ok-next_argument.ensures.ok, c.in_ok-next_argument-2.ensures.ok, c.in_ok-next_argument-3.ensures.ok, c.in_ok-next_argument-4.ensures.ok, c.in_ok-next_argument-5.ensures.ok, c.in_ok-next_argument-6.ensures.ok, c.in_ok-next_face.ensures.ok, c.in_err-next_face-2.ensures.err.1) depth 24))

pub returns-in_err-reference-clause-err : goal.returns-in_err-reference-clause-err
returns-in_err-reference-clause-err g c = handed_on _ _ _ c.from_residual-in_err-reference.ensures.1 (refused Ds (kinds (ranges Ds)) _ _ (ap (kinds_of (shape Ds)) c.in_ok-expect.ensures.ok) c.in_err-reference.ensures.err.0 (search (words_fail, c.in_ok-next_argument.ensures.ok, c.in_ok-next_argument-2.ensures.ok, c.in_ok-next_argument-3.ensures.ok, c.in_ok-next_argument-4.ensures.ok, c.in_ok-next_argument-5.ensures.ok, c.in_ok-next_argument-6.ensures.ok, c.in_ok-next_face.ensures.ok, c.in_ok-next_face-2.ensures.ok, c.in_err-reference.ensures.err.1) depth 24))
