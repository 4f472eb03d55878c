use Rattle.std.proofs.Common.{codes}
use Rattle.std.specs.Str.Parse.{ParsesUnsigned, ExplainsUnsignedError, HasUnsignedDigitsIfOk}
use Rattle.clap.proofs.CallerLemmas.{some_of_text}
use Rattle.commandline.specs.CommandLine.{texts_of}
use Rattle.commandline.proofs.OperandLemmas.{call_memory, call_settings, no_fault, operand_found, operand_read, taken_memory, two_memory, two_settings}
use Rattle.commandline.proofs.WorkersLemmas.{number_read, some_number, same_number}
use Rattle.commandline.proofs.words.settings.Goals as goal

pub unwrap-image-requires : goal.unwrap-image-requires
unwrap-image-requires c =
    some_of_text _ c.get_str-2.result _ c.get_str-2.ensures (c.in_ok-command.ensures.words _ c.in_ok-matches.ensures.parsed).1

pub unwrap-workers-requires : goal.unwrap-workers-requires
unwrap-workers-requires c =
    let has = (c.in_ok-command.ensures.words _ c.in_ok-matches.ensures.parsed).2 in
    some_number _ _ (number_read _ (λ bs r. ParsesUnsigned 32 10 bs r × ExplainsUnsignedError 10 bs r × HasUnsignedDigitsIfOk bs r)
    has.word c.get_one.result (c.get_one.ensures.value has.word has.read) (λ u x g. g.0) has.passed)

pub returns-clause-given : goal.returns-clause-given
returns-clause-given c =
    let has = (c.in_ok-command.ensures.words _ c.in_ok-matches.ensures.parsed).2 in
    record {
      script = operand_read _ (texts_of c.args.words.now) _ (codes "SCRIPT") c.get_str.result c.unwrap-script.result _
          c.in_ok-command.ensures.app c.in_ok-matches.ensures.matches c.get_str.ensures c.unwrap-script.ensures c.in_ok-copied.ensures;
      image = operand_read _ (texts_of c.args.words.now) _ (codes "OUT.tga") c.get_str-2.result c.unwrap-image.result _
          c.in_ok-command.ensures.app c.in_ok-matches.ensures.matches c.get_str-2.ensures c.unwrap-image.ensures c.in_ok-copied-2.ensures;
      workers = (
        has.word,
        operand_found _ (texts_of c.args.words.now) _ (codes "workers") has.word c.in_ok-command.ensures.app
            c.in_ok-matches.ensures.matches has.first,
        same_number has.word c.get_one.result c.unwrap-workers.result c.unwrap-workers.ensures
            (number_read _ (λ bs r. ParsesUnsigned 32 10 bs r × ExplainsUnsignedError 10 bs r × HasUnsignedDigitsIfOk bs r)
            has.word c.get_one.result (c.get_one.ensures.value has.word has.read) (λ u x g. g.0) has.passed),
      );
    }

pub returns-clause-sound : goal.returns-clause-sound
returns-clause-sound c = no_fault _ (texts_of c.args.words.now) c.in_ok-command.ensures.app c.in_ok-matches.ensures.kinds

pub returns-in_err-matches-clause-taken : goal.returns-in_err-matches-clause-taken
returns-in_err-matches-clause-taken c taken =
    taken_memory _ (texts_of c.args.words.now) c.in_err-matches.field-0.0 c.from_residual-in_err-matches.result
    c.in_ok-command.ensures.app c.in_err-matches.ensures.passes c.from_residual-in_err-matches.ensures.1 taken

pub returns-in_err-matches-clause-two : goal.returns-in_err-matches-clause-two
returns-in_err-matches-clause-two c script image two plain_script plain_image =
    two_memory _ (texts_of c.args.words.now) c.in_err-matches.field-0.0 c.from_residual-in_err-matches.result _
    c.in_ok-command.ensures.app c.in_err-matches.ensures.passes c.from_residual-in_err-matches.ensures.1
    script image two plain_script plain_image

pub returns-in_err-matches-clause-counted : goal.returns-in_err-matches-clause-counted
returns-in_err-matches-clause-counted c script image count call plain_script plain_image plain_count =
    call_memory _ (texts_of c.args.words.now) c.in_err-matches.field-0.0 c.from_residual-in_err-matches.result _
    c.in_ok-command.ensures.app c.in_err-matches.ensures.passes c.from_residual-in_err-matches.ensures.1
    script image count call plain_script plain_image plain_count

pub returns-clause-two : goal.returns-clause-two
returns-clause-two c script image two plain_script plain_image =
    two_settings (texts_of c.args.words.now) _ (returns-clause-given c) script image two plain_script plain_image

pub returns-clause-counted : goal.returns-clause-counted
returns-clause-counted c script image count call plain_script plain_image plain_count =
    call_settings (texts_of c.args.words.now) _ (returns-clause-given c) script image count call plain_script plain_image plain_count

pub returns-clause-few : goal.returns-clause-few
returns-clause-few c = (returns-clause-given c).workers.2.few
