use Rattle.std.proofs.Common.{◌∷◌, [], arith, codes, refl, rules}
use Rattle.std.proofs.lemmas.Result.{IfOk-weaker}
use Rattle.clap.proofs.CallerLemmas.{required_in_chain}
use Rattle.commandline.specs.CommandLine.{IsOperand}
use Rattle.commandline.proofs.OperandLemmas.{all_differ, all_fit, has_word}
use Rattle.commandline.proofs.WorkersLemmas.{workers_given}
use Rattle.commandline.proofs.words.command.Goals as goal

pub returns-clause-words : goal.returns-clause-words
returns-clause-words c =
    let start = c.about.result in
    let script = c.help.result in
    let image = c.help-2.result in
    let workers = c.workers_option.result in
    let first = c.in_ok-arg.field-0 in
    let second = c.in_ok-arg-2.field-0 in
    let is_script : IsOperand (codes "SCRIPT") script =
    record { rule = search rules; id = search rules; plain = search rules; local = search rules; value = search rules } in
    let is_image : IsOperand (codes "OUT.tga") image =
    record { rule = search rules; id = search rules; plain = search rules; local = search rules; value = search rules } in
    let is_workers = c.workers_option.ensures in
    let fit = all_fit script image workers is_script is_image is_workers in
    let differ = all_differ script image workers is_script is_image is_workers in
    IfOk-weaker c.arg-3.result _ _ (λ made added m parsed. (
      has_word (codes "SCRIPT") script m is_script
          (required_in_chain start made (script ∷ image ∷ workers ∷ []) 0 script m
          (first, c.in_ok-arg.ensures, (second, c.in_ok-arg-2.ensures, (made, added, refl)))
          (search rules) (search rules) (search rules) (search rules) fit differ (omega arith) is_script.value parsed),
      has_word (codes "OUT.tga") image m is_image
          (required_in_chain start made (script ∷ image ∷ workers ∷ []) 1 image m
          (first, c.in_ok-arg.ensures, (second, c.in_ok-arg-2.ensures, (made, added, refl)))
          (search rules) (search rules) (search rules) (search rules) fit differ (omega arith) is_image.value parsed),
      workers_given start first second made script image workers m c.in_ok-arg.ensures c.in_ok-arg-2.ensures added
          (search rules) (search rules) (search rules) is_script is_image is_workers parsed,
    )) c.arg-3.ensures
