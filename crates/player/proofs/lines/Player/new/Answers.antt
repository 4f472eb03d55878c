use Rattle.std.proofs.Common.{◌∙◌, ap, [], ◌∷◌, ◌++◌, replicate}
use Rattle.std.proofs.lemmas.List.{replicate_more}
use Rattle.recorders.specs.Recording.{nothing_recorded}
use Rattle.player.proofs.lines.Player.new.Goals as goal

pub loop-preserved : goal.loop-preserved
loop-preserved g c =
    c.in_ok-push.ensures.items ∙ ap (λ xs. xs ++ c.new.result ∷ []) c.loop.invariant
    ∙ ap (λ r. replicate c.loop.counter nothing_recorded ++ r ∷ []) c.new.ensures ∙ replicate_more c.loop.counter nothing_recorded
