use Rattle.std.proofs.Common.{rules, ◌∙◌, sym, subst}
use Rattle.recorders.proofs.EndLemmas.{match_more}
use Rattle.recorders.proofs.PortLemmas.{results_for, right_for, agrees_for}
use Rattle.sessions.specs.Playing.{MayPlay, missing_in}
use Rattle.sessions.proofs.threads.fn.play_in_scope.scope.Goals as goal

pub play_by_crew-played-requires-clause-may : goal.play_by_crew-played-requires-clause-may
play_by_crew-played-requires-clause-may g c κs lives =
    let ls = c.captures.lines.now in
    subst (λ w. MayPlay ls w c.captures.immediate) (sym (right_for ls c.captures.ports.now.queue c.receive-received.result c.receive-received.ensures.frame)) c.requires.1

pub returns : goal.returns
returns g c =
    let ls = c.captures.lines.now in
    let queue = c.captures.ports.now.queue in
    let played = c.play_by_crew-played in
    let closed = c.close-returned in
    let frame = played.ensures.frame ∙ c.receive-received.ensures.frame in
    record {
      results = results_for ls queue played.new.lists closed.result frame closed.ensures.results;
      queue_is = search rules;
      played = λ agrees. played.ensures.played (agrees_for ls queue played.new.lists closed.result.drain frame closed.ensures.drain agrees);
      missing = match_more (missing_in played.result.interruption) (λ name lacks low. closed.ensures.lacks name.0 name.1 low lacks) played.ensures.missing;
    }
