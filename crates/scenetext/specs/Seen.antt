-- A line of the code as a plain one.
use Rattle.command.specs.Seen.{command_value}
use Rattle.scenetext.specs.declared.scene.Actor as code_actor
use Rattle.scenetext.specs.declared.scene.Actor.TheVariants as actors
use Rattle.scenetext.specs.declared.scene.Verb as code_verb
use Rattle.scenetext.specs.declared.scene.Verb.TheVariants as verbs
use Rattle.scenetext.specs.declared.scene.Line as code_line
use Rattle.scenetext.specs.Scene.{Actor, Immediate, Deferred, Verb, Call, Finish, Flush, Execute, Query, Pixel, Line}

abbrev pub actor_value : code_actor.Actor → Actor
actor_value actors.Immediate = Immediate
actor_value (actors.Deferred k) = Deferred k

abbrev pub verb_value : {A : Type 0} → code_verb.Verb A → Verb
verb_value (verbs.Record command) = Call (command_value command)
verb_value (verbs.Finish restore) = Finish restore
verb_value verbs.Flush = Flush
verb_value (verbs.Execute context list restore) = Execute context list restore
verb_value (verbs.Query query) = Query query
verb_value (verbs.Pixel x y) = Pixel x y

abbrev pub line_value : {A : Type 0} → code_line.Line A → Line
line_value l = record { actor = actor_value l.actor; verb = verb_value l.verb }
