use Rattle.std.proofs.Common.{rules, refl, ap, ◌∙◌, ◌-◌, ◌+◌, []}
use Rattle.std.specs.Prelude.{slice_get}
use Rattle.gfxspec.specs.Assembly.{part}
use Rattle.assemble.specs.Drawing.{triangles_of}
use Rattle.command.specs.Seen.{state_value}
use Rattle.binner.proofs.Drawing.{drew_begin, drew_whole}
use Rattle.binner.proofs.Filling.{filled_all, filled_setup}
use Rattle.binner.proofs.Remembering.{next_of, last_part}
use Rattle.binner.proofs.compiling.add_again.Goals as goal

pub loop-number-init : goal.loop-number-init
loop-number-init g c =
    let all = triangles_of c.args.draw.now in
    record {
      table = c.in_ok-current.ensures.enters.triangles;
      filled = record {
        left = all;
        made = c.requires.made;
        drew = drew_begin c.args.compiling.now (state_value c.args.state.now) c.args.issues c.in_ok-current.current all c.current_entry.new.compiling all refl c.requires.sound c.in_ok-current.ensures.enters;
      };
    }

pub loop-number-preserved : goal.loop-number-preserved
loop-number-preserved g c =
    let old = c.args.compiling.now in
    let mid = c.loop-number.compiling in
    let n = c.loop-number.number in
    let past = c.args.numbers.end in
    let next = next_of old.triangles n past (search rules) c.requires.past in
    record {
      table = c.add_numbered.ensures.table ∙ c.loop-number.invariant.table;
      filled = filled_setup old mid (state_value c.args.state.now) c.args.issues c.in_ok-current.current (triangles_of c.args.draw.now) c.add_numbered.new.compiling next.setup n
          (part (past - (n + 1)) (n + 1) old.triangles) (part (past - n) n old.triangles) next.more c.loop-number.invariant.filled
          (c.in_ok-add_numbered.ensures.added next.setup (ap (λ ts. slice_get ts n) c.loop-number.invariant.table ∙ next.place)) c.in_ok-add_numbered.ensures.bins;
    }

pub returns-clause-drawn : goal.returns-clause-drawn
returns-clause-drawn g c =
    let s = state_value c.args.state.now in
    let all = triangles_of c.args.draw.now in
    let old = c.args.compiling.now in
    let now = c.in_ok-current.current in
    let n = c.loop-number.number in
    let past = c.args.numbers.end in
    drew_whole old s c.args.issues now all c.loop-number.compiling [] refl
    (filled_all old c.loop-number.compiling s c.args.issues now all (part (past - n) n old.triangles) (last_part old.triangles n past (search rules)) c.loop-number.invariant.filled)
