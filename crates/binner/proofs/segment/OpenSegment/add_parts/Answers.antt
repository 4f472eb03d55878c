use Rattle.std.proofs.Common.{rules, arith, ◌*◌, List}
use Rattle.gfxspec.specs.Commands.{Command}
use Rattle.gfxspec.specs.Recorded.{settings_after}
use Rattle.std.proofs.lemmas.Result.{IfOk-weaker}
use Rattle.binner.specs.Segments.{IsMore, draw_of}
use Rattle.binner.proofs.Dividing.{all_left, less_left, can_draw_part, fits}
use Rattle.binner.proofs.segment.OpenSegment.add_parts.Goals as goal

pub loop-room-init : goal.loop-room-init
loop-room-init g c = record {
  left = all_left c.args.draw.base c.args.draw.count c.args.draw.start c.args.segments.now.items c.args.self c.requires.follows c.requires.listed;
  some = search rules;
  few = search rules;
}

pub push_draw-requires : goal.push_draw-requires
push_draw-requires g c =
    let l = c.loop-room in
    record {
      follows = can_draw_part c.args.draw.base (settings_after l.opened) l.count l.start (3 * l.room) l.start (omega arith) (omega (arith, c.loop-room-test.true)) l.invariant.left.follows;
    }

pub overflow_add-start : goal.overflow_add-start
overflow_add-start g c =
    let l = c.loop-room in
    let f = fits c.args.draw.base (settings_after l.opened) l.count l.start l.invariant.left.follows in
    omega (arith, c.loop-room-test.true, f.0, f.1)

pub loop-room-preserved : goal.loop-room-preserved
loop-room-preserved g c =
    let l = c.loop-room in
    let b = c.args.draw.base in
    let full = c.in_ok-full.full in
    record {
      left = less_left b c.args.draw.count c.args.draw.start c.args.segments.now.items c.args.self l.room l.count l.start l.segments.items l.opened full c.finish.new.segments.items c.in_ok-opened.opened (omega (arith, c.loop-room-test.true)) l.invariant.left
          (c.in_ok-full.ensures l.segments.items) c.in_ok-opened.ensures;
      some = c.room-room-in-loop-room.ensures.some;
      few = c.room-room-in-loop-room.ensures.few;
    }

pub returns : goal.returns
returns g c =
    let d = c.args.draw in
    let l = c.loop-room in
    let gs = l.segments.items in
    IfOk-weaker c.push_draw-2.result (λ (s : List Command). IsMore (draw_of d.base l.count l.start) gs l.opened gs s) (λ (s : List Command). IsMore (draw_of d.base d.count d.start) c.args.segments.now.items c.args.self gs s)
    (λ s m. l.invariant.left.means gs s m)
    (c.push_draw-2.ensures gs)
