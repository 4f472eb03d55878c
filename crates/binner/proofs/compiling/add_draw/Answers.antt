use Rattle.std.proofs.Common.{rules, length, sym, subst, ◌≡◌, ◌∷◌, refl, IsNone}
use Rattle.assemble.specs.Triangle.{primitive_of}
use Rattle.assemble.specs.Drawing.{triangles_of}
use Rattle.command.specs.Seen.{state_value}
use Rattle.binner.proofs.Readying.{AreReady, draw_ready}
use Rattle.binner.proofs.Drawing.{drew_begin, drew_setup, drew_skip, drew_whole}
use Rattle.binner.specs.Setups.{ReachesNothing}
use Rattle.binner.proofs.Remembering.{made_begin, made_setup, made_skip, made_whole}
use Rattle.binner.proofs.compiling.add_draw.Goals as goal

pub loop-tri-init : goal.loop-tri-init
loop-tri-init g c =
    let same : c.into_iter-tri-iterator.result ≡ triangles_of c.args.draw.now = search rules in
    record {
      can_next = tt;
      is_finite = tt;
      ready = subst AreReady (sym same) (draw_ready c.args.draw.now c.requires.vertices);
      drew = drew_begin c.args.compiling.now (state_value c.args.state.now) c.args.issues c.in_ok-current.current (triangles_of c.args.draw.now) c.current_entry.new.compiling c.into_iter-tri-iterator.result same c.requires.sound c.in_ok-current.ensures.enters;
      made = made_begin c.args.compiling.now (state_value c.args.state.now) (triangles_of c.args.draw.now) c.current_entry.new.compiling c.into_iter-tri-iterator.result same c.in_ok-current.ensures.enters.triangles;
    }

pub loop-tri-preserved-in-Continue-branch-2 : goal.loop-tri-preserved-in-Continue-branch-2
loop-tri-preserved-in-Continue-branch-2 g c =
    let is : c.loop-tri.tri-iterator ≡ primitive_of c.in-Some.tri ∷ c.next.new.self = search rules in
    record {
      can_next = tt;
      is_finite = tt;
      ready = (subst AreReady is c.loop-tri.invariant.ready).1;
      drew = drew_setup c.args.compiling.now (state_value c.args.state.now) c.args.issues c.in_ok-current.current (triangles_of c.args.draw.now) c.loop-tri.compiling (primitive_of c.in-Some.tri) c.next.new.self c.add_setup.new.compiling c.loop-tri.tri-iterator c.in-Some-prepared.setup (length c.loop-tri.compiling.triangles) is c.loop-tri.invariant.drew c.in_ok-add_setup.ensures.added c.in_ok-add_setup.ensures.bins c.in-Some-prepared.ensures.setup;
      made = made_setup c.args.compiling.now (state_value c.args.state.now) (triangles_of c.args.draw.now) c.loop-tri.compiling (primitive_of c.in-Some.tri) c.next.new.self c.loop-tri.tri-iterator is c.loop-tri.invariant.made c.add_setup.new.compiling c.in-Some-prepared.setup c.in_ok-add_setup.ensures.table c.in-Some-prepared.ensures.setup;
    }

pub loop-tri-preserved : goal.loop-tri-preserved
loop-tri-preserved g c =
    let is : c.loop-tri.tri-iterator ≡ primitive_of c.in-Some.tri ∷ c.next.new.self = search rules in
    record {
      can_next = tt;
      is_finite = tt;
      ready = (subst AreReady is c.loop-tri.invariant.ready).1;
      drew = drew_skip c.args.compiling.now (state_value c.args.state.now) c.args.issues c.in_ok-current.current (triangles_of c.args.draw.now) c.loop-tri.compiling (primitive_of c.in-Some.tri) c.next.new.self c.loop-tri.tri-iterator is c.loop-tri.invariant.drew (c.prepared.ensures.dropped (subst IsNone (sym c.in_default.is) refl));
      made = made_skip c.args.compiling.now (state_value c.args.state.now) (triangles_of c.args.draw.now) c.loop-tri.compiling (primitive_of c.in-Some.tri) c.next.new.self c.loop-tri.tri-iterator is c.loop-tri.invariant.made
          (subst (λ z. ReachesNothing (state_value c.args.state.now) z (primitive_of c.in-Some.tri)) c.loop-tri.invariant.drew.size (c.prepared.ensures.dropped (subst IsNone (sym c.in_default.is) refl)));
    }

pub returns-clause-drawn : goal.returns-clause-drawn
returns-clause-drawn g c =
    drew_whole c.args.compiling.now (state_value c.args.state.now) c.args.issues c.in_ok-current.current (triangles_of c.args.draw.now) c.loop-tri.compiling c.loop-tri.tri-iterator (search rules) c.loop-tri.invariant.drew

pub returns-clause-table : goal.returns-clause-table
returns-clause-table g c = c.loop-tri.invariant.made.grown

pub returns-clause-made : goal.returns-clause-made
returns-clause-made g c =
    made_whole c.args.compiling.now (state_value c.args.state.now) (triangles_of c.args.draw.now) c.loop-tri.compiling c.loop-tri.tri-iterator (search rules) c.loop-tri.invariant.made
