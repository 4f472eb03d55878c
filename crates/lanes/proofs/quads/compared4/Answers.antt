use Rattle.std.proofs.Common.{◌∙◌, ℕ, ap, sym, slice_index, ltb, leb, eqb, Bool, rules}
use Rattle.std.specs.Prelude.{not, if◌then◌else◌}
use Rattle.gfxspec.specs.DepthStencil.{compares}
use Rattle.lanes.proofs.FourLanes.{ones, four_are}
use Rattle.lanes.proofs.quads.compared4.Goals as goal

abbrev differ : ℕ → ℕ → Bool
differ a b = not (eqb a b)

pub returns-in-Never : goal.returns-in-Never
returns-in-Never c = λ j h.
    four_are 0 j h
    ∙ ap (λ func. if compares func (slice_index c.args.new.now j) (slice_index c.args.old.now j) then 1 else 0) (sym c.in-Never.is)

pub returns-in-Less : goal.returns-in-Less
returns-in-Less c = λ j h.
    ones ltb c.args.new.now c.args.old.now (search rules) (search rules) j h
    ∙ ap (λ func. if compares func (slice_index c.args.new.now j) (slice_index c.args.old.now j) then 1 else 0) (sym c.in-Less.is)

pub returns-in-Equal : goal.returns-in-Equal
returns-in-Equal c = λ j h.
    ones eqb c.args.new.now c.args.old.now (search rules) (search rules) j h
    ∙ ap (λ func. if compares func (slice_index c.args.new.now j) (slice_index c.args.old.now j) then 1 else 0) (sym c.in-Equal.is)

pub returns-in-LessEqual : goal.returns-in-LessEqual
returns-in-LessEqual c = λ j h.
    ones leb c.args.new.now c.args.old.now (search rules) (search rules) j h
    ∙ ap (λ func. if compares func (slice_index c.args.new.now j) (slice_index c.args.old.now j) then 1 else 0) (sym c.in-LessEqual.is)

pub returns-in-Greater : goal.returns-in-Greater
returns-in-Greater c = λ j h.
    ones ltb c.args.old.now c.args.new.now (search rules) (search rules) j h
    ∙ ap (λ func. if compares func (slice_index c.args.new.now j) (slice_index c.args.old.now j) then 1 else 0) (sym c.in-Greater.is)

pub returns-in-NotEqual : goal.returns-in-NotEqual
returns-in-NotEqual c = λ j h.
    ones differ c.args.new.now c.args.old.now (search rules) (search rules) j h
    ∙ ap (λ func. if compares func (slice_index c.args.new.now j) (slice_index c.args.old.now j) then 1 else 0) (sym c.in-NotEqual.is)

pub returns-in-GreaterEqual : goal.returns-in-GreaterEqual
returns-in-GreaterEqual c = λ j h.
    ones leb c.args.old.now c.args.new.now (search rules) (search rules) j h
    ∙ ap (λ func. if compares func (slice_index c.args.new.now j) (slice_index c.args.old.now j) then 1 else 0) (sym c.in-GreaterEqual.is)

pub returns-in-Always : goal.returns-in-Always
returns-in-Always c = λ j h.
    four_are 1 j h
    ∙ ap (λ func. if compares func (slice_index c.args.new.now j) (slice_index c.args.old.now j) then 1 else 0) (sym c.in-Always.is)
