use Rattle.std.proofs.Common.{◌∙◌, ℕ, ap, sym, slice_index, ltb, leb, eqb, Bool, w8, rules}
use Rattle.std.specs.Prelude.{not}
use Rattle.gfxspec.specs.DepthStencil.{compares}
use Rattle.lanes.proofs.Masks.{bit_at-compared, compared_fits}
use Rattle.lanes.proofs.stencil.byte_mask.Goals as goal

abbrev differ : ℕ → ℕ → Bool
differ a b = not (eqb a b)

pub overflow_cast-result : goal.overflow_cast-result
overflow_cast-result c = compared_fits w8 ltb c.args.new.now c.args.old.now (search rules) (search rules)

pub returns-in-Less : goal.returns-in-Less
returns-in-Less c = λ j h.
    bit_at-compared w8 ltb c.args.new.now c.args.old.now j (search rules) (search rules) h
    ∙ ap (λ func. compares func (slice_index c.args.new.now j) (slice_index c.args.old.now j)) (sym c.in-Less.is)

pub overflow_cast-result-in-Equal : goal.overflow_cast-result-in-Equal
overflow_cast-result-in-Equal c = compared_fits w8 eqb c.args.new.now c.args.old.now (search rules) (search rules)

pub returns-in-Equal : goal.returns-in-Equal
returns-in-Equal c = λ j h.
    bit_at-compared w8 eqb c.args.new.now c.args.old.now j (search rules) (search rules) h
    ∙ ap (λ func. compares func (slice_index c.args.new.now j) (slice_index c.args.old.now j)) (sym c.in-Equal.is)

pub overflow_cast-result-in-LessEqual : goal.overflow_cast-result-in-LessEqual
overflow_cast-result-in-LessEqual c = compared_fits w8 leb c.args.new.now c.args.old.now (search rules) (search rules)

pub returns-in-LessEqual : goal.returns-in-LessEqual
returns-in-LessEqual c = λ j h.
    bit_at-compared w8 leb c.args.new.now c.args.old.now j (search rules) (search rules) h
    ∙ ap (λ func. compares func (slice_index c.args.new.now j) (slice_index c.args.old.now j)) (sym c.in-LessEqual.is)

pub overflow_cast-result-in-Greater : goal.overflow_cast-result-in-Greater
overflow_cast-result-in-Greater c = compared_fits w8 ltb c.args.old.now c.args.new.now (search rules) (search rules)

pub returns-in-Greater : goal.returns-in-Greater
returns-in-Greater c = λ j h.
    bit_at-compared w8 ltb c.args.old.now c.args.new.now j (search rules) (search rules) h
    ∙ ap (λ func. compares func (slice_index c.args.new.now j) (slice_index c.args.old.now j)) (sym c.in-Greater.is)

pub overflow_cast-result-in-NotEqual : goal.overflow_cast-result-in-NotEqual
overflow_cast-result-in-NotEqual c = compared_fits w8 differ c.args.new.now c.args.old.now (search rules) (search rules)

pub returns-in-NotEqual : goal.returns-in-NotEqual
returns-in-NotEqual c = λ j h.
    bit_at-compared w8 differ c.args.new.now c.args.old.now j (search rules) (search rules) h
    ∙ ap (λ func. compares func (slice_index c.args.new.now j) (slice_index c.args.old.now j)) (sym c.in-NotEqual.is)

pub overflow_cast-result-in-GreaterEqual : goal.overflow_cast-result-in-GreaterEqual
overflow_cast-result-in-GreaterEqual c = compared_fits w8 leb c.args.old.now c.args.new.now (search rules) (search rules)

pub returns-in-GreaterEqual : goal.returns-in-GreaterEqual
returns-in-GreaterEqual c = λ j h.
    bit_at-compared w8 leb c.args.old.now c.args.new.now j (search rules) (search rules) h
    ∙ ap (λ func. compares func (slice_index c.args.new.now j) (slice_index c.args.old.now j)) (sym c.in-GreaterEqual.is)
