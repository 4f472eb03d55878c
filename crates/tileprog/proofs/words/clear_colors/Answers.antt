use Rattle.std.proofs.Common.{◌∙◌}
use Rattle.tileprog.proofs.Painted.{stands_itself}
use Rattle.tileprog.proofs.words.clear_colors.Goals as goal

pub returns-clause-pixels : goal.returns-clause-pixels
returns-clause-pixels g c = λ u v is. stands_itself c.clear_color.new.self u v ∙ c.clear_color.ensures.pixels u v is
