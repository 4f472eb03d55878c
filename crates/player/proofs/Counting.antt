-- How many lists the contexts have finished, by their numbers.
use Rattle.std.proofs.Common.{◌≡◌, refl, ℕ, zero, suc, ◌<◌, arith, length}
use Rattle.std.specs.Prelude.{slice_index}
use Rattle.recorders.specs.Recording.{Recording}
use Rattle.player.specs.Lines.{finished_by}

pub counted : (d : ℕ → Recording) (k : ℕ) → k < 8 → slice_index (finished_by d) k ≡ length (d k).lists
counted d zero h = refl
counted d (suc zero) h = refl
counted d (suc (suc zero)) h = refl
counted d (suc (suc (suc zero))) h = refl
counted d (suc (suc (suc (suc zero)))) h = refl
counted d (suc (suc (suc (suc (suc zero))))) h = refl
counted d (suc (suc (suc (suc (suc (suc zero)))))) h = refl
counted d (suc (suc (suc (suc (suc (suc (suc zero))))))) h = refl
counted d (suc (suc (suc (suc (suc (suc (suc (suc k)))))))) h = absurd (omega arith)
