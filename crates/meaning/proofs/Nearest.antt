-- Settings behind one more command.
use Rattle.std.proofs.Common.{◌≡◌, ◌∙◌, ap, refl, List, [], ◌∷◌, ◌++◌}
use Rattle.std.specs.Prelude.{Option, Some, None, unwrap_or, filter_map}
use Rattle.std.proofs.lemmas.List.{append-nil}
use Rattle.std.proofs.lemmas.List.Elements.{filter_map-append}
use Rattle.gfxspec.specs.Commands.{Command}
use Rattle.meaning.specs.OneMore.{settings_with}
use Rattle.gfxspec.specs.Recorded.{last_or, nearest, settings_after}

pub last_or-push : {A : Type 0} (d : A) (xs : List A) (x : A) → last_or d (xs ++ x ∷ []) ≡ x
last_or-push d [] x = refl
last_or-push d (y ∷ ys) x = last_or-push y ys x

last_or-option : {A : Type 0} (d : A) (xs : List A) (o : Option A) (c : Command) (set : Command → Option A) → set c ≡ o → last_or d (xs ++ filter_map set (c ∷ [])) ≡ unwrap_or o (last_or d xs)
last_or-option d xs None c set e = rw e (ap (last_or d) (append-nil xs))
last_or-option d xs (Some x) c set e = rw e (last_or-push d xs x)

-- the nearest setting is the last command's, if that sets the kind
pub nearest-push : {A : Type 0} (set : Command → Option A) (d : A) (cs : List Command) (c : Command) → nearest set d (cs ++ c ∷ []) ≡ unwrap_or (set c) (nearest set d cs)
nearest-push set d cs c = ap (last_or d) (filter_map-append set cs (c ∷ [])) ∙ last_or-option d (filter_map set cs) (set c) c set refl

pub settings_after-push : (cs : List Command) (c : Command) → settings_after (cs ++ c ∷ []) ≡ settings_with c (settings_after cs)
settings_after-push cs c =
    simp (nearest-push)
