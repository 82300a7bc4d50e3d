use Rattle.std.proofs.Common.{◌≡◌, ℕ, List, Option, take}
use Rattle.std.specs.Prelude.{Contains}
use Rattle.tests_pruned.specs.Sound.{AreChoices}
use Rattle.tests_pruned.proofs.sound.all_are_choices.Given as goal

abbrev pub invariant-loop-choices : goal.invariant-loop-choices
invariant-loop-choices l = (l.choices-items ≡ l.listed.choices) × ((x : List (Option ℕ)) → Contains (take l.choices-index l.choices-items) x → AreChoices l.listed x)
