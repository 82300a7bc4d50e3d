use Rattle.std.proofs.Common.{◌≡◌, take}
use Rattle.std.specs.Prelude.{Contains}
use Rattle.desk_base.specs.declared.search.results.Position.{Position}
use Rattle.tests_pruned.specs.Sound.{IsPlaced}
use Rattle.tests_pruned.proofs.sound.all_are_placed.Given as goal

abbrev pub invariant-loop-position : goal.invariant-loop-position
invariant-loop-position l = (l.position-items ≡ l.listed.lives) × ((x : Position) → Contains (take l.position-index l.position-items) x → IsPlaced l.listed x)
