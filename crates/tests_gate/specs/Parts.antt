-- Passes that are out, and what they have together.
use Rattle.std.specs.Prelude.{◌≡◌, ◌+◌, ◌*◌, ◌/◌, List, length, All}
use Rattle.desk_gate.specs.declared.limits.TheConstants.{WHOLE_SHARE}
use Rattle.desk_gate.specs.declared.counted.Counted.{Ghosts}
use Rattle.desk_gate.specs.declared.gate.Gate.{Gate}
use Rattle.desk_gate.specs.declared.pass.Pass.{Pass}
use Rattle.desk_gate.specs.Passes.{view, IsOf}

-- the pass and the parts are of the gate, each part with a 64th of the whole share, and together they have all of it
abbrev pub AreOut : {X E O : Type 0} {c : Ghosts X E O} → Gate X E O → Pass X E O c → List (Pass X E O c) → Type 0
AreOut g p parts = IsOf g p × All (λ q. IsOf g q × ((view q).share ≡ WHOLE_SHARE / 64)) parts
    × ((view p).share + length parts * (WHOLE_SHARE / 64) ≡ WHOLE_SHARE)
