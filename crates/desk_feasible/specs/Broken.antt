-- The points that come before part-of-same and room, as a verdict and as a refusal.
use Rattle.std.specs.Prelude.{ℕ}
use Rattle.desk_base.specs.declared.asked.refusals.Refusal.{Refusal}
use Rattle.desk_base.specs.declared.asked.refusals.Refusal.TheVariants as refusal
use Rattle.desk_base.specs.declared.asked.rules.Verdict.{Verdict}
use Rattle.desk_base.specs.declared.asked.rules.Verdict.TheVariants as verdict
use Rattle.desk_base.specs.search.Verdicts.{Unserved}
use Rattle.desk_feasible.specs.declared.broken.Broken.{Broken}
use Rattle.desk_feasible.specs.declared.broken.Broken.TheVariants.{OffGrid, BadShape, NotEligible}

-- the point as a verdict
abbrev pub verdict_of : Broken → Verdict
verdict_of OffGrid = verdict.OffGrid
verdict_of (BadShape j) = verdict.BadShape j
verdict_of (NotEligible j r rule) = verdict.NotEligible j r rule

-- the point as the refusal of a booking from s on
abbrev pub refusal_of : ℕ → Broken → Refusal
refusal_of s OffGrid = refusal.OffGrid s
refusal_of s (BadShape j) = refusal.BadShape j
refusal_of s (NotEligible j r rule) = refusal.NotEligible j r rule

-- a chosen leaf whose resource does not serve it
abbrev pub unserved_as : Unserved → Broken
unserved_as u = NotEligible u.choice.number u.choice.resource u.rule
