-- Whether a resource serves a leaf, by the first rule that it breaks.
use Rattle.std.specs.Prelude.{Option, Some, None}
use Rattle.desk_base.specs.declared.asked.rules.LeafRule.{LeafRule}
use Rattle.desk_need.specs.declared.serving.Eligibility.{Eligibility}
use Rattle.desk_need.specs.declared.serving.Eligibility.TheVariants.{Yes, Broken}

-- it serves where it breaks none
abbrev pub eligibility_of : Option LeafRule → Eligibility
eligibility_of None = Yes
eligibility_of (Some rule) = Broken rule
