-- Why nodes and leaves are no tree, as a program answers it.
use Rattle.std.specs.Prelude.{Option, Some, None, Result, Ok, Err}
use Rattle.desk_base.specs.rules.TreeRules.{TreeFault}
use Rattle.desk_need.specs.declared.trees.tree.TreeError.{TreeError}
use Rattle.desk_need.specs.declared.trees.tree.TreeError.TheVariants.{Bad}

-- the broken rule and its node
abbrev pub fault_of : TreeError → TreeFault
fault_of (Bad rule node) = record { rule = rule; node = node }

-- whether there is a fault
abbrev pub outcome_of : Option TreeFault → Result (Unit {0}) TreeError
outcome_of None = Ok tt
outcome_of (Some fault) = Err (Bad fault.rule fault.node)
