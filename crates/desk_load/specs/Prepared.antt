-- An index before a change of its tables and after it.
use Rattle.desk_load.specs.declared.changes.Before.{Before}
use Rattle.desk_load.specs.declared.changes.Before.TheVariants.{Index, Parts}
use Rattle.desk_load.specs.Parted.{IndexParts}
use Rattle.desk_load.specs.Changed.{taken_back}

-- the index before the change and after it
pub record ChangedIndex : Type 0 where
  pub before : IndexParts
  pub after : IndexParts

-- what the index was before the change
abbrev pub before_with : IndexParts → Before → IndexParts
before_with after (Index index) = index
before_with after (Parts formers) = taken_back after formers.items
