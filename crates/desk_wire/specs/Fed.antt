-- What contracts see of a framer.
use Rattle.std.specs.Prelude.{ℕ, List, Option}
use Rattle.desk_wire.specs.declared.rules.WireEnd.{WireEnd}

-- the bytes that were fed and not taken off, why no further request is read, where that was answered, and how many of the bytes
-- that were taken off are still kept in front of the rest
pub record Fed : Type 0 where
  pub rest : List ℕ
  pub ended : Option WireEnd
  pub spent : ℕ
