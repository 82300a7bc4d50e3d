-- Items that are read one after another.
use Rattle.std.proofs.Common.{List, ◌++◌, Result, Ok}
use Rattle.desk_json.specs.declared.faults.BodyError.{BodyError}
use Rattle.desk_json.specs.Faults.{◌>>=◌}

-- what was read, and then the rest
abbrev pub after : {X : Type 0} → List X → Result (List X) BodyError → Result (List X) BodyError
after front rest = rest >>= λ xs. Ok (front ++ xs)
