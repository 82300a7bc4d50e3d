use Rattle.std.proofs.Common.{◌≡◌, map, take}
use Rattle.desk_load.specs.Parts.{piece_of}
use Rattle.desk_load.proofs.weights.pieces_of.Given as goal

abbrev pub invariant-loop-part : goal.invariant-loop-part
invariant-loop-part l = l.pieces.items ≡ map piece_of (take l.part-index l.parts)
