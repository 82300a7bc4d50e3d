-- For each leaf whether it is chosen.
use Rattle.std.specs.Prelude.{Bool, true, not, List, [], ◌∷◌, ◌++◌, Option, Some, None}
use Rattle.desk_base.specs.meaning.Picks.{pattern_of}
use Rattle.desk_need.specs.declared.trees.bits.Bits.{Bits}

-- the one, if there is one
abbrev pub one_of : Option Bool → List Bool
one_of None = []
one_of (Some b) = b ∷ []

-- all of them
abbrev pub bits_of : Bits → List Bool
bits_of b = b.chosen.now ++ (pattern_of b.picks.now ++ one_of b.next)

-- a leaf may be chosen with the first of these
abbrev pub may_begin : List Bool → Bool
may_begin [] = true
may_begin (b ∷ bs) = b

-- a leaf may be left out with the first of these
abbrev pub may_miss : List Bool → Bool
may_miss [] = true
may_miss (b ∷ bs) = not b
