-- An index some parts of which are replaced.
use Rattle.std.specs.Prelude.{ℕ, ◌&&◌, nat_le, nat_lt, List, [], ◌∷◌, map, set, length, if◌then◌else◌}
use Rattle.std.specs.Ordering.{nat_cmp}
use Rattle.std.specs.List.{insert, remove}
use Rattle.std.specs.List.Sorted.{IsStrictlySortedBy}
use Rattle.desk_load.specs.declared.weights.Weight.{Weight}
use Rattle.desk_load.specs.declared.lists.BookingList.{BookingList}
use Rattle.desk_load.specs.declared.changes.opened.Former.{Former}
use Rattle.desk_load.specs.declared.changes.opened.Former.TheVariants.{Weighed, Standing, Booked, AddedWeight, AddedStanding, AddedBooked, RemovedWeight, RemovedStanding, RemovedBooked, Members}
use Rattle.desk_load.specs.declared.changes.opened.OpenIndex.{OpenIndex}
use Rattle.desk_load.specs.Parted.{IndexParts}

-- the numbers of each of the three lists rise
abbrev pub IsOrdered : IndexParts → Type 0
IsOrdered i =
    IsStrictlySortedBy nat_cmp (map (λ (w : Weight). w.resource) i.weights) × IsStrictlySortedBy nat_cmp (map (λ (l : BookingList). l.number) i.standing)
    × IsStrictlySortedBy nat_cmp (map (λ (l : BookingList). l.number) i.booked)

-- the rows with one that was removed at its place again, where the memory that was kept for so many rows has room
abbrev pub put_among : {A : Type 0} → ℕ → A → ℕ → List A → List A
put_among at x room xs = if nat_le at (length xs) && nat_lt (length xs) room then insert xs at x else xs

-- the index with a former part of it in the place of the one that stands there, without a part that was added, or with one that was removed
abbrev pub put_back : IndexParts → Former → IndexParts
put_back i (Weighed at w) = record i { weights = set i.weights at w }
put_back i (Standing at l) = record i { standing = set i.standing at l }
put_back i (Booked at l) = record i { booked = set i.booked at l }
put_back i (AddedWeight at) = record i { weights = remove i.weights at }
put_back i (AddedStanding at) = record i { standing = remove i.standing at }
put_back i (AddedBooked at) = record i { booked = remove i.booked at }
put_back i (RemovedWeight at w room) = record i { weights = put_among at w room i.weights }
put_back i (RemovedStanding at l room) = record i { standing = put_among at l room i.standing }
put_back i (RemovedBooked at l room) = record i { booked = put_among at l room i.booked }
put_back i (Members rows) = record i { members = rows }

-- the index with all of these parts again, the last first
abbrev pub taken_back : IndexParts → List Former → IndexParts
taken_back i [] = i
taken_back i (former ∷ formers) = put_back (taken_back i formers) former

-- the index that stands open
abbrev pub parts_of : OpenIndex → IndexParts
parts_of o = record { weights = o.weights.items; standing = o.standing.items; booked = o.booked.items; members = o.members }

-- what it was before any part of it was replaced
abbrev pub before_of : OpenIndex → IndexParts
before_of o = taken_back (parts_of o) o.formers.items
