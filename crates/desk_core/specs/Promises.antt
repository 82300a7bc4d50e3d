-- What whoever takes a step may rely on, said by itself.
use Rattle.std.specs.Prelude.{◌≡◌, ◌⊎◌, List, [], Contains, ⊤}
use Rattle.desk_base.specs.declared.rows.tables.Tables.{Tables}
use Rattle.desk_base.specs.declared.rows.groups.GroupRow.{GroupRow}
use Rattle.desk_base.specs.declared.asked.acts.Entry.{Entry}
use Rattle.desk_base.specs.declared.asked.answers.Command.{Command}
use Rattle.desk_base.specs.declared.asked.answers.Command.TheVariants.{Change}
use Rattle.desk_base.specs.declared.asked.answers.Outcome.{Outcome}
use Rattle.desk_base.specs.declared.asked.answers.Outcome.TheVariants.{Done, Repeated, Refused, NoMemory}
use Rattle.desk_base.specs.asked.Steps.{IsRefused}
use Rattle.desk_base.specs.rules.Sound.{IsBooked, bookings_of}

-- nothing was carried out: the command was refused, was a repetition, or memory was wanting
abbrev pub IsNothingDone : Outcome → Type 0
IsNothingDone (Done reply) = ⊥
IsNothingDone (Repeated receipt) = ⊤
IsNothingDone (Refused why) = ⊤
IsNothingDone NoMemory = ⊤

-- a change that is refused is refused for the first reason that applies, with its values
abbrev pub IsFirstReason : Tables → List Entry → Command → Outcome → Type 0
IsFirstReason t journal (Change call a) (Refused why) = IsRefused t journal call a why
IsFirstReason t journal c out = ⊤

-- each group has no booking, or is booked whole
abbrev pub AreBookedWhole : Tables → Type 0
AreBookedWhole t = (g : GroupRow) → Contains t.groups g → (bookings_of t g ≡ []) ⊎ IsBooked t g
