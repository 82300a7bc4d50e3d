-- What comes of a change: it is entered, or a refusal applies.
use Rattle.std.specs.Prelude.{◌≡◌, Bool, true, false, List, [], map, Option, Some, None, if◌then◌else◌, Result, Ok, Err, ⊤}
use Rattle.desk_base.specs.declared.rows.bookings.Receipt.{Receipt}
use Rattle.desk_base.specs.declared.rows.tables.Tables.{Tables}
use Rattle.desk_load.specs.Differing.{DiffersAt}
use Rattle.desk_load.specs.Effects.{KeepIndexed}
use Rattle.desk_base.specs.declared.asked.acts.Act.{Act}
use Rattle.desk_base.specs.declared.asked.acts.Act.TheVariants as act
use Rattle.desk_base.specs.declared.asked.acts.Call.{Call}
use Rattle.desk_base.specs.declared.asked.acts.Change.{Change}
use Rattle.desk_base.specs.declared.asked.acts.Entry.{Entry}
use Rattle.desk_base.specs.declared.asked.refusals.Refusal.TheVariants.{Conflict}
use Rattle.desk_base.specs.declared.asked.answers.Outcome.{Outcome}
use Rattle.desk_base.specs.declared.asked.answers.Outcome.TheVariants as outcome
use Rattle.desk_base.specs.declared.asked.answers.Reply.TheVariants as reply
use Rattle.desk_base.specs.rows.Rows.{key_of}
use Rattle.desk_base.specs.rules.Sound.{AreWellFormed}
use Rattle.desk_base.specs.meaning.Load.{Fits, ask_of}
use Rattle.desk_base.specs.changes.Changes.{with_change, without_key}
use Rattle.desk_base.specs.asked.Acts.{after_act}
use Rattle.desk_base.specs.asked.Steps.{bears_on_room, IsConflict, IsLateRefusal, IsRefused}
use Rattle.desk_core.specs.declared.entering.NotEntered.{NotEntered}
use Rattle.desk_core.specs.declared.entering.NotEntered.TheVariants.{Refused, NoMemory}

-- the act puts or takes out a row that says when resources have room
abbrev pub act_bears_on_room : Act → Bool
act_bears_on_room (act.Put row) = bears_on_room (key_of row).table
act_bears_on_room (act.Remove key) = bears_on_room key.table
act_bears_on_room _ = false

-- where the act bears on room, the standing bookings fit after it
abbrev pub FitAfter : Tables → Call → Act → Type 0
FitAfter t call a = act_bears_on_room a ≡ true → Fits (after_act t call a) (map ask_of t.bookings)

-- the tables on which an act with this change is judged, where it bears on room: those with the change, or those without the row
abbrev pub judged : Tables → Act → Change → Option Tables
judged t (act.Put row) c = if bears_on_room (key_of row).table then Some (with_change t c) else None
judged t (act.Remove key) c = if bears_on_room key.table then Some (without_key t key) else None
judged t _ c = None

-- the change is one that such an act comes to, and can be judged
abbrev pub IsOf : Tables → Act → Change → Type 0
IsOf t (act.Put row) c = (c.removes ≡ []) × (bears_on_room (key_of row).table ≡ true → DiffersAt t (with_change t c) (key_of row))
IsOf t (act.Remove key) c = AreWellFormed (without_key t key) × KeepIndexed (with_change t c) (without_key t key)
IsOf t _ c = ⊤

-- well-formed tables, in which the standing bookings fit
pub record IsFitting (t : Tables) : Type 0 where
  pub formed : AreWellFormed t
  pub fits : Fits t (map ask_of t.bookings)

-- the bookings fit before the change, and with it the tables are well formed
pub record CanBeEntered (t : Tables) (a : Act) (c : Change) : Type 0 where
  pub before : IsFitting t
  pub changed : AreWellFormed (with_change t c)
  pub of : IsOf t a c

-- the standing bookings fit the tables on which they are judged
abbrev pub FitIn : Option Tables → Type 0
FitIn None = ⊤
FitIn (Some t) = Fits t (map ask_of t.bookings)

-- in these tables the standing bookings clash, or memory was wanting
abbrev pub IsClashing : Tables → NotEntered → Type 0
IsClashing t (Refused (Conflict c)) = IsConflict t t.bookings [] c
IsClashing t (Refused _) = ⊥
IsClashing t NoMemory = ⊤

-- they clash in the tables on which they are judged, or memory was wanting
abbrev pub IsClashingIn : Option Tables → NotEntered → Type 0
IsClashingIn (Some t) why = IsClashing t why
IsClashingIn None (Refused why) = ⊥
IsClashingIn None NoMemory = ⊤

-- one of the later refusals applies, or memory was wanting
abbrev pub IsLateHindrance : Tables → Call → Act → NotEntered → Type 0
IsLateHindrance t call a (Refused why) = IsLateRefusal t call a why
IsLateHindrance t call a NoMemory = ⊤

-- this refusal is the first that applies, or memory was wanting
abbrev pub IsHindrance : Tables → List Entry → Call → Act → NotEntered → Type 0
IsHindrance t journal call a (Refused why) = IsRefused t journal call a why
IsHindrance t journal call a NoMemory = ⊤

-- the receipt of a change that was entered, the refusal, or want of memory
abbrev pub entered_outcome : Result Receipt NotEntered → Outcome
entered_outcome (Ok receipt) = outcome.Done (reply.Change receipt)
entered_outcome (Err (Refused why)) = outcome.Refused why
entered_outcome (Err NoMemory) = outcome.NoMemory
