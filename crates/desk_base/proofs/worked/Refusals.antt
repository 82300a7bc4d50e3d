-- Refusals and receipts that no other worked case shows, and tables that break a rule.
use Rattle.std.proofs.Common.{◌≡◌, ℕ, ◌+◌, refl, subst, [], ◌∷◌, replicate, Some, None, false}
use Rattle.std.proofs.lemmas.Bool.{false≢true}
use Rattle.std.specs.declared.cmp.Ordering.TheVariants.{Less}
use Rattle.desk_base.specs.rows.Types.{Tables, GroupRow}
use Rattle.desk_base.specs.declared.rows.tables.Table.TheVariants.{Unit as UnitTable, Resource as ResourceTable, Booking as BookingTable, Caller as CallerTable, BookingNumbers}
use Rattle.desk_base.specs.declared.rows.groups.NodeKind.TheVariants.{All, Leaf}
use Rattle.desk_base.specs.declared.asked.rules.TableRule.TheVariants.{Count}
use Rattle.desk_base.specs.declared.asked.rules.TreeRule.TheVariants.{Leaves}
use Rattle.desk_base.specs.declared.rows.bookings.Receipt.TheVariants.{Booked}
use Rattle.desk_base.specs.declared.asked.acts.Act.TheVariants as act
use Rattle.desk_base.specs.declared.asked.acts.Call.{Call}
use Rattle.desk_base.specs.declared.asked.refusals.Refusal.TheVariants.{JournalFull, BadTree, InUse, Full}
use Rattle.desk_base.specs.rules.Limits.{revision_limit, serial_limit, leaf_limit}
use Rattle.desk_base.specs.rules.Rules.{first_broken}
use Rattle.desk_base.specs.rows.Keys.{key_cmp, id_key}
use Rattle.desk_base.specs.asked.Acts.{receipt_of}
use Rattle.desk_base.specs.asked.Refusing.{refused_entry, refused_tree, refused_removal, refused_place, booking_places, with_caller_place}
use Rattle.desk_base.specs.rules.Sound.{IsBadAt}
use Rattle.desk_base.specs.rows.Trial.{trial, trial_group, plain_leaf}
use Rattle.desk_base.proofs.tables.Sounds.{key_total}
use Rattle.desk_base.proofs.lists.Orders.{not_itself}
use Rattle.desk_base.proofs.tables.TrialSound.{trial_sound}
use Rattle.desk_base.proofs.puts.ActPuts.{counted, counted_keeps_rows}
use Rattle.desk_base.proofs.worked.Parts.{monday, node}

abbrev seven : Call
seven = record { caller = 7; number = 1 }

-- ---- at the limits

-- the revision is at its limit, and the journal has no entry
last_revision : refused_entry (record trial { revision = revision_limit }) [] ≡ Some (JournalFull 0)
last_revision = refl

-- a booking fewer would do: 400,000 may stand
bookings_full : first_broken (booking_places trial 399990 11) ≡ Some BookingTable
bookings_full = refl

bookings_just_there : first_broken (booking_places trial 399990 10) ≡ None
bookings_just_there = refl

-- all booking numbers were given
numbers_full : refused_place (record trial { last_booking = serial_limit }) seven (act.BookGroup 1 (monday 8 0) (Some 1 ∷ [])) ≡ Some (Full BookingNumbers)
numbers_full = refl

-- a caller without a place stands between bookings and their numbers
callers_full : first_broken (with_caller_place (false, CallerTable) (booking_places (record trial { last_booking = serial_limit }) 0 1)) ≡ Some CallerTable
callers_full = refl

-- ---- trees

-- so many leaves under one node
abbrev wide : ℕ → GroupRow
wide n = record trial_group { nodes = node 0 All ∷ replicate n (node 1 Leaf); leaves = replicate n plain_leaf }

as_many_leaves : refused_tree (act.PutGroup (wide leaf_limit)) ≡ None
as_many_leaves = refl

-- the twenty-fifth leaf is the node of number 25
a_leaf_too_many : refused_tree (act.PutGroup (wide 25)) ≡ Some (BadTree Leaves 25)
a_leaf_too_many = refl

-- ---- removals and moves

-- the unit of the trial tables is that of their first resource
unit_in_use : refused_removal trial (act.Remove (id_key UnitTable 1)) ≡ Some (InUse (id_key UnitTable 1) (id_key ResourceTable 1))
unit_in_use = refl

-- Visit stands at 08:00 on Ann; moved, it gets a new number
abbrev visit_booked : Tables
visit_booked = record trial { bookings = record { id = 1; group = 1; leaf = 0; resource = 1; from = monday 8 0; to = monday 9 0; effort = 1 } ∷ []; last_booking = 1 }

moved_receipt : receipt_of visit_booked (act.MoveGroup 1 (monday 10 0) (Some 2 ∷ [])) ≡ Booked 2 1 60
moved_receipt = refl

-- ---- tables that break a rule

-- a revision above its limit breaks the last rule alone, which is named with the key 0 of bookings
revision_above : IsBadAt (counted trial (revision_limit + 1) 0) Count (id_key BookingTable 0)
revision_above = record {
  broken = λ keeps. false≢true (keeps refl);
  least = λ j below e. absurd (not_itself key_cmp key_total (id_key BookingTable 0) (subst (λ k. key_cmp k (id_key BookingTable 0) ≡ Less) e below));
  first = λ earlier low j. counted_keeps_rows trial (revision_limit + 1) 0 trial_sound earlier j low;
}
