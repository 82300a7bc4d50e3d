-- What a turn promises, one by one.
use Rattle.std.proofs.Common.{◌≡◌, ℕ, List, Option, Some, None, inl, inr, refl}
use Rattle.desk_base.specs.declared.rows.tables.Tables.{Tables}
use Rattle.desk_base.specs.declared.rows.bookings.Receipt.{Receipt}
use Rattle.desk_base.specs.declared.rows.tables.Table.TheVariants.{Group as GroupTable}
use Rattle.desk_base.specs.declared.asked.rules.TableRule.TheVariants.{Booked}
use Rattle.desk_base.specs.declared.asked.acts.Act.{Act}
use Rattle.desk_base.specs.declared.asked.acts.Call.{Call}
use Rattle.desk_base.specs.declared.asked.acts.Entry.{Entry}
use Rattle.desk_base.specs.declared.asked.answers.Command.{Command}
use Rattle.desk_base.specs.declared.asked.answers.Command.TheVariants.{Change, Ask}
use Rattle.desk_base.specs.declared.asked.answers.Outcome.{Outcome}
use Rattle.desk_base.specs.declared.asked.answers.Outcome.TheVariants.{Done, Repeated, Refused, NoMemory}
use Rattle.desk_base.specs.rows.Keys.{id_key}
use Rattle.desk_base.specs.asked.Steps.{IsTurn, IsStep, IsChanged, IsJudged, IsUnchanged, kept_receipt}
use Rattle.desk_base.specs.rules.Sound.{IsSound}
use Rattle.desk_core.specs.Promises.{IsNothingDone, IsFirstReason, AreBookedWhole}

-- ---- where nothing is done, nothing changes

module _ (t t' : Tables) (journal journal' : List Entry) (pass : ℕ) where
  judged_leaves : (call : Call) (a : Act) (out : Outcome) → IsJudged t journal pass call a out t' journal' → IsNothingDone out → IsUnchanged t journal t' journal'
  judged_leaves call a (Done r) h n = absurd n
  judged_leaves call a (Repeated receipt) h n = absurd h
  judged_leaves call a (Refused why) h n = h.1
  judged_leaves call a NoMemory h n = absurd h

  changed_leaves : (call : Call) (a : Act) (kept : Option Receipt) (out : Outcome) → IsChanged t journal pass call a kept out t' journal' → IsNothingDone out → IsUnchanged t journal t' journal'
  changed_leaves call a (Some receipt) out h n = h.1
  changed_leaves call a None out h n = judged_leaves call a out h n

  step_leaves : (c : Command) (out : Outcome) → IsStep t journal pass c out t' journal' → IsNothingDone out → IsUnchanged t journal t' journal'
  step_leaves (Change call a) out h n = changed_leaves call a (kept_receipt t call) out h n
  step_leaves (Ask q) out h n = h.1

  pub turn_leaves : (c : Command) (out : Outcome) → IsTurn t journal pass c out t' journal' → IsNothingDone out → IsUnchanged t journal t' journal'
  turn_leaves c out (inl h) n = step_leaves c out h n
  turn_leaves c out (inr h) n = h.1

  -- ---- the first reason is told

  changed_first : (call : Call) (a : Act) (kept : Option Receipt) (out : Outcome) → IsChanged t journal pass call a kept out t' journal' → IsFirstReason t journal (Change call a) out
  changed_first call a (Some receipt) (Done r) h = tt
  changed_first call a (Some receipt) (Repeated other) h = tt
  changed_first call a (Some receipt) (Refused why) h = let e : Refused why ≡ Repeated receipt = h.0 in absurd (cc)
  changed_first call a (Some receipt) NoMemory h = tt
  changed_first call a None (Done r) h = tt
  changed_first call a None (Repeated other) h = tt
  changed_first call a None (Refused why) h = h.0
  changed_first call a None NoMemory h = tt

  none_first : (c : Command) (out : Outcome) → out ≡ NoMemory → IsFirstReason t journal c out
  none_first (Change call a) (Done r) e = tt
  none_first (Change call a) (Repeated receipt) e = tt
  none_first (Change call a) (Refused why) e = let f : Refused why ≡ NoMemory = e in absurd (cc)
  none_first (Change call a) NoMemory e = tt
  none_first (Ask q) out e = tt

  pub turn_first : (c : Command) (out : Outcome) → IsTurn t journal pass c out t' journal' → IsFirstReason t journal c out
  turn_first (Change call a) out (inl h) = changed_first call a (kept_receipt t call) out h
  turn_first (Ask q) out (inl h) = tt
  turn_first c out (inr h) = none_first c out h.0

-- ---- what sound tables keep of their groups

pub booked_whole : (t : Tables) → IsSound t → AreBookedWhole t
booked_whole t s g c = s.keeps Booked (id_key GroupTable g.id) g c refl
