-- Journals: which are legal over the tables at an opening, and the tables after one.
use Rattle.std.specs.Prelude.{ℕ, ◌+◌, ◌≤◌, ◌<◌, List, [], ◌∷◌, ◌++◌, fold, ◌≡◌, ⊤}
use Rattle.desk_base.specs.rows.Types.{Tables}
use Rattle.desk_base.specs.declared.rows.bookings.Receipt.{Receipt}
use Rattle.desk_base.specs.declared.rows.bookings.Receipt.TheVariants as receipt
use Rattle.desk_base.specs.declared.asked.acts.Entry.{Entry}
use Rattle.desk_base.specs.asked.Acts.{after_act}
use Rattle.desk_base.specs.asked.Steps.{IsAccepted, entry_of, kept_receipt}
use Rattle.std.specs.Prelude.{None}

-- the receipt names the booking of this number
abbrev pub IsNumbered : Receipt → ℕ → Type 0
IsNumbered (receipt.Booked first count effort_minutes) n = (first ≤ n) × (n < first + count)
IsNumbered _ n = ⊥

-- the tables after a journal's changes, one after another
abbrev pub after_journal : Tables → List Entry → Tables
after_journal t journal = fold (λ u e. after_act u e.call e.act) t journal

-- over these tables and the journal before it the entry is the one that its change adds
pub record IsNext (t : Tables) (before : List Entry) (e : Entry) : Type 0 where
  pub fresh : kept_receipt t e.call ≡ None
  pub accepted : IsAccepted t before e.call e.act
  pub entry : e ≡ entry_of t e.pass e.call e.act

-- from these tables and the entries before on, each entry is the one that its change adds
abbrev pub IsLegalFrom : Tables → List Entry → List Entry → Type 0
IsLegalFrom t before [] = ⊤
IsLegalFrom t before (e ∷ es) = IsNext t before e × IsLegalFrom (after_act t e.call e.act) (before ++ e ∷ []) es

-- the journal is legal over the tables at the opening
abbrev pub IsLegal : Tables → List Entry → Type 0
IsLegal opened journal = IsLegalFrom opened [] journal
