-- No answer has a float, so each is written as its text.
use Rattle.std.proofs.Common.{◌≡◌, ℕ, Bool, List, [], ◌∷◌, map, true, false, Option, Some, None, refl}
use Rattle.serde_json.specs.Written.{has_float, items_have_float}
use Rattle.serde_json.specs.View.{items_of}
use Rattle.std.specs.List.{range_with_len}
use Rattle.desk_base.specs.declared.search.results.Found.{Found}
use Rattle.desk_base.specs.declared.search.results.Position.{Position}
use Rattle.desk_base.specs.declared.rows.bookings.Receipt.{Receipt}
use Rattle.desk_base.specs.declared.rows.bookings.Receipt.TheVariants.{Put, Removed, Booked, Cancelled}
use Rattle.desk_base.specs.declared.asked.summaries.Summary.{Summary}
use Rattle.desk_base.specs.declared.asked.refusals.Shown.{Shown}
use Rattle.desk_base.specs.declared.asked.refusals.Shown.TheVariants as shown
use Rattle.desk_base.specs.declared.asked.refusals.Refusal.{Refusal}
use Rattle.desk_base.specs.declared.asked.refusals.Refusal.TheVariants as refusal
use Rattle.desk_base.specs.declared.asked.answers.Answer.{Answer}
use Rattle.desk_base.specs.declared.asked.answers.Outcome.{Outcome}
use Rattle.desk_base.specs.declared.asked.answers.Outcome.TheVariants as outcome
use Rattle.desk_base.specs.declared.asked.answers.Reply.TheVariants as reply
use Rattle.desk_json.specs.Values.{whole_number, number_or_null}
use Rattle.desk_json.specs.Pages.{row_data, next_data}
use Rattle.desk_json.specs.Receipts.{receipt_data}
use Rattle.desk_json.specs.Journals.{summary_data}
use Rattle.desk_json.specs.Refusals.{shown_data, refusal_data}
use Rattle.desk_json.specs.Answers.{outcome_data, answer_data}

picks_have_none : (picks : List (Option ℕ)) → items_have_float (items_of (map number_or_null picks)) ≡ false
picks_have_none [] = refl
picks_have_none (Some resource ∷ picks) = picks_have_none picks
picks_have_none (None ∷ picks) = picks_have_none picks

rows_have_none : (rows : List Found) → items_have_float (items_of (map row_data rows)) ≡ false
rows_have_none [] = refl
rows_have_none (row ∷ rows) = rw (picks_have_none row.picks) (rows_have_none rows)

next_has_none : (revision : ℕ) (shown_rows : Option ℕ) (next : Option Position) → has_float (next_data revision shown_rows next) ≡ false
next_has_none revision shown_rows (Some position) = refl
next_has_none revision shown_rows None = refl

numbers_have_none : (numbers : List ℕ) → items_have_float (items_of (map whole_number numbers)) ≡ false
numbers_have_none [] = refl
numbers_have_none (n ∷ numbers) = numbers_have_none numbers

summaries_have_none : (summaries : List Summary) → items_have_float (items_of (map summary_data summaries)) ≡ false
summaries_have_none [] = refl
summaries_have_none (s ∷ summaries) = summaries_have_none summaries

receipt_has_none : (repeated : Bool) (revision : ℕ) (receipt : Receipt) → has_float (receipt_data repeated revision receipt) ≡ false
receipt_has_none repeated revision Put = refl
receipt_has_none repeated revision Removed = refl
receipt_has_none repeated revision (Booked first count effort_minutes) = rw (numbers_have_none (range_with_len first count)) refl
receipt_has_none repeated revision (Cancelled count effort_minutes) = refl

shown_has_none : (it : Shown) → has_float (shown_data it) ≡ false
shown_has_none (shown.Booking id) = refl
shown_has_none shown.Gap = refl

refusal_has_none : (revision : ℕ) (why : Refusal) → has_float (refusal_data revision why) ≡ false
refusal_has_none revision (refusal.JournalFull entries) = refl
refusal_has_none revision (refusal.OldNumber last) = refl
refusal_has_none revision (refusal.SkippedNumber last) = refl
refusal_has_none revision (refusal.UnknownId key) = refl
refusal_has_none revision (refusal.BadField field) = refl
refusal_has_none revision (refusal.BadTree broken node) = refl
refusal_has_none revision (refusal.InUse key by) = refl
refusal_has_none revision (refusal.Full table) = refl
refusal_has_none revision (refusal.NotOpen group) = refl
refusal_has_none revision (refusal.NotBooked group) = refl
refusal_has_none revision (refusal.Moved shown now) = refl
refusal_has_none revision (refusal.OffGrid start) = refl
refusal_has_none revision (refusal.BadShape leaf) = refl
refusal_has_none revision (refusal.NotEligible leaf resource broken) = refl
refusal_has_none revision (refusal.NotSame node) = refl
refusal_has_none revision (refusal.Conflict clash) = rw (shown_has_none clash.shown) refl

outcome_has_none : (revision : ℕ) (it : Outcome) → has_float (outcome_data revision it) ≡ false
outcome_has_none revision (outcome.Done (reply.Change receipt)) = receipt_has_none false revision receipt
outcome_has_none revision (outcome.Done (reply.Rows page)) = rw (next_has_none revision page.shown page.next, rows_have_none page.rows) refl
outcome_has_none revision (outcome.Done (reply.Journal summaries)) = rw (summaries_have_none summaries) refl
outcome_has_none revision (outcome.Done reply.Revision) = refl
outcome_has_none revision (outcome.Repeated receipt) = receipt_has_none true revision receipt
outcome_has_none revision (outcome.Refused why) = refusal_has_none revision why
outcome_has_none revision outcome.NoMemory = refl

pub answer_has_none : (answer : Answer) → has_float (answer_data answer) ≡ false
answer_has_none answer = outcome_has_none answer.revision answer.outcome
