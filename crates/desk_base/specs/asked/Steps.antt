-- The one-thread scheduler: what a command comes to over tables and a journal, which refusal it meets first, and what stays.
use Rattle.std.specs.Prelude.{ℕ, ◌+◌, Bool, true, false, ◌==◌, ◌&&◌, List, [], ◌∷◌, ◌++◌, map, filter, not, find, Option, Some, None, option_map, unwrap_or, if◌then◌else◌, ◌≡◌, ◌⊎◌}
use Rattle.std.specs.Option.{option_map_or, option_or}
use Rattle.desk_base.specs.rows.Types.{Tables, Table, Key, GroupRow, BookingRow, Ask, Options}
use Rattle.desk_base.specs.declared.rows.tables.Table.TheVariants.{Zone, Calendar, Work, Break, Day, Off, Resource, Member, Group}
use Rattle.desk_base.specs.declared.asked.rules.Verdict.TheVariants as verdict
use Rattle.desk_base.specs.declared.asked.rules.Field.TheVariants.{Limit, Per}
use Rattle.desk_base.specs.declared.rows.bookings.Receipt.{Receipt}
use Rattle.desk_base.specs.declared.search.results.Cursor.{Cursor}
use Rattle.desk_base.specs.declared.asked.acts.Act.{Act}
use Rattle.desk_base.specs.declared.asked.acts.Act.TheVariants as act
use Rattle.desk_base.specs.declared.asked.acts.Call.{Call}
use Rattle.desk_base.specs.declared.asked.acts.Entry.{Entry}
use Rattle.desk_base.specs.declared.asked.refusals.Clash.{Clash}
use Rattle.desk_base.specs.declared.asked.refusals.Shown.{Shown}
use Rattle.desk_base.specs.declared.asked.refusals.Shown.TheVariants as shown
use Rattle.desk_base.specs.declared.asked.refusals.Refusal.{Refusal}
use Rattle.desk_base.specs.declared.asked.refusals.Refusal.TheVariants as refusal
use Rattle.desk_base.specs.declared.asked.answers.Query.{Query}
use Rattle.desk_base.specs.declared.asked.answers.Query.TheVariants as query
use Rattle.desk_base.specs.declared.asked.answers.Command.{Command}
use Rattle.desk_base.specs.declared.asked.answers.Command.TheVariants as command
use Rattle.desk_base.specs.declared.asked.answers.Reply.TheVariants as reply
use Rattle.desk_base.specs.declared.asked.answers.Outcome.{Outcome}
use Rattle.desk_base.specs.declared.asked.answers.Outcome.TheVariants as outcome
use Rattle.desk_base.specs.rules.Limits.{page_limit}
use Rattle.desk_base.specs.rows.Keys.{id_key}
use Rattle.desk_base.specs.rows.Rows.{key_of}
use Rattle.desk_base.specs.rules.Fields.{is_within_range}
use Rattle.desk_base.specs.meaning.Load.{IsClash, weight, shown_at, ask_of}
use Rattle.desk_base.specs.search.Listing.{asks_for}
use Rattle.desk_base.specs.search.Verdicts.{IsVerdict}
use Rattle.desk_base.specs.search.Page.{ResumePoint, beginning, IsPage}
use Rattle.desk_base.specs.asked.Groups.{group_of}
use Rattle.desk_base.specs.asked.Acts.{receipt_of, after_act}
use Rattle.desk_base.specs.asked.Refusing.{unknown_among, early_refusal}
use Rattle.desk_base.specs.asked.Summaries.{summaries_from}

-- ---- where bookings do not fit

-- the least booking that counts there, or none
abbrev pub shown_of : Tables → List BookingRow → ℕ → ℕ → Shown
shown_of t standing r m = option_map_or shown.Booking (shown_at t standing r m) shown.Gap

-- the clash of the bookings that are asked for with those that stand
pub record IsConflict (t : Tables) (standing : List BookingRow) (asked : List Ask) (c : Clash) : Type 0 where
  pub clash : IsClash t standing asked c.resource c.minute c.capacity
  pub standing_weight : c.standing ≡ weight t (map ask_of standing) c.resource c.minute
  pub asked_weight : c.asked ≡ weight t asked c.resource c.minute
  pub shown : c.shown ≡ shown_of t standing c.resource c.minute

-- rows of this table say when resources have room
abbrev pub bears_on_room : Table → Bool
bears_on_room Zone = true
bears_on_room Calendar = true
bears_on_room Work = true
bears_on_room Break = true
bears_on_room Day = true
bears_on_room Off = true
bears_on_room Resource = true
bears_on_room Member = true
bears_on_room _ = false

-- the standing bookings without those of the group of this number
abbrev pub others_of : Tables → ℕ → List BookingRow
others_of t id = filter (λ b. not (b.group == id)) t.bookings

-- ---- the refusals that come after those that the rows alone show

-- a row of this key is put or removed: with the change the standing bookings do not fit
abbrev pub IsRoomRefusal : Tables → Call → Act → Key → Refusal → Type 0
IsRoomRefusal t call a k (refusal.Conflict c) = (bears_on_room k.table ≡ true) × IsConflict (after_act t call a) t.bookings [] c
IsRoomRefusal t call a k _ = ⊥

-- the picks cannot be booked from the start on: the first point that they break
abbrev pub IsPlaceRefusal : Tables → GroupRow → ℕ → List (Option ℕ) → Refusal → Type 0
IsPlaceRefusal t g s picks (refusal.OffGrid m) = IsVerdict t g s picks verdict.OffGrid × (m ≡ s)
IsPlaceRefusal t g s picks (refusal.BadShape j) = IsVerdict t g s picks (verdict.BadShape j)
IsPlaceRefusal t g s picks (refusal.NotEligible j r rule) = IsVerdict t g s picks (verdict.NotEligible j r rule)
IsPlaceRefusal t g s picks (refusal.NotSame node) = IsVerdict t g s picks (verdict.NotSame node)
IsPlaceRefusal t g s picks (refusal.Conflict c) = IsVerdict t g s picks verdict.Unfit × IsConflict t (others_of t g.id) (asks_for g s picks) c
IsPlaceRefusal t g s picks _ = ⊥

-- the same of the group of a number
abbrev pub IsPlaceRefusalOf : Tables → Option GroupRow → ℕ → List (Option ℕ) → Refusal → Type 0
IsPlaceRefusalOf t None s picks why = ⊥
IsPlaceRefusalOf t (Some g) s picks why = IsPlaceRefusal t g s picks why

-- a change that no row refuses is refused
abbrev pub IsLateRefusal : Tables → Call → Act → Refusal → Type 0
IsLateRefusal t call (act.Put row) why = IsRoomRefusal t call (act.Put row) (key_of row) why
IsLateRefusal t call (act.Remove key) why = IsRoomRefusal t call (act.Remove key) key why
IsLateRefusal t call (act.PutGroup g) why = ⊥
IsLateRefusal t call (act.DropGroup group) why = ⊥
IsLateRefusal t call (act.BookGroup group start picks) why = IsPlaceRefusalOf t (group_of t group) start picks why
IsLateRefusal t call (act.MoveGroup group start picks) why = IsPlaceRefusalOf t (group_of t group) start picks why
IsLateRefusal t call (act.CancelGroup group) why = ⊥

-- ---- changes

-- the receipt of the caller's last change, where it has this number
abbrev pub kept_receipt : Tables → Call → Option Receipt
kept_receipt t call = option_map (λ x. x.receipt) (find (λ x. (x.caller == call.caller) && (x.last == call.number)) t.callers)

-- the change is refused, and this is the first reason
abbrev pub IsRefused : Tables → List Entry → Call → Act → Refusal → Type 0
IsRefused t journal call a why =
    (early_refusal t journal call a ≡ Some why) ⊎ ((early_refusal t journal call a ≡ None) × IsLateRefusal t call a why)

-- no reason refuses the change
pub record IsAccepted (t : Tables) (journal : List Entry) (call : Call) (a : Act) : Type 0 where
  pub early : early_refusal t journal call a ≡ None
  pub late : (why : Refusal) → ¬ (IsLateRefusal t call a why)

-- the entry of an accepted change
abbrev pub entry_of : Tables → ℕ → Call → Act → Entry
entry_of t pass call a = record { revision = t.revision + 1; pass = pass; call = call; act = a; receipt = receipt_of t a }

-- tables and journal are as before
abbrev pub IsUnchanged : Tables → List Entry → Tables → List Entry → Type 0
IsUnchanged t journal t' journal' = (t' ≡ t) × (journal' ≡ journal)

-- the tables are those after the change, and the journal has one entry more
abbrev pub IsEntered : Tables → List Entry → ℕ → Call → Act → Tables → List Entry → Type 0
IsEntered t journal pass call a t' journal' = (t' ≡ after_act t call a) × (journal' ≡ journal ++ entry_of t pass call a ∷ [])

-- what a change whose number is not the caller's last comes to
abbrev pub IsJudged : Tables → List Entry → ℕ → Call → Act → Outcome → Tables → List Entry → Type 0
IsJudged t journal pass call a (outcome.Done (reply.Change receipt)) t' journal' =
    IsAccepted t journal call a × (receipt ≡ receipt_of t a) × IsEntered t journal pass call a t' journal'
IsJudged t journal pass call a (outcome.Refused why) t' journal' = IsRefused t journal call a why × IsUnchanged t journal t' journal'
IsJudged t journal pass call a _ t' journal' = ⊥

-- a change with the number of the caller's last one gives the kept receipt and changes nothing; every other is judged
abbrev pub IsChanged : Tables → List Entry → ℕ → Call → Act → Option Receipt → Outcome → Tables → List Entry → Type 0
IsChanged t journal pass call a (Some kept) out t' journal' = (out ≡ outcome.Repeated kept) × IsUnchanged t journal t' journal'
IsChanged t journal pass call a None out t' journal' = IsJudged t journal pass call a out t' journal'

-- ---- questions

-- the point that a cursor shows; without one the search begins
abbrev pub point_of : Option Cursor → ResumePoint
point_of None = beginning
point_of (Some c) = record { after = Some c.position; shown = unwrap_or c.shown 0 }

-- a page has 1 to 500 rows
abbrev pub refused_limit : ℕ → Option Refusal
refused_limit limit = if is_within_range 1 page_limit limit then None else Some (refusal.BadField Limit)

-- each start shows 1 to 500 rows, or all
abbrev pub refused_per : Option ℕ → Option Refusal
refused_per None = None
refused_per (Some per) = if is_within_range 1 page_limit per then None else Some (refusal.BadField Per)

-- a cursor shows the revision that is now, or goes on at the latest
abbrev pub refused_cursor : ℕ → Option Cursor → Bool → Option Refusal
refused_cursor now None latest = None
refused_cursor now (Some c) true = None
refused_cursor now (Some c) false = if c.revision == now then None else Some (refusal.Moved c.revision now)

-- why a page of a group is refused, by the first reason that applies
abbrev pub refused_page : Tables → ℕ → Options → Option Cursor → Bool → ℕ → Option Refusal
refused_page t group options after latest limit =
    option_or (unknown_among t (id_key Group group ∷ [])) (option_or (refused_limit limit) (option_or (refused_per options.per) (refused_cursor t.revision after latest)))

-- the answer to a question
abbrev pub IsAnswer : Tables → List Entry → Query → Outcome → Type 0
IsAnswer t journal (query.Rows group options after latest limit) (outcome.Done (reply.Rows page)) =
    (refused_page t group options after latest limit ≡ None) × ((g : GroupRow) × (group_of t group ≡ Some g) × IsPage t g options (point_of after) limit page)
IsAnswer t journal (query.Rows group options after latest limit) (outcome.Refused why) = refused_page t group options after latest limit ≡ Some why
IsAnswer t journal (query.Journal from) out = out ≡ outcome.Done (reply.Journal (summaries_from journal from))
IsAnswer t journal query.Revision out = out ≡ outcome.Done reply.Revision
IsAnswer t journal (query.Rows group options after latest limit) _ = ⊥

-- ---- the step

-- what a command comes to: the outcome, and the tables and the journal after it
abbrev pub IsStep : Tables → List Entry → ℕ → Command → Outcome → Tables → List Entry → Type 0
IsStep t journal pass (command.Change call a) out t' journal' = IsChanged t journal pass call a (kept_receipt t call) out t' journal'
IsStep t journal pass (command.Ask q) out t' journal' = IsAnswer t journal q out × IsUnchanged t journal t' journal'

-- the step, or want of memory, after which everything is as before
abbrev pub IsTurn : Tables → List Entry → ℕ → Command → Outcome → Tables → List Entry → Type 0
IsTurn t journal pass c out t' journal' =
    IsStep t journal pass c out t' journal' ⊎ ((out ≡ outcome.NoMemory) × IsUnchanged t journal t' journal')
