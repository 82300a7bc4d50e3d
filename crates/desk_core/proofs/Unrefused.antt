-- A served change that no refusal meets: it has what it needs, is accepted, and leaves sound tables.
use Rattle.std.proofs.Common.{◌≡◌, ℕ, ◌+◌, ◌≤◌, Bool, true, false, List, [], ◌∷◌, map, length, Option, Some, None, refl, sym, ap, ◌∙◌, subst, arith}
use Rattle.std.proofs.lemmas.Bool.{leb-true}
use Rattle.std.specs.Prelude.{Result, Ok, Err, IsSome, OnOk, OnErr}
use Rattle.std.specs.Option.{option_map_or}
use Rattle.std.specs.List.{list_all}
use Rattle.desk_base.specs.declared.rows.tables.Tables.{Tables}
use Rattle.desk_base.specs.declared.rows.tables.Table.TheVariants.{Resource as ResourceTable, Group as GroupTable, Booking as BookingTable}
use Rattle.desk_base.specs.declared.rows.tables.AnyRow.{AnyRow}
use Rattle.desk_base.specs.declared.rows.tables.Key.{Key}
use Rattle.desk_base.specs.declared.rows.groups.GroupRow.{GroupRow}
use Rattle.desk_base.specs.declared.asked.rules.TableRule.TheVariants.{Count}
use Rattle.desk_base.specs.declared.asked.acts.Act.{Act}
use Rattle.desk_base.specs.declared.asked.acts.Act.TheVariants as act
use Rattle.desk_base.specs.declared.asked.acts.Call.{Call}
use Rattle.desk_base.specs.declared.asked.acts.Entry.{Entry}
use Rattle.desk_base.specs.declared.asked.refusals.Refusal.TheVariants.{UnknownId}
use Rattle.desk_base.specs.rules.Limits.{serial_limit}
use Rattle.desk_base.specs.rows.Keys.{id_key}
use Rattle.desk_base.specs.rows.Rows.{key_of}
use Rattle.desk_base.specs.asked.Groups.{group_of}
use Rattle.desk_base.specs.meaning.Picks.{choices_of}
use Rattle.desk_base.specs.asked.Refusing.{is_there, picked, cited_by, early_refusal}
use Rattle.desk_base.specs.asked.Acts.{after_act, made_by, bookings_from}
use Rattle.desk_base.specs.asked.Steps.{bears_on_room, IsAccepted}
use Rattle.desk_base.specs.rules.Sound.{IsSound}
use Rattle.desk_base.proofs.lists.Tests.{and_left}
use Rattle.desk_base.proofs.puts.ActPuts.{counts_kept}
use Rattle.desk_base.proofs.puts.PutRefusals.{map_none, all_there, early_none}
use Rattle.desk_base.proofs.puts.AcceptedPuts.{accepted_put, accepted_quiet_put, accepted_put_group, sound_put, sound_quiet_put, sound_put_group}
use Rattle.desk_base.proofs.booked.BookRefusals.{book_places, move_places}
use Rattle.desk_base.proofs.booked.FeasibleBookings.{few_new}
use Rattle.desk_base.proofs.booked.AcceptedBookings.{accepted_cancel, sound_cancel}
use Rattle.desk_base.specs.declared.rows.bookings.Receipt.{Receipt}
use Rattle.desk_core.specs.declared.entering.NotEntered.{NotEntered}
use Rattle.desk_change.specs.Served.{is_master, IsServed}
use Rattle.desk_change.proofs.WellFormedPuts.{put_of_master}
use Rattle.desk_change.proofs.removed.Removals.{accepted_remove, accepted_quiet_remove, sound_remove, sound_quiet_remove}
use Rattle.desk_change.proofs.removed.Drops.{accepted_drop, sound_drop}
use Rattle.desk_core.specs.Effects.{IsPlaced, IsKnown}
use Rattle.desk_core.specs.Entered.{FitAfter}
use Rattle.desk_core.proofs.Booked.{accepted_placed_book, accepted_placed_move, sound_placed_book, sound_placed_move}
use Rattle.desk_core.proofs.GroupsThere.{group-there}

-- ---- what it needs

few_made : (t : Tables) (o : Option GroupRow) (s : ℕ) (picks : List (Option ℕ)) → length (option_map_or (λ (g : GroupRow). bookings_from (t.last_booking + 1) g s (choices_of 0 g.leaves picks)) o []) ≤ length (picked picks)
few_made t None s picks = omega arith
few_made t (Some g) s picks = few_new t g s picks

last_within : (t : Tables) → IsSound t → t.last_booking + 0 ≤ serial_limit
last_within t s = let h = leb-true t.last_booking serial_limit (counts_kept t (s.keeps Count (id_key BookingTable 0) refl)).1 in omega arith

module _ (t : Tables) (journal : List Entry) (call : Call) where
  -- the bookings that it makes have numbers
  pub numbers_left : (a : Act) → IsSound t → early_refusal t journal call a ≡ None → t.last_booking + length (made_by t a) ≤ serial_limit
  numbers_left (act.BookGroup group start picks) s e =
      let places = book_places t journal call group start picks e in
      let few = few_made t (group_of t group) start picks in omega (arith, places.numbers, few)
  numbers_left (act.MoveGroup group start picks) s e =
      let places = move_places t journal call group start picks e in
      let few = few_made t (group_of t group) start picks in omega (arith, places.numbers, few)
  numbers_left (act.Put row) s e = last_within t s
  numbers_left (act.Remove key) s e = last_within t s
  numbers_left (act.PutGroup g) s e = last_within t s
  numbers_left (act.DropGroup group) s e = last_within t s
  numbers_left (act.CancelGroup group) s e = last_within t s

  group_there : (a : Act) (group : ℕ) (keys : List Key) → cited_by a ≡ id_key GroupTable group ∷ keys → early_refusal t journal call a ≡ None → IsSome (group_of t group)
  group_there a group keys c e =
      let all = all_there t (cited_by a) (map_none UnknownId _ (early_none t journal call a e).known) in
      let there = and_left (is_there t (id_key GroupTable group)) (list_all (is_there t) keys) (sym (ap (list_all (is_there t)) c) ∙ all) in
      sym (group-there t group) ∙ there

  -- the group that it books or moves is there
  pub group_known : (a : Act) → early_refusal t journal call a ≡ None → IsKnown t a
  group_known (act.BookGroup group start picks) e = group_there (act.BookGroup group start picks) group (map (id_key ResourceTable) (picked picks)) refl e
  group_known (act.MoveGroup group start picks) e = group_there (act.MoveGroup group start picks) group (map (id_key ResourceTable) (picked picks)) refl e
  group_known (act.Put row) e = tt
  group_known (act.Remove key) e = tt
  group_known (act.PutGroup g) e = tt
  group_known (act.DropGroup group) e = tt
  group_known (act.CancelGroup group) e = tt

-- ---- what becomes of it

module _ (t : Tables) (journal : List Entry) (call : Call) where
  put_accepted : (row : AnyRow) (b : Bool) → bears_on_room (key_of row).table ≡ b → early_refusal t journal call (act.Put row) ≡ None → FitAfter t call (act.Put row) → IsAccepted t journal call (act.Put row)
  put_accepted row true q e f = accepted_put t journal call row e (f q)
  put_accepted row false q e f = accepted_quiet_put t journal call row e q

  put_sound : (row : AnyRow) (b : Bool) → bears_on_room (key_of row).table ≡ b → IsSound t → is_master (key_of row).table ≡ true → early_refusal t journal call (act.Put row) ≡ None → FitAfter t call (act.Put row) → IsSound (after_act t call (act.Put row))
  put_sound row true q s m e f = sound_put t journal call row s (put_of_master row m) e (f q)
  put_sound row false q s m e f = sound_quiet_put t journal call row s (put_of_master row m) q e

  removal_accepted : (key : Key) (b : Bool) → bears_on_room key.table ≡ b → early_refusal t journal call (act.Remove key) ≡ None → FitAfter t call (act.Remove key) → IsAccepted t journal call (act.Remove key)
  removal_accepted key true q e f = accepted_remove t journal call key e (f q)
  removal_accepted key false q e f = accepted_quiet_remove t journal call key e q

  removal_sound : (key : Key) (b : Bool) → bears_on_room key.table ≡ b → IsSound t → is_master key.table ≡ true → early_refusal t journal call (act.Remove key) ≡ None → FitAfter t call (act.Remove key) → IsSound (after_act t call (act.Remove key))
  removal_sound key true q s m e f = sound_remove t journal call key s m e (f q)
  removal_sound key false q s m e f = sound_quiet_remove t journal call key s m e q

  -- it is accepted
  is_accepted : (a : Act) → early_refusal t journal call a ≡ None → IsPlaced t a → FitAfter t call a → IsAccepted t journal call a
  is_accepted (act.Put row) e p f = put_accepted row (bears_on_room (key_of row).table) refl e f
  is_accepted (act.Remove key) e p f = removal_accepted key (bears_on_room key.table) refl e f
  is_accepted (act.PutGroup g) e p f = accepted_put_group t journal call g e
  is_accepted (act.DropGroup group) e p f = accepted_drop t journal call group e
  is_accepted (act.BookGroup group start picks) e p f = accepted_placed_book t journal call group start picks e p
  is_accepted (act.MoveGroup group start picks) e p f = accepted_placed_move t journal call group start picks e p
  is_accepted (act.CancelGroup group) e p f = accepted_cancel t journal call group e

  -- the tables after it are sound
  sound_after : (a : Act) → IsSound t → IsServed a → early_refusal t journal call a ≡ None → IsPlaced t a → FitAfter t call a → IsSound (after_act t call a)
  sound_after (act.Put row) s m e p f = put_sound row (bears_on_room (key_of row).table) refl s m e f
  sound_after (act.Remove key) s m e p f = removal_sound key (bears_on_room key.table) refl s m e f
  sound_after (act.PutGroup g) s m e p f = sound_put_group t journal call g s e
  sound_after (act.DropGroup group) s m e p f = sound_drop t journal call group s e
  sound_after (act.BookGroup group start picks) s m e p f = sound_placed_book t journal call group start picks s e p
  sound_after (act.MoveGroup group start picks) s m e p f = sound_placed_move t journal call group start picks s e p
  sound_after (act.CancelGroup group) s m e p f = sound_cancel t journal call group s e

  -- ---- the same, where it was entered

  pub accepted_by : (a : Act) (r : Result Receipt NotEntered) → early_refusal t journal call a ≡ None → OnOk r (IsPlaced t a) → OnOk r (FitAfter t call a) → OnOk r (IsAccepted t journal call a)
  accepted_by a (Ok receipt) e p f = is_accepted a e p f
  accepted_by a (Err x) e p f = tt

  pub sound_by : (a : Act) (r : Result Receipt NotEntered) (u : Tables) → IsSound t → IsServed a → early_refusal t journal call a ≡ None → OnOk r (IsPlaced t a) → OnOk r (FitAfter t call a)
      → OnOk r (u ≡ after_act t call a) → OnErr r (u ≡ t) → IsSound u
  sound_by a (Ok receipt) u s m e p f k n = subst IsSound (sym k) (sound_after a s m e p f)
  sound_by a (Err x) u s m e p f k n = subst IsSound (sym n) s
