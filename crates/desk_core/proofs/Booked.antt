-- Groups that are booked or moved to a place that is feasible: they are accepted, and leave sound tables.
use Rattle.std.proofs.Common.{◌≡◌, ℕ, List, Option, Some, None, refl}
use Rattle.desk_base.specs.declared.rows.tables.Tables.{Tables}
use Rattle.desk_base.specs.declared.rows.groups.GroupRow.{GroupRow}
use Rattle.desk_base.specs.declared.asked.acts.Act.TheVariants as act
use Rattle.desk_base.specs.declared.asked.acts.Call.{Call}
use Rattle.desk_base.specs.declared.asked.acts.Entry.{Entry}
use Rattle.desk_base.specs.asked.Groups.{group_of}
use Rattle.desk_base.specs.asked.Refusing.{early_refusal}
use Rattle.desk_base.specs.asked.Acts.{after_act}
use Rattle.desk_base.specs.asked.Steps.{IsAccepted}
use Rattle.desk_base.specs.search.Listing.{IsFeasible}
use Rattle.desk_base.specs.rules.Sound.{IsSound}
use Rattle.desk_base.proofs.booked.AcceptedBookings.{accepted_book, sound_book, accepted_move, sound_move}
use Rattle.desk_core.specs.Effects.{IsFeasibleOf}

-- the group of a number, where it can be booked
feasible_group : (t : Tables) (o : Option GroupRow) (s : ℕ) (picks : List (Option ℕ)) → IsFeasibleOf t o s picks → (g : GroupRow) × (o ≡ Some g) × IsFeasible t g s picks
feasible_group t None s picks h = absurd h
feasible_group t (Some g) s picks h = (g, refl, h)

module _ (t : Tables) (journal : List Entry) (call : Call) (group start : ℕ) (picks : List (Option ℕ)) where
  pub accepted_placed_book : early_refusal t journal call (act.BookGroup group start picks) ≡ None → IsFeasibleOf t (group_of t group) start picks → IsAccepted t journal call (act.BookGroup group start picks)
  accepted_placed_book e p = let g = feasible_group t (group_of t group) start picks p in accepted_book t journal call group start picks g.0 e g.1 g.2

  pub accepted_placed_move : early_refusal t journal call (act.MoveGroup group start picks) ≡ None → IsFeasibleOf t (group_of t group) start picks → IsAccepted t journal call (act.MoveGroup group start picks)
  accepted_placed_move e p = let g = feasible_group t (group_of t group) start picks p in accepted_move t journal call group start picks g.0 e g.1 g.2

  pub sound_placed_book : IsSound t → early_refusal t journal call (act.BookGroup group start picks) ≡ None → IsFeasibleOf t (group_of t group) start picks → IsSound (after_act t call (act.BookGroup group start picks))
  sound_placed_book s e p = let g = feasible_group t (group_of t group) start picks p in sound_book t journal call group start picks g.0 s e g.1 g.2

  pub sound_placed_move : IsSound t → early_refusal t journal call (act.MoveGroup group start picks) ≡ None → IsFeasibleOf t (group_of t group) start picks → IsSound (after_act t call (act.MoveGroup group start picks))
  sound_placed_move s e p = let g = feasible_group t (group_of t group) start picks p in sound_move t journal call group start picks g.0 s e g.1 g.2
