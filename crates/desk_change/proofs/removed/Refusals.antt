-- What the refusals of a removal and of a dropping that do not apply give: no row names the row that goes, and the caller has a place.
use Rattle.std.proofs.Common.{◌≡◌, ℕ, true, ◌==◌, List, [], ◌∷◌, Option, Some, None, ◌⊎◌, inl, inr, refl, ap, subst, is_none}
use Rattle.std.proofs.lemmas.Bool.{false≢true, eqb-true}
use Rattle.std.specs.Prelude.{find, flat_map}
use Rattle.std.specs.List.{list_any}
use Rattle.std.specs.Option.{option_or}
use Rattle.desk_base.specs.declared.rows.tables.Tables.{Tables}
use Rattle.desk_base.specs.declared.rows.tables.Table.{Table}
use Rattle.desk_base.specs.declared.rows.tables.Key.{Key}
use Rattle.desk_base.specs.declared.rows.tables.AnyRow.{AnyRow}
use Rattle.desk_base.specs.declared.rows.tables.Table.TheVariants.{Zone as ZoneTable, Group as GroupTable, Caller as CallerTable, BookingNumbers}
use Rattle.desk_base.specs.declared.asked.acts.Act.TheVariants as act
use Rattle.desk_base.specs.declared.asked.acts.Call.{Call}
use Rattle.desk_base.specs.declared.asked.acts.Entry.{Entry}
use Rattle.desk_base.specs.declared.asked.refusals.Refusal.TheVariants as refusal
use Rattle.desk_base.specs.rows.Keys.{table_number, id_key}
use Rattle.desk_base.specs.rows.Rows.{rows_in, key_of, citations_of}
use Rattle.desk_base.specs.asked.Groups.{is_booked}
use Rattle.desk_base.specs.asked.Refusing.{is_key, has_place, all_tables, cites, refused_removal, first_some, early_refusals, early_refusal}
use Rattle.desk_base.proofs.lists.Members.{IsIn, in_flat}
use Rattle.desk_base.proofs.lists.Tests.{list_any_at, list_any_from}
use Rattle.desk_base.proofs.meaning.Shapes.{rules_kept}
use Rattle.desk_base.proofs.tables.KeyOrder.{same_table, is_key-itself}
use Rattle.desk_base.proofs.puts.KindPuts.{none_found}
use Rattle.desk_base.proofs.puts.PutRefusals.{map_none, test_fails, early_none}
use Rattle.desk_change.proofs.removed.FieldsWithout.{IsUncited}
use Rattle.desk_change.proofs.removed.GroupNames.{uncited_group}

-- ---- refusals that do not apply

none_of : {A : Type 0} (os : List (Option A)) (o : Option A) → first_some os ≡ None → IsIn o os → o ≡ None
none_of [] o e i = absurd i
none_of {A} (p ∷ os) o e i = step p e i (none_of os o)
  where
    step : (p : Option A) → option_or p (first_some os) ≡ None → IsIn o (p ∷ os) → (first_some os ≡ None → IsIn o os → o ≡ None) → o ≡ None
    step None e (inl f) more = f
    step None e (inr i) more = more e i
    step (Some x) e i more = absurd (false≢true (ap is_none e))

-- every table that has rows is looked through
is_listed : (table : Table) → (list_any (λ d. table_number d == table_number table) all_tables ≡ true) ⊎ (table ≡ BookingNumbers)
is_listed BookingNumbers = inr refl
is_listed ZoneTable = inl refl
is_listed _ = inl refl

in_all : (t : Tables) (table : Table) (x : AnyRow) → IsIn x (rows_in t table) → IsIn x (flat_map (rows_in t) all_tables)
in_all t table x i = elim (is_listed table) [
  | inl e ↦
      let h = list_any_at (λ d. table_number d == table_number table) all_tables e in
      in_flat (rows_in t) x table all_tables (subst (λ d. IsIn d all_tables) (same_table h.0 table (eqb-true (table_number h.0) (table_number table) h.2)) h.1) i
  | inr e ↦ absurd (subst (λ d. IsIn x (rows_in t d)) e i)
]

-- ---- a removal

module _ (t : Tables) (journal : List Entry) (call : Call) where
  pub caller_of_removal : (key : Key) → early_refusal t journal call (act.Remove key) ≡ None → has_place t (id_key CallerTable call.caller) ≡ true
  caller_of_removal key e = (rules_kept ((has_place t (id_key CallerTable call.caller), CallerTable) ∷ []) (map_none refusal.Full _ (early_none t journal call (act.Remove key) e).place)).0

  not_in_use : (key : Key) → early_refusal t journal call (act.Remove key) ≡ None → find (cites key) (flat_map (rows_in t) all_tables) ≡ None
  unfolding early_refusal
  not_in_use key e = map_none (λ by. refusal.InUse key (key_of by)) _ (none_of (early_refusals t journal call (act.Remove key)) (refused_removal t (act.Remove key)) e (inr (inr (inr (inr (inr (inl refl)))))))

  -- no row names the row that goes
  pub uncited_removal : (key : Key) → early_refusal t journal call (act.Remove key) ≡ None → IsUncited t key
  uncited_removal key e table x i j =
      none_found (cites key) (flat_map (rows_in t) all_tables) x (not_in_use key e) (in_all t table x i) (list_any_from (is_key key) (citations_of x) key j (is_key-itself key))

-- ---- a dropping

module _ (t : Tables) (journal : List Entry) (call : Call) where
  pub caller_of_drop : (group : ℕ) → early_refusal t journal call (act.DropGroup group) ≡ None → has_place t (id_key CallerTable call.caller) ≡ true
  caller_of_drop group e = (rules_kept ((has_place t (id_key CallerTable call.caller), CallerTable) ∷ []) (map_none refusal.Full _ (early_none t journal call (act.DropGroup group) e).place)).0

  pub uncited_drop : (group : ℕ) → early_refusal t journal call (act.DropGroup group) ≡ None → IsUncited t (id_key GroupTable group)
  uncited_drop group e = uncited_group t group (test_fails (is_booked t group) _ (early_none t journal call (act.DropGroup group) e).booked)
