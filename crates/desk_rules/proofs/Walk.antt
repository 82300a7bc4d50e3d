-- The tables one by one: where none breaks a rule, it is kept at every key, and else the first that does has the least key.
use Rattle.std.proofs.Common.{◌≡◌, ℕ, ◌≤◌, Bool, true, false, ◌||◌, ◌==◌, nat_lt, nat_le, List, [], ◌∷◌, map, length, Option, Some, None, ◌⊎◌, inl, inr, refl, sym, ap, ◌∙◌, subst, arith, is_none}
use Rattle.std.proofs.lemmas.Bool.{false≢true}
use Rattle.std.proofs.lemmas.Bool.Decides.{nat_tests}
use Rattle.std.proofs.lemmas.Option.{slice_get_past}
use Rattle.std.specs.Prelude.{MatchOption, IsTrue, ◌↔◌}
use Rattle.std.specs.List.{list_all, list_any}
use Rattle.std.specs.Ordering.{nat_cmp, ordering_then}
use Rattle.std.specs.declared.cmp.Ordering.{Ordering}
use Rattle.std.specs.declared.cmp.Ordering.TheVariants.{Less, Greater}
use Rattle.desk_base.specs.declared.rows.tables.Tables.{Tables}
use Rattle.desk_base.specs.declared.rows.tables.Table.{Table}
use Rattle.desk_base.specs.declared.rows.tables.Table.TheVariants.{Zone, BookingNumbers}
use Rattle.desk_base.specs.declared.rows.tables.Key.{Key}
use Rattle.desk_base.specs.declared.asked.rules.TableRule.{TableRule}
use Rattle.desk_base.specs.declared.asked.rules.TableRule.TheVariants.{Limit}
use Rattle.desk_base.specs.rules.Sound.{Keeps, taken_limit_of}
use Rattle.desk_base.specs.rules.TableLimits.{limit_of}
use Rattle.desk_base.specs.rules.Fields.{are_rising}
use Rattle.desk_base.specs.rows.Keys.{table_number, key_cmp}
use Rattle.desk_base.specs.rows.Rows.{rows_in}
use Rattle.desk_base.proofs.lists.Members.{IsIn, in_mapped}
use Rattle.desk_base.proofs.lists.Tests.{and_left, and_right, list_all_at, list_all_from, list_any_at}
use Rattle.desk_base.proofs.tables.KeyOrder.{same_table}
use Rattle.desk_rules.specs.Broken.{IsReady, all_tables, broken_in, first_broken, key_or}
use Rattle.desk_rules.specs.Formed.{IsKept, IsLeastBroken}
use Rattle.desk_rules.proofs.Keeping.{kept_in, least_in}

-- ---- all tables

is_one : (table : Table) → (list_any (λ x. table_number x == table_number table) all_tables || (table_number table == 20)) ≡ true
is_one Zone = refl
is_one _ = refl

or_cases : (a b : Bool) → (a || b) ≡ true → (a ≡ true) ⊎ (b ≡ true)
or_cases true b e = inl refl
or_cases false b e = inr e

same_number : (m n : ℕ) → (m == n) ≡ true → m ≡ n
same_number m n e = grind (arith, nat_tests)

-- a table is one of those that have rows, or that of booking numbers
pub one_of_all : (table : Table) → IsIn table all_tables ⊎ (table ≡ BookingNumbers)
one_of_all table = elim (or_cases (list_any (λ x. table_number x == table_number table) all_tables) (table_number table == 20) (is_one table)) [
  | inl e ↦ let h = list_any_at (λ x. table_number x == table_number table) all_tables e in inl (subst (λ x. IsIn x all_tables) (same_table h.0 table (same_number (table_number h.0) (table_number table) h.2)) h.1)
  | inr e ↦ inr (same_table table BookingNumbers (same_number (table_number table) 20 e))
]

-- ---- keys of different tables

later_number : (m n : ℕ) → nat_lt m n ≡ true → nat_cmp n m ≡ Greater
later_number m n h = grind (arith, nat_tests)

then_greater : (r s : Ordering) → r ≡ Greater → ordering_then r s ≡ Less → ⊥
then_greater r s e f = cc (ap (λ x. ordering_then x s) e)

-- a key of a later table is not less
not_later : (j k : Key) → nat_lt (table_number k.table) (table_number j.table) ≡ true → key_cmp j k ≡ Less → ⊥
not_later j k h l = then_greater (nat_cmp (table_number j.table) (table_number k.table)) _ (later_number (table_number k.table) (table_number j.table) h) l

-- ---- the walk

module _ (rule : TableRule) (t : Tables) (ready : IsReady rule t) where
  walk_kept : (tables : List Table) → first_broken rule t tables ≡ None → (k : Key) → IsIn k.table tables → Keeps rule t k
  walk_kept [] e k i = absurd i
  walk_kept (table ∷ tables) e k i = step (broken_in rule t table) refl e i (λ f j. walk_kept tables f k j)
    where
      step : (o : Option Key) → broken_in rule t table ≡ o → key_or o (first_broken rule t tables) ≡ None → IsIn k.table (table ∷ tables) → (first_broken rule t tables ≡ None → IsIn k.table tables → Keeps rule t k) → Keeps rule t k
      step None f g (inl h) more = kept_in rule t table ready f k h
      step None f g (inr j) more = more g j
      step (Some x) f g j more = absurd (false≢true (ap is_none g))

  -- the rule is broken at a key of one of these tables, and kept at each lesser key of them
  record IsLeastAmong (tables : List Table) (k : Key) : Type 0 where
    there : IsIn k.table tables
    broken : Keeps rule t k → ⊥
    least : (j : Key) → IsIn j.table tables → key_cmp j k ≡ Less → Keeps rule t j

  walk_least : (tables : List Table) (k : Key) → are_rising (map table_number tables) ≡ true → first_broken rule t tables ≡ Some k → IsLeastAmong tables k
  walk_least [] k r e = cc
  walk_least (table ∷ tables) k r e = step (broken_in rule t table) refl e (λ g. walk_least tables k (and_right _ (are_rising (map table_number tables)) r) g)
    where
      later : (j : Key) → IsIn j.table tables → nat_lt (table_number table) (table_number j.table) ≡ true
      later j i = list_all_at (λ n. nat_lt (table_number table) n) (map table_number tables) (table_number j.table) (and_left _ (are_rising (map table_number tables)) r) (in_mapped table_number j.table tables i)

      same : (x : Key) → Some x ≡ Some k → x ≡ k
      same x g = cc

      step : (o : Option Key) → broken_in rule t table ≡ o → key_or o (first_broken rule t tables) ≡ Some k → (first_broken rule t tables ≡ Some k → IsLeastAmong tables k) → IsLeastAmong (table ∷ tables) k
      step None f g more =
          let h = more g in
          record { there = inr h.there; broken = h.broken; least = λ j i l. elim i [ inl q ↦ kept_in rule t table ready f j q | inr p ↦ h.least j p l ] }
      step (Some x) f g more =
          let h = least_in rule t table ready k (f ∙ g) in
          record {
            there = inl h.in_table;
            broken = h.broken;
            least = λ j i l. elim i [ inl q ↦ h.least j q l | inr p ↦ absurd (not_later j k (ap (λ x. nat_lt (table_number x) (table_number j.table)) h.in_table ∙ later j p) l) ];
          }

  no_numbers : (rule : TableRule) → broken_in rule t BookingNumbers ≡ None
  no_numbers Limit = slice_get_past [] (limit_of BookingNumbers) (omega arith)
  no_numbers _ = refl

  numbers_kept : (k : Key) → k.table ≡ BookingNumbers → Keeps rule t k
  numbers_kept k e = kept_in rule t BookingNumbers ready (no_numbers rule) k e

  -- what the walk over all tables says
  pub walked : (o : Option Key) → first_broken rule t all_tables ≡ o → MatchOption o (IsKept rule t) (IsLeastBroken rule t)
  walked None e = λ k. elim (one_of_all k.table) [ inl i ↦ walk_kept all_tables e k i | inr f ↦ numbers_kept k f ]
  walked (Some k) e =
      let h = walk_least all_tables k refl e in
      record { broken = h.broken; least = λ j l. elim (one_of_all j.table) [ inl i ↦ h.least j i l | inr f ↦ numbers_kept j f ] }

-- ---- how many rows a table has

at_most : (m n : ℕ) → nat_le m n ≡ true → m ≤ n
at_most m n e = grind (arith, nat_tests)

at_most_back : (m n : ℕ) → m ≤ n → nat_le m n ≡ true
at_most_back m n h = grind (arith, nat_tests)

pub few_in_all : (t : Tables) → IsTrue (list_all (λ table. nat_le (length (rows_in t table)) (taken_limit_of table)) all_tables) ↔ ((table : Table) → length (rows_in t table) ≤ taken_limit_of table)
few_in_all t = (
  (λ e table. elim (one_of_all table) [
    | inl i ↦ at_most (length (rows_in t table)) (taken_limit_of table) (list_all_at (λ x. nat_le (length (rows_in t x)) (taken_limit_of x)) all_tables table e i)
    | inr f ↦ subst (λ x. length (rows_in t x) ≤ taken_limit_of x) (sym f) (omega arith)
  ]),
  (λ h. list_all_from (λ x. nat_le (length (rows_in t x)) (taken_limit_of x)) all_tables (λ x i. at_most_back (length (rows_in t x)) (taken_limit_of x) (h x))),
)
