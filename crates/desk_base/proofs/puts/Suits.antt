-- What a row must bring that is put among sound rows, and what the tables with it keep of the rows before.
use Rattle.std.proofs.Common.{◌≡◌, Bool, true, false, not, inl, inr, refl, sym, subst}
use Rattle.std.specs.List.{list_all}
use Rattle.desk_base.specs.rows.Types.{Tables, Table, Key, AnyRow}
use Rattle.desk_base.specs.declared.rows.tables.AnyRow.TheVariants.{Group, Booking}
use Rattle.desk_base.specs.declared.asked.rules.TableRule.TheVariants.{Field, Citation}
use Rattle.desk_base.specs.rows.Rows.{rows_in, key_of, keys_in, citations_of}
use Rattle.desk_base.specs.asked.Refusing.{is_key, is_there, has_place}
use Rattle.desk_base.specs.asked.Groups.{is_booked}
use Rattle.desk_base.specs.changes.Changes.{with_row}
use Rattle.desk_base.specs.rules.Sound.{IsSound, keeps_fields}
use Rattle.desk_base.proofs.lists.Members.{IsIn, in_mapped, in_from_contains, contains_from_in}
use Rattle.desk_base.proofs.lists.Tests.{list_all_at, list_any_at, list_any_from}
use Rattle.desk_base.proofs.tables.Sounds.{key_table}
use Rattle.desk_base.proofs.tables.KeyOrder.{is_key-same, is_key-itself}
use Rattle.desk_base.proofs.tables.RowPuts.{in_put, key_stays}

-- the row is neither a booking nor a group that has one
abbrev pub is_unbooked : Tables → AnyRow → Bool
is_unbooked t (Group g) = not (is_booked t g.id)
is_unbooked t (Booking b) = false
is_unbooked t _ = true

-- each row that it names is there, it keeps its field rules and its tree rules, it has a place in its table, and it is neither a booking nor a group that has one
pub record Suits (t : Tables) (row : AnyRow) : Type 0 where
  pub cited : list_all (is_there t) (citations_of row) ≡ true
  pub fields : keeps_fields t row ≡ true
  pub place : has_place t (key_of row) ≡ true
  pub unbooked : is_unbooked t row ≡ true

-- ---- keys that are there

pub key_there : (t : Tables) (k : Key) → is_there t k ≡ true → IsIn k (keys_in t k.table)
key_there t k e =
    let h = list_any_at (is_key k) (keys_in t k.table) e in
    subst (λ j. IsIn j (keys_in t k.table)) (sym (is_key-same k h.0 h.2)) h.1

pub there_from_key : (t : Tables) (k : Key) → IsIn k (keys_in t k.table) → is_there t k ≡ true
there_from_key t k i = list_any_from (is_key k) (keys_in t k.table) k i (is_key-itself k)

-- ---- rows of sound tables

-- a row of a table, among the rows of its key's table
pub own_table : (t : Tables) (table : Table) (x : AnyRow) → IsIn x (rows_in t table) → IsIn x (rows_in t (key_of x).table)
own_table t table x i = subst (λ d. IsIn x (rows_in t d)) (sym (key_table t table (key_of x) (in_mapped key_of x (rows_in t table) i))) i

pub row_keeps : (t : Tables) (table : Table) (x : AnyRow) → IsSound t → IsIn x (rows_in t table) → keeps_fields t x ≡ true
row_keeps t table x s i = s.keeps Field (key_of x) x (contains_from_in (rows_in t (key_of x).table) x (own_table t table x i)) refl

pub row_cites : (t : Tables) (table : Table) (x : AnyRow) (c : Key) → IsSound t → IsIn x (rows_in t table) → IsIn c (citations_of x) → IsIn c (keys_in t c.table)
row_cites t table x c s i j =
    in_from_contains (keys_in t c.table) c
    (s.keeps Citation (key_of x) x c (contains_from_in (rows_in t (key_of x).table) x (own_table t table x i)) refl (contains_from_in (citations_of x) c j))

-- ---- rows of the tables with the row that is put

module _ (t : Tables) (row : AnyRow) (s : IsSound t) (fit : Suits t row) where
  -- each keeps its fields over the tables before
  pub put_keeps : (table : Table) (x : AnyRow) → IsIn x (rows_in (with_row t row) table) → keeps_fields t x ≡ true
  put_keeps table x i = elim (in_put t row table x i) [
    | inl e ↦ subst (λ y. keeps_fields t y ≡ true) (sym e) fit.fields
    | inr j ↦ row_keeps t table x s j
  ]

  -- what each cites was there before
  pub put_cited_before : (table : Table) (x : AnyRow) (c : Key) → IsIn x (rows_in (with_row t row) table) → IsIn c (citations_of x) → IsIn c (keys_in t c.table)
  put_cited_before table x c i j = elim (in_put t row table x i) [
    | inl e ↦ key_there t c (list_all_at (is_there t) (citations_of row) c fit.cited (subst (λ y. IsIn c (citations_of y)) e j))
    | inr old ↦ row_cites t table x c s old j
  ]

  -- and is there
  pub put_cites : (table : Table) (x : AnyRow) (c : Key) → IsIn x (rows_in (with_row t row) table) → IsIn c (citations_of x) → IsIn c (keys_in (with_row t row) c.table)
  put_cites table x c i j = key_stays t row c.table c (put_cited_before table x c i j)
