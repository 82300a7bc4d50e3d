-- Puts that no refusal meets leave well-formed tables, whether or not the bookings fit.
use Rattle.std.proofs.Common.{◌≡◌, true, List, map, None, refl, sym, ◌∙◌, subst}
use Rattle.std.proofs.lemmas.Bool.{false≢true}
use Rattle.desk_base.specs.declared.rows.tables.Tables.{Tables}
use Rattle.desk_base.specs.declared.rows.tables.Table.{Table}
use Rattle.desk_base.specs.declared.rows.tables.Key.{Key}
use Rattle.desk_base.specs.declared.rows.tables.AnyRow.{AnyRow}
use Rattle.desk_base.specs.declared.rows.tables.AnyRow.TheVariants.{Zone, Group, Booking, Caller}
use Rattle.desk_base.specs.declared.rows.bookings.Receipt.{Receipt}
use Rattle.desk_base.specs.declared.rows.bookings.Receipt.TheVariants as receipt
use Rattle.desk_base.specs.declared.asked.acts.Act.TheVariants as act
use Rattle.desk_base.specs.declared.asked.acts.Call.{Call}
use Rattle.desk_base.specs.declared.asked.acts.Entry.{Entry}
use Rattle.desk_base.specs.rows.Rows.{key_of, keys_in, citations_of}
use Rattle.desk_base.specs.asked.Refusing.{is_there, has_place, early_refusal}
use Rattle.desk_base.specs.asked.Acts.{after_act}
use Rattle.desk_base.specs.changes.Changes.{with_row}
use Rattle.desk_base.specs.rules.Sound.{IsSound, AreWellFormed, keeps_fields}
use Rattle.desk_base.proofs.lists.Members.{IsIn}
use Rattle.desk_base.proofs.lists.Tests.{list_all_at, list_all_from}
use Rattle.desk_base.proofs.tables.Sounds.{keys_rise}
use Rattle.desk_base.proofs.tables.RowPuts.{key_stays, keys_rise_put}
use Rattle.desk_base.proofs.puts.AcceptedPuts.{is_put_row, put_row}
use Rattle.desk_base.proofs.puts.FieldPuts.{fields_put}
use Rattle.desk_base.proofs.puts.PutRefusals.{revision_goes_on, suits_put, caller_of_put}
use Rattle.desk_base.proofs.puts.SoundPuts.{rows_limit}
use Rattle.desk_base.proofs.puts.Suits.{Suits, key_there, there_from_key, own_table, put_cites}
use Rattle.desk_change.specs.Served.{is_master}
use Rattle.desk_change.proofs.removed.RowRules.{well_formed_by_rows}
use Rattle.desk_change.proofs.removed.Noted.{row_left, noted, after_put, noted_rows, sound_noted}

-- a row of the tables whose rows are put and taken out one by one
pub put_of_master : (row : AnyRow) → is_master (key_of row).table ≡ true → is_put_row row ≡ true
put_of_master (Group x) e = e
put_of_master (Booking x) e = e
put_of_master (Caller x) e = e
put_of_master row e = refl

-- ---- what suits the tables suits them with the row of the call and the counters

module _ (t : Tables) (call : Call) (given : Receipt) where
  key_noted : (table : Table) (k : Key) → IsIn k (keys_in t table) → IsIn k (keys_in (noted t call given) table)
  key_noted table k i = subst (λ l. IsIn k (map key_of l)) (sym (noted_rows t call given table)) (key_stays t (Caller (row_left call given)) table k i)

  there_noted : (k : Key) → is_there t k ≡ true → is_there (noted t call given) k ≡ true
  there_noted k e = there_from_key (noted t call given) k (key_noted k.table k (key_there t k e))

  fields_noted : (row : AnyRow) → keeps_fields (noted t call given) row ≡ keeps_fields t row
  fields_noted (Zone x) = refl
  fields_noted _ = refl

  place_noted : (row : AnyRow) → is_put_row row ≡ true → has_place (noted t call given) (key_of row) ≡ has_place t (key_of row)
  place_noted (Group x) e = absurd (false≢true e)
  place_noted (Booking x) e = absurd (false≢true e)
  place_noted (Caller x) e = absurd (false≢true e)
  place_noted (Zone x) e = refl
  place_noted row e = refl

  suits_noted : (row : AnyRow) → is_put_row row ≡ true → Suits t row → Suits (noted t call given) row
  suits_noted row e fit = record {
    cited = list_all_from (is_there (noted t call given)) (citations_of row) (λ k i. there_noted k (list_all_at (is_there t) (citations_of row) k fit.cited i));
    fields = fields_noted row ∙ fit.fields;
    place = place_noted row e ∙ fit.place;
    unbooked = (put_row (noted t call given) row e).1;
  }

-- ---- the tables with a row that suits them

module _ (t : Tables) (row : AnyRow) (s : IsSound t) (fit : Suits t row) where
  well_formed_with_row : AreWellFormed (with_row t row)
  well_formed_with_row = well_formed_by_rows (with_row t row) (record {
    order = keys_rise_put t row (λ table. keys_rise t table s);
    limit = rows_limit t row s fit;
    field = λ table x i. fields_put t row s fit x (own_table (with_row t row) table x i);
    citation = put_cites t row s fit;
  })

-- ---- the act

-- a put that no refusal meets
pub well_formed_put : (t : Tables) (journal : List Entry) (call : Call) (row : AnyRow) → IsSound t → is_master (key_of row).table ≡ true → early_refusal t journal call (act.Put row) ≡ None → AreWellFormed (after_act t call (act.Put row))
well_formed_put t journal call row s m e =
    let p = put_of_master row m in
    let r = put_row t row p in
    let before = noted t call receipt.Put in
    let sound = sound_noted t call receipt.Put s (caller_of_put t journal call row e) (revision_goes_on t journal call (act.Put row) e) in
    let fit = suits_noted t call receipt.Put row p (suits_put t journal call row e r.0 r.1) in
    subst AreWellFormed (sym (after_put t call row r.2)) (well_formed_with_row before row sound fit)
