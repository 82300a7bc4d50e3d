-- How the fields of an object are read as the row that stands under its key.
use Rattle.std.proofs.Common.{◌≡◌, ℕ, ◌≤◌, true, Ok, is_some, refl, ap, ◌∙◌, arith}
use Rattle.std.specs.Ordering.{nat_cmp, ordering_then, is_eq}
use Rattle.serde_json.specs.Data.{Data, depth}
use Rattle.serde_json.specs.Find.{as_object}
use Rattle.serde_json.specs.Read.{max_depth}
use Rattle.desk_base.specs.declared.rows.tables.Key.{Key}
use Rattle.desk_base.specs.declared.rows.tables.AnyRow.{AnyRow}
use Rattle.desk_base.specs.rows.Keys.{table_number}
use Rattle.desk_base.specs.rows.Rows.{key_of}
use Rattle.desk_base.specs.asked.Refusing.{is_key}
use Rattle.desk_json.specs.Forms.{has_only}
use Rattle.desk_json.specs.Faults.{◌>>=◌}
use Rattle.desk_kept.specs.Kept.{row_data, row_text, kept_form, row_in, row_of_text}
use Rattle.desk_kept.proofs.ReadBack.{IsSound, parsed_back}

same_number : (n : ℕ) → nat_cmp n n ≡ Rattle.std.specs.declared.cmp.Ordering.TheVariants.Equal
same_number n = grind arith

same_key : (k : Key) → is_key k k ≡ true
same_key k = rw (same_number (table_number k.table), same_number k.a, same_number k.b, same_number k.c) refl

-- an object whose fields are read as a row, and that has no other names, is read as the row under its key
pub read_in : (row : AnyRow) (d : Data) → is_some (as_object d) ≡ true → (kept_form (key_of row).table (key_of row).a).read d ≡ Ok row → has_only (kept_form (key_of row).table (key_of row).a).names d ≡ true → row_in (key_of row) d ≡ Ok row
unfolding row_in
read_in row d is reads only = rw (is, reads, only, same_key (key_of row)) refl

-- what is written of a row is sound, and is read as the row
pub record IsReadBack (row : AnyRow) : Type 0 where
  pub sound : IsSound (row_data row)
  pub deep : depth (row_data row) ≤ max_depth
  pub reads : row_in (key_of row) (row_data row) ≡ Ok row

-- so the row is read from its text
pub back : (row : AnyRow) → IsReadBack row → row_of_text (key_of row) (row_text row) ≡ Ok row
unfolding row_of_text
back row h = ap (λ d. d >>= row_in (key_of row)) (parsed_back (row_data row) h.sound h.deep) ∙ h.reads
