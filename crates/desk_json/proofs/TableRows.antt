-- Rows of a table that is one of several.
use Rattle.std.proofs.Common.{◌≡◌, Result, Ok, Err, inl, sym, subst}
use Rattle.serde_json.specs.Data.{Data}
use Rattle.desk_base.specs.declared.rows.tables.Table.{Table}
use Rattle.desk_base.specs.declared.rows.tables.AnyRow.{AnyRow}
use Rattle.desk_json.specs.declared.faults.BodyError.{BodyError}
use Rattle.desk_json.specs.Faults.{IsRead}
use Rattle.desk_json.specs.Tables.{described, row_form}

-- what is read of one table is read of the same
pub row_of_same : (table same : Table) (d : Data) (r : Result AnyRow BodyError) → table ≡ same → IsRead ((row_form (described same)).read d) r → IsRead ((row_form (described table)).read d) r
row_of_same table same d r e h = subst (λ t. IsRead ((row_form (described t)).read d) r) (sym e) h

is_read : {X : Type 0} (expected r : Result X BodyError) → r ≡ expected → IsRead expected r
is_read expected (Ok x) e = sym e
is_read expected (Err why) e = inl (sym e)

-- so is what is read without taking memory
pub same_row : (table same : Table) (d : Data) (r : Result AnyRow BodyError) → table ≡ same → r ≡ (row_form (described same)).read d → IsRead ((row_form (described table)).read d) r
same_row table same d r e h = row_of_same table same d r e (is_read ((row_form (described same)).read d) r h)
