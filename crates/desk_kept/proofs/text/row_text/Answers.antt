use Rattle.std.proofs.Common.{◌≡◌, false, ◌∙◌}
use Rattle.serde_json.specs.Written.{has_float, compact_text}
use Rattle.desk_kept.specs.Kept.{row_data}
use Rattle.desk_kept.proofs.NoFloats.{row_plain}
use Rattle.desk_kept.proofs.AllRows.{rows_back}
use Rattle.desk_kept.proofs.text.row_text.Goals as goal

pub returns-clause-text : goal.returns-clause-text
returns-clause-text c =
    let written : has_float (row_data c.args.row.now) ≡ false → c.in_ok-to_vec.field-0.items ≡ compact_text (row_data c.args.row.now) = rw c.in_ok-value.ensures at c.in_ok-to_vec.ensures.text in
    c.from_vec.ensures ∙ written (row_plain c.args.row.now)

pub returns-clause-reads_back : goal.returns-clause-reads_back
returns-clause-reads_back c = λ keeps. rows_back c.args.row.now c.look_at.ensures keeps

pub returns-in_err-value-clause-reads_back : goal.returns-in_err-value-clause-reads_back
returns-in_err-value-clause-reads_back c = λ keeps. rows_back c.args.row.now c.look_at.ensures keeps

pub returns-in_err-to_vec-clause-reads_back : goal.returns-in_err-to_vec-clause-reads_back
returns-in_err-to_vec-clause-reads_back c = λ keeps. rows_back c.args.row.now c.look_at.ensures keeps
