use Rattle.serde_json.specs.View.{view}
use Rattle.desk_kept.proofs.TableForms.{kept_row}
use Rattle.desk_kept.proofs.reading.read_fields.Goals as goal

pub returns-in_default : goal.returns-in_default
returns-in_default c =
    kept_row c.args.key.now.table c.args.key.now.a (view c.args.body.now) c.read_row.result c.in_default.not-Group c.in_default.not-Booking c.in_default.not-Caller c.in_default.not-BookingNumbers c.read_row.ensures
