use Rattle.std.proofs.Common.{false, map, refl, sym, ap, ◌∙◌}
use Rattle.desk_base.specs.meaning.Load.{ask_of}
use Rattle.desk_base.specs.declared.rows.bookings.BookingRow.{BookingRow}
use Rattle.desk_base.proofs.lists.Filtered.{none_pass}
use Rattle.desk_load.specs.Views.{own_asks}
use Rattle.desk_load.proofs.view.free.own_asks.Goals as goal

pub returns-in-None : goal.returns-in-None
returns-in-None c = c.new.ensures.items ∙ sym (ap (own_asks c.args.tables.now) c.in-None.is ∙ ap (map ask_of) (none_pass (λ (b : BookingRow). false) c.args.tables.now.bookings (λ b i. refl)))
