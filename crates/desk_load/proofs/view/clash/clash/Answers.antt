use Rattle.std.proofs.Common.{not, filter, ◌∙◌, subst}
use Rattle.desk_base.specs.asked.Steps.{IsConflict}
use Rattle.desk_load.specs.Views.{is_own}
use Rattle.desk_load.proofs.view.clash.clash.Goals as goal

pub returns-in-Some : goal.returns-in-Some
returns-in-Some c =
    let e = c.lay_all.ensures.tables ∙ c.in_ok-view.ensures.tables in
    let f = c.lay_all.ensures.without ∙ c.in_ok-view.ensures.without in
    subst (λ t. IsConflict t (filter (λ b. not (is_own c.args.without b)) t.bookings) c.args.asks.now c.clash_at.result) e
    (subst (λ w. IsConflict c.lay_all.new.self.tables (filter (λ b. not (is_own w b)) c.lay_all.new.self.tables.bookings) c.args.asks.now c.clash_at.result) f c.clash_at.ensures)
