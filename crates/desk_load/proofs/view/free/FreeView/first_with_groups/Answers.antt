use Rattle.std.proofs.Common.{ℕ, ◌++◌, take, sym, ap, ◌∙◌}
use Rattle.std.proofs.lemmas.List.{take_all}
use Rattle.desk_load.specs.Scans.{groups_at}
use Rattle.desk_load.specs.Shown.{first_on}
use Rattle.desk_load.proofs.Scanned.{append_nothing, groups_more}
use Rattle.desk_load.proofs.view.free.FreeView.first_with_groups.Goals as goal

pub loop-row-init : goal.loop-row-init
loop-row-init c seen e = e ∙ ap (first_on c.args.self.now c.args.place.now) (sym (append_nothing seen))

pub loop-row-preserved : goal.loop-row-preserved
loop-row-preserved c seen e =
    let t = c.args.self.now.tables in
    let k : ℕ = c.args.place.now.minute in
    let rows = c.rows_with-row-items.result.now in
    let i : ℕ = c.loop-row.row-index in
    c.first_with_group-least.ensures (seen ++ groups_at (take i rows) k) (c.loop-row.invariant seen e) ∙ ap (first_on c.args.self.now c.args.place.now) (groups_more seen rows i c.row-item.result k c.loop-row-test.true c.row-item.is)

pub returns : goal.returns
returns c seen e =
    let t = c.args.self.now.tables in
    let k : ℕ = c.args.place.now.minute in
    let rows = c.rows_with-row-items.result.now in
    let i : ℕ = c.loop-row.row-index in
    c.loop-row.invariant seen e ∙ ap (first_on c.args.self.now c.args.place.now) (ap (λ l. seen ++ groups_at l k) (take_all i rows c.loop-row-test.false ∙ c.rows_with-row-items.ensures))
