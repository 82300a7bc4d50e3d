use Rattle.std.proofs.Common.{ℕ, ◌++◌, take, sym, ap, ◌∙◌}
use Rattle.std.proofs.lemmas.List.{take_all}
use Rattle.desk_load.specs.Scans.{members_and_groups}
use Rattle.desk_load.specs.Shown.{first_on}
use Rattle.desk_load.proofs.Scanned.{append_nothing, members_more}
use Rattle.desk_load.proofs.view.free.FreeView.first_with_members.Goals as goal

pub loop-row-init : goal.loop-row-init
loop-row-init c seen e = e ∙ ap (first_on c.args.self.now c.args.place.now) (sym (append_nothing seen))

pub loop-row-preserved : goal.loop-row-preserved
loop-row-preserved c seen e =
    let t = c.args.self.now.tables in
    let k : ℕ = c.args.place.now.minute in
    let rows = c.rows_of-row-items.result.now in
    let i : ℕ = c.loop-row.row-index in
    c.first_with_member-least.ensures (seen ++ members_and_groups t (take i rows) k) (c.loop-row.invariant seen e) ∙ ap (first_on c.args.self.now c.args.place.now) (members_more t seen rows i c.row-item.result k c.loop-row-test.true c.row-item.is)

pub returns : goal.returns
returns c seen e =
    let t = c.args.self.now.tables in
    let k : ℕ = c.args.place.now.minute in
    let rows = c.rows_of-row-items.result.now in
    let i : ℕ = c.loop-row.row-index in
    c.loop-row.invariant seen e ∙ ap (first_on c.args.self.now c.args.place.now) (ap (λ l. seen ++ members_and_groups t l k) (take_all i rows c.loop-row-test.false ∙ c.rows_of-row-items.ensures.rows))
