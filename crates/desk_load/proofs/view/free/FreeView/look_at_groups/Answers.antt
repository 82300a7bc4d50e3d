use Rattle.std.proofs.Common.{ℕ, ◌+◌, [], ◌∷◌, ◌++◌, take, ap, ◌∙◌}
use Rattle.std.proofs.lemmas.List.{take_all}
use Rattle.desk_member.specs.Memberships.{of_member}
use Rattle.desk_load.specs.Scans.{groups_at}
use Rattle.desk_load.proofs.Scanned.{scan_as, groups_more}
use Rattle.desk_load.proofs.view.free.FreeView.look_at_groups.Goals as goal

pub loop-row-preserved : goal.loop-row-preserved
loop-row-preserved c seen s =
    let rows = c.rows_with-row-items.result.now in
    let i : ℕ = c.loop-row.row-index in
    scan_as c.args.self.now c.args.demand.now (λ k. (seen k ++ groups_at (take i rows) k) ++ groups_at (c.row-item.result ∷ []) k) (λ k. seen k ++ groups_at (take (i + 1) rows) k) c.args.minute _ _
    (λ k lo hi. groups_more (seen k) rows i c.row-item.result k c.loop-row-test.true c.row-item.is) (c.look_at_group-found.ensures (λ k. seen k ++ groups_at (take i rows) k) (c.loop-row.invariant seen s))

pub returns : goal.returns
returns c seen s =
    let rows = c.rows_with-row-items.result.now in
    let i : ℕ = c.loop-row.row-index in
    scan_as c.args.self.now c.args.demand.now (λ k. seen k ++ groups_at (take i rows) k) (λ k. seen k ++ groups_at (of_member c.args.member c.args.self.now.tables.members) k) c.args.minute _ _
    (λ k lo hi. ap (λ l. seen k ++ groups_at l k) (take_all i rows c.loop-row-test.false ∙ c.rows_with-row-items.ensures)) (c.loop-row.invariant seen s)
