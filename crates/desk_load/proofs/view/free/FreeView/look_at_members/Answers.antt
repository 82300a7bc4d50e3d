use Rattle.std.proofs.Common.{ℕ, ◌+◌, [], ◌∷◌, ◌++◌, take, ap, ◌∙◌}
use Rattle.std.proofs.lemmas.List.{take_all}
use Rattle.desk_member.specs.Spans.{rows_of_group}
use Rattle.desk_load.specs.Scans.{members_and_groups}
use Rattle.desk_load.proofs.Scanned.{scan_as, members_more}
use Rattle.desk_load.proofs.view.free.FreeView.look_at_members.Goals as goal

pub loop-row-preserved : goal.loop-row-preserved
loop-row-preserved c seen s =
    let t = c.args.self.now.tables in
    let rows = c.rows_of-row-items.result.now in
    let i : ℕ = c.loop-row.row-index in
    scan_as c.args.self.now c.args.demand.now (λ k. (seen k ++ members_and_groups t (take i rows) k) ++ members_and_groups t (c.row-item.result ∷ []) k) (λ k. seen k ++ members_and_groups t (take (i + 1) rows) k) c.args.minute _ _
    (λ k lo hi. members_more t (seen k) rows i c.row-item.result k c.loop-row-test.true c.row-item.is) (c.look_at_member-found.ensures (λ k. seen k ++ members_and_groups t (take i rows) k) (c.loop-row.invariant seen s))

pub returns : goal.returns
returns c seen s =
    let t = c.args.self.now.tables in
    let rows = c.rows_of-row-items.result.now in
    let i : ℕ = c.loop-row.row-index in
    scan_as c.args.self.now c.args.demand.now (λ k. seen k ++ members_and_groups t (take i rows) k) (λ k. seen k ++ members_and_groups t (rows_of_group t c.args.crew) k) c.args.minute _ _
    (λ k lo hi. ap (λ l. seen k ++ members_and_groups t l k) (take_all i rows c.loop-row-test.false ∙ c.rows_of-row-items.ensures.rows)) (c.loop-row.invariant seen s)
