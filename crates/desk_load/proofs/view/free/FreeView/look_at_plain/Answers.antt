use Rattle.std.proofs.Common.{ℕ, [], ◌∷◌, ◌++◌}
use Rattle.desk_member.specs.Memberships.{of_member}
use Rattle.desk_load.specs.Scans.{groups_at, plain_and_groups}
use Rattle.desk_load.proofs.Scanned.{scan_as, append_twice}
use Rattle.desk_load.proofs.view.free.FreeView.look_at_plain.Goals as goal

pub returns : goal.returns
returns c seen s =
    let t = c.args.self.now.tables in
    let r : ℕ = c.args.resource in
    scan_as c.args.self.now c.args.demand.now (λ k. (seen k ++ r ∷ []) ++ groups_at (of_member r t.members) k) (λ k. seen k ++ plain_and_groups t r k) c.args.minute _ _
    (λ k lo hi. append_twice (seen k) (r ∷ []) (groups_at (of_member r t.members) k)) (c.look_at_groups.ensures (λ k. seen k ++ r ∷ []) (c.look_at-next.ensures seen s))
