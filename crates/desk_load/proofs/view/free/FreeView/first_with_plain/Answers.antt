use Rattle.std.proofs.Common.{ℕ, [], ◌∷◌, ◌++◌, ap, ◌∙◌}
use Rattle.desk_member.specs.Memberships.{of_member}
use Rattle.desk_load.specs.Scans.{groups_at}
use Rattle.desk_load.specs.Shown.{first_on}
use Rattle.desk_load.proofs.Scanned.{append_twice}
use Rattle.desk_load.proofs.view.free.FreeView.first_with_plain.Goals as goal

pub returns : goal.returns
returns c seen e =
    let t = c.args.self.now.tables in
    let k : ℕ = c.args.place.now.minute in
    let r : ℕ = c.args.resource in
    c.first_with_groups.ensures (seen ++ r ∷ []) (c.first_with-next.ensures seen e) ∙ ap (first_on c.args.self.now c.args.place.now) (append_twice seen (r ∷ []) (groups_at (of_member r t.members) k))
