use Rattle.std.proofs.Common.{◌==◌, ap, sym, ◌∙◌}
use Rattle.std.specs.Prelude.{ℕ, filter}
use Rattle.desk_base.specs.declared.rows.resources.MemberRow.{MemberRow}
use Rattle.desk_base.specs.declared.rows.resources.ResourceRow.{ResourceRow}
use Rattle.desk_base.proofs.tables.Sounds.{well_formed}
use Rattle.desk_change.proofs.Named.{found_number, no_memberships}
use Rattle.desk_change.proofs.in_use.ranges.memberships_of.Goals as goal

pub returns-in-Some : goal.returns-in-Some
returns-in-Some c =
    let t = c.args.tables.now in
    c.memberships_of.ensures t c.requires.index
    ∙ ap (λ (n : ℕ). filter (λ (x : MemberRow). x.member == n) t.members) (found_number (λ (y : ResourceRow). y.id) c.args.resource t.resources c.in-Some.row.now c.in-Some.ensures)

pub returns-in-None : goal.returns-in-None
returns-in-None c = let t = c.args.tables.now in sym (no_memberships t c.args.resource (well_formed t c.requires.sound) c.in-None.ensures)
