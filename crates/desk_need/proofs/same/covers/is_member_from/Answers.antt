use Rattle.std.proofs.Common.{ap, ◌∙◌}
use Rattle.desk_need.specs.Covers.{are_covered}
use Rattle.desk_need.proofs.CoverLemmas.{throughout}
use Rattle.desk_need.proofs.same.covers.is_member_from.Goals as goal

pub returns : goal.returns
returns c =
    c.are_covered.ensures ∙ ap (λ l. are_covered l c.args.from c.args.to) c.memberships-rows.ensures
    ∙ throughout c.args.tables.now c.args.crew c.args.member c.args.from c.args.to
