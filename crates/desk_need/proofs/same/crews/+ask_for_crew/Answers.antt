use Rattle.desk_base.specs.declared.rows.groups.NodeKind.TheVariants as kind
use Rattle.desk_base.specs.declared.rows.groups.Same.TheVariants as same
use Rattle.desk_need.proofs.OtherNodes.{crews_later}
use Rattle.desk_need.proofs.same.crews.+ask_for_crew.Goals as goal

pub returns-in_default : goal.returns-in_default
returns-in_default t c = λ tables crews none. crews_later tables c.args.nodes.now (record { depth = 0; kind = kind.All; same = same.None }) crews c.in-len1-up.len_at_least c.in_default.not-Crew (c.ask_for_crew.ensures tables crews none)
