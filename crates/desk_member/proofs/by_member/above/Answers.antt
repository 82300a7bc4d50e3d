use Rattle.std.proofs.Common.{rules, ◌∙◌, nat_le}
use Rattle.std.proofs.lemmas.List.{take_rest}
use Rattle.std.proofs.lemmas.List.Sorted.{IsPartitionPoint-from_clause}
use Rattle.desk_base.specs.declared.rows.resources.MemberRow.{MemberRow}
use Rattle.desk_base.proofs.lists.Cuts.{cut_partitioned, from_point}
use Rattle.desk_member.proofs.Placing.{cut_up_to, above_is}
use Rattle.desk_member.proofs.by_member.above.Goals as goal

pub returns : goal.returns
returns c =
    let test = λ (x : MemberRow). nat_le x.member c.args.member in
    let rows = c.args.rows.now in
    let first = c.partition_point-first.result in
    let point = IsPartitionPoint-from_clause test rows first c.partition_point-first.ensures.partitioned (cut_partitioned test rows (cut_up_to (λ (x : MemberRow). x.member) c.args.member rows c.requires)) (λ a r q k. search rules) in
    take_rest rows first
    ∙ from_point test rows first c.partition_point-first.ensures.bound point
    ∙ above_is (λ (x : MemberRow). x.member) c.args.member rows
