use Rattle.desk_base.specs.declared.rows.tables.Table.TheVariants.{Member as MemberTable}
use Rattle.desk_base.specs.changes.Changes.{without_row}
use Rattle.desk_load.specs.Changed.{parts_of}
use Rattle.desk_load.specs.Stages.{key_of_member}
use Rattle.desk_load.proofs.Reweighed.{are_whole}
use Rattle.desk_load.proofs.Membered.{differs_out, out_twice, put_index}
use Rattle.desk_load.proofs.changes.opened.OpenIndex.put_member.Goals as goal

pub with_member-requires-clause-whole : goal.with_member-requires-clause-whole
with_member-requires-clause-whole c =
    let q = c.requires.stage in
    are_whole (without_row q.0 MemberTable (key_of_member c.key_of.result)) c.take_out_member.new.self.weights.items (c.in_ok-take_out_member.ensures.index q.0 q.1.0 q.1.1).weights

pub returns-clause-index : goal.returns-clause-index
returns-clause-index c s more h =
    let t = c.args.tables.now in
    let x = c.args.row.now in
    let i = parts_of c.args.self.now in
    let wf = c.requires.well_formed in
    let k = key_of_member c.key_of.result in
    let e = c.key_of.ensures in
    put_index t s more i wf h x k e (parts_of c.with_member.new.self)
    (c.in_ok-with_member.ensures.index t (without_row s MemberTable k) c.in_ok-links.ensures (differs_out t s more i wf h x k e) (out_twice t s more i wf h x k e) (c.in_ok-take_out_member.ensures.index s more h))
