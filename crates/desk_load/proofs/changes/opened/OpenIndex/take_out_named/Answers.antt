use Rattle.std.proofs.Common.{sym, subst}
use Rattle.desk_base.specs.changes.Changes.{without_key}
use Rattle.desk_load.specs.Changed.{parts_of}
use Rattle.desk_load.specs.Index.{IsIndexOf}
use Rattle.desk_load.specs.Stages.{IsStage, key_of_named}
use Rattle.desk_load.proofs.changes.opened.OpenIndex.take_out_named.Goals as goal

pub returns-in-Ok-clause-out : goal.returns-in-Ok-clause-out
returns-in-Ok-clause-out c s more h =
    subst (λ n. IsStage c.args.tables.now (without_key s (key_of_named n)) 0 more (parts_of c.take_out.new.self)) (sym c.in-Booking.is) (c.in-Ok.ensures.out s more h)

pub returns-in_ok-take_out_resource-in-Resource-clause-out : goal.returns-in_ok-take_out_resource-in-Resource-clause-out
returns-in_ok-take_out_resource-in-Resource-clause-out c s more h =
    let a = c.in_ok-take_out_resource-in-Resource.ensures in
    (subst (λ n. IsIndexOf (without_key s (key_of_named n)) (parts_of c.take_out_resource.new.self)) (sym c.in-Resource.is) (a.index s more h), a.order)

pub returns-in_ok-take_out_member-in-Member-clause-out : goal.returns-in_ok-take_out_member-in-Member-clause-out
returns-in_ok-take_out_member-in-Member-clause-out c s more h =
    let a = c.in_ok-take_out_member-in-Member.ensures in
    (subst (λ n. IsIndexOf (without_key s (key_of_named n)) (parts_of c.take_out_member.new.self)) (sym c.in-Member.is) (a.index s more h), a.order)
