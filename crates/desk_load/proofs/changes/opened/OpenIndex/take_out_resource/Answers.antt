use Rattle.std.proofs.Common.{◌∙◌, sym, ap, arith}
use Rattle.desk_load.specs.Lists.{list_under}
use Rattle.desk_load.specs.Changed.{parts_of}
use Rattle.desk_load.proofs.Renumbered.{none_there}
use Rattle.desk_load.proofs.Resourced.{taken_index, taken_order}
use Rattle.desk_load.proofs.changes.opened.OpenIndex.take_out_resource.Goals as goal

pub returns-in-Ok-clause-index : goal.returns-in-Ok-clause-index
returns-in-Ok-clause-index c s more h =
    let z = c.if-list_under-ne0.false in
    let a = c.in-Ok.ensures in
    let empty = none_there c.list_under.result.now (omega (arith, z)) in
    let none = sym (c.list_under.ensures ∙ ap (list_under c.args.number) c.as_slice.ensures.value) ∙ empty in
    taken_index c.args.tables.now s more (parts_of c.args.self.now) c.requires.well_formed h c.args.number (parts_of c.remove_resource.new.self) none a.weights a.standing a.booked a.members

pub returns-in-Ok-clause-order : goal.returns-in-Ok-clause-order
returns-in-Ok-clause-order c =
    let q = c.requires.stage in
    let z = c.if-list_under-ne0.false in
    let a = c.in-Ok.ensures in
    let empty = none_there c.list_under.result.now (omega (arith, z)) in
    let none = sym (c.list_under.ensures ∙ ap (list_under c.args.number) c.as_slice.ensures.value) ∙ empty in
    taken_order c.args.tables.now q.0 q.1.0 (parts_of c.args.self.now) c.requires.well_formed q.1.1 c.args.number (parts_of c.remove_resource.new.self) none a.weights a.standing a.booked a.members
