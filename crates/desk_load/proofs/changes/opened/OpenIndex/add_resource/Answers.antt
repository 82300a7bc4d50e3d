use Rattle.std.proofs.Common.{◌∙◌, ℕ, List, [], sym, subst}
use Rattle.std.specs.Prelude.{find}
use Rattle.desk_base.specs.rows.Ranges.{owns}
use Rattle.desk_load.specs.declared.lists.BookingList.{BookingList}
use Rattle.desk_load.specs.declared.weights.Weight.{Weight}
use Rattle.desk_load.specs.Joined.{rows_with, IsWeightAdded}
use Rattle.desk_load.specs.Changed.{parts_of}
use Rattle.desk_load.proofs.Resourced.{absent_weight, absent_list, put_new, order_put}
use Rattle.desk_load.proofs.changes.opened.OpenIndex.add_resource.Goals as goal

pub add_weight_of-requires-clause-absent : goal.add_weight_of-requires-clause-absent
add_weight_of-requires-clause-absent c = let q = c.requires.stage in absent_weight c.args.tables.now q.0 q.1.0 (parts_of c.args.self.now) c.requires.well_formed q.1.1 c.args.resource.now.id c.requires.new

pub add_list_of-requires-clause-absent : goal.add_list_of-requires-clause-absent
add_list_of-requires-clause-absent c =
    let q = c.requires.stage in
    let owner = λ (l : BookingList). l.number in
    (λ k. find (owns owner (c.get.ensures.value k)) (c.in_ok-add_weight_of.ensures.standing k))
    ∙ absent_list c.args.tables.now q.0 q.1.0 (parts_of c.args.self.now) c.requires.well_formed q.1.1 c.args.resource.now.id c.requires.new

pub returns-clause-index : goal.returns-clause-index
returns-clause-index c s more h =
    let x = c.args.resource.now in
    let i = parts_of c.args.self.now in
    let j = parts_of c.add_list_of.new.self in
    let a = c.in_ok-add_weight_of.ensures in
    let b = c.in_ok-add_list_of.ensures in
    put_new c.args.tables.now s more i c.requires.well_formed h x j c.requires.new
    (subst (λ (l : List Weight). IsWeightAdded x.id i.weights l) (sym b.weights) a.weights)
    (b.standing ∙ (λ k. let n : ℕ = c.get.ensures.value k in rows_with (λ (l : BookingList). l.number) n (record { number = n; bookings = [] }) (a.standing k)))
    (b.booked ∙ a.booked)
    (b.members ∙ a.members)

pub returns-clause-order : goal.returns-clause-order
returns-clause-order c =
    let q = c.requires.stage in
    let x = c.args.resource.now in
    let i = parts_of c.args.self.now in
    let j = parts_of c.add_list_of.new.self in
    let a = c.in_ok-add_weight_of.ensures in
    let b = c.in_ok-add_list_of.ensures in
    order_put c.args.tables.now q.0 q.1.0 i c.requires.well_formed q.1.1 x j c.requires.new
    (subst (λ (l : List Weight). IsWeightAdded x.id i.weights l) (sym b.weights) a.weights)
    (b.standing ∙ (λ k. let n : ℕ = c.get.ensures.value k in rows_with (λ (l : BookingList). l.number) n (record { number = n; bookings = [] }) (a.standing k)))
    (b.booked ∙ a.booked)
    (b.members ∙ a.members)
