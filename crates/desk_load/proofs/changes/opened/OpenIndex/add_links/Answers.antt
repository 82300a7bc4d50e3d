use Rattle.std.proofs.Common.{◌∙◌, ℕ, refl}
use Rattle.desk_load.specs.Changed.{parts_of}
use Rattle.desk_load.proofs.Raised.{order_stays}
use Rattle.desk_load.proofs.Sharing.{none_added, one_added, apart_more}
use Rattle.desk_load.proofs.changes.opened.OpenIndex.add_links.Goals as goal

pub loop-item-init : goal.loop-item-init
loop-item-init c = record {
  apart = λ m. refl;
  weights = none_added c.args.turn c.args.items.now c.args.source c.args.self.now.weights.items c.requires.whole;
  standing = refl;
  booked = refl;
  members = refl;
  before = refl;
}

pub add_link-requires-clause-order : goal.add_link-requires-clause-order
add_link-requires-clause-order c =
    let inv = c.loop-item.invariant in
    order_stays (parts_of c.args.self.now) (parts_of c.loop-item.self) c.requires.order inv.weights.numbers inv.standing inv.booked

pub add_link-requires-clause-whole : goal.add_link-requires-clause-whole
add_link-requires-clause-whole c = c.loop-item.invariant.weights.whole

pub loop-item-preserved : goal.loop-item-preserved
loop-item-preserved c =
    let xs = c.args.items.now in
    let source : ℕ = c.args.source in
    let old = c.args.self.now.weights.items in
    let i : ℕ = c.loop-item.item-index in
    let x = c.item-item.result in
    let inv = c.loop-item.invariant in
    let e = c.in_ok-add_link.ensures in
    record {
      apart = apart_more c.args.turn xs source old i x c.loop-item-test.true c.item-item.is e.other inv.apart;
      weights = one_added c.args.turn xs source old i x c.loop-item.self.weights.items c.add_link.new.self.weights.items c.loop-item-test.true c.item-item.is e.one inv.apart inv.weights e.weights;
      standing = e.standing ∙ inv.standing;
      booked = e.booked ∙ inv.booked;
      members = e.members ∙ inv.members;
      before = e.before ∙ inv.before;
    }
