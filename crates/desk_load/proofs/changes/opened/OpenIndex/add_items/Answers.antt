use Rattle.std.proofs.Common.{◌≡◌, ◌∙◌, ◌+ℤ◌, ap, subst, arith, ℕ, ◌+◌, take}
use Rattle.std.proofs.lemmas.Int.{ints}
use Rattle.desk_spans.specs.Timeline.{IsBounded}
use Rattle.desk_member.specs.Pieces.{item_at, taken}
use Rattle.desk_load.specs.Changed.{parts_of}
use Rattle.desk_load.specs.Turns.{turned, value_under}
use Rattle.desk_load.proofs.Raised.{turned_add, raised_then, taken_more, order_stays}
use Rattle.desk_load.proofs.changes.opened.OpenIndex.add_items.Goals as goal

pub add_item-requires-clause-order : goal.add_item-requires-clause-order
add_item-requires-clause-order c =
    let inv = c.loop-item.invariant in
    order_stays (parts_of c.args.self.now) (parts_of c.loop-item.self) c.requires.order inv.weights.numbers inv.standing inv.booked

pub add_item-requires-clause-whole : goal.add_item-requires-clause-whole
add_item-requires-clause-whole c = c.loop-item.invariant.weights.whole

pub add_item-requires-clause-bounds : goal.add_item-requires-clause-bounds
add_item-requires-clause-bounds c m l u =
    let turn = c.args.turn in
    let xs = c.args.items.now in
    let i : ℕ = c.loop-item.item-index in
    let x = c.item-item.result in
    let old = value_under x.resource m c.args.self.now.weights.items in
    let sofar = c.loop-item.invariant.weights.values x.resource m l u in
    let more = ap (turned turn) (taken_more xs i x x x.resource m c.loop-item-test.true c.item-item.is) ∙ turned_add turn (taken (take i xs) x.resource m) (item_at x.resource m x) in
    let same : old +ℤ turned turn (taken (take (i + 1) xs) x.resource m) ≡ value_under x.resource m c.loop-item.self.weights.items +ℤ turned turn (item_at x.resource m x) = omega (arith, ints, sofar, more) in
    subst IsBounded same (c.requires.bounds (i + 1) x.resource m l u)

pub loop-item-preserved : goal.loop-item-preserved
loop-item-preserved c =
    let turn = c.args.turn in
    let xs = c.args.items.now in
    let i : ℕ = c.loop-item.item-index in
    let x = c.item-item.result in
    let inv = c.loop-item.invariant in
    let e = c.in_ok-add_item.ensures in
    record {
      weights =
          raised_then (λ r m. turned turn (taken (take i xs) r m)) (λ r m. turned turn (item_at r m x)) (λ r m. turned turn (taken (take (i + 1) xs) r m)) c.args.self.now.weights.items c.loop-item.self.weights.items c.add_item.new.self.weights.items
          (λ r m. ap (turned turn) (taken_more xs i x x r m c.loop-item-test.true c.item-item.is) ∙ turned_add turn (taken (take i xs) r m) (item_at r m x))
          inv.weights e.weights;
      standing = e.standing ∙ inv.standing;
      booked = e.booked ∙ inv.booked;
      members = e.members ∙ inv.members;
      before = e.before ∙ inv.before;
    }
