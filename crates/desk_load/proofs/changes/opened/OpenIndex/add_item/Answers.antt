use Rattle.std.proofs.Common.{◌≡◌, ◌∙◌, ◌+ℤ◌, sym, ap, subst, arith, List, get_or, length, ◌<◌, to_z-of_z, w64}
use Rattle.desk_spans.specs.Timeline.{Timeline, value_at, IsBounded}
use Rattle.desk_load.specs.declared.weights.Weight.{Weight}
use Rattle.desk_load.specs.Parted.{IndexParts}
use Rattle.desk_load.specs.Turns.{turned, AreRaised}
use Rattle.desk_load.proofs.Raised.{raised_by, under_at, item_own}
use Rattle.desk_member.specs.Pieces.{item_at}
use Rattle.desk_load.proofs.changes.opened.OpenIndex.add_item.Goals as goal

pub add-requires-clause-bounds : goal.add-requires-clause-bounds
add-requires-clause-bounds c m l u =
    let ws = c.args.self.now.weights.items in
    let d = c.index.result.now in
    let at = c.in-Some.at in
    let item = c.args.item.now in
    let inside : at < length ws = subst (λ (l : List Weight). at < length l) c.as_slice.ensures.value c.in-Some.ensures.inside in
    let here : (get_or ws at d).resource ≡ item.resource = subst (λ (l : List Weight). (get_or l at d).resource ≡ c.get-3.result) c.as_slice.ensures.value (c.in-Some.ensures.there d) ∙ c.get-3.ensures.value in
    let same = c.in-Ok.ensures ∙ ap (λ (w : Weight). w.weight) c.index.ensures in
    let value = to_z-of_z {w = w64} {z = c.turned.result} (record { sfits = c.turned.type_inv }) ∙ c.turned.ensures in
    let low = c.get-4.ensures.low in
    let high = c.get-5.ensures.high in
    let from = c.get-4.ensures.value in
    let to = c.get-5.ensures.value in
    let own = item_own item m (omega (arith, from, l)) (omega (arith, to, u)) in
    let under = under_at ws at d item.resource m c.requires.order.0 inside here in
    let bounded = c.requires.bounds m (omega (arith, low, l)) (omega (arith, high, u)) in
    subst IsBounded (λ i. (under ∙ sym (ap (λ (t : Timeline). value_at t m) same)) i +ℤ (ap (turned c.args.turn) own ∙ sym value) i) bounded

pub returns-clause-weights : goal.returns-clause-weights
returns-clause-weights c =
    let ws = c.args.self.now.weights.items in
    let d = c.index.result.now in
    let at = c.in-Some.at in
    let item = c.args.item.now in
    let inside : at < length ws = subst (λ (l : List Weight). at < length l) c.as_slice.ensures.value c.in-Some.ensures.inside in
    let here : (get_or ws at d).resource ≡ item.resource = subst (λ (l : List Weight). (get_or l at d).resource ≡ c.get-3.result) c.as_slice.ensures.value (c.in-Some.ensures.there d) ∙ c.get-3.ensures.value in
    let same = c.in-Ok.ensures ∙ ap (λ (w : Weight). w.weight) c.index.ensures in
    let value = to_z-of_z {w = w64} {z = c.turned.result} (record { sfits = c.turned.type_inv }) ∙ c.turned.ensures in
    let e = c.in-Ok-add.ensures in
    subst (AreRaised (λ r m. turned c.args.turn (item_at r m item)) ws) (sym (ap (λ (i : IndexParts). i.weights) c.in_ok-put_weight.ensures.parts))
    (raised_by c.args.turn item ws at d c.add.new.self c.in-Ok.weight c.get-4.result c.get-5.result _ c.requires.order.0 c.requires.whole inside here c.get-4.ensures.value c.get-5.ensures.value value same e.window_from e.window_end e.raised e.before e.after)
