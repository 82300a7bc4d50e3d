use Rattle.std.proofs.Common.{◌≡◌, ◌∙◌, ◌+ℤ◌, sym, ap, subst, cond, pos, List, ℕ, get_or, length, ◌<◌, ◌==◌}
use Rattle.desk_base.specs.meaning.Time.{covers}
use Rattle.desk_spans.specs.Timeline.{Timeline, value_at}
use Rattle.desk_load.specs.declared.weights.Weight.{Weight}
use Rattle.desk_load.specs.Parted.{IndexParts}
use Rattle.desk_load.specs.Turns.{value_under, AreRaised}
use Rattle.desk_load.specs.Links.{signed}
use Rattle.desk_load.proofs.Raised.{under_at}
use Rattle.desk_load.proofs.Sharing.{raised_set}
use Rattle.desk_load.proofs.changes.opened.OpenIndex.add_link.Goals as goal

pub returns-clause-weights : goal.returns-clause-weights
returns-clause-weights c =
    let ws = c.args.self.now.weights.items in
    let turn = c.args.turn in
    let item = c.args.item.now in
    let source : ℕ = c.args.source in
    let at = c.in-Some-place_of.at in
    let from = c.in-Some.from in
    let d = c.index.result.now in
    let e = c.index-2.result.now in
    let inside : at < length ws = subst (λ (l : List Weight). at < length l) c.as_slice-2.ensures.value c.in-Some-place_of.ensures.inside in
    let here : (get_or ws at d).resource ≡ item.resource = subst (λ (l : List Weight). (get_or l at d).resource ≡ c.get-3.result) c.as_slice-2.ensures.value (c.in-Some-place_of.ensures.there d) ∙ c.get-3.ensures.value in
    let source_inside : from < length ws = subst (λ (l : List Weight). from < length l) c.as_slice.ensures.value c.in-Some.ensures.inside in
    let source_here : (get_or ws from e).resource ≡ source = subst (λ (l : List Weight). (get_or l from e).resource ≡ c.get-2.result) c.as_slice.ensures.value (c.in-Some.ensures.there e) ∙ c.get-2.ensures.value in
    let target_is = ap (λ (w : Weight). w.weight) c.index.ensures in
    let source_is = ap (λ (w : Weight). w.weight) c.index-2.ensures in
    let made = c.in_ok-weight.ensures in
    let more : ℕ → _ = λ m. signed turn (cond (covers item.from item.to m) (value_under source m ws) (pos 0)) in
    subst (AreRaised (λ r m. cond (item.resource == r) (more m) (pos 0)) ws) (sym (ap (λ (i : IndexParts). i.weights) c.in_ok-put_weight.ensures.parts))
    (raised_set more item.resource ws at d c.in_ok-weight.weight c.requires.order.0 c.requires.whole inside here made.begin made.end
    (λ m lo hi. made.values m lo hi ∙ (λ i. value_at (target_is i) m +ℤ signed turn (cond (covers item.from item.to m) ((ap (λ (t : Timeline). value_at t m) source_is ∙ sym (under_at ws from e source m c.requires.order.0 source_inside source_here)) i) (pos 0)))))
