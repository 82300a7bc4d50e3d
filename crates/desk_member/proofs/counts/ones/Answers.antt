use Rattle.std.proofs.Common.{◌<◌, ◌++◌, ◌∷◌, [], length, take, map, sym, ap, ◌∙◌, arith}
use Rattle.std.proofs.lemmas.List.{take_more, map-append}
use Rattle.desk_base.proofs.lists.Bounds.{take_whole}
use Rattle.desk_member.specs.Counts.{one_more}
use Rattle.desk_member.proofs.counts.ones.Goals as goal

pub loop-span-preserved : goal.loop-span-preserved
loop-span-preserved c =
    let inside : c.loop-span.span-index < length c.args.spans.now = omega arith in
    let more = ap (map one_more) (take_more c.args.spans.now c.loop-span.span-index c.span-item.result inside ∙ ap (λ s. take c.loop-span.span-index c.args.spans.now ++ s ∷ []) (sym c.span-item.is)) ∙ map-append one_more (take c.loop-span.span-index c.args.spans.now) (c.span-item.result ∷ []) in
    c.in_ok-push.ensures.ok ∙ ap (λ p. c.loop-span.pieces ++ p ∷ []) c.one_more.ensures ∙ ap (λ l. l ++ one_more c.span-item.result ∷ []) c.loop-span.invariant ∙ sym more

pub returns : goal.returns
returns c = c.loop-span.invariant ∙ ap (map one_more) (take_whole c.args.spans.now c.loop-span.span-index c.loop-span-test.false)
