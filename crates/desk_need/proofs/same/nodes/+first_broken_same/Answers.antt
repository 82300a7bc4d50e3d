use Rattle.std.proofs.Common.{Bool, ap, sym, ◌∙◌, ◌+◌, not, position, option_map, slice_index_or}
use Rattle.desk_base.specs.declared.rows.groups.Node.{Node}
use Rattle.desk_base.specs.meaning.Picks.{Span, spans, keeps_same}
use Rattle.desk_base.specs.declared.rows.groups.NodeKind.TheVariants as kind
use Rattle.desk_base.specs.declared.rows.groups.Same.TheVariants as same
use Rattle.desk_need.proofs.OtherNodes.{behind, one_later}
use Rattle.desk_need.proofs.same.nodes.+first_broken_same.Goals as goal

pub returns-else-not-kept-clause-value : goal.returns-else-not-kept-clause-value
returns-else-not-kept-clause-value t c =
    let nodes = c.args.nodes.now in
    let none : Node = record { depth = 0; kind = kind.All; same = same.None } in
    let first : Node = slice_index_or nodes 0 none in
    let p : Span → Bool = λ x. not (keeps_same c.args.tables.now c.args.start c.args.leaves.now c.args.picks.now x) in
    let rest = c.first_broken_same-rest.ensures.value ∙ ap (λ k. position p (spans (c.args.before + k) (behind nodes))) (c.from.ensures ∙ c.leaf_bit.ensures.value) in
    let kept = ap (λ u. p (record { node = first; before = c.args.before; under = u })) (sym c.leaves_under-under.ensures.value) ∙ ap not (sym c.keeps_same-kept.ensures ∙ c.if-not-kept.false) in
    c.one_later.ensures ∙ ap (option_map (λ n. n + 1)) rest ∙ one_later p c.args.before nodes none c.in-len1-up.len_at_least kept
