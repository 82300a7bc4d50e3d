use Rattle.std.proofs.Common.{◌<◌, ◌++◌, ◌∷◌, [], length, ap, ◌∙◌, arith}
use Rattle.desk_base.proofs.lists.Bounds.{take_whole}
use Rattle.desk_member.specs.Spans.{spans_of, members_among}
use Rattle.desk_member.proofs.SpanLemmas.{spans_more, members_are}
use Rattle.desk_member.proofs.spans.member_spans.Goals as goal

pub loop-row-preserved : goal.loop-row-preserved
loop-row-preserved c =
    let rows = c.memberships_of-row-items.result.now in
    let inside : c.loop-row.row-index < length rows = omega arith in
    c.in_ok-add_span.ensures ∙ ap (λ ss. ss ++ spans_of c.args.window (c.row-item.result ∷ [])) c.loop-row.invariant ∙ spans_more c.args.window rows c.loop-row.row-index c.row-item.result inside c.row-item.is

pub returns-clause-spans : goal.returns-clause-spans
returns-clause-spans c =
    c.loop-row.invariant ∙ ap (spans_of c.args.window) (take_whole c.memberships_of-row-items.result.now c.loop-row.row-index c.loop-row-test.false ∙ c.memberships_of-row-items.ensures)

pub returns-clause-members : goal.returns-clause-members
returns-clause-members c = λ m l h.
    ap (λ ss. members_among ss m) (c.loop-row.invariant ∙ ap (spans_of c.args.window) (take_whole c.memberships_of-row-items.result.now c.loop-row.row-index c.loop-row-test.false ∙ c.memberships_of-row-items.ensures))
    ∙ members_are c.args.tables.now c.args.group m c.args.window l h
