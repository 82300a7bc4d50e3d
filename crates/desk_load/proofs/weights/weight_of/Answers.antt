use Rattle.std.proofs.Common.{◌≤◌, ◌∙◌, sym, ap, pos, subst, map}
use Rattle.std.specs.Prelude.{sum_by}
use Rattle.desk_spans.specs.Pieces.{sum_at}
use Rattle.desk_spans.specs.Timeline.{value_limit, IsBounded}
use Rattle.desk_load.specs.Parts.{piece_of, part_at}
use Rattle.desk_load.proofs.Weighed.{sum_at-owned}
use Rattle.desk_load.proofs.weights.weight_of.Goals as goal

pub build-requires-clause-bounds : goal.build-requires-clause-bounds
build-requires-clause-bounds c m l h =
    let pieces = c.as_slice.ensures.value ∙ c.in_ok-pieces.ensures ∙ ap (map piece_of) c.rows_of.ensures in
    let is = ap (λ ps. sum_at ps m) pieces ∙ sum_at-owned c.get.result m c.args.parts.now in
    let few : sum_by (part_at c.get.result m) c.args.parts.now ≤ value_limit = subst (λ r. sum_by (part_at r m) c.args.parts.now ≤ value_limit) (sym c.get.ensures.value) (c.requires.few m) in
    subst IsBounded (sym is) few

pub returns-in-Ok-clause-values : goal.returns-in-Ok-clause-values
returns-in-Ok-clause-values c m l h =
    let pieces = c.as_slice.ensures.value ∙ c.in_ok-pieces.ensures ∙ ap (map piece_of) c.rows_of.ensures in
    c.in-Ok.ensures.sums m l h ∙ ap (λ ps. sum_at ps m) pieces ∙ sum_at-owned c.get.result m c.args.parts.now
    ∙ ap (λ r. pos (sum_by (part_at r m) c.args.parts.now)) c.get.ensures.value
