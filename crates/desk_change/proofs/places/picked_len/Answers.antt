use Rattle.std.proofs.Common.{rules, ◌≡◌, count_by, is_some, ◌∙◌}
use Rattle.desk_change.proofs.Picking.{length_picked}
use Rattle.desk_change.proofs.places.picked_len.Goals as goal

pub returns-clause-count : goal.returns-clause-count
returns-clause-count c =
    let counted : c.count.result ≡ count_by (λ p. is_some p) c.args.picks.now = search rules in
    counted ∙ length_picked c.args.picks.now
