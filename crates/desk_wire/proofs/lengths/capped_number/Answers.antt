use Rattle.std.proofs.Common.{◌+◌, ◌*◌, ℕ, min, ap, ◌∙◌}
use Rattle.desk_wire.specs.Limits.{most_body_bytes}
use Rattle.desk_wire.proofs.Numbers.{capped_more}
use Rattle.desk_wire.proofs.lengths.capped_number.Goals as goal

pub loop-digit-preserved : goal.loop-digit-preserved
loop-digit-preserved c =
    c.min-number.ensures ∙ ap (λ (d : ℕ). min (c.loop-digit.number * 10 + d) (most_body_bytes + 1)) c.from.ensures
    ∙ capped_more c.args.digits.now c.loop-digit.digit-index c.loop-digit.number (most_body_bytes + 1) c.requires c.loop-digit-test.true c.loop-digit.invariant
