use Rattle.std.proofs.Common.{arith}
use Rattle.desk_member.specs.Pieces.{IsGap}
use Rattle.desk_member.proofs.CountLemmas.{gap_at, filled_by, some_is}
use Rattle.desk_member.proofs.counts.first_gap.Goals as goal

pub returns-in-Some-clause-some : goal.returns-in-Some-clause-some
returns-in-Some-clause-some c = some_is c.of.result _ c.in-Some.minute (IsGap c.args.tables.now c.args.group c.args.window) c.of.ensures
    (gap_at c.args.tables.now c.args.group c.in-Some.minute c.args.window c.in_ok-counts.counts c.in_ok-counts.ensures.counts
    (omega (arith, c.get.ensures.value, c.in-Some.ensures.low)) (omega (arith, c.get-2.ensures.value, c.in-Some.ensures.high)) c.in-Some.ensures.below
    (λ k l h. c.in-Some.ensures.before k (omega (arith, c.get.ensures.value)) h))

pub returns-clause-none : goal.returns-clause-none
returns-clause-none c = filled_by c.args.tables.now c.args.group c.args.window c.in_ok-counts.counts c.in_ok-counts.ensures.counts
    (λ k l h. c.in-None.ensures.none k (omega (arith, c.get.ensures.value)) (omega (arith, c.get-2.ensures.value)))
