use Rattle.std.proofs.Common.{sym, ◌≤◌, ℕ, subst, List}
use Rattle.desk_wire.specs.Limits.{most_head_lines}
use Rattle.desk_wire.specs.Front.{line_feeds}
use Rattle.desk_wire.proofs.FrontLemmas.{front_lines}
use Rattle.desk_wire.proofs.reading.read_front.Goals as goal

pub look-requires-clause-lines : goal.look-requires-clause-lines
look-requires-clause-lines c = subst (λ (bytes : List ℕ). line_feeds bytes ≤ most_head_lines) (sym c.front_len-len.ensures.front) (front_lines c.args.rest.now)
