use Rattle.std.proofs.Common.{sym, subst}
use Rattle.desk_need.specs.Candidates.{AreCandidates}
use Rattle.desk_need.proofs.CandidateLemmas.{serving_are_candidates}
use Rattle.desk_need.proofs.cases.candidates.all_candidates.Goals as goal

pub returns : goal.returns
returns c =
    subst (AreCandidates c.args.tables.now c.args.leaf.now) (sym c.in_ok-all.ensures) (serving_are_candidates c.args.tables.now c.args.leaf.now c.requires)
