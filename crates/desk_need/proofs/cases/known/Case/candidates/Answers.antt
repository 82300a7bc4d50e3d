use Rattle.std.proofs.Common.{List, ℕ, [], length, get_or, ap, sym, ◌∙◌, subst, arith}
use Rattle.std.specs.Prelude.{slice_get, IfSome}
use Rattle.desk_need.specs.Candidates.{AreCandidates}
use Rattle.desk_need.specs.Cases.{Asked}
use Rattle.desk_need.proofs.CandidateLemmas.{length-candidates, candidates_at}
use Rattle.desk_need.proofs.cases.known.Case.candidates.Goals as goal

pub list_of-requires : goal.list_of-requires
list_of-requires c =
    let leaves = ap (λ (a : Asked). length a.group.leaves) c.self.view_is in
    let lists = length-candidates c.self.inside.tables.now c.self.inside.group.now.leaves c.self.inside.candidates.items c.self.invariant.serve in
    let items = ap (λ (l : List (List ℕ)). length l) c.as_slice.ensures.value in
    omega (arith, leaves, lists, items, c.requires)

pub returns : goal.returns
returns c =
    let leaves = ap (λ (a : Asked). length a.group.leaves) c.self.view_is in
    let list = c.list_of.ensures ∙ ap (λ (l : List (List ℕ)). get_or l c.args.leaf []) c.as_slice.ensures.value in
    subst (λ (a : Asked). IfSome (slice_get a.group.leaves c.args.leaf) (λ l. AreCandidates a.tables l c.list_of.result.now)) c.self.view_is
    (subst (λ (xs : List ℕ). IfSome (slice_get c.self.inside.group.now.leaves c.args.leaf) (λ l. AreCandidates c.self.inside.tables.now l xs)) (sym list)
    (candidates_at c.self.inside.tables.now c.self.inside.group.now.leaves c.self.inside.candidates.items c.args.leaf [] c.self.invariant.serve (omega (arith, leaves, c.requires))))
