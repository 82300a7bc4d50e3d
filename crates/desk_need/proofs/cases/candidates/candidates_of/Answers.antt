use Rattle.std.proofs.Common.{◌<◌, ◌++◌, ◌∷◌, [], List, length, take, ap, sym, ◌∙◌, subst}
use Rattle.std.proofs.lemmas.List.{take_more}
use Rattle.desk_base.specs.declared.rows.groups.Leaf.{Leaf}
use Rattle.desk_need.specs.Candidates.{AreCandidates, AreCandidatesOf}
use Rattle.desk_need.proofs.CandidateLemmas.{candidates-more}
use Rattle.desk_need.proofs.cases.candidates.candidates_of.Goals as goal

pub loop-leaf-preserved : goal.loop-leaf-preserved
loop-leaf-preserved c =
    let t = c.args.tables.now in
    let before = take c.loop-leaf.leaf-index c.args.leaves.now in
    let here : c.loop-leaf.leaf-index < length c.args.leaves.now = c.loop-leaf-test.true in
    let list = subst (AreCandidates t c.leaf-item.result) (sym c.from_vec.ensures) c.in_ok-list.ensures in
    let more = candidates-more t before c.loop-leaf.out.items c.leaf-item.result c.from_vec.result c.loop-leaf.invariant list in
    let rows = take_more c.args.leaves.now c.loop-leaf.leaf-index c.leaf-item.result here ∙ ap (λ (x : Leaf). before ++ x ∷ []) (sym c.leaf-item.is) in
    subst (λ (ls : List Leaf). AreCandidatesOf t ls c.push.new.self.items) (sym rows) (subst (AreCandidatesOf t (before ++ c.leaf-item.result ∷ [])) (sym c.in_ok-push.ensures.items) more)
