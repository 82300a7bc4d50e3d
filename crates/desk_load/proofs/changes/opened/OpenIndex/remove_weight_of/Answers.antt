use Rattle.std.proofs.Common.{◌≡◌, ◌∙◌, ◌<◌, ℕ, List, length, get_or, ap, subst}
use Rattle.desk_load.specs.declared.weights.Weight.{Weight}
use Rattle.desk_load.specs.Parted.{IndexParts}
use Rattle.desk_load.proofs.Renumbered.{removed_off}
use Rattle.desk_load.proofs.changes.opened.OpenIndex.remove_weight_of.Goals as goal

pub returns-clause-weights : goal.returns-clause-weights
returns-clause-weights c =
    let at : ℕ = c.in-Some.at in
    ap (λ (i : IndexParts). i.weights) c.in_ok-remove_weight.ensures.parts
    ∙ removed_off (λ (w : Weight). w.resource) c.args.number c.args.self.now.weights.items at
    (subst (λ (l : List Weight). at < length l) c.as_slice.ensures.value c.in-Some.ensures.inside)
    c.requires
    (λ d. subst (λ (l : List Weight). ◌≡◌ {A = ℕ} (get_or l at d).resource c.args.number) c.as_slice.ensures.value (c.in-Some.ensures.there d))
