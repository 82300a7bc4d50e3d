use Rattle.std.proofs.Common.{◌≡◌, ◌∙◌, ◌<◌, ℕ, List, length, get_or, ap, subst}
use Rattle.desk_load.specs.declared.lists.BookingList.{BookingList}
use Rattle.desk_load.specs.Parted.{IndexParts}
use Rattle.desk_load.proofs.Renumbered.{removed_off}
use Rattle.desk_load.proofs.changes.opened.OpenIndex.remove_list_of.Goals as goal

pub returns-clause-standing : goal.returns-clause-standing
returns-clause-standing c =
    let at : ℕ = c.in-Some.at in
    ap (λ (i : IndexParts). i.standing) c.in_ok-remove_standing.ensures.parts
    ∙ removed_off (λ (l : BookingList). l.number) c.args.number c.args.self.now.standing.items at
    (subst (λ (l : List BookingList). at < length l) c.as_slice.ensures.value c.in-Some.ensures.inside)
    c.requires
    (λ d. subst (λ (l : List BookingList). (get_or l at d).number ≡ c.args.number) c.as_slice.ensures.value (c.in-Some.ensures.there d))
