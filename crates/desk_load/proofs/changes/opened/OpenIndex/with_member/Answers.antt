use Rattle.std.proofs.Common.{◌≡◌, ◌∙◌, false, List, sym, ap, subst}
use Rattle.std.specs.List.{list_any}
use Rattle.desk_member.specs.declared.items.Item.{Item}
use Rattle.desk_member.specs.Memberships.{of_member}
use Rattle.desk_member.specs.Pieces.{taken}
use Rattle.desk_load.specs.declared.changes.turns.Turn.TheVariants.{Comes}
use Rattle.desk_load.specs.Parted.{IndexParts}
use Rattle.desk_load.specs.Changed.{parts_of}
use Rattle.desk_load.specs.Turns.{value_under, AreRaised}
use Rattle.desk_load.specs.Links.{times, signed, meets}
use Rattle.desk_load.proofs.Membered.{index_with}
use Rattle.desk_load.proofs.changes.opened.OpenIndex.with_member.Goals as goal

pub returns-clause-index : goal.returns-clause-index
returns-clause-index c t s a d absent h =
    let row = c.args.row.now in
    let links = c.args.links.now in
    let i = parts_of c.args.self.now in
    let j = parts_of c.put_members.new.self in
    let parts = c.in-Ok-put_members.ensures.parts in
    let made = c.in-Ok-add_links.ensures in
    let members = ap (λ (p : IndexParts). p.members) parts in
    let items = c.as_slice.ensures in
    let none : list_any (meets row) (of_member row.member i.members) ≡ false = ap (list_any (meets row)) (sym c.of_member.ensures) ∙ sym c.if-any_meets.ensures in
    index_with t s row links i j a d h c.requires.order (ap (λ (p : IndexParts). p.standing) parts ∙ made.standing) (ap (λ (p : IndexParts). p.booked) parts ∙ made.booked)
    (λ m. subst (λ (l : List Item). taken l links.source m ≡ 0) items (made.apart m))
    (λ r e. ap (of_member r) members ∙ c.in-Ok.ensures.others r e)
    absent
    (ap (of_member row.member) members ∙ c.in-Ok.ensures.own)
    none
    (subst (AreRaised (λ r m. times (taken links.items r m) (signed Comes (value_under links.source m i.weights))) i.weights) (sym (ap (λ (p : IndexParts). p.weights) parts))
    (subst (λ (l : List Item). AreRaised (λ r m. times (taken l r m) (signed Comes (value_under links.source m i.weights))) i.weights c.add_links.new.self.weights.items) items made.weights))
