use Rattle.std.proofs.Common.{◌≡◌, ◌∙◌, ◌<◌, ℕ, List, length, get_or, sym, ap, subst}
use Rattle.std.specs.Prelude.{find}
use Rattle.desk_base.specs.rows.Ranges.{owns}
use Rattle.desk_load.specs.declared.lists.BookingList.{BookingList}
use Rattle.desk_load.specs.Parted.{IndexParts}
use Rattle.desk_load.specs.Changed.{parts_of}
use Rattle.desk_load.proofs.Ungrouped.{group_missing, group_gone, order_left}
use Rattle.desk_load.proofs.changes.opened.OpenIndex.take_out_group.Goals as goal

pub returns-in_default-clause-index : goal.returns-in_default-clause-index
returns-in_default-clause-index c s h = group_missing s c.args.number (parts_of c.args.self.now) h c.requires (ap (find (owns (λ (l : BookingList). l.number) c.args.number)) (sym c.as_slice.ensures.value) ∙ sym c.in_default.ensures)

pub returns-clause-index : goal.returns-clause-index
returns-clause-index c s h =
    let parts = c.in_ok-remove_booked.ensures.parts in
    let at : ℕ = c.in-Some-place_of.at in
    let x = c.in-Some._list.now in
    group_gone s c.args.number (parts_of c.args.self.now) (parts_of c.remove_booked.new.self) at x h c.requires
    (subst (λ (l : List BookingList). at < length l) c.as_slice-2.ensures.value c.in-Some-place_of.ensures.inside)
    (subst (λ (l : List BookingList). (get_or l at x).number ≡ c.args.number) c.as_slice-2.ensures.value (c.in-Some-place_of.ensures.there x))
    (ap (λ (i : IndexParts). i.weights) parts) (ap (λ (i : IndexParts). i.standing) parts) (ap (λ (i : IndexParts). i.members) parts) (ap (λ (i : IndexParts). i.booked) parts)

pub returns-clause-order : goal.returns-clause-order
returns-clause-order c =
    let parts = c.in_ok-remove_booked.ensures.parts in
    let at : ℕ = c.in-Some-place_of.at in
    let x = c.in-Some._list.now in
    order_left c.args.number (parts_of c.args.self.now) (parts_of c.remove_booked.new.self) at x c.requires
    (subst (λ (l : List BookingList). at < length l) c.as_slice-2.ensures.value c.in-Some-place_of.ensures.inside)
    (subst (λ (l : List BookingList). (get_or l at x).number ≡ c.args.number) c.as_slice-2.ensures.value (c.in-Some-place_of.ensures.there x))
    (ap (λ (i : IndexParts). i.weights) parts) (ap (λ (i : IndexParts). i.standing) parts) (ap (λ (i : IndexParts). i.booked) parts)
