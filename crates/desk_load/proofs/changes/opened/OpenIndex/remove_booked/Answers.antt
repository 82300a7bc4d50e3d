use Rattle.std.proofs.Common.{◌≡◌, ◌∙◌, ◌++◌, ◌∷◌, [], ℕ, List, length, ap}
use Rattle.desk_load.specs.declared.lists.BookingList.{BookingList}
use Rattle.desk_load.specs.declared.changes.opened.Former.{Former}
use Rattle.desk_load.specs.declared.changes.opened.Former.TheVariants.{RemovedBooked}
use Rattle.desk_load.specs.Changed.{parts_of, put_back}
use Rattle.desk_load.proofs.TakenBack.{noted, booked_removed_back}
use Rattle.desk_load.proofs.changes.opened.OpenIndex.remove_booked.Goals as goal

pub returns-clause-before : goal.returns-clause-before
returns-clause-before c =
    let before = parts_of c.args.self.now in
    let gone : Former = RemovedBooked c.args.at c.remove-former.result c.in_ok-spare.spare in
    let room : ◌≡◌ {A = ℕ} c.in_ok-spare.spare (length c.args.self.now.booked.items) = c.in_ok-spare.ensures ∙ c.len.ensures ∙ c.args.self.now.booked.ok.0 in
    noted before _ c.args.self.now.formers.items _ gone (c.push_reserved.ensures.items ∙ ap (λ l. l ++ gone ∷ []) c.reserve.ensures.items)
    (ap (λ (l : List BookingList). put_back (record before { booked = l }) gone) c.remove-former.ensures.items ∙ booked_removed_back before c.args.at c.in_ok-spare.spare c.remove-former.result c.remove-former.result c.requires c.remove-former.ensures.value room)
