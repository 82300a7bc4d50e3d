use Rattle.std.proofs.Common.{◌∙◌, ◌++◌, ◌∷◌, [], List, ap}
use Rattle.desk_load.specs.declared.lists.BookingList.{BookingList}
use Rattle.desk_load.specs.declared.changes.opened.Former.TheVariants.{AddedStanding}
use Rattle.desk_load.specs.Changed.{parts_of, put_back}
use Rattle.desk_load.proofs.TakenBack.{noted, standing_added_back}
use Rattle.desk_load.proofs.changes.opened.OpenIndex.add_standing.Goals as goal

pub returns-clause-before : goal.returns-clause-before
returns-clause-before c =
    let before = parts_of c.args.self.now in
    noted before _ c.args.self.now.formers.items _ (AddedStanding c.args.at) (c.push_reserved.ensures.items ∙ ap (λ l. l ++ AddedStanding c.args.at ∷ []) c.reserve.ensures.items)
    (ap (λ (l : List BookingList). put_back (record before { standing = l }) (AddedStanding c.args.at)) c.in-Ok.ensures.items ∙ standing_added_back before c.args.at c.args.list c.requires)
