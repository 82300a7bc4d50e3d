use Rattle.std.proofs.Common.{[], get_or, sym, subst}
use Rattle.std.specs.Prelude.{Contains}
use Rattle.desk_feasible.specs.Live.{HasLaid}
use Rattle.desk_pruned.specs.Ways.{IsFirstStart}
use Rattle.desk_pages.specs.Spaces.{SpaceParts, ways_of}
use Rattle.desk_pages.proofs.Sounding.{offered_serves, first_from_next}
use Rattle.desk_pages.proofs.space.SpaceExploredFreeView.first_start.Goals as goal

pub first_start-start-requires-clause-laid : goal.first_start-start-requires-clause-laid
first_start-start-requires-clause-laid g c = subst (λ (y : SpaceParts). HasLaid y.asked c.args.view.now 0 []) (sym c.self.view_is) (c.requires.held 0)

pub first_start-start-requires-clause-serves : goal.first_start-start-requires-clause-serves
first_start-start-requires-clause-serves g c =
    let x : SpaceParts = record { asked = c.self.inside.case.now; options = c.self.inside.options.now; choices = c.self.inside.choices.items } in
    offered_serves x c.self.invariant.0 c.self.invariant.1 c.self.invariant.2 0 c.args.pick.now (subst (λ (y : SpaceParts). Contains (get_or y.choices 0 []) c.args.pick.now) (sym c.self.view_is) c.requires.offered)

pub returns-clause-first : goal.returns-clause-first
returns-clause-first g c =
    let x : SpaceParts = record { asked = c.self.inside.case.now; options = c.self.inside.options.now; choices = c.self.inside.choices.items } in
    subst (λ (y : SpaceParts). IsFirstStart (ways_of y) c.args.pick.now c.args.from c.first_start-start.result) c.self.view_is
    (first_from_next x c.self.invariant.0 c.self.invariant.1 c.self.invariant.2 c.args.pick.now c.args.from c.first_start-start.result c.first_start-start.ensures.first)
