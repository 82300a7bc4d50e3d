use Rattle.std.proofs.Common.{◌∷◌, [], ◌++◌, length, get_or, sym, subst}
use Rattle.std.specs.Prelude.{Contains}
use Rattle.desk_pruned.specs.Ways.{IsLiveAt}
use Rattle.desk_pages.specs.Spaces.{SpaceParts, ways_of}
use Rattle.desk_pages.proofs.Sounding.{placed_live, more_live, offered_serves}
use Rattle.desk_pages.proofs.space.SpaceExploredFreeView.can_push.Goals as goal

pub extends-requires-clause-placed : goal.extends-requires-clause-placed
extends-requires-clause-placed g c =
    let x : SpaceParts = record { asked = c.self.inside.case.now; options = c.self.inside.options.now; choices = c.self.inside.choices.items } in
    placed_live x c.self.invariant.0 c.self.invariant.1 c.self.invariant.2 c.args.start c.args.picks.now (subst (λ (y : SpaceParts). IsLiveAt (ways_of y) c.args.start c.args.picks.now) (sym c.self.view_is) c.requires.live)

pub extends-requires-clause-serves : goal.extends-requires-clause-serves
extends-requires-clause-serves g c =
    let x : SpaceParts = record { asked = c.self.inside.case.now; options = c.self.inside.options.now; choices = c.self.inside.choices.items } in
    offered_serves x c.self.invariant.0 c.self.invariant.1 c.self.invariant.2 (length c.args.picks.now) c.args.pick.now (subst (λ (y : SpaceParts). Contains (get_or y.choices (length c.args.picks.now) []) c.args.pick.now) (sym c.self.view_is) c.requires.offered)

pub returns-clause-live : goal.returns-clause-live
returns-clause-live g c =
    let x : SpaceParts = record { asked = c.self.inside.case.now; options = c.self.inside.options.now; choices = c.self.inside.choices.items } in
    let live = subst (λ (y : SpaceParts). IsLiveAt (ways_of y) c.args.start c.args.picks.now) (sym c.self.view_is) c.requires.live in
    let longer = c.args.picks.now ++ c.args.pick.now ∷ [] in (
      λ e. subst (λ (y : SpaceParts). IsLiveAt (ways_of y) c.args.start longer) c.self.view_is (more_live x c.self.invariant.0 c.self.invariant.1 c.self.invariant.2 c.args.start c.args.picks.now c.args.pick.now live (c.in_ok-can.ensures.placed.0 e)),
      λ h. c.in_ok-can.ensures.placed.1 (placed_live x c.self.invariant.0 c.self.invariant.1 c.self.invariant.2 c.args.start longer (subst (λ (y : SpaceParts). IsLiveAt (ways_of y) c.args.start longer) (sym c.self.view_is) h)),
    )
