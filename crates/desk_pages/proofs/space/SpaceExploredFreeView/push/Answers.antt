use Rattle.std.proofs.Common.{◌∷◌, [], ◌++◌, sym, subst}
use Rattle.desk_pruned.specs.Ways.{IsLiveAt}
use Rattle.desk_pages.specs.Spaces.{SpaceParts, ways_of}
use Rattle.desk_pages.proofs.Sounding.{placed_live}
use Rattle.desk_pages.proofs.space.SpaceExploredFreeView.push.Goals as goal

pub lay-requires-clause-placed : goal.lay-requires-clause-placed
lay-requires-clause-placed g c =
    let x : SpaceParts = record { asked = c.self.inside.case.now; options = c.self.inside.options.now; choices = c.self.inside.choices.items } in
    let longer = c.args.picks.now ++ c.args.pick.now ∷ [] in
    placed_live x c.self.invariant.0 c.self.invariant.1 c.self.invariant.2 c.args.start longer (subst (λ (y : SpaceParts). IsLiveAt (ways_of y) c.args.start longer) (sym c.self.view_is) c.requires.live)
