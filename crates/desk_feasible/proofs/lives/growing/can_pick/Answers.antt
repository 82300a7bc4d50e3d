use Rattle.std.proofs.Common.{◌∷◌, [], ◌++◌, sym, ◌∙◌, subst}
use Rattle.std.proofs.lemmas.Bool.{false≢true}
use Rattle.desk_base.specs.declared.search.results.Ask.{Ask}
use Rattle.desk_base.specs.meaning.Load.{Fits}
use Rattle.desk_base.specs.search.Listing.{other_asks, asks_for}
use Rattle.desk_feasible.proofs.Growing.{picks_more, picked_windows, picked_fits}
use Rattle.desk_feasible.proofs.Laying.{fits_laid, fits_view}
use Rattle.desk_feasible.proofs.lives.growing.can_pick.Goals as goal

pub returns-then-not-lies_inside-clause-placed : goal.returns-then-not-lies_inside-clause-placed
returns-then-not-lies_inside-clause-placed g c = (
  λ e. absurd (false≢true e),
  λ h. sym c.if-not-lies_inside.true ∙ c.lies_inside.ensures ∙ picked_windows c.args.case.now.tables c.args.case.now.group c.args.start c.args.picks.now c.requires.placed c.args.leaf.now c.args.id c.requires.leaf c.requires.serves h,
)

pub returns-clause-placed : goal.returns-clause-placed
returns-clause-placed g c =
    let a = c.args.case.now in
    let s = c.args.start in
    let picks = c.args.picks.now in
    let ask = c.ask_for.ensures in
    let windows = sym c.lies_inside.ensures ∙ c.if-not-lies_inside.false in
    let same = c.in_ok-kept.ensures.0 (c.if-not-kept.false) in (
      λ e.
          let there = subst (λ (x : Ask). Fits a.tables ((other_asks a.tables a.group ++ asks_for a.group s picks) ++ x ∷ [])) ask (fits_laid a c.args.view.now s picks c.requires.laid c.ask_for.result (c.has_room-can.ensures.room.0 e)) in
          picks_more a.tables a.group s picks c.requires.placed c.args.leaf.now c.args.id c.requires.leaf c.requires.serves (c.goes_on.ensures.0 c.if-not-goes_on.false) windows same there,
      λ h.
          let there = picked_fits a.tables a.group s picks c.requires.placed c.args.leaf.now c.args.id c.requires.leaf c.requires.serves h in
          c.has_room-can.ensures.room.1 (fits_view a c.args.view.now s picks c.requires.laid c.ask_for.result (subst (λ (x : Ask). Fits a.tables ((other_asks a.tables a.group ++ asks_for a.group s picks) ++ x ∷ [])) (sym ask) there)),
    )
