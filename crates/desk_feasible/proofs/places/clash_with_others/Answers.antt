use Rattle.std.proofs.Common.{length, ap, ◌∙◌, map, arith}
use Rattle.desk_base.specs.meaning.Picks.{choices_of}
use Rattle.desk_base.specs.search.Listing.{ask_for}
use Rattle.desk_feasible.proofs.Asked.{length_asks}
use Rattle.desk_feasible.proofs.places.clash_with_others.Goals as goal

pub clash-requires-clause-few : goal.clash-requires-clause-few
clash-requires-clause-few c =
    let asked = c.as_slice-2.ensures.value ∙ c.in_ok-asked.ensures ∙ ap (λ ls. map (ask_for c.args.start) (choices_of 0 ls c.args.picks.now)) c.as_slice.ensures in
    omega (arith, ap length asked, length_asks c.args.start 0 c.args.group.now.leaves c.args.picks.now, c.requires.few)
