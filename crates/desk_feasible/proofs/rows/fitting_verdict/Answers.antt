use Rattle.std.proofs.Common.{◌≡◌, length, map, nat_le, true, sym, ap, ◌∙◌, subst, arith}
use Rattle.std.specs.List.{list_all}
use Rattle.desk_base.specs.rules.Limits.{end_of_minutes}
use Rattle.desk_base.specs.meaning.Time.{leaf_time}
use Rattle.desk_base.specs.meaning.Picks.{choices_of}
use Rattle.desk_base.specs.search.Listing.{ask_for}
use Rattle.desk_feasible.proofs.Asked.{ends_fit, length_asks}
use Rattle.desk_feasible.proofs.rows.fitting_verdict.Goals as goal

pub new_asks-requires : goal.new_asks-requires
new_asks-requires g c = record {
  end = subst (λ ls. list_all (λ x. nat_le (leaf_time x.leaf c.args.start).to end_of_minutes) (choices_of 0 ls c.args.picks.now) ≡ true) (sym c.as_slice.ensures)
      (ends_fit c.args.view.now.tables c.args.group.now c.args.start (choices_of 0 c.args.group.now.leaves c.args.picks.now) (omega (arith, c.get-end.ensures.value, c.get-end.ensures.high)) c.requires.served.serve);
}

pub returns-in_err-do_fit-clause-steps : goal.returns-in_err-do_fit-clause-steps
returns-in_err-do_fit-clause-steps g c =
    let asked = c.as_slice-2.ensures.value ∙ c.in_ok-asks.ensures ∙ ap (λ ls. map (ask_for c.args.start) (choices_of 0 ls c.args.picks.now)) c.as_slice.ensures in
    omega (arith, c.do_fit.ensures.steps, ap length asked, length_asks c.args.start 0 c.args.group.now.leaves c.args.picks.now)

pub returns-then-branch-clause-steps : goal.returns-then-branch-clause-steps
returns-then-branch-clause-steps g c =
    let asked = c.as_slice-2.ensures.value ∙ c.in_ok-asks.ensures ∙ ap (λ ls. map (ask_for c.args.start) (choices_of 0 ls c.args.picks.now)) c.as_slice.ensures in
    omega (arith, c.do_fit.ensures.steps, ap length asked, length_asks c.args.start 0 c.args.group.now.leaves c.args.picks.now)

pub returns-clause-steps : goal.returns-clause-steps
returns-clause-steps g c =
    let asked = c.as_slice-2.ensures.value ∙ c.in_ok-asks.ensures ∙ ap (λ ls. map (ask_for c.args.start) (choices_of 0 ls c.args.picks.now)) c.as_slice.ensures in
    omega (arith, c.do_fit.ensures.steps, ap length asked, length_asks c.args.start 0 c.args.group.now.leaves c.args.picks.now)
