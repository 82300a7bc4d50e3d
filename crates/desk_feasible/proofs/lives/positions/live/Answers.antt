use Rattle.std.proofs.Common.{◌≡◌, ◌≤◌, List, length, map, nat_le, true, sym, ap, ◌∙◌, subst, arith}
use Rattle.std.specs.List.{list_all}
use Rattle.desk_base.specs.declared.rows.groups.GroupRow.{GroupRow}
use Rattle.desk_base.specs.declared.rows.groups.Leaf.{Leaf}
use Rattle.desk_base.specs.rules.Limits.{end_of_minutes}
use Rattle.desk_base.specs.meaning.Time.{leaf_time}
use Rattle.desk_base.specs.meaning.Picks.{choices_of}
use Rattle.desk_base.specs.search.Listing.{ask_for}
use Rattle.desk_feasible.proofs.Asked.{ends_fit, length_asks}
use Rattle.desk_feasible.proofs.lives.positions.live.Goals as goal

pub new_asks-requires : goal.new_asks-requires
new_asks-requires g c =
    let group = c.args.case.now.group in
    let leaves = c.as_slice.ensures ∙ ap (λ (x : GroupRow). x.leaves) c.group-2.ensures in
    let place = c.is_in_place.ensures.0 c.if-not-is_in_place.false in
    let end : group.to ≤ end_of_minutes = omega (arith, c.get-end.ensures.value, c.get-end.ensures.high, ap (λ (x : GroupRow). x.to) c.group.ensures) in
    record {
      end = subst (λ (ls : List Leaf). list_all (λ x. nat_le (leaf_time x.leaf c.args.position.now.start).to end_of_minutes) (choices_of 0 ls c.as_slice-picks.result.now) ≡ true) (sym leaves)
          (ends_fit c.args.case.now.tables group c.args.position.now.start (choices_of 0 group.leaves c.as_slice-picks.result.now) end place.serve);
    }

pub returns-in_err-fit-clause-steps : goal.returns-in_err-fit-clause-steps
returns-in_err-fit-clause-steps g c =
    let group = c.args.case.now.group in
    let leaves = c.as_slice.ensures ∙ ap (λ (x : GroupRow). x.leaves) c.group-2.ensures in
    let asked = c.as_slice-2.ensures.value ∙ c.in_ok-asks.ensures ∙ ap (λ (ls : List Leaf). map (ask_for c.args.position.now.start) (choices_of 0 ls c.as_slice-picks.result.now)) leaves in
    omega (arith, c.do_fit.ensures.steps, ap length asked, length_asks c.args.position.now.start 0 group.leaves c.as_slice-picks.result.now)

pub returns-clause-steps : goal.returns-clause-steps
returns-clause-steps g c =
    let group = c.args.case.now.group in
    let leaves = c.as_slice.ensures ∙ ap (λ (x : GroupRow). x.leaves) c.group-2.ensures in
    let asked = c.as_slice-2.ensures.value ∙ c.in_ok-asks.ensures ∙ ap (λ (ls : List Leaf). map (ask_for c.args.position.now.start) (choices_of 0 ls c.as_slice-picks.result.now)) leaves in
    omega (arith, c.do_fit.ensures.steps, ap length asked, length_asks c.args.position.now.start 0 group.leaves c.as_slice-picks.result.now)
