use Rattle.std.proofs.Common.{◌+◌, ap, sym, ◌∙◌, subst, arith}
use Rattle.desk_need.specs.Candidates.{least_from}
use Rattle.desk_need.proofs.CandidateLemmas.{AreHeldBelow, held_none, held_more, held_all, least_not_below}
use Rattle.desk_need.proofs.cases.required.required_candidates.Goals as goal

pub rising-init : goal.rising-init
rising-init c = subst (AreHeldBelow c.args.tables.now c.args.leaf.now 0) (sym c.new-out.ensures.items) (held_none c.args.tables.now c.args.leaf.now)

pub rising-smaller : goal.rising-smaller
rising-smaller c =
    let least = ap (least_from c.rising.from) (sym c.as_slice-required.ensures) ∙ sym c.in-Some.ensures in
    let low = least_not_below c.args.tables.now c.args.leaf.now c.rising.from c.in-Some.id least in
    omega (arith, low, c.get-from.ensures.value, c.get-from.ensures.high)

pub rising-preserved : goal.rising-preserved
rising-preserved c =
    let least = ap (least_from c.rising.from) (sym c.as_slice-required.ensures) ∙ sym c.in-Some.ensures in
    subst (λ n. AreHeldBelow c.args.tables.now c.args.leaf.now (n + 1) c.push_serving.new.out.items) (sym c.get-from.ensures.value)
    (held_more c.args.tables.now c.args.leaf.now c.rising.from c.in-Some.id c.rising.out.items c.push_serving.new.out.items c.rising.invariant least c.in_ok-push_serving-in-Some.ensures)

pub returns-in-None : goal.returns-in-None
returns-in-None c =
    let nothing = ap (least_from c.rising.from) (sym c.as_slice-required.ensures) ∙ sym c.in-None.ensures in
    held_all c.args.tables.now c.args.leaf.now c.rising.from c.rising.out.items c.rising.invariant nothing c.requires.some
