use Rattle.std.proofs.Common.{◌≡◌, ◌<◌, ◌≤◌, ◌++◌, [], length, take, drop, get_or, sym, ap, ◌∙◌, subst, refl, arith}
use Rattle.std.proofs.Math.ListN.{set}
use Rattle.std.proofs.lemmas.Bool.{false≢true}
use Rattle.std.proofs.lemmas.Grind.{common_steps}
use Rattle.std.proofs.lemmas.List.{length-map}
use Rattle.desk_pruned.specs.declared.roots.Root.{Root}
use Rattle.desk_pruned.specs.Ways.{Comes}
use Rattle.desk_pruned.specs.Cuts.{cut_at}
use Rattle.desk_pruned.specs.Starts.{AreRoots, IsKnown, unasked}
use Rattle.desk_pruned.proofs.cutting.NextPicks.{none_more, found_here, none_at_all}
use Rattle.desk_pruned.proofs.rooted.RowLists.{row_here, pick_here, unasked_written, roots_written}
use Rattle.desk_pruned.proofs.rooted.KnownStarts.{not_here}
use Rattle.desk_pruned.proofs.starts.next_here.Goals as goal

pub returns-then-is_here-clause-roots : goal.returns-then-is_here-clause-roots
returns-then-is_here-clause-roots g c =
    let w = g.S.Explored.ways c.args.space.now in
    let k = cut_at c.args.start [] c.args.tried.now in
    let rs = c.loop-root.root-items in
    let i = c.loop-root.root-index in
    let inside : i < length rs = omega arith in
    let old = get_or rs i c.root-item.result in
    let is = ap (get_or rs i) c.root-item.is in
    let new = c.in_ok-root.field-0 in
    let back : take c.args.roots.now.len (set rs i new ++ drop (length (set rs i new)) c.args.roots.now.items) ≡ set rs i new = grind (arith, common_steps) in
    subst (AreRoots w k) (sym back) (roots_written rs i old inside is w k new c.loop-root.invariant.roots c.in_ok-root.ensures.pick c.in_ok-root.ensures.known)

pub returns-then-is_here-clause-next : goal.returns-then-is_here-clause-next
returns-then-is_here-clause-next g c =
    let w = g.S.Explored.ways c.args.space.now in
    let s = c.args.start in
    let t = c.args.tried.now in
    let rs = c.loop-root.root-items in
    let i = c.loop-root.root-index in
    let inside : i < length rs = omega arith in
    let old = get_or rs i c.root-item.result in
    let is = ap (get_or rs i) c.root-item.is in
    let new = c.in_ok-root.field-0 in
    let rows = c.loop-root.invariant.roots in
    let cs = w.choices 0 in
    let size = ap length rows.picks in
    let long = length-map rs (λ (r : Root). r.pick) in
    let within : i < length cs = omega (arith, size, long) in
    let here = pick_here rs i old inside is ∙ ap (λ l. get_or l i old.pick) rows.picks in
    let known = c.in_ok-root.ensures.known (rows.known old (row_here rs i old inside is)) in
    let hit = c.is_here.ensures.0 c.if-is_here.true in
    found_here w s [] t cs i new.pick c.requires.sound refl within (subst (λ x. x ≡ get_or cs i x) (sym c.in_ok-root.ensures.pick) here) c.loop-root.invariant.none (hit.0, (subst (IsKnown w (cut_at s [] t) new.pick) hit.1 known).1)

pub returns-then-is_here-clause-steps : goal.returns-then-is_here-clause-steps
returns-then-is_here-clause-steps g c =
    let rs = c.loop-root.root-items in
    let i = c.loop-root.root-index in
    let inside : i < length rs = omega arith in
    let old = get_or rs i c.root-item.result in
    let is = ap (get_or rs i) c.root-item.is in
    let new = c.in_ok-root.field-0 in
    let back : take c.args.roots.now.len (set rs i new ++ drop (length (set rs i new)) c.args.roots.now.items) ≡ set rs i new = grind (arith, common_steps) in
    let owes = ap unasked back in
    let owed = unasked_written rs i old inside is new in
    omega (arith, owes, owed, c.in_ok-root.ensures.steps, c.loop-root.invariant.spent)

pub loop-root-preserved : goal.loop-root-preserved
loop-root-preserved g c =
    let w = g.S.Explored.ways c.args.space.now in
    let s = c.args.start in
    let t = c.args.tried.now in
    let rs = c.loop-root.root-items in
    let i = c.loop-root.root-index in
    let inside : i < length rs = omega arith in
    let old = get_or rs i c.root-item.result in
    let is = ap (get_or rs i) c.root-item.is in
    let new = c.in_ok-root.field-0 in
    let rows = c.loop-root.invariant.roots in
    let cs = w.choices 0 in
    let size = ap length rows.picks in
    let long = length-map rs (λ (r : Root). r.pick) in
    let within : i < length cs = omega (arith, size, long) in
    let here = pick_here rs i old inside is ∙ ap (λ l. get_or l i old.pick) rows.picks in
    let known = c.in_ok-root.ensures.known (rows.known old (row_here rs i old inside is)) in
    let pick = c.in_ok-root.ensures.pick in
    let owed = unasked_written rs i old inside is new in
    record {
      roots = roots_written rs i old inside is w (cut_at s [] t) new rows pick c.in_ok-root.ensures.known;
      none = none_more w s [] t cs i old.pick within here c.loop-root.invariant.none
          (λ h. not_here w s t old.pick new.next (subst (λ x. IsKnown w (cut_at s [] t) x new.next) pick known) (c.in_ok-root.ensures.asked h.0) h.0
          (λ e. false≢true (sym c.if-is_here.false ∙ c.is_here.ensures.1 (subst (Comes t) (sym pick) h.0, e))) h.1);
      spent = omega (arith, owed, c.in_ok-root.ensures.steps, c.loop-root.invariant.spent);
    }

pub returns-clause-next : goal.returns-clause-next
returns-clause-next g c =
    let w = g.S.Explored.ways c.args.space.now in
    let rs = c.loop-root.root-items in
    let size = ap length c.loop-root.invariant.roots.picks in
    let long = length-map rs (λ (r : Root). r.pick) in
    let outside : length (w.choices 0) ≤ c.loop-root.root-index = omega (arith, size, long) in
    none_at_all w c.args.start [] c.args.tried.now (w.choices 0) c.loop-root.root-index c.requires.sound refl outside c.loop-root.invariant.none
