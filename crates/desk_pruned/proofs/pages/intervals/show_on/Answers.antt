use Rattle.std.proofs.Common.{◌≡◌, ◌≤◌, ◌<◌, ◌+◌, ◌*◌, ◌++◌, ◌⊎◌, ◌∷◌, [], false, nat_lt, cond, Some, option_copied, length, sym, ap, subst, arith}
use Rattle.desk_base.specs.declared.search.results.Position.{Position}
use Rattle.desk_base.specs.rules.Limits.{passed_limit}
use Rattle.desk_base.specs.search.Positions.{position_at, rows_among}
use Rattle.desk_pruned.specs.Counts.{cut_due, later}
use Rattle.desk_base.proofs.searched.Due.{counted, one_row, count_of}
use Rattle.desk_pruned.specs.Costs.{beside}
use Rattle.desk_pruned.specs.Trails.{HasGone, cut_after}
use Rattle.desk_pruned.proofs.paging.Bounds.{gone_on, due_more}
use Rattle.desk_pruned.proofs.paging.Showing.{IsShowing, showing_first, showing_more, shown_page_is, shown_count_is}
use Rattle.desk_pruned.proofs.pages.intervals.show_on.Goals as goal

pub show-init : goal.show-init
show-init g c =
    let w = g.S.Explored.ways c.args.space.now in
    let a = option_copied c.args.after in
    let t = c.args.trail.now in
    let k = subst (λ n. HasGone w (cut_due c.args.per a n (count_of a c.args.shown)) c.args.first t.start t.picks.items c.args.roots.now.items) (sym c.start_of-start.ensures) c.requires.gone in
    let l = subst (λ n. HasGone w (cut_due c.args.per a c.start_of-start.result n) c.args.first t.start t.picks.items c.args.roots.now.items) (sym c.count_of-count.ensures.value) k in
    record {
      leaves = c.leaves-leaves.ensures;
      held = c.requires.held;
      gone = subst (λ n. HasGone w (cut_due c.args.per n c.start_of-start.result c.count_of-count.result) c.args.first t.start t.picks.items c.args.roots.now.items) (sym c.in_ok-next.ensures) l;
      so_far = ([], showing_first w c.requires.sound c.args.per c.requires.some a c.args.shown c.args.limit c.new-rows.result c.in_ok-next.next c.start_of-start.result c.count_of-count.result c.new-rows.ensures c.in_ok-next.ensures c.start_of-start.ensures c.count_of-count.ensures.value);
      spent = omega arith;
      small = omega (arith, c.count_of-count.ensures.small);
    }

pub next_due-requires-clause-on : goal.next_due-requires-clause-on
next_due-requires-clause-on g c =
    let w = g.S.Explored.ways c.args.space.now in
    gone_on w (cut_due c.args.per c.show.next c.show.start c.show.count) c.show.found c.show.trail.start c.show.trail.picks.items c.show.roots.items (c.goes_on.ensures.go c.show-test.true).0 c.show.invariant.gone

pub show-preserved : goal.show-preserved
show-preserved g c =
    let w = g.S.Explored.ways c.args.space.now in
    let t = c.show.trail in
    let a = option_copied c.args.after in
    let go = c.goes_on.ensures.go c.show-test.true in
    let gone = subst (λ b. HasGone w (cut_due c.args.per c.show.next c.show.start c.show.count) b t.start t.picks.items c.show.roots.items) go.0 c.show.invariant.gone in
    let here : Position = position_at t.start t.picks.items in
    let now = c.in_ok-next-2.ensures in
    let passed = c.show.invariant.so_far.0 ++ here ∷ [] in
    let room : length c.show.rows < c.args.limit = subst (λ n. n < c.args.limit) c.len.ensures go.1 in
    let grown = subst (λ n. c.push_row.new.rows ≡ c.show.rows ++ rows_among n (here ∷ [])) c.leaves-leaves.ensures c.in_ok-push_row.ensures in
    let count = subst (λ n. c.count_with-count.result ≡ counted c.show.start c.show.count t.start + one_row n here) c.leaves-leaves.ensures c.count_with-count.ensures.value in
    let n = c.next_due.new.trail in
    let b = nat_lt c.count_with-count.result c.args.per in
    let on = subst (λ o. HasGone w (cond b (cut_after o) (later t.start)) c.in_ok-found.found n.start n.picks.items c.next_due.new.roots.items) (sym now) c.in_ok-found.ensures.gone in
    let more = showing_more w c.requires.sound c.args.per c.requires.some a c.args.shown c.args.limit c.show.invariant.so_far.0 c.show.rows c.push_row.new.rows c.show.next c.show.start c.show.count c.show.passed here c.show.invariant.so_far.1 room go.2 gone.0 grown in
    let at_start = subst (λ u. IsShowing w c.args.per a c.args.shown c.args.limit passed c.push_row.new.rows (Some here) u (counted c.show.start c.show.count t.start + one_row w.leaves here) (c.show.passed + 1)) (sym c.get-start.ensures.value) more in
    let with_count = subst (λ m. IsShowing w c.args.per a c.args.shown c.args.limit passed c.push_row.new.rows (Some here) c.get-start.result m (c.show.passed + 1)) (sym count) at_start in
    record {
      leaves = c.leaves-leaves.ensures;
      held = c.in_ok-found.ensures.held;
      gone = subst (λ u. HasGone w (cond b (cut_after c.in_ok-next-2.next) (later u)) c.in_ok-found.found n.start n.picks.items c.next_due.new.roots.items) (sym c.get-start.ensures.value) on;
      so_far = (passed, subst (λ o. IsShowing w c.args.per a c.args.shown c.args.limit passed c.push_row.new.rows o c.get-start.result c.count_with-count.result (c.show.passed + 1)) (sym now) with_count);
      spent = due_more w c.requires.sound _ (c.show.steps + beside w t.picks.items) (c.next_due.new.steps + beside w n.picks.items) _ _ _ c.show.passed c.show.invariant.spent c.in_ok-found.ensures.steps;
      small = omega (arith, c.count_with-count.ensures.small, c.show.invariant.small);
    }

pub returns-clause-page : goal.returns-clause-page
returns-clause-page g c =
    let w = g.S.Explored.ways c.args.space.now in
    let t = c.show.trail in
    let stop = subst (λ n. (c.show.found ≡ false) ⊎ ((c.args.limit ≤ n) ⊎ (passed_limit ≤ c.show.passed))) c.len.ensures (c.goes_on.ensures.stop c.show-test.false) in
    shown_page_is w c.requires.sound c.args.per c.requires.some (option_copied c.args.after) c.args.shown c.args.limit c.show.invariant.so_far.0 c.show.rows c.show.next c.show.start c.show.count c.show.passed c.show.found c.new_shown.result c.show.invariant.so_far.1 stop
    (λ e. (subst (λ b. HasGone w (cut_due c.args.per c.show.next c.show.start c.show.count) b t.start t.picks.items c.show.roots.items) e c.show.invariant.gone).0)
    (λ e. (position_at t.start t.picks.items, (subst (λ b. HasGone w (cut_due c.args.per c.show.next c.show.start c.show.count) b t.start t.picks.items c.show.roots.items) e c.show.invariant.gone).0)) c.new_shown.ensures

pub returns-clause-steps : goal.returns-clause-steps
returns-clause-steps g c =
    let w = g.S.Explored.ways c.args.space.now in
    let t = c.show.trail in
    let stop = subst (λ n. (c.show.found ≡ false) ⊎ ((c.args.limit ≤ n) ⊎ (passed_limit ≤ c.show.passed))) c.len.ensures (c.goes_on.ensures.stop c.show-test.false) in
    let count = shown_count_is w c.requires.sound c.args.per c.requires.some (option_copied c.args.after) c.args.shown c.args.limit c.show.invariant.so_far.0 c.show.rows c.show.next c.show.start c.show.count c.show.passed c.show.found c.show.invariant.so_far.1 stop
    (λ e. (subst (λ b. HasGone w (cut_due c.args.per c.show.next c.show.start c.show.count) b t.start t.picks.items c.show.roots.items) e c.show.invariant.gone).0) in
    let many = ap (λ n. n * (w.resources + 1)) count in
    omega (arith, many, c.show.invariant.spent)
