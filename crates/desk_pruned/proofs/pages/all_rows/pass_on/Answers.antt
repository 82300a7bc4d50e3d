use Rattle.std.proofs.Common.{◌≡◌, ◌≤◌, ◌<◌, ◌+◌, ◌*◌, ◌++◌, ◌⊎◌, ◌∷◌, [], false, option_copied, length, sym, ap, subst, arith}
use Rattle.desk_base.specs.rules.Limits.{passed_limit}
use Rattle.desk_base.specs.search.Positions.{position_at, rows_among}
use Rattle.desk_base.specs.declared.search.results.Position.{Position}
use Rattle.desk_pruned.specs.Trails.{HasGone, cut_after}
use Rattle.desk_pruned.proofs.paging.Bounds.{gone_on, passed_more}
use Rattle.desk_pruned.proofs.paging.Passing.{IsSoFar, so_far_more, page_is, count_is}
use Rattle.desk_pruned.proofs.pages.all_rows.pass_on.Goals as goal

pub next_position-requires-clause-on : goal.next_position-requires-clause-on
next_position-requires-clause-on g c =
    let w = g.S.Explored.ways c.args.space.now in
    gone_on w (cut_after c.pass.next) c.pass.found c.pass.trail.start c.pass.trail.picks.items c.pass.roots.items (c.goes_on.ensures.go c.pass-test.true).0 c.pass.invariant.gone

pub pass-preserved : goal.pass-preserved
pass-preserved g c =
    let w = g.S.Explored.ways c.args.space.now in
    let t = c.pass.trail in
    let a = option_copied c.args.after in
    let go = c.goes_on.ensures.go c.pass-test.true in
    let gone = subst (λ b. HasGone w (cut_after c.pass.next) b t.start t.picks.items c.pass.roots.items) go.0 c.pass.invariant.gone in
    let here : Position = position_at t.start t.picks.items in
    let now = c.in_ok-next-2.ensures in
    let room : length c.pass.rows < c.args.limit = subst (λ n. n < c.args.limit) c.len.ensures go.1 in
    let grown = subst (λ n. c.push_row.new.rows ≡ c.pass.rows ++ rows_among n (here ∷ [])) c.leaves-leaves.ensures c.in_ok-push_row.ensures in
    let more = so_far_more w c.requires.sound a c.args.limit c.pass.invariant.so_far.0 c.pass.rows c.push_row.new.rows c.pass.next c.pass.passed here c.pass.invariant.so_far.1 room go.2 gone.0 grown in
    record {
      leaves = c.leaves-leaves.ensures;
      held = c.in_ok-found.ensures.held;
      gone = subst (λ n. HasGone w (cut_after n) c.in_ok-found.found c.next_position.new.trail.start c.next_position.new.trail.picks.items c.next_position.new.roots.items) (sym now) c.in_ok-found.ensures.gone;
      so_far = (c.pass.invariant.so_far.0 ++ here ∷ [], subst (λ n. IsSoFar w a c.args.limit (c.pass.invariant.so_far.0 ++ here ∷ []) c.push_row.new.rows n (c.pass.passed + 1)) (sym now) more);
      spent = passed_more w c.requires.sound _ c.pass.steps c.next_position.new.steps _ _ _ _ t.picks.items c.pass.passed c.pass.invariant.spent c.in_ok-found.ensures.steps;
    }

pub returns-clause-page : goal.returns-clause-page
returns-clause-page g c =
    let w = g.S.Explored.ways c.args.space.now in
    let t = c.pass.trail in
    let stop = subst (λ n. (c.pass.found ≡ false) ⊎ ((c.args.limit ≤ n) ⊎ (passed_limit ≤ c.pass.passed))) c.len.ensures (c.goes_on.ensures.stop c.pass-test.false) in
    page_is w c.requires.sound (option_copied c.args.after) c.args.limit c.args.shown c.pass.invariant.so_far.0 c.pass.rows c.pass.next c.pass.passed c.pass.found c.pass.invariant.so_far.1 stop
    (λ e. (subst (λ b. HasGone w (cut_after c.pass.next) b t.start t.picks.items c.pass.roots.items) e c.pass.invariant.gone).0)
    (λ e. (position_at t.start t.picks.items, (subst (λ b. HasGone w (cut_after c.pass.next) b t.start t.picks.items c.pass.roots.items) e c.pass.invariant.gone).0))

pub returns-clause-steps : goal.returns-clause-steps
returns-clause-steps g c =
    let w = g.S.Explored.ways c.args.space.now in
    let t = c.pass.trail in
    let stop = subst (λ n. (c.pass.found ≡ false) ⊎ ((c.args.limit ≤ n) ⊎ (passed_limit ≤ c.pass.passed))) c.len.ensures (c.goes_on.ensures.stop c.pass-test.false) in
    let count = count_is w c.requires.sound (option_copied c.args.after) c.args.limit c.pass.invariant.so_far.0 c.pass.rows c.pass.next c.pass.passed c.pass.found c.pass.invariant.so_far.1 stop
    (λ e. (subst (λ b. HasGone w (cut_after c.pass.next) b t.start t.picks.items c.pass.roots.items) e c.pass.invariant.gone).0) in
    let many = ap (λ n. n * (w.resources + 1)) count in
    omega (arith, many, c.pass.invariant.spent)
