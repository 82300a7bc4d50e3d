use Rattle.std.proofs.Common.{◌≡◌, ℕ, Option, Some, None, subst}
use Rattle.desk_base.specs.declared.values.minutes.Window.{Window}
use Rattle.desk_need.specs.declared.cases.starts.StartRun.{StartRun}
use Rattle.desk_need.specs.Starts.{AreStarts, LiesInside}
use Rattle.desk_need.proofs.StartLemmas.{own_never, own_some}
use Rattle.desk_need.proofs.cases.starts.in_own_window.Goals as goal

pub returns-in-None-starts_inside : goal.returns-in-None-starts_inside
returns-in-None-starts_inside c =
    let w = c.in-Some.window in
    let is : ◌≡◌ {A = Option Window} c.args.leaf.now.window (Some w) = cc in
    let none : Option StartRun = None in
    let from = subst (λ (n : ℕ). AreStarts (λ s. LiesInside c.args.leaf.now n c.get-in-Some.result s) none) c.get.ensures.value c.in-None-starts_inside.ensures in
    let to = subst (λ (n : ℕ). AreStarts (λ s. LiesInside c.args.leaf.now w.from n s) none) c.get-in-Some.ensures.value from in
    own_never c.args.leaf.now c.args.run w is to

pub returns-in-Some-starts_inside : goal.returns-in-Some-starts_inside
returns-in-Some-starts_inside c =
    let w = c.in-Some.window in
    let own = c.in-Some-starts_inside.own in
    let is : ◌≡◌ {A = Option Window} c.args.leaf.now.window (Some w) = cc in
    let from = subst (λ (n : ℕ). AreStarts (λ s. LiesInside c.args.leaf.now n c.get-in-Some.result s) (Some own)) c.get.ensures.value c.in-Some-starts_inside.ensures in
    let to = subst (λ (n : ℕ). AreStarts (λ s. LiesInside c.args.leaf.now w.from n s) (Some own)) c.get-in-Some.ensures.value from in
    own_some c.args.leaf.now c.args.run own w c.in_both.result is to c.in_both.ensures
