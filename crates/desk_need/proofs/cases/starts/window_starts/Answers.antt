use Rattle.std.proofs.Common.{ℕ, Option, Some, None, subst}
use Rattle.desk_need.specs.declared.cases.starts.StartRun.{StartRun}
use Rattle.desk_need.specs.Starts.{AreStarts, LiesInside}
use Rattle.desk_need.proofs.StartLemmas.{never_in_windows, in_windows}
use Rattle.desk_need.proofs.cases.starts.window_starts.Goals as goal

pub returns-in-None : goal.returns-in-None
returns-in-None c =
    let g = c.args.group.now in
    let none : Option StartRun = None in
    let from = subst (λ (n : ℕ). AreStarts (λ s. LiesInside c.args.leaf.now n c.get-2.result s) none) c.get.ensures.value c.in-None.ensures in
    let to = subst (λ (n : ℕ). AreStarts (λ s. LiesInside c.args.leaf.now g.from n s) none) c.get-2.ensures.value from in
    never_in_windows g c.args.leaf.now to

pub returns-in-Some : goal.returns-in-Some
returns-in-Some c =
    let g = c.args.group.now in
    let run = c.in-Some.run' in
    let from = subst (λ (n : ℕ). AreStarts (λ s. LiesInside c.args.leaf.now n c.get-2.result s) (Some run)) c.get.ensures.value c.in-Some.ensures in
    let to = subst (λ (n : ℕ). AreStarts (λ s. LiesInside c.args.leaf.now g.from n s) (Some run)) c.get-2.ensures.value from in
    in_windows g c.args.leaf.now run c.in_own_window.result to c.in_own_window.ensures
