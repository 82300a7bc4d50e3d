use Rattle.std.proofs.Common.{sym, ◌∙◌, subst}
use Rattle.desk_pruned.specs.Starts.{IsLeastRoot}
use Rattle.desk_pruned.proofs.rooted.LeastRoots.{least_kept, least_first, least_stays, least_new}
use Rattle.desk_pruned.proofs.roots.earlier.Goals as goal

pub returns-then-root_precedes : goal.returns-then-root_precedes
returns-then-root_precedes c = λ roots h.
    least_stays roots c.args.root.now c.in-At.next c.in-At.is c.in-Some.first (sym c.root_precedes.ensures ∙ c.if-root_precedes.true) (subst (IsLeastRoot roots) c.in-Some.is h)

pub returns-else-root_precedes : goal.returns-else-root_precedes
returns-else-root_precedes c = λ roots h.
    least_new roots c.args.root.now c.in-At.next c.in-At.is c.in-Some.first (sym c.root_precedes.ensures ∙ c.if-root_precedes.false) (subst (IsLeastRoot roots) c.in-Some.is h)

pub returns-in-None : goal.returns-in-None
returns-in-None c = λ roots h. least_first roots c.args.root.now c.in-At.next c.in-At.is (subst (IsLeastRoot roots) c.in-None.is h)

pub returns-in-Never : goal.returns-in-Never
returns-in-Never c = λ roots h. least_kept roots c.args.root.now c.args.least (λ u e. let z = sym c.in-Never.is ∙ e in cc) h

pub returns-in-Unasked : goal.returns-in-Unasked
returns-in-Unasked c = λ roots h. least_kept roots c.args.root.now c.args.least (λ u e. let z = sym c.in-Unasked.is ∙ e in cc) h
