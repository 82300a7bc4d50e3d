use Rattle.std.proofs.Common.{subst, sym, ◌∙◌, Err}
use Rattle.desk_route.specs.declared.refusals.WebRefusal.TheVariants.{BadParameter}
use Rattle.desk_route.specs.Queries.{OrNoMemory, ReadsValue, ReadsNew}
use Rattle.desk_route.proofs.RequestLemmas.{given_before, not_given}
use Rattle.desk_route.proofs.queries.read_new.Goals as goal

pub returns-then-is_given : goal.returns-then-is_given
returns-then-is_given c =
    subst (λ p. ReadsNew c.args.asked.now c.args.form c.args.text.now (Err (BadParameter p))) (sym c.parameter_of.ensures)
    (given_before c.args.asked.now c.args.form c.args.text.now (sym c.is_given.ensures ∙ c.if-is_given.true))

pub returns-else-is_given : goal.returns-else-is_given
returns-else-is_given c =
    not_given c.args.asked.now c.args.form c.args.text.now c.read_value.result (sym c.is_given.ensures ∙ c.if-is_given.false)
    (subst (λ t. OrNoMemory (ReadsValue c.args.form t) c.read_value.result) c.as_bytes.ensures.value c.read_value.ensures)
