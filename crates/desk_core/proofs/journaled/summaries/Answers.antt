use Rattle.std.proofs.Common.{map, take, filter, nat_lt, sym, ap, ◌∙◌}
use Rattle.std.proofs.lemmas.List.{take-map}
use Rattle.desk_base.specs.declared.asked.acts.Entry.{Entry}
use Rattle.desk_base.specs.rules.Limits.{summary_limit}
use Rattle.desk_base.specs.asked.Summaries.{summary_of}
use Rattle.desk_core.proofs.journaled.summaries.Goals as goal

pub returns : goal.returns
returns c =
    c.in_ok-shown.ensures
    ∙ ap (map summary_of) (c.first_of.ensures ∙ ap (take summary_limit) c.above.ensures)
    ∙ sym (take-map summary_of summary_limit (filter (λ (e : Entry). nat_lt c.args.from e.revision) c.args.journal.now))
