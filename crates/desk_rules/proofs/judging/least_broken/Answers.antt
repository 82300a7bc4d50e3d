use Rattle.std.proofs.Common.{ap, sym, ◌∙◌}
use Rattle.desk_rules.specs.Broken.{first_broken}
use Rattle.desk_rules.proofs.Walk.{walked}
use Rattle.desk_rules.proofs.judging.least_broken.Goals as goal

pub returns : goal.returns
returns c = walked c.args.rule c.args.tables.now c.requires.ready c.first_broken.result (sym (c.first_broken.ensures ∙ ap (first_broken c.args.rule c.args.tables.now) c.all_tables-all.ensures))
