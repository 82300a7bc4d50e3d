use Rattle.desk_rules.proofs.WellFormed.{rise_from_kept, bad_limit, bad_field, bad_citation}
use Rattle.desk_rules.proofs.formed.first_broken.Goals as goal

pub returns-in-Some-least_broken : goal.returns-in-Some-least_broken
returns-in-Some-least_broken c = bad_limit c.args.tables.now c.in-Some-least_broken.key c.in_default.ensures c.in-Some-least_broken.ensures

pub least_broken-requires-3-clause-ready : goal.least_broken-requires-3-clause-ready
least_broken-requires-3-clause-ready c = rise_from_kept c.args.tables.now c.in_default.ensures

pub returns-in-Some-least_broken-2 : goal.returns-in-Some-least_broken-2
returns-in-Some-least_broken-2 c = bad_field c.args.tables.now c.in-Some-least_broken-2.key c.in_default.ensures c.in_default-least_broken.ensures c.in-Some-least_broken-2.ensures

pub least_broken-requires-4-clause-ready : goal.least_broken-requires-4-clause-ready
least_broken-requires-4-clause-ready c = rise_from_kept c.args.tables.now c.in_default.ensures

pub returns-in-Some-least_broken-3 : goal.returns-in-Some-least_broken-3
returns-in-Some-least_broken-3 c =
    bad_citation c.args.tables.now c.in-Some-least_broken-3.key c.in_default.ensures c.in_default-least_broken.ensures c.in_default-least_broken-2.ensures c.in-Some-least_broken-3.ensures
