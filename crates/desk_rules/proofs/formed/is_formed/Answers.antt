use Rattle.desk_rules.proofs.WellFormed.{rise_from_kept, well_if}
use Rattle.desk_rules.proofs.formed.is_formed.Goals as goal

pub keep-requires-2-clause-ready : goal.keep-requires-2-clause-ready
keep-requires-2-clause-ready c = rise_from_kept c.args.tables.now (c.keep.ensures.0 c.if-not-keep.false)

pub keep-requires-3-clause-ready : goal.keep-requires-3-clause-ready
keep-requires-3-clause-ready c = rise_from_kept c.args.tables.now (c.keep.ensures.0 c.if-not-keep.false)

pub returns : goal.returns
returns c =
    well_if c.args.tables.now c.keep-3.result (c.keep.ensures.0 c.if-not-keep.false) (c.are_taken.ensures.0 c.if-not-are_taken.false) (c.keep-2.ensures.0 c.if-not-keep-2.false) c.keep-3.ensures
