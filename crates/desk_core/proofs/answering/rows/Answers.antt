use Rattle.std.proofs.Common.{Some, ap, sym, inl, ◌∙◌}
use Rattle.desk_base.proofs.tables.Sounds.{keys_rise}
use Rattle.desk_core.proofs.GroupsThere.{known_page, unknown_page, found_group, page_answers, askable}
use Rattle.desk_core.proofs.answering.rows.Goals as goal

pub group-requires : goal.group-requires
group-requires c table = keys_rise c.args.view.now.tables table c.requires.sound

pub page_of-requires-clause-there : goal.page_of-requires-clause-there
page_of-requires-clause-there c = found_group c.args.view.now.tables c.args.group c.in-Some.row.now c.in-Some.ensures

pub page_of-requires-clause-askable : goal.page_of-requires-clause-askable
page_of-requires-clause-askable c = askable c.args.view.now.tables c.args.options.now c.args.after.now c.args.latest c.args.limit (sym c.in-None-refused_known.ensures)

pub returns-in-Some-refused_known : goal.returns-in-Some-refused_known
returns-in-Some-refused_known c =
    λ journal. inl (known_page c.args.view.now.tables c.args.group c.in-Some.row.now c.args.options.now c.args.after.now c.args.latest c.args.limit c.in-Some.ensures ∙ sym c.in-Some-refused_known.ensures)

pub returns-in-None-refused_known : goal.returns-in-None-refused_known
returns-in-None-refused_known c =
    λ journal. page_answers c.args.view.now.tables journal c.args.group c.in-Some.row.now c.args.options.now c.args.after.now c.args.latest c.args.limit c.page_of.result c.in-Some.ensures (sym c.in-None-refused_known.ensures) c.page_of.ensures

pub returns-in-None : goal.returns-in-None
returns-in-None c = λ journal. inl (unknown_page c.args.view.now.tables c.args.group c.args.options.now c.args.after.now c.args.latest c.args.limit c.in-None.ensures ∙ ap (λ why. Some why) (sym c.unknown_group.ensures))
