use Rattle.std.proofs.Common.{rules, ◌∙◌, ap, map, arith}
use Rattle.std.proofs.lemmas.Grind.{common_steps}
use Rattle.std.proofs.lemmas.List.{take_all}
use Rattle.std.proofs.lemmas.List.Elements.{All-more}
use Rattle.serde_json.proofs.Views.{view-Array}
use Rattle.desk_json.specs.AnsweredPages.{IsRow}
use Rattle.desk_json.specs.Pages.{row_data}
use Rattle.desk_json.specs.Values.{list_of}
use Rattle.desk_json.proofs.pages.rows_value.Goals as goal

pub loop-row-preserved : goal.loop-row-preserved
loop-row-preserved c = (grind (arith, common_steps), All-more IsRow c.args.rows.now c.loop-row.row-index c.row-item.result (omega arith) c.loop-row.invariant.1 (search rules))

pub returns-clause-value : goal.returns-clause-value
returns-clause-value c = view-Array c.loop-row.values ∙ ap list_of (c.loop-row.invariant.0 ∙ ap (map row_data) (take_all c.loop-row.row-index c.args.rows.now (omega arith)))
