use Rattle.std.proofs.Common.{◌≡◌, ℕ, arith, length, List, Option, Some, None, ap, ◌∙◌}
use Rattle.std.specs.Prelude.{MatchOption, option_map}
use Rattle.desk_base.specs.meaning.Picks.{choices_of}
use Rattle.desk_base.specs.search.Verdicts.{first_unserved, IsServed, IsVerdict, HasShape}
use Rattle.desk_base.specs.declared.rows.tables.Tables.{Tables}
use Rattle.desk_base.specs.declared.rows.groups.GroupRow.{GroupRow}
use Rattle.desk_base.proofs.meaning.Shapes.{few_leaves}
use Rattle.desk_member.proofs.MemberRows.{keys_rise}
use Rattle.desk_feasible.specs.declared.broken.Broken.{Broken}
use Rattle.desk_feasible.specs.Broken.{verdict_of, unserved_as}
use Rattle.desk_feasible.proofs.Refusing.{unserved_is, served_from}
use Rattle.desk_feasible.proofs.points.broken_leaf.Goals as goal

pub first_unserved-requires-clause-rise : goal.first_unserved-requires-clause-rise
first_unserved-requires-clause-rise c = keys_rise c.args.tables.now c.requires.formed

pub first_unserved-requires-clause-few : goal.first_unserved-requires-clause-few
first_unserved-requires-clause-few c = omega (arith, few_leaves c.args.tables.now c.args.group.now c.requires.formed c.requires.there, ap length c.as_slice.ensures)

told : (t : Tables) (g : GroupRow) (s : ℕ) (picks : List (Option ℕ)) (o : Option Broken) → HasShape g s picks → o ≡ option_map unserved_as (first_unserved t g s (choices_of 0 g.leaves picks)) → MatchOption o (IsServed t g s picks) (λ b. IsVerdict t g s picks (verdict_of b))
told t g s picks None shape e = served_from t g s picks shape e
told t g s picks (Some b) shape e = unserved_is t g s picks b e shape

pub returns : goal.returns
returns c = told c.args.tables.now c.args.group.now c.args.start c.args.picks.now c.first_unserved.result c.requires.shape (c.first_unserved.ensures ∙ ap (λ l. option_map unserved_as (first_unserved c.args.tables.now c.args.group.now c.args.start (choices_of 0 l c.args.picks.now))) c.as_slice.ensures)
