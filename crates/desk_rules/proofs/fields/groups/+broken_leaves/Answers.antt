use Rattle.std.proofs.Common.{ap, ◌∙◌, ◌-◌, take, drop, length}
use Rattle.std.specs.Option.{option_or}
use Rattle.desk_base.specs.rules.Fields.{join_rules, leaf_rules}
use Rattle.desk_base.specs.rules.Rules.{first_broken}
use Rattle.desk_rules.proofs.FirstOfAll.{broken_first}
use Rattle.desk_rules.proofs.fields.groups.+broken_leaves.Goals as goal

pub returns-in-Some : goal.returns-in-Some
returns-in-Some t c =
    let leaves = c.args.leaves.now in
    ap (λ o. option_or o (first_broken (join_rules leaf_rules (take (length leaves - 1) (drop 1 leaves))))) c.in-Some.ensures
    ∙ broken_first leaves c.first-item.result c.in-len1-up.len_at_least c.first-item.is

pub returns-in-None : goal.returns-in-None
returns-in-None t c =
    let leaves = c.args.leaves.now in
    c.broken_leaves.ensures ∙ ap (λ o. option_or o (first_broken (join_rules leaf_rules (take (length leaves - 1) (drop 1 leaves))))) c.in-None.ensures
    ∙ broken_first leaves c.first-item.result c.in-len1-up.len_at_least c.first-item.is
