use Rattle.std.proofs.Common.{rules, of_calls}
use Rattle.std.proofs.lemmas.Fn.{always_returns_same}
use Rattle.desk_base.specs.rows.Keys.{key_cmp}
use Rattle.desk_base.specs.rows.Rows.{key_of}
use Rattle.desk_base.proofs.tables.KeyParts.{searched}
use Rattle.desk_base.proofs.changes.lookups.find.Goals as goal

pub returns-clause-stands : goal.returns-clause-stands
returns-clause-stands g c =
    let position = c.binary_search_by.ensures.position (λ y. key_cmp (key_of (g.T.Row.any c.args.table y)) c.args.key.now) (always_returns_same _ _ _ (λ a r f k. search (rules, of_calls))) in
    (searched (g.T.Row.any c.args.table) c.args.key.now c.args.rows.now c.binary_search_by.result c.requires c.binary_search_by.ensures.bound position).0

pub returns-clause-belongs : goal.returns-clause-belongs
returns-clause-belongs g c =
    let position = c.binary_search_by.ensures.position (λ y. key_cmp (key_of (g.T.Row.any c.args.table y)) c.args.key.now) (always_returns_same _ _ _ (λ a r f k. search (rules, of_calls))) in
    (searched (g.T.Row.any c.args.table) c.args.key.now c.args.rows.now c.binary_search_by.result c.requires c.binary_search_by.ensures.bound position).1
