use Rattle.std.proofs.Common.{◌≡◌, drop}
use Rattle.serde_json.specs.View.{items_view}
use Rattle.desk_json.specs.Lists.{each_in}
use Rattle.desk_json.proofs.EachRead.{after}
use Rattle.desk_json.proofs.lists.read_each.Given as goal

abbrev pub invariant-loop-value : goal.invariant-loop-value
invariant-loop-value g l =
    each_in (g.T.Read.meant l.field) (items_view l.values) ≡ after l.items (each_in (g.T.Read.meant l.field) (items_view (drop l.value-index l.values)))
