use Rattle.std.proofs.Common.{◌≡◌, drop}
use Rattle.serde_json.specs.View.{items_view, members_view}
use Rattle.desk_kept.specs.Versions.{items_are, members_are}
use Rattle.desk_kept.proofs.versions.+leaves_are.Given as goal

abbrev pub invariant-items_are-loop-item : goal.invariant-items_are-loop-item
invariant-items_are-loop-item l = items_are l.version (items_view l.items.items) ≡ items_are l.version (items_view (drop l.item-index l.item-items))

abbrev pub invariant-members_are-loop-name : goal.invariant-members_are-loop-name
invariant-members_are-loop-name l = members_are l.version (members_view l.fn.members.entries) ≡ members_are l.version (members_view l.name-iterator)
