use Rattle.std.proofs.Common.{◌≡◌}
use Rattle.serde_json.specs.View.{members_view}
use Rattle.desk_json.specs.Forms.{members_among, all_names}
use Rattle.desk_json.proofs.fields.members_among.Given as goal

abbrev pub invariant-loop-name : goal.invariant-loop-name
invariant-loop-name l =
    members_among (all_names l.names) (members_view l.fn.members.entries) ≡ members_among (all_names l.names) (members_view l.name-iterator)
