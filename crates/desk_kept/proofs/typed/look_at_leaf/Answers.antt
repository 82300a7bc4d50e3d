use Rattle.std.proofs.Common.{rules}
use Rattle.desk_kept.proofs.typed.look_at_leaf.Goals as goal

pub returns : goal.returns
returns c = record {
  duration = search rules;
  offset = search rules;
  effort = search rules;
  roles = c.look_at_ids.ensures;
  characteristics = c.look_at_ratings.ensures;
  territories = c.look_at_ids-2.ensures;
  units = c.look_at_ids-3.ensures;
  required = c.look_at_ids-4.ensures;
  restricted = c.look_at_ids-5.ensures;
  window = c.look_at_window.ensures;
}
