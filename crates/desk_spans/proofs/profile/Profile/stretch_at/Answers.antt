use Rattle.std.proofs.Common.{◌≡◌, ◌<◌, ◌≤◌, length, arith, sym, ◌∙◌}
use Rattle.desk_spans.specs.Timeline.{end_of, value_at}
use Rattle.desk_spans.specs.Minutes.{EachMinute}
use Rattle.desk_spans.proofs.Walks.{Walks, stretch_at, first_there, walk_changes, walk_value, walk_end}
use Rattle.desk_spans.proofs.profile.Profile.stretch_at.Goals as goal

some : (c : goal.After-result-1) → 0 < length c.stretches_from.result.now
some c = first_there _ _ _ c.stretches_from.ensures.fill c.requires.to

walks : (c : goal.After-result-1) → Walks c.args.self.now c.args.minute c.args.minute c.stretches_from.result.now
walks c = record { begun = omega arith; fill = c.stretches_from.ensures.fill; values = c.stretches_from.ensures.values }

end : (c : goal.After-result-1) → (c.args.minute < (stretch_at c.stretches_from.result.now 0).end) × ((stretch_at c.stretches_from.result.now 0).end ≤ end_of c.args.self.now)
end c = walk_end _ _ _ _ 0 (some c) (walks c)

level : (c : goal.After-result-1) → EachMinute c.args.minute (stretch_at c.stretches_from.result.now 0).end (λ m. value_at c.args.self.now m ≡ (stretch_at c.stretches_from.result.now 0).value)
level c = walk_value _ _ _ _ 0 (some c) (walks c)

pub returns-clause-inside : goal.returns-clause-inside
returns-clause-inside c = (end c).1

pub returns-clause-same : goal.returns-clause-same
returns-clause-same c m from to = level c m from to ∙ sym (level c c.args.minute (omega arith) (end c).0)

pub returns-clause-changed : goal.returns-clause-changed
returns-clause-changed c inside same =
    walk_changes _ _ _ _ (some c) c.stretches_from.ensures.joined (walks c) inside
    (same ∙ level c c.args.minute (omega arith) (end c).0)
