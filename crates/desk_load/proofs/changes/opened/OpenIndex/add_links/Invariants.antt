use Rattle.std.proofs.Common.{◌≡◌, ℕ, take}
use Rattle.desk_member.specs.Pieces.{taken}
use Rattle.desk_load.specs.Changed.{before_of}
use Rattle.desk_load.specs.Turns.{AreRaised}
use Rattle.desk_load.proofs.Sharing.{added}
use Rattle.desk_load.proofs.changes.opened.OpenIndex.add_links.Given as goal

abbrev pub invariant-loop-item : goal.invariant-loop-item
invariant-loop-item l = record {
  apart : (m : ℕ) → taken (take l.item-index l.items) l.source m ≡ 0;
  weights : AreRaised (added l.turn l.items l.source l.initial.self.weights.items l.item-index) l.initial.self.weights.items l.self.weights.items;
  standing : l.self.standing.items ≡ l.initial.self.standing.items;
  booked : l.self.booked.items ≡ l.initial.self.booked.items;
  members : l.self.members ≡ l.initial.self.members;
  before : before_of l.self ≡ before_of l.initial.self;
}
