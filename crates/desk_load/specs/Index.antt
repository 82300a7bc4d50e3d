-- The weights of the standing bookings, as an index keeps them.
use Rattle.std.specs.Prelude.{ℕ, ◌≡◌, List, map, pos}
use Rattle.std.specs.List.{AllByRecursion}
use Rattle.desk_base.specs.declared.rows.tables.Tables.{Tables}
use Rattle.desk_base.specs.declared.rows.bookings.BookingRow.{BookingRow}
use Rattle.desk_base.specs.declared.rows.resources.ResourceRow.{ResourceRow}
use Rattle.desk_base.specs.declared.rows.groups.GroupRow.{GroupRow}
use Rattle.desk_base.specs.rules.Limits.{first_minute, end_of_minutes}
use Rattle.desk_base.specs.meaning.Load.{weight, ask_of}
use Rattle.desk_spans.specs.Minutes.{EachMinute}
use Rattle.desk_spans.specs.Timeline.{Timeline, end_of, value_at}
use Rattle.desk_member.specs.Memberships.{AreMemberships}
use Rattle.desk_load.specs.declared.weights.Weight.{Weight}
use Rattle.desk_load.specs.Lists.{lists_of}
use Rattle.desk_load.specs.Parted.{IndexParts}

-- the values are the weight of the standing bookings of r, over the horizon
pub record IsWeightOf (t : Tables) (r : ℕ) (p : Timeline) : Type 0 where
  pub begin : p.from ≡ first_minute
  pub end : end_of p ≡ end_of_minutes
  pub weight_at : EachMinute first_minute end_of_minutes (λ m. value_at p m ≡ pos (weight t (map ask_of t.bookings) r m))

-- the numbers of the resources, and of the groups
abbrev pub resource_numbers : Tables → List ℕ
resource_numbers t = map (λ (x : ResourceRow). x.id) t.resources

abbrev pub group_numbers : Tables → List ℕ
group_numbers t = map (λ (g : GroupRow). g.id) t.groups

-- there is a weight for each resource, in their order
pub record AreWeightsOf (t : Tables) (ws : List Weight) : Type 0 where
  pub numbers : map (λ (w : Weight). w.resource) ws ≡ resource_numbers t
  pub each : AllByRecursion (λ (w : Weight). IsWeightOf t w.resource w.weight) ws

-- the index has the weight of each resource, the bookings that stand on each resource and those of each group, and the memberships by member
pub record IsIndexOf (t : Tables) (i : IndexParts) : Type 0 where
  pub weights : AreWeightsOf t i.weights
  pub standing : i.standing ≡ lists_of (λ (b : BookingRow). b.resource) (resource_numbers t) t.bookings
  pub booked : i.booked ≡ lists_of (λ (b : BookingRow). b.group) (group_numbers t) t.bookings
  pub members : AreMemberships t i.members
