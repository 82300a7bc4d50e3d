-- The tables of a new desk, and the trial tables.
use Rattle.std.specs.Prelude.{ℕ, pos, List, [], ◌∷◌, Some, None, codes}
use Rattle.desk_base.specs.rows.Types.{Tables, WorkRow, ResourceRow, GroupRow, Leaf as LeafFields}
use Rattle.desk_base.specs.declared.rows.groups.NodeKind.TheVariants.{Leaf}
use Rattle.desk_base.specs.declared.rows.groups.Same.TheVariants.{None as NoSame}
use Rattle.desk_base.specs.declared.rows.resources.Kind.TheVariants.{Generic}
use Rattle.desk_base.specs.rules.Limits.{first_minute}

-- no table has a row, and nothing was changed or booked
abbrev pub no_rows : Tables
no_rows = record {
  zones = [];
  calendars = [];
  works = [];
  breaks = [];
  days = [];
  offs = [];
  units = [];
  sites = [];
  roles = [];
  characteristics = [];
  territories = [];
  resources = [];
  has_roles = [];
  has_characteristics = [];
  has_territories = [];
  members = [];
  groups = [];
  bookings = [];
  callers = [];
  revision = 0;
  last_booking = 0;
}

-- a resource of the trial tables: of kind Generic, in unit 1 and at site 1
abbrev pub trial_resource : ℕ → List ℕ → ℕ → ResourceRow
trial_resource id name calendar = record { id = id; name = name; kind = Generic; calendar = Some calendar; unit = 1; site = 1 }

-- one at a time on Mondays, from a minute of the day until noon
abbrev pub work_on_monday : ℕ → ℕ → WorkRow
work_on_monday calendar from = record { calendar = calendar; weekday = 0; from = from; to = 720; capacity = 1 }

-- a leaf of an hour and effort 1 that any resource serves
abbrev pub plain_leaf : LeafFields
plain_leaf = record { duration = 60; offset = 0; effort = 1; kinds = []; roles = []; characteristics = []; territories = []; units = []; required = []; restricted = []; window = None }

-- Visit: one plain leaf, each full hour of 2025-01-06, a Monday, from 08:00Z to 12:00Z
abbrev pub trial_group : GroupRow
trial_group = record { id = 1; name = codes "Visit"; from = 28935840; to = 28936080; step = 60; nodes = record { depth = 0; kind = Leaf; same = NoSame } ∷ []; leaves = plain_leaf ∷ [] }

-- Ann and Bob work from 08:00, Cyd from 10:00, and there is one group
abbrev pub trial : Tables
trial = record no_rows {
  zones = record { id = 1; name = codes "UTC"; shifts = (first_minute, pos 0) ∷ [] } ∷ [];
  calendars = record { id = 1; name = codes "Day"; zone = 1 } ∷ record { id = 2; name = codes "Late"; zone = 1 } ∷ [];
  works = work_on_monday 1 480 ∷ work_on_monday 2 600 ∷ [];
  units = record { id = 1; name = codes "Main" } ∷ [];
  sites = record { id = 1; name = codes "Depot" } ∷ [];
  resources = trial_resource 1 (codes "Ann") 1 ∷ trial_resource 2 (codes "Bob") 1 ∷ trial_resource 3 (codes "Cyd") 2 ∷ [];
  groups = trial_group ∷ [];
}
