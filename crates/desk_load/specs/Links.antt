-- What comes to resources through a membership.
use Rattle.std.specs.Prelude.{◌≡◌, ℕ, zero, suc, Bool, ◌&&◌, ◌==◌, nat_lt, List, ℤ, pos, neg_ℤ, ◌+ℤ◌}
use Rattle.std.specs.List.Sorted.{IsStrictlySortedBy}
use Rattle.desk_base.specs.declared.rows.tables.Tables.{Tables}
use Rattle.desk_base.specs.declared.rows.tables.Key.{Key}
use Rattle.desk_base.specs.declared.rows.tables.AnyRow.TheVariants.{Member}
use Rattle.desk_base.specs.declared.rows.resources.MemberRow.{MemberRow}
use Rattle.desk_base.specs.declared.search.results.Ask.{Ask}
use Rattle.desk_base.specs.rows.Keys.{key_cmp}
use Rattle.desk_base.specs.rows.Lookups.{keys_by}
use Rattle.desk_base.specs.meaning.Load.{LoadSort, plain, crew, pool, unknown, sort_of, load}
use Rattle.desk_member.specs.declared.items.Item.{Item}
use Rattle.desk_member.specs.Pieces.{item_at, taken}
use Rattle.desk_load.specs.declared.changes.links.Links.{Links}
use Rattle.desk_load.specs.declared.changes.turns.Turn.{Turn}
use Rattle.desk_load.specs.declared.changes.turns.Turn.TheVariants.{Comes, Goes}
use Rattle.desk_load.specs.Differing.{rows_beside}

-- so many times a number
abbrev pub times : ℕ → ℤ → ℤ
times zero z = pos 0
times (suc n) z = z +ℤ times n z

-- a number as what is added where something comes, and taken away where it goes
abbrev pub signed : Turn → ℤ → ℤ
signed Comes z = z
signed Goes z = neg_ℤ z

-- one effort on the member for the time of the membership
abbrev pub ask_through : MemberRow → Ask
ask_through x = record { resource = x.member; window = record { from = x.from; to = x.to }; effort = 1 }

-- and one on the crew or the pool
abbrev pub item_through : MemberRow → Item
item_through x = record { resource = x.group; from = x.from; to = x.to; effort = 1 }

-- through a membership of a pool the weight of the member comes to the pool, and through one of a crew that of the crew to the member, and to the pools that the member is in: to each resource at each minute as often as the links say
abbrev pub IsLinkedBy : LoadSort → Tables → MemberRow → ℕ → List Item → Type 0
IsLinkedBy pool t x source items = (source ≡ x.member) × ((r m : ℕ) → taken items r m ≡ item_at r m (item_through x))
IsLinkedBy crew t x source items = (source ≡ x.group) × ((r m : ℕ) → taken items r m ≡ load t r m (ask_through x))
IsLinkedBy plain t x source items = ⊥
IsLinkedBy unknown t x source items = ⊥

-- what comes to resources through a membership: the weight of a source, to whom, and when
pub record AreLinks (t : Tables) (x : MemberRow) (l : Links) : Type 0 where
  pub member : sort_of t x.member ≡ plain
  pub linked : IsLinkedBy (sort_of t x.group) t x l.source l.items

-- the membership is of the same crew or pool, and the two have a minute in common
abbrev pub meets : MemberRow → MemberRow → Bool
meets x y = (y.group == x.group) && nat_lt y.from x.to && nat_lt x.from y.to

-- the tables s have the resources of t and the same memberships but for the one of a key, and these rise
pub record DifferAtMember (t s : Tables) (k : Key) : Type 0 where
  pub resources : s.resources ≡ t.resources
  pub rise : IsStrictlySortedBy key_cmp (keys_by Member s.members)
  pub beside : rows_beside Member k s.members ≡ rows_beside Member k t.members
