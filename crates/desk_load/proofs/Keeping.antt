-- Changes that leave what an index keeps.
use Rattle.std.proofs.Common.{◌≡◌, ℕ, ◌+◌, false, cond, ◌&&◌, ◌||◌, ◌==◌, List, [], ◌∷◌, map, pos, refl, sym, ap, ◌∙◌}
use Rattle.std.proofs.lemmas.Bool.{false≢true}
use Rattle.std.specs.Prelude.{filter, find, sum_by}
use Rattle.std.specs.List.{list_any, AllByRecursion}
use Rattle.std.specs.Option.{option_map_or}
use Rattle.desk_base.specs.declared.rows.tables.Tables.{Tables}
use Rattle.desk_base.specs.declared.rows.tables.Table.{Table}
use Rattle.desk_base.specs.declared.rows.tables.Key.{Key}
use Rattle.desk_base.specs.declared.rows.tables.AnyRow.{AnyRow}
use Rattle.desk_base.specs.declared.rows.tables.Table.TheVariants.{Zone as ZoneTable, Calendar as CalendarTable, Work as WorkTable, Break as BreakTable, Day as DayTable, Off as OffTable, Unit as UnitTable, Site as SiteTable, Role as RoleTable, Characteristic as CharacteristicTable, Territory as TerritoryTable, Resource as ResourceTable, HasRole as HasRoleTable, HasCharacteristic as HasCharacteristicTable, HasTerritory as HasTerritoryTable, Member as MemberTable, Group as GroupTable, Booking as BookingTable, Caller as CallerTable, BookingNumbers}
use Rattle.desk_base.specs.declared.rows.tables.AnyRow.TheVariants.{Zone, Calendar, Work, Break, Day, Off, Unit, Site, Role, Characteristic, Territory, Resource, HasRole, HasCharacteristic, HasTerritory, Member, Group, Booking, Caller}
use Rattle.desk_base.specs.declared.rows.resources.ResourceRow.{ResourceRow}
use Rattle.desk_base.specs.declared.rows.resources.MemberRow.{MemberRow}
use Rattle.desk_base.specs.declared.rows.groups.GroupRow.{GroupRow}
use Rattle.desk_base.specs.declared.rows.bookings.BookingRow.{BookingRow}
use Rattle.desk_base.specs.declared.search.results.Ask.{Ask}
use Rattle.desk_base.specs.rows.Rows.{key_of}
use Rattle.desk_base.specs.changes.Changes.{with_row, without_row}
use Rattle.desk_base.specs.meaning.Time.{covers}
use Rattle.desk_base.specs.meaning.Load.{LoadSort, plain, crew, pool, unknown, sort_of, sort_of_kind, is_crew, members, loads, effort_at, own_load, plain_load, load, load_by, weight, ask_of}
use Rattle.desk_member.specs.Memberships.{of_member}
use Rattle.desk_load.specs.declared.weights.Weight.{Weight}
use Rattle.desk_load.specs.Effects.{is_indexed, KeepIndexed}
use Rattle.desk_load.specs.Index.{IsWeightOf, IsIndexOf}
use Rattle.desk_load.specs.Lists.{lists_of}
use Rattle.desk_load.specs.Parted.{IndexParts}

-- ---- changes of other tables

kept : (t s : Tables) → s.resources ≡ t.resources → s.members ≡ t.members → s.groups ≡ t.groups → s.bookings ≡ t.bookings → KeepIndexed t s
kept t s a b c d = record { resources = a; members = b; groups = c; bookings = d }

pub keep_out : (t : Tables) (table : Table) (k : Key) → is_indexed table ≡ false → KeepIndexed t (without_row t table k)
keep_out t ZoneTable k e = kept t _ refl refl refl refl
keep_out t CalendarTable k e = kept t _ refl refl refl refl
keep_out t WorkTable k e = kept t _ refl refl refl refl
keep_out t BreakTable k e = kept t _ refl refl refl refl
keep_out t DayTable k e = kept t _ refl refl refl refl
keep_out t OffTable k e = kept t _ refl refl refl refl
keep_out t UnitTable k e = kept t _ refl refl refl refl
keep_out t SiteTable k e = kept t _ refl refl refl refl
keep_out t RoleTable k e = kept t _ refl refl refl refl
keep_out t CharacteristicTable k e = kept t _ refl refl refl refl
keep_out t TerritoryTable k e = kept t _ refl refl refl refl
keep_out t ResourceTable k e = absurd (false≢true (sym e))
keep_out t HasRoleTable k e = kept t _ refl refl refl refl
keep_out t HasCharacteristicTable k e = kept t _ refl refl refl refl
keep_out t HasTerritoryTable k e = kept t _ refl refl refl refl
keep_out t MemberTable k e = absurd (false≢true (sym e))
keep_out t GroupTable k e = absurd (false≢true (sym e))
keep_out t BookingTable k e = absurd (false≢true (sym e))
keep_out t CallerTable k e = kept t _ refl refl refl refl
keep_out t BookingNumbers k e = kept t _ refl refl refl refl

pub keep_in : (t : Tables) (row : AnyRow) → is_indexed (key_of row).table ≡ false → KeepIndexed t (with_row t row)
keep_in t (Zone x) e = kept t _ refl refl refl refl
keep_in t (Calendar x) e = kept t _ refl refl refl refl
keep_in t (Work x) e = kept t _ refl refl refl refl
keep_in t (Break x) e = kept t _ refl refl refl refl
keep_in t (Day x) e = kept t _ refl refl refl refl
keep_in t (Off x) e = kept t _ refl refl refl refl
keep_in t (Unit x) e = kept t _ refl refl refl refl
keep_in t (Site x) e = kept t _ refl refl refl refl
keep_in t (Role x) e = kept t _ refl refl refl refl
keep_in t (Characteristic x) e = kept t _ refl refl refl refl
keep_in t (Territory x) e = kept t _ refl refl refl refl
keep_in t (Resource x) e = absurd (false≢true (sym e))
keep_in t (HasRole x) e = kept t _ refl refl refl refl
keep_in t (HasCharacteristic x) e = kept t _ refl refl refl refl
keep_in t (HasTerritory x) e = kept t _ refl refl refl refl
keep_in t (Member x) e = absurd (false≢true (sym e))
keep_in t (Group x) e = absurd (false≢true (sym e))
keep_in t (Booking x) e = absurd (false≢true (sym e))
keep_in t (Caller x) e = kept t _ refl refl refl refl

-- ---- loads hang on resources and memberships alone

module _ (s t : Tables) (er : s.resources ≡ t.resources) (em : s.members ≡ t.members) where
  sort_same : (r : ℕ) → sort_of s r ≡ sort_of t r
  sort_same r = ap (λ (l : List ResourceRow). option_map_or (λ (x : ResourceRow). sort_of_kind x.kind) (find (λ (x : ResourceRow). x.id == r) l) unknown) er

  members_same : (g m : ℕ) → members s g m ≡ members t g m
  members_same g m = ap (λ (l : List MemberRow). map (λ (x : MemberRow). x.member) (filter (λ (x : MemberRow). (x.group == g) && covers x.from x.to m) l)) em

  loads_same : (on r m : ℕ) → loads s on r m ≡ loads t on r m
  loads_same on r m = λ i. (on == r) || (is_crew (sort_same on i) && list_any (λ x. x == r) (members_same on m i))

  plain_same : (r m : ℕ) (a : Ask) → plain_load s r m a ≡ plain_load t r m a
  unfolding plain_load
  plain_same r m a = ap (λ b. cond b (effort_at m a) 0) (loads_same a.resource r m)

  by_same : (k : LoadSort) (r m : ℕ) (a : Ask) → load_by k s r m a ≡ load_by k t r m a
  by_same plain r m a = plain_same r m a
  by_same crew r m a = refl
  by_same pool r m a = λ i. own_load r m a + sum_by (λ x. plain_same x m a i) (members_same r m i)
  by_same unknown r m a = refl

  pub load_same : (r m : ℕ) (a : Ask) → load s r m a ≡ load t r m a
  unfolding load
  load_same r m a = ap (λ k. load_by k s r m a) (sort_same r) ∙ by_same (sort_of t r) r m a

  pub weight_same : (asks : List Ask) (r m : ℕ) → weight s asks r m ≡ weight t asks r m
  weight_same asks r m = λ i. sum_by (λ a. load_same r m a i) asks

-- ---- the index

all_step : {A : Type 0} (P Q : A → Type 0) (xs : List A) → ((x : A) → P x → Q x) → AllByRecursion P xs → AllByRecursion Q xs
all_step P Q [] h a = tt
all_step P Q (x ∷ xs) h a = (h x a.0, all_step P Q xs h a.1)

weight_kept : (t s : Tables) → KeepIndexed t s → (w : Weight) → IsWeightOf t w.resource w.weight → IsWeightOf s w.resource w.weight
weight_kept t s k w h = record {
  begin = h.begin;
  end = h.end;
  weight_at = λ m l e. h.weight_at m l e ∙ ap pos (sym (weight_same s t k.resources k.members (map ask_of s.bookings) w.resource m ∙ ap (λ (l : List BookingRow). weight t (map ask_of l) w.resource m) k.bookings));
}

-- an index is one of all tables that have the same of what it keeps
pub index_kept : (t s : Tables) (i : IndexParts) → KeepIndexed t s → IsIndexOf t i → IsIndexOf s i
index_kept t s i k h = record {
  weights = record {
    numbers = h.weights.numbers ∙ sym (ap (map (λ (x : ResourceRow). x.id)) k.resources);
    each = all_step (λ (w : Weight). IsWeightOf t w.resource w.weight) (λ (w : Weight). IsWeightOf s w.resource w.weight) i.weights (weight_kept t s k) h.weights.each;
  };
  standing = h.standing ∙ sym ((λ j. lists_of (λ (b : BookingRow). b.resource) (map (λ (x : ResourceRow). x.id) (k.resources j)) (k.bookings j)));
  booked = h.booked ∙ sym ((λ j. lists_of (λ (b : BookingRow). b.group) (map (λ (g : GroupRow). g.id) (k.groups j)) (k.bookings j)));
  members = record { each = λ r. h.members.each r ∙ sym (ap (of_member r) k.members) };
}
