-- Rows that say nothing of room leave what fits as it is.
use Rattle.std.proofs.Common.{◌≡◌, ℕ, ◌+◌, ◌≤◌, false, cond, ◌&&◌, ◌||◌, ◌==◌, List, Some, refl, sym, ap, ◌∙◌, subst}
use Rattle.std.proofs.lemmas.Bool.{false≢true}
use Rattle.std.specs.Prelude.{sum_by, IfSome}
use Rattle.std.specs.List.{list_any}
use Rattle.desk_base.specs.rows.Types.{Tables, AnyRow, Ask, CallerRow}
use Rattle.desk_base.specs.declared.rows.tables.AnyRow.TheVariants.{Zone, Calendar, Work, Break, Day, Off, Resource, Member, Caller}
use Rattle.desk_base.specs.meaning.Capacity.{capacity, calendar_capacity}
use Rattle.desk_base.specs.meaning.Load.{LoadSort, plain, crew, pool, unknown, sort_of, is_crew, members, effort_at, own_load, plain_load, load_by, load, weight, room_of_crew, room_by, room, Fits}
use Rattle.desk_base.specs.rows.Rows.{key_of}
use Rattle.desk_base.specs.asked.Steps.{bears_on_room}
use Rattle.desk_base.specs.changes.Changes.{with_row}
use Rattle.desk_base.proofs.lists.Tests.{sum_by_same}

-- ---- tables of the same resources, members and capacities

pub record HaveSameRoom (t u : Tables) : Type 0 where
  pub sorts : (r : ℕ) → sort_of u r ≡ sort_of t r
  pub members : (g m : ℕ) → members u g m ≡ members t g m
  pub capacities : (r m : ℕ) → capacity u r m ≡ capacity t r m

pub same_room_back : (t u : Tables) → HaveSameRoom t u → HaveSameRoom u t
same_room_back t u h = record { sorts = λ r. sym (h.sorts r); members = λ g m. sym (h.members g m); capacities = λ r m. sym (h.capacities r m) }

module _ (t u : Tables) (h : HaveSameRoom t u) where
  pub same_room_by : (k : LoadSort) (r m : ℕ) → room_by k u r m ≡ room_by k t r m
  same_room_by plain r m = ap Some (h.capacities r m)
  same_room_by crew r m = ap room_of_crew (h.members r m)
  same_room_by pool r m = ap Some (sum_by_same (λ x. capacity u x m) (λ x. capacity t x m) (members u r m) (λ x. h.capacities x m) ∙ ap (sum_by (λ x. capacity t x m)) (h.members r m))
  same_room_by unknown r m = refl

  pub same_room : (r m : ℕ) → room u r m ≡ room t r m
  unfolding room
  same_room r m = same_room_by (sort_of u r) r m ∙ ap (λ k. room_by k t r m) (h.sorts r)

  same_plain_load : (r m : ℕ) (a : Ask) → plain_load u r m a ≡ plain_load t r m a
  unfolding plain_load
  same_plain_load r m a = λ i. cond ((a.resource == r) || (is_crew (h.sorts a.resource i) && list_any (λ x. x == r) (h.members a.resource m i))) (effort_at m a) 0

  same_load_by : (k : LoadSort) (r m : ℕ) (a : Ask) → load_by k u r m a ≡ load_by k t r m a
  same_load_by plain r m a = same_plain_load r m a
  same_load_by crew r m a = refl
  same_load_by pool r m a =
      ap (λ n. own_load r m a + n)
      (sum_by_same (λ x. plain_load u x m a) (λ x. plain_load t x m a) (members u r m) (λ x. same_plain_load x m a) ∙ ap (sum_by (λ x. plain_load t x m a)) (h.members r m))
  same_load_by unknown r m a = refl

  pub same_load : (r m : ℕ) (a : Ask) → load u r m a ≡ load t r m a
  unfolding load
  same_load r m a = same_load_by (sort_of u r) r m a ∙ ap (λ k. load_by k t r m a) (h.sorts r)

  pub same_weight : (asks : List Ask) (r m : ℕ) → weight u asks r m ≡ weight t asks r m
  same_weight asks r m = sum_by_same (load u r m) (load t r m) asks (λ a. same_load r m a)

  -- what fits the one fits the other
  pub Fits-same : (asks : List Ask) → Fits t asks → Fits u asks
  Fits-same asks f = record {
    at = λ r m i.
        subst (λ o. IfSome o (λ n. weight u asks r m ≤ n)) (sym (same_room r m)) (subst (λ w. IfSome (room t r m) (λ n. w ≤ n)) (sym (same_weight asks r m)) (f.at r m i));
  }

-- ---- rows that do not bear on room

pub quiet_row : (t : Tables) (row : AnyRow) → bears_on_room (key_of row).table ≡ false → HaveSameRoom t (with_row t row)
unfolding capacity calendar_capacity
quiet_row t (Zone x) e = absurd (false≢true (sym e))
quiet_row t (Calendar x) e = absurd (false≢true (sym e))
quiet_row t (Work x) e = absurd (false≢true (sym e))
quiet_row t (Break x) e = absurd (false≢true (sym e))
quiet_row t (Day x) e = absurd (false≢true (sym e))
quiet_row t (Off x) e = absurd (false≢true (sym e))
quiet_row t (Resource x) e = absurd (false≢true (sym e))
quiet_row t (Member x) e = absurd (false≢true (sym e))
quiet_row t row e = record { sorts = λ r. refl; members = λ g m. refl; capacities = λ r m. refl }

-- nor do the row of a caller and the counters
pub quiet_caller : (t : Tables) (x : CallerRow) (revision last_booking : ℕ) → HaveSameRoom t (record (with_row t (Caller x)) { revision = revision; last_booking = last_booking })
unfolding capacity calendar_capacity
quiet_caller t x revision last_booking = record { sorts = λ r. refl; members = λ g m. refl; capacities = λ r m. refl }

-- bookings that fit do so with a row that does not bear on room
pub fits_with_quiet : (t : Tables) (row : AnyRow) (asks : List Ask) → bears_on_room (key_of row).table ≡ false → Fits t asks → Fits (with_row t row) asks
fits_with_quiet t row asks e f = Fits-same t (with_row t row) (quiet_row t row e) asks f
