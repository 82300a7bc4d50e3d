-- What a booking takes of resources, minute by minute and through memberships.
use Rattle.std.proofs.Common.{◌≡◌, ℕ, ◌+◌, Bool, true, false, cond, not, ◌&&◌, ◌||◌, ◌==◌, List, [], ◌∷◌, map, Some, None, refl, sym, ap, ◌∙◌, arith}
use Rattle.std.proofs.lemmas.Bool.Decides.{nat_tests}
use Rattle.std.specs.Prelude.{filter, sum_by}
use Rattle.std.specs.List.{list_any}
use Rattle.desk_base.specs.declared.rows.tables.Tables.{Tables}
use Rattle.desk_base.specs.declared.rows.resources.MemberRow.{MemberRow}
use Rattle.desk_base.specs.declared.search.results.Ask.{Ask}
use Rattle.desk_base.specs.meaning.Time.{covers}
use Rattle.desk_base.specs.meaning.Capacity.{capacity}
use Rattle.desk_base.specs.meaning.Load.{LoadSort, plain, crew, pool, unknown, sort_of, members, loads, own_load, plain_load, load, load_by, room, room_by, room_of_crew}
use Rattle.desk_member.specs.Memberships.{of_member}
use Rattle.desk_member.specs.Spans.{rows_of_group}
use Rattle.desk_member.proofs.SumLemmas.{sum_filter, sum_map, sum_zeros, sum_same}
use Rattle.desk_load.specs.declared.view.demand.Demand.{Demand}
use Rattle.desk_load.specs.Views.{demand_at, demand_of}
use Rattle.desk_load.specs.Uses.{share_through, capacity_through}

pub not_true : (b : Bool) → not b ≡ true → b ≡ false
not_true true e = sym e
not_true false e = refl

pub not_false : (b : Bool) → not b ≡ false → b ≡ true
not_false true e = refl
not_false false e = sym e

-- ---- who is a member

-- a membership of the crew or the pool that covers the minute
abbrev pub joins : ℕ → ℕ → MemberRow → Bool
joins g k x = (x.group == g) && covers x.from x.to k

pub member_by_rows : (t : Tables) (g r k : ℕ) → list_any (λ x. x == r) (members t g k) ≡ list_any (joins g k) (of_member r t.members)
member_by_rows t g r k = by t.members
  where
    by : (xs : List MemberRow) → list_any (λ x. x == r) (map (λ (x : MemberRow). x.member) (filter (joins g k) xs)) ≡ list_any (joins g k) (of_member r xs)
    by [] = refl
    by (x ∷ xs) = step (joins g k x) (x.member == r) refl refl (by xs)
      where
        step : (a b : Bool) → joins g k x ≡ a → (x.member == r) ≡ b → list_any (λ x. x == r) (map (λ (x : MemberRow). x.member) (filter (joins g k) xs)) ≡ list_any (joins g k) (of_member r xs)
            → list_any (λ x. x == r) (map (λ (x : MemberRow). x.member) (cond a (x ∷ filter (joins g k) xs) (filter (joins g k) xs))) ≡ list_any (joins g k) (cond b (x ∷ of_member r xs) (of_member r xs))
        step true true e f h = ap (λ b. b || list_any (λ x. x == r) (map (λ (x : MemberRow). x.member) (filter (joins g k) xs))) f ∙ sym (ap (λ b. b || list_any (joins g k) (of_member r xs)) e)
        step true false e f h = ap (λ b. b || list_any (λ x. x == r) (map (λ (x : MemberRow). x.member) (filter (joins g k) xs))) f ∙ h
        step false true e f h = h ∙ sym (ap (λ b. b || list_any (joins g k) (of_member r xs)) e)
        step false false e f h = h

-- ---- through memberships

pub sum_of_members : (t : Tables) (g k : ℕ) (f : ℕ → ℕ) → sum_by f (members t g k) ≡ sum_by (λ (x : MemberRow). cond (covers x.from x.to k) (f x.member) 0) (rows_of_group t g)
sum_of_members t g k f =
    sum_map f (λ (x : MemberRow). x.member) (filter (joins g k) t.members)
    ∙ sum_filter (λ (x : MemberRow). f x.member) (joins g k) t.members
    ∙ sum_same (λ (x : MemberRow). cond (joins g k x) (f x.member) 0) (λ x. cond (x.group == g) (cond (covers x.from x.to k) (f x.member) 0) 0) t.members (λ x i. two (x.group == g) (covers x.from x.to k) (f x.member))
    ∙ sym (sum_filter (λ (x : MemberRow). cond (covers x.from x.to k) (f x.member) 0) (λ x. x.group == g) t.members)
  where
    two : (a b : Bool) (n : ℕ) → cond (a && b) n 0 ≡ cond a (cond b n 0) 0
    two true b n = refl
    two false b n = refl

pub use_of_members : (t : Tables) (g k : ℕ) (d : Demand) → sum_by (λ x. plain_load t x k (demand_at d k)) (members t g k) ≡ sum_by (λ (x : MemberRow). share_through t d x k) (rows_of_group t g)
use_of_members t g k d = sum_of_members t g k (λ x. plain_load t x k (demand_at d k))

pub capacity_of_members : (t : Tables) (g k : ℕ) → sum_by (λ x. capacity t x k) (members t g k) ≡ sum_by (λ (x : MemberRow). capacity_through t x k) (rows_of_group t g)
capacity_of_members t g k = sum_of_members t g k (λ x. capacity t x k)

-- ---- an ask and its demand

module _ (d : Demand) (k : ℕ) where
  covers_itself : covers k (k + 1) k ≡ true
  covers_itself = grind (arith, nat_tests)

  pub own_is : (r : ℕ) → own_load r k (demand_at d k) ≡ cond (d.resource == r) d.effort 0
  unfolding own_load
  own_is r = ap (λ b. cond (d.resource == r) (cond b d.effort 0) 0) covers_itself

  pub plain_is : (t : Tables) (r : ℕ) → plain_load t r k (demand_at d k) ≡ cond (loads t d.resource r k) d.effort 0
  unfolding plain_load
  plain_is t r = ap (λ b. cond (loads t d.resource r k) (cond b d.effort 0) 0) covers_itself

pub load_as : (s : LoadSort) (t : Tables) (r k : ℕ) (a : Ask) → sort_of t r ≡ s → load t r k a ≡ load_by s t r k a
unfolding load
load_as s t r k a e = ap (λ s. load_by s t r k a) e

-- at the minutes that an ask covers it takes what its demand does
module _ (t : Tables) (a : Ask) (k : ℕ) where
  own_covered : (r : ℕ) → covers a.window.from a.window.to k ≡ true → own_load r k a ≡ own_load r k (demand_at (demand_of a) k)
  unfolding own_load
  own_covered r e = ap (λ b. cond (a.resource == r) (cond b a.effort 0) 0) (e ∙ sym (covers_itself (demand_of a) k))

  plain_covered : (r : ℕ) → covers a.window.from a.window.to k ≡ true → plain_load t r k a ≡ plain_load t r k (demand_at (demand_of a) k)
  unfolding plain_load
  plain_covered r e = ap (λ b. cond (loads t a.resource r k) (cond b a.effort 0) 0) (e ∙ sym (covers_itself (demand_of a) k))

  pub load_covered : (r : ℕ) → covers a.window.from a.window.to k ≡ true → load t r k a ≡ load t r k (demand_at (demand_of a) k)
  load_covered r e = by (sort_of t r) refl
    where
      by : (s : LoadSort) → sort_of t r ≡ s → load t r k a ≡ load t r k (demand_at (demand_of a) k)
      by plain s = load_as plain t r k a s ∙ plain_covered r e ∙ sym (load_as plain t r k (demand_at (demand_of a) k) s)
      by crew s = load_as crew t r k a s ∙ own_covered r e ∙ sym (load_as crew t r k (demand_at (demand_of a) k) s)
      by pool s =
          let x = load_as pool t r k a s in
          let y = load_as pool t r k (demand_at (demand_of a) k) s in
          let o = own_covered r e in
          let p = sum_same (λ x. plain_load t x k a) (λ x. plain_load t x k (demand_at (demand_of a) k)) (members t r k) (λ x i. plain_covered x e) in
          omega (arith, x, y, o, p)
      by unknown s = load_as unknown t r k a s ∙ sym (load_as unknown t r k (demand_at (demand_of a) k) s)

  own_missed : (r : ℕ) → covers a.window.from a.window.to k ≡ false → own_load r k a ≡ 0
  unfolding own_load
  own_missed r e = ap (λ b. cond (a.resource == r) (cond b a.effort 0) 0) e ∙ nothing (a.resource == r)
    where
      nothing : (b : Bool) → ◌≡◌ {A = ℕ} (cond b 0 0) 0
      nothing true = refl
      nothing false = refl

  plain_missed : (r : ℕ) → covers a.window.from a.window.to k ≡ false → plain_load t r k a ≡ 0
  unfolding plain_load
  plain_missed r e = ap (λ b. cond (loads t a.resource r k) (cond b a.effort 0) 0) e ∙ nothing (loads t a.resource r k)
    where
      nothing : (b : Bool) → ◌≡◌ {A = ℕ} (cond b 0 0) 0
      nothing true = refl
      nothing false = refl

  pub load_missed : (r : ℕ) → covers a.window.from a.window.to k ≡ false → load t r k a ≡ 0
  load_missed r e = by (sort_of t r) refl
    where
      by : (s : LoadSort) → sort_of t r ≡ s → load t r k a ≡ 0
      by plain s = load_as plain t r k a s ∙ plain_missed r e
      by crew s = load_as crew t r k a s ∙ own_missed r e
      by pool s =
          let x = load_as pool t r k a s in
          let o = own_missed r e in
          let p = sum_zeros (λ x. plain_load t x k a) (members t r k) (λ x i. plain_missed x e) in
          omega (arith, x, o, p)
      by unknown s = load_as unknown t r k a s

-- ---- the room of a crew

crew_rows : (g k : ℕ) (xs : List MemberRow) → room_of_crew (map (λ (x : MemberRow). x.member) (filter (joins g k) xs)) ≡ cond (list_any (λ (x : MemberRow). covers x.from x.to k) (filter (λ (x : MemberRow). x.group == g) xs)) None (Some 0)
crew_rows g k [] = refl
crew_rows g k (x ∷ xs) = step (x.group == g) (covers x.from x.to k) refl refl (crew_rows g k xs)
  where
    rest : List MemberRow
    rest = filter (λ (x : MemberRow). x.group == g) xs

    step : (a b : Bool) → (x.group == g) ≡ a → covers x.from x.to k ≡ b → room_of_crew (map (λ (x : MemberRow). x.member) (filter (joins g k) xs)) ≡ cond (list_any (λ (x : MemberRow). covers x.from x.to k) rest) None (Some 0)
        → room_of_crew (map (λ (x : MemberRow). x.member) (cond (a && b) (x ∷ filter (joins g k) xs) (filter (joins g k) xs))) ≡ cond (list_any (λ (x : MemberRow). covers x.from x.to k) (cond a (x ∷ rest) rest)) None (Some 0)
    step true true e f h = sym (ap (λ b. cond (b || list_any (λ (x : MemberRow). covers x.from x.to k) rest) None (Some 0)) f)
    step true false e f h = h ∙ sym (ap (λ b. cond (b || list_any (λ (x : MemberRow). covers x.from x.to k) rest) None (Some 0)) f)
    step false b e f h = h

pub crew_room_by_rows : (t : Tables) (g k : ℕ) → room_of_crew (members t g k) ≡ cond (list_any (λ (x : MemberRow). covers x.from x.to k) (rows_of_group t g)) None (Some 0)
crew_room_by_rows t g k = crew_rows g k t.members

pub room_as : (s : LoadSort) (t : Tables) (r k : ℕ) → sort_of t r ≡ s → room t r k ≡ room_by s t r k
unfolding room
room_as s t r k e = ap (λ s. room_by s t r k) e
