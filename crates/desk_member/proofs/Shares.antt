-- A booking on a plain resource counts as it does on that resource and on its pools, and one on a crew as bookings on its members do.
use Rattle.std.proofs.Common.{◌≡◌, ◌≢◌, ℕ, ◌+◌, ◌≤◌, Bool, true, false, cond, ◌&&◌, ◌||◌, ◌==◌, max, min, List, refl, sym, ap, ◌∙◌, arith}
use Rattle.std.proofs.lemmas.Bool.{false≢true}
use Rattle.std.proofs.lemmas.Bool.Decides.{nat_tests}
use Rattle.std.specs.Prelude.{filter, sum_by}
use Rattle.std.specs.List.{list_any}
use Rattle.desk_base.specs.declared.rows.tables.Tables.{Tables}
use Rattle.desk_base.specs.declared.rows.resources.MemberRow.{MemberRow}
use Rattle.desk_base.specs.declared.search.results.Ask.{Ask}
use Rattle.desk_base.specs.meaning.Time.{covers}
use Rattle.desk_base.specs.meaning.Load.{LoadSort, plain, crew, pool, unknown, is_crew, sort_of, members, loads, own_load, plain_load, load, load_by}
use Rattle.desk_base.specs.rules.Sound.{AreWellFormed}
use Rattle.desk_base.proofs.lists.Members.{IsIn, in-filter}
use Rattle.desk_base.proofs.meaning.Pools.{members_plain}
use Rattle.desk_member.specs.declared.items.Item.{Item}
use Rattle.desk_member.specs.Memberships.{of_member}
use Rattle.desk_member.specs.Spans.{rows_of_group}
use Rattle.desk_member.specs.Pieces.{item_at}
use Rattle.desk_member.specs.Parts.{ask_of_item, part_in, is_pool, pool_share, crew_share}
use Rattle.desk_member.proofs.SumLemmas.{sum_zeros, sum_same, sum_filter, sum_map, sum_swap, sum_once}
use Rattle.desk_member.proofs.MemberRows.{member_plain, members_apart}

load_as : (k : LoadSort) (t : Tables) (r m : ℕ) (a : Ask) → sort_of t r ≡ k → load t r m a ≡ load_by k t r m a
unfolding load
load_as k t r m a e = ap (λ s. load_by s t r m a) e

pub own_is : (r m : ℕ) (i : Item) → own_load r m (ask_of_item i) ≡ item_at r m i
unfolding own_load
own_is r m i = by (i.resource == r) (covers i.from i.to m)
  where
    by : (a b : Bool) → cond a (cond b i.effort 0) 0 ≡ cond (a && b) i.effort 0
    by true b = refl
    by false b = refl

sorts_differ : (t : Tables) (a r : ℕ) → sort_of t a ≢ sort_of t r → (a == r) ≡ false
sorts_differ t a r h = by (a == r) refl
  where
    same : (a b : ℕ) → (a == b) ≡ true → a ≡ b
    same a b e = grind (arith, nat_tests)

    by : (b : Bool) → (a == r) ≡ b → b ≡ false
    by true e = absurd (h (ap (sort_of t) (same a r e)))
    by false e = refl

-- a piece of another resource takes nothing
elsewhere : (r m : ℕ) (i : Item) → (i.resource == r) ≡ false → item_at r m i ≡ 0
elsewhere r m i e = ap (λ b. cond (b && covers i.from i.to m) i.effort 0) e

pub covers-part : (a b c d m : ℕ) → covers (max a b) (min c d) m ≡ (covers b d m && covers a c m)
covers-part a b c d m = grind (arith, nat_tests)

-- a part takes what the piece does, where the membership covers the minute
part_at : (r m k : ℕ) (i : Item) (x : MemberRow) → item_at r m (part_in i x k) ≡ cond ((k == r) && covers x.from x.to m) (cond (covers i.from i.to m) i.effort 0) 0
part_at r m k i x = ap (λ b. cond ((k == r) && b) i.effort 0) (covers-part i.from x.from i.to x.to m) ∙ by (k == r) (covers x.from x.to m) (covers i.from i.to m)
  where
    by : (a b c : Bool) → cond (a && (b && c)) i.effort 0 ≡ cond (a && b) (cond c i.effort 0) 0
    by true true c = refl
    by true false c = refl
    by false b c = refl

-- ---- a piece on a plain resource

-- a resource of no pool has no share of a pool
no_share : (t : Tables) (i : Item) (r m : ℕ) (y : MemberRow) → is_pool (sort_of t r) ≡ false → pool_share t i r m y ≡ 0
no_share t i r m y h = by (is_pool (sort_of t y.group)) refl
  where
    by : (b : Bool) → is_pool (sort_of t y.group) ≡ b → cond b (item_at r m (part_in i y y.group)) 0 ≡ 0
    by true e = elsewhere r m (part_in i y y.group) (sorts_differ t y.group r (λ s. false≢true (sym h ∙ sym (ap is_pool s) ∙ e)))
    by false e = refl

no_shares : (t : Tables) (i : Item) (r m : ℕ) (rows : List MemberRow) → is_pool (sort_of t r) ≡ false → sum_by (pool_share t i r m) rows ≡ 0
no_shares t i r m rows h = sum_zeros (pool_share t i r m) rows (λ y j. no_share t i r m y h)

-- a booking on a plain resource loads no other plain resource
pub plain_load-plain : (t : Tables) (x m : ℕ) (i : Item) → sort_of t i.resource ≡ plain → plain_load t x m (ask_of_item i) ≡ item_at x m i
unfolding plain_load
plain_load-plain t x m i e =
    ap (λ s. cond ((i.resource == x) || (is_crew s && list_any (λ y. y == x) (members t i.resource m))) (cond (covers i.from i.to m) i.effort 0) 0) e ∙ by (i.resource == x) (covers i.from i.to m)
  where
    by : (a b : Bool) → cond (a || false) (cond b i.effort 0) 0 ≡ cond (a && b) i.effort 0
    by true b = refl
    by false b = refl

-- through one membership: what a pool has of its member, and what the member's piece takes
one_share : (t : Tables) (i : Item) (r m : ℕ) (y : MemberRow) → sort_of t r ≡ pool → cond ((y.group == r) && covers y.from y.to m) (item_at y.member m i) 0 ≡ cond (y.member == i.resource) (pool_share t i r m y) 0
one_share t i r m y p = by (y.group == r) refl ∙ sym (ap (λ n. cond (y.member == i.resource) (cond (is_pool (sort_of t y.group)) n 0) 0) (part_at r m y.group i y))
  where
    same : (a b : ℕ) → (a == b) ≡ true → a ≡ b
    same a b e = grind (arith, nat_tests)

    swapped : (a b : ℕ) → (a == b) ≡ (b == a)
    swapped a b = grind (arith, nat_tests)

    nothing : (a b : Bool) → ◌≡◌ {A = ℕ} 0 (cond a (cond b 0 0) 0)
    nothing true true = refl
    nothing true false = refl
    nothing false b = refl

    rest : (a b c : Bool) → cond b (cond (a && c) i.effort 0) 0 ≡ cond a (cond b (cond c i.effort 0) 0) 0
    rest true true c = refl
    rest true false c = refl
    rest false true c = refl
    rest false false c = refl

    by : (b : Bool) → (y.group == r) ≡ b → cond (b && covers y.from y.to m) (item_at y.member m i) 0 ≡ cond (y.member == i.resource) (cond (is_pool (sort_of t y.group)) (cond (b && covers y.from y.to m) (cond (covers i.from i.to m) i.effort 0) 0) 0) 0
    by true e =
        let s : is_pool (sort_of t y.group) ≡ true = ap is_pool (ap (sort_of t) (same y.group r e) ∙ p) in
        ap (λ b. cond (covers y.from y.to m) (cond (b && covers i.from i.to m) i.effort 0) 0) (swapped i.resource y.member)
        ∙ rest (y.member == i.resource) (covers y.from y.to m) (covers i.from i.to m)
        ∙ sym (ap (λ b. cond (y.member == i.resource) (cond b (cond (covers y.from y.to m) (cond (covers i.from i.to m) i.effort 0) 0) 0) 0) s)
    by false e = nothing (y.member == i.resource) (is_pool (sort_of t y.group))

sum_members : (t : Tables) (g m : ℕ) (f : ℕ → ℕ) → sum_by f (members t g m) ≡ sum_by (λ y. cond ((y.group == g) && covers y.from y.to m) (f y.member) 0) t.members
sum_members t g m f =
    sum_map f (λ (y : MemberRow). y.member) (filter (λ y. (y.group == g) && covers y.from y.to m) t.members)
    ∙ sum_filter (λ (y : MemberRow). f y.member) (λ y. (y.group == g) && covers y.from y.to m) t.members

-- a pool has of its members what the piece takes through its resource's memberships
pool_shares : (t : Tables) (i : Item) (r m : ℕ) → sort_of t r ≡ pool → sum_by (λ x. item_at x m i) (members t r m) ≡ sum_by (pool_share t i r m) (of_member i.resource t.members)
pool_shares t i r m p =
    sum_members t r m (λ x. item_at x m i)
    ∙ sum_same (λ (y : MemberRow). cond ((y.group == r) && covers y.from y.to m) (item_at y.member m i) 0) (λ y. cond (y.member == i.resource) (pool_share t i r m y) 0) t.members (λ y j. one_share t i r m y p)
    ∙ sym (sum_filter (pool_share t i r m) (λ (y : MemberRow). y.member == i.resource) t.members)

-- a booking on a plain resource counts on it and on its pools
pub plain_shares : (t : Tables) (i : Item) (r m : ℕ) → sort_of t i.resource ≡ plain → load t r m (ask_of_item i) ≡ item_at r m i + sum_by (pool_share t i r m) (of_member i.resource t.members)
plain_shares t i r m e = by (sort_of t r) refl
  where
    rows : List MemberRow
    rows = of_member i.resource t.members

    differ : (k : LoadSort) → sort_of t r ≡ k → plain ≢ k → item_at r m i ≡ 0
    differ k s h = elsewhere r m i (sorts_differ t i.resource r (λ q. h (sym e ∙ q ∙ s)))

    by : (k : LoadSort) → sort_of t r ≡ k → load t r m (ask_of_item i) ≡ item_at r m i + sum_by (pool_share t i r m) rows
    by plain s = let a = load_as plain t r m (ask_of_item i) s in let b = plain_load-plain t r m i e in let c = no_shares t i r m rows (ap is_pool s) in omega arith
    by crew s = let a = load_as crew t r m (ask_of_item i) s in let b = own_is r m i in let c = no_shares t i r m rows (ap is_pool s) in omega arith
    by pool s =
        let a = load_as pool t r m (ask_of_item i) s in let b = own_is r m i in
        let c = sum_same (λ x. plain_load t x m (ask_of_item i)) (λ x. item_at x m i) (members t r m) (λ x j. plain_load-plain t x m i e) in
        let d = pool_shares t i r m s in omega arith
    by unknown s = let a = load_as unknown t r m (ask_of_item i) s in let b = differ unknown s (λ q. cc) in let c = no_shares t i r m rows (ap is_pool s) in omega arith

-- ---- a piece on a pool

-- a booking on a pool counts on the pool alone
pub pool_alone : (t : Tables) (i : Item) (r m : ℕ) → AreWellFormed t → sort_of t i.resource ≡ pool → load t r m (ask_of_item i) ≡ item_at r m i
unfolding plain_load
pool_alone t i r m w e = by (sort_of t r) refl
  where
    differ : (x : ℕ) → sort_of t x ≢ pool → (i.resource == x) ≡ false
    differ x h = sorts_differ t i.resource x (λ q. h (sym q ∙ e))

    nothing : (x : ℕ) → sort_of t x ≢ pool → plain_load t x m (ask_of_item i) ≡ 0
    nothing x h =
        ap (λ s. cond ((i.resource == x) || (is_crew s && list_any (λ y. y == x) (members t i.resource m))) (cond (covers i.from i.to m) i.effort 0) 0) e
        ∙ ap (λ b. cond (b || false) (cond (covers i.from i.to m) i.effort 0) 0) (differ x h)

    by : (k : LoadSort) → sort_of t r ≡ k → load t r m (ask_of_item i) ≡ item_at r m i
    by plain s = let h : sort_of t r ≢ pool = λ q. absurd (let z = sym s ∙ q in cc) in load_as plain t r m (ask_of_item i) s ∙ nothing r h ∙ sym (elsewhere r m i (differ r h))
    by crew s = load_as crew t r m (ask_of_item i) s ∙ own_is r m i
    by pool s =
        let a = load_as pool t r m (ask_of_item i) s in let b = own_is r m i in
        let c = sum_zeros (λ x. plain_load t x m (ask_of_item i)) (members t r m) (λ x j. nothing x (λ q. absurd (let z = sym (members_plain t r m x w j) ∙ q in cc))) in omega arith
    by unknown s = let h : sort_of t r ≢ pool = λ q. absurd (let z = sym s ∙ q in cc) in load_as unknown t r m (ask_of_item i) s ∙ sym (elsewhere r m i (differ r h))

-- ---- a piece on a crew

module _ (t : Tables) (i : Item) (m : ℕ) (w : AreWellFormed t) (c : sort_of t i.resource ≡ crew) where
  abbrev rows : List MemberRow
  rows = rows_of_group t i.resource

  here : (z : MemberRow) → IsIn z rows → sort_of t z.member ≡ plain
  here z j = member_plain t z w (in-filter (λ (x : MemberRow). x.group == i.resource) z t.members j).0

  -- what a member has of the crew's booking
  crew_plain : (x : ℕ) → sort_of t x ≡ plain → plain_load t x m (ask_of_item i) ≡ sum_by (λ z. plain_load t x m (ask_of_item (part_in i z z.member))) rows
  unfolding plain_load
  crew_plain x p =
      whole
      ∙ sym (sum_once x effort (members t i.resource m) (members_apart t i.resource m w c))
      ∙ sum_members t i.resource m (λ n. cond (n == x) effort 0)
      ∙ sum_same (λ (z : MemberRow). cond ((z.group == i.resource) && covers z.from z.to m) (cond (z.member == x) effort 0) 0) (λ z. cond (z.group == i.resource) (item_at x m (part_in i z z.member)) 0) t.members (λ z j. swapped z)
      ∙ sym (sum_filter (λ (z : MemberRow). item_at x m (part_in i z z.member)) (λ z. z.group == i.resource) t.members)
      ∙ sym (sum_same (λ (z : MemberRow). plain_load t x m (ask_of_item (part_in i z z.member))) (λ z. item_at x m (part_in i z z.member)) rows (λ z j. plain_load-plain t x m (part_in i z z.member) (here z j)))
    where
      effort : ℕ
      effort = cond (covers i.from i.to m) i.effort 0

      whole : plain_load t x m (ask_of_item i) ≡ cond (list_any (λ y. y == x) (members t i.resource m)) (cond (covers i.from i.to m) i.effort 0) 0
      whole =
          ap (λ s. cond ((i.resource == x) || (is_crew s && list_any (λ y. y == x) (members t i.resource m))) (cond (covers i.from i.to m) i.effort 0) 0) c
          ∙ ap (λ b. cond (b || list_any (λ y. y == x) (members t i.resource m)) (cond (covers i.from i.to m) i.effort 0) 0) (sorts_differ t i.resource x (λ q. absurd (let z = sym c ∙ q ∙ p in cc)))

      swapped : (z : MemberRow) → cond ((z.group == i.resource) && covers z.from z.to m) (cond (z.member == x) (cond (covers i.from i.to m) i.effort 0) 0) 0 ≡ cond (z.group == i.resource) (item_at x m (part_in i z z.member)) 0
      swapped z = four (z.group == i.resource) (covers z.from z.to m) (z.member == x) (cond (covers i.from i.to m) i.effort 0) ∙ sym (ap (λ n. cond (z.group == i.resource) n 0) (part_at x m z.member i z))
        where
          four : (a b c : Bool) (n : ℕ) → cond (a && b) (cond c n 0) 0 ≡ cond a (cond (c && b) n 0) 0
          four true true true n = refl
          four true true false n = refl
          four true false true n = refl
          four true false false n = refl
          four false b c n = refl

  pub crew_shares : (r : ℕ) → load t r m (ask_of_item i) ≡ item_at r m i + sum_by (crew_share t i r m) rows
  crew_shares r = by (sort_of t r) refl
    where
      a : Ask
      a = ask_of_item i

      not_here : (k : LoadSort) → sort_of t r ≡ k → crew ≢ k → item_at r m i ≡ 0
      not_here k s h = elsewhere r m i (sorts_differ t i.resource r (λ q. h (sym c ∙ q ∙ s)))

      not_own : (k : LoadSort) → sort_of t r ≡ k → plain ≢ k → (z : MemberRow) → IsIn z rows → own_load r m (ask_of_item (part_in i z z.member)) ≡ 0
      not_own k s h z j = own_is r m (part_in i z z.member) ∙ elsewhere r m (part_in i z z.member) (sorts_differ t z.member r (λ q. h (sym (here z j) ∙ q ∙ s)))

      by : (k : LoadSort) → sort_of t r ≡ k → load t r m (ask_of_item i) ≡ item_at r m i + sum_by (crew_share t i r m) rows
      by plain s =
          let e = load_as plain t r m (ask_of_item i) s in let f = crew_plain r s in let g = not_here plain s (λ q. cc) in
          let h = sum_same (crew_share t i r m) (λ z. plain_load t r m (ask_of_item (part_in i z z.member))) rows (λ z j. load_as plain t r m (ask_of_item (part_in i z z.member)) s) in omega arith
      by crew s =
          let e = load_as crew t r m (ask_of_item i) s in let f = own_is r m i in
          let h = sum_zeros (crew_share t i r m) rows (λ z j. load_as crew t r m (ask_of_item (part_in i z z.member)) s ∙ not_own crew s (λ q. cc) z j) in omega arith
      by pool s =
          let e = load_as pool t r m (ask_of_item i) s in let f = own_is r m i in
          let g = sum_same (λ x. plain_load t x m (ask_of_item i)) (λ x. sum_by (λ z. plain_load t x m (ask_of_item (part_in i z z.member))) rows) (members t r m) (λ x j. crew_plain x (members_plain t r m x w j)) in
          let k = sum_swap (λ x z. plain_load t x m (ask_of_item (part_in i z z.member))) (members t r m) rows in
          let h = sum_same (crew_share t i r m) (λ z. sum_by (λ x. plain_load t x m (ask_of_item (part_in i z z.member))) (members t r m)) rows
          (λ z j. let u = load_as pool t r m (ask_of_item (part_in i z z.member)) s in let v = not_own pool s (λ q. cc) z j in omega arith) in omega arith
      by unknown s =
          let e = load_as unknown t r m (ask_of_item i) s in let g = not_here unknown s (λ q. cc) in
          let h = sum_zeros (crew_share t i r m) rows (λ z j. load_as unknown t r m (ask_of_item (part_in i z z.member)) s) in omega arith

-- a booking without a minute takes nothing
pub nothing_taken : (t : Tables) (r m : ℕ) (i : Item) → i.to ≤ i.from → load t r m (ask_of_item i) ≡ 0
unfolding plain_load own_load
nothing_taken t r m i h = by (sort_of t r) refl
  where
    empty : covers i.from i.to m ≡ false
    empty = grind (arith, nat_tests)

    zero_both : (b : Bool) → ◌≡◌ {A = ℕ} (cond b (cond (covers i.from i.to m) i.effort 0) 0) 0
    zero_both true = ap (λ b. cond b i.effort 0) empty
    zero_both false = refl

    by : (k : LoadSort) → sort_of t r ≡ k → load t r m (ask_of_item i) ≡ 0
    by plain s = load_as plain t r m (ask_of_item i) s ∙ zero_both (loads t i.resource r m)
    by crew s = load_as crew t r m (ask_of_item i) s ∙ zero_both (i.resource == r)
    by pool s =
        let a = load_as pool t r m (ask_of_item i) s in let b = zero_both (i.resource == r) in
        let c = sum_zeros (λ x. plain_load t x m (ask_of_item i)) (members t r m) (λ x j. zero_both (loads t i.resource x m)) in omega arith
    by unknown s = load_as unknown t r m (ask_of_item i) s

-- a piece without a minute takes nothing
pub empty_item : (r m : ℕ) (i : Item) → i.to ≤ i.from → item_at r m i ≡ 0
empty_item r m i h = by (i.resource == r) empty
  where
    empty : covers i.from i.to m ≡ false
    empty = grind (arith, nat_tests)

    by : (b : Bool) → covers i.from i.to m ≡ false → ◌≡◌ {A = ℕ} (cond (b && covers i.from i.to m) i.effort 0) 0
    by true e = ap (λ b. cond b i.effort 0) e
    by false e = refl
