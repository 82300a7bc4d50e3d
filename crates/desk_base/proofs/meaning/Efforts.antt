-- Light bookings: what they weigh, and which bookings are light.
use Rattle.std.proofs.Common.{◌≡◌, ℕ, suc, ◌+◌, ◌*◌, ◌≤◌, Bool, true, false, cond, ◌&&◌, ◌==◌, nat_le, List, [], ◌∷◌, map, filter, length, Option, refl, ap, is_none, arith}
use Rattle.std.proofs.lemmas.List.{length-map}
use Rattle.std.proofs.lemmas.List.Sums.{length-filter, count_by-le-length, sum_by-cons}
use Rattle.std.proofs.lemmas.Bool.Decides.{nat_tests}
use Rattle.std.specs.Prelude.{Contains, sum_by}
use Rattle.std.specs.List.{list_all}
use Rattle.desk_base.specs.rows.Types.{Tables, BookingRow, GroupRow, Ask, MemberRow}
use Rattle.desk_base.specs.declared.rows.tables.AnyRow.TheVariants.{Booking}
use Rattle.desk_base.specs.rules.Limits.{effort_limit}
use Rattle.desk_base.specs.rules.Rules.{first_broken}
use Rattle.desk_base.specs.meaning.Time.{covers}
use Rattle.desk_base.specs.rows.Rows.{key_of}
use Rattle.desk_base.specs.rules.Fields.{booking_rules}
use Rattle.desk_base.specs.meaning.Load.{LoadSort, plain, crew, pool, unknown, sort_of, members, loads, effort_at, own_load, plain_load, load, load_by, weight, ask_of}
use Rattle.desk_base.specs.meaning.Efforts.{is_light, AreLight, AreLightBookings}
use Rattle.desk_base.specs.meaning.Picks.{choices_of}
use Rattle.desk_base.specs.search.Listing.{ask_for, asks_for}
use Rattle.desk_base.specs.rules.Sound.{AreWellFormed}
use Rattle.desk_base.proofs.lists.Members.{IsIn, in-map, in_mapped, contains_from_in}
use Rattle.desk_base.proofs.lists.Tests.{and_left, and_right, and_both, list_all_from}
use Rattle.desk_base.proofs.meaning.Shapes.{rules_kept, none_from}
use Rattle.desk_base.proofs.booked.NewBookings.{choice_from, leaf_light}

-- ---- what one booking takes

at_most : (b : Bool) (e n : ℕ) → e ≤ n → cond b e 0 ≤ n
at_most true e n h = h
at_most false e n h = omega arith

effort_light : (a : Ask) (m n : ℕ) → a.effort ≤ n → effort_at m a ≤ n
effort_light a m n h = at_most (covers a.window.from a.window.to m) a.effort n h

own_light : (a : Ask) (r m n : ℕ) → a.effort ≤ n → own_load r m a ≤ n
unfolding own_load
own_light a r m n h = at_most (a.resource == r) (effort_at m a) n (effort_light a m n h)

plain_light : (t : Tables) (a : Ask) (r m n : ℕ) → a.effort ≤ n → plain_load t r m a ≤ n
unfolding plain_load
plain_light t a r m n h = at_most (loads t a.resource r m) (effort_at m a) n (effort_light a m n h)

plain_sum : (t : Tables) (a : Ask) (m n : ℕ) (xs : List ℕ) → a.effort ≤ n → sum_by (λ x. plain_load t x m a) xs ≤ length xs * n
plain_sum t a m n [] h = omega arith
plain_sum t a m n (x ∷ xs) h =
    let p = plain_light t a x m n h in
    let r = plain_sum t a m n xs h in
    let e = sum_by-cons (λ x. plain_load t x m a) x xs in
    grind (arith, p, r, e)

few_members : (t : Tables) (r m : ℕ) → length (members t r m) ≤ length t.members
few_members t r m =
    let a = length-map (filter (λ (x : MemberRow). (x.group == r) && covers x.from x.to m) t.members) (λ (x : MemberRow). x.member) in
    let b : length (filter (λ (x : MemberRow). (x.group == r) && covers x.from x.to m) t.members) ≤ length t.members = rw length-filter (count_by-le-length (λ (x : MemberRow). (x.group == r) && covers x.from x.to m) t.members) in
    omega (arith, a, b)

more_times : (j k n : ℕ) → j ≤ k → j * n ≤ k * n
more_times j k n h = grind (arith)

by_sort : (s : LoadSort) (t : Tables) (a : Ask) (r m n : ℕ) → a.effort ≤ n → load_by s t r m a ≤ (length t.members + 1) * n
by_sort plain t a r m n h = let p = plain_light t a r m n h in let k = more_times 1 (length t.members + 1) n (omega arith) in omega (arith, p, k)
by_sort crew t a r m n h = let p = own_light a r m n h in let k = more_times 1 (length t.members + 1) n (omega arith) in omega (arith, p, k)
by_sort pool t a r m n h =
    let p = own_light a r m n h in
    let q = plain_sum t a m n (members t r m) h in
    let k = more_times (length (members t r m)) (length t.members) n (few_members t r m) in
    let d : (length t.members + 1) * n ≡ length t.members * n + n = grind (arith) in
    omega (arith, p, q, k, d)
by_sort unknown t a r m n h = omega arith

load_light : (t : Tables) (a : Ask) (r m n : ℕ) → a.effort ≤ n → load t r m a ≤ (length t.members + 1) * n
unfolding load
load_light t a r m n h = by_sort (sort_of t r) t a r m n h

is_within : (m n : ℕ) → nat_le m n ≡ true → m ≤ n
is_within m n h = grind (arith, nat_tests)

within_is : (m n : ℕ) → m ≤ n → nat_le m n ≡ true
within_is m n h = grind (arith, nat_tests)

-- light bookings weigh no more than their number, the memberships and one, and the greatest effort together allow
pub weight_light : (t : Tables) (asks : List Ask) (r m : ℕ) → AreLight asks → weight t asks r m ≤ length asks * ((length t.members + 1) * effort_limit)
weight_light t [] r m h = omega arith
weight_light t (a ∷ asks) r m h =
    let p = load_light t a r m effort_limit (is_within a.effort effort_limit (and_left (is_light a) (list_all is_light asks) h)) in
    let q = weight_light t asks r m (and_right (is_light a) (list_all is_light asks) h) in
    let e = sum_by-cons (load t r m) a asks in
    let d : suc (length asks) * ((length t.members + 1) * effort_limit) ≡ (length t.members + 1) * effort_limit + length asks * ((length t.members + 1) * effort_limit) = grind (arith) in
    omega (arith, p, q, e, d)

-- ---- which bookings are light

-- bookings ask for what they are
pub light_uses : (bs : List BookingRow) → AreLightBookings bs → AreLight (map ask_of bs)
light_uses [] h = refl
light_uses (b ∷ bs) h = and_both (is_light (ask_of b)) (list_all is_light (map ask_of bs)) (and_left (is_light (ask_of b)) _ h) (light_uses bs (and_right (is_light (ask_of b)) _ h))

booking_light : (t : Tables) (b : BookingRow) → AreWellFormed t → IsIn b t.bookings → is_light (ask_of b) ≡ true
booking_light t b w i =
    let kept = w.field (key_of (Booking b)) (Booking b) (contains_from_in (map Booking t.bookings) (Booking b) (in_mapped Booking b t.bookings i)) refl in
    let rules = rules_kept (booking_rules b) (none_from (first_broken (booking_rules b)) (and_left (is_none (first_broken (booking_rules b))) true kept)) in
    and_right (nat_le 1 b.effort) (nat_le b.effort effort_limit) rules.1.0

-- those that stand in well-formed tables
pub some_light : (t : Tables) (bs : List BookingRow) → AreWellFormed t → ((b : BookingRow) → IsIn b bs → IsIn b t.bookings) → AreLightBookings bs
some_light t bs w h = list_all_from (λ (b : BookingRow). is_light (ask_of b)) bs (λ b i. booking_light t b w (h b i))

-- those of a group's picks
pub asks_light : (t : Tables) (g : GroupRow) (s : ℕ) (picks : List (Option ℕ)) → AreWellFormed t → Contains t.groups g → AreLight (asks_for g s picks)
asks_light t g s picks w c = list_all_from is_light (asks_for g s picks) (λ a i.
    let x = in-map (ask_for s) a (choices_of 0 g.leaves picks) i in
    let l = leaf_light t g w c x.0.leaf (choice_from 0 g.leaves picks x.0 x.1).0 in
    let e = ap (λ (y : Ask). y.effort) x.2 in within_is a.effort effort_limit (omega (arith, l, e)))
