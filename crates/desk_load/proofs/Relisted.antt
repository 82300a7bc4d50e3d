-- Lists of bookings by what they belong to, when one booking comes or goes.
use Rattle.std.proofs.Common.{◌≡◌, ℕ, zero, suc, ◌<◌, Bool, true, false, cond, ◌==◌, List, [], ◌∷◌, map, set, length, get_or, refl, sym, ap, ◌∙◌, subst, arith}
use Rattle.std.proofs.lemmas.Bool.Decides.{nat_tests}
use Rattle.std.specs.Prelude.{filter}
use Rattle.std.specs.Ordering.{nat_cmp}
use Rattle.std.specs.List.{AllByRecursion}
use Rattle.std.specs.List.Sorted.{IsStrictlySortedBy}
use Rattle.std.specs.declared.cmp.Ordering.TheVariants.{Less}
use Rattle.desk_base.specs.declared.rows.bookings.BookingRow.{BookingRow}
use Rattle.desk_base.specs.rows.Ranges.{owns}
use Rattle.desk_base.specs.changes.Changes.{with_one, without_one}
use Rattle.desk_base.proofs.lists.Members.{IsIn, all_at}
use Rattle.desk_load.specs.declared.lists.BookingList.{BookingList}
use Rattle.desk_load.specs.declared.changes.turns.Turn.{Turn}
use Rattle.desk_load.specs.declared.changes.turns.Turn.TheVariants.{Comes, Goes}
use Rattle.desk_load.specs.declared.weights.Weight.{Weight}
use Rattle.desk_load.specs.Parted.{IndexParts}
use Rattle.desk_load.specs.Changed.{IsOrdered}
use Rattle.desk_load.specs.Lists.{lists_of}
use Rattle.desk_load.specs.Turns.{listed, relisted}
use Rattle.desk_load.proofs.Numbers.{map_map, map_same}
use Rattle.desk_load.proofs.Reweighed.{in_place}
use Rattle.desk_load.proofs.OneBooking.{key, BookingsRise, filter_with, filter_without, filter_beside, stands}

same : (a b : ℕ) → a ≡ b → (a == b) ≡ true
same a b e = grind (arith, nat_tests)

equal : (a b : ℕ) → (a == b) ≡ true → a ≡ b
equal a b e = grind (arith, nat_tests)

flipped : (a b : ℕ) → (a == b) ≡ false → (b == a) ≡ false
flipped a b e = grind (arith, nat_tests)

above : (a b : ℕ) → nat_cmp a b ≡ Less → (b == a) ≡ false
above a b e = grind (arith, nat_tests)

below : (a b : ℕ) → nat_cmp a b ≡ Less → (a == b) ≡ false
below a b e = grind (arith, nat_tests)

-- ---- all lists

one_list : (turn : Turn) (f : BookingRow → ℕ) (b : BookingRow) (n : ℕ) (old new : List BookingRow) → (f b ≡ n → listed turn b (filter (owns f n) old) ≡ filter (owns f n) new) → ((f b == n) ≡ false → filter (owns f n) old ≡ filter (owns f n) new) → (c : Bool) → (n == f b) ≡ c
    → ◌≡◌ {A = BookingList} (cond c (record { number = n; bookings = listed turn b (filter (owns f n) old) }) (record { number = n; bookings = filter (owns f n) old })) (record { number = n; bookings = filter (owns f n) new })
one_list turn f b n old new own others true e = let h = own (sym (equal n (f b) e)) in ap (λ (l : List BookingRow). record { number = n; bookings = l }) h
one_list turn f b n old new own others false e = let h = others (flipped n (f b) e) in ap (λ (l : List BookingRow). record { number = n; bookings = l }) h

all_lists : (turn : Turn) (f : BookingRow → ℕ) (b : BookingRow) (numbers : List ℕ) (old new : List BookingRow) → ((n : ℕ) → f b ≡ n → listed turn b (filter (owns f n) old) ≡ filter (owns f n) new) → ((n : ℕ) → (f b == n) ≡ false → filter (owns f n) old ≡ filter (owns f n) new)
    → relisted turn (f b) b (lists_of f numbers old) ≡ lists_of f numbers new
all_lists turn f b numbers old new own others =
    map_map (λ (l : BookingList). cond (l.number == f b) (record l { bookings = listed turn b l.bookings }) l) (λ n. record { number = n; bookings = filter (owns f n) old }) numbers
    ∙ map_same (λ n. cond (n == f b) (record { number = n; bookings = listed turn b (filter (owns f n) old) }) (record { number = n; bookings = filter (owns f n) old })) (λ n. record { number = n; bookings = filter (owns f n) new }) numbers
    (λ n. one_list turn f b n old new (own n) (others n) (n == f b) refl)

pub came_lists : (f : BookingRow → ℕ) (b : BookingRow) (numbers : List ℕ) (bs : List BookingRow) → without_one key (key b) bs ≡ bs → relisted Comes (f b) b (lists_of f numbers bs) ≡ lists_of f numbers (with_one key b bs)
came_lists f b numbers bs none =
    all_lists Comes f b numbers bs (with_one key b bs) (λ n e. sym (filter_with (owns f n) b bs (same (f b) n e)))
    (λ n e. sym (filter_beside (owns f n) b bs e ∙ ap (filter (owns f n)) none))

pub went_lists : (f : BookingRow → ℕ) (b : BookingRow) (numbers : List ℕ) (bs : List BookingRow) → BookingsRise bs → IsIn b bs → relisted Goes (f b) b (lists_of f numbers bs) ≡ lists_of f numbers (without_one key (key b) bs)
went_lists f b numbers bs s i =
    all_lists Goes f b numbers bs (without_one key (key b) bs) (λ n e. sym (filter_without (owns f n) (key b) bs))
    (λ n e. sym (ap (filter (owns f n)) (stands b bs s i)) ∙ filter_beside (owns f n) b bs e)

-- ---- one list in the place of another

others_stay : (turn : Turn) (n : ℕ) (b : BookingRow) (xs : List BookingList) → AllByRecursion (λ k. nat_cmp n k ≡ Less) (map (λ (l : BookingList). l.number) xs) → xs ≡ relisted turn n b xs
others_stay turn n b [] h = refl
others_stay turn n b (x ∷ xs) h =
    let t = others_stay turn n b xs h.1 in
    ap (λ l. x ∷ l) t ∙ sym (ap (λ c. cond c (record x { bookings = listed turn b x.bookings }) x ∷ relisted turn n b xs) (above n x.number h.0))

pub set_relisted : (turn : Turn) (n : ℕ) (b : BookingRow) (xs : List BookingList) (at : ℕ) (d : BookingList) → IsStrictlySortedBy nat_cmp (map (λ (l : BookingList). l.number) xs) → at < length xs → (get_or xs at d).number ≡ n
    → set xs at (record { number = n; bookings = listed turn b (get_or xs at d).bookings }) ≡ relisted turn n b xs
unfolding IsStrictlySortedBy
set_relisted turn n b [] at d s l e = absurd (omega arith)
set_relisted turn n b (x ∷ xs) zero d s l e =
    let rest = others_stay turn n b xs (subst (λ k. AllByRecursion (λ j. nat_cmp k j ≡ Less) (map (λ (l : BookingList). l.number) xs)) e s.0) in
    (λ i. record { number = sym e i; bookings = listed turn b x.bookings } ∷ rest i)
    ∙ sym (ap (λ c. cond c (record x { bookings = listed turn b x.bookings }) x ∷ relisted turn n b xs) (same x.number n e))
set_relisted turn n b (x ∷ xs) (suc at) d s l e =
    let less : nat_cmp x.number n ≡ Less = subst (λ k. nat_cmp x.number k ≡ Less) e (all_at (λ k. nat_cmp x.number k ≡ Less) (map (λ (l : BookingList). l.number) xs) (get_or xs at d).number s.0 (in_place (λ (l : BookingList). l.number) xs at d (omega arith))) in
    ap (λ l. x ∷ l) (set_relisted turn n b xs at d s.1 (omega arith) e)
    ∙ sym (ap (λ c. cond c (record x { bookings = listed turn b x.bookings }) x ∷ relisted turn n b xs) (below x.number n less))

number_stays : (turn : Turn) (n : ℕ) (b : BookingRow) (x : BookingList) (c : Bool) → (cond c (record x { bookings = listed turn b x.bookings }) x).number ≡ x.number
number_stays turn n b x true = refl
number_stays turn n b x false = refl

pub relisted_numbers : (turn : Turn) (n : ℕ) (b : BookingRow) (xs : List BookingList) → map (λ (l : BookingList). l.number) (relisted turn n b xs) ≡ map (λ (l : BookingList). l.number) xs
relisted_numbers turn n b [] = refl
relisted_numbers turn n b (x ∷ xs) = let h = number_stays turn n b x (x.number == n) in let t = relisted_numbers turn n b xs in λ i. h i ∷ t i

-- a list that was put in the place of another
pub put_list : (turn : Turn) (b : BookingRow) (n number at : ℕ) (xs ys : List BookingList) (x : BookingList) (bookings : List BookingRow) → IsStrictlySortedBy nat_cmp (map (λ (l : BookingList). l.number) xs) → ys ≡ xs → at < length ys → (get_or ys at x).number ≡ number → number ≡ n → x ≡ get_or xs at x → bookings ≡ listed turn b x.bookings
    → set xs at (record { number = number; bookings = bookings }) ≡ relisted turn n b xs
put_list turn b n number at xs ys x bookings s ey l e en ex eb =
    let k = ap length ey in
    let eb2 = eb ∙ ap (λ (y : BookingList). listed turn b y.bookings) ex in
    (λ i. set xs at (record { number = en i; bookings = eb2 i }))
    ∙ set_relisted turn n b xs at x s (omega (arith, k, l)) (ap (λ (zs : List BookingList). (get_or zs at x).number) (sym ey) ∙ e ∙ en)

-- the order of an index in which a resource has another list
pub order_relisted : (turn : Turn) (n : ℕ) (b : BookingRow) (i j : IndexParts) → IsOrdered i → j.weights ≡ i.weights → j.standing ≡ relisted turn n b i.standing → j.booked ≡ i.booked → IsOrdered j
order_relisted turn n b i j o a e f = (
  subst (λ (l : List Weight). IsStrictlySortedBy nat_cmp (map (λ (x : Weight). x.resource) l)) (sym a) o.0,
  subst (IsStrictlySortedBy nat_cmp) (sym (ap (map (λ (x : BookingList). x.number)) e ∙ relisted_numbers turn n b i.standing)) o.1,
  subst (λ (l : List BookingList). IsStrictlySortedBy nat_cmp (map (λ (x : BookingList). x.number) l)) (sym f) o.2,
)
