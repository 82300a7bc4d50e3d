-- Lists of bookings by what they belong to.
use Rattle.std.proofs.Common.{◌≡◌, ℕ, Bool, true, false, cond, ◌==◌, List, [], ◌∷◌, map, refl, sym, ap, ◌∙◌, subst}
use Rattle.std.specs.Prelude.{filter}
use Rattle.std.specs.Ordering.{nat_cmp}
use Rattle.std.specs.List.{AllByRecursion}
use Rattle.std.specs.List.Sorted.{IsStrictlySortedBy}
use Rattle.desk_base.specs.declared.rows.bookings.BookingRow.{BookingRow}
use Rattle.desk_base.specs.rows.Ranges.{Rise, IsUnder, owns}
use Rattle.desk_load.specs.declared.lists.BookingList.{BookingList}
use Rattle.desk_load.specs.declared.lists.Owned.{Owned}
use Rattle.desk_load.specs.Lists.{owned, owned_bookings, lists_of}
use Rattle.desk_load.proofs.Numbers.{map_map, map_same, map_itself}

owned_filter : (f : BookingRow → ℕ) (n : ℕ) (bs : List BookingRow) → map (λ (o : Owned). o.booking) (filter (owns (λ (o : Owned). o.owner) n) (map (owned f) bs)) ≡ filter (owns f n) bs
owned_filter f n [] = refl
owned_filter f n (b ∷ bs) = step (f b == n) (owned_filter f n bs)
  where
    step : (c : Bool) → map (λ (o : Owned). o.booking) (filter (owns (λ (o : Owned). o.owner) n) (map (owned f) bs)) ≡ filter (owns f n) bs → map (λ (o : Owned). o.booking) (cond c (owned f b ∷ filter (owns (λ (o : Owned). o.owner) n) (map (owned f) bs)) (filter (owns (λ (o : Owned). o.owner) n) (map (owned f) bs))) ≡ cond c (b ∷ filter (owns f n) bs) (filter (owns f n) bs)
    step true h = ap (λ l. b ∷ l) h
    step false h = h

pub lists_are : (f : BookingRow → ℕ) (numbers : List ℕ) (bs : List BookingRow) → map (owned_bookings (map (owned f) bs)) numbers ≡ lists_of f numbers bs
lists_are f numbers bs = map_same (owned_bookings (map (owned f) bs)) (λ n. record { number = n; bookings = filter (owns f n) bs }) numbers (λ n. ap (λ l. record { number = n; bookings = l }) (owned_filter f n bs))

pub lists_climb : (f : BookingRow → ℕ) (numbers : List ℕ) (bs : List BookingRow) → IsStrictlySortedBy nat_cmp numbers → IsStrictlySortedBy nat_cmp (map (λ (l : BookingList). l.number) (lists_of f numbers bs))
lists_climb f numbers bs s = subst (IsStrictlySortedBy nat_cmp) (sym (map_map (λ (l : BookingList). l.number) (λ n. record { number = n; bookings = filter (owns f n) bs }) numbers ∙ map_itself numbers)) s

-- ---- rows that rise

all_mapped : {A B : Type 0} (f : A → B) (P : B → Type 0) (xs : List A) → AllByRecursion (λ x. P (f x)) xs → AllByRecursion P (map f xs)
all_mapped f P [] h = tt
all_mapped f P (x ∷ xs) h = (h.0, all_mapped f P xs h.1)

pub rise_map : {A B : Type 0} (f : A → B) (n : B → ℕ) (xs : List A) → Rise (λ x. n (f x)) (λ _. 0) xs → Rise n (λ _. 0) (map f xs)
unfolding Rise
rise_map f n [] h = tt
rise_map f n (x ∷ xs) h = (all_mapped f (IsUnder n (λ _. 0) (f x)) xs h.0, rise_map f n xs h.1)
