-- Bookings with one more and without one, and those of them that pass a test.
use Rattle.std.proofs.Common.{◌≡◌, ◌≢◌, ℕ, Bool, true, false, cond, nat_lt, List, [], ◌∷◌, ◌++◌, inl, inr, refl, sym, ap, ◌∙◌, subst, arith, append_assoc}
use Rattle.std.proofs.lemmas.Bool.Decides.{nat_tests}
use Rattle.std.proofs.lemmas.List.{append-nil}
use Rattle.std.proofs.lemmas.List.Elements.{filter-append}
use Rattle.std.specs.Prelude.{filter}
use Rattle.std.specs.Ordering.{is_lt, nat_cmp, ordering_then}
use Rattle.std.specs.List.Sorted.{IsStrictlySortedBy}
use Rattle.std.specs.declared.cmp.Ordering.{Ordering}
use Rattle.std.specs.declared.cmp.Ordering.TheVariants.{Less, Equal, Greater}
use Rattle.desk_base.specs.declared.rows.tables.Key.{Key}
use Rattle.desk_base.specs.declared.rows.tables.AnyRow.TheVariants.{Booking}
use Rattle.desk_base.specs.declared.rows.tables.Table.TheVariants.{Booking as BookingTable}
use Rattle.desk_base.specs.declared.rows.bookings.BookingRow.{BookingRow}
use Rattle.desk_base.specs.rows.Keys.{key_cmp, id_key}
use Rattle.desk_base.specs.rows.Rows.{key_of}
use Rattle.desk_base.specs.rows.Lookups.{keys_by}
use Rattle.desk_base.specs.changes.Changes.{is_below, rows_below, rows_above, with_one, without_one}
use Rattle.desk_base.proofs.lists.Members.{IsIn, in-append, in_left, in_right, in-filter, in_filtered}
use Rattle.desk_base.proofs.lists.Filtered.{all_pass, none_pass}
use Rattle.desk_base.proofs.tables.Sounds.{key_total}
use Rattle.desk_base.proofs.tables.WithOne.{is_less, key_cases, not_below_itself, in-with_one, in_new, in_kept}
use Rattle.desk_base.proofs.tables.KeyRises.{rise-with_one, rise-without_one}
use Rattle.desk_base.proofs.tables.TakenRows.{one_row, same_rows}
use Rattle.desk_load.proofs.Numbers.{filter_same}

abbrev pub key : BookingRow → Key
key b = key_of (Booking b)

abbrev pub BookingsRise : List BookingRow → Type 0
BookingsRise bs = IsStrictlySortedBy key_cmp (keys_by Booking bs)

-- ---- filters

-- two of them, in either order
pub filter_swap : {A : Type 0} (p q : A → Bool) (xs : List A) → filter p (filter q xs) ≡ filter q (filter p xs)
filter_swap p q [] = refl
filter_swap {A} p q (x ∷ xs) = step (p x) refl (q x) refl (filter_swap p q xs)
  where
    step : (a : Bool) → p x ≡ a → (b : Bool) → q x ≡ b → filter p (filter q xs) ≡ filter q (filter p xs) → filter p (cond b (x ∷ filter q xs) (filter q xs)) ≡ filter q (cond a (x ∷ filter p xs) (filter p xs))
    step true e true f h = ap (λ c. cond c (x ∷ filter p (filter q xs)) (filter p (filter q xs))) e ∙ ap (λ l. x ∷ l) h ∙ sym (ap (λ c. cond c (x ∷ filter q (filter p xs)) (filter q (filter p xs))) f)
    step true e false f h = h ∙ sym (ap (λ c. cond c (x ∷ filter q (filter p xs)) (filter q (filter p xs))) f)
    step false e true f h = ap (λ c. cond c (x ∷ filter p (filter q xs)) (filter p (filter q xs))) e ∙ h
    step false e false f h = h

-- no key is both below and above another
false_or : (b : Bool) → (b ≡ true → ⊥) → b ≡ false
false_or true h = absurd (h refl)
false_or false h = refl

not_itself : (k : Key) → is_below k k ≡ false
not_itself k = false_or (is_below k k) (not_below_itself k)

not_both : (j k : Key) → is_below j k ≡ true → is_below k j ≡ false
not_both j k h = false_or (is_below k j) (λ e. not_below_itself j (ap is_lt (key_total.trans j k j (is_less (key_cmp j k) h) (is_less (key_cmp k j) e))))

below_below : (k : Key) (bs : List BookingRow) → rows_below key k (rows_below key k bs) ≡ rows_below key k bs
below_below k bs = all_pass (λ (y : BookingRow). is_below (key y) k) (rows_below key k bs) (λ y i. (in-filter (λ (z : BookingRow). is_below (key z) k) y bs i).1)

above_above : (k : Key) (bs : List BookingRow) → rows_above key k (rows_above key k bs) ≡ rows_above key k bs
above_above k bs = all_pass (λ (y : BookingRow). is_below k (key y)) (rows_above key k bs) (λ y i. (in-filter (λ (z : BookingRow). is_below k (key z)) y bs i).1)

below_above : (k : Key) (bs : List BookingRow) → rows_below key k (rows_above key k bs) ≡ []
below_above k bs = none_pass (λ (y : BookingRow). is_below (key y) k) (rows_above key k bs) (λ y i. not_both k (key y) (in-filter (λ (z : BookingRow). is_below k (key z)) y bs i).1)

above_below : (k : Key) (bs : List BookingRow) → rows_above key k (rows_below key k bs) ≡ []
above_below k bs = none_pass (λ (y : BookingRow). is_below k (key y)) (rows_below key k bs) (λ y i. not_both (key y) k (in-filter (λ (z : BookingRow). is_below (key z) k) y bs i).1)

-- ---- with one more, and without one

below_without : (k : Key) (bs : List BookingRow) → rows_below key k (rows_below key k bs ++ rows_above key k bs) ≡ rows_below key k bs
below_without k bs =
    filter-append (λ (y : BookingRow). is_below (key y) k) (rows_below key k bs) (rows_above key k bs)
    ∙ ap (λ l. l ++ rows_below key k (rows_above key k bs)) (below_below k bs)
    ∙ ap (λ l. rows_below key k bs ++ l) (below_above k bs)
    ∙ append-nil (rows_below key k bs)

above_without : (k : Key) (bs : List BookingRow) → rows_above key k (rows_below key k bs ++ rows_above key k bs) ≡ rows_above key k bs
above_without k bs =
    filter-append (λ (y : BookingRow). is_below k (key y)) (rows_below key k bs) (rows_above key k bs)
    ∙ ap (λ l. l ++ rows_above key k (rows_above key k bs)) (above_below k bs)
    ∙ above_above k bs

below_with : (b : BookingRow) (bs : List BookingRow) → rows_below key (key b) (rows_below key (key b) bs ++ b ∷ rows_above key (key b) bs) ≡ rows_below key (key b) bs
below_with b bs =
    let below = rows_below key (key b) bs in
    let above = rows_above key (key b) bs in
    filter-append (λ (y : BookingRow). is_below (key y) (key b)) below (b ∷ above)
    ∙ ap (λ l. l ++ rows_below key (key b) (b ∷ above)) (below_below (key b) bs)
    ∙ ap (λ c. below ++ cond c (b ∷ rows_below key (key b) above) (rows_below key (key b) above)) (not_itself (key b))
    ∙ ap (λ l. below ++ l) (below_above (key b) bs)
    ∙ append-nil below

above_with : (b : BookingRow) (bs : List BookingRow) → rows_above key (key b) (rows_below key (key b) bs ++ b ∷ rows_above key (key b) bs) ≡ rows_above key (key b) bs
above_with b bs =
    let below = rows_below key (key b) bs in
    let above = rows_above key (key b) bs in
    filter-append (λ (y : BookingRow). is_below (key b) (key y)) below (b ∷ above)
    ∙ ap (λ l. l ++ rows_above key (key b) (b ∷ above)) (above_below (key b) bs)
    ∙ ap (λ c. cond c (b ∷ rows_above key (key b) above) (rows_above key (key b) above)) (not_itself (key b))
    ∙ above_above (key b) bs

pub without_twice : (k : Key) (bs : List BookingRow) → without_one key k (without_one key k bs) ≡ without_one key k bs
unfolding without_one
without_twice k bs = let a = below_without k bs in let b = above_without k bs in λ i. a i ++ b i

pub with_without : (b : BookingRow) (bs : List BookingRow) → with_one key b (without_one key (key b) bs) ≡ with_one key b bs
unfolding with_one without_one
with_without b bs = let a = below_without (key b) bs in let c = above_without (key b) bs in λ i. a i ++ b ∷ c i

pub without_with : (b : BookingRow) (bs : List BookingRow) → without_one key (key b) (with_one key b bs) ≡ without_one key (key b) bs
unfolding with_one without_one
without_with b bs = let a = below_with b bs in let c = above_with b bs in λ i. a i ++ c i

-- ---- those that pass a test

pub filter_without : (p : BookingRow → Bool) (k : Key) (bs : List BookingRow) → filter p (without_one key k bs) ≡ without_one key k (filter p bs)
unfolding without_one
filter_without p k bs =
    let a = filter_swap p (λ (y : BookingRow). is_below (key y) k) bs in
    let b = filter_swap p (λ (y : BookingRow). is_below k (key y)) bs in
    filter-append p (rows_below key k bs) (rows_above key k bs) ∙ (λ i. a i ++ b i)

pub filter_with : (p : BookingRow → Bool) (b : BookingRow) (bs : List BookingRow) → p b ≡ true → filter p (with_one key b bs) ≡ with_one key b (filter p bs)
unfolding with_one
filter_with p b bs e =
    let below = rows_below key (key b) bs in
    let above = rows_above key (key b) bs in
    let a = filter_swap p (λ (y : BookingRow). is_below (key y) (key b)) bs in
    let c = filter_swap p (λ (y : BookingRow). is_below (key b) (key y)) bs in
    filter-append p below (b ∷ above) ∙ ap (λ d. filter p below ++ cond d (b ∷ filter p above) (filter p above)) e ∙ (λ i. a i ++ b ∷ c i)

pub filter_beside : (p : BookingRow → Bool) (b : BookingRow) (bs : List BookingRow) → p b ≡ false → filter p (with_one key b bs) ≡ filter p (without_one key (key b) bs)
unfolding with_one without_one
filter_beside p b bs e =
    let below = rows_below key (key b) bs in
    let above = rows_above key (key b) bs in
    filter-append p below (b ∷ above) ∙ ap (λ d. filter p below ++ cond d (b ∷ filter p above) (filter p above)) e ∙ sym (filter-append p below above)

-- ---- one that stands, and one that does not

pub stands : (b : BookingRow) (bs : List BookingRow) → BookingsRise bs → IsIn b bs → with_one key b bs ≡ bs
stands b bs s j =
    same_rows Booking (with_one key b bs) bs (rise-with_one Booking b bs s) s
    (λ z i. elim (in-with_one key b z bs i) [ inl e ↦ subst (λ y. IsIn y bs) (sym e) j | inr h ↦ h.0 ])
    (λ z i. elim (in_kept key b z bs i) [ inl e ↦ subst (λ y. IsIn y (with_one key b bs)) (sym (one_row Booking bs z b s i j e)) (in_new key b bs) | inr h ↦ h ])

pub in_without : (k : Key) (y : BookingRow) (bs : List BookingRow) → IsIn y (without_one key k bs) → IsIn y bs
unfolding without_one
in_without k y bs i = elim (in-append y (rows_below key k bs) (rows_above key k bs) i) [
  | inl j ↦ (in-filter (λ (z : BookingRow). is_below (key z) k) y bs j).0
  | inr j ↦ (in-filter (λ (z : BookingRow). is_below k (key z)) y bs j).0
]

stays : (k : Key) (y : BookingRow) (bs : List BookingRow) → IsIn y bs → key y ≢ k → IsIn y (without_one key k bs)
unfolding without_one
stays k y bs i n = elim (key_cases (key y) k) [
  | inl e ↦ in_left y (rows_below key k bs) (rows_above key k bs) (in_filtered (λ (z : BookingRow). is_below (key z) k) y bs i e)
  | inr (inl e) ↦ in_right y (rows_below key k bs) (rows_above key k bs) (in_filtered (λ (z : BookingRow). is_below k (key z)) y bs i e)
  | inr (inr e) ↦ absurd (n e)
]

pub absent : (k : Key) (bs : List BookingRow) → BookingsRise bs → ((y : BookingRow) → IsIn y bs → key y ≢ k) → without_one key k bs ≡ bs
absent k bs s h = same_rows Booking (without_one key k bs) bs (rise-without_one Booking k bs s) s (λ z i. in_without k z bs i) (λ z i. stays k z bs i (h z i))

-- ---- by their numbers

pub then_lt : (r : Ordering) → is_lt (ordering_then r Equal) ≡ is_lt r
then_lt Less = refl
then_lt Equal = refl
then_lt Greater = refl

pub lt_is : (m n : ℕ) → is_lt (nat_cmp m n) ≡ nat_lt m n
lt_is m n = grind (arith, nat_tests)

below_is : (m n : ℕ) → is_below (id_key BookingTable m) (id_key BookingTable n) ≡ nat_lt m n
below_is m n = then_lt (nat_cmp m n) ∙ lt_is m n

pub rows_lower : (b : BookingRow) (bs : List BookingRow) → filter (λ (y : BookingRow). nat_lt y.id b.id) bs ≡ rows_below key (key b) bs
rows_lower b bs = filter_same (λ (y : BookingRow). nat_lt y.id b.id) (λ (y : BookingRow). is_below (key y) (key b)) bs (λ y. sym (below_is y.id b.id))

pub rows_upper : (b : BookingRow) (bs : List BookingRow) → filter (λ (y : BookingRow). nat_lt b.id y.id) bs ≡ rows_above key (key b) bs
rows_upper b bs = filter_same (λ (y : BookingRow). nat_lt b.id y.id) (λ (y : BookingRow). is_below (key b) (key y)) bs (λ y. sym (below_is b.id y.id))

pub with_is : (b : BookingRow) (bs : List BookingRow) → with_one key b bs ≡ rows_below key (key b) bs ++ b ∷ rows_above key (key b) bs
unfolding with_one
with_is b bs = refl

pub without_is : (k : Key) (bs : List BookingRow) → without_one key k bs ≡ rows_below key k bs ++ rows_above key k bs
unfolding without_one
without_is k bs = refl

-- those below and those above a booking, with it between them or without it
pub around_with : (b : BookingRow) (bs : List BookingRow) → (filter (λ (y : BookingRow). nat_lt y.id b.id) bs ++ b ∷ []) ++ filter (λ (y : BookingRow). nat_lt b.id y.id) bs ≡ with_one key b bs
around_with b bs =
    let e = rows_lower b bs in
    let f = rows_upper b bs in
    append_assoc (filter (λ (y : BookingRow). nat_lt y.id b.id) bs) (b ∷ []) (filter (λ (y : BookingRow). nat_lt b.id y.id) bs) ∙ (λ i. e i ++ b ∷ f i) ∙ sym (with_is b bs)

pub around_without : (b : BookingRow) (bs : List BookingRow) → (filter (λ (y : BookingRow). nat_lt y.id b.id) bs ++ []) ++ filter (λ (y : BookingRow). nat_lt b.id y.id) bs ≡ without_one key (key b) bs
around_without b bs =
    let e = append-nil (filter (λ (y : BookingRow). nat_lt y.id b.id) bs) ∙ rows_lower b bs in
    let f = rows_upper b bs in
    (λ i. e i ++ f i) ∙ sym (without_is (key b) bs)
