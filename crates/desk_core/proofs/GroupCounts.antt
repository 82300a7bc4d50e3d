-- A group of sound tables has few standing bookings.
use Rattle.std.proofs.Common.{◌≡◌, ℕ, zero, suc, ◌+◌, ◌<◌, ◌≤◌, Bool, true, false, not, cond, ◌==◌, List, [], ◌∷◌, map, filter, length, Option, Some, None, ◌⊎◌, inl, inr, refl, sym, ap, ◌∙◌, subst, arith}
use Rattle.std.proofs.lemmas.Bool.Decides.{nat_tests}
use Rattle.std.proofs.lemmas.List.{length-map}
use Rattle.std.specs.Prelude.{Contains}
use Rattle.desk_base.specs.declared.rows.tables.Tables.{Tables}
use Rattle.desk_base.specs.declared.rows.groups.GroupRow.{GroupRow}
use Rattle.desk_base.specs.declared.rows.groups.Leaf.{Leaf}
use Rattle.desk_base.specs.declared.rows.bookings.BookingRow.{BookingRow}
use Rattle.desk_base.specs.declared.rows.tables.Key.{Key}
use Rattle.desk_base.specs.declared.rows.tables.Table.TheVariants.{Group as GroupTable, Booking as BookingTable}
use Rattle.desk_base.specs.declared.rows.tables.AnyRow.TheVariants.{Group, Booking}
use Rattle.desk_base.specs.declared.asked.rules.TableRule.TheVariants.{Citation, Booked}
use Rattle.desk_base.specs.rules.Limits.{node_limit}
use Rattle.desk_base.specs.rows.Keys.{id_key}
use Rattle.desk_base.specs.rows.Rows.{key_of, citations_of}
use Rattle.desk_base.specs.asked.Groups.{booked_for}
use Rattle.desk_base.specs.meaning.Load.{ask_of}
use Rattle.desk_base.specs.meaning.Picks.{Choice, choices_of}
use Rattle.desk_base.specs.search.Listing.{ask_for}
use Rattle.desk_base.specs.rules.Sound.{IsSound, IsBooked, bookings_of}
use Rattle.desk_base.proofs.lists.Members.{IsIn, in-map, in-filter, in_mapped, contains_from_in, in_from_contains}
use Rattle.desk_base.proofs.tables.Sounds.{well_formed}
use Rattle.desk_base.proofs.meaning.Shapes.{few_leaves}

-- ---- rows that are told apart by a small number

abbrev count_at : {A : Type 0} → (A → ℕ) → ℕ → List A → ℕ
count_at f j xs = length (filter (λ x. f x == j) xs)

split_step : (b : Bool) (a c n : ℕ) → n ≡ a + c → n + 1 ≡ cond b (a + 1) a + cond (not b) (c + 1) c
split_step true a c n e = omega arith
split_step false a c n e = omega arith

length_cond : {A : Type 0} (b : Bool) (x : A) (xs : List A) → length (cond b (x ∷ xs) xs) ≡ cond b (length xs + 1) (length xs)
length_cond true x xs = omega arith
length_cond false x xs = refl

-- what passes and what does not are together all
split : {A : Type 0} (p : A → Bool) (xs : List A) → length xs ≡ length (filter p xs) + length (filter (λ x. not (p x)) xs)
split p [] = refl
split p (x ∷ xs) =
    let e = split_step (p x) (length (filter p xs)) (length (filter (λ x. not (p x)) xs)) (length xs) (split p xs) in
    let a = length_cond (p x) x (filter p xs) in
    let b = length_cond (not (p x)) x (filter (λ x. not (p x)) xs) in omega arith

filter_step : {A : Type 0} (p : A → Bool) (b : Bool) (x : A) (ys : List A) (n : ℕ) → length (filter p ys) ≤ n → length (filter p (cond b (x ∷ ys) ys)) ≤ cond (p x) (n + 1) n
filter_step p true x ys n h = more (p x)
  where
    more : (c : Bool) → length (cond c (x ∷ filter p ys) (filter p ys)) ≤ cond c (n + 1) n
    more true = omega arith
    more false = h
filter_step p false x ys n h = more (p x)
  where
    more : (c : Bool) → length (filter p ys) ≤ cond c (n + 1) n
    more true = omega arith
    more false = h

-- of a part no more pass
filter_less : {A : Type 0} (p q : A → Bool) (xs : List A) → length (filter p (filter q xs)) ≤ length (filter p xs)
filter_less p q [] = omega arith
filter_less p q (x ∷ xs) =
    let a = filter_step p (q x) x (filter q xs) (length (filter p xs)) (filter_less p q xs) in
    let b = length_cond (p x) x (filter p xs) in omega arith

none_step : {A : Type 0} (p : A → Bool) (x : A) (ys : List A) (b : Bool) → p x ≡ b → filter p ys ≡ [] → filter p (cond (not b) (x ∷ ys) ys) ≡ []
none_step p x ys true e h = h
none_step p x ys false e h = ap (λ c. cond c (x ∷ filter p ys) (filter p ys)) e ∙ h

-- none of those that do not pass passes
none_pass : {A : Type 0} (p : A → Bool) (xs : List A) → filter p (filter (λ x. not (p x)) xs) ≡ []
none_pass p [] = refl
none_pass p (x ∷ xs) = none_step p x (filter (λ x. not (p x)) xs) (p x) refl (none_pass p xs)

same_passes : (m : ℕ) → (m == m) ≡ true
same_passes m = grind (arith, nat_tests)

no_rows : {A : Type 0} (f : A → ℕ) (xs : List A) → ((j : ℕ) → count_at f j xs ≡ 0) → length xs ≡ 0
no_rows f [] h = refl
no_rows f (x ∷ xs) h =
    let e = ap (λ b. length (cond b (x ∷ filter (λ y. f y == f x) xs) (filter (λ y. f y == f x) xs))) (sym (same_passes (f x))) ∙ h (f x) in
    absurd (omega arith)

-- where each number below n is that of one row at most, and no other is that of any, there are at most n rows
few_by_number : {A : Type 0} (f : A → ℕ) (n : ℕ) (xs : List A) → ((j : ℕ) → count_at f j xs ≤ 1) → ((j : ℕ) → n ≤ j → count_at f j xs ≡ 0) → length xs ≤ n
few_by_number f zero xs one past = let h = no_rows f xs (λ j. past j (omega arith)) in omega arith
few_by_number f (suc n) xs one past =
    let s = split (λ x. f x == n) xs in
    let h = one n in
    let rest = few_by_number f n (filter (λ x. not (f x == n)) xs) (λ j. let l = filter_less (λ x. f x == j) (λ x. not (f x == n)) xs in let o = one j in omega arith) (λ j b. at j b (at_or_past n j b)) in
    omega arith
  where
    at_or_past : (n j : ℕ) → n ≤ j → (j ≡ n) ⊎ (suc n ≤ j)
    at_or_past n j b = grind arith

    at : (j : ℕ) → n ≤ j → (j ≡ n) ⊎ (suc n ≤ j) → count_at f j (filter (λ x. not (f x == n)) xs) ≡ 0
    at j b (inl e) = subst (λ k. length (filter (λ x. f x == k) (filter (λ x. not (f x == n)) xs)) ≡ 0) (sym e) (ap length (none_pass (λ x. f x == n) xs))
    at j b (inr c) = let l = filter_less (λ x. f x == j) (λ x. not (f x == n)) xs in let p = past j c in omega arith

-- ---- choices are numbered one by one

differ : (m j : ℕ) → m < j → (m == j) ≡ false
differ m j h = grind (arith, nat_tests)

differ_above : (m j : ℕ) → j < m → (m == j) ≡ false
differ_above m j h = grind (arith, nat_tests)

none_below : (j i : ℕ) (leaves : List Leaf) (picks : List (Option ℕ)) → j < i → count_at (λ (c : Choice). c.number) j (choices_of i leaves picks) ≡ 0
none_below j i [] picks h = refl
none_below j i (l ∷ ls) [] h = refl
none_below j i (l ∷ ls) (None ∷ picks) h = none_below j (i + 1) ls picks (omega arith)
none_below j i (l ∷ ls) (Some r ∷ picks) h =
    let c : Choice = record { number = i; leaf = l; resource = r } in
    ap (λ b. length (cond b (c ∷ filter (λ (x : Choice). x.number == j) (choices_of (i + 1) ls picks)) (filter (λ (x : Choice). x.number == j) (choices_of (i + 1) ls picks)))) (differ_above i j h) ∙ none_below j (i + 1) ls picks (omega arith)

none_past : (j i : ℕ) (leaves : List Leaf) (picks : List (Option ℕ)) → i + length leaves ≤ j → count_at (λ (c : Choice). c.number) j (choices_of i leaves picks) ≡ 0
none_past j i [] picks h = refl
none_past j i (l ∷ ls) [] h = refl
none_past j i (l ∷ ls) (None ∷ picks) h = none_past j (i + 1) ls picks (omega arith)
none_past j i (l ∷ ls) (Some r ∷ picks) h =
    let c : Choice = record { number = i; leaf = l; resource = r } in
    ap (λ b. length (cond b (c ∷ filter (λ (x : Choice). x.number == j) (choices_of (i + 1) ls picks)) (filter (λ (x : Choice). x.number == j) (choices_of (i + 1) ls picks)))) (differ i j (omega arith)) ∙ none_past j (i + 1) ls picks (omega arith)

one_at : (j i : ℕ) (leaves : List Leaf) (picks : List (Option ℕ)) → count_at (λ (c : Choice). c.number) j (choices_of i leaves picks) ≤ 1
one_at j i [] picks = omega arith
one_at j i (l ∷ ls) [] = omega arith
one_at j i (l ∷ ls) (None ∷ picks) = one_at j (i + 1) ls picks
one_at j i (l ∷ ls) (Some r ∷ picks) = step (i == j) (record { number = i; leaf = l; resource = r }) (filter (λ (x : Choice). x.number == j) (choices_of (i + 1) ls picks)) (one_at j (i + 1) ls picks) later
  where
    same : (m n : ℕ) → (m == n) ≡ true → m ≡ n
    same m n e = grind (arith, nat_tests)

    later : (i == j) ≡ true → count_at (λ (c : Choice). c.number) j (choices_of (i + 1) ls picks) ≡ 0
    later e = let k = same i j e in none_below j (i + 1) ls picks (omega arith)

    step : (b : Bool) (c : Choice) (cs : List Choice) → length cs ≤ 1 → (b ≡ true → length cs ≡ 0) → length (cond b (c ∷ cs) cs) ≤ 1
    step true c cs h k = let e = k refl in omega arith
    step false c cs h k = h

-- ---- the bookings of a group

same_count : (t : Tables) (g : GroupRow) (h : IsBooked t g) (j : ℕ) → count_at (λ (b : BookingRow). b.leaf) j (bookings_of t g) ≡ count_at (λ (c : Choice). c.number) j (choices_of 0 g.leaves h.picks)
same_count t g h j =
    sym (length-map (filter (λ (b : BookingRow). b.leaf == j) (bookings_of t g)) ask_of) ∙ ap length (h.each j)
    ∙ length-map (filter (λ (c : Choice). c.number == j) (choices_of 0 g.leaves h.picks)) (ask_for h.start)

few_of_booked : (t : Tables) (g : GroupRow) → IsBooked t g → length (bookings_of t g) ≤ length g.leaves
few_of_booked t g h =
    few_by_number (λ (b : BookingRow). b.leaf) (length g.leaves) (bookings_of t g) (λ j. let e = same_count t g h j in let o = one_at j 0 g.leaves h.picks in omega arith)
    (λ j b. same_count t g h j ∙ none_past j 0 g.leaves h.picks (omega arith))

few_of_group : (t : Tables) (g : GroupRow) → IsSound t → Contains t.groups g → length (bookings_of t g) ≤ node_limit
few_of_group t g s c = elim (s.keeps Booked (id_key GroupTable g.id) g c refl) [
  | inl e ↦ let l = ap length e in omega arith
  | inr h ↦ let a = few_of_booked t g h in let b = few_leaves t g (well_formed t s) c in omega arith
]

-- a booking's group is there
group_of_booking : (t : Tables) (b : BookingRow) → IsSound t → IsIn b t.bookings → (g : GroupRow) × IsIn g t.groups × (g.id ≡ b.group)
group_of_booking t b s i =
    let c = s.keeps Citation (id_key BookingTable b.id) (Booking b) (id_key GroupTable b.group) (contains_from_in (map Booking t.bookings) (Booking b) (in_mapped Booking b t.bookings i)) refl (contains_from_in (citations_of (Booking b)) (id_key GroupTable b.group) (inl refl)) in
    let k = in-map key_of (id_key GroupTable b.group) (map Group t.groups) (in_from_contains (map key_of (map Group t.groups)) (id_key GroupTable b.group) c) in
    let g = in-map Group k.0 t.groups k.1 in
    (g.0, g.1, sym (ap (λ (x : Key). x.a) (k.2 ∙ ap key_of g.2)))

few_filtered : (t : Tables) (id : ℕ) → IsSound t → (bs : List BookingRow) → booked_for t id ≡ bs → length bs ≤ node_limit
few_filtered t id s [] e = omega arith
few_filtered t id s (b ∷ bs) e =
    let i = in-filter (λ (x : BookingRow). x.group == id) b t.bookings (subst (IsIn b) (sym e) (inl refl)) in
    let g = group_of_booking t b s i.0 in
    let same = g.2 ∙ is_group b.group id i.1 in
    let few = few_of_group t g.0 s (contains_from_in t.groups g.0 g.1) in
    subst (λ l. length l ≤ node_limit) (ap (λ n. filter (λ (x : BookingRow). x.group == n) t.bookings) same ∙ e) few
  where
    is_group : (m n : ℕ) → (m == n) ≡ true → m ≡ n
    is_group m n h = grind (arith, nat_tests)

-- a group has at most as many standing bookings as a tree may have nodes
pub few_booked : (t : Tables) (id : ℕ) → IsSound t → length (booked_for t id) ≤ node_limit
few_booked t id s = few_filtered t id s (booked_for t id) refl
