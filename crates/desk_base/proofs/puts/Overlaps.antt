-- Rows that do not meet: the test is the same both ways, and it stays false with a row that meets none of the others.
use Rattle.std.proofs.Common.{◌≡◌, ℕ, Bool, true, false, not, ◌&&◌, ◌==◌, nat_lt, max, min, List, Option, Some, None, ◌⊎◌, inl, inr, refl, sym, ap, ◌∙◌, subst, arith}
use Rattle.std.proofs.lemmas.Bool.{false≢true, false_from_ne_true, eq-eqb}
use Rattle.std.proofs.lemmas.Bool.Decides.{nat_tests}
use Rattle.std.specs.List.{list_any}
use Rattle.std.specs.Option.{option_map_or}
use Rattle.desk_base.specs.rows.Types.{Tables, ResourceRow, WorkRow, DayRow, MemberRow}
use Rattle.desk_base.specs.meaning.Capacity.{resource_of}
use Rattle.desk_base.specs.meaning.Eligible.{kind_number}
use Rattle.desk_base.specs.rules.Fields.{overlaps, are_of_one_kind, is_same_membership}
use Rattle.desk_base.proofs.lists.Members.{IsIn}
use Rattle.desk_base.proofs.lists.Tests.{list_any_at, list_any_from}

-- ---- lists of which no element passes

pub none_at : {A : Type 0} (p : A → Bool) (xs : List A) (x : A) → list_any p xs ≡ false → IsIn x xs → p x ≡ false
none_at p xs x e i = false_from_ne_true (p x) (λ h. false≢true (sym e ∙ list_any_from p xs x i h))

pub none_from_each : {A : Type 0} (p : A → Bool) (xs : List A) → ((x : A) → IsIn x xs → p x ≡ false) → list_any p xs ≡ false
none_from_each p xs h = false_from_ne_true (list_any p xs) (λ e. let r = list_any_at p xs e in false≢true (sym (h r.0 r.1) ∙ r.2))

-- where each row of the second list is the new one, or stands in the first, and meets none of the first, it meets none of the second
pub none_met : {R : Type 0} (meets : R → R → Bool) → ((x y : R) → meets x y ≡ meets y x) → ((x : R) → meets x x ≡ false) → (IsNew : R → Type 0) → ((x y : R) → IsNew x → IsNew y → x ≡ y)
    → (xs ys : List R) → ((y : R) → IsIn y ys → IsNew y ⊎ IsIn y xs) → ((y : R) → IsIn y ys → list_any (λ x. meets x y) xs ≡ false) → (y : R) → IsIn y ys → list_any (λ x. meets x y) ys ≡ false
none_met {R} meets swap itself IsNew one xs ys split each y i = none_from_each (λ x. meets x y) ys (λ x j. by x j (split x j) (split y i))
  where
    by : (x : R) → IsIn x ys → IsNew x ⊎ IsIn x xs → IsNew y ⊎ IsIn y xs → meets x y ≡ false
    by x j (inr old) new = none_at (λ z. meets z y) xs x (each y i) old
    by x j (inl new) (inr old) = swap x y ∙ none_at (λ z. meets z x) xs y (each x j) old
    by x j (inl new) (inl also) = subst (λ z. meets x z ≡ false) (one x y new also) (itself x)

-- ---- the tests of work rows, of day rows and of members

eq-swap : (m n : ℕ) → (m == n) ≡ (n == m)
eq-swap m n = grind (arith, nat_tests)

max-swap : (m n : ℕ) → max m n ≡ max n m
max-swap m n = omega arith

min-swap : (m n : ℕ) → min m n ≡ min n m
min-swap m n = omega arith

overlaps-swap : (a b c d : ℕ) → overlaps a b c d ≡ overlaps c d a b
overlaps-swap a b c d = λ i. nat_lt (max-swap a c i) (min-swap b d i)

third_fails : (a b c d : Bool) → c ≡ false → (a && b && c && d) ≡ false
third_fails true true c d e = ap (λ x. x && d) e
third_fails true false c d e = refl
third_fails false b c d e = refl

second_fails : (a b c d : Bool) → b ≡ false → (a && b && c && d) ≡ false
second_fails true b c d e = ap (λ x. x && c && d) e
second_fails false b c d e = refl

-- they are of one calendar and weekday, and overlap
abbrev pub works_meet : WorkRow → WorkRow → Bool
works_meet x w = (x.calendar == w.calendar) && (x.weekday == w.weekday) && not (x.from == w.from) && overlaps x.from x.to w.from w.to

pub works_meet-swap : (x w : WorkRow) → works_meet x w ≡ works_meet w x
works_meet-swap x w = λ i. eq-swap x.calendar w.calendar i && eq-swap x.weekday w.weekday i && not (eq-swap x.from w.from i) && overlaps-swap x.from x.to w.from w.to i

pub works_meet-itself : (x : WorkRow) → works_meet x x ≡ false
works_meet-itself x = third_fails (x.calendar == x.calendar) (x.weekday == x.weekday) (not (x.from == x.from)) (overlaps x.from x.to x.from x.to) (ap not (eq-eqb x.from x.from refl))

-- they are of one calendar and day, and overlap
abbrev pub days_meet : DayRow → DayRow → Bool
days_meet x d = (x.calendar == d.calendar) && (x.day == d.day) && not (x.from == d.from) && overlaps x.from x.to d.from d.to

pub days_meet-swap : (x d : DayRow) → days_meet x d ≡ days_meet d x
days_meet-swap x d = λ i. eq-swap x.calendar d.calendar i && eq-swap x.day d.day i && not (eq-swap x.from d.from i) && overlaps-swap x.from x.to d.from d.to i

pub days_meet-itself : (x : DayRow) → days_meet x x ≡ false
days_meet-itself x = third_fails (x.calendar == x.calendar) (x.day == x.day) (not (x.from == x.from)) (overlaps x.from x.to x.from x.to) (ap not (eq-eqb x.from x.from refl))

-- they are of one member, in groups of one kind, and overlap
abbrev pub members_meet : Tables → MemberRow → MemberRow → Bool
members_meet t y x = (y.member == x.member) && not (is_same_membership y x) && are_of_one_kind t y.group x.group && overlaps y.from y.to x.from x.to

membership-swap : (x y : MemberRow) → is_same_membership x y ≡ is_same_membership y x
membership-swap x y = λ i. eq-swap x.group y.group i && eq-swap x.member y.member i && eq-swap x.from y.from i

membership-itself : (x : MemberRow) → is_same_membership x x ≡ true
membership-itself x = λ i. eq-eqb x.group x.group refl i && eq-eqb x.member x.member refl i && eq-eqb x.from x.from refl i

kinds-swap : (p q : Option ResourceRow)
    → option_map_or (λ (x : ResourceRow). option_map_or (λ (y : ResourceRow). kind_number x.kind == kind_number y.kind) q false) p false
    ≡ option_map_or (λ (y : ResourceRow). option_map_or (λ (x : ResourceRow). kind_number y.kind == kind_number x.kind) p false) q false
kinds-swap None None = refl
kinds-swap None (Some y) = refl
kinds-swap (Some x) None = refl
kinds-swap (Some x) (Some y) = eq-swap (kind_number x.kind) (kind_number y.kind)

one_kind-swap : (t : Tables) (a b : ℕ) → are_of_one_kind t a b ≡ are_of_one_kind t b a
one_kind-swap t a b = kinds-swap (resource_of t a) (resource_of t b)

pub members_meet-swap : (t : Tables) (x y : MemberRow) → members_meet t x y ≡ members_meet t y x
members_meet-swap t x y = λ i. eq-swap x.member y.member i && not (membership-swap x y i) && one_kind-swap t x.group y.group i && overlaps-swap x.from x.to y.from y.to i

pub members_meet-itself : (t : Tables) (x : MemberRow) → members_meet t x x ≡ false
members_meet-itself t x = second_fails (x.member == x.member) (not (is_same_membership x x)) (are_of_one_kind t x.group x.group) (overlaps x.from x.to x.from x.to) (ap not (membership-itself x))
