-- What well-formed tables say of memberships: members are plain, and a crew has each member of a minute once.
use Rattle.std.proofs.Common.{◌≡◌, ℕ, Bool, true, false, cond, not, ◌&&◌, ◌==◌, List, [], ◌∷◌, map, Option, Some, None, inl, inr, refl, sym, ap, ◌∙◌, subst, arith, is_none}
use Rattle.std.proofs.lemmas.Bool.{false≢true}
use Rattle.std.proofs.lemmas.Bool.Decides.{nat_tests}
use Rattle.std.specs.Prelude.{filter}
use Rattle.std.specs.Ordering.{nat_cmp, ordering_then}
use Rattle.std.specs.Option.{option_map_or}
use Rattle.std.specs.List.{AllByRecursion}
use Rattle.std.specs.List.Sorted.{IsStrictlySortedBy}
use Rattle.std.specs.declared.cmp.Ordering.TheVariants.{Less, Equal}
use Rattle.desk_base.specs.declared.rows.tables.Tables.{Tables}
use Rattle.desk_base.specs.declared.rows.resources.MemberRow.{MemberRow}
use Rattle.desk_base.specs.declared.rows.resources.ResourceRow.{ResourceRow}
use Rattle.desk_base.specs.declared.rows.tables.Table.TheVariants.{Member as MemberTable}
use Rattle.desk_base.specs.declared.rows.tables.AnyRow.TheVariants.{Member}
use Rattle.desk_base.specs.rules.Rules.{first_broken}
use Rattle.desk_base.specs.meaning.Time.{covers}
use Rattle.desk_base.specs.rows.Keys.{key_cmp}
use Rattle.desk_base.specs.rows.Rows.{key_of}
use Rattle.desk_base.specs.meaning.Capacity.{resource_of}
use Rattle.desk_base.specs.meaning.Eligible.{kind_number}
use Rattle.desk_base.specs.rules.Fields.{is_plain, member_rules, overlaps, are_of_one_kind, is_same_membership}
use Rattle.desk_base.specs.meaning.Load.{LoadSort, plain, crew, pool, unknown, sort_of, sort_of_kind, members}
use Rattle.desk_base.specs.rows.Lookups.{KeysRise, keys_by}
use Rattle.desk_base.specs.rules.Sound.{AreWellFormed}
use Rattle.desk_base.proofs.lists.Members.{IsIn, in-map, in-filter, in_mapped, contains_from_in}
use Rattle.desk_base.proofs.lists.Tests.{and_left, and_right}
use Rattle.desk_base.proofs.puts.Overlaps.{none_at, members_meet}
use Rattle.desk_base.proofs.meaning.Shapes.{rules_kept, none_from}
use Rattle.desk_base.proofs.tables.Sounds.{keys_in_order}
use Rattle.desk_member.proofs.SumLemmas.{AreApart}

pub keys_rise : (t : Tables) → AreWellFormed t → KeysRise t
keys_rise t s table = keys_in_order t table s.order

rules_of_row : (t : Tables) (x : MemberRow) → AreWellFormed t → IsIn x t.members → AllByRecursion (λ r. r.0 ≡ true) (member_rules t x)
rules_of_row t x s i =
    let k = s.field (key_of (Member x)) (Member x) (contains_from_in (map Member t.members) (Member x) (in_mapped Member x t.members i)) refl in
    rules_kept (member_rules t x) (none_from (first_broken (member_rules t x)) (and_left (is_none (first_broken (member_rules t x))) true k))

plain_is : (s : LoadSort) → is_plain s ≡ true → s ≡ plain
plain_is plain e = refl
plain_is crew e = absurd (false≢true e)
plain_is pool e = absurd (false≢true e)
plain_is unknown e = absurd (false≢true e)

-- who is a member is plain
pub member_plain : (t : Tables) (x : MemberRow) → AreWellFormed t → IsIn x t.members → sort_of t x.member ≡ plain
member_plain t x s i = plain_is (sort_of t x.member) (rules_of_row t x s i).1.0

not_true : (b : Bool) → not b ≡ true → b ≡ false
not_true true e = absurd (false≢true e)
not_true false e = refl

-- no membership meets another of the same member
apart : (t : Tables) (x y : MemberRow) → AreWellFormed t → IsIn x t.members → IsIn y t.members → members_meet t y x ≡ false
apart t x y s i j = none_at (λ y. members_meet t y x) t.members y (not_true _ (rules_of_row t x s i).1.1.1.0) j

same_key : (n : ℕ) → nat_cmp n n ≡ Equal
same_key n = grind (arith, nat_tests)

-- rows of one key are not below one another
not_below : (x y : MemberRow) → key_cmp (key_of (Member x)) (key_of (Member y)) ≡ Less → is_same_membership y x ≡ false
not_below x y l = by (is_same_membership y x) refl
  where
    tests : (a b c a' b' c' : ℕ) → ((a' == a) && (b' == b) && (c' == c)) ≡ true → ordering_then (nat_cmp a a') (ordering_then (nat_cmp b b') (nat_cmp c c')) ≡ Equal
    tests a b c a' b' c' e =
        let x1 : a' ≡ a = grind (arith, nat_tests) in
        let x2 : b' ≡ b = grind (arith, nat_tests) in
        let x3 : c' ≡ c = grind (arith, nat_tests) in
        subst (λ n. ordering_then (nat_cmp a n) (ordering_then (nat_cmp b b') (nat_cmp c c')) ≡ Equal) (sym x1)
        (subst (λ n. ordering_then (nat_cmp a a) (ordering_then (nat_cmp b n) (nat_cmp c c')) ≡ Equal) (sym x2)
        (subst (λ n. ordering_then (nat_cmp a a) (ordering_then (nat_cmp b b) (nat_cmp c n)) ≡ Equal) (sym x3)
        (ap (λ o. ordering_then o (ordering_then (nat_cmp b b) (nat_cmp c c))) (same_key a) ∙ ap (λ o. ordering_then o (nat_cmp c c)) (same_key b) ∙ same_key c)))

    by : (b : Bool) → is_same_membership y x ≡ b → b ≡ false
    by true e = absurd (let h = tests x.group x.member x.from y.group y.member y.from e in let f = sym l ∙ h in cc)
    by false e = refl

both_cover : (f t f' t' m : ℕ) → covers f t m ≡ true → covers f' t' m ≡ true → overlaps f t f' t' ≡ true
both_cover f t f' t' m a b = grind (arith, nat_tests)

of_itself : (o : Option ResourceRow) → option_map_or (λ (x : ResourceRow). sort_of_kind x.kind) o unknown ≡ crew → option_map_or (λ (x : ResourceRow). option_map_or (λ (y : ResourceRow). kind_number x.kind == kind_number y.kind) o false) o false ≡ true
of_itself None e = cc
of_itself (Some x) e = grind (arith, nat_tests)

one_kind : (t : Tables) (g : ℕ) → sort_of t g ≡ crew → are_of_one_kind t g g ≡ true
one_kind t g e = of_itself (resource_of t g) e

-- of two memberships of one crew that cover a minute, one below the other, the members are two
two_members : (t : Tables) (g m : ℕ) (x y : MemberRow) → AreWellFormed t → sort_of t g ≡ crew → IsIn x t.members → IsIn y t.members
    → ((x.group == g) && covers x.from x.to m) ≡ true → ((y.group == g) && covers y.from y.to m) ≡ true → key_cmp (key_of (Member x)) (key_of (Member y)) ≡ Less → (y.member == x.member) ≡ false
two_members t g m x y s c i j p q l = by (y.member == x.member) refl
  where
    group_is : (a b : ℕ) → (a == b) ≡ true → a ≡ b
    group_is a b e = grind (arith, nat_tests)

    xg : x.group ≡ g
    xg = group_is x.group g (and_left (x.group == g) (covers x.from x.to m) p)

    yg : y.group ≡ g
    yg = group_is y.group g (and_left (y.group == g) (covers y.from y.to m) q)

    kind : are_of_one_kind t y.group x.group ≡ true
    kind = ap (λ n. are_of_one_kind t n x.group) yg ∙ ap (λ n. are_of_one_kind t g n) xg ∙ one_kind t g c

    meet : overlaps y.from y.to x.from x.to ≡ true
    meet = both_cover y.from y.to x.from x.to m (and_right (y.group == g) (covers y.from y.to m) q) (and_right (x.group == g) (covers x.from x.to m) p)

    by : (b : Bool) → (y.member == x.member) ≡ b → b ≡ false
    by true e = absurd (false≢true (sym (apart t x y s i j) ∙ ap (λ b. b && not (is_same_membership y x) && are_of_one_kind t y.group x.group && overlaps y.from y.to x.from x.to) e
        ∙ ap (λ b. not b && are_of_one_kind t y.group x.group && overlaps y.from y.to x.from x.to) (not_below x y l) ∙ ap (λ b. b && overlaps y.from y.to x.from x.to) kind ∙ meet))
    by false e = refl

module _ (t : Tables) (g m : ℕ) (s : AreWellFormed t) (c : sort_of t g ≡ crew) where
  abbrev here : MemberRow → Bool
  here x = (x.group == g) && covers x.from x.to m

  apart_rows : (xs : List MemberRow) → ((x : MemberRow) → IsIn x xs → IsIn x t.members) → IsStrictlySortedBy key_cmp (keys_by Member xs) → AreApart (map (λ (x : MemberRow). x.member) (filter here xs))
  unfolding IsStrictlySortedBy
  apart_rows [] all h = tt
  apart_rows (x ∷ xs) all h = keep (here x) refl (apart_rows xs (λ y i. all y (inr i)) h.1)
    where
      below : (y : MemberRow) (ys : List MemberRow) → IsIn y ys → AllByRecursion (λ k. key_cmp (key_of (Member x)) k ≡ Less) (keys_by Member ys) → key_cmp (key_of (Member x)) (key_of (Member y)) ≡ Less
      below y [] i a = absurd i
      below y (z ∷ zs) (inl e) a = subst (λ w. key_cmp (key_of (Member x)) (key_of (Member w)) ≡ Less) (sym e) a.0
      below y (z ∷ zs) (inr i) a = below y zs i a.1

      keep : (b : Bool) → here x ≡ b → AreApart (map (λ (x : MemberRow). x.member) (filter here xs)) → AreApart (map (λ (x : MemberRow). x.member) (cond b (x ∷ filter here xs) (filter here xs)))
      keep true e r = (
        λ n i.
            let a = in-map (λ (x : MemberRow). x.member) n (filter here xs) i in
            let b = in-filter here a.0 xs a.1 in
            ap (λ n. n == x.member) a.2 ∙ two_members t g m x a.0 s c (all x (inl refl)) (all a.0 (inr b.0)) e b.1 (below a.0 xs b.0 h.0),
        r,
      )
      keep false e r = r

  -- each member of the crew at m stands once
  pub members_apart : AreApart (members t g m)
  members_apart = apart_rows t.members (λ x i. i) (keys_rise t s MemberTable)
