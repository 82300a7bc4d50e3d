-- Members, counted by a profile.
use Rattle.std.proofs.Common.{◌≡◌, ℕ, ◌+◌, ◌<◌, ◌≤◌, Bool, true, false, cond, ◌&&◌, ◌==◌, pos, ◌+ℤ◌, ◌≤ℤ◌, ◌<ℤ◌, Option, Some, None, List, [], ◌∷◌, length, map, refl, sym, ap, subst, ◌∙◌, arith}
use Rattle.std.proofs.lemmas.Bool.Decides.{nat_tests}
use Rattle.std.proofs.lemmas.Int.{ints}
use Rattle.std.proofs.lemmas.List.{length-map}
use Rattle.std.specs.Prelude.{filter, fold, SomeIff, IfSome}
use Rattle.desk_base.specs.declared.rows.tables.Tables.{Tables}
use Rattle.desk_base.specs.declared.rows.resources.MemberRow.{MemberRow}
use Rattle.desk_base.specs.declared.rows.tables.Table.TheVariants.{Member as MemberTable}
use Rattle.desk_base.specs.declared.rows.tables.AnyRow.TheVariants.{Member}
use Rattle.desk_base.specs.declared.values.minutes.Window.{Window}
use Rattle.desk_base.specs.meaning.Time.{covers}
use Rattle.desk_base.specs.meaning.Load.{members}
use Rattle.desk_base.specs.rules.Sound.{AreWellFormed}
use Rattle.desk_spans.specs.declared.piece.Piece.{Piece}
use Rattle.desk_spans.specs.Pieces.{share, sum_at}
use Rattle.desk_spans.specs.Minutes.{EachMinute}
use Rattle.desk_spans.specs.Timeline.{Timeline, value_at, IsBounded}
use Rattle.desk_member.specs.declared.spans.MemberSpan.{MemberSpan}
use Rattle.desk_member.specs.Spans.{members_among}
use Rattle.desk_member.specs.Pieces.{IsGap, IsFilled}
use Rattle.desk_member.specs.Counts.{one_more}

-- the sum of ones is the number of spans that cover the minute
counted : (m n : ℕ) (spans : List MemberSpan) → fold (λ sum p. sum +ℤ share p m) (pos n) (map one_more spans) ≡ pos (n + length (filter (λ s. covers s.from s.to m) spans))
counted m n [] = ap pos (omega arith)
counted m n (s ∷ ss) = by (covers s.from s.to m) (λ k. counted m k ss)
  where
    by : (b : Bool) → ((k : ℕ) → fold (λ sum p. sum +ℤ share p m) (pos k) (map one_more ss) ≡ pos (k + length (filter (λ s. covers s.from s.to m) ss)))
        → fold (λ sum p. sum +ℤ share p m) (pos n +ℤ cond b (pos 1) (pos 0)) (map one_more ss) ≡ pos (n + length (cond b (s ∷ filter (λ s. covers s.from s.to m) ss) (filter (λ s. covers s.from s.to m) ss)))
    by true r = let one : (pos n +ℤ pos 1) ≡ pos (n + 1) = omega (arith, ints) in ap (λ z. fold (λ sum p. sum +ℤ share p m) z (map one_more ss)) one ∙ r (n + 1) ∙ ap pos (omega arith)
    by false r = let none : (pos n +ℤ pos 0) ≡ pos n = omega (arith, ints) in ap (λ z. fold (λ sum p. sum +ℤ share p m) z (map one_more ss)) none ∙ r n

pub count_is : (m : ℕ) (spans : List MemberSpan) → sum_at (map one_more spans) m ≡ pos (length (members_among spans m))
count_is m spans = counted m 0 spans ∙ ap pos (omega (arith, length-map (filter (λ (s : MemberSpan). covers s.from s.to m) spans) (λ s. s.member)))

filter_short : {A : Type 0} (p : A → Bool) (xs : List A) → length (filter p xs) ≤ length xs
filter_short p [] = omega arith
filter_short p (x ∷ xs) = by (p x) (filter_short p xs)
  where
    by : (b : Bool) → length (filter p xs) ≤ length xs → length (cond b (x ∷ filter p xs) (filter p xs)) ≤ length (x ∷ xs)
    by true h = omega arith
    by false h = omega arith

-- there are no more members than memberships
few_members : (t : Tables) (g m : ℕ) → AreWellFormed t → length (members t g m) ≤ 20000
few_members t g m s =
    omega (
      arith,
      s.limit MemberTable,
      length-map t.members Member,
      filter_short (λ (x : MemberRow). (x.group == g) && covers x.from x.to m) t.members,
      length-map (filter (λ (x : MemberRow). (x.group == g) && covers x.from x.to m) t.members) (λ x. x.member),
    )

pub bounded : (t : Tables) (g m : ℕ) → AreWellFormed t → IsBounded (pos (length (members t g m)))
bounded t g m s = omega (arith, few_members t g m s)

pub profile_sum : (t : Tables) (g m : ℕ) (spans : List MemberSpan) (pieces : List Piece) → pieces ≡ map one_more spans → members_among spans m ≡ members t g m → sum_at pieces m ≡ pos (length (members t g m))
profile_sum t g m spans pieces e f = ap (λ ps. sum_at ps m) e ∙ count_is m spans ∙ ap (λ xs. pos (length xs)) f

none_counted : (xs : List ℕ) → length xs ≡ 0 → xs ≡ []
none_counted [] e = refl
none_counted (x ∷ xs) e = absurd (omega arith)

some_counted : (xs : List ℕ) → 1 ≤ length xs → xs ≡ [] → ⊥
some_counted xs l e = let k = ap length e in omega arith

-- ---- gaps

pub gap_at : (t : Tables) (g m : ℕ) (w : Window) (p : Timeline) → EachMinute w.from w.to (λ k. value_at p k ≡ pos (length (members t g k))) → w.from ≤ m → m < w.to → value_at p m <ℤ pos 1
    → EachMinute w.from m (λ k. pos 1 ≤ℤ value_at p k) → IsGap t g w m
gap_at t g m w p counts low high below before = record {
  inside = inside;
  empty = none_counted (members t g m) (let e = counts m low high in omega (arith, ints, below, e));
  before = λ k l h. some_counted (members t g k) (let e = counts k l (omega arith) in omega (arith, ints, before k l h, e));
}
  where
    inside : covers w.from w.to m ≡ true
    inside = grind (arith, nat_tests)

pub filled_by : (t : Tables) (g : ℕ) (w : Window) (p : Timeline) → EachMinute w.from w.to (λ k. value_at p k ≡ pos (length (members t g k))) → EachMinute w.from w.to (λ k. pos 1 ≤ℤ value_at p k) → IsFilled t g w
filled_by t g w p counts all = λ k l h. some_counted (members t g k) (let e = counts k l h in omega (arith, ints, all k l h, e))

-- where a value is there, it is the one
pub some_is : (o : Option ℕ) (P : Type 0) (n : ℕ) (Q : ℕ → Type 0) → SomeIff o P n → Q n → IfSome o Q
some_is None P n Q s q = tt
some_is (Some x) P n Q s q = subst Q (sym s.1) q
