-- What of memberships lies in a window, row by row, and who is a member by it.
use Rattle.std.proofs.Common.{◌≡◌, ℕ, ◌+◌, ◌<◌, ◌≤◌, Bool, true, false, cond, ◌&&◌, ◌==◌, nat_lt, max, min, List, [], ◌∷◌, ◌++◌, length, take, get_or, map, refl, sym, ap, ◌∙◌, arith}
use Rattle.std.proofs.lemmas.Bool.Decides.{nat_tests}
use Rattle.std.proofs.lemmas.List.{take_more}
use Rattle.std.specs.Prelude.{filter}
use Rattle.desk_base.specs.declared.rows.tables.Tables.{Tables}
use Rattle.desk_base.specs.declared.rows.resources.MemberRow.{MemberRow}
use Rattle.desk_base.specs.declared.values.minutes.Window.{Window}
use Rattle.desk_base.specs.meaning.Time.{covers}
use Rattle.desk_base.specs.meaning.Load.{members}
use Rattle.desk_member.specs.declared.spans.MemberSpan.{MemberSpan}
use Rattle.desk_member.specs.Spans.{span_in, spans_of, spans_in, members_among}

pub spans-append : (w : Window) (xs ys : List MemberRow) → spans_of w (xs ++ ys) ≡ spans_of w xs ++ spans_of w ys
spans-append w [] ys = refl
spans-append w (x ∷ xs) ys = by (nat_lt (span_in w x).from (span_in w x).to) (spans-append w xs ys)
  where
    by : (b : Bool) → spans_of w (xs ++ ys) ≡ spans_of w xs ++ spans_of w ys
        → cond b (span_in w x ∷ spans_of w (xs ++ ys)) (spans_of w (xs ++ ys)) ≡ cond b (span_in w x ∷ spans_of w xs) (spans_of w xs) ++ spans_of w ys
    by true e = ap (λ l. span_in w x ∷ l) e
    by false e = e

-- one membership more
pub spans_more : (w : Window) (rows : List MemberRow) (i : ℕ) (x : MemberRow) → i < length rows → x ≡ get_or rows i x → spans_of w (take i rows) ++ spans_of w (x ∷ []) ≡ spans_of w (take (i + 1) rows)
spans_more w rows i x l e = sym (ap (spans_of w) (take_more rows i x l ∙ ap (λ y. take i rows ++ y ∷ []) (sym e)) ∙ spans-append w (take i rows) (x ∷ []))

pub one_span : (w : Window) (x : MemberRow) → (span_in w x).from < (span_in w x).to → spans_of w (x ∷ []) ≡ span_in w x ∷ []
one_span w x l = ap (λ b. cond b (span_in w x ∷ []) []) e
  where
    e : nat_lt (span_in w x).from (span_in w x).to ≡ true
    e = grind (arith, nat_tests)

pub no_span : (w : Window) (x : MemberRow) → (span_in w x).to ≤ (span_in w x).from → spans_of w (x ∷ []) ≡ []
no_span w x l = ap (λ b. cond b (span_in w x ∷ []) []) e
  where
    e : nat_lt (span_in w x).from (span_in w x).to ≡ false
    e = grind (arith, nat_tests)

module _ (g m : ℕ) (w : Window) (h : covers w.from w.to m ≡ true) where
  abbrev covered : MemberSpan → Bool
  covered s = covers s.from s.to m

  abbrev among : List MemberSpan → List ℕ
  among ss = map (λ (s : MemberSpan). s.member) (filter covered ss)

  abbrev of_group : List MemberRow → List MemberRow
  of_group rows = filter (λ x. x.group == g) rows

  there : (a b c d : ℕ) → covers a b m ≡ true → covers c d m ≡ true → (nat_lt (max a c) (min b d) ≡ true) × (covers (max a c) (min b d) m ≡ true)
  there a b c d p q = (grind (arith, nat_tests), grind (arith, nat_tests))

  not_there : (a b c d : ℕ) → covers c d m ≡ false → covers (max a c) (min b d) m ≡ false
  not_there a b c d p = grind (arith, nat_tests)

  pub members_by_row : (rows : List MemberRow) → among (spans_of w (of_group rows)) ≡ map (λ (x : MemberRow). x.member) (filter (λ x. (x.group == g) && covers x.from x.to m) rows)
  members_by_row [] = refl
  members_by_row (x ∷ xs) = by (x.group == g) (covers x.from x.to m) refl (members_by_row xs)
    where
      s : MemberSpan
      s = span_in w x

      rest : List MemberSpan
      rest = spans_of w (of_group xs)

      dropped : (b : Bool) → covered s ≡ false → among (cond b (s ∷ rest) rest) ≡ among rest
      dropped true e = ap (λ b. map (λ (s : MemberSpan). s.member) (cond b (s ∷ filter covered rest) (filter covered rest))) e
      dropped false e = refl

      by : (a b : Bool) → covers x.from x.to m ≡ b → among rest ≡ map (λ (x : MemberRow). x.member) (filter (λ x. (x.group == g) && covers x.from x.to m) xs)
          → among (spans_of w (cond a (x ∷ of_group xs) (of_group xs))) ≡ map (λ (x : MemberRow). x.member) (cond (a && b) (x ∷ filter (λ x. (x.group == g) && covers x.from x.to m) xs) (filter (λ x. (x.group == g) && covers x.from x.to m) xs))
      by true true e r =
          let k = there w.from w.to x.from x.to h e in
          ap (λ b. among (cond b (s ∷ rest) rest)) k.0 ∙ ap (λ b. map (λ (s : MemberSpan). s.member) (cond b (s ∷ filter covered rest) (filter covered rest))) k.1 ∙ ap (λ l. x.member ∷ l) r
      by true false e r = dropped (nat_lt s.from s.to) (not_there w.from w.to x.from x.to e) ∙ r
      by false b e r = r

-- at a minute of the window the spans name the members
pub members_are : (t : Tables) (g m : ℕ) (w : Window) → w.from ≤ m → m < w.to → members_among (spans_in t g w) m ≡ members t g m
members_are t g m w l h = members_by_row g m w inside t.members
  where
    inside : covers w.from w.to m ≡ true
    inside = grind (arith, nat_tests)
