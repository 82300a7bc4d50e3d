-- The intersection of two lists of runs, one pair of first runs after the other.
use Rattle.std.proofs.Common.{◌≡◌, ℕ, ◌+◌, ◌<◌, ◌≤◌, min, max, Bool, true, false, leb, ltb, ◌&&◌, ◌||◌, List, [], ◌∷◌, length, get_or, refl, ap, sym, ◌∙◌, ◌⊎◌, inl, inr, arith}
use Rattle.std.specs.List.{All}
use Rattle.std.proofs.lemmas.Bool.{cases_lt, cases_order}
use Rattle.std.proofs.lemmas.List.Elements.{All-weaker}
use Rattle.desk_spans.specs.declared.run.Run.{Run}
use Rattle.desk_spans.specs.Runs.{covers, has_minute, AreApart, without_ended}

AreApart-weaker : (low high : ℕ) (rs : List Run) → low ≤ high → AreApart high rs → AreApart low rs
AreApart-weaker low high [] h apart = tt
AreApart-weaker low high (r ∷ rest) h apart = (omega (arith, apart.0), apart.1, apart.2)

-- no minute comes before the first run
has_minute-before : (low : ℕ) (rs : List Run) (m : ℕ) → AreApart low rs → m < low → has_minute rs m ≡ false
has_minute-before low [] m apart before = refl
has_minute-before low (r ∷ rest) m apart before =
    let outside : leb r.from m ≡ false = (let begins : low ≤ r.from = apart.0 in grind arith) in
    let later = has_minute-before (r.to + 1) rest m apart.2 (omega (arith, apart.0, apart.1)) in
    rw (outside, later) refl

-- the first run does not end before `low`
abbrev pub EndsBehind : ℕ → List Run → Type 0
EndsBehind low [] = Unit {0}
EndsBehind low (r ∷ rest) = low ≤ r.to

-- how far the intersection of a and b has come: `both` has what was found, up to `low`
pub record Stands (low : ℕ) (both left right a b : List Run) : Type 0 where
  pub apart : AreApart 0 both
  pub found : All (λ r. r.to ≤ low) both
  pub left_apart : AreApart 0 left
  pub right_apart : AreApart 0 right
  pub left_end : EndsBehind low left
  pub right_end : EndsBehind low right
  pub begun : AreApart low left ⊎ AreApart low right
  pub minutes : (m : ℕ) → (has_minute both m || (has_minute left m && has_minute right m)) ≡ (has_minute a m && has_minute b m)

EndsBehind-rest : (low high : ℕ) (rs : List Run) → low ≤ high → AreApart high rs → EndsBehind low rs
EndsBehind-rest low high [] h apart = tt
EndsBehind-rest low high (r ∷ rest) h apart = omega (arith, apart.0, apart.1)

and-false : (a : Bool) → (a && false) ≡ false
and-false true = refl
and-false false = refl

leb-max : (a b m : ℕ) → leb (max a b) m ≡ (leb a m && leb b m)
leb-max a b m =
    elim (cases_lt m a) [
      | inl below ↦ (let p : leb a m ≡ false = grind arith in let q : leb (max a b) m ≡ false = grind arith in rw (p, q) refl)
      | inr above ↦
          let p : leb a m ≡ true = grind arith in
          elim (cases_lt m b) [
            | inl below ↦ (let q : leb b m ≡ false = grind arith in let r : leb (max a b) m ≡ false = grind arith in rw (p, q, r) refl)
            | inr beyond ↦ (let q : leb b m ≡ true = grind arith in let r : leb (max a b) m ≡ true = grind arith in rw (p, q, r) refl)
          ]
    ]

ltb-min : (a b m : ℕ) → ltb m (min a b) ≡ (ltb m a && ltb m b)
ltb-min a b m =
    elim (cases_lt m a) [
      | inr above ↦ (let p : ltb m a ≡ false = grind arith in let q : ltb m (min a b) ≡ false = grind arith in rw (p, q) refl)
      | inl below ↦
          let p : ltb m a ≡ true = grind arith in
          elim (cases_lt m b) [
            | inr above ↦ (let q : ltb m b ≡ false = grind arith in let r : ltb m (min a b) ≡ false = grind arith in rw (p, q, r) refl)
            | inl beneath ↦ (let q : ltb m b ≡ true = grind arith in let r : ltb m (min a b) ≡ true = grind arith in rw (p, q, r) refl)
          ]
    ]

and_pairs : (p q r s : Bool) → ((p && q) && (r && s)) ≡ ((p && r) && (q && s))
and_pairs true true r s = refl
and_pairs true false true s = refl
and_pairs true false false s = refl
and_pairs false q r s = refl

covers-common : (x y : Run) (m : ℕ) → covers (record { from = max x.from y.from; to = min x.to y.to }) m ≡ (covers x m && covers y m)
covers-common x y m =
    ap (λ b. b && ltb m (min x.to y.to)) (leb-max x.from y.from m) ∙ ap (λ b. (leb x.from m && leb y.from m) && b) (ltb-min x.to y.to m)
    ∙ and_pairs (leb x.from m) (leb y.from m) (ltb m x.to) (ltb m y.to)

-- what two unions have in common, where the first runs meet no later run of the other list
meet_left : (both x y xs ys : Bool) → (x ≡ true → ys ≡ false) → ((both || (x && y)) || (xs && (y || ys))) ≡ (both || ((x || xs) && (y || ys)))
meet_left true x y xs ys h = refl
meet_left false false y xs ys h = refl
meet_left false true true xs ys h = refl
meet_left false true false true ys h = refl
meet_left false true false false ys h = sym (h refl)

meet_right : (both x y xs ys : Bool) → (y ≡ true → xs ≡ false) → ((both || (x && y)) || ((x || xs) && ys)) ≡ (both || ((x || xs) && (y || ys)))
meet_right true x y xs ys h = refl
meet_right false false false xs ys h = refl
meet_right false false true xs ys h = rw (h refl) refl
meet_right false true false xs ys h = refl
meet_right false true true xs ys h = refl

meet_both : (both x y xs ys : Bool) → (x ≡ true → ys ≡ false) → (y ≡ true → xs ≡ false) → ((both || (x && y)) || (xs && ys)) ≡ (both || ((x || xs) && (y || ys)))
meet_both true x y xs ys h k = refl
meet_both false false false xs ys h k = refl
meet_both false false true xs ys h k = rw (k refl) refl
meet_both false true false xs ys h k = rw (h refl) (and-false xs)
meet_both false true true xs ys h k = refl

covers_below : (r : Run) (m : ℕ) → covers r m ≡ true → m < r.to
covers_below r m inside =
    elim (cases_lt m r.to) [
      | inl below ↦ below
      | inr above ↦
          let outside : ltb m r.to ≡ false = grind arith in
          let wrong : false ≡ true = sym (and-false (leb r.from m)) ∙ rw outside at inside in
          absurd (cc)
    ]

-- no later run has a minute of a run that ends before it
apart_from : (r s : Run) (rest : List Run) (m : ℕ) → AreApart (s.to + 1) rest → r.to ≤ s.to → covers r m ≡ true → has_minute rest m ≡ false
apart_from r s rest m apart h inside = has_minute-before (s.to + 1) rest m apart (omega (arith, covers_below r m inside))

-- what is found more, and what is left then
record Finds (both more : List Run) (x y : Run) : Type 0 where
  apart : AreApart 0 more
  found : All (λ r. r.to ≤ min x.to y.to) more
  minutes : (m : ℕ) → has_minute more m ≡ (has_minute both m || (covers x m && covers y m))

step_left : (low : ℕ) (both more : List Run) (x y : Run) (xs ys a b : List Run) → Stands low both (x ∷ xs) (y ∷ ys) a b → Finds both more x y → x.to < y.to → Stands (min x.to y.to) more xs (y ∷ ys) a b
step_left low both more x y xs ys a b s f less = record {
  apart = f.apart;
  found = f.found;
  left_apart = AreApart-weaker 0 (x.to + 1) xs (omega arith) s.left_apart.2;
  right_apart = s.right_apart;
  left_end = EndsBehind-rest (min x.to y.to) (x.to + 1) xs (omega arith) s.left_apart.2;
  right_end = omega arith;
  begun = inl (AreApart-weaker (min x.to y.to) (x.to + 1) xs (omega arith) s.left_apart.2);
  minutes = λ m. ap (λ v. v || (has_minute xs m && (covers y m || has_minute ys m))) (f.minutes m)
      ∙ meet_left (has_minute both m) (covers x m) (covers y m) (has_minute xs m) (has_minute ys m)
      (apart_from x y ys m s.right_apart.2 (omega arith))
      ∙ s.minutes m;
}

step_right : (low : ℕ) (both more : List Run) (x y : Run) (xs ys a b : List Run) → Stands low both (x ∷ xs) (y ∷ ys) a b → Finds both more x y → y.to < x.to → Stands (min x.to y.to) more (x ∷ xs) ys a b
step_right low both more x y xs ys a b s f less = record {
  apart = f.apart;
  found = f.found;
  left_apart = s.left_apart;
  right_apart = AreApart-weaker 0 (y.to + 1) ys (omega arith) s.right_apart.2;
  left_end = omega arith;
  right_end = EndsBehind-rest (min x.to y.to) (y.to + 1) ys (omega arith) s.right_apart.2;
  begun = inr (AreApart-weaker (min x.to y.to) (y.to + 1) ys (omega arith) s.right_apart.2);
  minutes = λ m. ap (λ v. v || ((covers x m || has_minute xs m) && has_minute ys m)) (f.minutes m)
      ∙ meet_right (has_minute both m) (covers x m) (covers y m) (has_minute xs m) (has_minute ys m)
      (apart_from y x xs m s.left_apart.2 (omega arith))
      ∙ s.minutes m;
}

step_both : (low : ℕ) (both more : List Run) (x y : Run) (xs ys a b : List Run) → Stands low both (x ∷ xs) (y ∷ ys) a b → Finds both more x y → x.to ≡ y.to → Stands (min x.to y.to) more xs ys a b
step_both low both more x y xs ys a b s f same = record {
  apart = f.apart;
  found = f.found;
  left_apart = AreApart-weaker 0 (x.to + 1) xs (omega arith) s.left_apart.2;
  right_apart = AreApart-weaker 0 (y.to + 1) ys (omega arith) s.right_apart.2;
  left_end = EndsBehind-rest (min x.to y.to) (x.to + 1) xs (omega arith) s.left_apart.2;
  right_end = EndsBehind-rest (min x.to y.to) (y.to + 1) ys (omega arith) s.right_apart.2;
  begun = inl (AreApart-weaker (min x.to y.to) (x.to + 1) xs (omega arith) s.left_apart.2);
  minutes = λ m. ap (λ v. v || (has_minute xs m && has_minute ys m)) (f.minutes m)
      ∙ meet_both (has_minute both m) (covers x m) (covers y m) (has_minute xs m) (has_minute ys m)
      (apart_from x y ys m s.right_apart.2 (omega arith)) (apart_from y x xs m s.left_apart.2 (omega arith))
      ∙ s.minutes m;
}

-- the run at the front, as code reads it
abbrev pub front : List Run → Run
front rs = get_or rs 0 (record { from = 0; to = 0 })

-- with that run found, the intersection goes on behind its end
pub stands_step : (low : ℕ) (both more left right a b : List Run) → 0 < length left → 0 < length right → Stands low both left right a b
    → AreApart 0 more → ((bound : ℕ) → min (front left).to (front right).to ≤ bound → All (λ r. r.to ≤ bound) both → All (λ r. r.to ≤ bound) more)
    → ((m : ℕ) → has_minute more m ≡ (has_minute both m || covers (record { from = max (front left).from (front right).from; to = min (front left).to (front right).to }) m))
    → Stands (min (front left).to (front right).to) more (without_ended left (min (front left).to (front right).to)) (without_ended right (min (front left).to (front right).to)) a b
stands_step low both more [] right a b some also s apart ends minutes = absurd (omega arith)
stands_step low both more (x ∷ xs) [] a b some also s apart ends minutes = absurd (omega arith)
stands_step low both more (x ∷ xs) (y ∷ ys) a b some also s apart ends minutes =
    let finds : Finds both more x y = record {
      apart = apart;
      found = ends (min x.to y.to) (omega arith) (All-weaker (λ r. r.to ≤ low) (λ r. r.to ≤ min x.to y.to) (λ r h. omega (arith, s.left_end, s.right_end)) both s.found);
      minutes = λ m. minutes m ∙ ap (λ v. has_minute both m || v) (covers-common x y m);
    } in
    elim (cases_order x.to y.to) [
      | inl same ↦
          let p : leb x.to (min x.to y.to) ≡ true = grind arith in
          let q : leb y.to (min x.to y.to) ≡ true = grind arith in
          rw (p, q) (step_both low both more x y xs ys a b s finds same)
      | inr other ↦ elim other [
        | inl less ↦
            let p : leb x.to (min x.to y.to) ≡ true = grind arith in
            let q : leb y.to (min x.to y.to) ≡ false = grind arith in
            rw (p, q) (step_left low both more x y xs ys a b s finds less)
        | inr more_than ↦
            let p : leb x.to (min x.to y.to) ≡ false = grind arith in
            let q : leb y.to (min x.to y.to) ≡ true = grind arith in
            rw (p, q) (step_right low both more x y xs ys a b s finds more_than)
      ]
    ]
