-- Runs with one more behind them: appended, or joined with the last.
use Rattle.std.proofs.Common.{◌≡◌, ℕ, zero, suc, ◌+◌, ◌<◌, ◌≤◌, Bool, true, false, leb, ltb, ◌||◌, List, [], ◌∷◌, ◌++◌, length, get_or, set, refl, ap, sym, subst, ◌∙◌, inl, inr, arith}
use Rattle.std.specs.List.{All}
use Rattle.std.proofs.lemmas.Bool.{cases_lt}
use Rattle.std.proofs.lemmas.List.{get_or_default}
use Rattle.std.proofs.lemmas.List.Elements.{All-push, All-set}
use Rattle.desk_spans.specs.declared.run.Run.{Run}
use Rattle.desk_spans.specs.Runs.{covers, has_minute, AreApart, IsAppended}

pub or-false : (a : Bool) → (a || false) ≡ a
or-false true = refl
or-false false = refl

or_assoc : (a b c : Bool) → (a || (b || c)) ≡ ((a || b) || c)
or_assoc true b c = refl
or_assoc false b c = refl

-- ---- appended

-- a list that is apart and ends with the run at i, which a later run does not touch
AreApart-push : (low : ℕ) (rs : List Run) (i : ℕ) (run d : Run) → suc i ≡ length rs → AreApart low rs → run.from < run.to → (get_or rs i d).to < run.from → AreApart low (rs ++ run ∷ [])
AreApart-push low [] i run d last apart some gap = absurd (omega arith)
AreApart-push low (r ∷ []) zero run d last apart some gap = (apart.0, apart.1, (omega arith, some, tt))
AreApart-push low (r ∷ s ∷ rest) zero run d last apart some gap = absurd (omega arith)
AreApart-push low (r ∷ rest) (suc i) run d last apart some gap = (apart.0, apart.1, AreApart-push (r.to + 1) rest i run d (omega arith) apart.2 some gap)

has_minute-push : (rs : List Run) (run : Run) (m : ℕ) → has_minute (rs ++ run ∷ []) m ≡ (has_minute rs m || covers run m)
has_minute-push [] run m = or-false (covers run m)
has_minute-push (r ∷ rest) run m = ap (λ b. covers r m || b) (has_minute-push rest run m) ∙ or_assoc (covers r m) (has_minute rest m) (covers run m)

weaker : (bound : ℕ) (rs : List Run) (run : Run) → run.to ≤ bound → All (λ r. r.to ≤ bound) rs → All (λ r. r.to ≤ bound) (rs ++ run ∷ [])
weaker bound rs run within all = All-push (λ r. r.to ≤ bound) rs run all within

pub appended_first : (run : Run) → run.from < run.to → IsAppended [] run (run ∷ [])
appended_first run some = record {
  apart = (omega arith, some, tt);
  minutes = λ m. or-false (covers run m);
  ends = λ bound within all. weaker bound [] run within all;
}

pub appended_push : (rs : List Run) (i : ℕ) (run d : Run) → suc i ≡ length rs → AreApart 0 rs → run.from < run.to → (get_or rs i d).to < run.from → IsAppended rs run (rs ++ run ∷ [])
appended_push rs i run d last apart some gap = record {
  apart = AreApart-push 0 rs i run d last apart some gap;
  minutes = has_minute-push rs run;
  ends = λ bound within all. weaker bound rs run within all;
}

-- ---- joined with the last

AreApart-set : (low : ℕ) (rs : List Run) (i : ℕ) (run d : Run) → suc i ≡ length rs → AreApart low rs → run.from < run.to → (get_or rs i d).to ≡ run.from → AreApart low (set rs i (record { from = (get_or rs i d).from; to = run.to }))
AreApart-set low [] i run d last apart some touch = absurd (omega arith)
AreApart-set low (r ∷ []) zero run d last apart some touch = (apart.0, omega (arith, apart.1), tt)
AreApart-set low (r ∷ s ∷ rest) zero run d last apart some touch = absurd (omega arith)
AreApart-set low (r ∷ rest) (suc i) run d last apart some touch = (apart.0, apart.1, AreApart-set (r.to + 1) rest i run d (omega arith) apart.2 some touch)

-- two runs that touch have the minutes of the one that they make
covers_joined : (r run : Run) (m : ℕ) → r.from < r.to → run.from < run.to → r.to ≡ run.from → covers (record { from = r.from; to = run.to }) m ≡ (covers r m || covers run m)
covers_joined r run m there some touch =
    elim (cases_lt m r.from) [
      | inl before ↦
          let a : leb r.from m ≡ false = grind arith in
          let b : leb run.from m ≡ false = grind arith in
          rw (a, b) refl
      | inr begun ↦
          let a : leb r.from m ≡ true = grind arith in
          elim (cases_lt m r.to) [
            | inl first ↦
                let b : ltb m r.to ≡ true = grind arith in
                let c : ltb m run.to ≡ true = grind arith in
                rw (a, b, c) refl
            | inr second ↦
                let b : ltb m r.to ≡ false = grind arith in
                let c : leb run.from m ≡ true = grind arith in
                rw (a, b, c) refl
          ]
    ]

has_minute-set : (low : ℕ) (rs : List Run) (i : ℕ) (run d : Run) (m : ℕ) → suc i ≡ length rs → AreApart low rs → run.from < run.to → (get_or rs i d).to ≡ run.from → has_minute (set rs i (record { from = (get_or rs i d).from; to = run.to })) m ≡ (has_minute rs m || covers run m)
has_minute-set low [] i run d m last apart some touch = absurd (omega arith)
has_minute-set low (r ∷ []) zero run d m last apart some touch =
    or-false (covers (record { from = r.from; to = run.to }) m) ∙ covers_joined r run m apart.1 some touch ∙ ap (λ b. b || covers run m) (sym (or-false (covers r m)))
has_minute-set low (r ∷ s ∷ rest) zero run d m last apart some touch = absurd (omega arith)
has_minute-set low (r ∷ rest) (suc i) run d m last apart some touch =
    ap (λ b. covers r m || b) (has_minute-set (r.to + 1) rest i run d m (omega arith) apart.2 some touch) ∙ or_assoc (covers r m) (has_minute rest m) (covers run m)

appended_set : (rs : List Run) (i : ℕ) (run d : Run) → suc i ≡ length rs → AreApart 0 rs → run.from < run.to → (get_or rs i d).to ≡ run.from → IsAppended rs run (set rs i (record { from = (get_or rs i d).from; to = run.to }))
appended_set rs i run d last apart some touch = record {
  apart = AreApart-set 0 rs i run d last apart some touch;
  minutes = λ m. has_minute-set 0 rs i run d m last apart some touch;
  ends = λ bound within all. All-set (λ r. r.to ≤ bound) rs i (record { from = (get_or rs i d).from; to = run.to }) within all;
}

-- what is read at a place, at any default
pub end_read : (rs : List Run) (i : ℕ) (r d : Run) → i < length rs → r ≡ get_or rs i r → (get_or rs i d).to ≡ r.to
end_read rs i r d there read = ap (λ (s : Run). s.to) (get_or_default rs i d r there ∙ sym read)

-- the same where the last run was read
pub appended_set_read : (rs : List Run) (i : ℕ) (run r : Run) → suc i ≡ length rs → AreApart 0 rs → run.from < run.to → r ≡ get_or rs i r → (get_or rs i r).to ≡ run.from → IsAppended rs run (set rs i (record { from = r.from; to = run.to }))
appended_set_read rs i run r last apart some read touch =
    subst (λ (from : ℕ). IsAppended rs run (set rs i (record { from = from; to = run.to }))) (ap (λ (s : Run). s.from) (sym read))
    (appended_set rs i run r last apart some touch)
