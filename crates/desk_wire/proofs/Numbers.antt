-- The number that digits write, a digit at a time.
use Rattle.std.proofs.Common.{◌≡◌, ℕ, ◌+◌, ◌*◌, ◌-◌, ◌<◌, ◌≤◌, inl, inr, Bool, true, false, IsTrue, ◌&&◌, nat_lt, List, length, take, get_or, min, refl, sym, ap, ◌∙◌, arith}
use Rattle.std.specs.List.{list_all}
use Rattle.std.specs.Char.{is_ascii_digit, digit_value}
use Rattle.std.specs.Str.Parse.{digits_value}
use Rattle.std.proofs.lemmas.Bool.{cases_Bool}
use Rattle.std.proofs.lemmas.Bool.Decides.{nat_tests}
use Rattle.std.proofs.lemmas.Int.Digits.{digits_value_more}
use Rattle.std.proofs.lemmas.List.Folds.{list_all_at}
use Rattle.desk_wire.specs.Framing.{is_number}

digit_within : (c : ℕ) → is_ascii_digit c ≡ true → (48 ≤ c) × (c ≤ 57)
digit_within c e = (grind (arith, nat_tests), grind (arith, nat_tests))

digit_is : (c : ℕ) → 48 ≤ c → c ≤ 57 → digit_value c ≡ c - 48
digit_is c low high = grind (arith, nat_tests)

second_true : (a b : Bool) → IsTrue (a && b) → b ≡ true
second_true true true x = refl
second_true true false x = grind arith
second_true false b x = grind arith

all_digits : (text : List ℕ) → IsTrue (is_number text) → list_all is_ascii_digit text ≡ true
all_digits text x = second_true (nat_lt 0 (length text)) (list_all is_ascii_digit text) x

digit_test : (text : List ℕ) (i : ℕ) → list_all is_ascii_digit text ≡ true → i < length text → is_ascii_digit (get_or text i 0) ≡ true
digit_test text i e within = elim (cases_Bool (is_ascii_digit (get_or text i 0))) [
  | inl h ↦ h
  | inr h ↦ let k = list_all_at is_ascii_digit text i 0 within h in cc
]

-- each byte of a number is a digit
pub digit_at : (text : List ℕ) (i : ℕ) → IsTrue (is_number text) → i < length text → (48 ≤ get_or text i 0) × (get_or text i 0 ≤ 57)
digit_at text i x within = digit_within (get_or text i 0) (digit_test text i (all_digits text x) within)

capped_push : (v n d cap : ℕ) → n ≡ min v cap → min (n * 10 + d) cap ≡ min (v * 10 + d) cap
capped_push v n d cap e = omega arith

-- one digit more
pub capped_more : (text : List ℕ) (i n cap : ℕ) → IsTrue (is_number text) → i < length text → n ≡ min (digits_value 10 (take i text)) cap
    → min (n * 10 + (get_or text i 0 - 48)) cap ≡ min (digits_value 10 (take (i + 1) text)) cap
capped_more text i n cap x within e =
    let within_digits = digit_at text i x within in
    let value = digit_is (get_or text i 0) within_digits.0 within_digits.1 in
    let more = digits_value_more 10 text i within in
    capped_push (digits_value 10 (take i text)) n (get_or text i 0 - 48) cap e
    ∙ ap (λ m. min m cap) (ap (λ d. digits_value 10 (take i text) * 10 + d) (sym value) ∙ sym more)
