-- A text without padding parses as just the number whose decimal it is.
use Rattle.std.proofs.Common.{◌≡◌, ◌≢◌, ℕ, ◌<◌, ◌^◌, List, length, get_or, decimal, Result, Ok, Err, Option, Some, None, SomeIff, inl, inr, sym, ap, subst, ◌∙◌, arith, IsUtf8}
use Rattle.std.specs.Result.{result_ok}
use Rattle.std.specs.Str.Parse.{AllDigits, digits_value, ParsesUnsigned}
use Rattle.std.proofs.lemmas.Str.{IsUtf8-from_ascii}
use Rattle.std.proofs.lemmas.Str.Parse.{IsNumeralModel, numerals_by_value, tells_digits, parse_plain, not_in_digits}
use Rattle.std.proofs.lemmas.Fmt.{decimal_injective, decimal-digits_value, parse-decimal, digits_decimal, first_decimal, decimal_nonempty, length-decimal-le_succ, IsAscii-decimal}
use Rattle.desk_base.specs.rules.Limits.{id_limit}
use Rattle.desk_json.specs.Decimals.{IsPadded, IsId, ReadsNumber, ReadsId}

pub own : IsNumeralModel (AllDigits 10) (digits_value 10)
own = numerals_by_value (AllDigits 10) tells_digits

-- no number is written with padding
pub decimal_not_padded : (text : List ℕ) (n : ℕ) → n < 2 ^ 64 → text ≡ decimal n → ¬ (IsPadded text)
decimal_not_padded text n small e (inl plus) =
    not_in_digits own (decimal n) 43 (digits_decimal own n small) (λ r. omega (arith, r)) 0 (decimal_nonempty n small) (ap (λ t. get_or t 0 0) (sym e) ∙ plus)
decimal_not_padded text n small e (inr zero) =
    omega (arith, ap length e, ap (λ t. get_or t 0 0) e, λ (some : 0 < n). first_decimal n some small, length-decimal-le_succ n small)

-- nor in bytes that are no text
pub decimal_is_text : (text : List ℕ) (n : ℕ) → n < 2 ^ 64 → text ≡ decimal n → IsUtf8 text
decimal_is_text text n small e = subst IsUtf8 (sym e) (IsUtf8-from_ascii (decimal n) (IsAscii-decimal n small))

pub parse_exact : {E : Type 0} (text : List ℕ) (r : Result ℕ E) → ¬ (IsPadded text) → ParsesUnsigned 64 10 text r → ReadsNumber text (result_ok r)
parse_exact {E} text (Ok x) plain h =
    let read = parse_plain own {E = E} 64 text (Ok x) h (λ e. plain (inl e)) in
    let one : get_or text 0 0 ≡ 48 → length text ≡ 1 = λ z. let short : ¬ (1 < length text) = λ l. plain (inr (z, l)) in omega (arith, short, read.0.1) in
    sym (ap (λ n. decimal n) read.1 ∙ decimal-digits_value own text read.0.0 read.0.1 one read.0.2)
parse_exact {E} text (Err e) plain h = λ n small is. let bad : Err e ≡ Ok n = parse-decimal 64 n text (Err e) small small is h in cc

-- the number is the id where it is one, and no id is written so where it is none
pub id_of : (text : List ℕ) (n : ℕ) (r : Option ℕ) → n < 2 ^ 64 → text ≡ decimal n → SomeIff r (IsId n) n → ReadsId text r
id_of text n None small e h = λ id is f. let same : n ≡ id = decimal_injective n id small (omega arith) (sym e ∙ f) in h (omega arith, omega arith)
id_of text n (Some id) small e h = rw h.1 (h.0, e)

-- a number that no id has
pub no_id_above : (text : List ℕ) (n : ℕ) → n < 2 ^ 64 → text ≡ decimal n → id_limit < n → ReadsId text None
no_id_above text n small e above = λ id is f. let same : n ≡ id = decimal_injective n id small (omega arith) (sym e ∙ f) in omega arith

-- where one number is written, no other is
pub no_other : (text : List ℕ) (n : ℕ) → n < 2 ^ 64 → text ≡ decimal n → (IsValue : ℕ → Type 0) → ((x : ℕ) → IsValue x → x < 2 ^ 64) → ¬ (IsValue n) → (x : ℕ) → IsValue x → text ≢ decimal x
no_other text n small e IsValue bound not x is f = let same : x ≡ n = decimal_injective x n (bound x is) small (sym f ∙ e) in not (subst IsValue same is)
