-- A text that is no number, no revision or no moment gives no value.
use Rattle.std.proofs.Common.{◌≡◌, ℕ, ◌<◌, ◌≤◌, ◌^◌, decimal, Option, Some, None, MatchOption, SomeIff, sym, ◌∙◌, arith}
use Rattle.std.proofs.lemmas.Fmt.{decimal_injective}
use Rattle.std.specs.Prelude.{List, codes, ◌≢◌}
use Rattle.desk_base.specs.rules.Limits.{revision_limit}
use Rattle.desk_base.specs.declared.search.results.Cursor.{Cursor}
use Rattle.desk_time.specs.Limits.{first_minute, end_of_minutes}
use Rattle.desk_time.specs.Moments.{IsMomentText}
use Rattle.desk_json.specs.Cursors.{cursor_text}
use Rattle.desk_json.specs.CursorReading.{IsCursor}
use Rattle.desk_route.specs.declared.parameters.Value.{Value}
use Rattle.desk_route.specs.declared.parameters.Value.TheVariants.{Limit, After, Latest, From, To, Per, Above}
use Rattle.desk_route.specs.declared.parameters.Form.TheVariants as form
use Rattle.desk_route.specs.Parameters.{IsNumber, IsRevision, IsValue}

-- a number that is too great
pub no_number : (text : List ℕ) (number : ℕ) → text ≡ decimal number → number < 2 ^ 64 → 2 ^ 32 ≤ number → (n : ℕ) → ¬ (IsNumber text n)
no_number text number written small great n is = let same : n ≡ number = decimal_injective n number (omega (arith, is.0)) small (sym is.1 ∙ written) in omega (arith, same, great, is.0)

pub no_revision : (text : List ℕ) (number : ℕ) → text ≡ decimal number → number < 2 ^ 64 → revision_limit < number → (n : ℕ) → ¬ (IsRevision text n)
no_revision text number written small great n is = let same : n ≡ number = decimal_injective n number (omega (arith, is.0)) small (sym is.1 ∙ written) in omega (arith, same, great, is.0)

-- a number that no text of 64 bits has
pub no_small : (text : List ℕ) → ((n : ℕ) → n < 2 ^ 64 → text ≢ decimal n) → (n : ℕ) → ¬ (IsNumber text n)
no_small text none n is = none n (omega (arith, is.0)) is.1

pub no_revision_at_all : (text : List ℕ) → ((n : ℕ) → n < 2 ^ 64 → text ≢ decimal n) → (n : ℕ) → ¬ (IsRevision text n)
no_revision_at_all text none n is = none n (omega (arith, is.0)) is.1

pub moment_found : (text : List ℕ) (n : ℕ) (r : Option ℕ) → IsMomentText text n → SomeIff r ((first_minute ≤ n) × (n ≤ end_of_minutes)) n → MatchOption r ((m : ℕ) → ¬ (IsMomentText text m)) (IsMomentText text)
moment_found text n (Some m) t h = rw h.1 t
moment_found text n None t h = absurd (h t.in_horizon)

-- ---- no value of a form

pub no_limit : (text : List ℕ) → ((n : ℕ) → ¬ (IsNumber text n)) → (v : Value) → ¬ (IsValue form.Limit text v)
no_limit text none (Limit n) is = none n is
no_limit text none _ is = is

pub no_per : (text : List ℕ) → ((n : ℕ) → ¬ (IsNumber text n)) → (v : Value) → ¬ (IsValue form.Per text v)
no_per text none (Per n) is = none n is
no_per text none _ is = is

pub no_latest : (text : List ℕ) → text ≢ codes "latest" → (v : Value) → ¬ (IsValue form.Latest text v)
no_latest text other Latest is = other is
no_latest text other _ is = is

pub no_from : (text : List ℕ) → ((m : ℕ) → ¬ (IsMomentText text m)) → (v : Value) → ¬ (IsValue form.From text v)
no_from text none (From m) is = none m is
no_from text none _ is = is

pub no_to : (text : List ℕ) → ((m : ℕ) → ¬ (IsMomentText text m)) → (v : Value) → ¬ (IsValue form.To text v)
no_to text none (To m) is = none m is
no_to text none _ is = is

pub no_above : (text : List ℕ) → ((n : ℕ) → ¬ (IsRevision text n)) → (v : Value) → ¬ (IsValue form.Above text v)
no_above text none (Above n) is = none n is
no_above text none _ is = is

pub no_after : (text : List ℕ) → ((c : Cursor) → IsCursor c → text ≢ cursor_text c) → (v : Value) → ¬ (IsValue form.After text v)
no_after text none (After c) is = none c is.0 is.1
no_after text none _ is = is
