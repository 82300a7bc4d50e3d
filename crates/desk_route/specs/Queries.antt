-- What a query asks: its pairs are read in order, and the first that breaks a rule is told.
use Rattle.std.specs.Prelude.{◌≡◌, ℕ, Bool, true, false, List, [], ◌∷◌, map, Option, Some, None, Result, Ok, Err, MatchResult, ⊤}
use Rattle.std.specs.Str.Lossy.{utf8_lossy}
use Rattle.form_urlencoded.specs.Form.{raw_pairs, decode}
use Rattle.desk_route.specs.declared.refusals.WebRefusal.{WebRefusal}
use Rattle.desk_route.specs.declared.refusals.WebRefusal.TheVariants.{BadParameter, BadCursor}
use Rattle.desk_route.specs.declared.refusals.Parameter.TheVariants as parameter
use Rattle.desk_route.specs.declared.refusals.Fault.{Fault}
use Rattle.desk_route.specs.declared.refusals.Fault.TheVariants as fault
use Rattle.desk_route.specs.declared.parameters.Form.{Form}
use Rattle.desk_route.specs.declared.parameters.Form.TheVariants as form
use Rattle.desk_route.specs.declared.parameters.Value.{Value}
use Rattle.desk_route.specs.declared.parameters.Asked.{Asked}
use Rattle.desk_route.specs.Parameters.{parameter_of, named, IsValue, is_given, with_value, nothing_asked}

-- one or the other, by a test
abbrev pub IfSo : Bool → Type 0 → Type 0 → Type 0
IfSo true P Q = P
IfSo false P Q = Q

-- the answer is what reading gives, but that memory may be wanting
abbrev pub OrNoMemory : {X : Type 0} → (Result X WebRefusal → Type 0) → Result X Fault → Type 0
OrNoMemory Reads (Ok x) = Reads (Ok x)
OrNoMemory Reads (Err (fault.Refused why)) = Reads (Err why)
OrNoMemory Reads (Err fault.NoMemory) = ⊤

-- ---- the pairs of a query

-- a name or a value is percent-decoded, `+` is a space, and what is no UTF-8 then becomes U+FFFD
abbrev pub text_of : List ℕ → List ℕ
text_of bytes = utf8_lossy (decode bytes)

abbrev pub text_pair : List ℕ × List ℕ → List ℕ × List ℕ
text_pair pair = (text_of pair.0, text_of pair.1)

-- the names and values between the `&`, each cut at its first `=`; an empty piece is none
abbrev pub pairs_of : List ℕ → List (List ℕ × List ℕ)
pairs_of query = map text_pair (raw_pairs query)

-- ---- one pair

-- the refusal of a value that is not of its form
abbrev pub bad_value : Form → WebRefusal
bad_value form.After = BadCursor
bad_value form = BadParameter (parameter_of form)

-- a value of the form, or its refusal
abbrev pub ReadsValue : Form → List ℕ → Result Value WebRefusal → Type 0
ReadsValue form text (Ok value) = IsValue form text value
ReadsValue form text (Err why) = (why ≡ bad_value form) × ((value : Value) → ¬ (IsValue form text value))

-- the value of a parameter that was not given before
abbrev pub ReadsNew : Asked → Form → List ℕ → Result Value WebRefusal → Type 0
ReadsNew asked form text r = IfSo (is_given form asked) (r ≡ Err (BadParameter (parameter_of form))) (ReadsValue form text r)

-- the value of a parameter that the route has
abbrev pub ReadsNamed : Asked → Option Form → List ℕ → Result Value WebRefusal → Type 0
ReadsNamed asked None text r = r ≡ Err (BadParameter parameter.Other)
ReadsNamed asked (Some form) text r = ReadsNew asked form text r

-- a pair, where this was asked by the pairs before it
abbrev pub ReadsPair : List Form → Asked → List ℕ × List ℕ → Result Value WebRefusal → Type 0
ReadsPair forms asked pair r = ReadsNamed asked (named forms pair.0) pair.1 r

-- ---- all pairs

-- what the pairs ask together with what was asked by those before them, or the refusal of the first that breaks a rule
abbrev pub ReadsPairs : List Form → Asked → List (List ℕ × List ℕ) → Result Asked WebRefusal → Type 0
ReadsPairs forms asked [] r = r ≡ Ok asked
ReadsPairs forms asked (pair ∷ pairs) r =
    (one : Result Value WebRefusal) × ReadsPair forms asked pair one × MatchResult one (λ value. ReadsPairs forms (with_value asked value) pairs r) (λ why. r ≡ Err why)

-- what a query asks of a route with these parameters, or its refusal
abbrev pub ReadsQuery : List Form → List ℕ → Result Asked WebRefusal → Type 0
ReadsQuery forms query r = ReadsPairs forms nothing_asked (pairs_of query) r
