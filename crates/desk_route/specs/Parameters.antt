-- The parameters of requests: their names, and the values of each.
use Rattle.std.specs.Prelude.{◌≡◌, ℕ, ◌<◌, ◌≤◌, ◌^◌, Bool, false, true, List, [], ◌∷◌, codes, decimal, bytes_eq, find, Option, Some, None, is_some}
use Rattle.desk_base.specs.rules.Limits.{revision_limit}
use Rattle.desk_time.specs.Moments.{IsMomentText}
use Rattle.desk_json.specs.Cursors.{cursor_text}
use Rattle.desk_json.specs.CursorReading.{IsCursor}
use Rattle.desk_route.specs.declared.refusals.Parameter.{Parameter}
use Rattle.desk_route.specs.declared.refusals.Parameter.TheVariants as parameter
use Rattle.desk_route.specs.declared.parameters.Form.{Form}
use Rattle.desk_route.specs.declared.parameters.Form.TheVariants as form
use Rattle.desk_route.specs.declared.parameters.Value.{Value}
use Rattle.desk_route.specs.declared.parameters.Value.TheVariants as value
use Rattle.desk_route.specs.declared.parameters.Asked.{Asked}

-- the name of a parameter
abbrev pub parameter_name : Parameter → List ℕ
parameter_name parameter.Id = codes "id"
parameter_name parameter.Limit = codes "limit"
parameter_name parameter.After = codes "after"
parameter_name parameter.At = codes "at"
parameter_name parameter.From = codes "from"
parameter_name parameter.To = codes "to"
parameter_name parameter.Per = codes "per"
parameter_name parameter.Other = codes "other"

-- the parameter that has the form: `from` is a moment for rows, and a revision for the journal
abbrev pub parameter_of : Form → Parameter
parameter_of form.Limit = parameter.Limit
parameter_of form.After = parameter.After
parameter_of form.Latest = parameter.At
parameter_of form.From = parameter.From
parameter_of form.To = parameter.To
parameter_of form.Per = parameter.Per
parameter_of form.Above = parameter.From

-- the parameters of the rows of a group
abbrev pub rows_forms : List Form
rows_forms = form.Limit ∷ form.After ∷ form.Latest ∷ form.From ∷ form.To ∷ form.Per ∷ []

-- the parameter of the journal
abbrev pub journal_forms : List Form
journal_forms = form.Above ∷ []

-- the parameter of that name among these, if there is one
unfoldable pub named : List Form → List ℕ → Option Form
named forms text = find (λ f. bytes_eq (parameter_name (parameter_of f)) text) forms

-- the text is a number below 2^32, in decimal and without leading zeros
abbrev pub IsNumber : List ℕ → ℕ → Type 0
IsNumber text n = (n < 2 ^ 32) × (text ≡ decimal n)

-- the text is a revision that there can be, written so too
abbrev pub IsRevision : List ℕ → ℕ → Type 0
IsRevision text n = (n ≤ revision_limit) × (text ≡ decimal n)

-- the text is a value of this form
abbrev pub IsValue : Form → List ℕ → Value → Type 0
IsValue form.Limit text (value.Limit n) = IsNumber text n
IsValue form.After text (value.After c) = IsCursor c × (text ≡ cursor_text c)
IsValue form.Latest text value.Latest = text ≡ codes "latest"
IsValue form.From text (value.From m) = IsMomentText text m
IsValue form.To text (value.To m) = IsMomentText text m
IsValue form.Per text (value.Per n) = IsNumber text n
IsValue form.Above text (value.Above n) = IsRevision text n
IsValue _ text _ = ⊥

-- what is asked where no parameter is given
abbrev pub nothing_asked : Asked
nothing_asked = record { limit = None; after = None; latest = false; from = None; to = None; per = None; above = None }

-- whether the parameter was given
abbrev pub is_given : Form → Asked → Bool
is_given form.Limit asked = is_some asked.limit
is_given form.After asked = is_some asked.after
is_given form.Latest asked = asked.latest
is_given form.From asked = is_some asked.from
is_given form.To asked = is_some asked.to
is_given form.Per asked = is_some asked.per
is_given form.Above asked = is_some asked.above

-- what is asked with one value more
abbrev pub with_value : Asked → Value → Asked
with_value asked (value.Limit n) = record asked { limit = Some n }
with_value asked (value.After c) = record asked { after = Some c }
with_value asked value.Latest = record asked { latest = true }
with_value asked (value.From m) = record asked { from = Some m }
with_value asked (value.To m) = record asked { to = Some m }
with_value asked (value.Per n) = record asked { per = Some n }
with_value asked (value.Above n) = record asked { above = Some n }
