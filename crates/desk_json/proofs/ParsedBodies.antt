-- The JSON of a body that is read, and of one that is not.
use Rattle.std.proofs.Common.{◌≡◌, ℕ, Bool, true, false, List, Option, Some, None, Ok, IsUtf8, if◌then◌else◌, refl}
use Rattle.std.specs.Str.{is_utf8}
use Rattle.std.proofs.lemmas.Str.{IsUtf8-from_is_utf8, is_utf8-from_IsUtf8}
use Rattle.serde_json.specs.Data.{Data}
use Rattle.serde_json.specs.Read.{read}
use Rattle.desk_base.specs.declared.asked.rules.Field.TheVariants as field
use Rattle.desk_json.specs.declared.faults.BodyRule.TheVariants.{Syntax}
use Rattle.desk_json.specs.Faults.{fault}
use Rattle.desk_json.specs.Reading.{or_fault}
use Rattle.desk_json.specs.Bodies.{parsed}

pub parsed_json : (body : List ℕ) (d : Data) → IsUtf8 body → read body ≡ Some d → parsed body ≡ Ok d
unfolding parsed
parsed_json body d text is = rw (is_utf8-from_IsUtf8 body text, is) refl

bad : (b : Bool) (r : Option Data) → (b ≡ true → r ≡ None) → (if b then or_fault (fault Syntax field.Body) r else fault Syntax field.Body) ≡ fault {X = Data} Syntax field.Body
bad true r none = rw (none refl) refl
bad false r none = refl

pub parsed_no_json : (body : List ℕ) → (IsUtf8 body → read body ≡ None) → parsed body ≡ fault Syntax field.Body
unfolding parsed
parsed_no_json body none = bad (is_utf8 body) (read body) (λ e. none (IsUtf8-from_is_utf8 body e))
