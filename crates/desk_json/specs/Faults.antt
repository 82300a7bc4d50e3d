-- What reading a body gives: a value, or the first fault that is found.
use Rattle.std.specs.Prelude.{◌≡◌, ◌⊎◌, Result, Ok, Err}
use Rattle.desk_base.specs.declared.asked.rules.Field.{Field}
use Rattle.desk_json.specs.declared.faults.BodyRule.{BodyRule}
use Rattle.desk_json.specs.declared.faults.BodyError.{BodyError}
use Rattle.desk_json.specs.declared.faults.BodyError.TheVariants.{Bad, NoMemory}

-- a field breaks a rule
abbrev pub fault : {X : Type 0} → BodyRule → Field → Result X BodyError
fault rule field = Err (Bad rule field)

infixl 10 ◌>>=◌
-- what is read after a value, or the fault of that value
abbrev pub ◌>>=◌ : {X Y : Type 0} → Result X BodyError → (X → Result Y BodyError) → Result Y BodyError
Ok x >>= next = next x
Err why >>= next = Err why

-- the answer is what reading gives, but that memory may be wanting
abbrev pub IsRead : {X : Type 0} → Result X BodyError → Result X BodyError → Type 0
IsRead expected (Ok x) = expected ≡ Ok x
IsRead expected (Err why) = (expected ≡ Err why) ⊎ (why ≡ NoMemory)
