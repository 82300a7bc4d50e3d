-- Forms: the fields of an object, in the order in which they are read and faults are found, and what they are read as.
use Rattle.std.specs.Prelude.{ℕ, Bool, true, ◌&&◌, List, [], ◌∷◌, ◌++◌, map, bytes_eq, Option, Some, None, Result, Ok, ⊤}
use Rattle.std.specs.List.{list_any}
use Rattle.serde_json.specs.Data.{Data, null, boolean, number, string, array, object, Members, no_members, member}
use Rattle.serde_json.specs.Find.{get}
use Rattle.desk_base.specs.declared.asked.rules.Field.{Field}
use Rattle.desk_json.specs.declared.fields.Names.{Names}
use Rattle.desk_json.specs.declared.faults.BodyError.{BodyError}
use Rattle.desk_json.specs.declared.faults.BodyRule.TheVariants.{Missing}
use Rattle.desk_json.specs.Faults.{fault, ◌>>=◌}
use Rattle.desk_json.specs.Words.{field_name}

-- ---- values under names

-- what is found, or the field is missing
abbrev pub found : {X : Type 0} → Field → (Field → Data → Result X BodyError) → Option Data → Result X BodyError
found field read (Some d) = read field d
found field read None = fault Missing field

-- what stands under a name, where a fault of it names a field
unfoldable pub under : {X : Type 0} → List ℕ → Field → (Field → Data → Result X BodyError) → Data → Result X BodyError
under name field read d = found field read (get name d)

-- what is found, or this where nothing is
abbrev pub found_or : {X : Type 0} → X → Field → (Field → Data → Result X BodyError) → Option Data → Result X BodyError
found_or absent field read (Some d) = read field d
found_or absent field read None = Ok absent

-- what stands under a name that may be absent
unfoldable pub under_or : {X : Type 0} → X → List ℕ → Field → (Field → Data → Result X BodyError) → Data → Result X BodyError
under_or absent name field read d = found_or absent field read (get name d)

-- the value of a field, which stands under the field's own name
abbrev pub at : {X : Type 0} → Field → (Field → Data → Result X BodyError) → Data → Result X BodyError
at field read d = under (field_name field) field read d

-- ---- forms

-- a form of an object
pub record Form (X : Type 0) : Type 0 where
  -- the names of its fields, in order
  pub names : List (List ℕ)
  -- what an object is read as, or its first fault; other names are let pass
  pub read : Data → Result X BodyError

-- no field
abbrev pub nothing : Form ⊤
nothing = record { names = []; read = λ d. Ok tt }

-- one name, where a fault of what stands under it names a field
abbrev pub part : {X : Type 0} → List ℕ → Field → (Field → Data → Result X BodyError) → Form X
part name field read = record { names = name ∷ []; read = under name field read }

-- one name that may be absent
abbrev pub part_or : {X : Type 0} → X → List ℕ → Field → (Field → Data → Result X BodyError) → Form X
part_or absent name field read = record { names = name ∷ []; read = under_or absent name field read }

-- one field
abbrev pub one : {X : Type 0} → Field → (Field → Data → Result X BodyError) → Form X
one field read = part (field_name field) field read

-- the fields of two forms, one after the other
abbrev pub both : {X Y : Type 0} → Form X → Form Y → Form (X × Y)
both f g = record { names = f.names ++ g.names; read = λ d. f.read d >>= λ x. g.read d >>= λ y. Ok (x, y) }

-- the fields of three forms, one after the other
abbrev pub three : {X Y Z : Type 0} → Form X → Form Y → Form Z → Form (X × Y × Z)
three f g h = record { names = f.names ++ g.names ++ h.names; read = λ d. f.read d >>= λ x. g.read d >>= λ y. h.read d >>= λ z. Ok (x, y, z) }

-- what is made of the fields of a form
abbrev pub made : {X Y : Type 0} → (X → Y) → Form X → Form Y
made make f = record { names = f.names; read = λ d. f.read d >>= λ x. Ok (make x) }

-- ---- other names

-- the name is one of the list
abbrev pub is_among : List (List ℕ) → List ℕ → Bool
is_among names name = list_any (λ known. bytes_eq known name) names

-- each member's name is one of the list
abbrev pub members_among : List (List ℕ) → Members → Bool
members_among names no_members = true
members_among names (member name d ms) = is_among names name && members_among names ms

-- an object has no other names; what is no object has none
abbrev pub has_only : List (List ℕ) → Data → Bool
has_only names (object ms) = members_among names ms
has_only names null = true
has_only names (boolean b) = true
has_only names (number n) = true
has_only names (string s) = true
has_only names (array ds) = true

-- names of a form, which stand in three lists: those of every body, those of the key, and the others
abbrev pub all_names : Names → List (List ℕ)
all_names names = map (λ known. known.now) names.head.now ++ map (λ known. known.now) names.key.now ++ map (λ known. known.now) names.others.now
