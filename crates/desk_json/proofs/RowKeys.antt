-- The row that is read of a body stands under the key that is read of it.
use Rattle.std.proofs.Common.{◌≡◌, ℕ, Result, Ok, Err, refl, sym, ap, ◌∙◌}
use Rattle.std.specs.Bool.{⊤}
use Rattle.serde_json.specs.Data.{Data}
use Rattle.desk_base.specs.declared.rows.tables.Key.{Key}
use Rattle.desk_base.specs.declared.rows.tables.AnyRow.{AnyRow}
use Rattle.desk_base.specs.declared.rows.tables.Table.{Table}
use Rattle.desk_base.specs.declared.rows.tables.Table.TheVariants.{Zone, Calendar, Work, Break, Day, Off, Unit, Site, Role, Characteristic, Territory, Resource, HasRole, HasCharacteristic, HasTerritory, Member, Group, Booking, Caller, BookingNumbers}
use Rattle.desk_base.specs.rows.Rows.{key_of}
use Rattle.desk_json.specs.declared.faults.BodyError.{BodyError}
use Rattle.desk_json.specs.Faults.{◌>>=◌}
use Rattle.desk_json.specs.Forms.{Form}
use Rattle.desk_json.specs.Tables.{described, row_form, key_form, key_of_one, key_of_two, id_form, number_form, off_form, has_form, zone_table, calendar_table, work_table, break_table, day_table, off_table, named_table, resource_table, has_table, rated_table, member_table, no_table}

-- ---- what is read of two things, one after the other

joined : {X Y : Type 0} (first : Result X BodyError) (next : X → Result Y BodyError) (y : Y) → (first >>= next) ≡ Ok y → (x : X) × (first ≡ Ok x) × (next x ≡ Ok y)
joined (Ok x) next y e = (x, refl, e)
joined (Err why) next y e = absurd (cc)

abbrev ok_of : {X : Type 0} → X → Result X BodyError
ok_of x = Ok x

same_ok : {X : Type 0} (x y : X) → ok_of x ≡ ok_of y → x ≡ y
same_ok x y e = cc

-- ---- keys

abbrev Numbers : Type 0
Numbers = ℕ × ℕ × ℕ

-- a key uses its first number alone, or its first two
abbrev IsOfOne : Numbers → Type 0
IsOfOne k = (k.1 ≡ 0) × (k.2 ≡ 0)

abbrev IsOfTwo : Numbers → Type 0
IsOfTwo k = k.2 ≡ 0

of_one : (f : Form ℕ) (d : Data) (k : Numbers) → (key_of_one f).read d ≡ Ok k → IsOfOne k
of_one f d k e =
    let from = joined (f.read d) (λ x. Ok (x, 0, 0)) k e in
    let same : (from.0, 0, 0) ≡ k = same_ok (from.0, 0, 0) k from.2 in
    (sym (ap (λ t. t.1) same), sym (ap (λ t. t.2) same))

of_two : (f : Form (ℕ × ℕ)) (d : Data) (k : Numbers) → (key_of_two f).read d ≡ Ok k → IsOfTwo k
of_two f d k e =
    let from = joined (f.read d) (λ x. Ok (x.0, x.1, 0)) k e in
    let same : (from.0.0, from.0.1, 0) ≡ k = same_ok (from.0.0, from.0.1, 0) k from.2 in
    sym (ap (λ t. t.2) same)

-- which numbers the key of a table uses
abbrev Fits : Table → Numbers → Type 0
Fits Zone k = IsOfOne k
Fits Calendar k = IsOfOne k
Fits Work k = ⊤
Fits Break k = ⊤
Fits Day k = ⊤
Fits Off k = IsOfTwo k
Fits Unit k = IsOfOne k
Fits Site k = IsOfOne k
Fits Role k = IsOfOne k
Fits Characteristic k = IsOfOne k
Fits Territory k = IsOfOne k
Fits Resource k = IsOfOne k
Fits HasRole k = IsOfTwo k
Fits HasCharacteristic k = IsOfTwo k
Fits HasTerritory k = IsOfTwo k
Fits Member k = ⊤
Fits Group k = ⊤
Fits Booking k = ⊤
Fits Caller k = ⊤
Fits BookingNumbers k = ⊤

key_fits : (t : Table) (d : Data) (k : Numbers) → (described t).key.read d ≡ Ok k → Fits t k
unfolding zone_table calendar_table off_table named_table resource_table has_table rated_table
key_fits Zone d k e = of_one id_form d k e
key_fits Calendar d k e = of_one id_form d k e
key_fits Work d k e = tt
key_fits Break d k e = tt
key_fits Day d k e = tt
key_fits Off d k e = of_two off_form d k e
key_fits Unit d k e = of_one number_form d k e
key_fits Site d k e = of_one number_form d k e
key_fits Role d k e = of_one number_form d k e
key_fits Characteristic d k e = of_one number_form d k e
key_fits Territory d k e = of_one number_form d k e
key_fits Resource d k e = of_one id_form d k e
key_fits HasRole d k e = of_two has_form d k e
key_fits HasCharacteristic d k e = of_two has_form d k e
key_fits HasTerritory d k e = of_two has_form d k e
key_fits Member d k e = tt
key_fits Group d k e = tt
key_fits Booking d k e = tt
key_fits Caller d k e = tt
key_fits BookingNumbers d k e = tt

-- a key of these numbers
abbrev key_with : Table → Numbers → Key
key_with t k = record { table = t; a = k.0; b = k.1; c = k.2 }

of_one_key : (t : Table) (k : Numbers) → IsOfOne k → key_with t k ≡ key_with t (k.0, 0, 0)
of_one_key t k h = ap (λ n. key_with t (k.0, n, k.2)) h.0 ∙ ap (λ n. key_with t (k.0, 0, n)) h.1

of_two_key : (t : Table) (k : Numbers) → IsOfTwo k → key_with t k ≡ key_with t (k.0, k.1, 0)
of_two_key t k h = ap (λ n. key_with t (k.0, k.1, n)) h

stands : (t : Table) (k : Numbers) (x : (described t).Rest) → Fits t k → key_with t k ≡ key_of ((described t).row k x)
unfolding zone_table calendar_table work_table break_table day_table off_table named_table resource_table has_table rated_table member_table no_table
stands Zone k x h = of_one_key Zone k h
stands Calendar k x h = of_one_key Calendar k h
stands Work k x h = refl
stands Break k x h = refl
stands Day k x h = refl
stands Off k x h = of_two_key Off k h
stands Unit k x h = of_one_key Unit k h
stands Site k x h = of_one_key Site k h
stands Role k x h = of_one_key Role k h
stands Characteristic k x h = of_one_key Characteristic k h
stands Territory k x h = of_one_key Territory k h
stands Resource k x h = of_one_key Resource k h
stands HasRole k x h = of_two_key HasRole k h
stands HasCharacteristic k x h = of_two_key HasCharacteristic k h
stands HasTerritory k x h = of_two_key HasTerritory k h
stands Member k x h = refl
stands Group k x h = absurd x
stands Booking k x h = absurd x
stands Caller k x h = absurd x
stands BookingNumbers k x h = absurd x

-- ---- rows

pub row_key : (t : Table) (d : Data) (row : AnyRow) → (row_form (described t)).read d ≡ Ok row → (key_form t).read d ≡ Ok (key_of row)
row_key t d row e =
    let table = described t in
    let whole = joined (table.key.read d >>= λ k. table.rest.read d >>= λ x. Ok (k, x)) (λ z. Ok (table.row z.0 z.1)) row e in
    let parts = joined (table.key.read d) (λ k. table.rest.read d >>= λ x. Ok (k, x)) whole.0 whole.1 in
    let k = parts.0 in
    let others = joined (table.rest.read d) (λ x. Ok (k, x)) whole.0 parts.2 in
    let pair : (k, others.0) ≡ whole.0 = same_ok (k, others.0) whole.0 others.2 in
    let row_of : table.row k others.0 ≡ row = ap (λ z. table.row z.0 z.1) pair ∙ same_ok (table.row whole.0.0 whole.0.1) row whole.2 in
    rw parts.1 (ap (λ key. Ok key) (stands t k others.0 (key_fits t d k parts.1) ∙ ap key_of row_of))
