-- What is read of a body is of the listed forms.
use Rattle.std.proofs.Common.{◌≡◌, ℕ, Bool, true, false, List, Result, Ok, Err, IfOk, if◌then◌else◌, refl, subst, arith}
use Rattle.std.specs.Bool.{⊤}
use Rattle.serde_json.specs.Data.{Data}
use Rattle.desk_base.specs.declared.asked.rules.Field.{Field}
use Rattle.desk_base.specs.declared.asked.rules.Field.TheVariants as field
use Rattle.desk_base.specs.declared.rows.tables.Table.{Table}
use Rattle.desk_base.specs.declared.rows.tables.Table.TheVariants.{Zone, Calendar, Work, Break, Day, Off, Unit, Site, Role, Characteristic, Territory, Resource, HasRole, HasCharacteristic, HasTerritory, Member, Group, Booking, Caller, BookingNumbers}
use Rattle.desk_base.specs.declared.asked.acts.Act.TheVariants as act
use Rattle.desk_base.specs.declared.asked.answers.Command.{Command}
use Rattle.desk_base.specs.declared.asked.answers.Command.TheVariants as command
use Rattle.desk_base.specs.declared.asked.summaries.ActCode.{ActCode}
use Rattle.desk_base.specs.declared.asked.summaries.ActCode.TheVariants.{Put, Remove, PutGroup, DropGroup, BookGroup, MoveGroup, CancelGroup}
use Rattle.desk_json.specs.declared.faults.BodyRule.TheVariants as rule
use Rattle.desk_json.specs.declared.faults.BodyError.{BodyError}
use Rattle.desk_json.specs.Faults.{fault, ◌>>=◌, IsRead}
use Rattle.desk_json.specs.Reading.{id_in}
use Rattle.desk_json.specs.TreeReading.{object_in, with_only}
use Rattle.desk_json.specs.Forms.{Form, one, both, made, has_only}
use Rattle.desk_json.specs.Tables.{described, row_form, key_form, group_form, zone_table, calendar_table, work_table, break_table, day_table, off_table, named_table, resource_table, has_table, rated_table, member_table, no_table}
use Rattle.desk_json.specs.Bodies.{head_form, booking_form, act_form, names_of, act_in, change_in}
use Rattle.desk_json.specs.Asked.{IsAskedRow, IsAskedTable, IsAskedAct, IsAsked}

-- a value that is read has a property
abbrev pub Gives : {X : Type 0} → (X → Type 0) → Result X BodyError → Type 0
Gives P (Ok x) = P x
Gives P (Err why) = ⊤

-- ---- how readings join

gives_then : {X Y : Type 0} (P : X → Type 0) (Q : Y → Type 0) (first : Result X BodyError) (next : X → Result Y BodyError)
    → Gives P first → ((x : X) → P x → Gives Q (next x)) → Gives Q (first >>= next)
gives_then P Q (Ok x) next h later = later x h
gives_then P Q (Err why) next h later = tt

-- whatever the first gives
then_gives : {X Y : Type 0} (Q : Y → Type 0) (first : Result X BodyError) (next : X → Result Y BodyError) → ((x : X) → Gives Q (next x)) → Gives Q (first >>= next)
then_gives Q (Ok x) next later = later x
then_gives Q (Err why) next later = tt

if_gives : {X : Type 0} (P : X → Type 0) (b : Bool) (r s : Result X BodyError) → (b ≡ true → Gives P r) → Gives P s → Gives P (if b then r else s)
if_gives P true r s h k = h refl
if_gives P false r s h k = k

made_any : {X Y : Type 0} (Q : Y → Type 0) (make : X → Y) (f : Form X) (d : Data) → ((x : X) → Q (make x)) → Gives Q ((made make f).read d)
made_any Q make f d each = then_gives Q (f.read d) (λ x. Ok (make x)) each

made_gives : {X Y : Type 0} (P : X → Type 0) (Q : Y → Type 0) (make : X → Y) (f : Form X) (d : Data) → Gives P (f.read d) → ((x : X) → P x → Q (make x)) → Gives Q ((made make f).read d)
made_gives P Q make f d h each = gives_then P Q (f.read d) (λ x. Ok (make x)) h each

with_only_gives : {X : Type 0} (P : X → Type 0) (names : List (List ℕ)) (field : Field) (d : Data) (x : X) → P x → Gives P (with_only names field d x)
with_only_gives P names field d x h = if_gives P (has_only names d) (Ok x) (fault rule.Unknown field) (λ e. h) tt

-- ---- tables

-- each row of a table is one that a body can put
row_asked : (t : Table) (k : ℕ × ℕ × ℕ) (x : (described t).Rest) → IsAskedRow ((described t).row k x)
unfolding zone_table calendar_table work_table break_table day_table off_table named_table resource_table has_table rated_table member_table no_table
row_asked Zone k x = tt
row_asked Calendar k x = tt
row_asked Work k x = tt
row_asked Break k x = tt
row_asked Day k x = tt
row_asked Off k x = tt
row_asked Unit k x = tt
row_asked Site k x = tt
row_asked Role k x = tt
row_asked Characteristic k x = tt
row_asked Territory k x = tt
row_asked Resource k x = tt
row_asked HasRole k x = refl
row_asked HasCharacteristic k x = tt
row_asked HasTerritory k x = refl
row_asked Member k x = tt
row_asked Group k x = absurd x
row_asked Booking k x = absurd x
row_asked Caller k x = absurd x
row_asked BookingNumbers k x = absurd x

put_asked : (t : Table) (d : Data) → Gives IsAskedAct ((act_form (Put t)).read d)
put_asked t d = made_gives IsAskedRow IsAskedAct (λ x. act.Put x) (row_form (described t)) d (made_any IsAskedRow _ (both (described t).key (described t).rest) d (λ x. row_asked t x.0 x.1)) (λ x h. h)

-- a table whose keys can be read is up to memberships
key_asked : (t : Table) (d : Data) → Gives (λ k. IsAskedTable k.table) ((key_form t).read d)
unfolding no_table
key_asked Zone d = made_any (λ k. IsAskedTable k.table) _ (described Zone).key d (λ x. omega arith)
key_asked Calendar d = made_any (λ k. IsAskedTable k.table) _ (described Calendar).key d (λ x. omega arith)
key_asked Work d = made_any (λ k. IsAskedTable k.table) _ (described Work).key d (λ x. omega arith)
key_asked Break d = made_any (λ k. IsAskedTable k.table) _ (described Break).key d (λ x. omega arith)
key_asked Day d = made_any (λ k. IsAskedTable k.table) _ (described Day).key d (λ x. omega arith)
key_asked Off d = made_any (λ k. IsAskedTable k.table) _ (described Off).key d (λ x. omega arith)
key_asked Unit d = made_any (λ k. IsAskedTable k.table) _ (described Unit).key d (λ x. omega arith)
key_asked Site d = made_any (λ k. IsAskedTable k.table) _ (described Site).key d (λ x. omega arith)
key_asked Role d = made_any (λ k. IsAskedTable k.table) _ (described Role).key d (λ x. omega arith)
key_asked Characteristic d = made_any (λ k. IsAskedTable k.table) _ (described Characteristic).key d (λ x. omega arith)
key_asked Territory d = made_any (λ k. IsAskedTable k.table) _ (described Territory).key d (λ x. omega arith)
key_asked Resource d = made_any (λ k. IsAskedTable k.table) _ (described Resource).key d (λ x. omega arith)
key_asked HasRole d = made_any (λ k. IsAskedTable k.table) _ (described HasRole).key d (λ x. omega arith)
key_asked HasCharacteristic d = made_any (λ k. IsAskedTable k.table) _ (described HasCharacteristic).key d (λ x. omega arith)
key_asked HasTerritory d = made_any (λ k. IsAskedTable k.table) _ (described HasTerritory).key d (λ x. omega arith)
key_asked Member d = made_any (λ k. IsAskedTable k.table) _ (described Member).key d (λ x. omega arith)
key_asked Group d = tt
key_asked Booking d = tt
key_asked Caller d = tt
key_asked BookingNumbers d = tt

-- ---- acts

form_asked : (a : ActCode) (d : Data) → Gives IsAskedAct ((act_form a).read d)
form_asked (Put table) d = put_asked table d
form_asked (Remove table) d = made_gives (λ k. IsAskedTable k.table) IsAskedAct (λ x. act.Remove x) (key_form table) d (key_asked table d) (λ k h. h)
form_asked PutGroup d = made_any IsAskedAct (λ x. act.PutGroup x) group_form d (λ x. tt)
form_asked DropGroup d = made_any IsAskedAct (λ x. act.DropGroup x) (one field.Group id_in) d (λ x. tt)
form_asked BookGroup d = made_any IsAskedAct _ booking_form d (λ x. tt)
form_asked MoveGroup d = made_any IsAskedAct _ booking_form d (λ x. tt)
form_asked CancelGroup d = made_any IsAskedAct (λ x. act.CancelGroup x) (one field.Group id_in) d (λ x. tt)

act_asked : (a : ActCode) (d : Data) → Gives IsAskedAct (act_in a d)
unfolding act_in
act_asked a d =
    gives_then IsAskedAct IsAskedAct ((act_form a).read d) (with_only (names_of a) field.Other d) (form_asked a d) (λ x h. with_only_gives IsAskedAct (names_of a) field.Other d x h)

change_asked : (d : Data) → Gives IsAsked (change_in d)
unfolding change_in
change_asked d =
    then_gives IsAsked (object_in rule.Object field.Body d) _ (λ _.
    then_gives IsAsked (head_form.read d) _ (λ head.
    gives_then IsAskedAct IsAsked (act_in head.0 d) (λ asked. Ok (command.Change head.1 asked)) (act_asked head.0 d) (λ a h. h)))

-- what is asked for is of the listed forms
pub asked_forms : (d : Data) (c : Command) → change_in d ≡ Ok c → IsAsked c
asked_forms d c e = subst (Gives IsAsked) e (change_asked d)

-- so is what is read
pub read_forms : (d : Data) (r : Result Command BodyError) → IsRead (change_in d) r → IfOk r (λ c. IsAsked c)
read_forms d (Ok c) h = asked_forms d c h
read_forms d (Err why) h = tt
