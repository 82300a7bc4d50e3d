-- Rows that are read have their days and shifts in the horizon.
use Rattle.std.proofs.Common.{◌≡◌, ℕ, ℤ, nat_le, Bool, true, false, ◌&&◌, List, [], ◌∷◌, All, bytes_eq, Option, Some, None, Result, Ok, Err, is_some, refl, sym, ap, subst, ◌∙◌, if◌then◌else◌}
use Rattle.std.specs.Bool.{⊤}
use Rattle.std.specs.Prelude.{codes, option_and_then}
use Rattle.std.proofs.lemmas.Bool.{and_parts, leb-true}
use Rattle.std.proofs.lemmas.List.Elements.{All-nil, All-cons}
use Rattle.serde_json.specs.Data.{Data, Items, no_items, item}
use Rattle.serde_json.specs.Find.{get, as_array, as_object, at as item_at}
use Rattle.desk_base.specs.declared.rows.tables.Table.{Table}
use Rattle.desk_base.specs.declared.rows.tables.Table.TheVariants as table
use Rattle.desk_base.specs.declared.rows.tables.Key.{Key}
use Rattle.desk_base.specs.declared.rows.tables.AnyRow.{AnyRow}
use Rattle.desk_base.specs.declared.rows.tables.AnyRow.TheVariants.{Zone, Day}
use Rattle.desk_base.specs.declared.rows.calendars.ZoneRow.{ZoneRow}
use Rattle.desk_base.specs.declared.rows.calendars.DayRow.{DayRow}
use Rattle.desk_base.specs.declared.asked.rules.Field.{Field}
use Rattle.desk_base.specs.declared.asked.rules.Field.TheVariants as field
use Rattle.desk_base.specs.rows.Rows.{key_of}
use Rattle.desk_base.specs.asked.Refusing.{is_key}
use Rattle.desk_base.proofs.tables.KeyOrder.{is_key-same}
use Rattle.desk_time.specs.Limits.{first_minute, end_of_minutes, first_day, last_day, IsMoment, IsDay}
use Rattle.desk_time.specs.Moments.{moment_text}
use Rattle.desk_time.specs.Dates.{date_text}
use Rattle.desk_json.specs.declared.faults.BodyError.{BodyError}
use Rattle.desk_json.specs.declared.faults.BodyRule.{BodyRule}
use Rattle.desk_json.specs.declared.faults.BodyRule.TheVariants.{Object, Range, Moment, Unknown}
use Rattle.desk_json.specs.Faults.{fault, ◌>>=◌}
use Rattle.desk_json.specs.Forms.{Form, one, both, three, found, under, has_only}
use Rattle.desk_json.specs.Lists.{items_in, each_in, list_in, pair_of, pair_in, shift_in}
use Rattle.desk_json.specs.MomentReading.{is_text_of, is_text_of_day, minute_named, day_named, moment_of, day_of}
use Rattle.desk_json.specs.Reading.{greatest_u16, whole_in, text_in, id_in, or_fault, moment_in, day_in, i32_in}
use Rattle.desk_json.specs.Tables.{zone_table, day_table, date_form, id_form}
use Rattle.desk_json.specs.TreeReading.{object_in, with_only}
use Rattle.desk_kept.specs.Values.{IsShift}
use Rattle.desk_kept.specs.Kept.{kept_form, with_key, row_in}
use Rattle.desk_kept.specs.Typed.{HasHorizon}

-- ---- what was read before

ok_same : {X : Type 0} (x y : X) → ◌≡◌ {A = Result X BodyError} (Ok x) (Ok y) → x ≡ y
ok_same x y e = cc

-- what was read after a value was read after it
pub two_read : {X Y : Type 0} (r : Result X BodyError) (next : X → Result Y BodyError) (y : Y) → r >>= next ≡ Ok y → (x : X) × (r ≡ Ok x) × (next x ≡ Ok y)
two_read (Ok x) next y e = (x, refl, e)
two_read (Err why) next y e = cc

-- what two forms read
forms_read : {X Y : Type 0} (f : Form X) (g : Form Y) (d : Data) (p : X × Y) → (both f g).read d ≡ Ok p → (f.read d ≡ Ok p.0) × (g.read d ≡ Ok p.1)
forms_read f g d p e =
    let a = two_read (f.read d) (λ x. g.read d >>= λ y. Ok (x, y)) p e in
    let b = two_read (g.read d) (λ y. Ok (a.0, y)) p a.2 in
    let same : (a.0, b.0) ≡ p = ok_same (a.0, b.0) p b.2 in
    (a.1 ∙ ap (λ q. Ok q.0) same, b.1 ∙ ap (λ q. Ok q.1) same)

-- what the second of three forms reads
middle_read : {X Y Z : Type 0} (f : Form X) (g : Form Y) (h : Form Z) (d : Data) (p : X × Y × Z) → (three f g h).read d ≡ Ok p → g.read d ≡ Ok p.1
middle_read f g h d p e =
    let a = two_read (f.read d) (λ x. g.read d >>= λ y. h.read d >>= λ z. Ok (x, y, z)) p e in
    let b = two_read (g.read d) (λ y. h.read d >>= λ z. Ok (a.0, y, z)) p a.2 in
    let c = two_read (h.read d) (λ z. Ok (a.0, b.0, z)) p b.2 in
    let same : (a.0, b.0, c.0) ≡ p = ok_same (a.0, b.0, c.0) p c.2 in
    b.1 ∙ ap (λ q. Ok q.1) same

found_read : {X : Type 0} (f : Field) (read : Field → Data → Result X BodyError) (o : Option Data) (x : X) → found f read o ≡ Ok x → (d : Data) × (read f d ≡ Ok x)
found_read f read (Some d) x e = (d, e)
found_read f read None x e = cc

was_some : {X : Type 0} (rule : BodyRule) (f : Field) (o : Option X) (x : X) → or_fault (fault rule f) o ≡ Ok x → o ≡ Some x
was_some rule f (Some y) x e = cc
was_some rule f None x e = cc

tested : (b : Bool) (m n : ℕ) → (if b then Some m else None) ≡ Some n → (b ≡ true) × (m ≡ n)
tested true m n e = (refl, cc)
tested false m n e = cc

-- ---- moments and days

moment_within : (text : List ℕ) (m : ℕ) → moment_of text ≡ Some m → IsMoment m
unfolding moment_of
moment_within text m e =
    let n : ℕ = minute_named text in
    let h = tested (is_text_of text n) n m e in
    let p = and_parts (nat_le first_minute n && nat_le n end_of_minutes) (bytes_eq (moment_text n) text) h.0 in
    let q = and_parts (nat_le first_minute n) (nat_le n end_of_minutes) p.0 in
    subst IsMoment h.1 (leb-true first_minute n q.0, leb-true n end_of_minutes q.1)

day_within : (text : List ℕ) (m : ℕ) → day_of text ≡ Some m → IsDay m
unfolding day_of
day_within text m e =
    let n : ℕ = day_named text in
    let h = tested (is_text_of_day text n) n m e in
    let p = and_parts (nat_le first_day n && nat_le n last_day) (bytes_eq (date_text n) text) h.0 in
    let q = and_parts (nat_le first_day n) (nat_le n last_day) p.0 in
    subst IsDay h.1 (leb-true first_day n q.0, leb-true n last_day q.1)

moment_read : (f : Field) (d : Data) (m : ℕ) → moment_in f d ≡ Ok m → IsMoment m
unfolding moment_in
moment_read f d m e =
    let h = two_read (text_in f d) (λ text. or_fault (fault Moment f) (moment_of text)) m e in
    moment_within h.0 m (was_some Moment f (moment_of h.0) m h.2)

day_read : (f : Field) (d : Data) (m : ℕ) → day_in f d ≡ Ok m → IsDay m
unfolding day_in
day_read f d m e =
    let h = two_read (text_in f d) (λ text. or_fault (fault Moment f) (day_of text)) m e in
    day_within h.0 m (was_some Moment f (day_of h.0) m h.2)

-- ---- shifts

first_of_pair : (f : Field) (a b c : Option Data) (s : ℕ × ℤ) → pair_of moment_in i32_in f a b c ≡ Ok s → IsMoment s.0
first_of_pair f (Some a) (Some b) None s e =
    let h = two_read (moment_in f a) (λ x. i32_in f b >>= λ y. Ok (x, y)) s e in
    let g = two_read (i32_in f b) (λ y. Ok (h.0, y)) s h.2 in
    let same : (h.0, g.0) ≡ s = ok_same (h.0, g.0) s g.2 in
    subst IsMoment (ap (λ p. p.0) same) (moment_read f a h.0 h.1)
first_of_pair f (Some a) (Some b) (Some c) s e = cc
first_of_pair f (Some a) None c s e = cc
first_of_pair f None b c s e = cc

shift_read : (f : Field) (d : Data) (s : ℕ × ℤ) → shift_in f d ≡ Ok s → IsShift s
unfolding pair_in
shift_read f d s e = first_of_pair f (item_at 0 d) (item_at 1 d) (item_at 2 d) s e

each_read : (f : Field) (ds : Items) (ss : List (ℕ × ℤ)) → each_in (shift_in f) ds ≡ Ok ss → All IsShift ss
each_read f no_items ss e = subst (All IsShift) (ok_same [] ss e) (All-nil IsShift)
each_read f (item d ds) ss e =
    let h = two_read (shift_in f d) (λ x. each_in (shift_in f) ds >>= λ xs. Ok (x ∷ xs)) ss e in
    let g = two_read (each_in (shift_in f) ds) (λ xs. Ok (h.0 ∷ xs)) ss h.2 in
    subst (All IsShift) (ok_same (h.0 ∷ g.0) ss g.2) (All-cons IsShift h.0 g.0 (shift_read f d h.0 h.1) (each_read f ds g.0 g.1))

shifts_read : (f : Field) (d : Data) (ss : List (ℕ × ℤ)) → list_in shift_in f d ≡ Ok ss → All IsShift ss
unfolding list_in
shifts_read f d ss e = let h = two_read (items_in f (as_array d)) (each_in (shift_in f)) ss e in each_read f h.0 ss h.2

-- ---- rows

zone_same : (x y : ZoneRow) → Zone x ≡ Zone y → x ≡ y
zone_same x y e = cc

day_same : (x y : DayRow) → Day x ≡ Day y → x ≡ y
day_same x y e = cc

zone_read : (n : ℕ) (d : Data) (z : ZoneRow) → (kept_form table.Zone n).read d ≡ Ok (Zone z) → All IsShift z.shifts
unfolding kept_form zone_table under
zone_read n d z e =
    let a = two_read ((both zone_table.key zone_table.rest).read d) (λ x. Ok (zone_table.row x.0 x.1)) (Zone z) e in
    let b = forms_read zone_table.key zone_table.rest d a.0 a.1 in
    let c = forms_read (one field.Name text_in) (one field.Shifts (list_in shift_in)) d a.0.1 b.1 in
    let g = found_read field.Shifts (list_in shift_in) (get (codes "shifts") d) a.0.1.1 c.1 in
    let same = zone_same (record { id = a.0.0.0; name = a.0.1.0; shifts = a.0.1.1 }) z (ok_same (zone_table.row a.0.0 a.0.1) (Zone z) a.2) in
    subst (All IsShift) (ap (λ (x : ZoneRow). x.shifts) same) (shifts_read field.Shifts g.0 a.0.1.1 g.1)

day_row_read : (n : ℕ) (d : Data) (x : DayRow) → (kept_form table.Day n).read d ≡ Ok (Day x) → IsDay x.day
unfolding kept_form day_table date_form under
day_row_read n d x e =
    let a = two_read ((both day_table.key day_table.rest).read d) (λ y. Ok (day_table.row y.0 y.1)) (Day x) e in
    let b = forms_read day_table.key day_table.rest d a.0 a.1 in
    let c = middle_read (one field.Calendar id_in) (one field.Day day_in) (one field.From (whole_in greatest_u16)) d a.0.0 b.0 in
    let g = found_read field.Day day_in (get (codes "day") d) a.0.0.1 c in
    let same = day_same (record { calendar = a.0.0.0; day = a.0.0.1; from = a.0.0.2; to = a.0.1.0; capacity = a.0.1.1 }) x (ok_same (day_table.row a.0.0 a.0.1) (Day x) a.2) in
    subst IsDay (ap (λ (y : DayRow). y.day) same) (day_read field.Day g.0 a.0.0.1 g.1)

-- a row that is read from the fields of its table
by_fields : (key : Key) (d : Data) (row : AnyRow) → (kept_form key.table key.a).read d ≡ Ok row → (key_of row).table ≡ key.table → HasHorizon row
by_fields key d (Zone z) e own = zone_read key.a d z (subst (λ t. (kept_form t key.a).read d ≡ Ok (Zone z)) (sym own) e)
by_fields key d (Day x) e own = day_row_read key.a d x (subst (λ t. (kept_form t key.a).read d ≡ Ok (Day x)) (sym own) e)
by_fields key d _ e own = tt

pub kept_if : {X : Type 0} (b : Bool) (rule : BodyRule) (f : Field) (x y : X) → (if b then Ok x else fault rule f) ≡ Ok y → (b ≡ true) × (x ≡ y)
kept_if true rule f x y e = (refl, ok_same x y e)
kept_if false rule f x y e = cc

-- a row that is read under a key
pub row_horizon : (key : Key) (d : Data) (row : AnyRow) → row_in key d ≡ Ok row → HasHorizon row
unfolding row_in
row_horizon key d row e =
    let form = kept_form key.table key.a in
    let names : List (List ℕ) = form.names in
    let a = two_read (object_in Object field.Body d) (λ _. form.read d >>= with_only names field.Other d >>= with_key key) row e in
    let b = two_read (form.read d >>= with_only names field.Other d) (with_key key) row a.2 in
    let c = two_read (form.read d) (with_only names field.Other d) b.0 b.1 in
    let only = kept_if (has_only names d) Unknown field.Other c.0 b.0 c.2 in
    let own = kept_if (is_key (key_of b.0) key) Range field.Body b.0 row b.2 in
    let here : HasHorizon b.0 = by_fields key d b.0 (c.1 ∙ ap (λ x. Ok x) only.1) (ap (λ (k : Key). k.table) (is_key-same (key_of b.0) key own.0)) in
    subst HasHorizon own.1 here
