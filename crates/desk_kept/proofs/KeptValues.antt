-- Values that are read as what they were written of.
use Rattle.std.proofs.Common.{◌≡◌, ℕ, suc, ◌<◌, ◌≤◌, ◌^◌, ℤ, pos, negsuc, neg_ℤ, int_le, true, List, [], ◌∷◌, map, All, Option, Some, None, Result, Ok, IsUtf8, refl, arith, le-leb}
use Rattle.std.proofs.lemmas.List.Elements.{All-head, All-tail}
use Rattle.std.proofs.lemmas.Bool.{leb-true}
use Rattle.json.proofs.Printed.Utf8.{IsUtf8-are_ascii}
use Rattle.serde_json.specs.Data.{Data, string, depth, items_depth}
use Rattle.serde_json.specs.View.{items_of}
use Rattle.desk_base.specs.rules.Limits.{id_limit, serial_limit}
use Rattle.desk_base.specs.declared.asked.rules.Field.{Field}
use Rattle.desk_base.specs.declared.rows.resources.Kind.{Kind}
use Rattle.desk_base.specs.declared.rows.resources.Kind.TheVariants.{Generic, Contact, User, Equipment, Account, Facility, Crew, Pool}
use Rattle.desk_base.specs.declared.values.minutes.Window.{Window}
use Rattle.desk_time.specs.Limits.{IsDay, IsMoment}
use Rattle.desk_json.specs.declared.faults.BodyError.{BodyError}
use Rattle.desk_json.specs.Decimals.{IsId}
use Rattle.desk_json.specs.Values.{whole_number, list_of, number_or_null, moment_data}
use Rattle.desk_json.specs.Reading.{greatest_u32, whole_in, u32_in, i32_in, id_in, serial_in, id_or_null_in, text_in, moment_in, day_in, kind_in, kind_named}
use Rattle.desk_json.specs.Lists.{each_in, list_in, pair_in, shift_in, rating_in, window_in}
use Rattle.desk_kept.specs.Values.{signed_number, day_data, kind_name, kind_data, pair_data, shift_data}
use Rattle.desk_kept.specs.Leaves.{rating_data, window_data}
use Rattle.desk_kept.specs.TypedRows.{IsSerial, IsIdOrNone}
use Rattle.desk_kept.specs.TypedGroups.{IsRating, IsWindow}
use Rattle.desk_kept.proofs.ReadBack.{IsSound, AreSound}
use Rattle.desk_kept.proofs.Dates.{date_utf8, moment_utf8, day_back, moment_back}

-- data that are read as a value, are sound, and nest so deep at most
pub record IsKept {X : Type 0} (read : Field → Data → Result X BodyError) (n : ℕ) (d : Data) (x : X) : Type 0 where
  pub reads : (f : Field) → read f d ≡ Ok x
  pub sound : IsSound d
  pub deep : depth d ≤ n

-- ---- numbers

pub whole_kept : (greatest n : ℕ) → n ≤ greatest → greatest < 2 ^ 64 → IsKept (whole_in greatest) 0 (whole_number n) n
unfolding whole_in
whole_kept greatest n h small = record { reads = λ f. rw (le-leb n greatest h) refl; sound = omega (arith, h, small); deep = omega arith }

pub u32_kept : (n : ℕ) → n ≤ greatest_u32 → IsKept u32_in 0 (whole_number n) n
u32_kept n h = whole_kept greatest_u32 n h (omega arith)

pub id_kept : (n : ℕ) → IsId n → IsKept id_in 0 (whole_number n) n
unfolding id_in
id_kept n h =
    let small : n ≤ greatest_u32 = omega (arith, h) in
    record { reads = λ f. rw ((u32_kept n small).reads f, le-leb 1 n h.0, le-leb n id_limit h.1) refl; sound = omega (arith, h); deep = omega arith }

pub serial_kept : (n : ℕ) → IsSerial n → IsKept serial_in 0 (whole_number n) n
unfolding serial_in
serial_kept n h =
    let small : n ≤ greatest_u32 = omega (arith, h) in
    record { reads = λ f. rw ((u32_kept n small).reads f, le-leb 1 n h.0, le-leb n serial_limit h.1) refl; sound = omega (arith, h); deep = omega arith }

pub id_or_null_kept : (id : Option ℕ) → IsIdOrNone id → IsKept id_or_null_in 0 (number_or_null id) id
unfolding id_or_null_in
id_or_null_kept (Some n) h = record { reads = λ f. rw ((id_kept n h).reads f) refl; sound = (id_kept n h).sound; deep = omega arith }
id_or_null_kept None h = record { reads = λ f. refl; sound = tt; deep = omega arith }

-- a number that 32 bits with a sign hold
pub record FitsI32 (z : ℤ) : Type 0 where
  pub low : int_le (neg_ℤ (pos 2147483648)) z ≡ true
  pub high : int_le z (pos 2147483647) ≡ true

signed_kept : (z : ℤ) → FitsI32 z → IsKept i32_in 0 (signed_number z) z
unfolding i32_in
signed_kept (pos n) h = record { reads = λ f. rw h.high refl; sound = omega (arith, leb-true n 2147483647 h.high); deep = omega arith }
signed_kept (negsuc n) h = record { reads = λ f. rw h.low refl; sound = omega (arith, leb-true n 2147483647 h.low); deep = omega arith }

-- ---- texts

pub text_kept : (text : List ℕ) → IsUtf8 text → IsKept text_in 0 (string text) text
unfolding text_in
text_kept text h = record { reads = λ f. refl; sound = h; deep = omega arith }

pub moment_kept : (m : ℕ) → IsMoment m → IsKept moment_in 0 (moment_data m) m
unfolding moment_in text_in
moment_kept m h = record { reads = λ f. rw (moment_back m h) refl; sound = moment_utf8 m h; deep = omega arith }

pub day_kept : (day : ℕ) → IsDay day → IsKept day_in 0 (day_data day) day
unfolding day_in text_in
day_kept day h = record { reads = λ f. rw (day_back day h) refl; sound = date_utf8 day h; deep = omega arith }

kind_named_back : (k : Kind) → kind_named (kind_name k) ≡ Some k
unfolding kind_named
kind_named_back Generic = refl
kind_named_back Contact = refl
kind_named_back User = refl
kind_named_back Equipment = refl
kind_named_back Account = refl
kind_named_back Facility = refl
kind_named_back Crew = refl
kind_named_back Pool = refl

kind_utf8 : (k : Kind) → IsUtf8 (kind_name k)
kind_utf8 Generic = IsUtf8-are_ascii _ refl
kind_utf8 Contact = IsUtf8-are_ascii _ refl
kind_utf8 User = IsUtf8-are_ascii _ refl
kind_utf8 Equipment = IsUtf8-are_ascii _ refl
kind_utf8 Account = IsUtf8-are_ascii _ refl
kind_utf8 Facility = IsUtf8-are_ascii _ refl
kind_utf8 Crew = IsUtf8-are_ascii _ refl
kind_utf8 Pool = IsUtf8-are_ascii _ refl

pub kind_kept : (k : Kind) → IsKept kind_in 0 (kind_data k) k
unfolding kind_in text_in
kind_kept k = record { reads = λ f. rw (kind_named_back k) refl; sound = kind_utf8 k; deep = omega arith }

-- ---- pairs and lists

pub pair_kept : {X Y : Type 0} (first : Field → Data → Result X BodyError) (second : Field → Data → Result Y BodyError) (a b : Data) (x : X) (y : Y)
    → IsKept first 0 a x → IsKept second 0 b y → IsKept (pair_in first second) 1 (pair_data a b) (x, y)
unfolding pair_in
pair_kept first second a b x y h k = record { reads = λ f. rw (h.reads f, k.reads f) refl; sound = (h.sound, (k.sound, tt)); deep = omega (arith, h.deep, k.deep) }

module _ {X : Type 0} (read : Field → Data → Result X BodyError) (n : ℕ) (data_of : X → Data) where
  each_kept : (xs : List X) → All (λ x. IsKept read n (data_of x) x) xs → (f : Field) → each_in (read f) (items_of (map data_of xs)) ≡ Ok xs
  each_kept [] h f = refl
  each_kept (x ∷ xs) h f =
      let here = All-head (λ x. IsKept read n (data_of x) x) x xs h in
      let rest = each_kept xs (All-tail (λ x. IsKept read n (data_of x) x) x xs h) f in
      rw (here.reads f, rest) refl

  each_sound : (xs : List X) → All (λ x. IsKept read n (data_of x) x) xs → AreSound (items_of (map data_of xs)) × (items_depth (items_of (map data_of xs)) ≤ n)
  each_sound [] h = (tt, omega arith)
  each_sound (x ∷ xs) h =
      let here = All-head (λ x. IsKept read n (data_of x) x) x xs h in
      let rest = each_sound xs (All-tail (λ x. IsKept read n (data_of x) x) x xs h) in
      ((here.sound, rest.0), omega (arith, here.deep, rest.1))

  pub list_kept : (xs : List X) → All (λ x. IsKept read n (data_of x) x) xs → IsKept (list_in read) (suc n) (list_of (map data_of xs)) xs
  unfolding list_in
  list_kept xs h =
      let all = each_sound xs h in
      record { reads = λ f. each_kept xs h f; sound = all.0; deep = omega (arith, all.1) }

pub shift_kept : (s : ℕ × ℤ) → IsMoment s.0 → FitsI32 s.1 → IsKept shift_in 1 (shift_data s) s
shift_kept s m z = pair_kept moment_in i32_in (moment_data s.0) (signed_number s.1) s.0 s.1 (moment_kept s.0 m) (signed_kept s.1 z)

pub rating_kept : (c : ℕ × ℕ) → IsRating c → IsKept rating_in 1 (rating_data c) c
rating_kept c h = pair_kept id_in (whole_in 255) (whole_number c.0) (whole_number c.1) c.0 c.1 (id_kept c.0 h.0) (whole_kept 255 c.1 h.1 (omega arith))

pub window_kept : (w : Window) → IsWindow w → IsKept window_in 1 (window_data w) w
window_kept w h =
    let pair = pair_kept moment_in moment_in (moment_data w.from) (moment_data w.to) w.from w.to (moment_kept w.from h.0) (moment_kept w.to h.1) in
    record { reads = λ f. rw (pair.reads f) refl; sound = pair.sound; deep = pair.deep }
