-- Keys that are equal in their order are one.
use Rattle.std.proofs.Common.{◌≡◌, ℕ, true, ◌==◌, refl, sym, ap, ◌∙◌, if◌then◌else◌}
use Rattle.std.proofs.lemmas.Bool.{false≢true}
use Rattle.std.proofs.lemmas.Cmp.{ranked, tied_itself}
use Rattle.std.specs.declared.cmp.Ordering.{Ordering}
use Rattle.std.specs.declared.cmp.Ordering.TheVariants.{Less, Equal, Greater}
use Rattle.std.specs.Ordering.{nat_cmp, ordering_then, is_eq}
use Rattle.desk_base.specs.rows.Types.{Table, Key}
use Rattle.desk_base.specs.declared.rows.tables.Table.TheVariants.{Zone, Calendar, Work, Break, Day, Off, Unit, Site, Role, Characteristic, Territory, Resource, HasRole, HasCharacteristic, HasTerritory, Member, Group, Booking, Caller, BookingNumbers}
use Rattle.desk_base.specs.rows.Keys.{table_number, key_cmp}
use Rattle.desk_base.specs.asked.Refusing.{is_key}
use Rattle.desk_base.proofs.tables.Sounds.{key_total}

-- ---- tables by their numbers

-- the table of a number
abbrev table_at : ℕ → Table
table_at n =
    if n == 1 then Zone else if n == 2 then Calendar else if n == 3 then Work else if n == 4 then Break else if n == 5 then Day
    else if n == 6 then Off else if n == 7 then Unit else if n == 8 then Site else if n == 9 then Role else if n == 10 then Characteristic
    else if n == 11 then Territory else if n == 12 then Resource else if n == 13 then HasRole else if n == 14 then HasCharacteristic
    else if n == 15 then HasTerritory else if n == 16 then Member else if n == 17 then Group else if n == 18 then Booking
    else if n == 19 then Caller else BookingNumbers

table_at-number : (table : Table) → table_at (table_number table) ≡ table
table_at-number Zone = refl
table_at-number _ = refl

-- tables of one number are one
pub same_table : (x y : Table) → table_number x ≡ table_number y → x ≡ y
same_table x y e = sym (table_at-number x) ∙ ap table_at e ∙ table_at-number y

-- ---- keys

both_equal : (r s : Ordering) → ordering_then r s ≡ Equal → (r ≡ Equal) × (s ≡ Equal)
both_equal Less s e = absurd (false≢true (ap is_eq e))
both_equal Equal s e = (refl, e)
both_equal Greater s e = absurd (false≢true (ap is_eq e))

same_number : (m n : ℕ) → nat_cmp m n ≡ Equal → m ≡ n
same_number m n e = ranked m n Equal (sym e)

-- keys of which neither comes first are one
pub same_key : (x y : Key) → key_cmp x y ≡ Equal → x ≡ y
same_key x y e =
    let d = both_equal _ _ e in
    let f = both_equal _ _ d.1 in
    let g = both_equal _ _ f.1 in
    λ i. record { table = same_table x.table y.table (same_number _ _ d.0) i; a = same_number x.a y.a f.0 i; b = same_number x.b y.b g.0 i; c = same_number x.c y.c g.1 i }

is_equal : (r : Ordering) → is_eq r ≡ true → r ≡ Equal
is_equal Less e = absurd (false≢true e)
is_equal Equal e = refl
is_equal Greater e = absurd (false≢true e)

-- what the test of keys says
pub is_key-same : (k j : Key) → is_key k j ≡ true → k ≡ j
is_key-same k j e = same_key k j (is_equal (key_cmp k j) e)

pub is_key-itself : (k : Key) → is_key k k ≡ true
is_key-itself k = ap is_eq (tied_itself key_total k)
