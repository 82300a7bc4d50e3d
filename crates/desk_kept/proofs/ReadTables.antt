-- Tables that are read have their days and shifts in the horizon.
use Rattle.std.proofs.Common.{◌≡◌, ℕ, List, [], ◌∷◌, ◌++◌, map, fold, All, Option, Some, None, Result, Ok, Err, ◌⊎◌, inl, inr, refl, sym, ap, ◌∙◌, subst}
use Rattle.std.specs.Prelude.{option_to_list, option_and_then}
use Rattle.std.proofs.lemmas.List.{map-append}
use Rattle.std.proofs.lemmas.List.Elements.{All-nil, All-cons, All-append}
use Rattle.desk_base.specs.declared.rows.tables.Tables.{Tables}
use Rattle.desk_base.specs.declared.rows.tables.Table.{Table}
use Rattle.desk_base.specs.declared.rows.tables.Key.{Key}
use Rattle.desk_base.specs.declared.rows.tables.AnyRow.{AnyRow}
use Rattle.desk_base.specs.declared.rows.tables.Table.TheVariants as table
use Rattle.desk_base.specs.declared.rows.tables.AnyRow.TheVariants.{Zone, Calendar, Work, Break, Day, Off, Unit, Site, Role, Characteristic, Territory, Resource, HasRole, HasCharacteristic, HasTerritory, Member, Group, Booking, Caller}
use Rattle.desk_base.specs.rows.Rows.{rows_in}
use Rattle.desk_base.specs.rows.Trial.{no_rows}
use Rattle.desk_base.specs.changes.Tried.{with_counters}
use Rattle.desk_base.specs.declared.asked.rules.Field.TheVariants as field
use Rattle.desk_base.proofs.lists.Members.{IsIn, in-flat_map}
use Rattle.desk_json.specs.declared.faults.BodyError.{BodyError}
use Rattle.desk_json.specs.declared.faults.BodyRule.TheVariants.{Unknown}
use Rattle.desk_json.specs.Faults.{◌>>=◌}
use Rattle.desk_json.specs.Bodies.{parsed}
use Rattle.desk_kept.specs.Kept.{row_in}
use Rattle.desk_kept.specs.Typed.{HasHorizon}
use Rattle.desk_kept.specs.Versions.{is_of_version, with_version, row_in_version, row_of_version}
use Rattle.desk_kept.specs.Stored.{key_kept, if_read, header_of, row_kept, first_bad, rows_held, with_last, unless_bad, tables_held, with_header, tables_under, tables_kept}
use Rattle.desk_kept.specs.declared.stored.KeptRow.{KeptRow}
use Rattle.desk_kept.specs.declared.stored.KeptError.{KeptError}
use Rattle.desk_kept.specs.declared.headers.Header.{Header}
use Rattle.desk_kept.specs.declared.versions.Version.{Version}
use Rattle.desk_kept.proofs.Horizons.{two_read, kept_if, row_horizon}

-- a row more stands at the end of a table, or the table is as before
last_rows : (t : Tables) (row : AnyRow) (table : Table) → (rows_in (with_last t row) table ≡ rows_in t table ++ row ∷ []) ⊎ (rows_in (with_last t row) table ≡ rows_in t table)
last_rows t (Zone x) table.Zone = inl (map-append Zone t.zones (x ∷ []))
last_rows t (Zone x) _ = inr refl
last_rows t (Calendar x) table.Calendar = inl (map-append Calendar t.calendars (x ∷ []))
last_rows t (Calendar x) _ = inr refl
last_rows t (Work x) table.Work = inl (map-append Work t.works (x ∷ []))
last_rows t (Work x) _ = inr refl
last_rows t (Break x) table.Break = inl (map-append Break t.breaks (x ∷ []))
last_rows t (Break x) _ = inr refl
last_rows t (Day x) table.Day = inl (map-append Day t.days (x ∷ []))
last_rows t (Day x) _ = inr refl
last_rows t (Off x) table.Off = inl (map-append Off t.offs (x ∷ []))
last_rows t (Off x) _ = inr refl
last_rows t (Unit x) table.Unit = inl (map-append Unit t.units (x ∷ []))
last_rows t (Unit x) _ = inr refl
last_rows t (Site x) table.Site = inl (map-append Site t.sites (x ∷ []))
last_rows t (Site x) _ = inr refl
last_rows t (Role x) table.Role = inl (map-append Role t.roles (x ∷ []))
last_rows t (Role x) _ = inr refl
last_rows t (Characteristic x) table.Characteristic = inl (map-append Characteristic t.characteristics (x ∷ []))
last_rows t (Characteristic x) _ = inr refl
last_rows t (Territory x) table.Territory = inl (map-append Territory t.territories (x ∷ []))
last_rows t (Territory x) _ = inr refl
last_rows t (Resource x) table.Resource = inl (map-append Resource t.resources (x ∷ []))
last_rows t (Resource x) _ = inr refl
last_rows t (HasRole x) table.HasRole = inl (map-append HasRole t.has_roles (x ∷ []))
last_rows t (HasRole x) _ = inr refl
last_rows t (HasCharacteristic x) table.HasCharacteristic = inl (map-append HasCharacteristic t.has_characteristics (x ∷ []))
last_rows t (HasCharacteristic x) _ = inr refl
last_rows t (HasTerritory x) table.HasTerritory = inl (map-append HasTerritory t.has_territories (x ∷ []))
last_rows t (HasTerritory x) _ = inr refl
last_rows t (Member x) table.Member = inl (map-append Member t.members (x ∷ []))
last_rows t (Member x) _ = inr refl
last_rows t (Group x) table.Group = inl (map-append Group t.groups (x ∷ []))
last_rows t (Group x) _ = inr refl
last_rows t (Booking x) table.Booking = inl (map-append Booking t.bookings (x ∷ []))
last_rows t (Booking x) _ = inr refl
last_rows t (Caller x) table.Caller = inl (map-append Caller t.callers (x ∷ []))
last_rows t (Caller x) _ = inr refl

-- each row of each table has its days and shifts in the horizon
abbrev pub AreInHorizon : Tables → Type 0
AreInHorizon t = (d : Table) → All HasHorizon (rows_in t d)

none_in : AreInHorizon no_rows
none_in table.Zone = All-nil HasHorizon
none_in _ = All-nil HasHorizon

one_in : (t : Tables) (row : AnyRow) → AreInHorizon t → HasHorizon row → AreInHorizon (with_last t row)
one_in t row h here d = elim (last_rows t row d) [
  | inl e ↦ subst (All HasHorizon) (sym e) (All-append HasHorizon (rows_in t d) (row ∷ []) (h d) (All-cons HasHorizon row [] here (All-nil HasHorizon)))
  | inr e ↦ subst (All HasHorizon) (sym e) (h d)
]

each_in : (rows : List AnyRow) (t : Tables) → AreInHorizon t → ((row : AnyRow) → IsIn row rows → HasHorizon row) → AreInHorizon (fold with_last t rows)
each_in [] t h all = h
each_in (row ∷ rows) t h all = each_in rows (with_last t row) (one_in t row h (all row (inl refl))) (λ y i. all y (inr i))

counters_in : (t : Tables) (revision last : ℕ) → AreInHorizon t → AreInHorizon (with_counters t revision last)
counters_in t revision last h table.Zone = h table.Zone
counters_in t revision last h d = subst (All HasHorizon) (same t revision last d) (h d)
  where
    same : (t : Tables) (revision last : ℕ) (d : Table) → rows_in t d ≡ rows_in (with_counters t revision last) d
    same t revision last table.Zone = refl
    same t revision last _ = refl

-- ---- rows that kept rows hold

and_then_some : {X Y : Type 0} (next : X → Option Y) (o : Option X) (y : Y) → option_and_then next o ≡ Some y → (x : X) × (o ≡ Some x) × (next x ≡ Some y)
and_then_some next (Some x) y e = (x, refl, e)
and_then_some next None y e = cc

was_read : {X : Type 0} (r : Result X BodyError) (x : X) → if_read r ≡ Some x → r ≡ Ok x
was_read (Ok y) x e = cc
was_read (Err why) x e = cc

of_version_in : (v : Version) (key : Key) (text : List ℕ) (row : AnyRow) → row_of_version v key text ≡ Ok row → HasHorizon row
unfolding row_of_version row_in_version
of_version_in v key text row e =
    let a = two_read (parsed text) (λ d. row_in key d >>= with_version v key.table d) row e in
    let b = two_read (row_in key a.0) (with_version v key.table a.0) row a.2 in
    let c = kept_if (is_of_version v key.table a.0) Unknown field.Tree b.0 row b.2 in
    subst HasHorizon c.1 (row_horizon key a.0 b.0 b.1)

kept_in : (v : Version) (r : KeptRow) (row : AnyRow) → row_kept v r ≡ Some row → HasHorizon row
unfolding row_kept
kept_in v r row e =
    let a = and_then_some (λ key. if_read (row_of_version v key r.body)) (key_kept r) row e in
    of_version_in v a.0 r.body row (was_read (row_of_version v a.0 r.body) row a.2)

in_option : (row : AnyRow) (o : Option AnyRow) → IsIn row (option_to_list o) → o ≡ Some row
in_option row (Some x) (inl e) = ap (λ y. Some y) (sym e)
in_option row (Some x) (inr i) = absurd i
in_option row None i = absurd i

held_in : (v : Version) (rows : List KeptRow) (row : AnyRow) → IsIn row (rows_held v rows) → HasHorizon row
held_in v rows row i = let h = in-flat_map (λ r. option_to_list (row_kept v r)) row rows i in kept_in v h.0 row (in_option row (row_kept v h.0) h.2)

-- ---- tables that kept rows hold

ok_tables : (t u : Tables) → ◌≡◌ {A = Result Tables KeptError} (Ok t) (Ok u) → t ≡ u
ok_tables t u e = cc

unless_in : (bad : Option KeptRow) (t u : Tables) → AreInHorizon t → unless_bad bad t ≡ Ok u → AreInHorizon u
unless_in None t u h e = subst AreInHorizon (ok_tables t u e) h
unless_in (Some r) t u h e = cc

header_in : (h : Header) (r : Result Tables KeptError) (u : Tables) → ((t : Tables) → r ≡ Ok t → AreInHorizon t) → with_header h r ≡ Ok u → AreInHorizon u
header_in h (Ok t) u here e = subst AreInHorizon (ok_tables (with_counters t h.revision h.last_booking) u e) (counters_in t h.revision h.last_booking (here t refl))
header_in h (Err why) u here e = cc

under_in : (o : Option Header) (rows : List KeptRow) (u : Tables) → tables_under o rows ≡ Ok u → AreInHorizon u
under_in None rows u e = cc
under_in (Some h) rows u e =
    header_in h (tables_held h.version rows) u
    (λ t f. unless_in (first_bad h.version None rows) (fold with_last no_rows (rows_held h.version rows)) t (each_in (rows_held h.version rows) no_rows none_in (held_in h.version rows)) f) e

pub tables_in : (rows : List KeptRow) (t : Tables) → tables_kept rows ≡ Ok t → AreInHorizon t
unfolding tables_kept
tables_in [] t e = subst AreInHorizon (ok_tables no_rows t e) none_in
tables_in (r ∷ rs) t e = under_in (header_of (r ∷ rs)) (r ∷ rs) t e
