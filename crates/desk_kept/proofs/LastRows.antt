-- Tables that are made of their rows, table by table.
use Rattle.std.proofs.Common.{◌≡◌, List, [], ◌∷◌, ◌++◌, map, fold, refl, sym, ap, ◌∙◌, append-nil, append_assoc}
use Rattle.std.proofs.lemmas.List.Sums.{fold-append}
use Rattle.desk_base.specs.declared.rows.tables.Tables.{Tables}
use Rattle.desk_base.specs.declared.rows.tables.AnyRow.{AnyRow}
use Rattle.desk_base.specs.declared.rows.tables.AnyRow.TheVariants.{Zone, Calendar, Work, Break, Day, Off, Unit, Site, Role, Characteristic, Territory, Resource, HasRole, HasCharacteristic, HasTerritory, Member, Group, Booking, Caller}
use Rattle.desk_base.specs.rows.Trial.{no_rows}
use Rattle.desk_base.specs.changes.Tried.{with_counters}
use Rattle.desk_kept.specs.Stored.{all_rows, with_last}

module _ {R : Type 0} (con : R → AnyRow) (get : Tables → List R) (put : Tables → List R → Tables)
    (one : (t : Tables) (x : R) → with_last t (con x) ≡ put t (get t ++ x ∷ []))
    (here : (t : Tables) (xs : List R) → get (put t xs) ≡ xs)
    (again : (t : Tables) (xs ys : List R) → put (put t xs) ys ≡ put t ys)
    (same : (t : Tables) → put t (get t) ≡ t) where
  -- rows of one table go to its end
  of_table : (t : Tables) (xs : List R) → fold with_last t (map con xs) ≡ put t (get t ++ xs)
  of_table t [] = sym (ap (put t) (append-nil (get t)) ∙ same t)
  of_table t (x ∷ xs) =
      ap (λ u. fold with_last u (map con xs)) (one t x) ∙ of_table (put t (get t ++ x ∷ [])) xs
      ∙ ap (λ ys. put (put t (get t ++ x ∷ [])) (ys ++ xs)) (here t (get t ++ x ∷ [])) ∙ again t (get t ++ x ∷ []) ((get t ++ x ∷ []) ++ xs) ∙ ap (put t) (append_assoc (get t) (x ∷ []) xs)

  -- the rows of a table that is empty, before those of others
  first_rows : (t : Tables) (xs : List R) (rows : List AnyRow) → get t ≡ [] → fold with_last t (map con xs ++ rows) ≡ fold with_last (put t xs) rows
  first_rows t xs rows e = fold-append with_last t (map con xs) rows ∙ ap (λ u. fold with_last u rows) (of_table t xs ∙ ap (λ ys. put t (ys ++ xs)) e)

-- ---- the tables, one after another

zones_first : (t : Tables) (u : Tables) (rows : List AnyRow) → u.zones ≡ [] → fold with_last u (map Zone t.zones ++ rows) ≡ fold with_last (record u { zones = t.zones }) rows
zones_first t u rows e = first_rows Zone (λ w. w.zones) (λ w xs. record w { zones = xs }) (λ w x. refl) (λ w xs. refl) (λ w xs ys. refl) (λ w. refl) u t.zones rows e

calendars_first : (t : Tables) (u : Tables) (rows : List AnyRow) → u.calendars ≡ [] → fold with_last u (map Calendar t.calendars ++ rows) ≡ fold with_last (record u { calendars = t.calendars }) rows
calendars_first t u rows e = first_rows Calendar (λ w. w.calendars) (λ w xs. record w { calendars = xs }) (λ w x. refl) (λ w xs. refl) (λ w xs ys. refl) (λ w. refl) u t.calendars rows e

works_first : (t : Tables) (u : Tables) (rows : List AnyRow) → u.works ≡ [] → fold with_last u (map Work t.works ++ rows) ≡ fold with_last (record u { works = t.works }) rows
works_first t u rows e = first_rows Work (λ w. w.works) (λ w xs. record w { works = xs }) (λ w x. refl) (λ w xs. refl) (λ w xs ys. refl) (λ w. refl) u t.works rows e

breaks_first : (t : Tables) (u : Tables) (rows : List AnyRow) → u.breaks ≡ [] → fold with_last u (map Break t.breaks ++ rows) ≡ fold with_last (record u { breaks = t.breaks }) rows
breaks_first t u rows e = first_rows Break (λ w. w.breaks) (λ w xs. record w { breaks = xs }) (λ w x. refl) (λ w xs. refl) (λ w xs ys. refl) (λ w. refl) u t.breaks rows e

days_first : (t : Tables) (u : Tables) (rows : List AnyRow) → u.days ≡ [] → fold with_last u (map Day t.days ++ rows) ≡ fold with_last (record u { days = t.days }) rows
days_first t u rows e = first_rows Day (λ w. w.days) (λ w xs. record w { days = xs }) (λ w x. refl) (λ w xs. refl) (λ w xs ys. refl) (λ w. refl) u t.days rows e

offs_first : (t : Tables) (u : Tables) (rows : List AnyRow) → u.offs ≡ [] → fold with_last u (map Off t.offs ++ rows) ≡ fold with_last (record u { offs = t.offs }) rows
offs_first t u rows e = first_rows Off (λ w. w.offs) (λ w xs. record w { offs = xs }) (λ w x. refl) (λ w xs. refl) (λ w xs ys. refl) (λ w. refl) u t.offs rows e

units_first : (t : Tables) (u : Tables) (rows : List AnyRow) → u.units ≡ [] → fold with_last u (map Unit t.units ++ rows) ≡ fold with_last (record u { units = t.units }) rows
units_first t u rows e = first_rows Unit (λ w. w.units) (λ w xs. record w { units = xs }) (λ w x. refl) (λ w xs. refl) (λ w xs ys. refl) (λ w. refl) u t.units rows e

sites_first : (t : Tables) (u : Tables) (rows : List AnyRow) → u.sites ≡ [] → fold with_last u (map Site t.sites ++ rows) ≡ fold with_last (record u { sites = t.sites }) rows
sites_first t u rows e = first_rows Site (λ w. w.sites) (λ w xs. record w { sites = xs }) (λ w x. refl) (λ w xs. refl) (λ w xs ys. refl) (λ w. refl) u t.sites rows e

roles_first : (t : Tables) (u : Tables) (rows : List AnyRow) → u.roles ≡ [] → fold with_last u (map Role t.roles ++ rows) ≡ fold with_last (record u { roles = t.roles }) rows
roles_first t u rows e = first_rows Role (λ w. w.roles) (λ w xs. record w { roles = xs }) (λ w x. refl) (λ w xs. refl) (λ w xs ys. refl) (λ w. refl) u t.roles rows e

characteristics_first : (t : Tables) (u : Tables) (rows : List AnyRow) → u.characteristics ≡ [] → fold with_last u (map Characteristic t.characteristics ++ rows) ≡ fold with_last (record u { characteristics = t.characteristics }) rows
characteristics_first t u rows e = first_rows Characteristic (λ w. w.characteristics) (λ w xs. record w { characteristics = xs }) (λ w x. refl) (λ w xs. refl) (λ w xs ys. refl) (λ w. refl) u t.characteristics rows e

territories_first : (t : Tables) (u : Tables) (rows : List AnyRow) → u.territories ≡ [] → fold with_last u (map Territory t.territories ++ rows) ≡ fold with_last (record u { territories = t.territories }) rows
territories_first t u rows e = first_rows Territory (λ w. w.territories) (λ w xs. record w { territories = xs }) (λ w x. refl) (λ w xs. refl) (λ w xs ys. refl) (λ w. refl) u t.territories rows e

resources_first : (t : Tables) (u : Tables) (rows : List AnyRow) → u.resources ≡ [] → fold with_last u (map Resource t.resources ++ rows) ≡ fold with_last (record u { resources = t.resources }) rows
resources_first t u rows e = first_rows Resource (λ w. w.resources) (λ w xs. record w { resources = xs }) (λ w x. refl) (λ w xs. refl) (λ w xs ys. refl) (λ w. refl) u t.resources rows e

has_roles_first : (t : Tables) (u : Tables) (rows : List AnyRow) → u.has_roles ≡ [] → fold with_last u (map HasRole t.has_roles ++ rows) ≡ fold with_last (record u { has_roles = t.has_roles }) rows
has_roles_first t u rows e = first_rows HasRole (λ w. w.has_roles) (λ w xs. record w { has_roles = xs }) (λ w x. refl) (λ w xs. refl) (λ w xs ys. refl) (λ w. refl) u t.has_roles rows e

has_characteristics_first : (t : Tables) (u : Tables) (rows : List AnyRow) → u.has_characteristics ≡ [] → fold with_last u (map HasCharacteristic t.has_characteristics ++ rows) ≡ fold with_last (record u { has_characteristics = t.has_characteristics }) rows
has_characteristics_first t u rows e = first_rows HasCharacteristic (λ w. w.has_characteristics) (λ w xs. record w { has_characteristics = xs }) (λ w x. refl) (λ w xs. refl) (λ w xs ys. refl) (λ w. refl) u t.has_characteristics rows e

has_territories_first : (t : Tables) (u : Tables) (rows : List AnyRow) → u.has_territories ≡ [] → fold with_last u (map HasTerritory t.has_territories ++ rows) ≡ fold with_last (record u { has_territories = t.has_territories }) rows
has_territories_first t u rows e = first_rows HasTerritory (λ w. w.has_territories) (λ w xs. record w { has_territories = xs }) (λ w x. refl) (λ w xs. refl) (λ w xs ys. refl) (λ w. refl) u t.has_territories rows e

members_first : (t : Tables) (u : Tables) (rows : List AnyRow) → u.members ≡ [] → fold with_last u (map Member t.members ++ rows) ≡ fold with_last (record u { members = t.members }) rows
members_first t u rows e = first_rows Member (λ w. w.members) (λ w xs. record w { members = xs }) (λ w x. refl) (λ w xs. refl) (λ w xs ys. refl) (λ w. refl) u t.members rows e

groups_first : (t : Tables) (u : Tables) (rows : List AnyRow) → u.groups ≡ [] → fold with_last u (map Group t.groups ++ rows) ≡ fold with_last (record u { groups = t.groups }) rows
groups_first t u rows e = first_rows Group (λ w. w.groups) (λ w xs. record w { groups = xs }) (λ w x. refl) (λ w xs. refl) (λ w xs ys. refl) (λ w. refl) u t.groups rows e

bookings_first : (t : Tables) (u : Tables) (rows : List AnyRow) → u.bookings ≡ [] → fold with_last u (map Booking t.bookings ++ rows) ≡ fold with_last (record u { bookings = t.bookings }) rows
bookings_first t u rows e = first_rows Booking (λ w. w.bookings) (λ w xs. record w { bookings = xs }) (λ w x. refl) (λ w xs. refl) (λ w xs ys. refl) (λ w. refl) u t.bookings rows e

callers_first : (t : Tables) (u : Tables) (rows : List AnyRow) → u.callers ≡ [] → fold with_last u (map Caller t.callers ++ rows) ≡ fold with_last (record u { callers = t.callers }) rows
callers_first t u rows e = first_rows Caller (λ w. w.callers) (λ w xs. record w { callers = xs }) (λ w x. refl) (λ w xs. refl) (λ w xs ys. refl) (λ w. refl) u t.callers rows e

-- tables are made of all their rows, and their counters
pub made_of_rows : (t : Tables) → with_counters (fold with_last no_rows (all_rows t)) t.revision t.last_booking ≡ t
made_of_rows t = ap (λ u. with_counters u t.revision t.last_booking) (
    zones_first t _ _ refl
    ∙ calendars_first t _ _ refl
    ∙ works_first t _ _ refl
    ∙ breaks_first t _ _ refl
    ∙ days_first t _ _ refl
    ∙ offs_first t _ _ refl
    ∙ units_first t _ _ refl
    ∙ sites_first t _ _ refl
    ∙ roles_first t _ _ refl
    ∙ characteristics_first t _ _ refl
    ∙ territories_first t _ _ refl
    ∙ resources_first t _ _ refl
    ∙ has_roles_first t _ _ refl
    ∙ has_characteristics_first t _ _ refl
    ∙ has_territories_first t _ _ refl
    ∙ members_first t _ _ refl
    ∙ groups_first t _ _ refl
    ∙ bookings_first t _ _ refl
    ∙ callers_first t _ _ refl)
