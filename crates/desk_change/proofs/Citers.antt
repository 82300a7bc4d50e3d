-- Only rows of some tables name a row of a table: the first of all that name it is the first of theirs.
use Rattle.std.proofs.Common.{◌≡◌, ℕ, Bool, true, false, cond, ◌==◌, List, [], ◌∷◌, map, None, inl, inr, refl, sym, ap, ◌∙◌, subst}
use Rattle.std.proofs.lemmas.Bool.{false≢true}
use Rattle.std.proofs.lemmas.List.Folds.{find-append}
use Rattle.std.specs.Prelude.{filter, find, flat_map, option_map, option_to_list}
use Rattle.std.specs.List.{list_any}
use Rattle.std.specs.Option.{option_or}
use Rattle.desk_base.specs.declared.rows.tables.Tables.{Tables}
use Rattle.desk_base.specs.declared.rows.tables.Table.{Table}
use Rattle.desk_base.specs.declared.rows.tables.Key.{Key}
use Rattle.desk_base.specs.declared.rows.tables.AnyRow.{AnyRow}
use Rattle.desk_base.specs.declared.rows.groups.Leaf.{Leaf}
use Rattle.desk_base.specs.declared.rows.tables.Table.TheVariants.{Zone as ZoneTable, Unit as UnitTable, Role as RoleTable, Characteristic as CharacteristicTable, Territory as TerritoryTable, Resource as ResourceTable, Group as GroupTable, Calendar as CalendarTable}
use Rattle.desk_base.specs.declared.rows.tables.AnyRow.TheVariants.{Zone, Calendar, Work, Break, Day, Off, Unit, Site, Role, Characteristic, Territory, Resource, HasRole, HasCharacteristic, HasTerritory, Member, Group, Booking, Caller}
use Rattle.desk_base.specs.rows.Keys.{table_number, id_key}
use Rattle.desk_base.specs.rows.Rows.{rows_in, key_of, citations_of, leaf_citations}
use Rattle.desk_base.specs.asked.Refusing.{all_tables, cites, is_key}
use Rattle.desk_base.proofs.lists.Members.{IsIn, in_mapped, in-append, in-map, in-flat_map}
use Rattle.desk_base.proofs.lists.Tests.{find_cases, list_any_at}
use Rattle.desk_base.proofs.tables.KeyOrder.{is_key-same}
use Rattle.desk_base.proofs.tables.Sounds.{key_table}
use Rattle.desk_base.proofs.booked.Rebooked.{is_bookings}
use Rattle.desk_change.specs.Served.{is_master}
use Rattle.desk_change.specs.Citing.{citing_in, citing_among, citing_row, citers}
use Rattle.desk_change.proofs.Options.{map-or}

-- ---- searches in tables one after another

flat : (t : Tables) (k : Key) (tables : List Table) → citing_among t k tables ≡ option_map key_of (find (cites k) (flat_map (rows_in t) tables))
flat t k [] = refl
flat t k (x ∷ tables) =
    ap (option_or (citing_in t k x)) (flat t k tables) ∙ sym (map-or key_of (find (cites k) (rows_in t x)) (find (cites k) (flat_map (rows_in t) tables)))
    ∙ ap (option_map key_of) (sym (find-append (cites k) (rows_in t x) (flat_map (rows_in t) tables)))

-- ---- which rows name rows of which tables

-- rows of the one table may name rows of the other, where that of groups is named by bookings alone
abbrev pub is_citer : Table → Table → Bool
is_citer GroupTable table = is_bookings table
is_citer cited table = list_any (λ x. table_number x == table_number table) (citers cited)

-- a key of a list of ids
of_id : (k : Key) (table : Table) (ids : List ℕ) → IsIn k (map (id_key table) ids) → k.table ≡ table
of_id k table ids i = ap (λ (j : Key). j.table) (in-map (id_key table) k ids i).2

of_leaf : (k : Key) (l : Leaf) → IsIn k (leaf_citations l) → is_citer k.table GroupTable ≡ true
of_leaf k l i = elim (in-append k _ (map (id_key ResourceTable) l.restricted) i) [
  | inr j ↦ ap (λ x. is_citer x GroupTable) (of_id k ResourceTable l.restricted j)
  | inl j ↦ elim (in-append k _ (map (id_key ResourceTable) l.required) j) [
    | inr h ↦ ap (λ x. is_citer x GroupTable) (of_id k ResourceTable l.required h)
    | inl h ↦ elim (in-append k _ (map (id_key UnitTable) l.units) h) [
      | inr g ↦ ap (λ x. is_citer x GroupTable) (of_id k UnitTable l.units g)
      | inl g ↦ elim (in-append k _ (map (id_key TerritoryTable) l.territories) g) [
        | inr f ↦ ap (λ x. is_citer x GroupTable) (of_id k TerritoryTable l.territories f)
        | inl f ↦ elim (in-append k (map (id_key RoleTable) l.roles) (map (λ c. id_key CharacteristicTable c.0) l.characteristics) f) [
          | inl e ↦ ap (λ x. is_citer x GroupTable) (of_id k RoleTable l.roles e)
          | inr e ↦ ap (λ (j : Key). is_citer j.table GroupTable) (in-map (λ (c : ℕ × ℕ). id_key CharacteristicTable c.0) k l.characteristics e).2
        ]
      ]
    ]
  ]
]

pub cited : (row : AnyRow) (k : Key) → IsIn k (citations_of row) → is_citer k.table (key_of row).table ≡ true
cited (Calendar x) k (inl e) = ap (λ (j : Key). is_citer j.table (key_of (Calendar x)).table) e
cited (Calendar x) k (inr i) = absurd i
cited (Work x) k (inl e) = ap (λ (j : Key). is_citer j.table (key_of (Work x)).table) e
cited (Work x) k (inr i) = absurd i
cited (Break x) k (inl e) = ap (λ (j : Key). is_citer j.table (key_of (Break x)).table) e
cited (Break x) k (inr i) = absurd i
cited (Day x) k (inl e) = ap (λ (j : Key). is_citer j.table (key_of (Day x)).table) e
cited (Day x) k (inr i) = absurd i
cited (Off x) k (inl e) = ap (λ (j : Key). is_citer j.table (key_of (Off x)).table) e
cited (Off x) k (inr i) = absurd i
cited (Resource x) k i = elim (in-append k (map (id_key CalendarTable) (option_to_list x.calendar)) _ i) [
  | inl j ↦ ap (λ y. is_citer y ResourceTable) (of_id k CalendarTable (option_to_list x.calendar) j)
  | inr (inl e) ↦ ap (λ (j : Key). is_citer j.table ResourceTable) e
  | inr (inr (inl e)) ↦ ap (λ (j : Key). is_citer j.table ResourceTable) e
  | inr (inr (inr j)) ↦ absurd j
]
cited (HasRole x) k (inl e) = ap (λ (j : Key). is_citer j.table (key_of (HasRole x)).table) e
cited (HasRole x) k (inr (inl e)) = ap (λ (j : Key). is_citer j.table (key_of (HasRole x)).table) e
cited (HasRole x) k (inr (inr i)) = absurd i
cited (HasCharacteristic x) k (inl e) = ap (λ (j : Key). is_citer j.table (key_of (HasCharacteristic x)).table) e
cited (HasCharacteristic x) k (inr (inl e)) = ap (λ (j : Key). is_citer j.table (key_of (HasCharacteristic x)).table) e
cited (HasCharacteristic x) k (inr (inr i)) = absurd i
cited (HasTerritory x) k (inl e) = ap (λ (j : Key). is_citer j.table (key_of (HasTerritory x)).table) e
cited (HasTerritory x) k (inr (inl e)) = ap (λ (j : Key). is_citer j.table (key_of (HasTerritory x)).table) e
cited (HasTerritory x) k (inr (inr i)) = absurd i
cited (Member x) k (inl e) = ap (λ (j : Key). is_citer j.table (key_of (Member x)).table) e
cited (Member x) k (inr (inl e)) = ap (λ (j : Key). is_citer j.table (key_of (Member x)).table) e
cited (Member x) k (inr (inr i)) = absurd i
cited (Group x) k i = let h = in-flat_map leaf_citations k x.leaves i in of_leaf k h.0 h.2
cited (Booking x) k (inl e) = ap (λ (j : Key). is_citer j.table (key_of (Booking x)).table) e
cited (Booking x) k (inr (inl e)) = ap (λ (j : Key). is_citer j.table (key_of (Booking x)).table) e
cited (Booking x) k (inr (inr i)) = absurd i
cited (Zone x) k i = absurd i
cited (Unit x) k i = absurd i
cited (Site x) k i = absurd i
cited (Role x) k i = absurd i
cited (Characteristic x) k i = absurd i
cited (Territory x) k i = absurd i
cited (Caller x) k i = absurd i

-- ---- only those tables are looked at

module _ (t : Tables) (k : Key) where
  -- a row that names the key is of one of them
  by_citer : (table : Table) (row : AnyRow) → IsIn row (rows_in t table) → cites k row ≡ true → is_citer k.table table ≡ true
  by_citer table row i e =
      let h = list_any_at (is_key k) (citations_of row) e in
      let j : IsIn k (citations_of row) = subst (λ x. IsIn x (citations_of row)) (sym (is_key-same k h.0 h.2)) h.1 in
      subst (λ x. is_citer k.table x ≡ true) (key_table t table (key_of row) (in_mapped key_of row (rows_in t table) i)) (cited row k j)

  none_in : (table : Table) → is_citer k.table table ≡ false → citing_in t k table ≡ None
  none_in table e = elim (find_cases (cites k) (rows_in t table)) [
    | inl f ↦ ap (option_map key_of) f
    | inr (row, i, h, f) ↦ absurd (false≢true (sym e ∙ by_citer table row i h))
  ]

  filtered : (tables : List Table) → citing_among t k (filter (is_citer k.table) tables) ≡ citing_among t k tables
  filtered [] = refl
  filtered (x ∷ tables) = step (is_citer k.table x) refl (filtered tables)
    where
      step : (b : Bool) → is_citer k.table x ≡ b → citing_among t k (filter (is_citer k.table) tables) ≡ citing_among t k tables
          → citing_among t k (cond b (x ∷ filter (is_citer k.table) tables) (filter (is_citer k.table) tables)) ≡ option_or (citing_in t k x) (citing_among t k tables)
      step true e f = ap (option_or (citing_in t k x)) f
      step false e f = f ∙ ap (λ o. option_or o (citing_among t k tables)) (sym (none_in x e))

in_order : (cited : Table) → is_master cited ≡ true → citers cited ≡ filter (is_citer cited) all_tables
in_order GroupTable m = absurd (false≢true m)
in_order ZoneTable m = refl
in_order _ m = refl

-- the first of all rows that name the key
pub by_citers : (t : Tables) (k : Key) → is_master k.table ≡ true → citing_among t k (citers k.table) ≡ citing_row t k
by_citers t k m = ap (citing_among t k) (in_order k.table m) ∙ filtered t k all_tables ∙ flat t k all_tables
