-- The rows of sound tables keep their fields, and name what is there, without a row that no row names.
use Rattle.std.proofs.Common.{◌≡◌, ℕ, true, false, not, ◌&&◌, ◌==◌, Some, inl, inr, refl, sym, ap, ◌∙◌, subst}
use Rattle.std.proofs.lemmas.Bool.{not-true, eqb-true, eq-eqb}
use Rattle.std.specs.Option.{option_map_or}
use Rattle.std.specs.List.{list_any}
use Rattle.desk_base.specs.declared.rows.tables.Tables.{Tables}
use Rattle.desk_base.specs.declared.rows.tables.Table.{Table}
use Rattle.desk_base.specs.declared.rows.tables.Key.{Key}
use Rattle.desk_base.specs.declared.rows.tables.AnyRow.{AnyRow}
use Rattle.desk_base.specs.declared.rows.calendars.WorkRow.{WorkRow}
use Rattle.desk_base.specs.declared.rows.calendars.DayRow.{DayRow}
use Rattle.desk_base.specs.declared.rows.resources.ResourceRow.{ResourceRow}
use Rattle.desk_base.specs.declared.rows.resources.MemberRow.{MemberRow}
use Rattle.desk_base.specs.declared.rows.tables.Table.TheVariants.{Work as WorkTable, Day as DayTable, Resource as ResourceTable, Member as MemberTable}
use Rattle.desk_base.specs.declared.rows.tables.AnyRow.TheVariants.{Work, Day, Resource, Member}
use Rattle.desk_base.specs.rules.Fields.{work_rules, day_rules, resource_rules, member_rules, is_group, is_plain, is_same_membership, keeps_kind, are_of_one_kind, overlaps}
use Rattle.desk_base.specs.rows.Keys.{id_key}
use Rattle.desk_base.specs.rows.Rows.{rows_in, key_of, keys_in, citations_of}
use Rattle.desk_base.specs.meaning.Capacity.{resource_of}
use Rattle.desk_base.specs.meaning.Eligible.{kind_number}
use Rattle.desk_base.specs.meaning.Load.{sort_of, sort_of_kind, unknown}
use Rattle.desk_base.specs.changes.Changes.{without_key}
use Rattle.desk_base.specs.rules.Sound.{IsSound, keeps_fields}
use Rattle.desk_base.proofs.lists.Members.{IsIn, in_mapped}
use Rattle.desk_base.proofs.lists.Tests.{find_cases}
use Rattle.desk_base.proofs.tables.Sounds.{keys_rise}
use Rattle.desk_base.proofs.tables.AnyRows.{same_work, same_day, same_resource, same_member, in_back}
use Rattle.desk_base.proofs.tables.TakenRows.{one_row}
use Rattle.desk_base.proofs.puts.Overlaps.{none_at, none_from_each, works_meet, days_meet, members_meet}
use Rattle.desk_base.proofs.puts.Suits.{row_keeps, row_cites}
use Rattle.desk_base.proofs.puts.KindPuts.{resource_found}
use Rattle.desk_base.proofs.puts.FieldPuts.{keeps_from, kept_in}
use Rattle.desk_change.proofs.removed.Without.{row_was, key_stays}

-- no row of the tables names the key
abbrev pub IsUncited : Tables → Key → Type 0
IsUncited t k = (table : Table) (x : AnyRow) → IsIn x (rows_in t table) → ¬ (IsIn k (citations_of x))

-- ---- rows that stay

module _ (t : Tables) (k : Key) (s : IsSound t) (free : IsUncited t k) where
  abbrev rest : Tables
  rest = without_key t k

  keeps_before : (table : Table) (x : AnyRow) → IsIn x (rows_in rest table) → keeps_fields t x ≡ true
  keeps_before table x i = row_keeps t table x s (row_was t k table x i)

  -- what a row names was there, and is there
  names_before : (table : Table) (x : AnyRow) (c : Key) → IsIn x (rows_in rest table) → IsIn c (citations_of x) → IsIn c (keys_in t c.table)
  names_before table x c i j = row_cites t table x c s (row_was t k table x i) j

  pub names_still : (table : Table) (x : AnyRow) (c : Key) → IsIn x (rows_in rest table) → IsIn c (citations_of x) → IsIn c (keys_in rest c.table)
  names_still table x c i j = key_stays t k c.table c (names_before table x c i j) (λ e. free table x (row_was t k table x i) (subst (λ d. IsIn d (citations_of x)) e j))

  -- ---- work rows and day rows

  work_was : (y : WorkRow) → IsIn y rest.works → IsIn y t.works
  work_was y i = in_back Work same_work t.works y (row_was t k WorkTable (Work y) (in_mapped Work y rest.works i))

  work_keeps : (y : WorkRow) → IsIn y rest.works → keeps_fields rest (Work y) ≡ true
  work_keeps y i =
      let r = kept_in (work_rules t y) (keeps_before WorkTable (Work y) (in_mapped Work y rest.works i)) in
      let apart = none_from_each (λ x. works_meet x y) rest.works (λ x j. none_at (λ z. works_meet z y) t.works x (not-true (list_any (λ z. works_meet z y) t.works) r.1.1.1.0) (work_was x j)) in
      keeps_from (work_rules rest y) (r.0, (r.1.0, (r.1.1.0, (ap not apart, tt))))

  day_was : (y : DayRow) → IsIn y rest.days → IsIn y t.days
  day_was y i = in_back Day same_day t.days y (row_was t k DayTable (Day y) (in_mapped Day y rest.days i))

  day_keeps : (y : DayRow) → IsIn y rest.days → keeps_fields rest (Day y) ≡ true
  day_keeps y i =
      let r = kept_in (day_rules t y) (keeps_before DayTable (Day y) (in_mapped Day y rest.days i)) in
      let apart = none_from_each (λ x. days_meet x y) rest.days (λ x j. none_at (λ z. days_meet z y) t.days x (not-true (list_any (λ z. days_meet z y) t.days) r.1.1.1.0) (day_was x j)) in
      keeps_from (day_rules rest y) (r.0, (r.1.0, (r.1.1.0, (ap not apart, tt))))

  -- ---- resources

  resource_was : (y : ResourceRow) → IsIn y rest.resources → IsIn y t.resources
  resource_was y i = in_back Resource same_resource t.resources y (row_was t k ResourceTable (Resource y) (in_mapped Resource y rest.resources i))

  -- resources of one id are one
  one_resource : (y z : ResourceRow) → IsIn y t.resources → IsIn z t.resources → y.id ≡ z.id → y ≡ z
  one_resource y z i j e = one_row Resource t.resources y z (keys_rise t ResourceTable s) i j (ap (id_key ResourceTable) e)

  kind_stays : (y : ResourceRow) → IsIn y rest.resources → keeps_kind rest y ≡ true
  kind_stays y i = elim (find_cases (λ (z : ResourceRow). z.id == y.id) rest.resources) [
    | inl n ↦ ap (λ o. option_map_or (λ (x : ResourceRow). kind_number x.kind == kind_number y.kind) o true) n
    | inr r ↦
        ap (λ o. option_map_or (λ (x : ResourceRow). kind_number x.kind == kind_number y.kind) o true) r.3
        ∙ eq-eqb (kind_number r.0.kind) (kind_number y.kind) (ap (λ (x : ResourceRow). kind_number x.kind) (one_resource r.0 y (resource_was r.0 r.1) (resource_was y i) (eqb-true r.0.id y.id r.2)))
  ]

  resource_keeps : (y : ResourceRow) → IsIn y rest.resources → keeps_fields rest (Resource y) ≡ true
  resource_keeps y i =
      let r = kept_in (resource_rules t y) (keeps_before ResourceTable (Resource y) (in_mapped Resource y rest.resources i)) in
      keeps_from (resource_rules rest y) (r.0, (kind_stays y i, (r.1.1.0, tt)))

  -- a resource that stays is found as before
  found_still : (a : ℕ) → IsIn (id_key ResourceTable a) (keys_in t ResourceTable) → IsIn (id_key ResourceTable a) (keys_in rest ResourceTable) → resource_of rest a ≡ resource_of t a
  found_still a i j =
      let h = resource_found t a i in
      let g = resource_found rest a j in
      g.3 ∙ ap Some (one_resource g.0 h.0 (resource_was g.0 g.1) h.1 (g.2 ∙ sym h.2)) ∙ sym h.3

  -- ---- members

  member_was : (y : MemberRow) → IsIn y rest.members → IsIn y t.members
  member_was y i = in_back Member same_member t.members y (row_was t k MemberTable (Member y) (in_mapped Member y rest.members i))

  named_found : (y : MemberRow) (a : ℕ) → IsIn y rest.members → IsIn (id_key ResourceTable a) (citations_of (Member y)) → resource_of rest a ≡ resource_of t a
  named_found y a i c =
      let there = in_mapped Member y rest.members i in
      found_still a (names_before MemberTable (Member y) (id_key ResourceTable a) there c) (names_still MemberTable (Member y) (id_key ResourceTable a) there c)

  group_found : (y : MemberRow) → IsIn y rest.members → resource_of rest y.group ≡ resource_of t y.group
  group_found y i = named_found y y.group i (inl refl)

  member_found : (y : MemberRow) → IsIn y rest.members → resource_of rest y.member ≡ resource_of t y.member
  member_found y i = named_found y y.member i (inr (inl refl))

  same_sort : (a : ℕ) → resource_of rest a ≡ resource_of t a → sort_of rest a ≡ sort_of t a
  same_sort a e = ap (λ o. option_map_or (λ (x : ResourceRow). sort_of_kind x.kind) o unknown) e

  one_kind : (a b : ℕ) → resource_of rest a ≡ resource_of t a → resource_of rest b ≡ resource_of t b → are_of_one_kind rest a b ≡ are_of_one_kind t a b
  one_kind a b e f = λ i. option_map_or (λ (x : ResourceRow). option_map_or (λ (y : ResourceRow). kind_number x.kind == kind_number y.kind) (f i) false) (e i) false

  member_keeps : (y : MemberRow) → IsIn y rest.members → keeps_fields rest (Member y) ≡ true
  member_keeps y i =
      let r = kept_in (member_rules t y) (keeps_before MemberTable (Member y) (in_mapped Member y rest.members i)) in
      let apart = none_from_each (λ x. members_meet rest x y) rest.members (λ x j.
      ap (λ b. (x.member == y.member) && not (is_same_membership x y) && b && overlaps x.from x.to y.from y.to) (one_kind x.group y.group (group_found x j) (group_found y i))
      ∙ none_at (λ z. members_meet t z y) t.members x (not-true (list_any (λ z. members_meet t z y) t.members) r.1.1.1.0) (member_was x j)) in
      keeps_from (member_rules rest y) (
        ap is_group (same_sort y.group (group_found y i)) ∙ r.0,
        (ap is_plain (same_sort y.member (member_found y i)) ∙ r.1.0, (r.1.1.0, (ap not apart, tt))),
      )

  -- ---- every row

  pub fields_without : (x : AnyRow) → IsIn x (rows_in rest (key_of x).table) → keeps_fields rest x ≡ true
  fields_without (Work y) i = work_keeps y (in_back Work same_work rest.works y i)
  fields_without (Day y) i = day_keeps y (in_back Day same_day rest.days y i)
  fields_without (Resource y) i = resource_keeps y (in_back Resource same_resource rest.resources y i)
  fields_without (Member y) i = member_keeps y (in_back Member same_member rest.members y i)
  fields_without x i = keeps_before (key_of x).table x i
