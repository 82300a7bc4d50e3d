-- The rows of sound tables keep their field rules where a row is put that suits them.
use Rattle.std.proofs.Common.{◌≡◌, true, false, not, cond, ◌&&◌, ◌==◌, [], ◌∷◌, map, Some, None, inl, inr, refl, sym, ap, ◌∙◌, is_none}
use Rattle.std.proofs.lemmas.Bool.{not-true}
use Rattle.std.specs.List.{list_any, AllByRecursion}
use Rattle.desk_base.specs.rows.Types.{Tables, AnyRow, WorkRow, DayRow, ResourceRow, MemberRow}
use Rattle.desk_base.specs.declared.rows.tables.Table.TheVariants.{Work as WorkTable, Day as DayTable, Resource as ResourceTable, Member as MemberTable}
use Rattle.desk_base.specs.declared.rows.tables.AnyRow.TheVariants.{Work, Day, Resource, Member}
use Rattle.desk_base.specs.rules.Rules.{first_broken}
use Rattle.desk_base.specs.rows.Keys.{id_key}
use Rattle.desk_base.specs.rows.Rows.{rows_in, key_of}
use Rattle.desk_base.specs.rules.Fields.{Rules, work_rules, day_rules, resource_rules, member_rules, is_group, is_plain, is_same_membership, overlaps}
use Rattle.desk_base.specs.changes.Changes.{with_row}
use Rattle.desk_base.specs.rules.Sound.{IsSound, keeps_fields}
use Rattle.desk_base.proofs.lists.Members.{IsIn, in_mapped}
use Rattle.desk_base.proofs.lists.Tests.{and_left}
use Rattle.desk_base.proofs.meaning.Shapes.{rules_kept, none_from}
use Rattle.desk_base.proofs.puts.Overlaps.{none_at, none_from_each, none_met, works_meet, works_meet-swap, works_meet-itself, days_meet, days_meet-swap, days_meet-itself, members_meet, members_meet-swap, members_meet-itself}
use Rattle.desk_base.proofs.tables.AnyRows.{same_work, same_day, same_resource, same_member, in_back, new_or_old}
use Rattle.desk_base.proofs.tables.RowPuts.{in_put}
use Rattle.desk_base.proofs.puts.Suits.{Suits, put_keeps, put_cited_before}
use Rattle.desk_base.proofs.puts.KindPuts.{kinds_put, sort_put, one_kind_put}

-- ---- rules that hold, one by one

pub unbroken : (rules : Rules) → AllByRecursion (λ x. x.0 ≡ true) rules → first_broken rules ≡ None
unbroken [] h = refl
unbroken (x ∷ rules) h = ap (λ b. cond b (first_broken rules) (Some x.1)) h.0 ∙ unbroken rules h.1

pub keeps_from : (rules : Rules) → AllByRecursion (λ x. x.0 ≡ true) rules → (is_none (first_broken rules) && true) ≡ true
keeps_from rules h = ap (λ o. is_none o && true) (unbroken rules h)

pub kept_in : (rules : Rules) → (is_none (first_broken rules) && true) ≡ true → AllByRecursion (λ x. x.0 ≡ true) rules
kept_in rules e = rules_kept rules (none_from (first_broken rules) (and_left (is_none (first_broken rules)) true e))

module _ (t : Tables) (row : AnyRow) (s : IsSound t) (fit : Suits t row) where
  -- ---- work rows and day rows

  work_before : (y : WorkRow) → IsIn y (with_row t row).works → AllByRecursion (λ x. x.0 ≡ true) (work_rules t y)
  work_before y i = kept_in (work_rules t y) (put_keeps t row s fit WorkTable (Work y) (in_mapped Work y (with_row t row).works i))

  works_apart : (y : WorkRow) → IsIn y (with_row t row).works → list_any (λ x. works_meet x y) (with_row t row).works ≡ false
  works_apart y i =
      none_met works_meet works_meet-swap works_meet-itself (λ x. Work x ≡ row) (λ x z e f. same_work x z (e ∙ sym f)) t.works (with_row t row).works
      (λ x j. new_or_old Work same_work row t.works x (in_put t row WorkTable (Work x) (in_mapped Work x (with_row t row).works j)))
      (λ x j. not-true (list_any (λ z. works_meet z x) t.works) (work_before x j).1.1.1.0) y i

  work_keeps : (y : WorkRow) → IsIn y (with_row t row).works → keeps_fields (with_row t row) (Work y) ≡ true
  work_keeps y i =
      let r = work_before y i in
      keeps_from (work_rules (with_row t row) y) (r.0, (r.1.0, (r.1.1.0, (ap not (works_apart y i), tt))))

  day_before : (y : DayRow) → IsIn y (with_row t row).days → AllByRecursion (λ x. x.0 ≡ true) (day_rules t y)
  day_before y i = kept_in (day_rules t y) (put_keeps t row s fit DayTable (Day y) (in_mapped Day y (with_row t row).days i))

  days_apart : (y : DayRow) → IsIn y (with_row t row).days → list_any (λ x. days_meet x y) (with_row t row).days ≡ false
  days_apart y i =
      none_met days_meet days_meet-swap days_meet-itself (λ x. Day x ≡ row) (λ x z e f. same_day x z (e ∙ sym f)) t.days (with_row t row).days
      (λ x j. new_or_old Day same_day row t.days x (in_put t row DayTable (Day x) (in_mapped Day x (with_row t row).days j)))
      (λ x j. not-true (list_any (λ z. days_meet z x) t.days) (day_before x j).1.1.1.0) y i

  day_keeps : (y : DayRow) → IsIn y (with_row t row).days → keeps_fields (with_row t row) (Day y) ≡ true
  day_keeps y i =
      let r = day_before y i in
      keeps_from (day_rules (with_row t row) y) (r.0, (r.1.0, (r.1.1.0, (ap not (days_apart y i), tt))))

  -- ---- resources and members

  resource_keeps : (y : ResourceRow) → IsIn y (with_row t row).resources → keeps_fields (with_row t row) (Resource y) ≡ true
  resource_keeps y i =
      let r = kept_in (resource_rules t y) (put_keeps t row s fit ResourceTable (Resource y) (in_mapped Resource y (with_row t row).resources i)) in
      keeps_from (resource_rules (with_row t row) y) (r.0, (kinds_put t row s fit y i, (r.1.1.0, tt)))

  member_before : (y : MemberRow) → IsIn y (with_row t row).members → AllByRecursion (λ x. x.0 ≡ true) (member_rules t y)
  member_before y i = kept_in (member_rules t y) (put_keeps t row s fit MemberTable (Member y) (in_mapped Member y (with_row t row).members i))

  group_there : (y : MemberRow) → IsIn y (with_row t row).members → IsIn (id_key ResourceTable y.group) (map key_of (rows_in t ResourceTable))
  group_there y i = put_cited_before t row s fit MemberTable (Member y) (id_key ResourceTable y.group) (in_mapped Member y (with_row t row).members i) (inl refl)

  member_there : (y : MemberRow) → IsIn y (with_row t row).members → IsIn (id_key ResourceTable y.member) (map key_of (rows_in t ResourceTable))
  member_there y i = put_cited_before t row s fit MemberTable (Member y) (id_key ResourceTable y.member) (in_mapped Member y (with_row t row).members i) (inr (inl refl))

  members_apart : (y : MemberRow) → IsIn y (with_row t row).members → list_any (λ x. members_meet t x y) (with_row t row).members ≡ false
  members_apart y i =
      none_met (members_meet t) (members_meet-swap t) (members_meet-itself t) (λ x. Member x ≡ row) (λ x z e f. same_member x z (e ∙ sym f)) t.members (with_row t row).members
      (λ x j. new_or_old Member same_member row t.members x (in_put t row MemberTable (Member x) (in_mapped Member x (with_row t row).members j)))
      (λ x j. not-true (list_any (λ z. members_meet t z x) t.members) (member_before x j).1.1.1.0) y i

  members_still_apart : (y : MemberRow) → IsIn y (with_row t row).members → list_any (λ x. members_meet (with_row t row) x y) (with_row t row).members ≡ false
  members_still_apart y i = none_from_each (λ x. members_meet (with_row t row) x y) (with_row t row).members (λ x j.
      ap (λ b. (x.member == y.member) && not (is_same_membership x y) && b && overlaps x.from x.to y.from y.to) (one_kind_put t row s fit x.group y.group (group_there x j) (group_there y i))
      ∙ none_at (λ z. members_meet t z y) (with_row t row).members x (members_apart y i) j)

  member_keeps : (y : MemberRow) → IsIn y (with_row t row).members → keeps_fields (with_row t row) (Member y) ≡ true
  member_keeps y i =
      let r = member_before y i in
      keeps_from (member_rules (with_row t row) y) (
        ap is_group (sort_put t row s fit y.group (group_there y i)) ∙ r.0,
        (ap is_plain (sort_put t row s fit y.member (member_there y i)) ∙ r.1.0, (r.1.1.0, (ap not (members_still_apart y i), tt))),
      )

  -- ---- every row

  pub fields_put : (x : AnyRow) → IsIn x (rows_in (with_row t row) (key_of x).table) → keeps_fields (with_row t row) x ≡ true
  fields_put (Work y) i = work_keeps y (in_back Work same_work (with_row t row).works y i)
  fields_put (Day y) i = day_keeps y (in_back Day same_day (with_row t row).days y i)
  fields_put (Resource y) i = resource_keeps y (in_back Resource same_resource (with_row t row).resources y i)
  fields_put (Member y) i = member_keeps y (in_back Member same_member (with_row t row).members y i)
  fields_put x i = put_keeps t row s fit (key_of x).table x i
