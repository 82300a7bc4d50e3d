-- A row of any table is known by its constructor and the row behind it.
use Rattle.std.proofs.Common.{◌≡◌, List, map, ◌⊎◌, inl, inr, sym, ap, subst}
use Rattle.desk_base.specs.rows.Types.{AnyRow, WorkRow, DayRow, ResourceRow, MemberRow, GroupRow}
use Rattle.desk_base.specs.declared.rows.tables.AnyRow.TheVariants.{Work, Day, Resource, Member, Group}
use Rattle.desk_base.proofs.lists.Members.{IsIn, in-map}

-- ---- the row behind a constructor

work_or : WorkRow → AnyRow → WorkRow
work_or d (Work x) = x
work_or d _ = d

pub same_work : (x y : WorkRow) → Work x ≡ Work y → x ≡ y
unfolding work_or
same_work x y e = ap (work_or x) e

day_or : DayRow → AnyRow → DayRow
day_or d (Day x) = x
day_or d _ = d

pub same_day : (x y : DayRow) → Day x ≡ Day y → x ≡ y
unfolding day_or
same_day x y e = ap (day_or x) e

resource_or : ResourceRow → AnyRow → ResourceRow
resource_or d (Resource x) = x
resource_or d _ = d

pub same_resource : (x y : ResourceRow) → Resource x ≡ Resource y → x ≡ y
unfolding resource_or
same_resource x y e = ap (resource_or x) e

member_or : MemberRow → AnyRow → MemberRow
member_or d (Member x) = x
member_or d _ = d

pub same_member : (x y : MemberRow) → Member x ≡ Member y → x ≡ y
unfolding member_or
same_member x y e = ap (member_or x) e

group_or : GroupRow → AnyRow → GroupRow
group_or d (Group x) = x
group_or d _ = d

pub same_group : (x y : GroupRow) → Group x ≡ Group y → x ≡ y
unfolding group_or
same_group x y e = ap (group_or x) e

-- ---- rows of one table

-- a row among those of its table
pub in_back : {R : Type 0} (con : R → AnyRow) → ((x y : R) → con x ≡ con y → x ≡ y) → (xs : List R) (y : R) → IsIn (con y) (map con xs) → IsIn y xs
in_back con same xs y i = let h = in-map con (con y) xs i in subst (λ z. IsIn z xs) (sym (same y h.0 h.2)) h.1

-- a row of the tables with a row is that one, or was there
pub new_or_old : {R : Type 0} (con : R → AnyRow) → ((x y : R) → con x ≡ con y → x ≡ y) → (row : AnyRow) (xs : List R) (y : R) → (con y ≡ row) ⊎ IsIn (con y) (map con xs) → (con y ≡ row) ⊎ IsIn y xs
new_or_old con same row xs y (inl e) = inl e
new_or_old con same row xs y (inr i) = inr (in_back con same xs y i)
