use Rattle.std.proofs.Common.{◌≡◌, ◌∙◌, ◌+◌, ℕ, suc, refl, sym, ap, subst, arith}
use Rattle.desk_base.specs.declared.rows.tables.Key.{Key}
use Rattle.desk_base.specs.declared.rows.tables.AnyRow.TheVariants.{Booking, Group}
use Rattle.desk_base.specs.changes.Changes.{with_row}
use Rattle.desk_load.specs.Effects.{is_indexed}
use Rattle.desk_load.specs.Changed.{parts_of}
use Rattle.desk_load.specs.Index.{IsIndexOf}
use Rattle.desk_load.specs.Stages.{IsStage}
use Rattle.desk_load.proofs.Keeping.{keep_in}
use Rattle.desk_load.proofs.Following.{stage_kept, stage_fewer}
use Rattle.desk_load.proofs.changes.opened.OpenIndex.put_open.Goals as goal

pub returns-in-Ok-clause-put : goal.returns-in-Ok-clause-put
returns-in-Ok-clause-put c s more h =
    let b = c.in-Booking.booking in
    let value = c.get-in-Ok.ensures.value in
    let next : suc b.id ≡ c.get-in-Ok.result + 1 = omega (arith, value) in
    subst (λ row. IsStage c.args.tables.now (with_row s row) (c.get-in-Ok.result + 1) more (parts_of c.put_in.new.self)) (sym c.in-Booking.is)
    (subst (λ n. IsStage c.args.tables.now (with_row s (Booking b)) n more (parts_of c.put_in.new.self)) next (c.in-Ok.ensures.came s more h))

pub returns-else-is_indexed : goal.returns-else-is_indexed
returns-else-is_indexed c = record {
  put = λ s more h.
      stage_kept c.args.tables.now s (with_row s c.args.row.now) c.args.next more (parts_of c.args.self.now)
      (keep_in s c.args.row.now (ap (λ (k : Key). is_indexed k.table) (sym c.key.ensures) ∙ sym c.if-is_indexed.ensures))
      (stage_fewer c.args.tables.now s c.args.next more (parts_of c.args.self.now) h);
  before = refl;
}

pub returns-in-Ok-put_group-clause-put : goal.returns-in-Ok-put_group-clause-put
returns-in-Ok-put_group-clause-put c s more h =
    let t = c.args.tables.now in
    let new = parts_of c.put_group.new.self in
    let z = c.if-next-ne0.false in
    let e : ◌≡◌ {A = ℕ} c.args.next 0 = omega (arith, z) in
    let g = c.in-Group.group in
    subst (λ row. IsStage t (with_row s row) 0 more new) (sym c.in-Group.is)
    (stage_fewer t (with_row s (Group g)) 0 more new (c.in-Ok-put_group.ensures.put s (suc more) (subst (λ n. IsStage t s n (suc more) (parts_of c.args.self.now)) e h)))

pub returns-in_ok-put_resource-in-Resource-clause-put : goal.returns-in_ok-put_resource-in-Resource-clause-put
returns-in_ok-put_resource-in-Resource-clause-put c s more h =
    let z = c.if-next-ne0-2.false in
    let e : ◌≡◌ {A = ℕ} c.args.next 0 = omega (arith, z) in
    let a = c.in_ok-put_resource-in-Resource.ensures in (
      subst (λ row. IsIndexOf (with_row s row) (parts_of c.put_resource.new.self)) (sym c.in-Resource.is) (a.index s (suc more) (subst (λ n. IsStage c.args.tables.now s n (suc more) (parts_of c.args.self.now)) e h)),
      a.order,
    )

pub returns-in_ok-put_member-in-Member-clause-put : goal.returns-in_ok-put_member-in-Member-clause-put
returns-in_ok-put_member-in-Member-clause-put c s more h =
    let z = c.if-next-ne0-3.false in
    let e : ◌≡◌ {A = ℕ} c.args.next 0 = omega (arith, z) in
    let a = c.in_ok-put_member-in-Member.ensures in (
      subst (λ row. IsIndexOf (with_row s row) (parts_of c.put_member.new.self)) (sym c.in-Member.is) (a.index s (suc more) (subst (λ n. IsStage c.args.tables.now s n (suc more) (parts_of c.args.self.now)) e h)),
      a.order,
    )
