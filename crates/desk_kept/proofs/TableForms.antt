-- The form of a table up to memberships.
use Rattle.std.proofs.Common.{◌≡◌, ℕ, Result, refl, subst}
use Rattle.serde_json.specs.Data.{Data}
use Rattle.desk_base.specs.declared.rows.tables.Table.{Table}
use Rattle.desk_base.specs.declared.rows.tables.Table.TheVariants.{Group, Booking, Caller, BookingNumbers}
use Rattle.desk_base.specs.declared.rows.tables.AnyRow.{AnyRow}
use Rattle.desk_json.specs.declared.faults.BodyError.{BodyError}
use Rattle.desk_json.specs.Faults.{IsRead}
use Rattle.desk_json.specs.Tables.{described, row_form}
use Rattle.desk_kept.specs.Kept.{kept_form}

kept_as : (t : Table) (n : ℕ) → (t ≡ Group → ⊥) → (t ≡ Booking → ⊥) → (t ≡ Caller → ⊥) → (t ≡ BookingNumbers → ⊥) → row_form (described t) ≡ kept_form t n
unfolding kept_form
kept_as Group n g b c k = absurd (g refl)
kept_as Booking n g b c k = absurd (b refl)
kept_as Caller n g b c k = absurd (c refl)
kept_as BookingNumbers n g b c k = absurd (k refl)
kept_as _ n g b c k = refl

pub kept_row : (t : Table) (n : ℕ) (d : Data) (r : Result AnyRow BodyError) → (t ≡ Group → ⊥) → (t ≡ Booking → ⊥) → (t ≡ Caller → ⊥) → (t ≡ BookingNumbers → ⊥)
    → IsRead ((row_form (described t)).read d) r → IsRead ((kept_form t n).read d) r
kept_row t n d r g b c k h = subst (λ f. IsRead (f.read d) r) (kept_as t n g b c k) h
