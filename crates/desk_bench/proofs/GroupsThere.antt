-- A group that is found by its number is there.
use Rattle.std.proofs.Common.{◌≡◌, ℕ, ◌==◌, Some, None, inl, inr, sym, ◌∙◌, subst}
use Rattle.std.specs.Prelude.{Contains}
use Rattle.desk_base.specs.declared.rows.tables.Tables.{Tables}
use Rattle.desk_base.specs.declared.rows.groups.GroupRow.{GroupRow}
use Rattle.desk_base.specs.asked.Groups.{group_of}
use Rattle.desk_base.proofs.lists.Members.{IsIn, contains_from_in}
use Rattle.desk_base.proofs.lists.Tests.{find_cases}

pub found_group : (t : Tables) (id : ℕ) (g : GroupRow) → Some g ≡ group_of t id → Contains t.groups g
found_group t id g e =
    elim (find_cases (λ (x : GroupRow). x.id == id) t.groups) [
      | inl n ↦ let f : Some g ≡ None = e ∙ n in absurd (cc)
      | inr (y, i, p, f) ↦ let h : Some y ≡ Some g = sym f ∙ sym e in let k : y ≡ g = cc in contains_from_in t.groups g (subst (λ z. IsIn z t.groups) k i)
    ]
