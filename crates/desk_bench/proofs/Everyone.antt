-- What is none of the resources bears the standing bookings, which weigh nothing on it.
use Rattle.std.proofs.Common.{◌≡◌, ℕ, true, ◌==◌, List, map, inl, inr, sym, subst, arith}
use Rattle.std.proofs.lemmas.Bool.Decides.{nat_tests}
use Rattle.std.specs.Prelude.{Contains}
use Rattle.desk_base.specs.declared.rows.tables.Tables.{Tables}
use Rattle.desk_base.specs.declared.rows.resources.ResourceRow.{ResourceRow}
use Rattle.desk_base.specs.meaning.Time.{IsMinute}
use Rattle.desk_base.specs.meaning.Load.{ask_of, IsWithinRoom}
use Rattle.desk_base.proofs.lists.Members.{contains_from_in, in_mapped}
use Rattle.desk_base.proofs.lists.Tests.{find_cases}
use Rattle.desk_load.specs.Index.{resource_numbers}
use Rattle.desk_load.proofs.Among.{bears_nothing}
use Rattle.desk_load.proofs.RoomLemmas.{unknown_weighs}

equal : (m n : ℕ) → (m == n) ≡ true → m ≡ n
equal m n e = grind (arith, nat_tests)

pub none_else : (t : Tables) (seen : List ℕ) → seen ≡ resource_numbers t → (r m : ℕ) → IsMinute m → (Contains seen r → ⊥) → IsWithinRoom t (map ask_of t.bookings) r m
none_else t seen all r m i n = elim (find_cases (λ (x : ResourceRow). x.id == r) t.resources) [
  | inl e ↦ bears_nothing t r m (unknown_weighs t (map ask_of t.bookings) r m e)
  | inr f ↦ absurd (n (subst (λ l. Contains l r) (sym all) (subst (Contains (resource_numbers t)) (equal f.0.id r f.2) (contains_from_in (resource_numbers t) f.0.id (in_mapped (λ (x : ResourceRow). x.id) f.0 t.resources f.1)))))
]
