-- One crew for all who are chosen, among the crews.
use Rattle.std.proofs.Common.{◌≡◌, ℕ, suc, Bool, true, false, cond, ◌&&◌, ◌||◌, ◌==◌, List, [], ◌∷◌, map, length, refl, sym, ap, ◌∙◌, arith}
use Rattle.std.proofs.lemmas.Bool.Decides.{nat_tests}
use Rattle.std.specs.Prelude.{filter}
use Rattle.std.specs.List.{list_any, list_all}
use Rattle.desk_base.specs.declared.rows.tables.Tables.{Tables}
use Rattle.desk_base.specs.declared.rows.resources.ResourceRow.{ResourceRow}
use Rattle.desk_base.specs.meaning.Load.{sort_of_kind, is_crew}
use Rattle.desk_base.specs.meaning.Picks.{Choice, have_one_crew, is_in_crew}
use Rattle.desk_need.specs.Crews.{is_crew_row, crews_of}

-- what passes both tests is one of what passes the first
pub any_picked : {A B : Type 0} (p : A → Bool) (f : A → B) (q : B → Bool) (xs : List A) → list_any (λ x. p x && q (f x)) xs ≡ list_any q (map f (filter p xs))
any_picked p f q [] = refl
any_picked {A} {B} p f q (x ∷ xs) = step (p x) (any_picked p f q xs)
  where
    step : (b : Bool) → list_any (λ y. p y && q (f y)) xs ≡ list_any q (map f (filter p xs)) → ((b && q (f x)) || list_any (λ y. p y && q (f y)) xs) ≡ list_any q (map f (cond b (x ∷ filter p xs) (filter p xs)))
    step true e = ap (λ c. q (f x) || c) e
    step false e = e

not_none : (n : ℕ) → (suc n == 0) ≡ false
not_none n = grind (arith, nat_tests)

pub one_crew : (t : Tables) (s : ℕ) (cs : List Choice) → have_one_crew t s cs ≡ ((length cs == 0) || list_any (λ g. list_all (is_in_crew t s g) cs) (crews_of t))
unfolding is_crew_row
one_crew t s [] = refl
one_crew t s (c ∷ cs) =
    any_picked (λ (x : ResourceRow). is_crew (sort_of_kind x.kind)) (λ x. x.id) (λ g. list_all (is_in_crew t s g) (c ∷ cs)) t.resources
    ∙ sym (ap (λ b. b || list_any (λ g. list_all (is_in_crew t s g) (c ∷ cs)) (crews_of t)) (not_none (length cs)))
