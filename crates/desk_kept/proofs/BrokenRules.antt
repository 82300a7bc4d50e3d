-- Rules in an order, none of which is broken.
use Rattle.std.proofs.Common.{◌≡◌, Bool, true, false, List, [], ◌∷◌, None, refl}
use Rattle.desk_base.specs.rules.Rules.{first_broken}

-- whether the first rule holds
abbrev pub holds_first : {R : Type 0} → List (Bool × R) → Bool
holds_first [] = true
holds_first (rule ∷ rules) = rule.0

-- the rules behind the first
abbrev pub others : {R : Type 0} → List (Bool × R) → List (Bool × R)
others [] = []
others (rule ∷ rules) = rules

one_holds : {R : Type 0} (b : Bool) (r : R) (rules : List (Bool × R)) → first_broken ((b, r) ∷ rules) ≡ None → (b ≡ true) × (first_broken rules ≡ None)
one_holds true r rules e = (refl, e)
one_holds false r rules e = cc

-- where no rule is broken, the first holds, and none of the others is
pub hold : {R : Type 0} (rules : List (Bool × R)) → first_broken rules ≡ None → (holds_first rules ≡ true) × (first_broken (others rules) ≡ None)
hold [] e = (refl, refl)
hold (rule ∷ rules) e = one_holds rule.0 rule.1 rules e
