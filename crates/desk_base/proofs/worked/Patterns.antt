-- What begins no pattern of a tree, and where the shape of picks is first bad, by computation.
use Rattle.std.proofs.Common.{◌≡◌, ℕ, zero, suc, ◌<◌, ◌≤◌, ◌⊎◌, List, [], ◌∷◌, ◌++◌, take, length, Bool, true, false, refl, sym, subst, ◌∙◌, arith, inr, ⊎_elim}
use Rattle.std.proofs.lemmas.Bool.{true≢false}
use Rattle.std.proofs.lemmas.List.Folds.{list_any_at}
use Rattle.std.specs.List.{list_any}
use Rattle.desk_base.specs.meaning.Trees.{Tree, patterns}
use Rattle.desk_base.specs.search.Listing.{BeginsPattern}
use Rattle.desk_base.specs.search.Verdicts.{LacksPick, Strays, IsBadShape}
use Rattle.desk_base.proofs.worked.Parts.{are_first_bits}

first_bits-append : (ps qs : List Bool) → are_first_bits ps (ps ++ qs) ≡ true
first_bits-append [] qs = refl
first_bits-append (true ∷ ps) qs = first_bits-append ps qs
first_bits-append (false ∷ ps) qs = first_bits-append ps qs

-- where the test finds no pattern, the list begins none
pub begins_none : (tree : Tree) (bits : List Bool) → list_any (are_first_bits bits) (patterns tree) ≡ false → ¬ (BeginsPattern tree bits)
begins_none tree bits none begun =
    let at = begun.1 in
    let whole = bits ++ begun.0 in
    let passes = subst (λ p. are_first_bits bits p ≡ true) (sym at.2) (first_bits-append bits begun.0) in
    true≢false (sym (list_any_at (are_first_bits bits) (patterns tree) at.0 whole at.1 passes) ∙ none)

below_one : (P : ℕ → Type 0) → P 0 → (i : ℕ) → i < 1 → P i
below_one P p zero h = p
below_one P p (suc i) h = absurd (omega (arith, h))

-- where the first pick begins a pattern and the first two begin none, the shape is bad from leaf 1 on
pub bad_from_second : (tree : Tree) (bits : List Bool) → 2 ≤ length bits → BeginsPattern tree (take 1 bits) → list_any (are_first_bits (take 2 bits)) (patterns tree) ≡ false → IsBadShape tree bits 1
bad_from_second tree bits long begun none = record {
  broken = inr (omega (arith, long), begins_none tree (take 2 bits) none);
  first = below_one (λ i. ¬ (LacksPick tree bits i ⊎ Strays tree bits i)) (λ h. ⊎_elim (λ lacks. absurd (omega (arith, long, lacks.0))) (λ strays. absurd (strays.1 begun)) h);
}
