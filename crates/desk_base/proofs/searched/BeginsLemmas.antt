-- Prefixes of positions, by the test of slices.
use Rattle.std.proofs.Common.{◌≡◌, ℕ, Bool, Option, Some, None, drop, length, refl, sym, ap, ◌↔◌, IsTrue, is_some}
use Rattle.std.proofs.lemmas.Bool.{true≢false}
use Rattle.std.proofs.lemmas.Slice.Eq.{starts_is}
use Rattle.std.specs.Bool.{Decides}
use Rattle.std.specs.List.{starts_with}
use Rattle.std.specs.Option.{option_eq, unwrap_or}
use Rattle.desk_base.specs.rows.Types.{Position}
use Rattle.desk_base.specs.search.Order.{Begins}

-- picks are equal where their numbers are
pub pick_decides : {E : ℕ → ℕ → Bool} → ((a b : ℕ) → Decides (E a b) (a ≡ b)) → (x y : Option ℕ) → Decides (option_eq E x y) (x ≡ y)
pick_decides decides None None = (λ _. refl, λ _. refl)
pick_decides decides None (Some b) = ((λ e. absurd (true≢false (sym e))), λ e. absurd (true≢false (ap is_some (sym e))))
pick_decides decides (Some a) None = ((λ e. absurd (true≢false (sym e))), λ e. absurd (true≢false (ap is_some e)))
pick_decides decides (Some a) (Some b) = ((λ e. ap Some ((decides a b).0 e)), λ e. (decides a b).1 (ap (λ u. unwrap_or u a) e))

-- from one start, the test of the picks tells whether a position begins another
pub begins_by_picks : {E : Option ℕ → Option ℕ → Bool} → ((x y : Option ℕ) → Decides (E x y) (x ≡ y)) → (p q : Position) (r : Bool) → p.start ≡ q.start → r ≡ starts_with E q.picks p.picks → IsTrue r ↔ Begins p q
begins_by_picks decides p q r e m =
    let d = starts_is decides q.picks p.picks r m in
    ((λ t. record { start = e; picks = (drop (length p.picks) q.picks, d.0 t) }), λ b. d.1 b.picks.0 b.picks.1)
