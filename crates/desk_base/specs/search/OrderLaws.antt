-- The order of rows and positions is total.
use Rattle.std.proofs.Common.{◌≡◌, ℕ, Option, Some, None, refl, sym, ap}
use Rattle.std.proofs.lemmas.Bool.{false≢true}
use Rattle.std.proofs.lemmas.Cmp.{nat_cmp_total, on_total, then_total}
use Rattle.std.specs.Cmp.{IsTotalOrder}
use Rattle.std.specs.Cmp.Lexicographic.{lists_total}
use Rattle.std.specs.declared.cmp.Ordering.TheVariants.{Less, Equal}
use Rattle.std.specs.Ordering.{ordering_reverse, is_lt}
use Rattle.desk_base.specs.rows.Types.{Found, Position}
use Rattle.desk_base.specs.search.Order.{pick_cmp, found_cmp, position_cmp}

pick_antisymm : (x y : Option ℕ) → pick_cmp x y ≡ ordering_reverse (pick_cmp y x)
pick_antisymm (Some a) (Some b) = nat_cmp_total.antisymm a b
pick_antisymm (Some a) None = refl
pick_antisymm None (Some b) = refl
pick_antisymm None None = refl

pick_trans : (x y z : Option ℕ) → pick_cmp x y ≡ Less → pick_cmp y z ≡ Less → pick_cmp x z ≡ Less
pick_trans (Some a) (Some b) (Some c) p q = nat_cmp_total.trans a b c p q
pick_trans (Some a) (Some b) None p q = refl
pick_trans (Some a) None (Some c) p q = absurd (false≢true (ap is_lt q))
pick_trans (Some a) None None p q = refl
pick_trans None (Some b) z p q = absurd (false≢true (ap is_lt p))
pick_trans None None z p q = absurd (false≢true (ap is_lt p))

pick_congr : (x y z : Option ℕ) → pick_cmp x y ≡ Equal → pick_cmp x z ≡ pick_cmp y z
pick_congr (Some a) (Some b) (Some c) p = nat_cmp_total.congr a b c p
pick_congr (Some a) (Some b) None p = refl
pick_congr (Some a) None z p = absurd (false≢true (ap is_lt (sym p)))
pick_congr None (Some b) z p = cc
pick_congr None None z p = refl

pub pick_total : IsTotalOrder pick_cmp
pick_total = record { antisymm = pick_antisymm; trans = pick_trans; congr = pick_congr }

pub position_total : IsTotalOrder position_cmp
position_total = then_total (on_total (λ (p : Position). p.start) nat_cmp_total) (on_total (λ (p : Position). p.picks) (lists_total pick_total))

pub found_total : IsTotalOrder found_cmp
found_total = then_total (on_total (λ (p : Found). p.start) nat_cmp_total) (on_total (λ (p : Found). p.picks) (lists_total pick_total))
