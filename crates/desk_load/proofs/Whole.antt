-- That a booking is free, by all resources and minutes.
use Rattle.std.proofs.Common.{◌≡◌, ℕ, ◌≤◌, ◌<◌, Bool, true, false, nat_lt, [], ◌∷◌, ◌++◌, refl, sym, subst, arith}
use Rattle.std.proofs.lemmas.Bool.Decides.{nat_tests}
use Rattle.std.specs.Prelude.{IfSome}
use Rattle.desk_base.specs.declared.search.results.Ask.{Ask}
use Rattle.desk_base.specs.rules.Limits.{first_minute, end_of_minutes}
use Rattle.desk_base.specs.meaning.Time.{covers}
use Rattle.desk_base.specs.meaning.Load.{load, weight, room, counts, IsWithinRoom, Fits}
use Rattle.desk_load.specs.Views.{ViewParts, HasRoomOn, IsFree, standing}
use Rattle.desk_load.proofs.Weighed.{weight-append, weight-one}
use Rattle.desk_load.proofs.Used.{load_missed}

module _ (v : ViewParts) (a : Ask) where
  -- where the booking takes nothing, all are within the room as without it
  as_without : (r k : ℕ) → load v.tables r k a ≡ 0 → IsWithinRoom v.tables (standing v) r k → IsWithinRoom v.tables (standing v ++ a ∷ []) r k
  as_without r k z h =
      let w : weight v.tables (standing v ++ a ∷ []) r k ≡ weight v.tables (standing v) r k = omega (arith, weight-append v.tables (standing v) (a ∷ []) r k, weight-one v.tables a r k, z) in
      subst (λ n. IfSome (room v.tables r k) (λ m. n ≤ m)) (sym w) h

  nothing : (n : ℕ) → nat_lt 0 n ≡ false → n ≡ 0
  nothing n e = grind (arith, nat_tests)

  by_count : (r k : ℕ) (b : Bool) → counts v.tables r k a ≡ b → HasRoomOn v a k r → IsWithinRoom v.tables (standing v) r k → IsWithinRoom v.tables (standing v ++ a ∷ []) r k
  by_count r k true e h w = h e
  by_count r k false e h w = as_without r k (nothing (load v.tables r k a) e) w

  inside : (k : ℕ) → covers a.window.from a.window.to k ≡ true → (a.window.from ≤ k) × (k < a.window.to)
  inside k e = (let x : a.window.from ≤ k = grind (arith, nat_tests) in x, let y : k < a.window.to = grind (arith, nat_tests) in y)

  -- where there is room for it at the minutes that it has, all are within the room with it
  pub within_with : (r k : ℕ) → (a.window.from ≤ k → k < a.window.to → HasRoomOn v a k r) → IsWithinRoom v.tables (standing v) r k → IsWithinRoom v.tables (standing v ++ a ∷ []) r k
  within_with r k h w = by (covers a.window.from a.window.to k) refl
    where
      by : (b : Bool) → covers a.window.from a.window.to k ≡ b → IsWithinRoom v.tables (standing v ++ a ∷ []) r k
      by true e = let i = inside k e in by_count r k (counts v.tables r k a) refl (h i.0 i.1) w
      by false e = as_without r k (load_missed v.tables a k r e) w

pub free_fits : (v : ViewParts) (a : Ask) → Fits v.tables (standing v) → IsFree v a → Fits v.tables (standing v ++ a ∷ [])
free_fits v a f free = record { at = λ r k i. within_with v a r k (λ lo hi. free k lo hi r) (f.at r k i) }

pub fits_free : (v : ViewParts) (a : Ask) → first_minute ≤ a.window.from → a.window.to ≤ end_of_minutes → Fits v.tables (standing v ++ a ∷ []) → IsFree v a
fits_free v a low high f k lo hi r c = f.at r k (omega arith, omega arith)
