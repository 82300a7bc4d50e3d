-- Whether a booking has room at a minute does not hang on the rest of its time.
use Rattle.std.proofs.Common.{◌≡◌, ℕ, ◌≤◌, ◌<◌, true, [], ◌∷◌, ◌++◌, nat_lt, sym, ap, ◌∙◌, subst, arith}
use Rattle.std.proofs.lemmas.Bool.Decides.{nat_tests}
use Rattle.std.specs.Prelude.{IfSome}
use Rattle.desk_base.specs.declared.search.results.Ask.{Ask}
use Rattle.desk_base.specs.meaning.Time.{covers}
use Rattle.desk_base.specs.meaning.Load.{load, weight, room}
use Rattle.desk_load.specs.Views.{ViewParts, HasRoomOn, HasRoomAt, IsShortOn, standing, demand_of, demand_at}
use Rattle.desk_load.proofs.Weighed.{weight-append, weight-one}
use Rattle.desk_load.proofs.Used.{load_covered}

-- two bookings that take the same of a resource at a minute have room on it alike
room_alike : (v : ViewParts) (a b : Ask) (k r : ℕ) → load v.tables r k a ≡ load v.tables r k b → HasRoomOn v a k r → HasRoomOn v b k r
room_alike v a b k r e h c = subst (λ n. IfSome (room v.tables r k) (λ m. n ≤ m)) same (h (ap (nat_lt 0) e ∙ c))
  where
    same : weight v.tables (standing v ++ a ∷ []) r k ≡ weight v.tables (standing v ++ b ∷ []) r k
    same =
        let x = weight-append v.tables (standing v) (a ∷ []) r k in
        let y = weight-append v.tables (standing v) (b ∷ []) r k in
        let p = weight-one v.tables a r k in
        let q = weight-one v.tables b r k in
        omega (arith, x, y, p, q, e)

module _ (v : ViewParts) (a : Ask) (k : ℕ) (low : a.window.from ≤ k) (high : k < a.window.to) where
  covered : covers a.window.from a.window.to k ≡ true
  covered = grind (arith, nat_tests)

  pub to_demand : (r : ℕ) → HasRoomOn v a k r → HasRoomOn v (demand_at (demand_of a) k) k r
  to_demand r h = room_alike v a (demand_at (demand_of a) k) k r (load_covered v.tables a k r covered) h

  pub to_ask : (r : ℕ) → HasRoomOn v (demand_at (demand_of a) k) k r → HasRoomOn v a k r
  to_ask r h = room_alike v (demand_at (demand_of a) k) a k r (sym (load_covered v.tables a k r covered)) h

  pub has_room : HasRoomAt v (demand_at (demand_of a) k) k → HasRoomAt v a k
  has_room h r = to_ask r (h r)

  pub is_short : (r : ℕ) → IsShortOn v (demand_at (demand_of a) k) k r → IsShortOn v a k r
  is_short r h = record { short = λ g. h.short (to_demand r g); lower = λ q l. to_ask q (h.lower q l) }

  -- where it is short at a minute, it has no room there
  pub lacks_room : (r : ℕ) → IsShortOn v (demand_at (demand_of a) k) k r → HasRoomAt v a k → ⊥
  lacks_room r h g = h.short (to_demand r (g r))
