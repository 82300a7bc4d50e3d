-- A clash is one: its minute, resource and room are determined, and it is there only where the bookings do not fit.
use Rattle.std.proofs.Common.{◌≡◌, ℕ, ◌+◌, ◌<◌, ◌≤◌, List, ◌++◌, map, Option, Some, ◌⊎◌, inl, inr, subst, arith}
use Rattle.std.specs.Prelude.{IfSome}
use Rattle.desk_base.specs.rows.Types.{BookingRow, Tables, Ask}
use Rattle.desk_base.specs.meaning.Load.{weight, room, IsWithinRoom, Fits, IsClash, ask_of}
use Rattle.desk_base.proofs.meaning.Sums.{weight-append}

-- where the two are above the room they are not within it
over_room : (v w k n : ℕ) (o : Option ℕ) → w ≡ v + k → n < v + k → o ≡ Some n → IfSome o (λ m. w ≤ m) → ⊥
over_room v w k n o e h i f = let g : w ≤ n = subst (λ (p : Option ℕ). IfSome p (λ m. w ≤ m)) i f in omega arith

over_is : (t : Tables) (standing : List BookingRow) (asked : List Ask) (r m n : ℕ) → IsClash t standing asked r m n → IsWithinRoom t (map ask_of standing ++ asked) r m → ⊥
over_is t standing asked r m n c f = over_room (weight t (map ask_of standing) r m) (weight t (map ask_of standing ++ asked) r m) (weight t asked r m) n (room t r m) (weight-append t (map ask_of standing) asked r m) c.over c.capacity f

pub clash-not_fits : (t : Tables) (standing : List BookingRow) (asked : List Ask) (r m n : ℕ) → IsClash t standing asked r m n → Fits t (map ask_of standing ++ asked) → ⊥
clash-not_fits t standing asked r m n c f = over_is t standing asked r m n c (f.at r m c.minute)

order_of : (a b : ℕ) → (a < b) ⊎ ((b < a) ⊎ (a ≡ b))
order_of a b = grind arith

pub clash-minute : (t : Tables) (standing : List BookingRow) (asked : List Ask) (r m n r' m' n' : ℕ) → IsClash t standing asked r m n → IsClash t standing asked r' m' n' → m ≡ m'
clash-minute t standing asked r m n r' m' n' c d = elim (order_of m m') [
  | inl h ↦ absurd (over_is t standing asked r m n c (d.earlier r m c.minute h))
  | inr (inl h) ↦ absurd (over_is t standing asked r' m' n' d (c.earlier r' m' d.minute h))
  | inr (inr e) ↦ e
]

pub clash-resource : (t : Tables) (standing : List BookingRow) (asked : List Ask) (r m n r' n' : ℕ) → IsClash t standing asked r m n → IsClash t standing asked r' m n' → r ≡ r'
clash-resource t standing asked r m n r' n' c d = elim (order_of r r') [
  | inl h ↦ absurd (over_is t standing asked r m n c (d.lower r h))
  | inr (inl h) ↦ absurd (over_is t standing asked r' m n' d (c.lower r' h))
  | inr (inr e) ↦ e
]
