-- Fewer bookings weigh less, so they fit where more do.
use Rattle.std.proofs.Common.{◌≡◌, ℕ, ◌≤◌, Bool, true, false, cond, List, [], ◌∷◌, map, filter, Option, Some, None, refl, arith, not, ◌==◌}
use Rattle.std.proofs.lemmas.List.Sums.{sum_by-cons}
use Rattle.std.specs.Prelude.{sum_by, IfSome}
use Rattle.desk_base.specs.rows.Types.{GroupRow, BookingRow, Tables, Ask}
use Rattle.desk_base.specs.meaning.Load.{load, weight, room, Fits, ask_of}
use Rattle.desk_base.specs.search.Listing.{other_asks}

-- ---- fewer bookings

-- each sum over xs is at most the same sum over ys
abbrev pub AreFewer : List Ask → List Ask → Type 0
AreFewer xs ys = (f : Ask → ℕ) → sum_by f xs ≤ sum_by f ys

fewer_step : (f : Ask → ℕ) (x : Ask) (fs ys : List Ask) (b : Bool) → sum_by f fs ≤ sum_by f ys → sum_by f (cond b (x ∷ fs) fs) ≤ sum_by f (x ∷ ys)
fewer_step f x fs ys true h = let a = sum_by-cons f x fs in let b = sum_by-cons f x ys in omega arith
fewer_step f x fs ys false h = let b = sum_by-cons f x ys in omega arith

map-cond : (b : Bool) (x : BookingRow) (xs : List BookingRow) → map ask_of (cond b (x ∷ xs) xs) ≡ cond b (ask_of x ∷ map ask_of xs) (map ask_of xs)
map-cond true x xs = refl
map-cond false x xs = refl

pub fewer_filtered : (p : BookingRow → Bool) (bs : List BookingRow) → AreFewer (map ask_of (filter p bs)) (map ask_of bs)
fewer_filtered p [] f = omega arith
fewer_filtered p (b ∷ bs) f = rw map-cond (fewer_step f (ask_of b) (map ask_of (filter p bs)) (map ask_of bs) (p b) (fewer_filtered p bs f))

-- ---- what fits

room-less : (v w : ℕ) (n : Option ℕ) → v ≤ w → IfSome n (λ k. w ≤ k) → IfSome n (λ k. v ≤ k)
room-less v w None h k = tt
room-less v w (Some n) h k = omega arith

pub Fits-fewer : (t : Tables) (xs ys : List Ask) → AreFewer xs ys → Fits t ys → Fits t xs
Fits-fewer t xs ys h fits = record { at = λ r m i. room-less (weight t xs r m) (weight t ys r m) (room t r m) (h (load t r m)) (fits.at r m i) }

-- the bookings of the other groups fit where all do
pub Fits-others : (t : Tables) (g : GroupRow) → Fits t (map ask_of t.bookings) → Fits t (other_asks t g)
Fits-others t g fits = Fits-fewer t (other_asks t g) (map ask_of t.bookings) (fewer_filtered (λ b. not (b.group == g.id)) t.bookings) fits
