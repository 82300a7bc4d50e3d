-- What bookings weigh, and what their parts come to.
use Rattle.std.proofs.Common.{◌≡◌, ℕ, ◌+◌, ◌*◌, ◌≤◌, Bool, true, false, cond, ◌&&◌, ◌==◌, List, [], ◌∷◌, ◌++◌, map, length, pos, refl, sym, ap, ◌∙◌, arith}
use Rattle.std.proofs.lemmas.Int.{ints}
use Rattle.std.proofs.lemmas.List.{length-map}
use Rattle.std.proofs.lemmas.List.Sums.{sum_by-cons}
use Rattle.std.specs.Prelude.{filter, sum_by}
use Rattle.desk_base.specs.declared.rows.tables.Tables.{Tables}
use Rattle.desk_base.specs.declared.search.results.Ask.{Ask}
use Rattle.desk_base.specs.declared.rows.tables.Table.TheVariants.{Booking as BookingTable, Member as MemberTable}
use Rattle.desk_base.specs.declared.rows.tables.AnyRow.TheVariants.{Booking, Member}
use Rattle.desk_base.specs.rules.Limits.{effort_limit}
use Rattle.desk_base.specs.meaning.Time.{covers}
use Rattle.desk_base.specs.meaning.Load.{load, weight, ask_of}
use Rattle.desk_base.specs.rules.Sound.{AreWellFormed}
use Rattle.desk_base.proofs.meaning.Efforts.{weight_light, light_uses, some_light}
use Rattle.desk_spans.specs.Pieces.{sum_at}
use Rattle.desk_spans.specs.Timeline.{value_limit}
use Rattle.desk_spans.proofs.PieceLemmas.{sum_at-cons}
use Rattle.desk_base.specs.rows.Ranges.{owns}
use Rattle.desk_member.specs.declared.items.Item.{Item}
use Rattle.desk_member.specs.Pieces.{item_at}
use Rattle.desk_load.specs.declared.parts.Part.{Part}
use Rattle.desk_load.specs.Parts.{part_of, part_at, piece_of}

-- ---- sums

pub sum_map : {A B : Type 0} (g : B → ℕ) (f : A → B) (xs : List A) → sum_by g (map f xs) ≡ sum_by (λ x. g (f x)) xs
sum_map g f [] = refl
sum_map g f (x ∷ xs) = let h = sum_map g f xs in let a = sum_by-cons g (f x) (map f xs) in let b = sum_by-cons (λ x. g (f x)) x xs in omega arith

pub weight-append : (t : Tables) (xs ys : List Ask) (r m : ℕ) → weight t (xs ++ ys) r m ≡ weight t xs r m + weight t ys r m
weight-append t [] ys r m = omega arith
weight-append t (x ∷ xs) ys r m = let h = weight-append t xs ys r m in let a = sum_by-cons (load t r m) x (xs ++ ys) in let b = sum_by-cons (load t r m) x xs in omega arith

pub weight-one : (t : Tables) (a : Ask) (r m : ℕ) → weight t (a ∷ []) r m ≡ load t r m a
weight-one t a r m = let h = sum_by-cons (load t r m) a [] in omega arith

-- ---- what well-formed tables may weigh

pub more_times : (j k n : ℕ) → j ≤ k → j * n ≤ k * n
more_times j k n h = grind (arith)

pub few_bookings : (t : Tables) → AreWellFormed t → length (map ask_of t.bookings) ≤ 4000000
few_bookings t w = let h = w.limit BookingTable in let a = length-map t.bookings Booking in let b = length-map t.bookings ask_of in omega (arith, h, a, b)

pub few_members : (t : Tables) → AreWellFormed t → length t.members ≤ 20000
few_members t w = let h = w.limit MemberTable in let a = length-map t.members Member in omega (arith, h, a)

pub weight_small : (t : Tables) → AreWellFormed t → (r m : ℕ) → weight t (map ask_of t.bookings) r m ≤ value_limit
weight_small t w r m =
    let light = light_uses t.bookings (some_light t t.bookings w (λ b i. i)) in
    let a = weight_light t (map ask_of t.bookings) r m light in
    let b = more_times (length (map ask_of t.bookings)) 4000000 ((length t.members + 1) * effort_limit) (few_bookings t w) in
    let c = more_times (length t.members + 1) 20001 effort_limit (let h = few_members t w in omega (arith, h)) in
    omega (arith, a, b, c)

-- ---- parts

pub parts_items : (r m : ℕ) (items : List Item) → sum_by (part_at r m) (map part_of items) ≡ sum_by (item_at r m) items
parts_items r m items = sum_map (part_at r m) part_of items

-- what a part takes of its own resource at m
abbrev pub effort_of : ℕ → Part → ℕ
effort_of m p = cond (covers p.from p.to m) p.effort 0

both_is : (o c : Bool) (e : ℕ) → cond (o && c) e 0 ≡ cond o (cond c e 0) 0
both_is true c e = refl
both_is false c e = refl

pub sum_owned : (r m : ℕ) (xs : List Part) → sum_by (part_at r m) xs ≡ sum_by (effort_of m) (filter (owns (λ (p : Part). p.resource) r) xs)
sum_owned r m [] = refl
sum_owned r m (x ∷ xs) = step (x.resource == r) (sum_owned r m xs) (sum_by-cons (part_at r m) x xs ∙ ap (λ n. n + sum_by (part_at r m) xs) (both_is (x.resource == r) (covers x.from x.to m) x.effort))
  where
    kept : List Part
    kept = filter (owns (λ (p : Part). p.resource) r) xs

    step : (o : Bool) → sum_by (part_at r m) xs ≡ sum_by (effort_of m) (filter (owns (λ (p : Part). p.resource) r) xs) → sum_by (part_at r m) (x ∷ xs) ≡ cond o (cond (covers x.from x.to m) x.effort 0) 0 + sum_by (part_at r m) xs → sum_by (part_at r m) (x ∷ xs) ≡ sum_by (effort_of m) (cond o (x ∷ filter (owns (λ (p : Part). p.resource) r) xs) (filter (owns (λ (p : Part). p.resource) r) xs))
    step true h e = let d = sum_by-cons (effort_of m) x (filter (owns (λ (p : Part). p.resource) r) xs) in omega (arith, h, e, d)
    step false h e = omega (arith, h, e)

share_step : (c : Bool) (e : ℕ) → cond c (pos e) (pos 0) ≡ pos (cond c e 0)
share_step true e = refl
share_step false e = refl

pub sum_at-is : (ps : List Part) (m : ℕ) → sum_at (map piece_of ps) m ≡ pos (sum_by (effort_of m) ps)
sum_at-is [] m = refl
sum_at-is (p ∷ ps) m =
    let h = sum_at-is ps m in
    let s = share_step (covers p.from p.to m) p.effort in
    let c = sum_at-cons (piece_of p) (map piece_of ps) m in
    let d = sum_by-cons (effort_of m) p ps in
    omega (arith, ints, h, s, c, d)

-- the pieces of the parts of one resource come to what the parts take of it
pub sum_at-owned : (r m : ℕ) (xs : List Part) → sum_at (map piece_of (filter (owns (λ (p : Part). p.resource) r) xs)) m ≡ pos (sum_by (part_at r m) xs)
sum_at-owned r m xs = sum_at-is (filter (owns (λ (p : Part). p.resource) r) xs) m ∙ ap pos (sym (sum_owned r m xs))
