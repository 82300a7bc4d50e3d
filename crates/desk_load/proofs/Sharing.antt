-- Weights to which that of a source is added, link by link.
use Rattle.std.proofs.Common.{◌≡◌, ℕ, zero, suc, ◌+◌, ◌*◌, ◌<◌, Bool, true, false, cond, ◌&&◌, ◌==◌, List, map, set, length, get_or, take, Option, Some, ℤ, pos, neg_ℤ, ◌+ℤ◌, refl, sym, ap, ◌∙◌, arith}
use Rattle.std.proofs.lemmas.Int.{ints}
use Rattle.std.proofs.lemmas.Bool.Decides.{nat_tests}
use Rattle.std.specs.Prelude.{find}
use Rattle.std.specs.Ordering.{nat_cmp}
use Rattle.std.specs.List.Sorted.{IsStrictlySortedBy}
use Rattle.std.specs.Option.{option_map_or}
use Rattle.desk_base.specs.rules.Limits.{first_minute, end_of_minutes}
use Rattle.desk_base.specs.rows.Ranges.{owns}
use Rattle.desk_base.specs.meaning.Time.{covers}
use Rattle.desk_spans.specs.Minutes.{EachMinute}
use Rattle.desk_spans.specs.Timeline.{Timeline, end_of, value_at}
use Rattle.desk_member.specs.declared.items.Item.{Item}
use Rattle.desk_member.specs.Pieces.{item_at, taken}
use Rattle.desk_load.specs.declared.weights.Weight.{Weight}
use Rattle.desk_load.specs.declared.changes.turns.Turn.{Turn}
use Rattle.desk_load.specs.declared.changes.turns.Turn.TheVariants.{Comes, Goes}
use Rattle.desk_load.specs.Turns.{value_under, AreWhole, AreRaised}
use Rattle.desk_load.specs.Links.{times, signed}
use Rattle.desk_load.proofs.Raised.{set_number, all_set, taken_more}
use Rattle.desk_load.proofs.Reweighed.{found_own, found_set, in_at}

-- ---- so many times

pub times_add : (a b : ℕ) (z : ℤ) → times (a + b) z ≡ times a z +ℤ times b z
times_add zero b z = let n : 0 + b ≡ b = omega arith in ap (λ k. times k z) n ∙ (let e : times b z ≡ pos 0 +ℤ times b z = omega (arith, ints) in e)
times_add (suc a) b z =
    let n : suc a + b ≡ suc (a + b) = omega arith in
    let h = times_add a b z in
    ap (λ k. times k z) n ∙ (let e : z +ℤ times (a + b) z ≡ (z +ℤ times a z) +ℤ times b z = omega (arith, ints, h) in e)

one_more : (n k : ℕ) → suc n * k ≡ k + n * k
one_more n k = grind (arith)

pub times_pos : (n k : ℕ) → times n (pos k) ≡ pos (n * k)
times_pos zero k = ap pos (let e : 0 ≡ 0 * k = grind (arith) in e)
times_pos (suc n) k = let h = times_pos n k in let e = one_more n k in omega (arith, ints, h, e)

pub times_neg : (n k : ℕ) → times n (neg_ℤ (pos k)) ≡ neg_ℤ (pos (n * k))
times_neg zero k = ap (λ j. neg_ℤ (pos j)) (let e : 0 ≡ 0 * k = grind (arith) in e)
times_neg (suc n) k = let h = times_neg n k in let e = one_more n k in omega (arith, ints, h, e)

pub signed_none : (turn : Turn) → signed turn (pos 0) ≡ pos 0
signed_none Comes = refl
signed_none Goes = refl

-- what one link adds to r at m
pub link_is : (turn : Turn) (a b : Bool) (n : ℕ) (v : ℤ) → n ≡ 1 → cond a (signed turn (cond b v (pos 0))) (pos 0) ≡ times (cond (a && b) n 0) (signed turn v)
link_is turn true true n v e = (let f : signed turn v ≡ times 1 (signed turn v) = omega (arith, ints) in f) ∙ ap (λ k. times k (signed turn v)) (sym e)
link_is turn true false n v e = signed_none turn
link_is turn false b n v e = refl

-- ---- one weight in the place of another

equal : (a b : ℕ) → (a == b) ≡ true → a ≡ b
equal a b e = grind (arith, nat_tests)

none_more : (z : ℤ) → z ≡ z +ℤ pos 0
none_more z = omega (arith, ints)

pub raised_set : (more : ℕ → ℤ) (target : ℕ) (ws : List Weight) (at : ℕ) (d : Weight) (new : Timeline) → IsStrictlySortedBy nat_cmp (map (λ (w : Weight). w.resource) ws) → AreWhole ws → at < length ws → (get_or ws at d).resource ≡ target
    → new.from ≡ first_minute → end_of new ≡ end_of_minutes
    → EachMinute first_minute end_of_minutes (λ m. value_at new m ≡ value_at (get_or ws at d).weight m +ℤ more m)
    → AreRaised (λ r m. cond (target == r) (more m) (pos 0)) ws (set ws at (record { resource = target; weight = new }))
raised_set more target ws at d new s h l e begin end values = record {
  numbers = set_number (λ (w : Weight). w.resource) ws at x d l e;
  whole = all_set (λ (w : Weight). (w.weight.from ≡ first_minute) × (end_of w.weight ≡ end_of_minutes)) ws at x h (begin, end);
  values = λ r m a b.
      ap (λ (o : Option Weight). option_map_or (λ (w : Weight). value_at w.weight m) o (pos 0)) (found_set (λ (w : Weight). w.resource) ws at x d r s l e)
      ∙ at_number r m (values m a b) (target == r) refl;
}
  where
    x : Weight
    x = record { resource = target; weight = new }

    at_number : (r m : ℕ) → value_at new m ≡ value_at (get_or ws at d).weight m +ℤ more m → (c : Bool) → (target == r) ≡ c
        → option_map_or (λ (w : Weight). value_at w.weight m) (cond c (Some x) (find (owns (λ (w : Weight). w.resource) r) ws)) (pos 0) ≡ value_under r m ws +ℤ cond c (more m) (pos 0)
    at_number r m v true f =
        let own : find (owns (λ (w : Weight). w.resource) r) ws ≡ Some (get_or ws at d) = ap (λ n. find (owns (λ (w : Weight). w.resource) n) ws) (sym (e ∙ equal target r f)) ∙ found_own (λ (w : Weight). w.resource) ws (get_or ws at d) s (in_at ws at d l) in
        v ∙ sym (ap (λ (o : Option Weight). option_map_or (λ (w : Weight). value_at w.weight m) o (pos 0) +ℤ more m) own)
    at_number r m v false f = none_more (value_under r m ws)

-- ---- one link after another

module _ (turn : Turn) (items : List Item) (source : ℕ) (old : List Weight) where
  -- what the first links add
  abbrev pub added : ℕ → ℕ → ℕ → ℤ
  added k r m = times (taken (take k items) r m) (signed turn (value_under source m old))

  pub none_added : AreWhole old → AreRaised (added 0) old old
  none_added h = record { numbers = refl; whole = h; values = λ r m l u. none_more (value_under r m old) }

  -- the source stays as it was
  source_stays : (k : ℕ) (now : List Weight) → ((m : ℕ) → taken (take k items) source m ≡ 0) → AreRaised (added k) old now → EachMinute first_minute end_of_minutes (λ m. value_under source m now ≡ value_under source m old)
  source_stays k now apart a m l u = a.values source m l u ∙ ap (λ n. value_under source m old +ℤ times n (signed turn (value_under source m old))) (apart m) ∙ sym (none_more (value_under source m old))

  pub one_added : (k : ℕ) (item : Item) (now new : List Weight) → k < length items → item ≡ get_or items k item → item.effort ≡ 1 → ((m : ℕ) → taken (take k items) source m ≡ 0)
      → AreRaised (added k) old now
      → AreRaised (λ r m. cond (item.resource == r) (signed turn (cond (covers item.from item.to m) (value_under source m now) (pos 0))) (pos 0)) now new
      → AreRaised (added (k + 1)) old new
  one_added k item now new l e one apart a b = record {
    numbers = b.numbers ∙ a.numbers;
    whole = b.whole;
    values = λ r m lo hi.
        let z = signed turn (value_under source m old) in
        let f = b.values r m lo hi ∙ ap (λ v. value_under r m now +ℤ cond (item.resource == r) (signed turn (cond (covers item.from item.to m) v (pos 0))) (pos 0)) (source_stays k now apart a m lo hi) in
        let g = link_is turn (item.resource == r) (covers item.from item.to m) item.effort (value_under source m old) one in
        let h = a.values r m lo hi in
        let n = ap (λ j. times j z) (taken_more items k item item r m l e) ∙ times_add (taken (take k items) r m) (item_at r m item) z in
        omega (arith, ints, f, g, h, n);
  }

  pub apart_more : (k : ℕ) (item : Item) → k < length items → item ≡ get_or items k item → (item.resource == source) ≡ false → ((m : ℕ) → taken (take k items) source m ≡ 0) → (m : ℕ) → taken (take (k + 1) items) source m ≡ 0
  apart_more k item l e f apart m =
      let n = taken_more items k item item source m l e in
      let a = apart m in
      let z : item_at source m item ≡ 0 = ap (λ b. cond (b && covers item.from item.to m) item.effort 0) f in
      omega (arith, n, a, z)

-- the same, by what is equal within the horizon
pub raised_within : (f g : ℕ → ℕ → ℤ) (xs ys : List Weight) → ((r : ℕ) → EachMinute first_minute end_of_minutes (λ m. f r m ≡ g r m)) → AreRaised f xs ys → AreRaised g xs ys
raised_within f g xs ys e a = record { numbers = a.numbers; whole = a.whole; values = λ r m l u. a.values r m l u ∙ ap (λ z. value_under r m xs +ℤ z) (e r m l u) }
