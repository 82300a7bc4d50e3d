-- Weights to which the pieces of a booking are added, one after another.
use Rattle.std.proofs.Common.{◌≡◌, ℕ, zero, suc, ◌+◌, ◌<◌, ◌≤◌, Bool, true, false, cond, ◌&&◌, ◌==◌, nat_lt, List, [], ◌∷◌, ◌++◌, map, set, length, get_or, take, Option, Some, ℤ, pos, ◌+ℤ◌, refl, sym, ap, ◌∙◌, subst, arith}
use Rattle.std.proofs.lemmas.Int.{ints}
use Rattle.std.proofs.lemmas.Bool.Decides.{nat_tests}
use Rattle.std.proofs.lemmas.List.Sums.{sum_by-cons, sum_by-append}
use Rattle.std.proofs.lemmas.List.{take_more}
use Rattle.std.specs.Prelude.{find}
use Rattle.std.specs.Ordering.{nat_cmp}
use Rattle.std.specs.List.{AllByRecursion}
use Rattle.std.specs.List.Sorted.{IsStrictlySortedBy}
use Rattle.std.specs.Option.{option_map_or}
use Rattle.desk_base.specs.rules.Limits.{first_minute, end_of_minutes}
use Rattle.desk_base.specs.rows.Ranges.{owns}
use Rattle.desk_base.specs.meaning.Time.{covers}
use Rattle.desk_spans.specs.Minutes.{EachMinute}
use Rattle.desk_spans.specs.Timeline.{Timeline, end_of, value_at}
use Rattle.desk_member.specs.declared.items.Item.{Item}
use Rattle.desk_member.specs.Pieces.{item_at, taken}
use Rattle.desk_load.specs.declared.weights.Weight.{Weight}
use Rattle.desk_load.specs.declared.changes.turns.Turn.{Turn}
use Rattle.desk_load.specs.declared.changes.turns.Turn.TheVariants.{Comes, Goes}
use Rattle.desk_load.specs.declared.lists.BookingList.{BookingList}
use Rattle.desk_load.specs.Parted.{IndexParts}
use Rattle.desk_load.specs.Changed.{IsOrdered}
use Rattle.desk_load.specs.Turns.{turned, value_under, AreWhole, AreRaised}
use Rattle.desk_load.proofs.Numbers.{all_get}
use Rattle.desk_load.proofs.Reweighed.{found_own, found_set, in_at}

-- ---- efforts that come or go

pub turned_none : (turn : Turn) → turned turn 0 ≡ pos 0
turned_none Comes = refl
turned_none Goes = refl

pub turned_add : (turn : Turn) (a b : ℕ) → turned turn (a + b) ≡ turned turn a +ℤ turned turn b
turned_add Comes a b = refl
turned_add Goes a b = omega (arith, ints)

none_more : (z : ℤ) (turn : Turn) → z ≡ z +ℤ turned turn 0
none_more z turn = let e = turned_none turn in omega (arith, ints, e)

-- ---- weights

pub raised_none : (turn : Turn) (ws : List Weight) → AreWhole ws → AreRaised (λ r m. turned turn 0) ws ws
raised_none turn ws h = record { numbers = refl; whole = h; values = λ r m l u. none_more (value_under r m ws) turn }

pub raised_then : (f g h : ℕ → ℕ → ℤ) (xs ys zs : List Weight) → ((r m : ℕ) → h r m ≡ f r m +ℤ g r m) → AreRaised f xs ys → AreRaised g ys zs → AreRaised h xs zs
raised_then f g h xs ys zs e a b = record {
  numbers = b.numbers ∙ a.numbers;
  whole = b.whole;
  values = λ r m l u. let c = e r m in let d = a.values r m l u in let k = b.values r m l u in omega (arith, ints, c, d, k);
}

pub raised_same : (f g : ℕ → ℕ → ℤ) (xs ys : List Weight) → ((r m : ℕ) → f r m ≡ g r m) → AreRaised f xs ys → AreRaised g xs ys
raised_same f g xs ys e a = record { numbers = a.numbers; whole = a.whole; values = λ r m l u. a.values r m l u ∙ ap (λ z. value_under r m xs +ℤ z) (e r m) }

-- ---- one weight in the place of another

pub set_number : {A : Type 0} (f : A → ℕ) (xs : List A) (at : ℕ) (x d : A) → at < length xs → f (get_or xs at d) ≡ f x → map f (set xs at x) ≡ map f xs
set_number f [] at x d l e = refl
set_number f (y ∷ ys) zero x d l e = ap (λ n. n ∷ map f ys) (sym e)
set_number f (y ∷ ys) (suc at) x d l e = ap (λ l. f y ∷ l) (set_number f ys at x d (omega arith) e)

pub all_set : {A : Type 0} (P : A → Type 0) (xs : List A) (at : ℕ) (x : A) → AllByRecursion P xs → P x → AllByRecursion P (set xs at x)
all_set P [] at x a h = tt
all_set P (y ∷ ys) zero x a h = (h, a.1)
all_set P (y ∷ ys) (suc at) x a h = (a.0, all_set P ys at x a.1 h)

covered : (from to m : ℕ) → covers from to m ≡ true → (from ≤ m) × (m < to)
covered from to m e = (grind (arith, nat_tests), grind (arith, nat_tests))

outside : (from to m : ℕ) → covers from to m ≡ false → m < from → m < from
outside from to m e h = h

module _ (turn : Turn) (item : Item) (old new : Timeline) (begin : old.from ≡ first_minute) (end : end_of old ≡ end_of_minutes)
    (raised : EachMinute item.from item.to (λ m. value_at new m ≡ value_at old m +ℤ turned turn item.effort))
    (before : EachMinute old.from item.from (λ m. value_at new m ≡ value_at old m))
    (after : EachMinute item.to (end_of old) (λ m. value_at new m ≡ value_at old m)) where
  -- what the new profile says at a minute
  raised_at : (m : ℕ) → first_minute ≤ m → m < end_of_minutes → (c : Bool) → covers item.from item.to m ≡ c → value_at new m ≡ value_at old m +ℤ turned turn (cond c item.effort 0)
  raised_at m l u true e = let k = covered item.from item.to m e in raised m k.0 k.1
  raised_at m l u false e = side (nat_lt m item.from) refl
    where
      side : (b : Bool) → nat_lt m item.from ≡ b → value_at new m ≡ value_at old m +ℤ turned turn 0
      side true f = before m (let g = begin in omega (arith, g, l)) (grind (arith, nat_tests)) ∙ none_more (value_at old m) turn
      side false f = after m (grind (arith, nat_tests)) (let g = end in omega (arith, g, u)) ∙ none_more (value_at old m) turn

item_is : (item : Item) (r m : ℕ) (c : Bool) → (item.resource == r) ≡ c → item_at r m item ≡ cond (c && covers item.from item.to m) item.effort 0
item_is item r m c e = ap (λ b. cond (b && covers item.from item.to m) item.effort 0) e

equal : (a b : ℕ) → (a == b) ≡ true → a ≡ b
equal a b e = grind (arith, nat_tests)

pub raised_item : (turn : Turn) (item : Item) (ws : List Weight) (at : ℕ) (d : Weight) (new : Timeline) → IsStrictlySortedBy nat_cmp (map (λ (w : Weight). w.resource) ws) → AreWhole ws → at < length ws → (get_or ws at d).resource ≡ item.resource
    → new.from ≡ (get_or ws at d).weight.from → end_of new ≡ end_of (get_or ws at d).weight
    → EachMinute item.from item.to (λ m. value_at new m ≡ value_at (get_or ws at d).weight m +ℤ turned turn item.effort)
    → EachMinute (get_or ws at d).weight.from item.from (λ m. value_at new m ≡ value_at (get_or ws at d).weight m)
    → EachMinute item.to (end_of (get_or ws at d).weight) (λ m. value_at new m ≡ value_at (get_or ws at d).weight m)
    → AreRaised (λ r m. turned turn (item_at r m item)) ws (set ws at (record { resource = item.resource; weight = new }))
raised_item turn item ws at d new s h l e begin end raised before after =
    let x : Weight = record { resource = item.resource; weight = new } in
    let old : Weight = get_or ws at d in
    let whole : (old.weight.from ≡ first_minute) × (end_of old.weight ≡ end_of_minutes) = all_get (λ (w : Weight). (w.weight.from ≡ first_minute) × (end_of w.weight ≡ end_of_minutes)) ws at d h l in
    record {
      numbers = set_number (λ (w : Weight). w.resource) ws at x d l e;
      whole = all_set (λ (w : Weight). (w.weight.from ≡ first_minute) × (end_of w.weight ≡ end_of_minutes)) ws at x h (begin ∙ whole.0, end ∙ whole.1);
      values = λ r m a b.
          let found = found_set (λ (w : Weight). w.resource) ws at x d r s l e in
          ap (λ (o : Option Weight). option_map_or (λ (w : Weight). value_at w.weight m) o (pos 0)) found
          ∙ at_number turn item ws at d new s l e r m (raised_at turn item old.weight new whole.0 whole.1 raised before after m a b (covers item.from item.to m) refl) (item.resource == r) refl;
    }
  where
    at_number : (turn : Turn) (item : Item) (ws : List Weight) (at : ℕ) (d : Weight) (new : Timeline) → IsStrictlySortedBy nat_cmp (map (λ (w : Weight). w.resource) ws) → at < length ws → (get_or ws at d).resource ≡ item.resource → (r m : ℕ)
        → value_at new m ≡ value_at (get_or ws at d).weight m +ℤ turned turn (cond (covers item.from item.to m) item.effort 0)
        → (c : Bool) → (item.resource == r) ≡ c
        → option_map_or (λ (w : Weight). value_at w.weight m) (cond c (Some (record { resource = item.resource; weight = new })) (find (owns (λ (w : Weight). w.resource) r) ws)) (pos 0) ≡ value_under r m ws +ℤ turned turn (item_at r m item)
    at_number turn item ws at d new s l e r m v true f =
        let own : find (owns (λ (w : Weight). w.resource) r) ws ≡ Some (get_or ws at d) = ap (λ n. find (owns (λ (w : Weight). w.resource) n) ws) (sym (e ∙ equal item.resource r f)) ∙ found_own (λ (w : Weight). w.resource) ws (get_or ws at d) s (in_at ws at d l) in
        v ∙ sym (λ i. option_map_or (λ (w : Weight). value_at w.weight m) (own i) (pos 0) +ℤ turned turn (item_is item r m true f i))
    at_number turn item ws at d new s l e r m v false f = none_more (value_under r m ws) turn ∙ ap (λ n. value_under r m ws +ℤ turned turn n) (sym (item_is item r m false f))

-- the same, of numbers and a profile that are known to be these
pub raised_by : (turn : Turn) (item : Item) (ws : List Weight) (at : ℕ) (d : Weight) (new old : Timeline) (from to : ℕ) (v : ℤ) → IsStrictlySortedBy nat_cmp (map (λ (w : Weight). w.resource) ws) → AreWhole ws → at < length ws → (get_or ws at d).resource ≡ item.resource
    → from ≡ item.from → to ≡ item.to → v ≡ turned turn item.effort → old ≡ (get_or ws at d).weight → new.from ≡ old.from → end_of new ≡ end_of old
    → EachMinute from to (λ m. value_at new m ≡ value_at old m +ℤ v)
    → EachMinute old.from from (λ m. value_at new m ≡ value_at old m)
    → EachMinute to (end_of old) (λ m. value_at new m ≡ value_at old m)
    → AreRaised (λ r m. turned turn (item_at r m item)) ws (set ws at (record { resource = item.resource; weight = new }))
raised_by turn item ws at d new old from to v s h l e ef et ev eo b f raised before after =
    let g = ap (λ (t : Timeline). t.from) eo in
    let k = ap end_of eo in
    raised_item turn item ws at d new s h l e (b ∙ g) (f ∙ k)
    (λ m x y. raised m (omega (arith, ef, x)) (omega (arith, et, y)) ∙ (λ i. value_at (eo i) m +ℤ ev i))
    (λ m x y. before m (omega (arith, g, x)) (omega (arith, ef, y)) ∙ ap (λ (t : Timeline). value_at t m) eo)
    (λ m x y. after m (omega (arith, et, x)) (omega (arith, k, y)) ∙ ap (λ (t : Timeline). value_at t m) eo)

pub under_at : (ws : List Weight) (at : ℕ) (d : Weight) (r m : ℕ) → IsStrictlySortedBy nat_cmp (map (λ (w : Weight). w.resource) ws) → at < length ws → (get_or ws at d).resource ≡ r → value_under r m ws ≡ value_at (get_or ws at d).weight m
under_at ws at d r m s l e =
    let own : find (owns (λ (w : Weight). w.resource) r) ws ≡ Some (get_or ws at d) = ap (λ n. find (owns (λ (w : Weight). w.resource) n) ws) (sym e) ∙ found_own (λ (w : Weight). w.resource) ws (get_or ws at d) s (in_at ws at d l) in
    ap (λ (o : Option Weight). option_map_or (λ (w : Weight). value_at w.weight m) o (pos 0)) own

in_time : (from to m : ℕ) → from ≤ m → m < to → covers from to m ≡ true
in_time from to m a b = grind (arith, nat_tests)

itself : (n : ℕ) → (n == n) ≡ true
itself n = grind (arith, nat_tests)

pub item_own : (item : Item) (m : ℕ) → item.from ≤ m → m < item.to → item_at item.resource m item ≡ item.effort
item_own item m a b = item_is item item.resource m true (itself item.resource) ∙ ap (λ c. cond c item.effort 0) (in_time item.from item.to m a b)

pub taken_more : (xs : List Item) (i : ℕ) (x d : Item) (r m : ℕ) → i < length xs → x ≡ get_or xs i d → taken (take (i + 1) xs) r m ≡ taken (take i xs) r m + item_at r m x
taken_more xs i x d r m l e =
    let a = ap (λ l. taken l r m) (take_more xs i d l ∙ ap (λ y. take i xs ++ y ∷ []) (sym e)) in
    let b = sum_by-append (item_at r m) (take i xs) (x ∷ []) in
    let c = sum_by-cons (item_at r m) x [] in
    omega (arith, a, b, c)

-- the order of an index whose lists stay
pub order_stays : (i j : IndexParts) → IsOrdered i → map (λ (w : Weight). w.resource) j.weights ≡ map (λ (w : Weight). w.resource) i.weights → j.standing ≡ i.standing → j.booked ≡ i.booked → IsOrdered j
order_stays i j o a b c = (
  subst (IsStrictlySortedBy nat_cmp) (sym a) o.0,
  subst (λ (l : List BookingList). IsStrictlySortedBy nat_cmp (map (λ (x : BookingList). x.number) l)) (sym b) o.1,
  subst (λ (l : List BookingList). IsStrictlySortedBy nat_cmp (map (λ (x : BookingList). x.number) l)) (sym c) o.2,
)
