-- Parts of an index that are replaced and put back.
use Rattle.std.proofs.Common.{◌≡◌, ℕ, zero, suc, ◌+◌, ◌<◌, ◌≤◌, true, cond, ◌&&◌, nat_le, nat_lt, List, [], ◌∷◌, ◌++◌, set, length, get_or, refl, sym, ap, ◌∙◌, arith}
use Rattle.std.proofs.lemmas.List.{set-set, set-get_or, append-nil, take_all, drop_all}
use Rattle.std.proofs.lemmas.Bool.Decides.{nat_tests}
use Rattle.std.specs.List.{insert, remove}
use Rattle.desk_load.specs.declared.weights.Weight.{Weight}
use Rattle.desk_load.specs.declared.lists.BookingList.{BookingList}
use Rattle.desk_load.specs.declared.changes.opened.Former.{Former}
use Rattle.desk_load.specs.declared.changes.opened.Former.TheVariants.{Weighed, Standing, Booked, AddedWeight, AddedStanding, AddedBooked, RemovedWeight, RemovedStanding, RemovedBooked}
use Rattle.desk_load.specs.Parted.{IndexParts}
use Rattle.desk_load.specs.Changed.{put_among, put_back, taken_back}

pub taken_back-append : (i : IndexParts) (formers : List Former) (former : Former) → taken_back i (formers ++ former ∷ []) ≡ taken_back (put_back i former) formers
taken_back-append i [] former = refl
taken_back-append i (f ∷ formers) former = ap (λ j. put_back j f) (taken_back-append i formers former)

-- a part that is replaced and noted
pub noted : (i j : IndexParts) (formers all : List Former) (former : Former) → all ≡ formers ++ former ∷ [] → put_back j former ≡ i → taken_back j all ≡ taken_back i formers
noted i j formers all former e f = ap (taken_back j) e ∙ taken_back-append j formers former ∙ ap (λ k. taken_back k formers) f

-- the last that is put back
pub last_back : (i j : IndexParts) (formers all : List Former) (former : Former) → all ≡ formers ++ former ∷ [] → j ≡ put_back i former → taken_back j formers ≡ taken_back i all
last_back i j formers all former e f = ap (λ k. taken_back k formers) f ∙ sym (taken_back-append i formers former) ∙ sym (ap (taken_back i) e)

pub set_back : {A : Type 0} (xs : List A) (at : ℕ) (x y d : A) → y ≡ get_or xs at d → set (set xs at x) at y ≡ xs
set_back xs at x y d e = set-set xs at x y ∙ ap (set xs at) e ∙ set-get_or xs at d

pub weighed_back : (i : IndexParts) (at : ℕ) (x y d : Weight) → y ≡ get_or i.weights at d → put_back (put_back i (Weighed at x)) (Weighed at y) ≡ i
weighed_back i at x y d e = ap (λ (l : List Weight). record i { weights = l }) (set_back i.weights at x y d e)

pub standing_back : (i : IndexParts) (at : ℕ) (x y d : BookingList) → y ≡ get_or i.standing at d → put_back (put_back i (Standing at x)) (Standing at y) ≡ i
standing_back i at x y d e = ap (λ (l : List BookingList). record i { standing = l }) (set_back i.standing at x y d e)

pub booked_back : (i : IndexParts) (at : ℕ) (x y d : BookingList) → y ≡ get_or i.booked at d → put_back (put_back i (Booked at x)) (Booked at y) ≡ i
booked_back i at x y d e = ap (λ (l : List BookingList). record i { booked = l }) (set_back i.booked at x y d e)

removed_again : {A : Type 0} (xs : List A) (at : ℕ) (x : A) → at ≤ length xs → remove (insert xs at x) at ≡ xs
removed_again xs zero x l = refl
removed_again [] (suc at) x l = absurd (omega arith)
removed_again (y ∷ ys) (suc at) x l = ap (λ l. y ∷ l) (removed_again ys at x (omega arith))

-- a place behind the last
pub remove_past : {A : Type 0} (xs : List A) (at : ℕ) → length xs ≤ at → remove xs at ≡ xs
remove_past xs at l = (let a = take_all at xs l in let b = drop_all (suc at) xs (omega (arith, l)) in λ i. a i ++ b i) ∙ append-nil xs

-- a part that is added and noted
pub weight_added_back : (i : IndexParts) (at : ℕ) (x : Weight) → at ≤ length i.weights → put_back (record i { weights = insert i.weights at x }) (AddedWeight at) ≡ i
weight_added_back i at x l = ap (λ (l : List Weight). record i { weights = l }) (removed_again i.weights at x l)

pub standing_added_back : (i : IndexParts) (at : ℕ) (x : BookingList) → at ≤ length i.standing → put_back (record i { standing = insert i.standing at x }) (AddedStanding at) ≡ i
standing_added_back i at x l = ap (λ (l : List BookingList). record i { standing = l }) (removed_again i.standing at x l)

pub booked_added_back : (i : IndexParts) (at : ℕ) (x : BookingList) → at ≤ length i.booked → put_back (record i { booked = insert i.booked at x }) (AddedBooked at) ≡ i
booked_added_back i at x l = ap (λ (l : List BookingList). record i { booked = l }) (removed_again i.booked at x l)

-- ---- a part that is removed and noted

length_removed : {A : Type 0} (xs : List A) (at : ℕ) → at < length xs → length (remove xs at) + 1 ≡ length xs
length_removed [] at l = absurd (omega arith)
length_removed (x ∷ xs) zero l = omega arith
length_removed (x ∷ xs) (suc at) l = let h = length_removed xs at (omega arith) in omega (arith, h)

inserted_again : {A : Type 0} (xs : List A) (at : ℕ) (d : A) → at < length xs → insert (remove xs at) at (get_or xs at d) ≡ xs
inserted_again [] at d l = absurd (omega arith)
inserted_again (x ∷ xs) zero d l = refl
inserted_again (x ∷ xs) (suc at) d l = ap (λ l. x ∷ l) (inserted_again xs at d (omega arith))

within : (m n : ℕ) → m ≤ n → nat_le m n ≡ true
within m n h = grind (arith, nat_tests)

under : (m n : ℕ) → m < n → nat_lt m n ≡ true
under m n h = grind (arith, nat_tests)

put_among_again : {A : Type 0} (xs : List A) (at room : ℕ) (x d : A) → at < length xs → x ≡ get_or xs at d → room ≡ length xs → put_among at x room (remove xs at) ≡ xs
put_among_again xs at room x d l e f =
    let n = length_removed xs at l in
    let low = within at (length (remove xs at)) (omega (arith, n, l)) in
    let high = under (length (remove xs at)) room (omega (arith, n, f)) in
    (λ i. cond (low i && high i) (insert (remove xs at) at (e i)) (remove xs at)) ∙ inserted_again xs at d l

pub weight_removed_back : (i : IndexParts) (at room : ℕ) (x d : Weight) → at < length i.weights → x ≡ get_or i.weights at d → room ≡ length i.weights → put_back (record i { weights = remove i.weights at }) (RemovedWeight at x room) ≡ i
weight_removed_back i at room x d l e f = ap (λ (l : List Weight). record i { weights = l }) (put_among_again i.weights at room x d l e f)

pub standing_removed_back : (i : IndexParts) (at room : ℕ) (x d : BookingList) → at < length i.standing → x ≡ get_or i.standing at d → room ≡ length i.standing → put_back (record i { standing = remove i.standing at }) (RemovedStanding at x room) ≡ i
standing_removed_back i at room x d l e f = ap (λ (l : List BookingList). record i { standing = l }) (put_among_again i.standing at room x d l e f)

pub booked_removed_back : (i : IndexParts) (at room : ℕ) (x d : BookingList) → at < length i.booked → x ≡ get_or i.booked at d → room ≡ length i.booked → put_back (record i { booked = remove i.booked at }) (RemovedBooked at x room) ≡ i
booked_removed_back i at room x d l e f = ap (λ (l : List BookingList). record i { booked = l }) (put_among_again i.booked at room x d l e f)
