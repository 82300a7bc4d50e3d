-- Weights add up: of two lists of bookings, after one more, and of a pool from its members.
use Rattle.std.proofs.Common.{◌≡◌, ℕ, ◌+◌, List, [], ◌∷◌, ◌++◌, map, refl, sym, ap, arith, inl, inr}
use Rattle.std.proofs.lemmas.List.Sums.{sum_by-cons, sum_by-append, sum_by-insert}
use Rattle.std.specs.Prelude.{sum_by, insert}
use Rattle.desk_base.specs.rows.Types.{BookingRow, Tables, Ask}
use Rattle.desk_base.specs.meaning.Load.{LoadSort, plain, pool, sort_of, members, own_load, plain_load, load, load_by, weight, ask_of}
use Rattle.desk_base.proofs.lists.Members.{IsIn}

-- zs sums to what xs and ys sum to together
abbrev pub AreTogether : List Ask → List Ask → List Ask → Type 0
AreTogether xs ys zs = (f : Ask → ℕ) → sum_by f zs ≡ sum_by f xs + sum_by f ys

pub weight-together : (t : Tables) (xs ys zs : List Ask) (r m : ℕ) → AreTogether xs ys zs → weight t zs r m ≡ weight t xs r m + weight t ys r m
weight-together t xs ys zs r m h = h (load t r m)

-- the weight of standing and asked bookings
pub weight-append : (t : Tables) (xs ys : List Ask) (r m : ℕ) → weight t (xs ++ ys) r m ≡ weight t xs r m + weight t ys r m
weight-append t xs ys r m = sum_by-append (load t r m) xs ys

sum_by-mapped : (f : Ask → ℕ) (bs : List BookingRow) → sum_by f (map ask_of bs) ≡ sum_by (λ b. f (ask_of b)) bs
sum_by-mapped f [] = refl
sum_by-mapped f (b ∷ bs) = let a = sum_by-cons f (ask_of b) (map ask_of bs) in let c = sum_by-cons (λ b. f (ask_of b)) b bs in let r = sum_by-mapped f bs in omega arith

-- a put of a booking adds its own weight
pub weight-insert : (t : Tables) (bs : List BookingRow) (i : ℕ) (b : BookingRow) (r m : ℕ) → weight t (map ask_of (insert bs i b)) r m ≡ weight t (map ask_of bs) r m + weight t (ask_of b ∷ []) r m
weight-insert t bs i b r m =
    let f = load t r m in
    let a = sum_by-mapped f (insert bs i b) in let c = sum_by-mapped f bs in let e = sum_by-insert (λ b. f (ask_of b)) bs i b in let d = sum_by-cons f (ask_of b) [] in omega arith

-- ---- the weight of a pool

sum_by-plus : {A : Type 0} (f g h : A → ℕ) (xs : List A) → ((x : A) → h x ≡ f x + g x) → sum_by h xs ≡ sum_by f xs + sum_by g xs
sum_by-plus f g h [] e = refl
sum_by-plus f g h (x ∷ xs) e =
    let a = sum_by-cons f x xs in let b = sum_by-cons g x xs in let c = sum_by-cons h x xs in let r = sum_by-plus f g h xs e in let d = e x in omega arith

sum_by-zero : {A : Type 0} (xs : List A) → sum_by (λ _. 0) xs ≡ 0
sum_by-zero [] = refl
sum_by-zero (x ∷ xs) = let a = sum_by-cons (λ _. 0) x xs in let r = sum_by-zero xs in omega arith

-- a double sum, the other way round
sum_by-swap : {A B : Type 0} (f : A → B → ℕ) (xs : List A) (ys : List B) → sum_by (λ x. sum_by (f x) ys) xs ≡ sum_by (λ y. sum_by (λ x. f x y) xs) ys
sum_by-swap f [] ys = sym (sum_by-zero ys)
sum_by-swap f (x ∷ xs) ys =
    let a = sum_by-cons (λ x. sum_by (f x) ys) x xs in
    let r = sum_by-swap f xs ys in
    let p = sum_by-plus (f x) (λ y. sum_by (λ x. f x y) xs) (λ y. sum_by (λ x. f x y) (x ∷ xs)) ys (λ y. sum_by-cons (λ x. f x y) x xs) in omega arith

sum_by-members : (f g : ℕ → ℕ) (xs : List ℕ) → ((x : ℕ) → IsIn x xs → f x ≡ g x) → sum_by f xs ≡ sum_by g xs
sum_by-members f g [] h = refl
sum_by-members f g (x ∷ xs) h =
    let a = sum_by-cons f x xs in let b = sum_by-cons g x xs in let e = h x (inl refl) in let r = sum_by-members f g xs (λ y i. h y (inr i)) in omega arith

load-sort : (k : LoadSort) (t : Tables) (r m : ℕ) (a : Ask) → sort_of t r ≡ k → load t r m a ≡ load_by k t r m a
unfolding load
load-sort k t r m a e = ap (λ s. load_by s t r m a) e

weight-sort : (k : LoadSort) (t : Tables) (r m : ℕ) (asks : List Ask) → sort_of t r ≡ k → weight t asks r m ≡ sum_by (load_by k t r m) asks
weight-sort k t r m [] e = refl
weight-sort k t r m (a ∷ asks) e =
    let c = sum_by-cons (load t r m) a asks in let d = sum_by-cons (load_by k t r m) a asks in let h = load-sort k t r m a e in let i = weight-sort k t r m asks e in omega arith

-- what stands on the pool itself, and the weights of its members
pub weight-pool : (t : Tables) (asks : List Ask) (r m : ℕ) → sort_of t r ≡ pool → ((x : ℕ) → IsIn x (members t r m) → sort_of t x ≡ plain) → weight t asks r m ≡ sum_by (own_load r m) asks + sum_by (λ x. weight t asks x m) (members t r m)
weight-pool t asks r m e plains =
    let a = weight-sort pool t r m asks e in
    let p = sum_by-plus (own_load r m) (λ a. sum_by (λ x. plain_load t x m a) (members t r m)) (load_by pool t r m) asks (λ a. refl) in
    let s = sum_by-swap (λ a x. plain_load t x m a) asks (members t r m) in
    let q = sum_by-members (λ x. weight t asks x m) (λ x. sum_by (plain_load t x m) asks) (members t r m) (λ x i. weight-sort plain t x m asks (plains x i)) in omega arith
