-- Bookings weigh nothing outside of their windows, and nothing stands on what is no resource.
use Rattle.std.proofs.Common.{◌≡◌, ℕ, ◌≤◌, Bool, true, false, cond, List, ◌++◌, None, refl, sym, ap, ◌∙◌, subst, arith, ◌==◌}
use Rattle.std.proofs.lemmas.List.Sums.{sum_by-append}
use Rattle.std.specs.Prelude.{IfSome}
use Rattle.std.specs.Option.{option_map_or}
use Rattle.desk_base.specs.rows.Types.{Tables, Ask}
use Rattle.desk_base.specs.meaning.Time.{covers}
use Rattle.desk_base.specs.meaning.Capacity.{resource_of}
use Rattle.desk_base.specs.meaning.Load.{LoadSort, plain, crew, pool, unknown, sort_of, sort_of_kind, members, loads, effort_at, own_load, plain_load, load, load_by, weight, room, room_by, IsWithinRoom}
use Rattle.desk_base.proofs.lists.Members.{IsIn}
use Rattle.desk_base.proofs.lists.Tests.{sum_by_none}

-- ---- outside of their windows bookings weigh nothing

nothing-cond : (b : Bool) → ◌≡◌ {A = ℕ} (cond b 0 0) 0
nothing-cond true = refl
nothing-cond false = refl

effort-outside : (m : ℕ) (a : Ask) → covers a.window.from a.window.to m ≡ false → effort_at m a ≡ 0
effort-outside m a h = ap (λ b. cond b a.effort 0) h

own_load-outside : (r m : ℕ) (a : Ask) → covers a.window.from a.window.to m ≡ false → own_load r m a ≡ 0
unfolding own_load
own_load-outside r m a h = ap (λ n. cond (a.resource == r) n 0) (effort-outside m a h) ∙ nothing-cond (a.resource == r)

plain_load-outside : (t : Tables) (r m : ℕ) (a : Ask) → covers a.window.from a.window.to m ≡ false → plain_load t r m a ≡ 0
unfolding plain_load
plain_load-outside t r m a h = ap (λ n. cond (loads t a.resource r m) n 0) (effort-outside m a h) ∙ nothing-cond (loads t a.resource r m)

load_by-outside : (k : LoadSort) (t : Tables) (r m : ℕ) (a : Ask) → covers a.window.from a.window.to m ≡ false → load_by k t r m a ≡ 0
load_by-outside plain t r m a h = plain_load-outside t r m a h
load_by-outside crew t r m a h = own_load-outside r m a h
load_by-outside pool t r m a h =
    let e = own_load-outside r m a h in
    let f = sum_by_none (λ x. plain_load t x m a) (members t r m) (λ x i. plain_load-outside t x m a h) in omega arith
load_by-outside unknown t r m a h = refl

load-outside : (t : Tables) (r m : ℕ) (a : Ask) → covers a.window.from a.window.to m ≡ false → load t r m a ≡ 0
unfolding load
load-outside t r m a h = load_by-outside (sort_of t r) t r m a h

abbrev AreOutside : ℕ → List Ask → Type 0
AreOutside m new = (a : Ask) → IsIn a new → covers a.window.from a.window.to m ≡ false

-- bookings that do not cover the minute weigh nothing
pub weight-quiet : (t : Tables) (others new : List Ask) (r m : ℕ) → AreOutside m new → weight t (others ++ new) r m ≡ weight t others r m
weight-quiet t others new r m h =
    let e = sum_by-append (load t r m) others new in
    let z = sum_by_none (load t r m) new (λ a i. load-outside t r m a (h a i)) in omega arith

-- ---- what is no resource

-- nothing stands on what is no resource
pub unknown_fits : (t : Tables) (asks : List Ask) (r m : ℕ) → resource_of t r ≡ None → IsWithinRoom t asks r m
unfolding load room
unknown_fits t asks r m e =
    let k : sort_of t r ≡ unknown = ap (λ x. option_map_or (λ y. sort_of_kind y.kind) x unknown) e in
    let z : weight t asks r m ≡ 0 = sum_by_none (load t r m) asks (λ a i. ap (λ s. load_by s t r m a) k) in
    subst (λ n. IfSome n (λ k. weight t asks r m ≤ k)) (sym (ap (λ s. room_by s t r m) k)) (omega arith)
