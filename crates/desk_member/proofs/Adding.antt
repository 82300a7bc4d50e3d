-- Pieces that are added to a list, and what they take.
use Rattle.std.proofs.Common.{◌≡◌, ℕ, zero, suc, ◌+◌, ◌<◌, ◌≤◌, Bool, true, false, cond, List, [], ◌∷◌, ◌++◌, length, get_or, Option, Some, None, Result, Ok, Err, inl, inr, refl, sym, ap, ◌∙◌, subst, arith}
use Rattle.std.proofs.lemmas.Bool.{false≢true}
use Rattle.std.proofs.lemmas.List.Elements.{All-push}
use Rattle.std.proofs.lemmas.List.Sums.{sum_by_push}
use Rattle.std.specs.Prelude.{All, OnOk, IsSome}
use Rattle.std.specs.Option.{option_map_or}
use Rattle.desk_base.specs.declared.rows.tables.Tables.{Tables}
use Rattle.desk_base.specs.declared.rows.resources.MemberRow.{MemberRow}
use Rattle.desk_base.specs.declared.rows.resources.ResourceRow.{ResourceRow}
use Rattle.desk_base.specs.declared.search.results.Ask.{Ask}
use Rattle.desk_base.specs.meaning.Capacity.{resource_of}
use Rattle.desk_base.specs.meaning.Load.{LoadSort, plain, crew, pool, unknown, sort_of, sort_of_kind}
use Rattle.desk_base.proofs.lists.Members.{IsIn}
use Rattle.desk_member.specs.declared.items.Item.{Item}
use Rattle.desk_member.specs.Pieces.{item_at, taken, IsItemOf}
use Rattle.desk_member.specs.Parts.{is_pool, part_in, pool_share, KeepsItems}
use Rattle.desk_member.proofs.Shares.{empty_item}

pub on_ok : {T E : Type 0} (r : Result T E) (P Q : Type 0) → (P → Q) → OnOk r P → OnOk r Q
on_ok (Ok x) P Q f h = f h
on_ok (Err e) P Q f h = h

-- ---- sorts

pub not_pool : (s : LoadSort) → (s ≡ pool → ⊥) → is_pool s ≡ false
not_pool plain h = refl
not_pool crew h = refl
not_pool pool h = absurd (h refl)
not_pool unknown h = refl

there_from : (o : Option ResourceRow) → (option_map_or (λ (x : ResourceRow). sort_of_kind x.kind) o unknown ≡ unknown → ⊥) → IsSome o
there_from None h = absurd (h refl)
there_from (Some x) h = refl

-- what is of a known sort is there
pub is_there : (t : Tables) (r : ℕ) → (sort_of t r ≡ unknown → ⊥) → IsSome (resource_of t r)
is_there t r h = there_from (resource_of t r) h

some_sort : (o : Option ResourceRow) → IsSome o → (option_map_or (λ (x : ResourceRow). sort_of_kind x.kind) o unknown ≡ crew → ⊥) → (option_map_or (λ (x : ResourceRow). sort_of_kind x.kind) o unknown ≡ pool → ⊥) → option_map_or (λ (x : ResourceRow). sort_of_kind x.kind) o unknown ≡ plain
some_sort None i c p = absurd (false≢true i)
some_sort (Some x) i c p = by (sort_of_kind x.kind) (known x.kind) c p
  where
    known : (k : _) → sort_of_kind k ≡ unknown → ⊥
    known k e = grind arith

    by : (s : LoadSort) → (s ≡ unknown → ⊥) → (s ≡ crew → ⊥) → (s ≡ pool → ⊥) → s ≡ plain
    by plain u c p = refl
    by crew u c p = absurd (c refl)
    by pool u c p = absurd (p refl)
    by unknown u c p = absurd (u refl)

-- what is there, and is no crew and no pool, is plain
pub is_plain_from : (t : Tables) (r : ℕ) → IsSome (resource_of t r) → (sort_of t r ≡ crew → ⊥) → (sort_of t r ≡ pool → ⊥) → sort_of t r ≡ plain
is_plain_from t r i c p = some_sort (resource_of t r) i c p

-- ---- one piece more

pub keeps_same : (t : Tables) (p : Item) (old new : List Item) → new ≡ old → KeepsItems t p old new
keeps_same t p old new e = λ a i h. subst (All (IsItemOf t a)) (sym e) h

pub keeps_then : (t : Tables) (p : Item) (a b c : List Item) → KeepsItems t p a b → KeepsItems t p b c → KeepsItems t p a c
keeps_then t p a b c f g = λ x i h. g x i (f x i h)

pub keeps_push : (t : Tables) (p q : Item) (old new : List Item) → new ≡ old ++ q ∷ [] → ((a : Ask) → IsItemOf t a p → IsItemOf t a q) → KeepsItems t p old new
keeps_push t p q old new e f = λ a i h. subst (All (IsItemOf t a)) (sym e) (All-push (IsItemOf t a) old q h (f a i))

pub takes_more : (q : Item) (old new : List Item) (r m : ℕ) → new ≡ old ++ q ∷ [] → taken new r m ≡ taken old r m + item_at r m q
takes_more q old new r m e = ap (λ l. taken l r m) e ∙ sum_by_push (item_at r m) old q

pub part_item : (t : Tables) (a : Ask) (p : Item) (x : MemberRow) (k : ℕ) → IsItemOf t a p → IsSome (resource_of t k) → (part_in p x k).from < (part_in p x k).to → IsItemOf t a (part_in p x k)
part_item t a p x k i s l = record {
  there = s;
  begins = omega (arith, i.begins);
  not_empty = l;
  ends = omega (arith, i.ends);
  effort = i.effort;
}

-- a piece of a part is a piece of the whole
pub keeps_part : (t : Tables) (p : Item) (x : MemberRow) (k : ℕ) (old new : List Item) → IsSome (resource_of t k) → (part_in p x k).from < (part_in p x k).to → KeepsItems t (part_in p x k) old new → KeepsItems t p old new
keeps_part t p x k old new s l f = λ a i h. f a (part_item t a p x k i s l) h

-- ---- shares

pub no_pool_share : (t : Tables) (p : Item) (r m : ℕ) (x : MemberRow) → (sort_of t x.group ≡ pool → ⊥) → pool_share t p r m x ≡ 0
no_pool_share t p r m x h = ap (λ b. cond b (item_at r m (part_in p x x.group)) 0) (not_pool (sort_of t x.group) h)

pub pool_share_is : (t : Tables) (p : Item) (r m : ℕ) (x : MemberRow) → sort_of t x.group ≡ pool → pool_share t p r m x ≡ item_at r m (part_in p x x.group)
pool_share_is t p r m x e = ap (λ s. cond (is_pool s) (item_at r m (part_in p x x.group)) 0) e

pub empty_pool_share : (t : Tables) (p : Item) (r m : ℕ) (x : MemberRow) → (part_in p x x.group).to ≤ (part_in p x x.group).from → pool_share t p r m x ≡ 0
empty_pool_share t p r m x l = by (is_pool (sort_of t x.group))
  where
    by : (b : Bool) → ◌≡◌ {A = ℕ} (cond b (item_at r m (part_in p x x.group)) 0) 0
    by true = empty_item r m (part_in p x x.group) l
    by false = refl

pub get_in : {A : Type 0} (xs : List A) (i : ℕ) (x : A) → i < length xs → x ≡ get_or xs i x → IsIn x xs
get_in [] i x l e = absurd (omega arith)
get_in (y ∷ ys) zero x l e = inl e
get_in (y ∷ ys) (suc i) x l e = inr (get_in ys i x (omega arith) e)
