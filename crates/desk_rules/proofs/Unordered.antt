-- Keys that are not above the one before them, and the least of them.
use Rattle.std.proofs.Common.{◌≡◌, Bool, true, false, cond, List, [], ◌∷◌, ◌++◌, Option, Some, None, ◌⊎◌, inl, inr, refl, sym, ap, ◌∙◌, subst, append_assoc, is_none}
use Rattle.std.proofs.lemmas.Bool.{false≢true}
use Rattle.std.proofs.lemmas.Cmp.{tied_itself, alike_right}
use Rattle.std.specs.Option.{option_to_list}
use Rattle.std.specs.Ordering.{is_lt, ordering_reverse}
use Rattle.std.specs.declared.cmp.Ordering.{Ordering}
use Rattle.std.specs.declared.cmp.Ordering.TheVariants.{Less, Equal, Greater}
use Rattle.desk_base.specs.declared.rows.tables.Key.{Key}
use Rattle.desk_base.specs.rows.Keys.{key_cmp}
use Rattle.desk_base.proofs.lists.Members.{IsIn}
use Rattle.desk_base.proofs.tables.Sounds.{key_total}
use Rattle.desk_rules.specs.Broken.{is_above, lesser, least_unordered}

pub either : (b : Bool) → (b ≡ true) ⊎ (b ≡ false)
either true = inl refl
either false = inr refl

-- ---- two keys

pub less : (r : Ordering) → is_lt r ≡ true → r ≡ Less
less Less e = refl
less Equal e = absurd (false≢true e)
less Greater e = absurd (false≢true e)

pub not_less : (k : Key) → is_lt (key_cmp k k) ≡ false
not_less k = ap is_lt (tied_itself key_total k)

-- what is below neither of two is below no third that the second is not above
above_step : (j x m : Key) (r : Ordering) → key_cmp x m ≡ r → is_lt r ≡ false → is_lt (key_cmp j x) ≡ false → key_cmp j m ≡ Less → ⊥
above_step j x m Less e f g h = false≢true (sym f)
above_step j x m Equal e f g h = false≢true (sym g ∙ ap is_lt (alike_right key_total x m j e ∙ h))
above_step j x m Greater e f g h = false≢true (sym g ∙ ap is_lt (key_total.trans j m x h (key_total.antisymm m x ∙ ap ordering_reverse e)))

not_below : (j x m : Key) → is_lt (key_cmp x m) ≡ false → is_lt (key_cmp j x) ≡ false → is_lt (key_cmp j m) ≡ false
not_below j x m f g = elim (either (is_lt (key_cmp j m))) [ inl e ↦ absurd (above_step j x m (key_cmp x m) refl f g (less (key_cmp j m) e)) | inr e ↦ e ]

-- ---- the least of some keys

abbrev unordered : Option Key → List Key → List Key
unordered before [] = []
unordered before (k ∷ keys) = cond (is_above before k) (unordered (Some k) keys) (k ∷ unordered (Some k) keys)

abbrev least_of : Option Key → List Key → Option Key
least_of least [] = least
least_of least (k ∷ keys) = least_of (Some (lesser least k)) keys

least_is : (before least : Option Key) (keys : List Key) → least_unordered before least keys ≡ least_of least (unordered before keys)
least_is before least [] = refl
least_is before least (k ∷ keys) = step (is_above before k) (λ l. least_is (Some k) l keys)
  where
    step : (b : Bool) → ((l : Option Key) → least_unordered (Some k) l keys ≡ least_of l (unordered (Some k) keys)) → least_unordered (Some k) (cond b least (Some (lesser least k))) keys ≡ least_of least (cond b (unordered (Some k) keys) (k ∷ unordered (Some k) keys))
    step true h = h least
    step false h = h (Some (lesser least k))

some_is_none : {A : Type 0} (x : A) → Some x ≡ None → ⊥
some_is_none x e = false≢true (ap is_none e)

least_start : (least : Option Key) (keys : List Key) → least_of least keys ≡ None → least ≡ None
least_start least [] e = e
least_start least (k ∷ keys) e = absurd (some_is_none (lesser least k) (least_start (Some (lesser least k)) keys e))

least_none : (least : Option Key) (keys : List Key) → least_of least keys ≡ None → keys ≡ []
least_none least [] e = refl
least_none least (k ∷ keys) e = absurd (some_is_none (lesser least k) (least_start (Some (lesser least k)) keys e))

-- a key is the least so far or one of the later ones
abbrev IsAmong : Key → Option Key → List Key → Type 0
IsAmong j least keys = (least ≡ Some j) ⊎ IsIn j keys

lesser_among : (least : Option Key) (k : Key) (keys : List Key) → IsAmong (lesser least k) least (k ∷ keys)
lesser_among None k keys = inr (inl refl)
lesser_among (Some l) k keys = step (is_lt (key_cmp k l))
  where
    step : (b : Bool) → IsAmong (cond b k l) (Some l) (k ∷ keys)
    step true = inr (inl refl)
    step false = inl refl

same_some : (j k : Key) → Some j ≡ Some k → j ≡ k
same_some j k e = cc

least_among : (least : Option Key) (keys : List Key) (m : Key) → least_of least keys ≡ Some m → IsAmong m least keys
least_among least [] m e = inl e
least_among least (k ∷ keys) m e = elim (least_among (Some (lesser least k)) keys m e) [
  | inl f ↦ subst (λ x. IsAmong x least (k ∷ keys)) (same_some (lesser least k) m f) (lesser_among least k keys)
  | inr i ↦ inr (inr i)
]

lesser_old : (l k : Key) → is_lt (key_cmp l (lesser (Some l) k)) ≡ false
lesser_old l k = step (is_lt (key_cmp k l)) refl
  where
    step : (b : Bool) → is_lt (key_cmp k l) ≡ b → is_lt (key_cmp l (cond b k l)) ≡ false
    step true e = ap is_lt (key_total.antisymm l k ∙ ap ordering_reverse (less (key_cmp k l) e))
    step false e = not_less l

lesser_new : (least : Option Key) (k : Key) → is_lt (key_cmp k (lesser least k)) ≡ false
lesser_new None k = not_less k
lesser_new (Some l) k = step (is_lt (key_cmp k l)) refl
  where
    step : (b : Bool) → is_lt (key_cmp k l) ≡ b → is_lt (key_cmp k (cond b k l)) ≡ false
    step true e = not_less k
    step false e = e

least_below : (least : Option Key) (keys : List Key) (m : Key) → least_of least keys ≡ Some m → (j : Key) → IsAmong j least keys → is_lt (key_cmp j m) ≡ false
least_below least [] m e j (inl f) = subst (λ x. is_lt (key_cmp j x) ≡ false) (same_some j m (sym f ∙ e)) (not_less j)
least_below least [] m e j (inr i) = absurd i
least_below least (k ∷ keys) m e j (inl f) =
    let x = lesser least k in
    not_below j x m (least_below (Some x) keys m e x (inl refl)) (subst (λ o. is_lt (key_cmp j (lesser o k)) ≡ false) (sym f) (lesser_old j k))
least_below least (k ∷ keys) m e j (inr (inl f)) =
    let x = lesser least k in
    not_below j x m (least_below (Some x) keys m e x (inl refl)) (subst (λ y. is_lt (key_cmp y x) ≡ false) (sym f) (lesser_new least k))
least_below least (k ∷ keys) m e j (inr (inr i)) = least_below (Some (lesser least k)) keys m e j (inr i)

-- ---- keys that are not above the one before them

-- the key stands behind one that it is not above
pub record IsUnordered (keys : List Key) (k : Key) : Type 0 where
  pub before : List Key
  pub last : Key
  pub after : List Key
  pub cut : keys ≡ before ++ last ∷ k ∷ after
  pub fault : is_lt (key_cmp last k) ≡ false

later_fault : (k : Key) (front keys : List Key) → IsUnordered keys k → IsUnordered (front ++ keys) k
later_fault k front keys u = record { before = front ++ u.before; last = u.last; after = u.after; cut = ap (λ l. front ++ l) u.cut ∙ sym (append_assoc front u.before (u.last ∷ k ∷ u.after)); fault = u.fault }

from_unordered : (before : Option Key) (keys : List Key) (k : Key) → IsIn k (unordered before keys) → IsUnordered (option_to_list before ++ keys) k
from_unordered before [] k i = absurd i
from_unordered before (x ∷ keys) k i = step before (is_above before x) refl i (from_unordered (Some x) keys k)
  where
    step : (o : Option Key) (b : Bool) → is_above o x ≡ b → IsIn k (cond b (unordered (Some x) keys) (x ∷ unordered (Some x) keys)) → (IsIn k (unordered (Some x) keys) → IsUnordered (x ∷ keys) k) → IsUnordered (option_to_list o ++ x ∷ keys) k
    step o true e j more = later_fault k (option_to_list o) (x ∷ keys) (more j)
    step None false e (inl f) more = absurd (false≢true (sym e))
    step (Some y) false e (inl f) more = record { before = []; last = y; after = keys; cut = ap (λ z. y ∷ z ∷ keys) (sym f); fault = ap (λ z. is_lt (key_cmp y z)) f ∙ e }
    step o false e (inr j) more = later_fault k (option_to_list o) (x ∷ keys) (more j)

in_more : (before : Option Key) (x : Key) (keys : List Key) (k : Key) → IsIn k (unordered (Some x) keys) → IsIn k (unordered before (x ∷ keys))
in_more before x keys k i = step (is_above before x)
  where
    step : (b : Bool) → IsIn k (cond b (unordered (Some x) keys) (x ∷ unordered (Some x) keys))
    step true = i
    step false = inr i

no_keys : (before after : List Key) (k : Key) → [] ≡ before ++ k ∷ after → ⊥
no_keys [] after k e = cc
no_keys (x ∷ before) after k e = cc

in_after : (x : Key) (keys before after : List Key) (j k : Key) → x ∷ keys ≡ before ++ j ∷ k ∷ after → is_lt (key_cmp j k) ≡ false → IsIn k (unordered (Some x) keys)
in_after x keys [] after j k e f =
    let same : x ≡ j = cc in
    let rest : keys ≡ k ∷ after = cc in
    subst (λ l. IsIn k (unordered (Some x) l)) (sym rest) (ap_cond (ap (λ y. is_lt (key_cmp y k)) same ∙ f))
  where
    ap_cond : is_lt (key_cmp x k) ≡ false → IsIn k (unordered (Some x) (k ∷ after))
    ap_cond g = subst (λ b. IsIn k (cond b (unordered (Some k) after) (k ∷ unordered (Some k) after))) (sym g) (inl refl)
in_after x [] (y ∷ before) after j k e f = let rest : [] ≡ before ++ j ∷ k ∷ after = cc in absurd (no_keys before (k ∷ after) j rest)
in_after x (z ∷ keys) (y ∷ before) after j k e f = let rest : z ∷ keys ≡ before ++ j ∷ k ∷ after = cc in in_more (Some x) z keys k (in_after z keys before after j k rest f)

in_unordered : (keys : List Key) (k : Key) → IsUnordered keys k → IsIn k (unordered None keys)
in_unordered [] k u = absurd (no_keys u.before (k ∷ u.after) u.last u.cut)
in_unordered (x ∷ keys) k u = in_after x keys u.before u.after u.last k u.cut u.fault

-- ---- what the least says

pub none_unordered : (keys : List Key) → least_unordered None None keys ≡ None → (k : Key) → IsUnordered keys k → ⊥
none_unordered keys e k u = subst (IsIn k) (least_none None (unordered None keys) (sym (least_is None None keys) ∙ e)) (in_unordered keys k u)

pub least_is_unordered : (keys : List Key) (m : Key) → least_unordered None None keys ≡ Some m → IsUnordered keys m
least_is_unordered keys m e = elim (least_among None (unordered None keys) m (sym (least_is None None keys) ∙ e)) [
  | inl f ↦ absurd (some_is_none m (sym f))
  | inr i ↦ from_unordered None keys m i
]

pub least_is_least : (keys : List Key) (m : Key) → least_unordered None None keys ≡ Some m → (j : Key) → IsUnordered keys j → is_lt (key_cmp j m) ≡ false
least_is_least keys m e j u = least_below None (unordered None keys) m (sym (least_is None None keys) ∙ e) j (inr (in_unordered keys j u))
