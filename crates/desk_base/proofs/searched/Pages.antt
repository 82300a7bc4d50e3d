-- Pages that resume one another join to the first rows of the listing.
use Rattle.std.proofs.Common.{◌≡◌, ℕ, zero, suc, Bool, true, false, cond, List, [], ◌∷◌, ◌++◌, map, filter, length, Option, Some, None, unwrap_or, MatchOption, ◌≤◌, ◌-◌, nat_lt, ◌⊎◌, inl, inr, refl, sym, ap, ◌∙◌, subst, arith, append_assoc, length-append, ◌==◌, is_some}
use Rattle.std.proofs.lemmas.Bool.{false≢true}
use Rattle.std.proofs.lemmas.Bool.Decides.{nat_tests}
use Rattle.std.proofs.lemmas.List.{append-nil, length-map, map-append}
use Rattle.std.proofs.lemmas.List.Elements.{filter-append}
use Rattle.std.proofs.lemmas.List.Kept.{IsStrictlySortedBy-filter}
use Rattle.std.specs.Prelude.{Contains}
use Rattle.std.specs.List.{last_or}
use Rattle.std.specs.List.Sorted.{IsStrictlySortedBy}
use Rattle.std.specs.declared.cmp.Ordering.{Ordering}
use Rattle.std.specs.declared.cmp.Ordering.TheVariants.{Less, Equal, Greater}
use Rattle.std.specs.Ordering.{is_lt}
use Rattle.desk_base.specs.rows.Types.{GroupRow, Tables, Found, Position, Options, Page}
use Rattle.desk_base.specs.rules.Limits.{passed_limit, page_limit}
use Rattle.desk_base.specs.meaning.Trees.{tree_of, patterns}
use Rattle.desk_base.specs.meaning.Picks.{pattern_of}
use Rattle.desk_base.specs.search.Order.{found_cmp, position_cmp}
use Rattle.desk_base.specs.search.OrderLaws.{found_total, position_total}
use Rattle.desk_base.specs.search.Listing.{IsSoundGroup, IsRow, IsLive, AreRows, rows_before, shown_rows, IsListing, IsLiveList}
use Rattle.desk_base.specs.search.Page.{ResumePoint, beginning, IsAfter, ArePending, due_of, passed_of, shown_after, page_of, IsPage, next_point, AreResumed, rows_of, ends, Joins}
use Rattle.desk_base.specs.search.Positions.{position_at, is_full, found_of, precedes, positions_after, rows_among}
use Rattle.desk_base.proofs.lists.Members.{IsIn, all_at, in_right, in-map, in_mapped, in-filter, in_filtered, in_from_contains, contains_from_in, sorted-map}
use Rattle.desk_base.proofs.lists.Orders.{not_itself, not_both, Enumerates-same}
use Rattle.desk_base.proofs.meaning.Patterns.{length-pattern}
use Rattle.desk_base.proofs.searched.Due.{start_of, start_up, due_behind}

-- ---- the full live positions are the rows

pub size_of_row : (t : Tables) (g : GroupRow) (o : Options) (f : Found) → IsSoundGroup g → IsRow t g o f → length f.picks ≡ length g.leaves
size_of_row t g o f s r = sym (length-map f.picks is_some) ∙ length-pattern (tree_of g.nodes) (pattern_of f.picks) (in_from_contains (patterns (tree_of g.nodes)) (pattern_of f.picks) r.feasible.pattern) ∙ sym s.leaves

no_rest : (xs ys : List Bool) → length (xs ++ ys) ≡ length xs → ys ≡ []
no_rest xs [] e = refl
no_rest xs (y ∷ ys) e = let l = length-append xs (y ∷ ys) in absurd (omega arith)

pub live_from_row : (t : Tables) (g : GroupRow) (o : Options) (f : Found) → IsSoundGroup g → IsRow t g o f → IsLive t g o (position_at f.start f.picks)
live_from_row t g o f s r = record {
  grid = r.feasible.grid;
  within = r.within;
  serve = r.feasible.serve;
  same = r.feasible.same;
  fits = r.feasible.fits;
  has_pick = let e = size_of_row t g o f s r in omega (arith, e, s.some);
  pattern = ([], subst (Contains (patterns (tree_of g.nodes))) (sym (append-nil (pattern_of f.picks))) r.feasible.pattern);
}

pub row_from_live : (t : Tables) (g : GroupRow) (o : Options) (p : Position) → IsSoundGroup g → IsLive t g o p → length p.picks ≡ length g.leaves → IsRow t g o (found_of p)
row_from_live t g o p s h e =
    let whole = length-pattern (tree_of g.nodes) (pattern_of p.picks ++ h.pattern.0) (in_from_contains (patterns (tree_of g.nodes)) (pattern_of p.picks ++ h.pattern.0) h.pattern.1) in
    let none = no_rest (pattern_of p.picks) h.pattern.0 (whole ∙ sym s.leaves ∙ sym e ∙ sym (length-map p.picks is_some)) in
    record {
      feasible = record { grid = h.grid; serve = h.serve; same = h.same; fits = h.fits; pattern = subst (Contains (patterns (tree_of g.nodes))) (ap (λ q. pattern_of p.picks ++ q) none ∙ append-nil (pattern_of p.picks)) h.pattern.1 };
      within = h.within;
    }

full_is : (n : ℕ) (p : Position) → is_full n p ≡ true → length p.picks ≡ n
full_is n p h = grind (arith, nat_tests)

is_full_from : (n : ℕ) (p : Position) → length p.picks ≡ n → is_full n p ≡ true
is_full_from n p h = grind (arith, nat_tests)

pub rows_among-append : (leaves : ℕ) (xs ys : List Position) → rows_among leaves (xs ++ ys) ≡ rows_among leaves xs ++ rows_among leaves ys
rows_among-append leaves xs ys = ap (map found_of) (filter-append (is_full leaves) xs ys) ∙ map-append found_of (filter (is_full leaves) xs) (filter (is_full leaves) ys)

pub full_rows : (t : Tables) (g : GroupRow) (o : Options) (ps : List Position) → IsSoundGroup g → IsLiveList t g o ps → AreRows t g o (rows_among (length g.leaves) ps)
full_rows t g o ps s l = record {
  rising = sorted-map found_cmp position_cmp found_of (λ x y e. e) (filter (is_full (length g.leaves)) ps) (IsStrictlySortedBy-filter position_cmp (is_full (length g.leaves)) ps l.rising);
  sound = λ f c.
      let m = in-map found_of f (filter (is_full (length g.leaves)) ps) (in_from_contains (rows_among (length g.leaves) ps) f c) in
      let i = in-filter (is_full (length g.leaves)) m.0 ps m.1 in
      subst (IsRow t g o) (sym m.2) (row_from_live t g o m.0 s (l.sound m.0 (contains_from_in ps m.0 i.0)) (full_is (length g.leaves) m.0 i.1));
  complete = λ f r.
      let p = position_at f.start f.picks in
      contains_from_in (rows_among (length g.leaves) ps) f (in_mapped found_of p (filter (is_full (length g.leaves)) ps)
      (in_filtered (is_full (length g.leaves)) p ps (in_from_contains ps p (l.complete p (live_from_row t g o f s r))) (is_full_from (length g.leaves) p (size_of_row t g o f s r))));
}

-- ---- what a page passes

pub passed_prefix : (n k m : ℕ) (ps : List Position) → (rest : List Position) × (ps ≡ passed_of n k m ps ++ rest)
passed_prefix n k m [] = ([], refl)
passed_prefix n zero m (p ∷ ps) = (p ∷ ps, refl)
passed_prefix n (suc k) zero (p ∷ ps) = (p ∷ ps, refl)
passed_prefix n (suc k) (suc m) (p ∷ ps) = let h = passed_prefix n (cond (is_full n p) k (suc k)) m ps in (h.0, ap (λ l. p ∷ l) h.1)

filter_none : (q : Position → Bool) (x : Position) (xs ys : List Position) → q x ≡ false → filter q (x ∷ xs) ≡ filter q xs
filter_none q x xs ys e = ap (λ b. cond b (x ∷ filter q xs) (filter q xs)) e

filter_all : (q : Position → Bool) (xs : List Position) → ((y : Position) → IsIn y xs → q y ≡ true) → filter q xs ≡ xs
filter_all q [] h = refl
filter_all q (x ∷ xs) h = ap (λ b. cond b (x ∷ filter q xs) (filter q xs)) (h x (inl refl)) ∙ ap (λ l. x ∷ l) (filter_all q xs (λ y i. h y (inr i)))

less_is : (a b : Position) → position_cmp a b ≡ Less → precedes a b ≡ true
less_is a b h = ap is_lt h

not_less : (r : Ordering) → (r ≡ Less → ⊥) → is_lt r ≡ false
not_less Less h = absurd (h refl)
not_less Equal h = refl
not_less Greater h = refl

-- what comes after a member of a sorted list is the rest of it
after_member : (zs rest : List Position) (x : Position) → IsStrictlySortedBy position_cmp (zs ++ x ∷ rest) → filter (precedes x) (zs ++ x ∷ rest) ≡ rest
unfolding IsStrictlySortedBy
after_member [] rest x s =
    filter_none (precedes x) x rest [] (not_less (position_cmp x x) (not_itself position_cmp position_total x))
    ∙ filter_all (precedes x) rest (λ y i. less_is x y (all_at (λ z. position_cmp x z ≡ Less) rest y s.0 i))
after_member (z ∷ zs) rest x s =
    let first = all_at (λ y. position_cmp z y ≡ Less) (zs ++ x ∷ rest) x s.0 (in_right x zs (x ∷ rest) (inl refl)) in
    filter_none (precedes x) z (zs ++ x ∷ rest) [] (not_less (position_cmp x z) (λ h. not_both position_cmp position_total z x first h)) ∙ after_member zs rest x s.1

less_or_not : (r : Ordering) → (r ≡ Less) ⊎ (is_lt r ≡ false)
less_or_not Less = inl refl
less_or_not Equal = inr refl
less_or_not Greater = inr refl

-- what comes after a position is the end of a sorted list
after_suffix : (a : Position) (ps : List Position) → IsStrictlySortedBy position_cmp ps → (before : List Position) × (ps ≡ before ++ filter (precedes a) ps)
unfolding IsStrictlySortedBy
after_suffix a [] s = ([], refl)
after_suffix a (p ∷ ps) s =
    elim (less_or_not (position_cmp a p)) [
      | inl h ↦ ([], sym (filter_all (precedes a) (p ∷ ps) (λ y i. elim i [ inl e ↦ ap (precedes a) e ∙ less_is a p h | inr j ↦ less_is a y (position_total.trans a p y h (all_at (λ z. position_cmp p z ≡ Less) ps y s.0 j)) ])))
      | inr h ↦ let r = after_suffix a ps s.1 in (p ∷ r.0, ap (λ l. p ∷ l) r.1 ∙ ap (λ l. p ∷ (r.0 ++ l)) (sym (filter_none (precedes a) p ps [] h)))
    ]

positions_after_suffix : (after : Option Position) (ps : List Position) → IsStrictlySortedBy position_cmp ps → (before : List Position) × (ps ≡ before ++ positions_after after ps)
positions_after_suffix None ps s = ([], refl)
positions_after_suffix (Some a) ps s = after_suffix a ps s

pub last_of : (o : Option Position) (h : Position) (hs : List Position) → (front : List Position) × (x : Position) × (h ∷ hs ≡ front ++ x ∷ []) × (last_or o (h ∷ hs) ≡ Some x)
last_of o h [] = ([], h, refl, refl)
last_of o h (k ∷ ks) = let r = last_of (Some h) k ks in (h ∷ r.0, r.1, ap (λ l. h ∷ l) r.2, r.3)

-- what comes after the last one passed is what was not passed
positions_after_next : (after : Option Position) (ps here rest : List Position) → IsStrictlySortedBy position_cmp ps → positions_after after ps ≡ here ++ rest → positions_after (last_or after here) ps ≡ rest
positions_after_next after ps [] rest s e = e
positions_after_next after ps (h ∷ hs) rest s e =
    let b = positions_after_suffix after ps s in
    let l = last_of after h hs in
    let whole : ps ≡ (b.0 ++ l.0) ++ l.1 ∷ rest = b.1 ∙ ap (λ r. b.0 ++ r) (e ∙ ap (λ r. r ++ rest) l.2 ∙ append_assoc l.0 (l.1 ∷ []) rest) ∙ sym (append_assoc b.0 l.0 (l.1 ∷ rest)) in
    ap (λ f. positions_after f ps) l.3 ∙ ap (filter (precedes l.1)) whole ∙ after_member (b.0 ++ l.0) rest l.1 (subst (IsStrictlySortedBy position_cmp) whole s)

no_more : (here rest : List Position) → length here ≡ length (here ++ rest) → rest ≡ []
no_more here [] e = refl
no_more here (r ∷ rs) e = let l = length-append here (r ∷ rs) in absurd (omega arith)

same_length : (m n : ℕ) → (m == n) ≡ true → m ≡ n
same_length m n h = grind (arith, nat_tests)

-- ---- the pending positions, by a filter

after_is : (r : Ordering) → is_lt r ≡ true → r ≡ Less
after_is Less e = refl
after_is Equal e = absurd (false≢true e)
after_is Greater e = absurd (false≢true e)

positions_after-sound : (after : Option Position) (ps : List Position) (p : Position) → IsIn p (positions_after after ps) → IsIn p ps × IsAfter after p
positions_after-sound None ps p i = (i, tt)
positions_after-sound (Some a) ps p i = let h = in-filter (precedes a) p ps i in (h.0, after_is (position_cmp a p) h.1)

positions_after-complete : (after : Option Position) (ps : List Position) (p : Position) → IsIn p ps → IsAfter after p → IsIn p (positions_after after ps)
positions_after-complete None ps p i h = i
positions_after-complete (Some a) ps p i h = in_filtered (precedes a) p ps i (less_is a p h)

positions_after-rising : (after : Option Position) (ps : List Position) → IsStrictlySortedBy position_cmp ps → IsStrictlySortedBy position_cmp (positions_after after ps)
positions_after-rising None ps s = s
positions_after-rising (Some a) ps s = IsStrictlySortedBy-filter position_cmp (precedes a) ps s

-- of the live positions, those after one are the pending ones
pub pending_are : (t : Tables) (g : GroupRow) (o : Options) (after : Option Position) (ps : List Position) → IsLiveList t g o ps → ArePending t g o after (positions_after after ps)
pending_are t g o after ps l = record {
  rising = positions_after-rising after ps l.rising;
  sound = λ p c. let h = positions_after-sound after ps p (in_from_contains (positions_after after ps) p c) in (l.sound p (contains_from_in ps p h.0), h.1);
  complete = λ p h. contains_from_in (positions_after after ps) p (positions_after-complete after ps p (in_from_contains ps p (l.complete p h.0)) h.1);
}

-- with nothing before them the pending positions are all the live ones
pub lives_from : (t : Tables) (g : GroupRow) (o : Options) (ps : List Position) → ArePending t g o None ps → IsLiveList t g o ps
lives_from t g o ps l = record { rising = l.rising; sound = λ p c. (l.sound p c).0; complete = λ p h. l.complete p (h, tt) }

-- a search has one page from a point on
pub page-same : (t : Tables) (g : GroupRow) (o : Options) (point : ResumePoint) (limit : ℕ) (x y : Page) → IsPage t g o point limit x → IsPage t g o point limit y → x ≡ y
page-same t g o point limit x y h k =
    h.2 ∙ ap (page_of (length g.leaves) o.per point limit) (Enumerates-same position_cmp position_total (λ p. IsLive t g o p × IsAfter point.after p) h.0 k.0 h.1 k.1) ∙ sym k.2

-- ---- what a search shows of its rows

module _ (leaves : ℕ) (f : Found → Bool) where
  keep_step : (q : Position) (gs hs : List Position) (b c : Bool) → is_full leaves q ≡ b → f (found_of q) ≡ c → rows_among leaves gs ≡ filter f (map found_of hs)
      → rows_among leaves (cond c (q ∷ gs) gs) ≡ filter f (map found_of (cond b (q ∷ hs) hs))
  keep_step q gs hs true true e h r =
      ap (λ b. map found_of (cond b (q ∷ filter (is_full leaves) gs) (filter (is_full leaves) gs))) e ∙ ap (λ l. found_of q ∷ l) r
      ∙ sym (ap (λ b. cond b (found_of q ∷ filter f (map found_of hs)) (filter f (map found_of hs))) h)
  keep_step q gs hs true false e h r = r ∙ sym (ap (λ b. cond b (found_of q ∷ filter f (map found_of hs)) (filter f (map found_of hs))) h)
  keep_step q gs hs false true e h r = ap (λ b. map found_of (cond b (q ∷ filter (is_full leaves) gs) (filter (is_full leaves) gs))) e ∙ r
  keep_step q gs hs false false e h r = r

  -- a test of rows, among positions
  keep_among : (ps : List Position) → rows_among leaves (filter (λ p. f (found_of p)) ps) ≡ filter f (rows_among leaves ps)
  keep_among [] = refl
  keep_among (q ∷ ps) = keep_step q (filter (λ p. f (found_of p)) ps) (filter (is_full leaves) ps) (is_full leaves q) (f (found_of q)) refl refl (keep_among ps)

less_none : (n : ℕ) → n - 0 ≡ n
less_none n = omega arith

-- the rows of what is due from the beginning are those that the search shows
pub shown_among : (leaves : ℕ) (per : Option ℕ) (ps : List Position) → rows_among leaves (due_of leaves per beginning ps) ≡ shown_rows per (rows_among leaves ps)
shown_among leaves None ps = refl
shown_among leaves (Some per) ps =
    ap (λ n. rows_among leaves (filter (λ p. nat_lt (rows_before (rows_among leaves ps) (found_of p)) n) ps)) (less_none per) ∙ keep_among leaves (λ f. nat_lt (rows_before (rows_among leaves ps) f) per) ps

-- ---- pages that resume one another

module _ (t : Tables) (g : GroupRow) (o : Options) (ps : List Position) (live : IsLiveList t g o ps) where
  abbrev full : List Position → List Found
  full = rows_among (length g.leaves)

  -- what is due from a point on
  abbrev due : Option ℕ → ResumePoint → List Position
  due per point = due_of (length g.leaves) per point (positions_after point.after ps)

  abbrev IsSmall : Option ℕ → Type 0
  IsSmall per = MatchOption per (Unit {0}) (λ n. (1 ≤ n) × (n ≤ page_limit))

  -- the point behind what was passed
  abbrev behind : Option ℕ → ResumePoint → List Position → ResumePoint
  behind per point here = record { after = last_or point.after here; shown = unwrap_or (shown_after per point (full here) (last_or None here)) 0 }

  starts_up : (after : Option Position) (q : Position) → IsIn q (positions_after after ps) → start_of after ≤ q.start
  starts_up None q i = omega arith
  starts_up (Some a) q i = start_up a q (positions_after-sound (Some a) ps q i).1

  -- what is due behind what was passed is what was not passed
  due_next : (per : Option ℕ) (point : ResumePoint) (here rest : List Position) → IsSmall per → due per point ≡ here ++ rest → due per (behind per point here) ≡ rest
  due_next None point here rest small e = positions_after_next point.after ps here rest live.rising e
  due_next (Some per) point [] rest small e = e
  due_next (Some per) point (h ∷ hs) rest small e =
      let l = last_of point.after h hs in
      let all = positions_after point.after ps in
      let d = due_behind (length g.leaves) per point l.0 rest all l.1 small.1 (positions_after-rising point.after ps live.rising) (λ q i. starts_up point.after q i) (e ∙ ap (λ r. r ++ rest) l.2) in
      let b = positions_after_suffix point.after ps live.rising in
      let whole : ps ≡ (b.0 ++ d.0) ++ l.1 ∷ d.1 = b.1 ∙ ap (λ r. b.0 ++ r) d.2 ∙ sym (append_assoc b.0 d.0 (l.1 ∷ d.1)) in
      let after : positions_after (Some l.1) ps ≡ d.1 = ap (filter (precedes l.1)) whole ∙ after_member (b.0 ++ d.0) d.1 l.1 (subst (IsStrictlySortedBy position_cmp) whole live.rising) in
      ap (λ f. due_of (length g.leaves) (Some per) (record { after = f; shown = unwrap_or (shown_after (Some per) point (full (h ∷ hs)) f) 0 }) (positions_after f ps)) l.3
      ∙ ap (λ r. due_of (length g.leaves) (Some per) (record { after = Some l.1; shown = unwrap_or (shown_after (Some per) point (full r) (Some l.1)) 0 }) (positions_after (Some l.1) ps)) l.2
      ∙ ap (due_of (length g.leaves) (Some per) (record { after = Some l.1; shown = unwrap_or (shown_after (Some per) point (full (l.0 ++ l.1 ∷ [])) (Some l.1)) 0 })) after ∙ d.3

  -- one page: its rows, and what it leaves
  record Turn (point : ResumePoint) (page : Page) : Type 0 where
    rest : List Position
    rows : full (due o.per point) ≡ page.rows ++ full rest
    next : due o.per (next_point page) ≡ rest
    whole : page.end ≡ true → rest ≡ []

  turn : (point : ResumePoint) (page : Page) (limit : ℕ) → IsSmall o.per → IsPage t g o point limit page → Turn point page
  turn point page limit small h =
      let all = due o.per point in
      let here = passed_of (length g.leaves) limit passed_limit all in
      let split = passed_prefix (length g.leaves) limit passed_limit all in
      let is = page-same t g o point limit page (page_of (length g.leaves) o.per point limit (positions_after point.after ps)) h (positions_after point.after ps, pending_are t g o point.after ps live, refl) in
      record {
        rest = split.0;
        rows = ap full split.1 ∙ rows_among-append (length g.leaves) here split.0 ∙ ap (λ l. l ++ full split.0) (sym (ap (λ (p : Page). p.rows) is));
        next = ap (λ (p : Page). due o.per (next_point p)) is ∙ due_next o.per point here split.0 small split.1;
        whole = λ e. no_more here split.0 (same_length (length here) (length all) (sym (ap (λ (p : Page). p.end) is) ∙ e) ∙ ap length split.1);
      }

  pub resumed : (point : ResumePoint) (pages : List Page) → AreResumed t g o point pages → (rest : List Position) × (full (due o.per point) ≡ rows_of pages ++ full rest) × (ends pages ≡ true → rest ≡ [])
  resumed point [] h = (due o.per point, refl, λ e. absurd (false≢true e))
  resumed point (page ∷ []) h =
      let u = turn point page h.0.0 h.0.1.of_start h.0.2 in
      (u.rest, u.rows ∙ ap (λ l. l ++ full u.rest) (sym (append-nil page.rows)), u.whole)
  resumed point (page ∷ second ∷ pages) h =
      let u = turn point page h.0.0 h.0.1.of_start h.0.2 in
      let r = resumed (next_point page) (second ∷ pages) h.1 in
      (r.0, u.rows ∙ ap (λ l. page.rows ++ l) (ap full (sym u.next) ∙ r.1) ∙ sym (append_assoc page.rows (rows_of (second ∷ pages)) (full r.0)), r.2)

-- a search has one listing
pub listing-same : (t : Tables) (g : GroupRow) (o : Options) (xs ys : List Found) → IsListing t g o xs → IsListing t g o ys → xs ≡ ys
listing-same t g o xs ys h k = h.2 ∙ ap (shown_rows o.per) (Enumerates-same found_cmp found_total (IsRow t g o) h.0 k.0 h.1 k.1) ∙ sym k.2

-- the rows of what is due from the beginning are the listing
pub shown_listing : (t : Tables) (g : GroupRow) (o : Options) (ps : List Position) → IsSoundGroup g → IsLiveList t g o ps → IsListing t g o (shown_rows o.per (rows_among (length g.leaves) ps))
shown_listing t g o ps s live = (rows_among (length g.leaves) ps, full_rows t g o ps s live, refl)

-- pages of one search join to the first rows of its listing, and to all of them where the last says that it ends
pub pages_join : (t : Tables) (g : GroupRow) (o : Options) (pages : List Page) (listing : List Found) → IsSoundGroup g → IsListing t g o listing → AreResumed t g o beginning pages → Joins t g o pages listing
pages_join t g o [] listing s l h = record { rest = listing; prefix = refl; whole = λ e. absurd (false≢true e) }
pages_join t g o (page ∷ pages) listing s l h =
    let ps = h.0.2.0 in
    let live = lives_from t g o ps h.0.2.1 in
    let r = resumed t g o ps live beginning (page ∷ pages) h in
    let same = listing-same t g o listing (shown_rows o.per (rows_among (length g.leaves) ps)) l (shown_listing t g o ps s live) ∙ sym (shown_among (length g.leaves) o.per ps) in
    record { rest = rows_among (length g.leaves) r.0; prefix = same ∙ r.1; whole = λ e. ap (rows_among (length g.leaves)) (r.2 e) }
