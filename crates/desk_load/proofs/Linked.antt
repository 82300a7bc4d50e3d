-- What the bookings weigh with one membership more.
use Rattle.std.proofs.Common.{◌≡◌, ℕ, ◌+◌, ◌*◌, Bool, true, false, cond, ◌&&◌, ◌||◌, ◌==◌, List, [], ◌∷◌, ◌++◌, map, refl, sym, ap, ◌∙◌, arith}
use Rattle.std.proofs.lemmas.Bool.{false≢true}
use Rattle.std.proofs.lemmas.Bool.Decides.{nat_tests}
use Rattle.std.proofs.lemmas.List.Sums.{sum_by-cons}
use Rattle.std.specs.Prelude.{filter, find, sum_by}
use Rattle.std.specs.List.{list_any}
use Rattle.std.specs.Option.{option_map_or}
use Rattle.desk_base.specs.declared.rows.tables.Tables.{Tables}
use Rattle.desk_base.specs.declared.rows.resources.ResourceRow.{ResourceRow}
use Rattle.desk_base.specs.declared.rows.resources.MemberRow.{MemberRow}
use Rattle.desk_base.specs.declared.search.results.Ask.{Ask}
use Rattle.desk_base.specs.meaning.Time.{covers}
use Rattle.desk_base.specs.meaning.Load.{LoadSort, plain, crew, pool, unknown, sort_of, sort_of_kind, is_crew, members, loads, effort_at, own_load, plain_load, load, weight}
use Rattle.desk_member.specs.Pieces.{item_at}
use Rattle.desk_member.proofs.SumLemmas.{sum_plus, sum_same}
use Rattle.desk_load.specs.Links.{ask_through, item_through}
use Rattle.desk_load.proofs.Used.{joins, load_as}

equal : (a b : ℕ) → (a == b) ≡ true → a ≡ b
equal a b e = grind (arith, nat_tests)

same : (a b : ℕ) → a ≡ b → (a == b) ≡ true
same a b e = grind (arith, nat_tests)

-- ---- one row more among rows

module _ (q : MemberRow → Bool) (x : MemberRow) (ys : List MemberRow) where
  abbrev picked : List MemberRow → List ℕ
  picked rows = map (λ (y : MemberRow). y.member) (filter q rows)

  sum_more : (f : ℕ → ℕ) (xs : List MemberRow) → sum_by f (picked (xs ++ x ∷ ys)) ≡ sum_by f (picked (xs ++ ys)) + cond (q x) (f x.member) 0
  sum_more f [] = step (q x)
    where
      step : (b : Bool) → sum_by f (map (λ (y : MemberRow). y.member) (cond b (x ∷ filter q ys) (filter q ys))) ≡ sum_by f (picked ys) + cond b (f x.member) 0
      step true = let c = sum_by-cons f x.member (picked ys) in omega (arith, c)
      step false = omega arith
  sum_more f (z ∷ xs) = step (q z) (sum_more f xs)
    where
      step : (b : Bool) → sum_by f (picked (xs ++ x ∷ ys)) ≡ sum_by f (picked (xs ++ ys)) + cond (q x) (f x.member) 0
          → sum_by f (map (λ (y : MemberRow). y.member) (cond b (z ∷ filter q (xs ++ x ∷ ys)) (filter q (xs ++ x ∷ ys)))) ≡ sum_by f (map (λ (y : MemberRow). y.member) (cond b (z ∷ filter q (xs ++ ys)) (filter q (xs ++ ys)))) + cond (q x) (f x.member) 0
      step true h = let c = sum_by-cons f z.member (picked (xs ++ x ∷ ys)) in let d = sum_by-cons f z.member (picked (xs ++ ys)) in omega (arith, c, d, h)
      step false h = h

  or_last : (a b c : Bool) → a || (b || c) ≡ (a || b) || c
  or_last true b c = refl
  or_last false b c = refl

  or_none : (a : Bool) → a ≡ a || false
  or_none true = refl
  or_none false = refl

  or_swap : (a b : Bool) → a || b ≡ b || a
  or_swap true true = refl
  or_swap true false = refl
  or_swap false true = refl
  or_swap false false = refl

  any_more : (p : ℕ → Bool) (xs : List MemberRow) → list_any p (picked (xs ++ x ∷ ys)) ≡ list_any p (picked (xs ++ ys)) || cond (q x) (p x.member) false
  any_more p [] = step (q x)
    where
      step : (b : Bool) → list_any p (map (λ (y : MemberRow). y.member) (cond b (x ∷ filter q ys) (filter q ys))) ≡ list_any p (picked ys) || cond b (p x.member) false
      step true = or_swap (p x.member) (list_any p (picked ys))
      step false = or_none (list_any p (picked ys))
  any_more p (z ∷ xs) = step (q z) (any_more p xs)
    where
      step : (b : Bool) → list_any p (picked (xs ++ x ∷ ys)) ≡ list_any p (picked (xs ++ ys)) || cond (q x) (p x.member) false
          → list_any p (map (λ (y : MemberRow). y.member) (cond b (z ∷ filter q (xs ++ x ∷ ys)) (filter q (xs ++ x ∷ ys)))) ≡ list_any p (map (λ (y : MemberRow). y.member) (cond b (z ∷ filter q (xs ++ ys)) (filter q (xs ++ ys)))) || cond (q x) (p x.member) false
      step true h = ap (λ b. p z.member || b) h ∙ or_last (p z.member) (list_any p (picked (xs ++ ys))) (cond (q x) (p x.member) false)
      step false h = h

  none_more : q x ≡ false → (xs : List MemberRow) → picked (xs ++ x ∷ ys) ≡ picked (xs ++ ys)
  none_more e [] = ap (λ b. map (λ (y : MemberRow). y.member) (cond b (x ∷ filter q ys) (filter q ys))) e
  none_more e (z ∷ xs) = step (q z) (none_more e xs)
    where
      step : (b : Bool) → picked (xs ++ x ∷ ys) ≡ picked (xs ++ ys) → map (λ (y : MemberRow). y.member) (cond b (z ∷ filter q (xs ++ x ∷ ys)) (filter q (xs ++ x ∷ ys))) ≡ map (λ (y : MemberRow). y.member) (cond b (z ∷ filter q (xs ++ ys)) (filter q (xs ++ ys)))
      step true h = ap (λ l. z.member ∷ l) h
      step false h = h

times_zero : (n : ℕ) → 0 * n ≡ 0
times_zero n = grind (arith)

times_one : (n : ℕ) → 1 * n ≡ n
times_one n = grind (arith)

zero_times : (n : ℕ) → n * 0 ≡ 0
zero_times n = grind (arith)

one_times : (n : ℕ) → n * 1 ≡ n
one_times n = grind (arith)

both_times : (a b c : ℕ) → (a + b) * c ≡ a * c + b * c
both_times a b c = grind (arith)

times_both : (c a b : ℕ) → c * (a + b) ≡ c * a + c * b
times_both c a b = grind (arith)

pub sum_times : {A : Type 0} (n : ℕ) (f : A → ℕ) (xs : List A) → sum_by (λ x. n * f x) xs ≡ n * sum_by f xs
sum_times n f [] = sym (zero_times n)
sum_times n f (x ∷ xs) =
    let h = sum_times n f xs in
    let a = sum_by-cons (λ x. n * f x) x xs in
    let b = ap (λ k. n * k) (sum_by-cons f x xs) ∙ times_both n (f x) (sum_by f xs) in
    omega (arith, h, a, b)

-- ---- tables u, and tables w of the same resources with one membership more

module _ (u w : Tables) (x : MemberRow) (xs ys : List MemberRow) (er : w.resources ≡ u.resources) (eu : u.members ≡ xs ++ ys) (ew : w.members ≡ xs ++ x ∷ ys) (p : sort_of u x.member ≡ plain) where
  sorts : (r : ℕ) → sort_of w r ≡ sort_of u r
  sorts r = ap (λ (l : List ResourceRow). option_map_or (λ (y : ResourceRow). sort_of_kind y.kind) (find (λ (y : ResourceRow). y.id == r) l) unknown) er

  u_members : (g m : ℕ) → members u g m ≡ map (λ (y : MemberRow). y.member) (filter (joins g m) (xs ++ ys))
  u_members g m = ap (λ l. map (λ (y : MemberRow). y.member) (filter (joins g m) l)) eu

  w_members : (g m : ℕ) → members w g m ≡ map (λ (y : MemberRow). y.member) (filter (joins g m) (xs ++ x ∷ ys))
  w_members g m = ap (λ l. map (λ (y : MemberRow). y.member) (filter (joins g m) l)) ew

  members_sum : (f : ℕ → ℕ) (g m : ℕ) → sum_by f (members w g m) ≡ sum_by f (members u g m) + cond (joins g m x) (f x.member) 0
  members_sum f g m = ap (sum_by f) (w_members g m) ∙ sum_more (joins g m) x ys f xs ∙ sym (ap (λ l. sum_by f l + cond (joins g m x) (f x.member) 0) (u_members g m))

  members_any : (r g m : ℕ) → list_any (λ y. y == r) (members w g m) ≡ list_any (λ y. y == r) (members u g m) || cond (joins g m x) (x.member == r) false
  members_any r g m = ap (list_any (λ y. y == r)) (w_members g m) ∙ any_more (joins g m) x ys (λ y. y == r) xs ∙ sym (ap (λ l. list_any (λ y. y == r) l || cond (joins g m x) (x.member == r) false) (u_members g m))

  members_same : (g m : ℕ) → joins g m x ≡ false → members w g m ≡ members u g m
  members_same g m e = w_members g m ∙ none_more (joins g m) x ys e xs ∙ sym (u_members g m)

  -- the membership is of no other crew or pool
  elsewhere : (k : LoadSort) (r m : ℕ) → sort_of u r ≡ k → (sort_of u x.group ≡ k → ⊥) → (b : Bool) → joins r m x ≡ b → b ≡ false
  elsewhere k r m s h true e = absurd (h (ap (sort_of u) (equal x.group r (left (x.group == r) (covers x.from x.to m) e)) ∙ s))
    where
      left : (a b : Bool) → (a && b) ≡ true → a ≡ true
      left true b e = refl
      left false b e = absurd (false≢true e)
  elsewhere k r m s h false e = refl

  -- ---- a membership of a pool

  module _ (c : sort_of u x.group ≡ pool) (m : ℕ) (a : Ask) where
    pool_loads : (on r : ℕ) → loads w on r m ≡ loads u on r m
    pool_loads on r = by (sort_of u on) refl
      where
        by : (k : LoadSort) → sort_of u on ≡ k → loads w on r m ≡ loads u on r m
        by crew s =
            let o = elsewhere crew on m s (λ q. let z = sym c ∙ q in cc) (joins on m x) refl in
            λ i. (on == r) || (is_crew (sorts on i) && list_any (λ y. y == r) (members_same on m o i))
        by plain s = ap (λ k. (on == r) || (is_crew k && list_any (λ y. y == r) (members w on m))) (sorts on ∙ s) ∙ sym (ap (λ k. (on == r) || (is_crew k && list_any (λ y. y == r) (members u on m))) s)
        by pool s = ap (λ k. (on == r) || (is_crew k && list_any (λ y. y == r) (members w on m))) (sorts on ∙ s) ∙ sym (ap (λ k. (on == r) || (is_crew k && list_any (λ y. y == r) (members u on m))) s)
        by unknown s = ap (λ k. (on == r) || (is_crew k && list_any (λ y. y == r) (members w on m))) (sorts on ∙ s) ∙ sym (ap (λ k. (on == r) || (is_crew k && list_any (λ y. y == r) (members u on m))) s)

    pool_plain : (r : ℕ) → plain_load w r m a ≡ plain_load u r m a
    unfolding plain_load
    pool_plain r = ap (λ b. cond b (effort_at m a) 0) (pool_loads a.resource r)

    nothing : (b : Bool) (n : ℕ) → b ≡ false → n ≡ n + cond b 1 0 * load u x.member m a
    nothing b n e = let f : cond b 1 0 * load u x.member m a ≡ 0 = ap (λ b. cond b 1 0 * load u x.member m a) e ∙ times_zero (load u x.member m a) in omega (arith, f)

    once : (b : Bool) (n : ℕ) → cond b n 0 ≡ cond b 1 0 * n
    once true n = sym (times_one n)
    once false n = sym (times_zero n)

    pub through_pool : (r : ℕ) → load w r m a ≡ load u r m a + item_at r m (item_through x) * load u x.member m a
    through_pool r = by (sort_of u r) refl
      where
        by : (k : LoadSort) → sort_of u r ≡ k → load w r m a ≡ load u r m a + cond (joins r m x) 1 0 * load u x.member m a
        by plain s =
            load_as plain w r m a (sorts r ∙ s) ∙ pool_plain r ∙ sym (load_as plain u r m a s) ∙ nothing (joins r m x) (load u r m a) (elsewhere plain r m s (λ q. let z = sym c ∙ q in cc) (joins r m x) refl)
        by crew s =
            load_as crew w r m a (sorts r ∙ s) ∙ sym (load_as crew u r m a s) ∙ nothing (joins r m x) (load u r m a) (elsewhere crew r m s (λ q. let z = sym c ∙ q in cc) (joins r m x) refl)
        by unknown s =
            load_as unknown w r m a (sorts r ∙ s) ∙ sym (load_as unknown u r m a s) ∙ nothing (joins r m x) (load u r m a) (elsewhere unknown r m s (λ q. let z = sym c ∙ q in cc) (joins r m x) refl)
        by pool s =
            let e = load_as pool w r m a (sorts r ∙ s) in
            let f = sum_same (λ y. plain_load w y m a) (λ y. plain_load u y m a) (members w r m) (λ y i. pool_plain y) in
            let g = members_sum (λ y. plain_load u y m a) r m in
            let h = load_as pool u r m a s in
            let k = once (joins r m x) (plain_load u x.member m a) in
            let l = ap (λ n. cond (joins r m x) 1 0 * n) (sym (load_as plain u x.member m a p)) in
            omega (arith, e, f, g, h, k, l)

  -- ---- a membership of a crew, which the member is in at no minute of it by another

  module _ (c : sort_of u x.group ≡ crew) (m : ℕ) (apart : covers x.from x.to m ≡ true → list_any (λ y. y == x.member) (members u x.group m) ≡ false) (a : Ask) where
    own_is : own_load x.group m a ≡ cond (a.resource == x.group) (effort_at m a) 0
    unfolding own_load
    own_is = refl

    other : (x.group == x.member) ≡ false
    other = by (x.group == x.member) refl
      where
        by : (b : Bool) → (x.group == x.member) ≡ b → b ≡ false
        by true e = absurd (let z : crew ≡ plain = sym c ∙ ap (sort_of u) (equal x.group x.member e) ∙ p in cc)
        by false e = refl

    not_in : (r : ℕ) (k : LoadSort) → sort_of u r ≡ k → (plain ≡ k → ⊥) → (x.member == r) ≡ false
    not_in r k s h = by (x.member == r) refl
      where
        by : (b : Bool) → (x.member == r) ≡ b → b ≡ false
        by true e = absurd (h (sym p ∙ ap (sort_of u) (equal x.member r e) ∙ s))
        by false e = refl

    -- what one effort on the member takes of a resource as a plain one
    through_is : (r : ℕ) → plain_load u r m (ask_through x) ≡ cond (x.member == r) (cond (covers x.from x.to m) 1 0) 0
    unfolding plain_load
    through_is r =
        ap (λ k. cond ((x.member == r) || (is_crew k && list_any (λ y. y == r) (members u x.member m))) (cond (covers x.from x.to m) 1 0) 0) p
        ∙ ap (λ b. cond b (cond (covers x.from x.to m) 1 0) 0) (sym (or_none (joins x.group m) x ys (x.member == r)))

    loads_is : (r : ℕ) → loads w a.resource r m ≡ (a.resource == r) || (is_crew (sort_of u a.resource) && (list_any (λ y. y == r) (members u a.resource m) || cond (joins a.resource m x) (x.member == r) false))
    loads_is r = λ i. (a.resource == r) || (is_crew (sorts a.resource i) && members_any r a.resource m i)

    crew_plain : (r : ℕ) → plain_load w r m a ≡ plain_load u r m a + own_load x.group m a * plain_load u r m (ask_through x)
    unfolding plain_load
    crew_plain r = by (a.resource == x.group) refl (covers x.from x.to m) refl (x.member == r) refl
      where
        e : ℕ
        e = effort_at m a

        product : ℕ
        product = own_load x.group m a * plain_load u r m (ask_through x)

        stays : (b : Bool) → joins a.resource m x ≡ b → cond b (x.member == r) false ≡ false → product ≡ 0 → plain_load w r m a ≡ plain_load u r m a + product
        stays b f g z =
            let l = loads_is r ∙ (ap (λ b. (a.resource == r) || (is_crew (sort_of u a.resource) && (list_any (λ y. y == r) (members u a.resource m) || b))) (ap (λ b. cond b (x.member == r) false) f ∙ g))
            ∙ sym (ap (λ b. (a.resource == r) || (is_crew (sort_of u a.resource) && b)) (or_none (joins x.group m) x ys (list_any (λ y. y == r) (members u a.resource m)))) in
            let k : plain_load w r m a ≡ plain_load u r m a = ap (λ b. cond b e 0) l in
            omega (arith, k, z)

        no_own : (a.resource == x.group) ≡ false → product ≡ 0
        no_own f = ap (λ n. n * plain_load u r m (ask_through x)) (own_is ∙ ap (λ b. cond b e 0) f) ∙ times_zero (plain_load u r m (ask_through x))

        no_through : plain_load u r m (ask_through x) ≡ 0 → product ≡ 0
        no_through f = ap (λ n. own_load x.group m a * n) f ∙ zero_times (own_load x.group m a)

        flip : (i j : ℕ) → (i == j) ≡ (j == i)
        flip i j = grind (arith, nat_tests)

        joined : (b d : Bool) → (a.resource == x.group) ≡ b → covers x.from x.to m ≡ d → joins a.resource m x ≡ (b && d)
        joined b d f g = λ i. (flip x.group a.resource ∙ f) i && g i

        by : (b : Bool) → (a.resource == x.group) ≡ b → (d : Bool) → covers x.from x.to m ≡ d → (n : Bool) → (x.member == r) ≡ n → plain_load w r m a ≡ plain_load u r m a + product
        by false f d g n h = stays false (joined false d f g) refl (no_own f)
        by true f false g n h = stays false (joined true false f g) refl (no_through (through_is r ∙ ap (λ b. cond (x.member == r) (cond b 1 0) 0) g ∙ none_both (x.member == r)))
          where
            none_both : (b : Bool) → ◌≡◌ {A = ℕ} (cond b 0 0) 0
            none_both true = refl
            none_both false = refl
        by true f true g false h = stays true (joined true true f g) h (no_through (through_is r ∙ ap (λ b. cond b (cond (covers x.from x.to m) 1 0) 0) h))
        by true f true g true h =
            let on : a.resource ≡ x.group = equal a.resource x.group f in
            let me : x.member ≡ r = equal x.member r h in
            let own : own_load x.group m a ≡ e = own_is ∙ ap (λ b. cond b e 0) f in
            let one : plain_load u r m (ask_through x) ≡ 1 = through_is r ∙ ap (λ b. cond b (cond (covers x.from x.to m) 1 0) 0) h ∙ ap (λ b. cond b 1 0) g in
            let prod : product ≡ e = (λ i. own i * one i) ∙ one_times e in
            let all : loads w a.resource r m ≡ true =
            loads_is r
            ∙ ap (λ k. (a.resource == r) || (is_crew k && (list_any (λ y. y == r) (members u a.resource m) || cond (joins a.resource m x) (x.member == r) false))) (ap (sort_of u) on ∙ c)
            ∙ (λ i. (a.resource == r) || (list_any (λ y. y == r) (members u a.resource m) || cond (joined true true f g i) (h i) false))
            ∙ ap (λ b. (a.resource == r) || b) (last_true (list_any (λ y. y == r) (members u a.resource m))) ∙ last_true (a.resource == r) in
            let none : loads u a.resource r m ≡ false =
            (λ i. (on i == sym me i) || (is_crew (sort_of u (on i)) && list_any (λ y. y == sym me i) (members u (on i) m)))
            ∙ (λ i. other i || (is_crew (sort_of u x.group) && apart g i)) ∙ ap (λ k. is_crew k && false) c in
            let k : plain_load w r m a ≡ e = ap (λ b. cond b e 0) all in
            let l : plain_load u r m a ≡ 0 = ap (λ b. cond b e 0) none in
            omega (arith, prod, k, l)
          where
            last_true : (b : Bool) → (b || true) ≡ true
            last_true true = refl
            last_true false = refl

    own_through : (r : ℕ) → own_load r m (ask_through x) ≡ cond (x.member == r) (cond (covers x.from x.to m) 1 0) 0
    unfolding own_load
    own_through r = refl

    pub through_crew : (r : ℕ) → load w r m a ≡ load u r m a + load u r m (ask_through x) * load u x.group m a
    through_crew r = by (sort_of u r) refl
      where
        o : ℕ
        o = own_load x.group m a

        source : load u x.group m a ≡ o
        source = load_as crew u x.group m a c

        swapped : (i j : ℕ) → i * j ≡ j * i
        swapped i j = grind (arith)

        product : (n : ℕ) → load u r m (ask_through x) ≡ n → load u r m (ask_through x) * load u x.group m a ≡ o * n
        product n e = (λ i. e i * source i) ∙ swapped n o

        by : (k : LoadSort) → sort_of u r ≡ k → load w r m a ≡ load u r m a + load u r m (ask_through x) * load u x.group m a
        by plain s =
            let e = load_as plain w r m a (sorts r ∙ s) in
            let f = crew_plain r in
            let g = load_as plain u r m a s in
            let h = product (plain_load u r m (ask_through x)) (load_as plain u r m (ask_through x) s) in
            omega (arith, e, f, g, h)
        by crew s =
            let e = load_as crew w r m a (sorts r ∙ s) ∙ sym (load_as crew u r m a s) in
            let h = product 0 (load_as crew u r m (ask_through x) s ∙ own_through r ∙ ap (λ b. cond b (cond (covers x.from x.to m) 1 0) 0) (not_in r crew s (λ q. cc))) ∙ zero_times o in
            omega (arith, e, h)
        by unknown s =
            let e = load_as unknown w r m a (sorts r ∙ s) ∙ sym (load_as unknown u r m a s) in
            let h = product 0 (load_as unknown u r m (ask_through x) s) ∙ zero_times o in
            omega (arith, e, h)
        by pool s =
            let e = load_as pool w r m a (sorts r ∙ s) in
            let f = ap (sum_by (λ y. plain_load w y m a)) (members_same r m (elsewhere pool r m s (λ q. let z = sym c ∙ q in cc) (joins r m x) refl)) in
            let g = sum_plus (λ y. plain_load u y m a) (λ y. o * plain_load u y m (ask_through x)) (λ y. plain_load w y m a) (members u r m) (λ y i. crew_plain y) in
            let h = sum_times o (λ y. plain_load u y m (ask_through x)) (members u r m) in
            let k = load_as pool u r m a s in
            let z : own_load r m (ask_through x) ≡ 0 = own_through r ∙ ap (λ b. cond b (cond (covers x.from x.to m) 1 0) 0) (not_in r pool s (λ q. cc)) in
            let q = load_as pool u r m (ask_through x) s in
            let v : load u r m (ask_through x) ≡ sum_by (λ y. plain_load u y m (ask_through x)) (members u r m) = omega (arith, z, q) in
            let n = product (sum_by (λ y. plain_load u y m (ask_through x)) (members u r m)) v in
            omega (arith, e, f, g, h, k, n)

-- ---- and so of bookings together

pub weight_linked : (u w : Tables) (r m source n : ℕ) (asks : List Ask) → ((a : Ask) → load w r m a ≡ load u r m a + n * load u source m a) → weight w asks r m ≡ weight u asks r m + n * weight u asks source m
weight_linked u w r m source n [] h = let e = zero_times n in omega (arith, e)
weight_linked u w r m source n (a ∷ asks) h =
    let t = weight_linked u w r m source n asks h in
    let e = h a in
    let b = sum_by-cons (load w r m) a asks in
    let c = sum_by-cons (load u r m) a asks in
    let d = ap (λ k. n * k) (sum_by-cons (load u source m) a asks) ∙ times_both n (load u source m a) (weight u asks source m) in
    omega (arith, t, e, b, c, d)
