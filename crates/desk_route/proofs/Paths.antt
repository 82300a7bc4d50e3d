-- The route of a path, by a walk over the six rows.
use Rattle.std.proofs.Common.{◌≡◌, ℕ, ◌==◌, false, List, [], ◌∷◌, ◌++◌, codes, All, Some, None, inl, inr, refl, sym, ap, subst, ◌∙◌}
use Rattle.std.proofs.lemmas.List.{append_assoc}
use Rattle.std.proofs.lemmas.List.Elements.{All-from_recursion, recursion_from_All}
use Rattle.matchit.specs.Router.{RouteOf}
use Rattle.matchit.specs.Seek.{seek, first, step, param_step}
use Rattle.desk_route.specs.declared.routes.Route.{Route}
use Rattle.desk_route.specs.declared.routes.Route.TheVariants as route
use Rattle.desk_route.specs.Routes.{six_rows, IsPart, IsPathOf}
use Rattle.desk_route.proofs.Walks.{decide, none_seek, step_byte, walked, front, literal, found_part, part_found, NoSlash, IsLiteral}

abbrev Row : Type 0
Row = RouteOf Route

nowhere : (path : List ℕ) (r : Row) → first {K = Row} [] path ≡ Some r → ⊥
nowhere path r e = let f : None ≡ Some r = sym (none_seek 0 path) ∙ e in cc

-- ---- each path that is found is of its route

at_text : (before text path : List ℕ) (k r : Row) → IsLiteral text → IsPathOf k.value (before ++ text) → first ((text, k) ∷ []) path ≡ Some r → IsPathOf r.value (before ++ path)
at_text before text path k r lit is e =
    let found = literal text k r path lit e in
    subst (λ (x : Row). IsPathOf x.value (before ++ path)) found.1 (subst (λ p. IsPathOf k.value (before ++ p)) (sym found.0) is)

at_part : (before name after path : List ℕ) (k r : Row) → IsLiteral name → IsLiteral (47 ∷ after)
    → ((part : List ℕ) → IsPart part → IsPathOf k.value (before ++ (name ++ (part ++ 47 ∷ after))))
    → first ((name ++ 256 ∷ 47 ∷ after, k) ∷ []) path ≡ Some r → IsPathOf r.value (before ++ path)
at_part before name after path k r lit lit' is e =
    let named = front name (256 ∷ 47 ∷ after) k r path lit e in
    let part = found_part after k named.0 r named.2 in
    let end = literal (47 ∷ after) k r part.1 lit' part.5 in
    let whole : path ≡ name ++ (part.0 ++ 47 ∷ after) = named.1 ∙ ap (λ l. name ++ l) (part.4 ∙ ap (λ l. part.0 ++ l) end.0) in
    let is_part : IsPart part.0 = record { some = part.3; one = All-from_recursion (λ b. (b == 47) ≡ false) part.0 part.2 } in
    subst (λ (x : Row). IsPathOf x.value (before ++ path)) end.1 (subst (λ p. IsPathOf k.value (before ++ p)) (sym whole) (is part.0 is_part))

-- behind `/re`
third : (path : List ℕ) (r : Row) → first (step 101 (step 114 (step 47 six_rows))) path ≡ Some r → IsPathOf r.value (codes "/re" ++ path)
unfolding seek
third [] r e = let f : None ≡ Some r = e in absurd (cc)
third (d ∷ path) r e = elim (decide 115 d) [
  | inl s ↦ subst (λ x. IsPathOf r.value (47 ∷ 114 ∷ 101 ∷ x ∷ path)) s (at_part (codes "/res") (codes "ources/") (codes "sheet") path _ r (refl, refl, (refl, refl, (refl, refl, (refl, refl, (refl, refl, (refl, refl, (refl, refl, tt))))))) (refl, refl, (refl, refl, (refl, refl, (refl, refl, (refl, refl, (refl, refl, tt)))))) (λ part is. (part, is, refl)) (rw (← s) at there))
  | inr no_s ↦ elim (decide 118 d) [
    | inl v ↦ subst (λ x. IsPathOf r.value (47 ∷ 114 ∷ 101 ∷ x ∷ path)) v (at_text (codes "/rev") (codes "ision") path _ r (refl, refl, (refl, refl, (refl, refl, (refl, refl, (refl, refl, tt))))) refl (rw (← v) at there))
    | inr no_v ↦ absurd (nowhere path r (rw (no_s, no_v) at there))
  ]
]
  where
    there : first (step d (step 101 (step 114 (step 47 six_rows)))) path ≡ Some r
    there = sym (step_byte (step 101 (step 114 (step 47 six_rows))) d path refl refl) ∙ e

-- behind `/r`
behind_r : (path : List ℕ) (r : Row) → first (step 114 (step 47 six_rows)) path ≡ Some r → IsPathOf r.value (codes "/r" ++ path)
unfolding seek
behind_r [] r e = let f : None ≡ Some r = e in absurd (cc)
behind_r (d ∷ path) r e = elim (decide 101 d) [
  | inl e' ↦ subst (λ x. IsPathOf r.value (47 ∷ 114 ∷ x ∷ path)) e' (third path r (rw (← e') at there))
  | inr other ↦ absurd (nowhere path r (rw other at there))
]
  where
    there : first (step d (step 114 (step 47 six_rows))) path ≡ Some r
    there = sym (step_byte (step 114 (step 47 six_rows)) d path refl refl) ∙ e

-- behind `/`
second : (path : List ℕ) (r : Row) → first (step 47 six_rows) path ≡ Some r → IsPathOf r.value (codes "/" ++ path)
unfolding seek
second [] r e = let f : None ≡ Some r = e in absurd (cc)
second (c ∷ path) r e = elim (decide 98 c) [
  | inl b ↦ subst (λ x. IsPathOf r.value (47 ∷ x ∷ path)) b (at_text (codes "/b") (codes "oard") path _ r (refl, refl, (refl, refl, (refl, refl, (refl, refl, tt)))) refl (rw (← b) at there))
  | inr no_b ↦ elim (decide 99 c) [
    | inl c' ↦ subst (λ x. IsPathOf r.value (47 ∷ x ∷ path)) c' (at_text (codes "/c") (codes "hanges") path _ r (refl, refl, (refl, refl, (refl, refl, (refl, refl, (refl, refl, (refl, refl, tt)))))) refl (rw (← c') at there))
    | inr no_c ↦ elim (decide 103 c) [
      | inl g ↦ subst (λ x. IsPathOf r.value (47 ∷ x ∷ path)) g (at_part (codes "/g") (codes "roups/") (codes "rows") path _ r (refl, refl, (refl, refl, (refl, refl, (refl, refl, (refl, refl, (refl, refl, tt)))))) (refl, refl, (refl, refl, (refl, refl, (refl, refl, (refl, refl, tt))))) (λ part is. (part, is, refl)) (rw (← g) at there))
      | inr no_g ↦ elim (decide 106 c) [
        | inl j ↦ subst (λ x. IsPathOf r.value (47 ∷ x ∷ path)) j (at_text (codes "/j") (codes "ournal") path _ r (refl, refl, (refl, refl, (refl, refl, (refl, refl, (refl, refl, (refl, refl, tt)))))) refl (rw (← j) at there))
        | inr no_j ↦ elim (decide 114 c) [
          | inl r' ↦ subst (λ x. IsPathOf r.value (47 ∷ x ∷ path)) r' (behind_r path r (rw (← r') at there))
          | inr no_r ↦ absurd (nowhere path r (rw (no_b, no_c, no_g, no_j, no_r) at there))
        ]
      ]
    ]
  ]
]
  where
    there : first (step c (step 47 six_rows)) path ≡ Some r
    there = sym (step_byte (step 47 six_rows) c path refl refl) ∙ e

pub is_path : (path : List ℕ) (r : Row) → first six_rows path ≡ Some r → IsPathOf r.value path
unfolding seek
is_path [] r e = let f : None ≡ Some r = e in absurd (cc)
is_path (b ∷ path) r e = elim (decide 47 b) [
  | inl s ↦ subst (λ x. IsPathOf r.value (x ∷ path)) s (second path r (rw (← s) at there))
  | inr other ↦ absurd (nowhere path r (rw other at there))
]
  where
    there : first (step b six_rows) path ≡ Some r
    there = sym (step_byte six_rows b path refl refl) ∙ e

-- ---- and each path of a route is found

module _ where
  all_of : (w : List ℕ) → All (λ b. (b == 47) ≡ false) w → NoSlash w
  all_of w h = recursion_from_All (λ b. (b == 47) ≡ false) w h

  behind : (before after part : List ℕ) (k : Row) → IsPart part → IsLiteral (47 ∷ after)
      → ((path : List ℕ) → first six_rows (before ++ path) ≡ first ((256 ∷ 47 ∷ after, k) ∷ []) path) → first ((47 ∷ after, k) ∷ []) (47 ∷ after) ≡ Some k
      → first six_rows (before ++ part ++ 47 ∷ after) ≡ Some k
  behind before after [] k is lit goes there = absurd (is.some refl)
  behind before after (b ∷ part) k is lit goes there =
      ap (first six_rows) (append_assoc before (b ∷ part) (47 ∷ after)) ∙ goes (b ∷ (part ++ 47 ∷ after)) ∙ part_found after k b part after (all_of (b ∷ part) is.one) lit there

pub is_found : (route : Route) (path : List ℕ) → IsPathOf route path → (r : Row) × (first six_rows path ≡ Some r)
unfolding seek param_step
is_found route.Rows path is = (_, ap (first six_rows) is.2 ∙ behind (codes "/groups/") (codes "rows") is.0 _ is.1 (refl, refl, (refl, refl, (refl, refl, (refl, refl, (refl, refl, tt))))) (λ p. walked (codes "/groups/") six_rows p (refl, refl, (refl, refl, (refl, refl, (refl, refl, (refl, refl, (refl, refl, (refl, refl, (refl, refl, tt))))))))) refl)
is_found route.Board path is = (_, ap (first six_rows) is ∙ refl)
is_found route.Sheet path is = (_, ap (first six_rows) is.2 ∙ behind (codes "/resources/") (codes "sheet") is.0 _ is.1 (refl, refl, (refl, refl, (refl, refl, (refl, refl, (refl, refl, (refl, refl, tt)))))) (λ p. walked (codes "/resources/") six_rows p (refl, refl, (refl, refl, (refl, refl, (refl, refl, (refl, refl, (refl, refl, (refl, refl, (refl, refl, (refl, refl, (refl, refl, (refl, refl, tt)))))))))))) refl)
is_found route.Journal path is = (_, ap (first six_rows) is ∙ refl)
is_found route.Revision path is = (_, ap (first six_rows) is ∙ refl)
is_found route.Changes path is = (_, ap (first six_rows) is ∙ refl)
