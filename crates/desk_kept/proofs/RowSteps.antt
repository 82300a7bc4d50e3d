-- Rows and tables that are gone over one after another.
use Rattle.std.proofs.Common.{◌≡◌, ℕ, ◌+◌, ◌<◌, List, [], ◌∷◌, ◌++◌, map, length, take, get_or, All, sym, ap, ◌∙◌, subst}
use Rattle.std.specs.Prelude.{flat_map}
use Rattle.std.proofs.lemmas.List.{map-append, length-map, get_or-map, take_more, flat_map_more}

-- what holds of all mapped items holds of the next
pub next_mapped : {X Y : Type 0} (P : Y → Type 0) (f : X → Y) (xs seen : List X) → seen ≡ xs → (i : ℕ) (x : X) → i < length seen → x ≡ get_or seen i x → All P (map f xs) → P (f x)
next_mapped P f xs seen same i x within is all =
    let inside : i < length xs = subst (λ l. i < length l) same within in
    let here : f x ≡ get_or (map f xs) i (f x) = ap f (subst (λ l. x ≡ get_or l i x) same is) ∙ sym (get_or-map f xs i x (f x) inside) in
    subst P (sym here) (all i (f x) (subst (λ n. i < n) (sym (length-map xs f)) inside))

-- one table more
pub one_table : {X Y Z : Type 0} (rows : X → List Y) (f : Y → Z) (ds : List X) (i : ℕ) (e : X) (before after : List Z) → i < length ds → before ≡ map f (flat_map rows (take i ds)) → after ≡ before ++ map f (rows (get_or ds i e))
    → after ≡ map f (flat_map rows (take (i + 1) ds))
one_table {X = X} rows f ds i e before after within so_far more =
    let d : X = get_or ds i e in
    let joined : flat_map rows (take i ds) ++ rows d ≡ flat_map rows (take (i + 1) ds) = flat_map_more rows [] (take i ds) d ∙ ap (flat_map rows) (sym (take_more ds i e within)) in
    more ∙ ap (λ l. l ++ map f (rows d)) so_far ∙ sym (map-append f (flat_map rows (take i ds)) (rows d)) ∙ ap (map f) joined
