-- The front of the bytes stays when bytes follow, or grows where there is room.
use Rattle.std.proofs.Common.{◌≡◌, ℕ, zero, suc, ◌+◌, ◌-◌, ◌<◌, ◌≤◌, ◌⊎◌, inl, inr, Bool, true, false, List, [], ◌∷◌, ◌++◌, length, take, drop, get_or, min, refl, sym, ap, ◌∙◌, arith, append-nil, append_assoc, if◌then◌else◌, ◌==◌, take-append-drop, add-one, eq-eqb}
use Rattle.std.proofs.lemmas.Bool.{ne_eqb}
use Rattle.std.proofs.lemmas.List.{take-append-le, take_more, take_all, drop_all, length-take, length-take-le}
use Rattle.std.proofs.Math.Seq.{drop-cons}
use Rattle.desk_wire.specs.Limits.{most_head_bytes, most_head_lines}
use Rattle.desk_wire.specs.Front.{line_feeds, through, front}

pub line_feeds-append : (xs ys : List ℕ) → line_feeds (xs ++ ys) ≡ line_feeds xs + line_feeds ys
line_feeds-append [] ys = omega arith
line_feeds-append (x ∷ xs) ys = let h = line_feeds-append xs ys in omega arith

pub line_feeds-take : (n : ℕ) (xs : List ℕ) → line_feeds (take n xs) ≤ line_feeds xs
line_feeds-take zero xs = omega arith
line_feeds-take (suc n) [] = omega arith
line_feeds-take (suc n) (x ∷ xs) = let h = line_feeds-take n xs in omega arith

pub line_feeds-push : (xs : List ℕ) (i : ℕ) → i < length xs → line_feeds (take (i + 1) xs) ≡ line_feeds (take i xs) + (if get_or xs i 0 == 10 then 1 else 0)
line_feeds-push xs i within =
    let e = ap line_feeds (take_more xs i 0 within) in
    let h = line_feeds-append (take i xs) (get_or xs i 0 ∷ []) in
    e ∙ h ∙ (omega arith)

pub through-append : (n : ℕ) (bytes more : List ℕ) → (rest : List ℕ) × (through n (bytes ++ more) ≡ through n bytes ++ rest)
through-append zero bytes more = ([], refl)
through-append (suc n) [] more = (through (suc n) more, refl)
through-append (suc n) (b ∷ bytes) more =
    let h = through-append (if b == 10 then n else suc n) bytes more in (h.0, ap (λ l. b ∷ l) h.1)

feeds_at : (n b : ℕ) (bytes : List ℕ) (same : Bool) → line_feeds (through n bytes) ≤ n → line_feeds (through (suc n) bytes) ≤ suc n
    → (if same then 1 else 0) + line_feeds (through (if same then n else suc n) bytes) ≤ suc n
feeds_at n b bytes true h k = omega arith
feeds_at n b bytes false h k = omega arith

pub feeds-through : (n : ℕ) (bytes : List ℕ) → line_feeds (through n bytes) ≤ n
feeds-through zero bytes = omega arith
feeds-through (suc n) [] = omega arith
feeds-through (suc n) (b ∷ bytes) = feeds_at n b bytes (b == 10) (feeds-through n bytes) (feeds-through (suc n) bytes)

full_at : (n : ℕ) (b : ℕ) (bytes more : List ℕ) (same : Bool)
    → ((line_feeds (through n bytes) ≡ n) → through n (bytes ++ more) ≡ through n bytes)
    → ((line_feeds (through (suc n) bytes) ≡ suc n) → through (suc n) (bytes ++ more) ≡ through (suc n) bytes)
    → (if same then 1 else 0) + line_feeds (through (if same then n else suc n) bytes) ≡ suc n
    → b ∷ through (if same then n else suc n) (bytes ++ more) ≡ b ∷ through (if same then n else suc n) bytes
full_at n b bytes more true h k e = ap (λ l. b ∷ l) (h (omega arith))
full_at n b bytes more false h k e = ap (λ l. b ∷ l) (k (omega arith))

-- with its last line feed there, it stays
pub through-full : (n : ℕ) (bytes more : List ℕ) → line_feeds (through n bytes) ≡ n → through n (bytes ++ more) ≡ through n bytes
through-full zero bytes more e = refl
through-full (suc n) [] more e = absurd (omega arith)
through-full (suc n) (b ∷ bytes) more e =
    full_at n b bytes more (b == 10) (through-full n bytes more) (through-full (suc n) bytes more) e

pub through-prefix : (n : ℕ) (bytes : List ℕ) → (rest : List ℕ) × (bytes ≡ through n bytes ++ rest)
through-prefix zero bytes = (bytes, refl)
through-prefix (suc n) [] = ([], refl)
through-prefix (suc n) (b ∷ bytes) =
    let h = through-prefix (if b == 10 then n else suc n) bytes in (h.0, ap (λ l. b ∷ l) h.1)

pub take_grows : (n : ℕ) (xs ys : List ℕ) → (rest : List ℕ) × (take n (xs ++ ys) ≡ take n xs ++ rest)
take_grows zero xs ys = ([], refl)
take_grows (suc n) [] ys = (take (suc n) ys, refl)
take_grows (suc n) (x ∷ xs) ys = let h = take_grows n xs ys in (h.0, ap (λ l. x ∷ l) h.1)

pub front-append : (bytes more : List ℕ) → (rest : List ℕ) × (front (bytes ++ more) ≡ front bytes ++ rest)
unfolding front
front-append bytes more =
    let h = through-append most_head_lines bytes more in
    let k = take_grows most_head_bytes (through most_head_lines bytes) h.0 in
    (k.0, ap (take most_head_bytes) h.1 ∙ k.1)

pub front_lines : (bytes : List ℕ) → line_feeds (front bytes) ≤ most_head_lines
unfolding front
front_lines bytes =
    let h = line_feeds-take most_head_bytes (through most_head_lines bytes) in
    let k = feeds-through most_head_lines bytes in
    omega arith

pub front_bytes : (bytes : List ℕ) → length (front bytes) ≤ most_head_bytes
unfolding front
front_bytes bytes = omega (arith, length-take most_head_bytes (through most_head_lines bytes))

-- with as many line feeds as a head may have it stays
pub front-full_lines : (bytes more : List ℕ) → line_feeds (front bytes) ≡ most_head_lines → front (bytes ++ more) ≡ front bytes
unfolding front
front-full_lines bytes more e =
    let h = line_feeds-take most_head_bytes (through most_head_lines bytes) in
    let k = feeds-through most_head_lines bytes in
    ap (take most_head_bytes) (through-full most_head_lines bytes more (omega arith))

-- with as many bytes as a head may have it stays
pub front-full_bytes : (bytes more : List ℕ) → length (front bytes) ≡ most_head_bytes → front (bytes ++ more) ≡ front bytes
unfolding front
front-full_bytes bytes more e =
    let h = through-append most_head_lines bytes more in
    let len = length-take most_head_bytes (through most_head_lines bytes) in
    let few : most_head_bytes ≤ length (through most_head_lines bytes) = omega arith in
    ap (take most_head_bytes) h.1 ∙ take-append-le most_head_bytes (through most_head_lines bytes) h.0 few

step_at : (b : ℕ) (xs : List ℕ) (left : ℕ) (before all : List ℕ) (same : Bool) → 0 < left
    → all ≡ before ++ through left (b ∷ xs) → same ≡ (b == 10)
    → all ≡ (before ++ b ∷ []) ++ through (if same then left - 1 else left) xs
step_at b xs zero before all same some e is = absurd (omega arith)
step_at b xs (suc left) before all same some e is =
    let less : suc left - 1 ≡ left = omega arith in
    rw less (e ∙ ap (λ s. before ++ b ∷ through (if s then left else suc left) xs) (sym is)
    ∙ sym (append_assoc before (b ∷ []) (through (if same then left else suc left) xs)))

-- one byte more
pub through-more : (all xs : List ℕ) (i left : ℕ) → i < length xs → 0 < left
    → all ≡ take i xs ++ through left (drop i xs)
    → all ≡ take (i + 1) xs ++ through (if get_or xs i 0 == 10 then left - 1 else left) (drop (i + 1) xs)
through-more all xs i left within some e =
    let cut : drop i xs ≡ get_or xs i 0 ∷ drop (i + 1) xs = rw add-one (drop-cons xs i 0 within) in
    let now : all ≡ take i xs ++ through left (get_or xs i 0 ∷ drop (i + 1) xs) = e ∙ ap (λ l. take i xs ++ through left l) cut in
    step_at (get_or xs i 0) (drop (i + 1) xs) left (take i xs) all (get_or xs i 0 == 10) some now refl
    ∙ ap (λ l. l ++ through (if get_or xs i 0 == 10 then left - 1 else left) (drop (i + 1) xs)) (sym (take_more xs i 0 within))

-- the last line feed was found
pub front_at_line : (xs : List ℕ) (i : ℕ) → i ≤ length xs → i ≤ most_head_bytes → through most_head_lines xs ≡ take i xs ++ [] → take i xs ≡ front xs
unfolding front
front_at_line xs i within few e =
    let e' : through most_head_lines xs ≡ take i xs = e ∙ append-nil (take i xs) in
    let len = length-take i xs in
    sym (ap (take most_head_bytes) e' ∙ take_all most_head_bytes (take i xs) (omega arith))

through_none : (left : ℕ) → through left [] ≡ []
through_none zero = refl
through_none (suc n) = refl

-- the bytes or the room ended
pub front_at_end : (xs : List ℕ) (i left : ℕ) → i ≡ min (length xs) most_head_bytes → through most_head_lines xs ≡ take i xs ++ through left (drop i xs) → take i xs ≡ front xs
unfolding front
front_at_end xs i left is e = elim (short_or_long i (length xs) is) as (λ _. take i xs ≡ take most_head_bytes (through most_head_lines xs)) [
  | inl short ↦
      let none : drop i xs ≡ [] = drop_all i xs short in
      front_at_line xs i (omega arith) (omega arith) (e ∙ ap (λ l. take i xs ++ through left l) none ∙ ap (λ l. take i xs ++ l) (through_none left))
  | inr long ↦
      let len = length-take-le i xs (omega arith) in
      sym (ap (take most_head_bytes) e ∙ take-append-le most_head_bytes (take i xs) (through left (drop i xs)) (omega arith)
      ∙ take_all most_head_bytes (take i xs) (omega arith))
] where
  short_or_long : (i n : ℕ) → i ≡ min n most_head_bytes → (n ≤ i) ⊎ ((i ≡ most_head_bytes) × (i ≤ n))
  short_or_long i n e = grind arith

pub through-line : (all xs : List ℕ) (i left : ℕ) → i < length xs → 0 < left → get_or xs i 0 ≡ 10
    → all ≡ take i xs ++ through left (drop i xs) → all ≡ take (i + 1) xs ++ through (left - 1) (drop (i + 1) xs)
through-line all xs i left within some is e =
    through-more all xs i left within some e ∙ ap (λ b. take (i + 1) xs ++ through (if b then left - 1 else left) (drop (i + 1) xs)) (eq-eqb (get_or xs i 0) 10 is)

pub through-other : (all xs : List ℕ) (i left : ℕ) → i < length xs → 0 < left → (get_or xs i 0 ≡ 10 → ⊥)
    → all ≡ take i xs ++ through left (drop i xs) → all ≡ take (i + 1) xs ++ through left (drop (i + 1) xs)
through-other all xs i left within some is e =
    through-more all xs i left within some e ∙ ap (λ b. take (i + 1) xs ++ through (if b then left - 1 else left) (drop (i + 1) xs)) (ne_eqb (get_or xs i 0) 10 is)

pub take_prefix : (n : ℕ) (xs : List ℕ) → (rest : List ℕ) × (xs ≡ take n xs ++ rest)
take_prefix n xs = (drop n xs, sym (take-append-drop n xs))

pub front_prefix : (bytes : List ℕ) → (rest : List ℕ) × (bytes ≡ front bytes ++ rest)
unfolding front
front_prefix bytes =
    let a = through-prefix most_head_lines bytes in
    let b = take_prefix most_head_bytes (through most_head_lines bytes) in
    (b.0 ++ a.0, a.1 ∙ ap (λ l. l ++ a.0) b.1 ∙ append_assoc (take most_head_bytes (through most_head_lines bytes)) b.0 a.0)
