-- What pieces put on a minute: one piece, no piece, the pieces of two lists; and how much that can be.
use Rattle.std.proofs.Common.{◌≡◌, ℕ, ◌<◌, ◌≤◌, true, false, leb, ltb, ◌&&◌, cond, List, [], ◌∷◌, ◌++◌, fold, length, get_or, ℤ, pos, ◌+ℤ◌, refl, ◌∙◌, arith, w64, FitsSigned}
use Rattle.std.specs.Int.{int_wrap}
use Rattle.std.specs.Int.RustNames.{unsigned_abs}
use Rattle.std.proofs.lemmas.Int.{ints}
use Rattle.std.proofs.lemmas.List.Sums.{sum_by-cons, fold-append}
use Rattle.desk_spans.specs.declared.piece.Piece.{Piece}
use Rattle.desk_spans.specs.Pieces.{share, sum_at, weight_of}
use Rattle.desk_spans.proofs.Sizes.{wrapped_value}

pub share_inside : (p : Piece) (m : ℕ) → p.from ≤ m → m < p.to → share p m ≡ p.value
share_inside p m low high =
    let above : leb p.from m ≡ true = grind arith in
    let below : ltb m p.to ≡ true = grind arith in
    rw (above, below) refl

pub share_before : (p : Piece) (m : ℕ) → m < p.from → share p m ≡ pos 0
share_before p m before =
    let outside : leb p.from m ≡ false = grind arith in rw outside refl

-- behind a piece, or where it is empty
pub share_behind : (p : Piece) (m : ℕ) → p.to ≤ m → share p m ≡ pos 0
share_behind p m behind =
    let outside : ltb m p.to ≡ false = grind arith in
    rw outside (elim (leb p.from m) as (λ b. cond (b && false) p.value (pos 0) ≡ pos 0) [ true ↦ refl | false ↦ refl ])

-- a sum that begins with more has that more
sum_from : (m : ℕ) (more : ℤ) (ps : List Piece) → fold (λ sum p. sum +ℤ share p m) more ps ≡ more +ℤ sum_at ps m
sum_from m more [] = omega (arith, ints)
sum_from m more (p ∷ ps) =
    let here = sum_from m (more +ℤ share p m) ps in
    let none = sum_from m (pos 0 +ℤ share p m) ps in
    omega (arith, ints, here, none)

pub sum_at-cons : (p : Piece) (ps : List Piece) (m : ℕ) → sum_at (p ∷ ps) m ≡ share p m +ℤ sum_at ps m
sum_at-cons p ps m = let first = sum_from m (pos 0 +ℤ share p m) ps in omega (arith, ints, first)

pub sum_at-append : (ps qs : List Piece) (m : ℕ) → sum_at (ps ++ qs) m ≡ sum_at ps m +ℤ sum_at qs m
sum_at-append ps qs m = fold-append (λ sum p. sum +ℤ share p m) (pos 0) ps qs ∙ sum_from m (sum_at ps m) qs

-- what one piece puts on a minute fits where its value does
pub share-fits : (p : Piece) (m : ℕ) → FitsSigned w64 p.value → FitsSigned w64 (share p m)
share-fits p m fits =
    elim (leb p.from m && ltb m p.to) as (λ b. FitsSigned w64 (cond b p.value (pos 0))) [ true ↦ fits | false ↦ omega arith ]

-- the piece at the front, as code reads it
abbrev pub first_piece : List Piece → Piece
first_piece ps = get_or ps 0 (record { from = 0; to = 0; value = pos 0 })

-- what a piece alone puts on a minute, as 64 bits hold it
pub sum_at-alone : (ps : List Piece) (m : ℕ) → length ps ≡ 1 → FitsSigned w64 (first_piece ps).value → share (first_piece ps) m ≡ int_wrap w64 (sum_at ps m)
sum_at-alone [] m one fits = absurd (omega arith)
sum_at-alone (p ∷ q ∷ rest) m one fits = absurd (omega arith)
sum_at-alone (p ∷ []) m one fits = wrapped_value (share p m) (share-fits p m fits)

share-le : (p : Piece) (m : ℕ) → unsigned_abs (share p m) ≤ unsigned_abs p.value
share-le p m =
    elim (leb p.from m && ltb m p.to) as (λ b. unsigned_abs (cond b p.value (pos 0)) ≤ unsigned_abs p.value) [ true ↦ omega arith | false ↦ omega arith ]

-- no sum is larger than the pieces together
pub sum_at-le : (ps : List Piece) (m : ℕ) → unsigned_abs (sum_at ps m) ≤ weight_of ps
sum_at-le [] m = omega arith
sum_at-le (p ∷ ps) m =
    let one = share-le p m in
    let others = sum_at-le ps m in
    let all = sum_at-cons p ps m in
    let weight = sum_by-cons (λ (q : Piece). unsigned_abs q.value) p ps in
    omega (arith, ints, one, others, all, weight)
