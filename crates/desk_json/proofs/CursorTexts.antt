-- The text of a cursor has digits, points, dashes and underlines alone, and is the text of no other cursor.
use Rattle.std.proofs.Common.{◌≡◌, ◌≢◌, ℕ, ◌<◌, ◌^◌, ◌⊎◌, false, ◌==◌, List, [], ◌∷◌, ◌++◌, map, get_or, decimal, All, Option, Some, None, refl, sym, ap, ◌∙◌, inl, inr, arith}
use Rattle.std.specs.List.{slice_split}
use Rattle.std.proofs.lemmas.List.Elements.{All-nil, All-head, All-tail}
use Rattle.std.proofs.lemmas.Fmt.{decimal_injective, digits_decimal, decimal_nonempty}
use Rattle.std.proofs.lemmas.Str.Parse.{not_in_digits}
use Rattle.desk_base.specs.declared.search.results.Cursor.{Cursor}
use Rattle.desk_json.specs.Cursors.{pick_text, further_pick, picks_text, head_text, cursor_text}
use Rattle.desk_json.specs.CursorReading.{IsPick, IsShown, IsCursor, cursor_pieces, shown_pieces, pieces_of_head}
use Rattle.desk_json.proofs.DecimalLemmas.{own}
use Rattle.desk_json.proofs.PieceLemmas.{Lacks, decimal_lacks, one_lacks, both_lack}
use Rattle.desk_json.proofs.CursorLemmas.{is_point, is_underline, head_lacks, pieces_of_text, pieces_of_cursor}

-- Bytes that are not in it.

pick_lacks : (b : ℕ) (pick : Option ℕ) → (b < 45) ⊎ (57 < b) → IsPick pick → Lacks b (pick_text pick)
pick_lacks b (Some resource) far is = decimal_lacks b resource (omega (arith, is)) (elim far [ inl low ↦ inl (omega arith) | inr high ↦ inr high ])
pick_lacks b None far is = one_lacks b 45 (λ e. omega (arith, far, e))

picks_lack : (b : ℕ) (picks : List (Option ℕ)) → (b < 45) ⊎ (57 < b) → All IsPick picks → Lacks b (picks_text picks)
picks_lack b [] far each = All-nil (λ x. (x == b) ≡ false)
picks_lack b (pick ∷ picks) far each =
    both_lack b (further_pick pick) (picks_text picks)
    (both_lack b (46 ∷ []) (pick_text pick) (one_lacks b 46 (λ e. omega (arith, far, e))) (pick_lacks b pick far (All-head IsPick pick picks each)))
    (picks_lack b picks far (All-tail IsPick pick picks each))

pub cursor_lacks : (b : ℕ) (c : Cursor) → (b < 45) ⊎ (57 < b) → b ≢ 95 → IsCursor c → Lacks b (cursor_text c)
unfolding cursor_text
cursor_lacks b c far differs is =
    let no_digit : (b < 48) ⊎ (57 < b) = elim far [ inl low ↦ inl (omega arith) | inr high ↦ inr high ] in
    let head = head_lacks b c.revision c.shown no_digit differs is.revision is.shown in
    let start = decimal_lacks b c.position.start (omega (arith, is.start)) no_digit in
    let front = both_lack b (head_text c.revision c.shown) (46 ∷ []) head (one_lacks b 46 (λ e. omega (arith, far, e))) in
    both_lack b (head_text c.revision c.shown ++ 46 ∷ [] ++ decimal c.position.start) (picks_text c.position.picks)
    (both_lack b (head_text c.revision c.shown ++ 46 ∷ []) (decimal c.position.start) front start)
    (picks_lack b c.position.picks far is.picks.each)

-- One cursor for a text.

no_dash : (n : ℕ) → n < 2 ^ 64 → decimal n ≢ 45 ∷ []
no_dash n small e = not_in_digits own (decimal n) 45 (digits_decimal own n small) (λ r. omega (arith, r)) 0 (decimal_nonempty n small) (ap (λ t. get_or t 0 0) e)

pick_same : (p q : Option ℕ) → IsPick p → IsPick q → pick_text p ≡ pick_text q → p ≡ q
pick_same (Some m) (Some n) i j e = ap (λ x. Some x) (decimal_injective m n (omega (arith, i)) (omega (arith, j)) e)
pick_same (Some m) None i j e = absurd (no_dash m (omega (arith, i)) e)
pick_same None (Some n) i j e = absurd (no_dash n (omega (arith, j)) (sym e))
pick_same None None i j e = refl

picks_same : (ps qs : List (Option ℕ)) → All IsPick ps → All IsPick qs → map pick_text ps ≡ map pick_text qs → ps ≡ qs
picks_same [] [] i j e = refl
picks_same [] (q ∷ qs) i j e = cc
picks_same (p ∷ ps) [] i j e = cc
picks_same (p ∷ ps) (q ∷ qs) i j e =
    let texts : pick_text p ≡ pick_text q = cc in
    let others : map pick_text ps ≡ map pick_text qs = cc in
    let one : p ≡ q = pick_same p q (All-head IsPick p ps i) (All-head IsPick q qs j) texts in
    let rest : ps ≡ qs = picks_same ps qs (All-tail IsPick p ps i) (All-tail IsPick q qs j) others in
    cc

shown_same : (m n : Option ℕ) → IsShown m → IsShown n → shown_pieces m ≡ shown_pieces n → m ≡ n
shown_same (Some m) (Some n) i j e = ap (λ x. Some x) (decimal_injective m n (omega (arith, i)) (omega (arith, j)) (let one : decimal m ≡ decimal n = cc in one))
shown_same (Some m) None i j e = cc
shown_same None (Some n) i j e = cc
shown_same None None i j e = refl

abbrev cursor_of : ℕ → Option ℕ → ℕ → List (Option ℕ) → Cursor
cursor_of revision shown start picks = record { revision = revision; shown = shown; position = record { start = start; picks = picks } }

pub cursor_same : (c d : Cursor) → IsCursor c → IsCursor d → cursor_text c ≡ cursor_text d → c ≡ d
cursor_same c d i j e =
    let pieces : cursor_pieces c ≡ cursor_pieces d = sym (pieces_of_cursor c i) ∙ ap (slice_split is_point) e ∙ pieces_of_cursor d j in
    let heads : head_text c.revision c.shown ≡ head_text d.revision d.shown = cc in
    let parts : pieces_of_head (c.revision, c.shown) ≡ pieces_of_head (d.revision, d.shown) =
    sym (pieces_of_text c.revision c.shown i.revision i.shown) ∙ ap (slice_split is_underline) heads ∙ pieces_of_text d.revision d.shown j.revision j.shown in
    let revisions : decimal c.revision ≡ decimal d.revision = cc in
    let rows : shown_pieces c.shown ≡ shown_pieces d.shown = cc in
    let shown : c.shown ≡ d.shown = shown_same c.shown d.shown i.shown j.shown rows in
    let starts : decimal c.position.start ≡ decimal d.position.start = cc in
    let picks : map pick_text c.position.picks ≡ map pick_text d.position.picks = cc in
    let revision : c.revision ≡ d.revision = decimal_injective c.revision d.revision (omega (arith, i.revision)) (omega (arith, j.revision)) revisions in
    let start : c.position.start ≡ d.position.start = decimal_injective c.position.start d.position.start (omega (arith, i.start)) (omega (arith, j.start)) starts in
    let picks : c.position.picks ≡ d.position.picks = picks_same c.position.picks d.position.picks i.picks.each j.picks.each picks in
    ap (λ x. cursor_of x c.shown c.position.start c.position.picks) revision
    ∙ ap (λ x. cursor_of d.revision x c.position.start c.position.picks) shown
    ∙ ap (λ x. cursor_of d.revision d.shown x c.position.picks) start ∙ ap (λ x. cursor_of d.revision d.shown d.position.start x) picks
