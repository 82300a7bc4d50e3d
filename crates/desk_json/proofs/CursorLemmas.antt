-- A text is a cursor's text exactly where its pieces between points are the cursor's pieces.
use Rattle.std.proofs.Common.{◌≡◌, ◌≢◌, ◌⊎◌, ℕ, ◌<◌, ◌≤◌, ◌^◌, Bool, false, ◌==◌, List, [], ◌∷◌, ◌++◌, map, length, get_or, decimal, All, Option, Some, None, Result, Ok, Err, IsErrAnd, Bor, refl, sym, ap, subst, ◌∙◌, inl, inr, arith}
use Rattle.std.specs.List.{slice_split}
use Rattle.std.proofs.lemmas.List.{append_assoc, append-nil, get_or-map, length-map}
use Rattle.std.proofs.lemmas.List.Elements.{All-nil, All-cons, All-head, All-tail}
use Rattle.std.proofs.lemmas.List.Splits.{slice_split_none, slice_split_at}
use Rattle.desk_base.specs.rules.Limits.{revision_limit}
use Rattle.desk_base.specs.declared.search.results.Cursor.{Cursor}
use Rattle.desk_json.specs.Cursors.{pick_text, picks_text, shown_text, head_text, cursor_text}
use Rattle.desk_json.specs.declared.cursor_reading.CursorError.{CursorError}
use Rattle.desk_json.specs.declared.cursor_reading.CursorError.TheVariants.{BadCursor, NoMemory}
use Rattle.desk_json.specs.CursorReading.{IsPick, IsShown, IsCursor, IsHead, IsReading, cursor_pieces, text_of_head, pieces_of_head}
use Rattle.desk_json.proofs.PieceLemmas.{Lacks, decimal_lacks, one_lacks, both_lack, same_pieces}

abbrev pub is_point : ℕ → Bool
is_point b = b == 46

no_point_in_decimal : (n : ℕ) → n < 2 ^ 64 → All (λ b. is_point b ≡ false) (decimal n)
no_point_in_decimal n small = decimal_lacks 46 n small (inl (omega arith))

no_point_in_pick : (pick : Option ℕ) → IsPick pick → All (λ b. is_point b ≡ false) (pick_text pick)
no_point_in_pick (Some resource) is = no_point_in_decimal resource (omega (arith, is))
no_point_in_pick None is = All-cons (λ b. is_point b ≡ false) 45 [] refl (λ k d within. absurd (omega arith))

-- ---- heads

abbrev pub is_underline : ℕ → Bool
is_underline b = b == 95

no_underline_in_decimal : (n : ℕ) → n < 2 ^ 64 → All (λ b. is_underline b ≡ false) (decimal n)
no_underline_in_decimal n small = decimal_lacks 95 n small (inr (omega arith))

shown_lacks : (b : ℕ) (shown : Option ℕ) → (b < 48) ⊎ (57 < b) → b ≢ 95 → IsShown shown → Lacks b (shown_text shown)
shown_lacks b (Some shown) no_digit differs is = both_lack b (95 ∷ []) (decimal shown) (one_lacks b 95 (λ e. differs (sym e))) (decimal_lacks b shown (omega (arith, is)) no_digit)
shown_lacks b None no_digit differs is = All-nil (λ x. (x == b) ≡ false)

pub head_lacks : (b revision : ℕ) (shown : Option ℕ) → (b < 48) ⊎ (57 < b) → b ≢ 95 → revision ≤ revision_limit → IsShown shown → Lacks b (head_text revision shown)
head_lacks b revision shown no_digit differs small is =
    both_lack b (decimal revision) (shown_text shown) (decimal_lacks b revision (omega (arith, small)) no_digit) (shown_lacks b shown no_digit differs is)

pub pieces_of_text : (revision : ℕ) (shown : Option ℕ) → revision ≤ revision_limit → IsShown shown → slice_split is_underline (head_text revision shown) ≡ pieces_of_head (revision, shown)
pieces_of_text revision (Some shown) small is =
    slice_split_at is_underline (decimal revision) 95 (decimal shown) (no_underline_in_decimal revision (omega (arith, small))) refl
    ∙ ap (λ pieces. decimal revision ∷ pieces) (slice_split_none is_underline (decimal shown) (no_underline_in_decimal shown (omega (arith, is))))
pieces_of_text revision None small is = rw append-nil (slice_split_none is_underline (decimal revision) (no_underline_in_decimal revision (omega (arith, small))))

-- ---- picks

pieces_of_picks : (front : List ℕ) (picks : List (Option ℕ)) → All (λ b. is_point b ≡ false) front → All IsPick picks → slice_split is_point (front ++ picks_text picks) ≡ front ∷ map pick_text picks
pieces_of_picks front [] free each = rw append-nil (slice_split_none is_point front free)
pieces_of_picks front (pick ∷ picks) free each =
    slice_split_at is_point front 46 (pick_text pick ++ picks_text picks) free refl
    ∙ ap (λ pieces. front ∷ pieces) (pieces_of_picks (pick_text pick) picks (no_point_in_pick pick (All-head IsPick pick picks each)) (All-tail IsPick pick picks each))

pub pieces_of_cursor : (c : Cursor) → IsCursor c → slice_split is_point (cursor_text c) ≡ cursor_pieces c
unfolding cursor_text
pieces_of_cursor c is =
    let head : List ℕ = head_text c.revision c.shown in
    let whole : cursor_text c ≡ head ++ 46 ∷ (decimal c.position.start ++ picks_text c.position.picks) =
    ap (λ t. t ++ picks_text c.position.picks) (append_assoc head (46 ∷ []) (decimal c.position.start)) ∙ append_assoc head (46 ∷ decimal c.position.start) (picks_text c.position.picks) in
    ap (slice_split is_point) whole
    ∙ slice_split_at is_point head 46 (decimal c.position.start ++ picks_text c.position.picks) (head_lacks 46 c.revision c.shown (inl (omega arith)) (λ e. omega (arith, e)) is.revision is.shown) refl
    ∙ ap (λ pieces. head ∷ pieces) (pieces_of_picks (decimal c.position.start) c.position.picks (no_point_in_decimal c.position.start (omega (arith, is.start))) is.picks.each)

no_such_piece : (e : CursorError) (pieces : List (List ℕ)) (i : ℕ) → i < length pieces → IsReading IsPick pick_text (get_or pieces i []) (Err e) → IsReading (All IsPick) (map pick_text) pieces (Err e)
no_such_piece BadCursor pieces i within h = λ picks each f.
    let long : i < length picks = omega (arith, length-map picks pick_text, ap length f) in
    h (get_or picks i None) (each i None long) (ap (λ texts. get_or texts i []) f ∙ get_or-map pick_text picks i None [] long)
no_such_piece NoMemory pieces i within h = tt

-- no picks have a piece that is the text of no pick
pub bad_piece : (e : CursorError) (pieces : List (Bor (List ℕ))) (i : ℕ) (d : Bor (List ℕ)) (r : Result (List (Option ℕ)) CursorError) → i < length pieces → IsReading IsPick pick_text (get_or pieces i d).now (Err e) → IsErrAnd r (λ y. y ≡ e) → IsReading (All IsPick) (map pick_text) (map (λ piece. piece.now) pieces) r
bad_piece e pieces i d (Ok picks) within h is = absurd is
bad_piece e pieces i d (Err y) within h is =
    let now : Bor (List ℕ) → List ℕ = λ piece. piece.now in
    rw is (no_such_piece e (map now pieces) i (omega (arith, length-map pieces now)) (subst (λ (text : List ℕ). IsReading IsPick pick_text text (Err e)) (sym (get_or-map now pieces i d [] within)) h))

-- no cursor has a head that does not read
bad_head : (e : CursorError) (head start : List ℕ) (picks : List (List ℕ)) → IsReading IsHead text_of_head head (Err e) → IsReading IsCursor cursor_pieces (head ∷ start ∷ picks) (Err e)
bad_head BadCursor head start picks h = λ c is f. h (c.revision, c.shown) (record { revision = is.revision; shown = is.shown }) (let same : head ≡ head_text c.revision c.shown = cc in same)
bad_head NoMemory head start picks h = tt

-- nor pieces that begin with one
pub bad_front : (e : CursorError) (pieces : List (Bor (List ℕ))) (d : Bor (List ℕ)) (r : Result Cursor CursorError) → 2 ≤ length pieces → IsReading IsHead text_of_head (get_or pieces 0 d).now (Err e) → IsErrAnd r (λ y. y ≡ e) → IsReading IsCursor cursor_pieces (map (λ piece. piece.now) pieces) r
bad_front e pieces d (Ok c) long h is = absurd is
bad_front e [] d (Err y) long h is = absurd (omega arith)
bad_front e (head ∷ []) d (Err y) long h is = absurd (omega arith)
bad_front e (head ∷ start ∷ picks) d (Err y) long h is = rw is (bad_head e head.now start.now (map (λ piece. piece.now) picks) h)

-- what the pieces of a head read as is what its text reads as
pub whole_head : (text : List ℕ) (r : Result (ℕ × Option ℕ) CursorError) → IsReading IsHead pieces_of_head (slice_split is_underline text) r → IsReading IsHead text_of_head text r
whole_head text (Ok head) h = (h.0, same_pieces 95 text (text_of_head head) (h.1 ∙ sym (pieces_of_text head.0 head.1 h.0.revision h.0.shown)))
whole_head text (Err BadCursor) h = λ head is f. h head is (ap (slice_split is_underline) f ∙ pieces_of_text head.0 head.1 is.revision is.shown)
whole_head text (Err NoMemory) h = tt

-- what the pieces read as is what the text reads as
pub whole_reading : (text : List ℕ) (r : Result Cursor CursorError) → IsReading IsCursor cursor_pieces (slice_split is_point text) r → IsReading IsCursor cursor_text text r
whole_reading text (Ok c) h = (h.0, same_pieces 46 text (cursor_text c) (h.1 ∙ sym (pieces_of_cursor c h.0)))
whole_reading text (Err BadCursor) h = λ c is f. h c is (ap (slice_split is_point) f ∙ pieces_of_cursor c is)
whole_reading text (Err NoMemory) h = tt
