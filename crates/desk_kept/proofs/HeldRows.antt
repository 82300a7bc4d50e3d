-- Kept rows that are read one after another.
use Rattle.std.proofs.Common.{◌≡◌, ℕ, ◌<◌, ◌≤◌, length, drop, get_or, drop-cons, ◌⊎◌, inl, inr, Bool, true, false, List, [], ◌∷◌, ◌++◌, Option, Some, None, ◌&&◌, ◌==◌, Result, Ok, Err, fold, refl, sym, ap, ◌∙◌, if◌then◌else◌}
use Rattle.std.specs.Prelude.{option_to_list}
use Rattle.std.proofs.lemmas.Bool.{and_parts, eqb-true}
use Rattle.std.proofs.lemmas.List.{drop_all}
use Rattle.std.proofs.lemmas.List.Sums.{fold-append}
use Rattle.desk_base.specs.declared.rows.tables.Tables.{Tables}
use Rattle.desk_base.specs.declared.rows.tables.AnyRow.{AnyRow}
use Rattle.desk_kept.specs.Stored.{place_of, is_header, table_of, row_kept, is_good, first_bad, rows_held, with_last, bad_body, unless_bad, tables_held, IsStored}
use Rattle.desk_base.specs.rows.Trial.{no_rows}
use Rattle.desk_kept.specs.declared.stored.KeptError.TheVariants.{NoMemory}
use Rattle.desk_kept.specs.declared.stored.KeptRow.{KeptRow}
use Rattle.desk_kept.specs.declared.stored.KeptError.{KeptError}
use Rattle.desk_kept.specs.declared.stored.Place.{Place}
use Rattle.desk_kept.specs.declared.versions.Version.{Version}

-- the tables with the rows that kept rows hold, or the error of the first that is bad
abbrev pub held_after : Version → Option Place → Tables → List KeptRow → Result Tables KeptError
held_after v before t [] = Ok t
held_after v before t (r ∷ rs) = if is_good v before r then held_after v (Some (place_of r)) (fold with_last t (option_to_list (row_kept v r))) rs else Err (bad_body (place_of r))

held_by : (v : Version) (t : Tables) (r : KeptRow) (rs : List KeptRow) (b : Bool) (later : Result Tables KeptError) → later ≡ unless_bad (first_bad v (Some (place_of r)) rs) (fold with_last t (rows_held v (r ∷ rs)))
    → (if b then later else Err (bad_body (place_of r))) ≡ unless_bad (if b then first_bad v (Some (place_of r)) rs else Some r) (fold with_last t (rows_held v (r ∷ rs)))
held_by v t r rs true later e = e
held_by v t r rs false later e = refl

pub held_is : (v : Version) (before : Option Place) (t : Tables) (rs : List KeptRow) → held_after v before t rs ≡ unless_bad (first_bad v before rs) (fold with_last t (rows_held v rs))
held_is v before t [] = refl
held_is v before t (r ∷ rs) =
    let here : List AnyRow = option_to_list (row_kept v r) in
    held_by v t r rs (is_good v before r) (held_after v (Some (place_of r)) (fold with_last t here) rs)
    (held_is v (Some (place_of r)) (fold with_last t here) rs ∙ ap (unless_bad (first_bad v (Some (place_of r)) rs)) (sym (fold-append with_last t here (rows_held v rs))))

-- ---- the header holds no row

header_kind : (r : KeptRow) → is_header r ≡ true → r.kind ≡ 20
header_kind r e =
    let p = and_parts ((r.kind == 20) && (r.a == 0) && (r.b == 0)) (r.c == 0) e in
    let q = and_parts ((r.kind == 20) && (r.a == 0)) (r.b == 0) p.0 in
    eqb-true r.kind 20 (and_parts (r.kind == 20) (r.a == 0) q.0).0

no_table : (v : Version) (r : KeptRow) → r.kind ≡ 20 → row_kept v r ≡ None
unfolding row_kept table_of
no_table v r e = rw e refl

pub header_holds_none : (v : Version) (r : KeptRow) (t : Tables) → is_header r ≡ true → t ≡ fold with_last t (option_to_list (row_kept v r))
header_holds_none v r t e = rw (no_table v r (header_kind r e)) refl

-- ---- where the reading ends

ended : (v : Version) (before : Option Place) (t : Tables) (rows : List KeptRow) (i : ℕ) → length rows ≤ i → held_after v before t (drop i rows) ≡ Ok t
ended v before t rows i past = rw (drop_all i rows past) refl

pub all_read : (v : Version) (before : Option Place) (t : Tables) (rows : List KeptRow) (i : ℕ) → length rows ≤ i → held_after v None no_rows rows ≡ held_after v before t (drop i rows) → tables_held v rows ≡ Ok t
all_read v before t rows i past so_far = sym (held_is v None no_rows rows) ∙ so_far ∙ ended v before t rows i past

stopped : (v : Version) (before : Option Place) (t : Tables) (rows : List KeptRow) (i : ℕ) (r : KeptRow) → i < length rows → r ≡ get_or rows i r → is_good v before r ≡ false → held_after v before t (drop i rows) ≡ Err (bad_body (place_of r))
stopped v before t rows i r within is bad = rw (drop-cons rows i r, ← is, bad) refl

pub refused : (v : Version) (before : Option Place) (t : Tables) (rows : List KeptRow) (i : ℕ) (r : KeptRow) (why : KeptError) → i < length rows → r ≡ get_or rows i r → held_after v None no_rows rows ≡ held_after v before t (drop i rows)
    → ((is_good v before r ≡ false) × (why ≡ bad_body (place_of r))) ⊎ (why ≡ NoMemory) → IsStored (tables_held v rows) (Err why)
refused v before t rows i r why within is so_far (inl bad) = inl (sym (held_is v None no_rows rows) ∙ so_far ∙ stopped v before t rows i r within is bad.0 ∙ ap (λ e. Err e) (sym bad.1))
refused v before t rows i r why within is so_far (inr none) = inr none
