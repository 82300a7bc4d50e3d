-- The text of a page is the text of no other page, and of no other revision.
use Rattle.std.proofs.Common.{◌≡◌, ℕ, ◌≤◌, Bool, List, [], ◌∷◌, map, decimal, All, Option, Some, None, refl, sym, ap, ◌∙◌, subst, arith}
use Rattle.std.proofs.lemmas.Fmt.{decimal_injective}
use Rattle.std.proofs.lemmas.List.Elements.{All-head, All-tail}
use Rattle.json.specs.Json as json
use Rattle.json.specs.Json.{document}
use Rattle.json.specs.Tree.{HasNumbers, ItemsHaveNumbers, depth, items_depth}
use Rattle.json.proofs.Found.{Some_inj}
use Rattle.json.proofs.Printed.Decimals.{IsNumber-decimal}
use Rattle.json.proofs.Printed.Trees.{document-print}
use Rattle.serde_json.specs.Data.{Data}
use Rattle.serde_json.specs.View.{items_of}
use Rattle.serde_json.specs.Written.{outline, items_outline, compact_text}
use Rattle.serde_json.proofs.Texts.{print-outline}
use Rattle.desk_base.specs.declared.search.results.Cursor.{Cursor}
use Rattle.desk_base.specs.declared.search.results.Found.{Found}
use Rattle.desk_base.specs.declared.search.results.Position.{Position}
use Rattle.desk_base.specs.declared.search.results.Page.{Page}
use Rattle.desk_time.specs.Limits.{IsMoment}
use Rattle.desk_time.specs.Moments.{IsMomentText, moment_text}
use Rattle.desk_time.proofs.MomentTexts.{moment_text-is, moment_text-one_moment}
use Rattle.desk_json.specs.Values.{number_or_null}
use Rattle.desk_json.specs.Cursors.{cursor_text}
use Rattle.desk_json.specs.CursorReading.{IsPick}
use Rattle.desk_json.specs.Pages.{row_data, next_data, page_data}
use Rattle.desk_json.specs.AnsweredPages.{IsRow, IsNext, IsAnswered, told_shown, told}
use Rattle.desk_json.proofs.CursorTexts.{cursor_same}

-- ---- A text is read back as what it was printed from.

-- it can be printed and read back, with so many levels
abbrev Fits : ℕ → json.Json → Type 0
Fits n j = HasNumbers j × (depth j ≤ n)

read_back : (d : Data) → Fits json.max_depth (outline d) → document (compact_text d) ≡ Some (outline d)
read_back d fits = ap document (sym (print-outline d)) ∙ document-print (outline d) fits.0 fits.1

one_outline : (d e : Data) → Fits json.max_depth (outline d) → Fits json.max_depth (outline e) → compact_text d ≡ compact_text e → outline d ≡ outline e
one_outline d e i j same = Some_inj (outline d) (outline e) (sym (read_back d i) ∙ ap document same ∙ read_back e j)

-- ---- Lists of values, each the data of an element.

abbrev outlines : {A : Type 0} → (A → Data) → List A → json.Items
outlines data_of xs = items_outline (items_of (map data_of xs))

module _ {A : Type 0} (Is : A → Type 0) (data_of : A → Data) where
  all_fit : (n : ℕ) → ((x : A) → Is x → Fits n (outline (data_of x))) → (xs : List A) → All Is xs → ItemsHaveNumbers (outlines data_of xs) × (items_depth (outlines data_of xs) ≤ n)
  all_fit n fit [] is = (tt, omega arith)
  all_fit n fit (x ∷ xs) is =
      let one = fit x (All-head Is x xs is) in
      let rest = all_fit n fit xs (All-tail Is x xs is) in
      ((one.0, rest.0), omega (arith, one.1, rest.1))

  all_same : ((x y : A) → Is x → Is y → outline (data_of x) ≡ outline (data_of y) → x ≡ y) → (xs ys : List A) → All Is xs → All Is ys → outlines data_of xs ≡ outlines data_of ys → xs ≡ ys
  all_same same [] [] i j e = refl
  all_same same [] (y ∷ ys) i j e = cc
  all_same same (x ∷ xs) [] i j e = cc
  all_same same (x ∷ xs) (y ∷ ys) i j e =
      let ones : outline (data_of x) ≡ outline (data_of y) = cc in
      let others : outlines data_of xs ≡ outlines data_of ys = cc in
      let one : x ≡ y = same x y (All-head Is x xs i) (All-head Is y ys j) ones in
      let rest : xs ≡ ys = all_same same xs ys (All-tail Is x xs i) (All-tail Is y ys j) others in
      cc

-- ---- Picks.

pick_fits : (pick : Option ℕ) → IsPick pick → Fits 0 (outline (number_or_null pick))
pick_fits (Some n) is = (IsNumber-decimal n (omega (arith, is)), omega arith)
pick_fits None is = (tt, omega arith)

pick_same : (p q : Option ℕ) → IsPick p → IsPick q → outline (number_or_null p) ≡ outline (number_or_null q) → p ≡ q
pick_same (Some m) (Some n) i j e = ap (λ x. Some x) (decimal_injective m n (omega (arith, i)) (omega (arith, j)) (let texts : decimal m ≡ decimal n = cc in texts))
pick_same (Some m) None i j e = cc
pick_same None (Some n) i j e = cc
pick_same None None i j e = refl

-- ---- Rows.

moment_same : (a b : ℕ) → IsMoment a → IsMoment b → moment_text a ≡ moment_text b → a ≡ b
moment_same a b i j e = moment_text-one_moment (moment_text b) a b (subst (λ text. IsMomentText text a) e (moment_text-is a i)) (moment_text-is b j)

row_fits : (row : Found) → IsRow row → Fits 1 (outline (row_data row))
row_fits row is =
    let picks = all_fit IsPick number_or_null 0 pick_fits row.picks is.picks in
    ((tt, picks.0), omega (arith, picks.1))

abbrev row_of : ℕ → List (Option ℕ) → Found
row_of start picks = record { start = start; picks = picks }

row_same : (a b : Found) → IsRow a → IsRow b → outline (row_data a) ≡ outline (row_data b) → a ≡ b
row_same a b i j e =
    let texts : moment_text a.start ≡ moment_text b.start = cc in
    let values : outlines number_or_null a.picks ≡ outlines number_or_null b.picks = cc in
    let start : a.start ≡ b.start = moment_same a.start b.start i.start j.start texts in
    let picks : a.picks ≡ b.picks = all_same IsPick number_or_null pick_same a.picks b.picks i.picks j.picks values in
    ap (λ x. row_of x a.picks) start ∙ ap (row_of b.start) picks

-- ---- Where the next page begins.

next_fits : (revision : ℕ) (shown : Option ℕ) (next : Option Position) → Fits 0 (outline (next_data revision shown next))
next_fits revision shown (Some position) = (tt, omega arith)
next_fits revision shown None = (tt, omega arith)

abbrev cursor_of : ℕ → Option ℕ → Position → Cursor
cursor_of revision shown position = record { revision = revision; shown = shown; position = position }

next_same : (r s : ℕ) (m n : Option ℕ) (p q : Option Position) → IsNext r m p → IsNext s n q → outline (next_data r m p) ≡ outline (next_data s n q) → (p ≡ q) × (told_shown p m ≡ told_shown q n)
next_same r s m n (Some p) (Some q) i j e =
    let texts : cursor_text (cursor_of r m p) ≡ cursor_text (cursor_of s n q) = cc in
    let same : cursor_of r m p ≡ cursor_of s n q = cursor_same (cursor_of r m p) (cursor_of s n q) i j texts in
    (ap (λ c. Some c.position) same, ap (λ c. c.shown) same)
next_same r s m n (Some p) None i j e = cc
next_same r s m n None (Some q) i j e = cc
next_same r s m n None None i j e = (refl, refl)

-- ---- Pages.

page_fits : (revision : ℕ) (page : Page) → IsAnswered revision page → Fits json.max_depth (outline (page_data revision page))
page_fits revision page is =
    let next = next_fits revision page.shown page.next in
    let rows = all_fit IsRow row_data 1 row_fits page.rows is.rows in
    ((tt, (next.0, (IsNumber-decimal revision (omega (arith, is.in_range)), (rows.0, tt)))), omega (arith, next.1, rows.1))

abbrev page_of : List Found → Option Position → Option ℕ → Bool → Page
page_of rows next shown end = record { rows = rows; next = next; shown = shown; end = end }

pub page_same : (r s : ℕ) (p q : Page) → IsAnswered r p → IsAnswered s q → compact_text (page_data r p) ≡ compact_text (page_data s q) → (r ≡ s) × (told p ≡ told q)
page_same r s p q i j e =
    let outlined : outline (page_data r p) ≡ outline (page_data s q) = one_outline (page_data r p) (page_data s q) (page_fits r p i) (page_fits s q j) e in
    let end : p.end ≡ q.end = cc in
    let nexts : outline (next_data r p.shown p.next) ≡ outline (next_data s q.shown q.next) = cc in
    let revisions : decimal r ≡ decimal s = cc in
    let values : outlines row_data p.rows ≡ outlines row_data q.rows = cc in
    let next = next_same r s p.shown q.shown p.next q.next i.next j.next nexts in
    let revision : r ≡ s = decimal_injective r s (omega (arith, i.in_range)) (omega (arith, j.in_range)) revisions in
    let rows : p.rows ≡ q.rows = all_same IsRow row_data row_same p.rows q.rows i.rows j.rows values in (
      revision,
      ap (λ x. page_of x p.next (told_shown p.next p.shown) p.end) rows ∙ ap (λ x. page_of q.rows x (told_shown p.next p.shown) p.end) next.0
          ∙ ap (λ x. page_of q.rows q.next x p.end) next.1 ∙ ap (λ x. page_of q.rows q.next (told_shown q.next q.shown) x) end,
    )
