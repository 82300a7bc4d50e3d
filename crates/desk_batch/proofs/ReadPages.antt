-- Pages that are shown are in the ranges of pages that are answered, so that the text of each is that of no other.
use Rattle.std.proofs.Common.{◌≡◌, ℕ, ◌≤◌, unwrap_or, List, [], ◌∷◌, ◌++◌, length, length-append, Option, Some, None, inl, refl, sym, ap, subst, arith, is_some}
use Rattle.std.proofs.lemmas.List.{length-map}
use Rattle.std.proofs.lemmas.List.Elements.{All-cons}
use Rattle.std.specs.Prelude.{All, MatchOption}
use Rattle.std.specs.List.{last_or}
use Rattle.desk_base.specs.declared.rows.tables.Tables.{Tables}
use Rattle.desk_base.specs.declared.rows.groups.GroupRow.{GroupRow}
use Rattle.desk_base.specs.declared.search.results.Found.{Found}
use Rattle.desk_base.specs.declared.search.results.Options.{Options}
use Rattle.desk_base.specs.declared.search.results.Page.{Page}
use Rattle.desk_base.specs.declared.search.results.Position.{Position}
use Rattle.desk_base.specs.meaning.Picks.{pattern_of}
use Rattle.desk_base.specs.meaning.Trees.{tree_of, patterns}
use Rattle.desk_base.specs.rules.Limits.{leaf_limit, page_limit, passed_limit, revision_limit}
use Rattle.desk_base.specs.search.Listing.{IsSoundGroup, IsLive}
use Rattle.desk_base.specs.search.Page.{ResumePoint, beginning, next_point, due_of, passed_of, shown_after, IsPage, AreResumed}
use Rattle.desk_base.specs.search.Positions.{found_of, rows_among}
use Rattle.desk_base.proofs.lists.Members.{IsIn, in_left, in_right, in_from_contains, contains_from_in}
use Rattle.desk_base.proofs.meaning.Patterns.{length-pattern}
use Rattle.desk_base.proofs.searched.Pages.{passed_prefix, last_of}
use Rattle.desk_base.proofs.searched.Passed.{due_pending}
use Rattle.desk_json.specs.AnsweredPages.{IsRow, IsNext, HasPlaces, IsAnswered}
use Rattle.desk_json.specs.CursorReading.{IsShown}

-- ---- how many picks the positions of a page have

-- it has picks for some of the leaves that a tree may have
abbrev HasFewPicks : Position → Type 0
HasFewPicks p = (1 ≤ length p.picks) × (length p.picks ≤ leaf_limit)

abbrev pub IsShortPoint : ResumePoint → Type 0
IsShortPoint point = MatchOption point.after (Unit {0}) HasFewPicks × (point.shown ≤ page_limit)

pub begins_short : IsShortPoint beginning
begins_short = (tt, omega arith)

live_short : (t : Tables) (g : GroupRow) (o : Options) (p : Position) → IsSoundGroup g → length g.leaves ≤ leaf_limit → IsLive t g o p → HasFewPicks p
live_short t g o p sound few live =
    let bits = pattern_of p.picks in
    let all = length-pattern (tree_of g.nodes) (bits ++ live.pattern.0) (in_from_contains (patterns (tree_of g.nodes)) (bits ++ live.pattern.0) live.pattern.1) in
    let joined = length-append bits live.pattern.0 in
    let each = length-map p.picks (λ (x : Option ℕ). is_some x) in
    (live.has_pick, omega (arith, all, joined, each, sound.leaves))

next_short : (after : Option Position) (passed : List Position) → MatchOption after (Unit {0}) HasFewPicks → ((p : Position) → IsIn p passed → HasFewPicks p) → MatchOption (last_or after passed) (Unit {0}) HasFewPicks
next_short after [] h each = h
next_short after (p ∷ ps) h each =
    let last = last_of after p ps in
    subst (λ (o : Option Position). MatchOption o (Unit {0}) HasFewPicks) (sym last.3) (each last.1 (subst (IsIn last.1) (sym last.2) (in_right last.1 last.0 (last.1 ∷ []) (inl refl))))

shown_small : (per : Option ℕ) (point : ResumePoint) (rows : List Found) (last : Option Position) → point.shown ≤ page_limit → IsShown (shown_after per point rows last)
shown_small None point rows last h = tt
shown_small (Some per) point rows None h = h
shown_small (Some per) point rows (Some n) h = grind arith

-- ---- one page

next_is : (revision : ℕ) (shown : Option ℕ) (next : Option Position) → revision ≤ revision_limit → IsShown shown → MatchOption next (Unit {0}) HasFewPicks → MatchOption next (Unit {0}) (λ p. IsRow (found_of p))
    → IsNext revision shown next
next_is revision shown None low small few place = tt
next_is revision shown (Some p) low small few place = record { revision = low; shown = small; start = place.start; picks = record { some = few.0; few = few.1; each = place.picks } }

-- where the next page goes on
goes_on : (shown : Option ℕ) → IsShown shown → (next : Option Position) (page : Page) → page.shown ≡ shown → page.next ≡ next → MatchOption next (Unit {0}) HasFewPicks → IsShortPoint (next_point page)
goes_on None small next page s n few = (subst (λ (o : Option Position). MatchOption o (Unit {0}) HasFewPicks) (sym n) few, subst (λ (o : Option ℕ). unwrap_or o 0 ≤ page_limit) (sym s) (omega arith))
goes_on (Some k) small next page s n few = (subst (λ (o : Option Position). MatchOption o (Unit {0}) HasFewPicks) (sym n) few, subst (λ (o : Option ℕ). unwrap_or o 0 ≤ page_limit) (sym s) small)

page_answered : (t : Tables) (g : GroupRow) (o : Options) (point : ResumePoint) (limit : ℕ) (page : Page) → IsSoundGroup g → length g.leaves ≤ leaf_limit → t.revision ≤ revision_limit → IsShortPoint point
    → IsPage t g o point limit page → HasPlaces page → IsAnswered t.revision page × IsShortPoint (next_point page)
page_answered t g o point limit page sound few low short is places =
    let leaves = length g.leaves in
    let ps = is.0 in
    let due = due_of leaves o.per point ps in
    let passed = passed_of leaves limit passed_limit due in
    let rows = rows_among leaves passed in
    let split = passed_prefix leaves limit passed_limit due in
    let each : (p : Position) → IsIn p passed → HasFewPicks p = λ p i.
    let there = subst (IsIn p) (sym split.1) (in_left p passed split.0 i) in
    live_short t g o p sound few (is.1.sound p (contains_from_in ps p (due_pending leaves o.per point ps p there))).0 in
    let next = next_short point.after passed short.0 each in
    let small = shown_small o.per point rows (last_or None passed) short.1 in
    let next_of : page.next ≡ last_or point.after passed = ap (λ (q : Page). q.next) is.2 in
    let shown_of : page.shown ≡ shown_after o.per point rows (last_or None passed) = ap (λ (q : Page). q.shown) is.2 in
    let small_here = subst IsShown (sym shown_of) small in
    let next_here = subst (λ (o : Option Position). MatchOption o (Unit {0}) HasFewPicks) (sym next_of) next in (
      record { in_range = low; rows = places.rows; next = next_is t.revision page.shown page.next low small_here next_here places.next },
      goes_on (shown_after o.per point rows (last_or None passed)) small (last_or point.after passed) page shown_of next_of next,
    )

-- ---- all pages

abbrev pub AllPlaced : List Page → Type 0
AllPlaced [] = Unit {0}
AllPlaced (page ∷ pages) = HasPlaces page × AllPlaced pages

pub pages_answered : (t : Tables) (g : GroupRow) (o : Options) (point : ResumePoint) (pages : List Page) → IsSoundGroup g → length g.leaves ≤ leaf_limit → t.revision ≤ revision_limit → IsShortPoint point
    → AreResumed t g o point pages → AllPlaced pages → All (IsAnswered t.revision) pages
pages_answered t g o point [] sound few low short resumed placed = λ k d l. absurd (omega arith)
pages_answered t g o point (page ∷ pages) sound few low short resumed placed =
    let one = page_answered t g o point resumed.0.0 page sound few low short resumed.0.2 placed.0 in
    All-cons (IsAnswered t.revision) page pages one.0 (pages_answered t g o (next_point page) pages sound few low one.1 resumed.1 placed.1)
