-- The pages that a conversation shows of one search over one revision join.
use Rattle.std.proofs.Common.{◌≡◌, ◌==◌, ℕ, ◌≤◌, Bool, true, false, nat_le, List, [], ◌∷◌, map, length, Option, Some, None, inl, inr, refl, sym, ap, ◌∙◌, subst, arith, Contains}
use Rattle.std.proofs.lemmas.Bool.Decides.{nat_tests}
use Rattle.std.specs.Prelude.{find, if◌then◌else◌, MatchOption, All}
use Rattle.std.specs.Option.{option_or}
use Rattle.desk_base.specs.declared.rows.tables.Tables.{Tables}
use Rattle.desk_base.specs.declared.rows.groups.GroupRow.{GroupRow}
use Rattle.desk_base.specs.declared.search.results.Page.{Page}
use Rattle.desk_base.specs.declared.search.results.Options.{Options}
use Rattle.desk_base.specs.asked.Groups.{group_of}
use Rattle.desk_base.specs.rules.Limits.{page_limit, leaf_limit, revision_limit}
use Rattle.desk_base.specs.rows.Keys.{id_key}
use Rattle.desk_base.specs.declared.rows.tables.Table.TheVariants.{Booking}
use Rattle.desk_base.specs.declared.asked.rules.TableRule.TheVariants.{Count}
use Rattle.desk_base.specs.rules.Fields.{is_within_range}
use Rattle.desk_base.specs.search.Listing.{IsSoundGroup, IsListing, shown_rows}
use Rattle.desk_base.specs.search.Page.{ResumePoint, beginning, next_point, IsAskable, IsPage, AreResumed, Joins}
use Rattle.desk_base.specs.search.Positions.{rows_among}
use Rattle.desk_base.specs.declared.search.results.Found.{Found}
use Rattle.desk_base.specs.rules.Sound.{IsSound}
use Rattle.desk_base.specs.asked.Steps.{IsTurn, IsAnswer, point_of, refused_per}
use Rattle.desk_base.specs.declared.asked.acts.Entry.{Entry}
use Rattle.desk_base.specs.declared.search.results.Cursor.{Cursor}
use Rattle.desk_base.specs.declared.asked.rules.Field.TheVariants.{Limit, Per}
use Rattle.desk_base.specs.declared.asked.refusals.Refusal.{Refusal}
use Rattle.desk_base.specs.declared.asked.refusals.Refusal.TheVariants.{BadField}
use Rattle.desk_base.specs.declared.asked.answers.Command.TheVariants.{Ask}
use Rattle.desk_base.specs.declared.asked.answers.Query.TheVariants.{Rows as RowsOf}
use Rattle.desk_base.specs.declared.asked.answers.Outcome.{Outcome}
use Rattle.desk_base.specs.declared.asked.answers.Outcome.TheVariants.{Done, NoMemory}
use Rattle.desk_base.specs.declared.asked.answers.Reply.TheVariants.{Rows}
use Rattle.desk_base.proofs.lists.Members.{contains_from_in}
use Rattle.desk_base.proofs.searched.Pages.{shown_listing, lives_from, pages_join}
use Rattle.desk_base.proofs.searched.Passed.{page_passes}
use Rattle.desk_base.proofs.meaning.Shapes.{sound_group, few_leaves}
use Rattle.desk_base.proofs.puts.ActPuts.{counts_kept}
use Rattle.desk_base.proofs.tables.Sounds.{well_formed}
use Rattle.desk_base.proofs.lists.Tests.{find_cases, and_left, and_right}
use Rattle.desk_core.specs.Books.{BookState}
use Rattle.desk_wire.specs.declared.rules.Request.{Request}
use Rattle.desk_wire.specs.declared.responses.Response.{Response}
use Rattle.desk_route.specs.declared.requests.Routed.{Routed}
use Rattle.desk_route.specs.declared.requests.Routed.TheVariants.{Command, Refused}
use Rattle.desk_batch.specs.declared.words.Store.{Store}
use Rattle.desk_route.specs.Exchanges.{Exchanged, TurnOf}
use Rattle.desk_batch.specs.Shown.{Taken, Told, Search, exchange_of, IsTold, AreTold, HasStood, ShowsPage, ShowsTo, ShowPages, ArePassing}
use Rattle.desk_route.specs.Requesting.{Reads}
use Rattle.desk_batch.specs.Runs.{JoinsPages}
use Rattle.desk_talk.specs.Sessions.{Exchange, Turns}
use Rattle.desk_batch.specs.Turns.{opened_over, OwnTurn}
use Rattle.desk_batch.specs.Words.{tables_of}
use Rattle.desk_json.specs.AnsweredPages.{ShowsPlaces, HasPlaces, IsAnswered}
use Rattle.desk_batch.proofs.ReadPages.{AllPlaced, begins_short, pages_answered}
use Rattle.desk_batch.proofs.StoreSound.{store_sound}
use Rattle.desk_batch.proofs.Revisions.{same_tables, sound_stood}

-- ---- each exchange is told by its turn

told_one : (s u : BookState) (routed : Routed) (q : Request) (r : Response) → Reads q routed → TurnOf OwnTurn routed s q r u → (turn : Option Taken) × IsTold s turn q r u
told_one s u (Refused why) q r reads x = (None, (why, reads, x.0, x.1))
told_one s u (Command command) q r reads x = (Some (record { command = command; answer = x.0 }), (reads, x.1, x.2, x.3))

told_of : (s : BookState) (xs : List Exchange) (last : BookState) → Turns (Exchanged OwnTurn) s xs last → (told : List Told) × (map exchange_of told ≡ xs) × AreTold s told
told_of s [] last h = ([], refl, tt)
told_of s (x ∷ xs) last h =
    let one = told_one s h.0 h.1.0 x.request x.response h.1.1 h.1.2 in
    let rest = told_of h.0 xs last h.2 in
    (record { request = x.request; turn = one.0; response = x.response; after = h.0 } ∷ rest.0, ap (λ l. x ∷ l) rest.1, (one.1, rest.2))

-- ---- a page that is shown is the page of its search

first_passes : (a b : Option Refusal) → option_or a b ≡ None → (a ≡ None) × (b ≡ None)
first_passes None b e = (refl, e)
first_passes (Some why) b e = absurd (cc)

within_step : (n : ℕ) (b : Bool) (why : Refusal) → is_within_range 1 page_limit n ≡ b → (if b then None else Some why) ≡ None → (1 ≤ n) × (n ≤ page_limit)
within_step n true why h e =
    let low = and_left (nat_le 1 n) (nat_le n page_limit) h in
    let high = and_right (nat_le 1 n) (nat_le n page_limit) h in (grind (arith, nat_tests), grind (arith, nat_tests))
within_step n false why h e = let f : Some why ≡ None = e in absurd (cc)

per_within : (per : Option ℕ) → refused_per per ≡ None → MatchOption per (Unit {0}) (λ n. (1 ≤ n) × (n ≤ page_limit))
per_within None e = tt
per_within (Some n) e = within_step n (is_within_range 1 page_limit n) (BadField Per) refl e

-- the page of the group that stands there, as it may be asked for
answer_is : (t : Tables) (journal : List Entry) (g : GroupRow) (group : ℕ) (o : Options) (cursor : Option Cursor) (latest : Bool) (limit : ℕ) (page : Page) → group_of t group ≡ Some g
    → IsAnswer t journal (RowsOf group o cursor latest limit) (Done (Rows page)) → IsAskable o limit × IsPage t g o (point_of cursor) limit page
answer_is t journal g group o cursor latest limit page there (passes, (h, found, is)) =
    let some : Some h ≡ Some g = sym found ∙ there in
    let same : h ≡ g = cc in
    let counts = first_passes _ _ (first_passes _ _ passes).1 in
    let per = first_passes _ _ counts.1 in (
      record { rows = within_step limit (is_within_range 1 page_limit limit) (BadField Limit) refl counts.0; of_start = per_within o.per per.0 },
      subst (λ (x : GroupRow). IsPage t x o (point_of cursor) limit page) same is,
    )

turn_is : (t : Tables) (journal : List Entry) (u : Tables) (journal' : List Entry) (g : GroupRow) (group : ℕ) (o : Options) (cursor : Option Cursor) (latest : Bool) (limit : ℕ) (page : Page)
    → IsTurn t journal 0 (Ask (RowsOf group o cursor latest limit)) (Done (Rows page)) u journal' → group_of u group ≡ Some g → IsAskable o limit × IsPage u g o (point_of cursor) limit page
turn_is t journal u journal' g group o cursor latest limit page (inl step) there =
    answer_is u journal g group o cursor latest limit page there (subst (λ v. IsAnswer v journal (RowsOf group o cursor latest limit) (Done (Rows page))) (sym step.1.0) step.0)
turn_is t journal u journal' g group o cursor latest limit page (inr none) there = let f : Done (Rows page) ≡ NoMemory = none.0 in absurd (cc)

shown : (s t : BookState) (g : GroupRow) (search : Search) (revision : ℕ) (point : ResumePoint) (page : Page) (x : Taken) → OwnTurn s x.command x.answer t
    → ShowsPage search revision point page x → group_of t.tables search.group ≡ Some g → (limit : ℕ) × IsAskable search.options limit × IsPage t.tables g search.options point limit page
shown s t g search revision point page x turn shows there =
    let asked = subst (λ c. IsTurn s.tables s.journal 0 c x.answer.outcome t.tables t.journal) shows.asked turn.step in
    let answered = subst (λ (out : Outcome). IsTurn s.tables s.journal 0 (Ask (RowsOf search.group search.options shows.cursor shows.latest shows.limit)) out t.tables t.journal) shows.answered asked in
    let is = turn_is s.tables s.journal t.tables t.journal g search.group search.options shows.cursor shows.latest shows.limit page answered there in
    (shows.limit, is.0, subst (λ (f : ResumePoint). IsPage t.tables g search.options f shows.limit page) shows.from_cursor is.1)

-- ---- the pages resume one another

module _ (t : Tables) (search : Search) (g : GroupRow) (there : group_of t search.group ≡ Some g) where
  one_shown : (s u : BookState) (point : ResumePoint) (page : Page) (turn : Option Taken) (q : Request) (r : Response) → IsTold s turn q r u → ShowsTo search t.revision point page turn
      → (u.tables.revision ≡ t.revision → u.tables ≡ t) → (limit : ℕ) × IsAskable search.options limit × IsPage t g search.options point limit page
  one_shown s u point page None q r told shows same = absurd shows
  one_shown s u point page (Some x) q r told shows same =
      let tables = same (sym told.1.revision ∙ shows.over) in
      let is = shown s u g search t.revision point page x told.1 shows (subst (λ v. group_of v search.group ≡ Some g) (sym tables) there) in
      (is.0, is.1, subst (λ v. IsPage v g search.options point is.0 page) tables is.2)

  resumed : (s : BookState) (point : ResumePoint) (xs : List Told) (pages : List Page) → AreTold s xs → ShowPages search t.revision point xs pages
      → ((c : BookState) → HasStood s xs c → c.tables.revision ≡ t.revision → c.tables ≡ t) → AreResumed t g search.options point pages
  resumed s point xs [] told shows same = tt
  resumed s point [] (page ∷ pages) told shows same = absurd shows
  resumed s point (x ∷ xs) (page ∷ pages) told (inl shows) same =
      (one_shown s x.after point page x.turn x.request x.response told.0 shows.0 (same x.after (inr (stands x.after xs))), resumed x.after (next_point page) xs pages told.1 shows.1 (λ c at. same c (inr at)))
    where
      stands : (b : BookState) (ys : List Told) → HasStood b ys b
      stands b [] = refl
      stands b (y ∷ ys) = inl refl
  resumed s point (x ∷ xs) (page ∷ pages) told (inr shows) same = resumed x.after point xs (page ∷ pages) told.1 shows (λ c at. same c (inr at))

  -- what is shown could be written
  placed : (s : BookState) (point : ResumePoint) (xs : List Told) (pages : List Page) → AreTold s xs → ShowPages search t.revision point xs pages → AllPlaced pages
  placed s point xs [] told shows = tt
  placed s point [] (page ∷ pages) told shows = absurd shows
  placed s point (x ∷ xs) (page ∷ pages) told (inl shows) = (one_placed s x.after point page x.turn x.request x.response told.0 shows.0, placed x.after (next_point page) xs pages told.1 shows.1)
    where
      one_placed : (s u : BookState) (point : ResumePoint) (page : Page) (turn : Option Taken) (q : Request) (r : Response) → IsTold s turn q r u → ShowsTo search t.revision point page turn → HasPlaces page
      one_placed s u point page None q r told shows = absurd shows
      one_placed s u point page (Some x) q r told shows = subst ShowsPlaces shows.answered told.3
  placed s point (x ∷ xs) (page ∷ pages) told (inr shows) = placed x.after point xs (page ∷ pages) told.1 shows

-- ---- so they join

contains_group : (id : ℕ) (groups : List GroupRow) (g : GroupRow) → find (λ (x : GroupRow). x.id == id) groups ≡ Some g → Contains groups g
contains_group id groups g e =
    elim (find_cases (λ (x : GroupRow). x.id == id) groups) [
      | inl n ↦ let f : None ≡ Some g = sym n ∙ e in absurd (cc)
      | inr (y, i, p, f) ↦ let h : Some y ≡ Some g = sym f ∙ e in let k : y ≡ g = cc in contains_from_in groups g (rw (← k) i)
    ]

-- pages that resume one another go on, and begin a listing

passing : (t : Tables) (g : GroupRow) (o : Options) (point : ResumePoint) (pages : List Page) → AreResumed t g o point pages → ArePassing t g o point pages
passing t g o point [] resumed = tt
passing t g o point (page ∷ pages) resumed =
    (page_passes t g o point resumed.0.0 page resumed.0.1.rows.0 resumed.0.2, passing t g o (next_point page) pages resumed.1)

listing_of : (t : Tables) (g : GroupRow) (o : Options) (limit : ℕ) (page : Page) → IsSoundGroup g → IsPage t g o beginning limit page → (listing : List Found) × IsListing t g o listing
listing_of t g o limit page sound is = (shown_rows o.per (rows_among (length g.leaves) is.0), shown_listing t g o is.0 sound (lives_from t g o is.0 is.1))

joined : (t : Tables) (g : GroupRow) (o : Options) (page : Page) (pages : List Page) → IsSoundGroup g → AreResumed t g o beginning (page ∷ pages)
    → length g.leaves ≤ leaf_limit → t.revision ≤ revision_limit → AllPlaced (page ∷ pages)
    → ArePassing t g o beginning (page ∷ pages) × All (IsAnswered t.revision) (page ∷ pages) × ((listing : List Found) × IsListing t g o listing × Joins t g o (page ∷ pages) listing)
joined t g o page pages sound resumed few low placed =
    let listing = listing_of t g o resumed.0.0 page sound resumed.0.2 in (
      passing t g o beginning (page ∷ pages) resumed,
      pages_answered t g o beginning (page ∷ pages) sound few low begins_short resumed placed,
      (listing.0, listing.1, pages_join t g o (page ∷ pages) listing.0 sound listing.1 resumed),
    )

revision_small : (t : Tables) → IsSound t → t.revision ≤ revision_limit
revision_small t s = let h = (counts_kept t (s.keeps Count (id_key Booking 0) refl)).0 in grind (arith, nat_tests)

pub joins_over : (t : Tables) → IsSound t → (xs : List Exchange) (last : BookState) → Turns (Exchanged OwnTurn) (opened_over t) xs last → JoinsPages t xs
joins_over t sound xs last h =
    let told = told_of (opened_over t) xs last h in (
      told.0,
      told.1,
      told.2,
      λ b search g page pages stood there shows.
          let kept = sound_stood (opened_over t) told.0 b sound told.2 stood in
          let formed = well_formed b.tables kept in
          let here = contains_group search.group b.tables.groups g there in
          joined b.tables g search.options page pages (sound_group b.tables g formed here)
          (resumed b.tables search g there (opened_over t) beginning told.0 (page ∷ pages) told.2 shows (λ c at. same_tables (opened_over t) told.0 c b told.2 at stood))
          (few_leaves b.tables g formed here) (revision_small b.tables kept)
          (placed b.tables search g there (opened_over t) beginning told.0 (page ∷ pages) told.2 shows),
    )

pub joins_pages : (store : Store) (xs : List Exchange) (last : BookState) → Turns (Exchanged OwnTurn) (opened_over (tables_of store)) xs last → JoinsPages (tables_of store) xs
joins_pages store xs last h = joins_over (tables_of store) (store_sound store) xs last h
