-- Which texts are cursors: a text is read as the one cursor whose text it is.
use Rattle.std.specs.Prelude.{◌≡◌, ◌≢◌, ℕ, ◌≤◌, List, [], ◌∷◌, map, length, decimal, All, Option, Some, None, Result, Ok, Err}
use Rattle.desk_base.specs.rules.Limits.{first_minute, end_of_minutes, revision_limit, leaf_limit, page_limit}
use Rattle.desk_base.specs.declared.search.results.Cursor.{Cursor}
use Rattle.desk_json.specs.declared.cursor_reading.CursorError.{CursorError}
use Rattle.desk_json.specs.declared.cursor_reading.CursorError.TheVariants.{BadCursor, NoMemory}
use Rattle.desk_json.specs.Cursors.{pick_text, head_text}
use Rattle.desk_json.specs.Decimals.{IsId}

-- a minute of the horizon, or its end
abbrev pub IsMoment : ℕ → Type 0
IsMoment m = (first_minute ≤ m) × (m ≤ end_of_minutes)

-- the id of a resource, or none for a leaf that is left out
abbrev pub IsPick : Option ℕ → Type 0
IsPick (Some resource) = IsId resource
IsPick None = Unit {0}

-- a number of shown rows, which a page can show, or none
abbrev pub IsShown : Option ℕ → Type 0
IsShown (Some shown) = shown ≤ page_limit
IsShown None = Unit {0}

-- picks for the leaves of a tree, of which there are some
pub record ArePicks (picks : List (Option ℕ)) : Type 0 where
  pub some : 1 ≤ length picks
  pub few : length picks ≤ leaf_limit
  pub each : All IsPick picks

-- the revision, the shown rows, the start and the picks are in their ranges
pub record IsCursor (c : Cursor) : Type 0 where
  pub revision : c.revision ≤ revision_limit
  pub shown : IsShown c.shown
  pub start : IsMoment c.position.start
  pub picks : ArePicks c.position.picks

-- a text is read as the value whose text it is, and is a bad cursor where it is the text of no value
abbrev pub IsReading : {A B : Type 0} → (A → Type 0) → (A → B) → B → Result A CursorError → Type 0
IsReading IsValue text_of text (Ok x) = IsValue x × (text ≡ text_of x)
IsReading {A} IsValue text_of text (Err BadCursor) = (x : A) → IsValue x → text ≢ text_of x
IsReading IsValue text_of text (Err NoMemory) = Unit {0}

-- the pieces of a cursor's text, which are joined by points
abbrev pub cursor_pieces : Cursor → List (List ℕ)
cursor_pieces c = head_text c.revision c.shown ∷ decimal c.position.start ∷ map pick_text c.position.picks

-- a revision, and a number of shown rows or none: the head of a cursor
pub record IsHead (head : ℕ × Option ℕ) : Type 0 where
  pub revision : head.0 ≤ revision_limit
  pub shown : IsShown head.1

-- the text of a head
abbrev pub text_of_head : ℕ × Option ℕ → List ℕ
text_of_head head = head_text head.0 head.1

-- how many rows were shown, as the piece behind the revision
abbrev pub shown_pieces : Option ℕ → List (List ℕ)
shown_pieces (Some shown) = decimal shown ∷ []
shown_pieces None = []

-- the pieces of a head's text, which are joined by underlines
abbrev pub pieces_of_head : ℕ × Option ℕ → List (List ℕ)
pieces_of_head head = decimal head.0 ∷ shown_pieces head.1
