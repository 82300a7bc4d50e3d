-- The text of a cursor: `REVISION.START.PICK` or `REVISION_SHOWN.START.PICK`, and further picks behind points.
use Rattle.std.specs.Prelude.{ℕ, List, ◌++◌, codes, decimal, Option, Some, None}
use Rattle.std.specs.List.{flat_map}
use Rattle.desk_base.specs.declared.search.results.Cursor.{Cursor}

-- a pick is the resource in decimal, or `-` for a leaf that is left out
abbrev pub pick_text : Option ℕ → List ℕ
pick_text (Some resource) = decimal resource
pick_text None = codes "-"

-- a pick behind a point
abbrev pub further_pick : Option ℕ → List ℕ
further_pick pick = codes "." ++ pick_text pick

-- picks, each behind a point
abbrev pub picks_text : List (Option ℕ) → List ℕ
picks_text picks = flat_map further_pick picks

-- how many rows were shown, behind an underline, or nothing where that is not said
abbrev pub shown_text : Option ℕ → List ℕ
shown_text (Some shown) = codes "_" ++ decimal shown
shown_text None = codes ""

-- the revision, and how many rows were shown
abbrev pub head_text : ℕ → Option ℕ → List ℕ
head_text revision shown = decimal revision ++ shown_text shown

-- the text of a cursor: its head, the start in decimal, and the picks
unfoldable pub cursor_text : Cursor → List ℕ
cursor_text c = head_text c.revision c.shown ++ codes "." ++ decimal c.position.start ++ picks_text c.position.picks
