-- The part of the bytes in which a head is looked for.
use Rattle.std.specs.Prelude.{ℕ, zero, suc, ◌+◌, List, [], ◌∷◌, take, ◌==◌, if◌then◌else◌}
use Rattle.desk_wire.specs.Limits.{most_head_bytes, most_head_lines}

-- how many of the bytes are line feeds
abbrev pub line_feeds : List ℕ → ℕ
line_feeds [] = 0
line_feeds (b ∷ bytes) = (if b == 10 then 1 else 0) + line_feeds bytes

-- the bytes up to and with this many line feeds, or all of them
abbrev pub through : ℕ → List ℕ → List ℕ
through zero bytes = []
through (suc n) [] = []
through (suc n) (b ∷ bytes) = b ∷ through (if b == 10 then n else suc n) bytes

-- the first 16,384 bytes, or those up to and with the 96th line feed, whichever are fewer
unfoldable pub front : List ℕ → List ℕ
front bytes = take most_head_bytes (through most_head_lines bytes)
