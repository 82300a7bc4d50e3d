-- The limits of a request. They are this project's own.
use Rattle.std.specs.Prelude.{ℕ}

-- a head has at most this many bytes
abbrev pub most_head_bytes : ℕ
most_head_bytes = 16384

-- a head has at most this many line feeds, the empty line's among them
abbrev pub most_head_lines : ℕ
most_head_lines = 96

-- a body has at most this many bytes
abbrev pub most_body_bytes : ℕ
most_body_bytes = 65536
