-- The bytes of a response (RFC 9112).
use Rattle.std.specs.Prelude.{ℕ, Bool, true, false, List, [], ◌++◌, ◌∷◌, length, codes, decimal, ◌==◌, if◌then◌else◌, Option, Some, None}
use Rattle.desk_wire.specs.declared.responses.Response.{Response}
use Rattle.desk_wire.specs.declared.responses.BodyKind.{BodyKind}
use Rattle.desk_wire.specs.declared.responses.BodyKind.TheVariants.{Json, Text}
use Rattle.desk_wire.specs.declared.responses.Allow.{Allow}
use Rattle.desk_wire.specs.declared.responses.Allow.TheVariants.{Get, Post}

-- CR LF
abbrev pub line_end : List ℕ
line_end = 13 ∷ 10 ∷ []

-- the statuses that desk sends, with their phrases (RFC 9110, RFC 6585; 507 is RFC 4918's)
abbrev pub phrases : List (ℕ × List ℕ)
phrases =
    (200, codes "OK")
    ∷ (400, codes "Bad Request")
    ∷ (404, codes "Not Found")
    ∷ (405, codes "Method Not Allowed")
    ∷ (409, codes "Conflict")
    ∷ (413, codes "Content Too Large")
    ∷ (422, codes "Unprocessable Content")
    ∷ (431, codes "Request Header Fields Too Large")
    ∷ (501, codes "Not Implemented")
    ∷ (503, codes "Service Unavailable")
    ∷ (507, codes "Insufficient Storage")
    ∷ []

-- the phrase that the table has for the status, or the empty one
abbrev pub phrase_in : List (ℕ × List ℕ) → ℕ → List ℕ
phrase_in [] status = []
phrase_in (row ∷ rows) status = if status == row.0 then row.1 else phrase_in rows status

-- the phrase of a status
abbrev pub phrase : ℕ → List ℕ
phrase status = phrase_in phrases status

-- the media type of a body
abbrev pub kind_name : BodyKind → List ℕ
kind_name Json = codes "application/json"
kind_name Text = codes "text/plain; charset=utf-8"

-- the name of a method
abbrev pub method_name : Allow → List ℕ
method_name Get = codes "GET"
method_name Post = codes "POST"

-- the line of a field of the head
unfoldable pub field_line : List ℕ → List ℕ → List ℕ
field_line name value = name ++ codes ": " ++ value ++ line_end

-- the first line: the version, the status and its phrase
unfoldable pub status_line : ℕ → List ℕ
status_line status = codes "HTTP/1.1 " ++ decimal status ++ codes " " ++ phrase status ++ line_end

-- the lines that each response has: the first, the body's media type and the body's length
unfoldable pub first_lines : Response → List ℕ
first_lines r =
    status_line r.status
    ++ field_line (codes "content-type") (kind_name r.kind)
    ++ field_line (codes "content-length") (decimal (length r.body))

-- the line that names the one method of the path, where the response tells it
abbrev pub allow_line : Option Allow → List ℕ
allow_line None = []
allow_line (Some method) = field_line (codes "allow") (method_name method)

-- the line that says that the conversation ends, where it does
abbrev pub close_line : Bool → List ℕ
close_line true = field_line (codes "connection") (codes "close")
close_line false = []

-- the body that is sent: a bare response counts its body and does not send it
abbrev pub sent_body : Bool → List ℕ → List ℕ
sent_body true body = []
sent_body false body = body

-- the bytes of a response: the lines of its head, an empty line, and the body
unfoldable pub response_text : Response → List ℕ
response_text r = first_lines r ++ allow_line r.allow ++ close_line r.close ++ line_end ++ sent_body r.bare r.body
