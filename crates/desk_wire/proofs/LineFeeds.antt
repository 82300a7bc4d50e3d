-- A head has a line feed for each of its fields, and one more at its end.
use Rattle.std.proofs.Common.{◌≡◌, ℕ, ◌+◌, ◌<◌, ◌≤◌, List, [], ◌∷◌, ◌++◌, length, refl, ap, ◌∙◌, arith, append-nil}
use Rattle.std.specs.List.{flat_map}
use Rattle.httparse.specs.Grammar.{LineEnd, crlf, lf, print_end, Field, print_field, print_section, RequestHead, print_request, print_blank, print_version}
use Rattle.httparse.specs.Spans.{RequestExceeds}
use Rattle.desk_wire.specs.Front.{line_feeds}
use Rattle.desk_wire.proofs.FrontLemmas.{line_feeds-append}

pub end_feeds : (e : LineEnd) → line_feeds (print_end e) ≡ 1
end_feeds crlf = refl
end_feeds lf = refl

pub field_feeds : (f : Field) → 1 ≤ line_feeds (print_field f)
field_feeds f =
    let a = line_feeds-append (f.name ++ 58 ∷ f.raw) (print_end f.end) in
    let b = end_feeds f.end in
    omega arith

pub fields_feeds : (fs : List Field) → length fs ≤ line_feeds (flat_map print_field fs)
fields_feeds [] = omega arith
fields_feeds (f ∷ fs) =
    let a = line_feeds-append (print_field f) (flat_map print_field fs) in
    let b = field_feeds f in
    let c = fields_feeds fs in
    omega arith

pub head_feeds : (h : RequestHead) → length h.fields + 1 ≤ line_feeds (print_request h)
unfolding print_request
head_feeds h =
    let front = print_blank h.blank ++ h.method ++ 32 ∷ h.target ++ 32 ∷ print_version h.minor ++ print_end h.line_end in
    let a = line_feeds-append front (print_section h.fields h.last) in
    let b = line_feeds-append (flat_map print_field h.fields) (print_end h.last) in
    let c = end_feeds h.last in
    let d = fields_feeds h.fields in
    omega arith

-- with at most as many line feeds as there is room for fields, each field has its room
pub never_exceeds : (room : ℕ) (buf : List ℕ) → line_feeds buf ≤ room → RequestExceeds room buf → ⊥
never_exceeds room buf few x =
    let front = x.0 in
    let rest = x.1 in
    let same : line_feeds buf ≡ line_feeds (front ++ rest) = ap line_feeds x.2 in
    let h = x.3 in
    let reads : front ++ print_end lf ≡ print_request h = x.4.1 ∙ append-nil (print_request h) in
    let more : room < length h.fields = x.5 in
    let a = line_feeds-append front rest in
    let b = line_feeds-append front (print_end lf) in
    let c = end_feeds lf in
    let d = head_feeds h in
    let e : line_feeds (front ++ print_end lf) ≡ line_feeds (print_request h) = ap line_feeds reads in
    omega arith
