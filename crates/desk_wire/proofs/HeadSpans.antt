-- What the spans of a head say of the bytes.
use Rattle.std.proofs.Common.{◌≡◌, Bool, ℕ, ◌≤◌, ◌<◌, ◌+◌, ◌-◌, List, ◌++◌, length, take, drop, map, refl, sym, ap, ◌∙◌, subst, append_assoc, arith, inl, inr, Option, Some, None, length-append}
use Rattle.std.proofs.lemmas.List.Prefix.{front_rest}
use Rattle.std.proofs.lemmas.List.{length-take-le, length-drop, drop-drop, take-append-drop, take-append-le, drop-append-le}
use Rattle.std.specs.Prelude.{slice_range, false}
use Rattle.httparse.specs.Grammar.{RequestHead, print_request, ReadsRequest, HasNoRequest, MayBecomeRequest}
use Rattle.httparse.specs.Spans.{header_bytes, span_bytes, IsRequestAt, IsRequestWithin}
use Rattle.httparse.specs.declared.spans.HeaderSpan.{HeaderSpan}
use Rattle.httparse.specs.declared.spans.RequestSpans.{RequestSpans}
use Rattle.desk_wire.specs.Limits.{most_head_bytes, most_head_lines}
use Rattle.desk_wire.specs.Front.{front, line_feeds}
use Rattle.desk_wire.specs.Framing.{framing, framing_by, closes, closes_by}
use Rattle.desk_wire.specs.Requests.{HasHead, IsWhole, IsTooLarge, IsHeadOpen}
use Rattle.desk_wire.specs.Looks.{IsFound, IsKept}
use Rattle.desk_wire.specs.declared.framing.Framing.{Framing}
use Rattle.desk_wire.specs.declared.framing.Framing.TheVariants.{Body}
use Rattle.desk_wire.specs.declared.reading.Found.{Found}
use Rattle.desk_wire.specs.declared.rules.WireLimit.TheVariants.{Head, Lines}
use Rattle.desk_wire.proofs.Cuts.{HasHead-append}
use Rattle.desk_wire.proofs.FrontLemmas.{front_prefix, front_lines, front_bytes}

pub has_head_from : (bytes : List ℕ) (h : RequestHead) (more : List ℕ) → ReadsRequest (front bytes) h more
    → HasHead bytes h (drop (length (print_request h)) bytes)
has_head_from bytes h more x =
    let cut = front_prefix bytes in
    let e : bytes ≡ print_request h ++ (more ++ cut.0) =
    cut.1 ∙ ap (λ l. l ++ cut.0) x.1 ∙ append_assoc (print_request h) more cut.0 in
    ((more, x), e ∙ ap (λ l. print_request h ++ l) (sym (front_rest bytes (print_request h) (more ++ cut.0) e)))

pub has_head_at : (bytes buf : List ℕ) (headers : List HeaderSpan) (r : RequestSpans) (h : RequestHead) → buf ≡ front bytes
    → IsRequestAt buf headers r h → HasHead bytes h (drop r.len bytes)
has_head_at bytes buf headers r h e x =
    subst (λ (n : ℕ). HasHead bytes h (drop n bytes)) (sym x.len)
    (has_head_from bytes h (drop r.len buf) (subst (λ (b : List ℕ). ReadsRequest b h (drop r.len buf)) e x.reads))

pub framing_at : (buf : List ℕ) (headers : List HeaderSpan) (r : RequestSpans) (h : RequestHead) (f : Framing) → IsRequestAt buf headers r h
    → f ≡ framing_by (map (header_bytes buf) (take r.headers headers)) → framing h ≡ f
framing_at buf headers r h f x e = sym (e ∙ ap framing_by x.fields)

pub closes_at : (buf : List ℕ) (headers : List HeaderSpan) (r : RequestSpans) (h : RequestHead) (b : Bool) → IsRequestAt buf headers r h
    → b ≡ closes_by r.version (map (header_bytes buf) (take r.headers headers)) → b ≡ closes h
closes_at buf headers r h b x e =
    e ∙ ap (λ n. closes_by n (map (header_bytes buf) (take r.headers headers))) x.version ∙ ap (closes_by h.minor) x.fields

widened : (n m a b : ℕ) → (a ≤ b) × (b ≤ n) → n ≤ m → (a ≤ b) × (b ≤ m)
widened n m a b x e = (x.0, omega arith)

pub found_at : (bytes : List ℕ) (len body : ℕ) (close : Bool) (headers : List HeaderSpan) (r : RequestSpans) (h : RequestHead) → len ≤ length bytes
    → take len bytes ≡ front bytes → IsRequestWithin (take len bytes) headers r → IsRequestAt (take len bytes) headers r h
    → framing h ≡ Body body → close ≡ closes h → IsFound bytes (record { spans = r; front = len; body = body; close = close })
found_at bytes len body close headers r h fits e within x framed closed =
    let size = length-take-le len bytes fits in
    let inside : r.len ≤ len = omega (arith, within.section.len_fits, size) in
    record {
      head = h;
      has_head = has_head_at bytes (take len bytes) headers r h e x;
      framed = framed;
      front = fits;
      len = omega arith;
      method = x.method;
      target = x.path;
      version = x.version;
      closes = closed;
      method_within = widened r.len len r.method.start r.method.end within.method inside;
      target_within = widened r.len len r.path.start r.path.end within.path inside;
    }

pub full_lines : (bytes : List ℕ) (n : ℕ) → HasNoRequest (front bytes) → MayBecomeRequest (front bytes) → n ≡ line_feeds (front bytes) → most_head_lines ≤ n → IsTooLarge bytes Lines
full_lines bytes n none may e many =
    let most = front_lines bytes in inl (record { none = none; may = may; which = inl (refl, omega arith) })

pub full_bytes : (bytes : List ℕ) (lines n : ℕ) → HasNoRequest (front bytes) → MayBecomeRequest (front bytes) → lines ≡ line_feeds (front bytes) → lines < most_head_lines
    → n ≡ length (front bytes) → most_head_bytes ≤ n → IsTooLarge bytes Head
full_bytes bytes lines n none may e few f many =
    let most = front_bytes bytes in inl (record { none = none; may = may; which = inr (refl, omega arith, omega arith) })

pub open_at : (bytes : List ℕ) (lines n : ℕ) → HasNoRequest (front bytes) → MayBecomeRequest (front bytes) → lines ≡ line_feeds (front bytes) → lines < most_head_lines
    → n ≡ length (front bytes) → n < most_head_bytes → IsHeadOpen bytes
open_at bytes lines n none may e few f short = record { none = none; may = may; lines = omega arith; room = omega arith }

-- the bytes behind a head, cut after its body
body_cut : (bytes : List ℕ) (n m : ℕ) → n + m ≤ length bytes → drop n bytes ≡ slice_range bytes n (n + m) ++ drop (n + m) bytes
body_cut bytes n m fits =
    let e : take (n + m - n) (drop n bytes) ≡ take m (drop n bytes) = ap (λ k. take k (drop n bytes)) (omega arith) in
    sym (ap (λ l. l ++ drop (n + m) bytes) e ∙ ap (λ l. take m (drop n bytes) ++ l) (sym (drop-drop m n bytes)) ∙ take-append-drop m (drop n bytes))

pub whole_at : (bytes : List ℕ) (f : Found) (method target body : List ℕ) → IsFound bytes f → f.spans.len + f.body ≤ length bytes
    → method ≡ span_bytes (take f.front bytes) f.spans.method → target ≡ span_bytes (take f.front bytes) f.spans.path
    → body ≡ slice_range bytes f.spans.len (f.spans.len + f.body)
    → IsWhole bytes (record { method = method; target = target; version = f.spans.version; close = f.close; body = body }) (drop (f.spans.len + f.body) bytes)
whole_at bytes f method target body x fits e g k =
    let rest = drop (f.spans.len + f.body) bytes in
    let cut = body_cut bytes f.spans.len f.body fits in
    let size : length body ≡ f.body = ap length k ∙ length-take-le (f.spans.len + f.body - f.spans.len) (drop f.spans.len bytes) (omega (arith, length-drop f.spans.len bytes)) ∙ (omega arith) in
    let a = e ∙ x.method in
    let b = g ∙ x.target in
    let v = x.version in
    let w = x.closes in
    record {
      head = x.head;
      has_head = subst (HasHead bytes x.head) (cut ∙ ap (λ l. l ++ rest) (sym k)) x.has_head;
      framed = x.framed ∙ ap Body (sym size);
      is = λ i. record { method = a i; target = b i; version = v i; close = w i; body = body };
    }

-- what was found stays there, whatever bytes follow
pub found-append : (bytes more : List ℕ) (f : Found) → IsFound bytes f → IsFound (bytes ++ more) f
found-append bytes more f x =
    let longer = length-append bytes more in
    let same : take f.front (bytes ++ more) ≡ take f.front bytes = take-append-le f.front bytes more x.front in
    record {
      head = x.head;
      has_head = subst (HasHead (bytes ++ more) x.head) (sym (drop-append-le f.spans.len bytes more x.len)) (HasHead-append bytes more x.head (drop f.spans.len bytes) x.has_head);
      framed = x.framed;
      front = omega (arith, x.front);
      len = omega (arith, x.len);
      method = ap (λ (b : List ℕ). span_bytes b f.spans.method) same ∙ x.method;
      target = ap (λ (b : List ℕ). span_bytes b f.spans.path) same ∙ x.target;
      version = x.version;
      closes = x.closes;
      method_within = x.method_within;
      target_within = x.target_within;
    }

pub kept-append : (bytes more : List ℕ) (kept : Option Found) → IsKept bytes kept → IsKept (bytes ++ more) kept
kept-append bytes more None x = tt
kept-append bytes more (Some f) x = found-append bytes more f x
