-- Data that are read back from their text: numbers in range, texts of UTF-8, and names of ASCII that rise.
use Rattle.std.proofs.Common.{◌≡◌, ℕ, suc, ◌<◌, ◌≤◌, ◌^◌, negsuc, pos, Bool, true, false, ◌&&◌, List, [], ◌∷◌, ◌++◌, Some, option_map, option_and_then, Ok, Ordering, Less, Equal, Greater, nat_cmp, decimal, IsUtf8, refl, sym, ap, ◌∙◌, true≢false, arith, append-nil}
use Rattle.std.specs.Bool.{⊤}
use Rattle.std.specs.Fmt.{signed_decimal}
use Rattle.std.specs.Cmp.Lexicographic.{slice_cmp}
use Rattle.std.proofs.lemmas.Bool.{and_parts}
use Rattle.std.proofs.lemmas.Str.{IsUtf8-append, IsUtf8-from_ascii, is_utf8-from_IsUtf8}
use Rattle.std.proofs.lemmas.Fmt.{IsAscii-decimal, IsAscii-signed}
use Rattle.json.specs.Json as json
use Rattle.json.specs.Tree as tree
use Rattle.json.specs.Tree.{HasNumbers, ItemsHaveNumbers, MembersHaveNumbers, json_tokens}
use Rattle.json.specs.Lex.{tokens}
use Rattle.json.specs.Print.{quoted}
use Rattle.json.proofs.Printed.Decimals.{IsNumber-decimal, IsNumber-signed_decimal}
use Rattle.json.proofs.Printed.Tokens.{tokens-print}
use Rattle.json.proofs.Printed.Trees.{value-json_tokens, ArePrintable-json_tokens}
use Rattle.json.proofs.Printed.Utf8.{are_ascii, IsUtf8-are_ascii, IsUtf8-quoted, IsUtf8-boolean}
use Rattle.serde_json.specs.Data.{Num, unsigned, negative, float, Data, null, boolean, number, string, array, object, Items, no_items, item, Members, no_members, member, put, depth, items_depth, members_depth}
use Rattle.serde_json.specs.Read.{read, of_json, of_items, of_members, max_depth}
use Rattle.serde_json.specs.Written.{number_text, outline, items_outline, members_outline, compact_text, items_text, members_text, comma_if, has_float, items_have_float, members_have_float}
use Rattle.serde_json.specs.Find.{is_float}
use Rattle.serde_json.proofs.Numbers.{number_of-decimal, number_of-negative}
use Rattle.serde_json.proofs.Texts.{print-outline}
use Rattle.desk_json.specs.Bodies.{parsed}

-- ---- names that rise

abbrev pub is_after : Ordering → Bool
is_after Less = false
is_after Equal = false
is_after Greater = true

-- each name stands after this one
abbrev pub all_after : List ℕ → Members → Bool
all_after k no_members = true
all_after k (member l d ms) = is_after (slice_cmp nat_cmp l k) && all_after k ms

-- each name stands after those before it
abbrev pub rises : Members → Bool
rises no_members = true
rises (member k d ms) = all_after k ms && rises ms

-- each name of the second stands after each of the first
abbrev apart : Members → Members → Bool
apart no_members ms = true
apart (member l e found) ms = all_after l ms && apart found ms

abbrev join : Members → Members → Members
join no_members ms = ms
join (member l e found) ms = member l e (join found ms)

join-none : (found : Members) → found ≡ join found no_members
join-none no_members = refl
join-none (member l e found) = ap (member l e) (join-none found)

join-one : (found : Members) (k : List ℕ) (d : Data) (ms : Members) → join (join found (member k d no_members)) ms ≡ join found (member k d ms)
join-one no_members k d ms = refl
join-one (member l e found) k d ms = ap (member l e) (join-one found k d ms)

greater : (o : Ordering) → is_after o ≡ true → o ≡ Greater
greater Less e = absurd (true≢false (sym e))
greater Equal e = absurd (true≢false (sym e))
greater Greater e = refl

pub both : (a b : Bool) → a ≡ true → b ≡ true → (a && b) ≡ true
both a b e f = rw (e, f) refl

-- a name that stands after all goes last
put_last : (k : List ℕ) (d : Data) (found ms : Members) → apart found (member k d ms) ≡ true → put k d found ≡ join found (member k d no_members)
put_last k d no_members ms h = refl
put_last k d (member l e found) ms h =
    let p = and_parts (all_after l (member k d ms)) (apart found (member k d ms)) h in
    let q = and_parts (is_after (slice_cmp nat_cmp k l)) (all_after l ms) p.0 in
    rw (greater (slice_cmp nat_cmp k l) q.0) (ap (member l e) (put_last k d found ms p.1))

apart-join : (k : List ℕ) (d : Data) (found ms : Members) → apart found (member k d ms) ≡ true → all_after k ms ≡ true → apart (join found (member k d no_members)) ms ≡ true
apart-join k d no_members ms h after = both (all_after k ms) true after refl
apart-join k d (member l e found) ms h after =
    let p = and_parts (all_after l (member k d ms)) (apart found (member k d ms)) h in
    let q = and_parts (is_after (slice_cmp nat_cmp k l)) (all_after l ms) p.0 in
    both (all_after l ms) (apart (join found (member k d no_members)) ms) q.1 (apart-join k d found ms p.1 after)

-- ---- sound data

abbrev pub IsSoundNumber : Num → Type 0
IsSoundNumber (unsigned n) = n < 2 ^ 64
IsSoundNumber (negative (pos n)) = ⊥
IsSoundNumber (negative (negsuc n)) = n < 2 ^ 31
IsSoundNumber (float x) = ⊥

abbrev mutual
  pub IsSound : Data → Type 0
  IsSound null = ⊤
  IsSound (boolean b) = ⊤
  IsSound (number n) = IsSoundNumber n
  IsSound (string s) = IsUtf8 s
  IsSound (array ds) = AreSound ds
  IsSound (object ms) = HasSound ms × (rises ms ≡ true)

  pub AreSound : Items → Type 0
  AreSound no_items = ⊤
  AreSound (item d ds) = IsSound d × AreSound ds

  pub HasSound : Members → Type 0
  HasSound no_members = ⊤
  HasSound (member k d ms) = (are_ascii k ≡ true) × IsSound d × HasSound ms

-- ---- as JSON

number_back : (n : Num) → IsSoundNumber n → of_json (json.number (number_text n)) ≡ Some (number n)
number_back (unsigned n) h = ap (option_map number) (number_of-decimal n h)
number_back (negative (pos n)) h = absurd h
number_back (negative (negsuc n)) h = ap (option_map number) (number_of-negative n (omega (arith, h)))
number_back (float x) h = absurd h

mutual
  json_back : (d : Data) → IsSound d → of_json (outline d) ≡ Some d
  json_back null h = refl
  json_back (boolean b) h = refl
  json_back (number n) h = number_back n h
  json_back (string s) h = refl
  json_back (array ds) h = ap (option_map array) (items_back ds h)
  json_back (object ms) h = ap (option_map object) (members_back ms no_members h.0 h.1 refl)

  items_back : (ds : Items) → AreSound ds → of_items (items_outline ds) ≡ Some ds
  items_back no_items h = refl
  items_back (item d ds) h = rw (json_back d h.0, items_back ds h.1) refl

  members_back : (ms found : Members) → HasSound ms → rises ms ≡ true → apart found ms ≡ true → of_members (members_outline ms) found ≡ Some (join found ms)
  members_back no_members found h up clear = ap (λ m. Some m) (join-none found)
  members_back (member k d ms) found h up clear =
      let p = and_parts (all_after k ms) (rises ms) up in
      rw (json_back d h.1, put_last k d found ms clear)
      (members_back ms (join found (member k d no_members)) h.2 p.1 (apart-join k d found ms clear p.0) ∙ ap (λ m. Some m) (join-one found k d ms))

numbers_of : (n : Num) → IsSoundNumber n → HasNumbers (json.number (number_text n))
numbers_of (unsigned n) h = IsNumber-decimal n h
numbers_of (negative (pos n)) h = absurd h
numbers_of (negative (negsuc n)) h = IsNumber-signed_decimal (negsuc n) (omega (arith, h))
numbers_of (float x) h = absurd h

mutual
  has_numbers : (d : Data) → IsSound d → HasNumbers (outline d)
  has_numbers null h = tt
  has_numbers (boolean b) h = tt
  has_numbers (number n) h = numbers_of n h
  has_numbers (string s) h = tt
  has_numbers (array ds) h = items_have_numbers ds h
  has_numbers (object ms) h = members_have_numbers ms h.0

  items_have_numbers : (ds : Items) → AreSound ds → ItemsHaveNumbers (items_outline ds)
  items_have_numbers no_items h = tt
  items_have_numbers (item d ds) h = (has_numbers d h.0, items_have_numbers ds h.1)

  members_have_numbers : (ms : Members) → HasSound ms → MembersHaveNumbers (members_outline ms)
  members_have_numbers no_members h = tt
  members_have_numbers (member k d ms) h = (has_numbers d h.1, members_have_numbers ms h.2)

mutual
  same_depth : (d : Data) → tree.depth (outline d) ≡ depth d
  same_depth null = refl
  same_depth (boolean b) = refl
  same_depth (number n) = refl
  same_depth (string s) = refl
  same_depth (array ds) = ap (λ n. suc n) (same_items_depth ds)
  same_depth (object ms) = ap (λ n. suc n) (same_members_depth ms)

  same_items_depth : (ds : Items) → tree.items_depth (items_outline ds) ≡ items_depth ds
  same_items_depth no_items = refl
  same_items_depth (item d ds) = rw (same_depth d, same_items_depth ds) refl

  same_members_depth : (ms : Members) → tree.members_depth (members_outline ms) ≡ members_depth ms
  same_members_depth no_members = refl
  same_members_depth (member k d ms) = rw (same_depth d, same_members_depth ms) refl

float_no : (n : Num) → IsSoundNumber n → is_float n ≡ false
float_no (unsigned n) h = refl
float_no (negative z) h = refl
float_no (float x) h = absurd h

mutual
  pub no_float : (d : Data) → IsSound d → has_float d ≡ false
  no_float null h = refl
  no_float (boolean b) h = refl
  no_float (number n) h = float_no n h
  no_float (string s) h = refl
  no_float (array ds) h = items_no_float ds h
  no_float (object ms) h = members_no_float ms h.0

  items_no_float : (ds : Items) → AreSound ds → items_have_float ds ≡ false
  items_no_float no_items h = refl
  items_no_float (item d ds) h = rw (no_float d h.0, items_no_float ds h.1) refl

  members_no_float : (ms : Members) → HasSound ms → members_have_float ms ≡ false
  members_no_float no_members h = refl
  members_no_float (member k d ms) h = rw (no_float d h.1, members_no_float ms h.2) refl

-- ---- as text

read_back : (d : Data) → IsSound d → depth d ≤ max_depth → read (compact_text d) ≡ Some d
read_back d h shallow =
    let lexed : tokens (compact_text d) ≡ json_tokens (outline d) ++ [] =
    ap tokens (sym (print-outline d)) ∙ tokens-print (json_tokens (outline d)) (ArePrintable-json_tokens (outline d) (has_numbers d h)) ∙ sym (append-nil (json_tokens (outline d))) in
    let taken : json.value max_depth (tokens (compact_text d)) ≡ Some (outline d, []) =
    ap (json.value max_depth) lexed ∙ value-json_tokens (outline d) max_depth [] (omega (arith, shallow, same_depth d)) in
    ap (λ r. option_and_then of_json (option_and_then (λ p. json.if_last p.0 p.1) r)) taken ∙ json_back d h

number_utf8 : (n : Num) → IsSoundNumber n → IsUtf8 (number_text n)
number_utf8 (unsigned n) h = IsUtf8-from_ascii (decimal n) (IsAscii-decimal n h)
number_utf8 (negative (pos n)) h = absurd h
number_utf8 (negative (negsuc n)) h = IsUtf8-from_ascii (signed_decimal (negsuc n)) (IsAscii-signed (negsuc n) (omega (arith, h)))
number_utf8 (float x) h = absurd h

comma_utf8 : (later : Bool) → IsUtf8 (comma_if later)
comma_utf8 true = IsUtf8-are_ascii (44 ∷ []) refl
comma_utf8 false = IsUtf8-are_ascii [] refl

mutual
  text_utf8 : (d : Data) → IsSound d → IsUtf8 (compact_text d)
  text_utf8 null h = IsUtf8-are_ascii _ refl
  text_utf8 (boolean b) h = IsUtf8-boolean b
  text_utf8 (number n) h = number_utf8 n h
  text_utf8 (string s) h = IsUtf8-quoted s h
  text_utf8 (array ds) h = IsUtf8-append (91 ∷ []) (items_text false ds) (IsUtf8-are_ascii (91 ∷ []) refl) (items_utf8 false ds h)
  text_utf8 (object ms) h = IsUtf8-append (123 ∷ []) (members_text false ms) (IsUtf8-are_ascii (123 ∷ []) refl) (members_utf8 false ms h.0)

  items_utf8 : (later : Bool) (ds : Items) → AreSound ds → IsUtf8 (items_text later ds)
  items_utf8 later no_items h = IsUtf8-are_ascii (93 ∷ []) refl
  items_utf8 later (item d ds) h =
      IsUtf8-append (comma_if later) (compact_text d ++ items_text true ds) (comma_utf8 later) (IsUtf8-append (compact_text d) (items_text true ds) (text_utf8 d h.0) (items_utf8 true ds h.1))

  members_utf8 : (later : Bool) (ms : Members) → HasSound ms → IsUtf8 (members_text later ms)
  members_utf8 later no_members h = IsUtf8-are_ascii (125 ∷ []) refl
  members_utf8 later (member k d ms) h =
      let rest = IsUtf8-append (compact_text d) (members_text true ms) (text_utf8 d h.1) (members_utf8 true ms h.2) in
      IsUtf8-append (comma_if later) (quoted k ++ 58 ∷ (compact_text d ++ members_text true ms)) (comma_utf8 later)
      (IsUtf8-append (quoted k) (58 ∷ (compact_text d ++ members_text true ms)) (IsUtf8-quoted k (IsUtf8-are_ascii k h.0)) (IsUtf8-append (58 ∷ []) (compact_text d ++ members_text true ms) (IsUtf8-are_ascii (58 ∷ []) refl) rest))

pub parsed_back : (d : Data) → IsSound d → depth d ≤ max_depth → parsed (compact_text d) ≡ Ok d
unfolding parsed
parsed_back d h shallow = rw (is_utf8-from_IsUtf8 (compact_text d) (text_utf8 d h), read_back d h shallow) refl
