-- The values of the length fields, a field at a time.
use Rattle.std.proofs.Common.{◌≡◌, ℕ, ◌+◌, ◌<◌, ◌≤◌, Bool, true, false, List, [], ◌∷◌, ◌++◌, length, take, drop, map, filter, get_or, refl, sym, ap, ◌∙◌, append-nil, take-append-drop, codes, if◌then◌else◌, Option, Some, None, Bor}
use Rattle.std.specs.Option.{option_copied, option_to_list, is_some}
use Rattle.std.proofs.lemmas.List.{take_all, take_more, map-append}
use Rattle.std.proofs.lemmas.List.Elements.{filter-append}
use Rattle.httparse.specs.Spans.{header_bytes}
use Rattle.httparse.specs.declared.spans.HeaderSpan.{HeaderSpan}
use Rattle.desk_wire.specs.Framing.{is_named, lengths, framing_by_lengths}
use Rattle.desk_wire.specs.declared.framing.Framing.TheVariants.{Bad}
use Rattle.desk_wire.specs.declared.rules.HeadRule.TheVariants.{Length}

-- the fields that the headers cover
abbrev pub fields_of : List ℕ → List HeaderSpan → List (List ℕ × List ℕ)
fields_of buf headers = map (header_bytes buf) headers

-- the field at an index
abbrev pub field_at : List ℕ → List HeaderSpan → ℕ → List ℕ × List ℕ
field_at buf headers i = header_bytes buf (get_or headers i (record { name = record { start = 0; end = 0 }; value = record { start = 0; end = 0 } }))

-- the field says how long the body is
abbrev pub is_length : List ℕ × List ℕ → Bool
is_length field = is_named (codes "content-length") field

values : List (List ℕ × List ℕ) → List (List ℕ)
values fields = map (λ (field : List ℕ × List ℕ). field.1) fields

lengths-append : (xs ys : List (List ℕ × List ℕ)) → lengths (xs ++ ys) ≡ lengths xs ++ lengths ys
unfolding values
lengths-append xs ys = ap values (filter-append is_length xs ys) ∙ map-append (λ (field : List ℕ × List ℕ). field.1) (filter is_length xs) (filter is_length ys)

lengths_one : (field : List ℕ × List ℕ) (named : Bool) → named ≡ is_length field → lengths (field ∷ []) ≡ values (if named then field ∷ [] else [])
unfolding values
lengths_one field named e = ap (λ (b : Bool). values (if b then field ∷ [] else [])) (sym e)

lengths_next : (buf : List ℕ) (headers : List HeaderSpan) (i : ℕ) (named : Bool) → i < length headers → named ≡ is_length (field_at buf headers i)
    → lengths (fields_of buf (take (i + 1) headers)) ≡ lengths (fields_of buf (take i headers)) ++ values (if named then field_at buf headers i ∷ [] else [])
lengths_next buf headers i named within e =
    ap (λ l. lengths (fields_of buf l)) (take_more headers i _ within)
    ∙ ap lengths (map-append (header_bytes buf) (take i headers) _)
    ∙ lengths-append (fields_of buf (take i headers)) (field_at buf headers i ∷ [])
    ∙ ap (λ l. lengths (fields_of buf (take i headers)) ++ l) (lengths_one (field_at buf headers i) named e)

-- the field says no length
pub length_other : (buf : List ℕ) (headers : List HeaderSpan) (i : ℕ) → i < length headers → false ≡ is_length (field_at buf headers i)
    → lengths (fields_of buf (take (i + 1) headers)) ≡ lengths (fields_of buf (take i headers))
unfolding values
length_other buf headers i within e = lengths_next buf headers i false within e ∙ append-nil (lengths (fields_of buf (take i headers)))

-- the field says the first length
pub length_first : (buf : List ℕ) (headers : List HeaderSpan) (i : ℕ) → i < length headers → true ≡ is_length (field_at buf headers i)
    → lengths (fields_of buf (take i headers)) ≡ [] → lengths (fields_of buf (take (i + 1) headers)) ≡ (field_at buf headers i).1 ∷ []
unfolding values
length_first buf headers i within e none = lengths_next buf headers i true within e ∙ ap (λ l. l ++ (field_at buf headers i).1 ∷ []) none

-- the field says a second length
pub length_second : (buf : List ℕ) (headers : List HeaderSpan) (i : ℕ) (first : List ℕ) → i < length headers → true ≡ is_length (field_at buf headers i)
    → lengths (fields_of buf (take i headers)) ≡ first ∷ [] → Bad Length ≡ framing_by_lengths (lengths (fields_of buf headers))
unfolding values
length_second buf headers i first within e one =
    let behind = drop (i + 1) headers in
    let all : lengths (fields_of buf headers) ≡ first ∷ (field_at buf headers i).1 ∷ lengths (fields_of buf behind) =
    ap (λ l. lengths (fields_of buf l)) (sym (take-append-drop (i + 1) headers))
    ∙ ap lengths (map-append (header_bytes buf) (take (i + 1) headers) behind)
    ∙ lengths-append (fields_of buf (take (i + 1) headers)) (fields_of buf behind)
    ∙ ap (λ l. l ++ lengths (fields_of buf behind)) (lengths_next buf headers i true within e ∙ ap (λ l. l ++ (field_at buf headers i).1 ∷ []) one) in
    sym (ap framing_by_lengths all)

-- each field was seen
pub lengths_all : (buf : List ℕ) (headers : List HeaderSpan) (i : ℕ) → length headers ≤ i → lengths (fields_of buf (take i headers)) ≡ lengths (fields_of buf headers)
lengths_all buf headers i end = ap (λ l. lengths (fields_of buf l)) (take_all i headers end)

-- what was found, as a list
pub some_found : (o : Option (Bor (List ℕ))) → true ≡ is_some o → (v : List ℕ) × (option_to_list (option_copied o) ≡ v ∷ [])
some_found None e = absurd (cc)
some_found (Some v) e = (v.now, refl)

pub none_found : (o : Option (Bor (List ℕ))) → false ≡ is_some o → option_to_list (option_copied o) ≡ []
none_found None e = refl
none_found (Some v) e = absurd (cc)
