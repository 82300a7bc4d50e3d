-- Objects whose members are there or not.
use Rattle.std.proofs.Common.{◌≡◌, ℕ, ◌≤◌, Bool, true, ◌&&◌, List, [], ◌∷◌, Option, Some, None, Ordering, Less, Equal, Greater, nat_cmp, refl, ◌∙◌, arith}
use Rattle.std.specs.Bool.{⊤}
use Rattle.std.specs.Ordering.{match_ordering}
use Rattle.std.specs.Cmp.Lexicographic.{slice_cmp}
use Rattle.std.proofs.lemmas.Bool.{and_parts}
use Rattle.json.proofs.Printed.Utf8.{are_ascii}
use Rattle.serde_json.specs.Data.{Data, depth, members_depth}
use Rattle.serde_json.specs.Find.{get_member}
use Rattle.desk_json.specs.Forms.{is_among, members_among}
use Rattle.desk_kept.specs.Leaves.{present}
use Rattle.desk_kept.proofs.ReadBack.{IsSound, HasSound, is_after, all_after, rises, both}

abbrev pub Entries : Type 0
Entries = List (List ℕ × Option Data)

-- ---- what stands under a name

abbrev pub first_of_two : Option Data → Option Data → Option Data
first_of_two (Some d) later = Some d
first_of_two None later = later

abbrev pub look : List ℕ → Entries → Option Data
look k [] = None
look k ((l, o) ∷ es) = match_ordering (slice_cmp nat_cmp k l) (look k es) (first_of_two o (look k es)) (look k es)

same_arms : (o : Ordering) (x : Option Data) → x ≡ match_ordering o x x x
same_arms Less x = refl
same_arms Equal x = refl
same_arms Greater x = refl

pub get_present : (k : List ℕ) (es : Entries) → get_member k (present es) ≡ look k es
get_present k [] = refl
get_present k ((l, Some d) ∷ es) = rw (get_present k es) refl
get_present k ((l, None) ∷ es) = get_present k es ∙ same_arms (slice_cmp nat_cmp k l) (look k es)

pub first_alone : (o : Option Data) → first_of_two o None ≡ o
first_alone (Some d) = refl
first_alone None = refl

-- ---- names

abbrev pub entries_among : List (List ℕ) → Entries → Bool
entries_among names [] = true
entries_among names (e ∷ es) = is_among names e.0 && entries_among names es

pub among_present : (names : List (List ℕ)) (es : Entries) → entries_among names es ≡ true → members_among names (present es) ≡ true
among_present names [] h = refl
among_present names ((l, Some d) ∷ es) h = let p = and_parts (is_among names l) (entries_among names es) h in both (is_among names l) (members_among names (present es)) p.0 (among_present names es p.1)
among_present names ((l, None) ∷ es) h = among_present names es (and_parts (is_among names l) (entries_among names es) h).1

abbrev pub entries_after : List ℕ → Entries → Bool
entries_after k [] = true
entries_after k (e ∷ es) = is_after (slice_cmp nat_cmp e.0 k) && entries_after k es

abbrev pub entries_rise : Entries → Bool
entries_rise [] = true
entries_rise (e ∷ es) = entries_after e.0 es && entries_rise es

after_present : (k : List ℕ) (es : Entries) → entries_after k es ≡ true → all_after k (present es) ≡ true
after_present k [] h = refl
after_present k ((l, Some d) ∷ es) h =
    let p = and_parts (is_after (slice_cmp nat_cmp l k)) (entries_after k es) h in both (is_after (slice_cmp nat_cmp l k)) (all_after k (present es)) p.0 (after_present k es p.1)
after_present k ((l, None) ∷ es) h = after_present k es (and_parts (is_after (slice_cmp nat_cmp l k)) (entries_after k es) h).1

pub present_rises : (es : Entries) → entries_rise es ≡ true → rises (present es) ≡ true
present_rises [] h = refl
present_rises ((l, Some d) ∷ es) h = let p = and_parts (entries_after l es) (entries_rise es) h in both (all_after l (present es)) (rises (present es)) (after_present l es p.0) (present_rises es p.1)
present_rises ((l, None) ∷ es) h = present_rises es (and_parts (entries_after l es) (entries_rise es) h).1

-- ---- sound members

-- a value that is there is sound and nests so deep at most
abbrev pub IsFine : ℕ → Option Data → Type 0
IsFine n (Some d) = IsSound d × (depth d ≤ n)
IsFine n None = ⊤

abbrev pub AreFine : ℕ → Entries → Type 0
AreFine n [] = ⊤
AreFine n (e ∷ es) = (are_ascii e.0 ≡ true) × IsFine n e.1 × AreFine n es

pub present_fine : (n : ℕ) (es : Entries) → AreFine n es → HasSound (present es) × (members_depth (present es) ≤ n)
present_fine n [] h = (tt, omega arith)
present_fine n ((l, Some d) ∷ es) h = let rest = present_fine n es h.2 in ((h.0, h.1.0, rest.0), omega (arith, h.1.1, rest.1))
present_fine n ((l, None) ∷ es) h = present_fine n es h.2
