-- Texts that lack a separator, and texts that are cut at it.
use Rattle.std.proofs.Common.{◌≡◌, ◌≢◌, ℕ, ◌<◌, ◌^◌, ◌⊎◌, false, ◌==◌, List, [], ◌∷◌, ◌++◌, get_or, decimal, All, sym, ap, ◌∙◌, arith}
use Rattle.std.specs.List.{slice_split, join_with_byte}
use Rattle.std.proofs.lemmas.Bool.{ne_eqb}
use Rattle.std.proofs.lemmas.List.{get_or_default}
use Rattle.std.proofs.lemmas.List.Elements.{All-nil, All-cons, All-append}
use Rattle.std.proofs.lemmas.List.Splits.{join_with_byte-slice_split}
use Rattle.std.proofs.lemmas.Str.Parse.{not_in_digits}
use Rattle.std.proofs.lemmas.Fmt.{digits_decimal}
use Rattle.desk_json.proofs.DecimalLemmas.{own}

-- no byte of the text is this one
abbrev pub Lacks : ℕ → List ℕ → Type 0
Lacks b text = All (λ x. (x == b) ≡ false) text

pub decimal_lacks : (b n : ℕ) → n < 2 ^ 64 → (b < 48) ⊎ (57 < b) → Lacks b (decimal n)
decimal_lacks b n small no_digit = λ k d within. ne_eqb (get_or (decimal n) k d) b (λ e. not_in_digits own (decimal n) b (digits_decimal own n small) (λ r. omega (arith, r, no_digit)) k within (get_or_default (decimal n) k 0 d within ∙ e))

pub one_lacks : (b x : ℕ) → x ≢ b → Lacks b (x ∷ [])
one_lacks b x differs = All-cons (λ y. (y == b) ≡ false) x [] (ne_eqb x b differs) (All-nil (λ y. (y == b) ≡ false))

pub both_lack : (b : ℕ) (front back : List ℕ) → Lacks b front → Lacks b back → Lacks b (front ++ back)
both_lack b front back free free' = All-append (λ x. (x == b) ≡ false) front back free free'

-- texts with the same pieces are the same
pub same_pieces : (b : ℕ) (text other : List ℕ) → slice_split (λ x. x == b) text ≡ slice_split (λ x. x == b) other → text ≡ other
same_pieces b text other e = sym (join_with_byte-slice_split b text) ∙ ap (join_with_byte b) e ∙ join_with_byte-slice_split b other
