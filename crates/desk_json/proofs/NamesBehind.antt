-- Names that stand behind a front.
use Rattle.std.proofs.Common.{◌≡◌, ◌≢◌, ℕ, List, [], ◌∷◌, ◌++◌, Bool, true, false, bytes_eq, refl, sym, ap, ◌∙◌}
use Rattle.std.proofs.lemmas.Slice.Eq.{bytes_eq-Decides}

same_tests : (b c : Bool) → (b ≡ true → c ≡ true) → (c ≡ true → b ≡ true) → b ≡ c
same_tests true c to from = sym (to refl)
same_tests false true to from = from refl
same_tests false false to from = refl

same_rests : (front a b : List ℕ) → front ++ a ≡ front ++ b → a ≡ b
same_rests [] a b e = e
same_rests (x ∷ front) a b e = same_rests front a b (cc)

-- a text behind the front is the name where the whole is
pub is_named : (front name text rest : List ℕ) → text ≡ front ++ rest → bytes_eq rest name ≡ bytes_eq (front ++ name) text
is_named front name text rest e =
    same_tests (bytes_eq rest name) (bytes_eq (front ++ name) text)
    (λ t. (bytes_eq-Decides (front ++ name) text).1 (sym (e ∙ ap (λ l. front ++ l) ((bytes_eq-Decides rest name).0 t))))
    (λ t. (bytes_eq-Decides rest name).1 (same_rests front rest name (sym e ∙ sym ((bytes_eq-Decides (front ++ name) text).0 t))))

-- no name stands where the front does not
pub none_named : (front name text : List ℕ) → ((rest : List ℕ) → text ≢ front ++ rest) → false ≡ bytes_eq (front ++ name) text
none_named front name text none =
    same_tests false (bytes_eq (front ++ name) text) (λ e. cc) (λ t. absurd (none name (sym ((bytes_eq-Decides (front ++ name) text).0 t))))
