-- Picks that are laid on a view.
use Rattle.std.proofs.Common.{◌≡◌, ℕ, ◌+◌, ◌-◌, ◌≤◌, ◌<◌, inl, inr, List, [], ◌∷◌, ◌++◌, map, take, length, Option, Some, None, refl, sym, ap, ◌∙◌, subst, arith, length-append}
use Rattle.std.proofs.lemmas.Option.{slice_get_cases}
use Rattle.desk_base.specs.declared.search.results.Ask.{Ask}
use Rattle.desk_base.specs.meaning.Load.{Fits}
use Rattle.desk_base.specs.search.Listing.{other_asks, ask_for, asks_for}
use Rattle.desk_need.specs.Cases.{Asked}
use Rattle.desk_load.specs.Views.{ViewParts, standing}
use Rattle.desk_load.specs.Views as views
use Rattle.desk_feasible.specs.Live.{HasLaid}
use Rattle.desk_feasible.proofs.Growing.{choices_nil, choices_none, asks_more}

module _ (a : Asked) (v : ViewParts) (s : ℕ) (picks : List (Option ℕ)) where
  -- what stands in the view are the bookings of the others, and those of the picks
  pub standing_is : HasLaid a v s picks → standing v ≡ other_asks a.tables a.group ++ asks_for a.group s picks
  standing_is h =
      ap (λ t. views.other_asks t v.without ++ v.overlay) h.tables
      ∙ ap (λ w. views.other_asks a.tables w ++ v.overlay) h.without
      ∙ ap (λ l. other_asks a.tables a.group ++ l) h.overlay

  pub fits_laid : HasLaid a v s picks → (x : Ask) → Fits v.tables (standing v ++ x ∷ []) → Fits a.tables ((other_asks a.tables a.group ++ asks_for a.group s picks) ++ x ∷ [])
  fits_laid h x f = subst (λ l. Fits a.tables (l ++ x ∷ [])) (standing_is h) (subst (λ t. Fits t (standing v ++ x ∷ [])) h.tables f)

  pub fits_view : HasLaid a v s picks → (x : Ask) → Fits a.tables ((other_asks a.tables a.group ++ asks_for a.group s picks) ++ x ∷ []) → Fits v.tables (standing v ++ x ∷ [])
  fits_view h x f = subst (λ t. Fits t (standing v ++ x ∷ [])) (sym h.tables) (subst (λ l. Fits a.tables (l ++ x ∷ [])) (sym (standing_is h)) f)

  none_asked : asks_for a.group s (picks ++ None ∷ []) ≡ asks_for a.group s picks
  none_asked = ap (map (ask_for s)) (choices_none 0 a.group.leaves picks)

  pub lay_none : HasLaid a v s picks → length picks + 1 ≤ length a.group.leaves → HasLaid a v s (picks ++ None ∷ [])
  lay_none h few = record { tables = h.tables; without = h.without; overlay = h.overlay ∙ sym none_asked; few = omega (arith, few, length-append picks (None ∷ [])) }

  pub take_none : HasLaid a v s (picks ++ None ∷ []) → HasLaid a v s picks
  take_none h = record { tables = h.tables; without = h.without; overlay = h.overlay ∙ none_asked; few = omega (arith, h.few, length-append picks (None ∷ [])) }

front_of : {A : Type 0} (xs : List A) (x : A) → take (length xs) (xs ++ x ∷ []) ≡ xs
front_of [] x = refl
front_of (y ∷ ys) x = ap (λ l. y ∷ l) (front_of ys x)

take_front : {A : Type 0} (xs : List A) (x : A) → take (length (xs ++ x ∷ []) - 1) (xs ++ x ∷ []) ≡ xs
take_front xs x = ap (λ n. take n (xs ++ x ∷ [])) (omega (arith, length-append xs (x ∷ []))) ∙ front_of xs x

module _ (a : Asked) (v w : ViewParts) (s : ℕ) (picks : List (Option ℕ)) (r : ℕ) (tables : w.tables ≡ v.tables) (without : w.without ≡ v.without) where
  pub lay_some : (x : Ask) → HasLaid a v s picks → length picks + 1 ≤ length a.group.leaves → w.overlay ≡ v.overlay ++ x ∷ [] → asks_for a.group s (picks ++ Some r ∷ []) ≡ asks_for a.group s picks ++ x ∷ [] → HasLaid a w s (picks ++ Some r ∷ [])
  lay_some x h few pushed more = record {
    tables = tables ∙ h.tables;
    without = without ∙ h.without;
    overlay = pushed ∙ ap (λ l. l ++ x ∷ []) h.overlay ∙ sym more;
    few = omega (arith, few, length-append picks (Some r ∷ []));
  }

  pub take_some : HasLaid a v s (picks ++ Some r ∷ []) → w.overlay ≡ take (length v.overlay - 1) v.overlay → HasLaid a w s picks
  take_some h popped =
      let few : length picks < length a.group.leaves = omega (arith, h.few, length-append picks (Some r ∷ [])) in
      elim (slice_get_cases a.group.leaves (length picks)).1 [
        | inl (leaf, _, e, _) ↦ record {
          tables = tables ∙ h.tables;
          without = without ∙ h.without;
          overlay = popped ∙ ap (λ l. take (length l - 1) l) (h.overlay ∙ asks_more a.group s picks leaf r e) ∙ take_front (asks_for a.group s picks) (ask_for s (record { number = 0; leaf = leaf; resource = r }));
          few = omega (arith, few);
        }
        | inr (past, _) ↦ absurd (omega (arith, few, past))
      ]

-- where nothing is laid, the start is none of the view's
pub nothing_laid : (a : Asked) (v : ViewParts) (s t : ℕ) → HasLaid a v s [] → HasLaid a v t []
nothing_laid a v s t h = record {
  tables = h.tables;
  without = h.without;
  overlay = h.overlay ∙ ap (map (ask_for s)) (choices_nil 0 a.group.leaves) ∙ sym (ap (map (ask_for t)) (choices_nil 0 a.group.leaves));
  few = h.few;
}
