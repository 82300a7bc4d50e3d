-- The first store of a path, taken out of a list.
use Rattle.std.proofs.Common.{◌≡◌, ℕ, suc, ◌<◌, List, ◌∷◌, ◌++◌, length, take, drop, get_or, slice_get, Some, IfSome, ap, sym, subst, refl, ◌∙◌}
use Rattle.std.specs.List.{All}
use Rattle.std.proofs.Math.Seq.{split_at}
use Rattle.std.proofs.lemmas.List.Elements.{All-append, All-take, All-drop, All-get_or}
use Rattle.std.proofs.lemmas.Option.{slice_get_read}
use Rattle.desk_keeper.specs.Stock.{HasNone, TakesFirst}

-- what stands at the first place with the path is taken out, and the others stay
pub takes_first : {S : Type 0} (path : List ℕ) (stored : List ℕ × S) (old new : List (List ℕ × S)) (at : ℕ) → at < length old → IfSome (slice_get old at) (λ x. x.0 ≡ path) → HasNone path (take at old) → stored ≡ get_or old at stored → new ≡ take at old ++ drop (suc at) old → TakesFirst path stored.1 old new
takes_first path stored old new at within found none is left =
    let there : slice_get old at ≡ Some stored = slice_get_read old (length old) at stored refl within is in
    let own : stored.0 ≡ path = subst (λ o. IfSome o (λ x. x.0 ≡ path)) there found in
    record {
      before = take at old;
      after = drop (suc at) old;
      taken = split_at old at stored within ∙ ap (λ x. take at old ++ x ∷ drop (suc at) old) (sym is ∙ ap (λ p. (p, stored.1)) own);
      left = left;
      first = none;
    }

-- what holds of each element holds of the one that is taken out
pub holds_of_taken : {X : Type 0} (P : X → Type 0) (x : X) (old : List X) (at : ℕ) → at < length old → x ≡ get_or old at x → All P old → P x
holds_of_taken P x old at within is all = subst P (sym is) (All-get_or P old at x within all)

-- and of those that are left
pub holds_of_left : {X : Type 0} (P : X → Type 0) (old new : List X) (at : ℕ) → new ≡ take at old ++ drop (suc at) old → All P old → All P new
holds_of_left P old new at left all = subst (All P) (sym left) (All-append P (take at old) (drop (suc at) old) (All-take P at old all) (All-drop P (suc at) old all))
