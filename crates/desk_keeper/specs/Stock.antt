-- The stores that an opener tells.
use Rattle.std.specs.Prelude.{ℕ, ◌≡◌, ◌≢◌, List, [], ◌∷◌, ◌++◌, Option, Some, None, IfSome}
use Rattle.std.specs.List.{All}
use Rattle.std.specs.Option.{option_map}

-- the stores that it will hand out, each with its path, and those that were given back, in order
pub record Stock (S : Type 0) : Type 0 where
  pub stores : List (List ℕ × S)
  pub given_back : List S

-- no store has the path
abbrev pub HasNone : {S : Type 0} → List ℕ → List (List ℕ × S) → Type 0
HasNone path stores = All (λ x. x.0 ≢ path) stores

-- the first store of the path is taken out
pub record TakesFirst {S : Type 0} (path : List ℕ) (store : S) (old new : List (List ℕ × S)) : Type 0 where
  pub before : List (List ℕ × S)
  pub after : List (List ℕ × S)
  pub taken : old ≡ before ++ (path, store) ∷ after
  pub left : new ≡ before ++ after
  pub first : HasNone path before

-- where the stores are told, the first one of the path is handed out
abbrev pub HandsOut : {S : Type 0} → List ℕ → S → Option (Stock S) → Option (Stock S) → Type 0
HandsOut path store None new = new ≡ None
HandsOut {S} path store (Some old) new = (left : List (List ℕ × S)) × TakesFirst path store old.stores left × (new ≡ Some (record old { stores = left }))

-- where the stores are told, none has the path
abbrev pub LacksPath : {S : Type 0} → List ℕ → Option (Stock S) → Type 0
LacksPath path told = IfSome told (λ s. HasNone path s.stores)

-- with one more store that was given back
abbrev pub with_returned : {S : Type 0} → S → Stock S → Stock S
with_returned store stock = record stock { given_back = stock.given_back ++ store ∷ [] }

-- what is told after a store was given back
abbrev pub after_return : {S : Type 0} → S → Option (Stock S) → Option (Stock S)
after_return {S} store told = option_map {T = Stock S} (with_returned store) told
