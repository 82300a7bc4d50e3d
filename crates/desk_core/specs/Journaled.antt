-- A journal whose entries raise the revision one by one.
use Rattle.std.specs.Prelude.{ℕ, ◌≡◌, ◌+◌, List, [], ◌∷◌, length, ⊤}
use Rattle.desk_base.specs.declared.asked.acts.Entry.{Entry}

-- the revisions of the entries go on from n
abbrev pub NumberedFrom : ℕ → List Entry → Type 0
NumberedFrom n [] = ⊤
NumberedFrom n (e ∷ es) = (e.revision ≡ n + 1) × NumberedFrom (n + 1) es

-- the revisions of the entries go on from one before them, and the last is this one
pub record AreNumbered (revision : ℕ) (journal : List Entry) : Type 0 where
  pub before : ℕ
  pub ends : revision ≡ before + length journal
  pub each : NumberedFrom before journal
