-- The statuses of the ends that a good input may have.
use Rattle.std.proofs.Common.{◌≡◌, ℕ, ◌⊎◌, inl, inr, ap, ◌∙◌}
use Rattle.desk_talk.specs.Ends.{EndsWell}
use Rattle.desk_talk.specs.declared.ends.SessionEnd.{SessionEnd}
use Rattle.desk_batch.specs.Runs.{status_of}

pub well_status : (n : ℕ) (how : SessionEnd) → n ≡ status_of how → EndsWell how → (n ≡ 0) ⊎ (n ≡ 10)
well_status n how is (inl closed) = inl (is ∙ ap status_of closed)
well_status n how is (inr (inl none)) = inr (is ∙ ap status_of none)
well_status n how is (inr (inr spent)) = inr (is ∙ ap status_of spent)
