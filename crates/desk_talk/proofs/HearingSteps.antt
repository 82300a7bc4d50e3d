-- What a loop that hears has taken, and that it takes nothing where a whole request is there.
use Rattle.std.proofs.Common.{◌≡◌, ◌≢◌, ℕ, ◌+◌, List, [], ◌++◌, length, Option, None, ap, ◌∙◌, subst, append_assoc, arith, length-append}
use Rattle.std.proofs.KnownBytes.{Consumes-trans}
use Rattle.std.specs.Io.KnownBytes.{Consumes}
use Rattle.desk_wire.specs.Fed.{Fed}
use Rattle.desk_wire.specs.Framers.{end_of}
use Rattle.desk_wire.specs.Requests.{IsOpen, Frames, cut}
use Rattle.desk_wire.specs.declared.rules.Next.{Next}
use Rattle.desk_wire.specs.declared.rules.Next.TheVariants as next
use Rattle.desk_wire.proofs.Cuts.{IsWhole-shorter}
use Rattle.desk_wire.proofs.Unique.{whole_goes_on}
use Rattle.desk_talk.specs.Hearing.{BeginsWhole}

-- these bytes were taken, and fed
pub record Fills (old new : Option (List ℕ)) (before after : ℕ) (fed now : Fed) : Type 0 where
  pub more : List ℕ
  pub taken : Consumes old new more
  pub count : after ≡ before + length more
  pub rest : now.rest ≡ fed.rest ++ more
  pub waits : now.ended ≡ None

-- where a whole request was there, nothing was taken or fed
abbrev pub IsUntouched : {S : Type 0} → S → S → ℕ → ℕ → Fed → Fed → Type 0
IsUntouched old new before after fed now = BeginsWhole fed.rest → (new ≡ old) × (after ≡ before) × (now.rest ≡ fed.rest)

-- one piece more
pub fills_more : {old mid new : Option (List ℕ)} {before taken n : ℕ} {fed at now : Fed} (front : Fed) (had : Fills old mid before taken fed at) → front.rest ≡ at.rest → front.ended ≡ None
    → (more : List ℕ) × Consumes mid new more × (length more ≡ n) × (now.rest ≡ front.rest ++ more) × (now.ended ≡ front.ended) → Fills old new before (taken + n) fed now
fills_more {old = old} {mid = mid} {new = new} {fed = fed} front had same waits got = record {
  more = had.more ++ got.0;
  taken = Consumes-trans old mid new had.more got.0 had.taken got.1;
  count = omega (arith, had.count, got.2, length-append had.more got.0);
  rest = got.3 ∙ ap (λ r. r ++ got.0) (same ∙ had.rest) ∙ append_assoc fed.rest had.more got.0;
  waits = got.4 ∙ waits;
}

-- a framer that answers that it wants more bytes
pub wants_more : (old : Fed) (answer : Next) (new : Fed) → answer ≡ next.More → Frames old.rest answer new.rest × (new.ended ≡ end_of answer)
    → IsOpen old.rest × (new.rest ≡ old.rest) × (new.ended ≡ None)
wants_more old answer new is framed =
    let more = subst (λ a. Frames old.rest a new.rest × (new.ended ≡ end_of a)) is framed in
    (more.0.0, more.0.1, more.1)

-- what begins with a whole request does not wait for more
pub whole_waits_not : (bytes : List ℕ) → BeginsWhole bytes → IsOpen bytes → ⊥
whole_waits_not bytes whole waits = whole_goes_on bytes whole.0 whole.1 cut whole.2 (some, waits)
  where
    some : bytes ≢ []
    some e = omega (arith, IsWhole-shorter bytes whole.0 whole.1 whole.2, ap length e)

-- so a stream that waits, and of which nothing was taken if it began so, did not
pub none_whole : {A B : Type 0} (fed rest : List ℕ) → (BeginsWhole fed → A × B × (rest ≡ fed)) → IsOpen rest → BeginsWhole fed → ⊥
none_whole fed rest first waits whole = whole_waits_not fed whole (subst IsOpen (first whole).2 waits)
