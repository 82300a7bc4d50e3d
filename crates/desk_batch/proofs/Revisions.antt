-- Along turns the revision never falls, and rises exactly with each accepted change; so where it is the same, the tables are.
use Rattle.std.proofs.Common.{◌≡◌, ℕ, ◌+◌, ◌≤◌, ◌⊎◌, List, [], ◌∷◌, Option, Some, None, inl, inr, refl, sym, ap, subst, ◌∙◌, arith}
use Rattle.desk_base.specs.declared.rows.tables.Tables.{Tables}
use Rattle.desk_base.specs.declared.rows.bookings.Receipt.{Receipt}
use Rattle.desk_base.specs.declared.asked.acts.Act.{Act}
use Rattle.desk_base.specs.declared.asked.acts.Call.{Call}
use Rattle.desk_base.specs.declared.asked.acts.Change.{Change as Changes}
use Rattle.desk_base.specs.declared.asked.acts.Entry.{Entry}
use Rattle.desk_base.specs.declared.asked.answers.Answer.{Answer}
use Rattle.desk_base.specs.declared.asked.answers.Command.{Command}
use Rattle.desk_base.specs.declared.asked.answers.Command.TheVariants.{Ask, Change}
use Rattle.desk_base.specs.declared.asked.answers.Reply.TheVariants as reply
use Rattle.desk_base.specs.declared.asked.answers.Outcome.{Outcome}
use Rattle.desk_base.specs.declared.asked.answers.Outcome.TheVariants.{Done, Repeated, Refused, NoMemory}
use Rattle.desk_base.specs.asked.Acts.{after_act, change_of}
use Rattle.desk_base.specs.changes.Changes.{with_change}
use Rattle.desk_base.specs.rules.Sound.{IsSound}
use Rattle.desk_base.specs.asked.Steps.{kept_receipt, IsJudged, IsChanged, IsStep}
use Rattle.desk_core.specs.Books.{BookState}
use Rattle.desk_batch.specs.Shown.{Taken, Told, IsTold, AreTold, HasStood}
use Rattle.desk_batch.specs.Turns.{OwnTurn}

with_change-revision : (t : Tables) (c : Changes) → (with_change t c).revision ≡ c.revision
unfolding with_change
with_change-revision t c = refl

after_act-revision : (t : Tables) (call : Call) (a : Act) → (after_act t call a).revision ≡ t.revision + 1
unfolding after_act
after_act-revision t call a = with_change-revision t (change_of t call a)

-- the tables stay, or the revision goes up by one
abbrev StaysOrRises : Tables → Tables → Type 0
StaysOrRises t u = (u ≡ t) ⊎ (u.revision ≡ t.revision + 1)

judged : (t : Tables) (journal : List Entry) (pass : ℕ) (call : Call) (a : Act) (out : Outcome) (u : Tables) (journal' : List Entry) → IsJudged t journal pass call a out u journal' → StaysOrRises t u
judged t journal pass call a (Done (reply.Change receipt)) u journal' x = inr (ap (λ v. v.revision) x.2.0 ∙ after_act-revision t call a)
judged t journal pass call a (Done (reply.Rows page)) u journal' x = absurd x
judged t journal pass call a (Done (reply.Journal summaries)) u journal' x = absurd x
judged t journal pass call a (Done reply.Revision) u journal' x = absurd x
judged t journal pass call a (Repeated receipt) u journal' x = absurd x
judged t journal pass call a (Refused why) u journal' x = inl x.1.0
judged t journal pass call a NoMemory u journal' x = absurd x

changed : (t : Tables) (journal : List Entry) (pass : ℕ) (call : Call) (a : Act) (kept : Option Receipt) (out : Outcome) (u : Tables) (journal' : List Entry) → IsChanged t journal pass call a kept out u journal' → StaysOrRises t u
changed t journal pass call a (Some kept) out u journal' x = inl x.1.0
changed t journal pass call a None out u journal' x = judged t journal pass call a out u journal' x

stepped : (t : Tables) (journal : List Entry) (pass : ℕ) (c : Command) (out : Outcome) (u : Tables) (journal' : List Entry) → IsStep t journal pass c out u journal' → StaysOrRises t u
stepped t journal pass (Change call a) out u journal' x = changed t journal pass call a (kept_receipt t call) out u journal' x
stepped t journal pass (Ask q) out u journal' x = inl x.1.0

turned : (s : BookState) (c : Command) (a : Answer) (t : BookState) → OwnTurn s c a t → StaysOrRises s.tables t.tables
turned s c a t x = elim x.step [ inl step ↦ stepped s.tables s.journal 0 c a.outcome t.tables t.journal step | inr stays ↦ inl stays.1.0 ]

-- a later book has no lower revision, and where it has the same, the same tables
record IsLater (s t : Tables) : Type 0 where
  low : s.revision ≤ t.revision
  same : s.revision ≡ t.revision → s ≡ t

later_self : (t : Tables) → IsLater t t
later_self t = record { low = omega arith; same = λ e. refl }

later_step : (s t u : Tables) → StaysOrRises s t → IsLater t u → IsLater s u
later_step s t u (inl stays) l = subst (λ x. IsLater x u) stays l
later_step s t u (inr rises) l = record { low = omega (arith, rises, l.low); same = λ e. absurd (omega (arith, rises, l.low, e)) }

told_later : (s : BookState) (x : Told) → IsTold s x.turn x.request x.response x.after → StaysOrRises s.tables x.after.tables
told_later s x = tells x.turn
  where
    tells : (turn : Option Taken) → IsTold s turn x.request x.response x.after → StaysOrRises s.tables x.after.tables
    tells None told = inl (ap (λ b. b.tables) told.3)
    tells (Some taken) told = turned s taken.command taken.answer x.after told.1

later : (s : BookState) (xs : List Told) (b : BookState) → AreTold s xs → HasStood s xs b → IsLater s.tables b.tables
later s [] b told stood = subst (λ (c : BookState). IsLater s.tables c.tables) (sym stood) (later_self s.tables)
later s (x ∷ xs) b told (inl here) = subst (λ (c : BookState). IsLater s.tables c.tables) (sym here) (later_self s.tables)
later s (x ∷ xs) b told (inr stood) = later_step s.tables x.after.tables b.tables (told_later s x told.0) (later x.after xs b told.1 stood)

-- two books of one conversation at one revision have the same tables
pub same_tables : (s : BookState) (xs : List Told) (b c : BookState) → AreTold s xs → HasStood s xs b → HasStood s xs c → b.tables.revision ≡ c.tables.revision → b.tables ≡ c.tables
same_tables s [] b c told at at' e = ap (λ d. d.tables) (at ∙ sym at')
same_tables s (x ∷ xs) b c told (inl here) at' e =
    let revision : s.tables.revision ≡ c.tables.revision = ap (λ (d : BookState). d.tables.revision) (sym here) ∙ e in
    ap (λ d. d.tables) here ∙ (later s (x ∷ xs) c told at').same revision
same_tables s (x ∷ xs) b c told (inr at) (inl here) e =
    let revision : s.tables.revision ≡ b.tables.revision = ap (λ (d : BookState). d.tables.revision) (sym here) ∙ sym e in
    sym (ap (λ d. d.tables) here ∙ (later s (x ∷ xs) b told (inr at)).same revision)
same_tables s (x ∷ xs) b c told (inr at) (inr at') e = same_tables x.after xs b c told.1 at at' e

-- the books of a conversation over sound tables are sound
pub sound_stood : (s : BookState) (xs : List Told) (b : BookState) → IsSound s.tables → AreTold s xs → HasStood s xs b → IsSound b.tables
sound_stood s [] b sound told stood = subst (λ (c : BookState). IsSound c.tables) (sym stood) sound
sound_stood s (x ∷ xs) b sound told (inl here) = subst (λ (c : BookState). IsSound c.tables) (sym here) sound
sound_stood s (x ∷ xs) b sound told (inr stood) = sound_stood x.after xs b (after x.turn told.0) told.1 stood
  where
    after : (turn : Option Taken) → IsTold s turn x.request x.response x.after → IsSound x.after.tables
    after None told = subst (λ (c : BookState). IsSound c.tables) (sym told.3) sound
    after (Some taken) told = told.1.kept.sound
