-- What comes of a served change: what the book keeps, and the outcome.
use Rattle.std.proofs.Common.{◌≡◌, ℕ, List, [], ◌∷◌, ◌++◌, Some, None, inl, inr, refl, sym, ap, ◌∙◌, subst}
use Rattle.std.specs.Prelude.{Result, Ok, Err, IfOk, IfErr, OnOk, OnErr}
use Rattle.desk_base.specs.declared.rows.tables.Tables.{Tables}
use Rattle.desk_base.specs.declared.rows.bookings.Receipt.{Receipt}
use Rattle.desk_base.specs.declared.asked.acts.Act.{Act}
use Rattle.desk_base.specs.declared.asked.acts.Call.{Call}
use Rattle.desk_base.specs.declared.asked.acts.Entry.{Entry}
use Rattle.desk_base.specs.declared.asked.answers.Query.{Query}
use Rattle.desk_base.specs.declared.asked.answers.Outcome.{Outcome}
use Rattle.desk_base.specs.declared.asked.answers.Command.TheVariants as command
use Rattle.desk_base.specs.declared.asked.answers.Outcome.TheVariants as outcome
use Rattle.desk_base.specs.declared.asked.answers.Reply.TheVariants as reply
use Rattle.desk_base.specs.rules.Sound.{IsSound}
use Rattle.desk_base.specs.asked.Acts.{after_act, receipt_of}
use Rattle.desk_base.specs.asked.Steps.{IsAccepted, IsChanged, IsTurn, kept_receipt, entry_of}
use Rattle.desk_base.specs.asked.Histories.{IsLegal, after_journal}
use Rattle.desk_base.proofs.histories.Journals.{legal_entry}
use Rattle.desk_core.specs.declared.entering.NotEntered.{NotEntered}
use Rattle.desk_core.specs.declared.entering.NotEntered.TheVariants.{Refused, NoMemory}
use Rattle.desk_core.specs.Books.{IsKept}
use Rattle.desk_core.specs.Answering.{IsAnswerOrNone}
use Rattle.desk_core.specs.Entered.{entered_outcome, IsHindrance}

-- ---- a change that is not the caller's last

module _ (opened t : Tables) (journal : List Entry) (pass : ℕ) (call : Call) (a : Act) (fresh : kept_receipt t call ≡ None) where
  -- whatever came of it, the book keeps what it keeps
  pub kept_by : (r : Result Receipt NotEntered) (t' : Tables) (journal' : List Entry) → IsKept opened t journal → OnOk r (IsAccepted t journal call a) → IsSound t'
      → OnOk r (t' ≡ after_act t call a) → OnOk r (journal' ≡ journal ++ entry_of t pass call a ∷ []) → OnErr r (t' ≡ t) → OnErr r (journal' ≡ journal) → IsKept opened t' journal'
  kept_by (Ok receipt) t' journal' kept ok s h k m n =
      let l = legal_entry opened t journal pass call a kept.after kept.legal fresh ok in record {
        sound = s;
        legal = subst (IsLegal opened) (sym k) l.1;
        after = h ∙ l.0 ∙ ap (after_journal opened) (sym k);
      }
  kept_by (Err x) t' journal' kept ok s h k m n = record {
    sound = s;
    legal = subst (IsLegal opened) (sym n) kept.legal;
    after = m ∙ kept.after ∙ ap (after_journal opened) (sym n);
  }

module _ (t : Tables) (journal : List Entry) (pass : ℕ) (call : Call) (a : Act) (fresh : kept_receipt t call ≡ None) where
  -- and the outcome is that of a turn
  pub turn_by : (r : Result Receipt NotEntered) (t' : Tables) (journal' : List Entry) → OnOk r (IsAccepted t journal call a) → IfOk r (λ receipt. receipt ≡ receipt_of t a)
      → OnOk r (t' ≡ after_act t call a) → OnOk r (journal' ≡ journal ++ entry_of t pass call a ∷ []) → IfErr r (IsHindrance t journal call a) → OnErr r (t' ≡ t) → OnErr r (journal' ≡ journal)
      → IsTurn t journal pass (command.Change call a) (entered_outcome r) t' journal'
  turn_by (Ok receipt) t' journal' ok p h k w m n =
      inl (subst (λ o. IsChanged t journal pass call a o (outcome.Done (reply.Change receipt)) t' journal') (sym fresh) (ok, p, (h, k)))
  turn_by (Err (Refused why)) t' journal' ok p h k w m n = inl (subst (λ o. IsChanged t journal pass call a o (outcome.Refused why) t' journal') (sym fresh) (w, (m, n)))
  turn_by (Err NoMemory) t' journal' ok p h k w m n = inr (refl, (m, n))

-- ---- a change that is repeated

pub repeated_turn : (t : Tables) (journal : List Entry) (pass : ℕ) (call : Call) (a : Act) (receipt : Receipt) → Some receipt ≡ kept_receipt t call → IsTurn t journal pass (command.Change call a) (outcome.Repeated receipt) t journal
repeated_turn t journal pass call a receipt e = inl (subst (λ k. IsChanged t journal pass call a k (outcome.Repeated receipt) t journal) e (refl, (refl, refl)))

-- ---- questions

pub asked_turn : (t : Tables) (journal : List Entry) (pass : ℕ) (q : Query) (out : Outcome) → IsAnswerOrNone t journal q out → IsTurn t journal pass (command.Ask q) out t journal
asked_turn t journal pass q out (inl h) = inl (h, (refl, refl))
asked_turn t journal pass q out (inr e) = inr (e, (refl, refl))
