-- One more entry: the tables after a journal with it, and that the journal stays legal.
use Rattle.std.proofs.Common.{◌≡◌, ℕ, List, [], ◌∷◌, ◌++◌, None, refl, sym, ap, ◌∙◌, subst}
use Rattle.std.proofs.lemmas.List.{append_assoc, append-nil}
use Rattle.std.proofs.lemmas.List.Sums.{fold_push}
use Rattle.desk_base.specs.rows.Types.{Tables}
use Rattle.desk_base.specs.declared.asked.acts.Act.{Act}
use Rattle.desk_base.specs.declared.asked.acts.Call.{Call}
use Rattle.desk_base.specs.declared.asked.acts.Entry.{Entry}
use Rattle.desk_base.specs.asked.Acts.{after_act}
use Rattle.desk_base.specs.asked.Steps.{IsAccepted, entry_of, kept_receipt}
use Rattle.desk_base.specs.asked.Histories.{after_journal, IsNext, IsLegalFrom, IsLegal}

-- the tables after a journal with one more entry
pub after_journal-push : (t : Tables) (es : List Entry) (e : Entry) → after_journal t (es ++ e ∷ []) ≡ after_act (after_journal t es) e.call e.act
after_journal-push t es e = fold_push (λ (u : Tables) (d : Entry). after_act u d.call d.act) t es e

legal_from_push : (t : Tables) (before es : List Entry) (e : Entry) → IsLegalFrom t before es → IsNext (after_journal t es) (before ++ es) e → IsLegalFrom t before (es ++ e ∷ [])
legal_from_push t before [] e l n = (subst (λ j. IsNext t j e) (append-nil before) n, tt)
legal_from_push t before (d ∷ es) e l n =
    (l.0, legal_from_push (after_act t d.call d.act) (before ++ d ∷ []) es e l.1 (subst (λ j. IsNext (after_journal (after_act t d.call d.act) es) j e) (sym (append_assoc before (d ∷ []) es)) n))

-- a legal journal stays legal with the entry that a change adds over the tables after it
pub legal_push : (t : Tables) (es : List Entry) (e : Entry) → IsLegal t es → IsNext (after_journal t es) es e → IsLegal t (es ++ e ∷ [])
legal_push t es e l n = legal_from_push t [] es e l n

-- ---- an accepted change

-- over the tables after a legal journal, an accepted change leaves the tables after the journal with its entry, which is legal
pub legal_entry : (opened t : Tables) (journal : List Entry) (pass : ℕ) (call : Call) (a : Act) → t ≡ after_journal opened journal → IsLegal opened journal → kept_receipt t call ≡ None → IsAccepted t journal call a
    → (after_act t call a ≡ after_journal opened (journal ++ entry_of t pass call a ∷ [])) × IsLegal opened (journal ++ entry_of t pass call a ∷ [])
legal_entry opened t journal pass call a e l k h = (
  ap (λ u. after_act u call a) e ∙ sym (after_journal-push opened journal (entry_of t pass call a)),
  legal_push opened journal (entry_of t pass call a) l (subst (λ u. IsNext u journal (entry_of t pass call a)) e (record { fresh = k; accepted = h; entry = refl })),
)
