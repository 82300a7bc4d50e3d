-- In a legal journal booking numbers go up, and none is given twice.
use Rattle.std.proofs.Common.{◌≡◌, ℕ, ◌+◌, ◌≤◌, ◌<◌, List, [], ◌∷◌, ◌++◌, length, refl, ap, subst, arith, append_assoc}
use Rattle.desk_base.specs.rows.Types.{Tables}
use Rattle.desk_base.specs.declared.asked.acts.Act.{Act}
use Rattle.desk_base.specs.declared.asked.acts.Act.TheVariants as act
use Rattle.desk_base.specs.declared.asked.acts.Call.{Call}
use Rattle.desk_base.specs.declared.asked.acts.Entry.{Entry}
use Rattle.desk_base.specs.changes.Changes.{with_change}
use Rattle.desk_base.specs.asked.Acts.{made_by, receipt_of, after_act}
use Rattle.desk_base.specs.asked.Histories.{after_journal, IsNext, IsLegalFrom, IsLegal, IsNumbered}

after_last : (t : Tables) (call : Call) (a : Act) → (after_act t call a).last_booking ≡ t.last_booking + length (made_by t a)
unfolding after_act with_change
after_last t call a = refl

-- a receipt's numbers come after those that were given
numbers_after : (t : Tables) (a : Act) (n : ℕ) → IsNumbered (receipt_of t a) n → (t.last_booking < n) × (n ≤ t.last_booking + length (made_by t a))
numbers_after t (act.Put row) n h = absurd h
numbers_after t (act.Remove key) n h = absurd h
numbers_after t (act.PutGroup g) n h = absurd h
numbers_after t (act.DropGroup group) n h = absurd h
numbers_after t (act.CancelGroup group) n h = absurd h
numbers_after t (act.BookGroup group start picks) n h = (omega (arith, h.0), omega (arith, h.1))
numbers_after t (act.MoveGroup group start picks) n h = (omega (arith, h.0), omega (arith, h.1))

-- the greatest number ever given never falls
last_up : (t : Tables) (es : List Entry) → t.last_booking ≤ (after_journal t es).last_booking
last_up t [] = omega arith
last_up t (e ∷ es) = let a = after_last t e.call e.act in let b = last_up (after_act t e.call e.act) es in omega (arith, a, b)

-- an entry of a legal journal, over the tables before it, and the journal behind it
legal_at : (t : Tables) (before xs ys : List Entry) (e : Entry) → IsLegalFrom t before (xs ++ e ∷ ys)
    → IsNext (after_journal t xs) (before ++ xs) e × IsLegalFrom (after_act (after_journal t xs) e.call e.act) ((before ++ xs) ++ e ∷ []) ys
legal_at t before [] ys e h = by (before ++ []) (append_none before) h
  where
    append_none : (bs : List Entry) → bs ≡ bs ++ []
    append_none [] = refl
    append_none (b ∷ bs) = ap (λ l. b ∷ l) (append_none bs)

    by : (bs : List Entry) → before ≡ bs → IsNext t before e × IsLegalFrom (after_act t e.call e.act) (before ++ e ∷ []) ys → IsNext t bs e × IsLegalFrom (after_act t e.call e.act) (bs ++ e ∷ []) ys
    by bs same h = subst (λ l. IsNext t l e × IsLegalFrom (after_act t e.call e.act) (l ++ e ∷ []) ys) same h
legal_at t before (x ∷ xs) ys e h =
    let r = legal_at (after_act t x.call x.act) (before ++ x ∷ []) xs ys e h.1 in
    subst (λ l. IsNext (after_journal (after_act t x.call x.act) xs) l e × IsLegalFrom (after_act (after_journal (after_act t x.call x.act) xs) e.call e.act) (l ++ e ∷ []) ys) (append_assoc before (x ∷ []) xs) r

own_numbers : (t : Tables) (before : List Entry) (e : Entry) (n : ℕ) → IsNext t before e → IsNumbered e.receipt n → (t.last_booking < n) × (n ≤ (after_act t e.call e.act).last_booking)
own_numbers t before e n next h =
    let r = numbers_after t e.act n (subst (λ x. IsNumbered x n) (ap (λ (x : Entry). x.receipt) next.entry) h) in
    let a = after_last t e.call e.act in (r.0, omega (arith, r.1, a))

-- a later entry's numbers are above an earlier one's, and these above all that were given before the opening
pub numbers_rise : (opened : Tables) (before between after : List Entry) (e f : Entry) (m n : ℕ) → IsLegal opened (before ++ e ∷ (between ++ f ∷ after)) → IsNumbered e.receipt m → IsNumbered f.receipt n
    → (opened.last_booking < m) × (m < n)
numbers_rise opened before between after e f m n legal first second =
    let p = legal_at opened [] before (between ++ f ∷ after) e legal in
    let q = legal_at (after_act (after_journal opened before) e.call e.act) (([] ++ before) ++ e ∷ []) between after f p.1 in
    let a = own_numbers (after_journal opened before) ([] ++ before) e m p.0 first in
    let b = own_numbers (after_journal (after_act (after_journal opened before) e.call e.act) between) ((([] ++ before) ++ e ∷ []) ++ between) f n q.0 second in
    let c = last_up opened before in
    let d = last_up (after_act (after_journal opened before) e.call e.act) between in
    (omega (arith, a.0, c), omega (arith, a.1, b.0, d))

-- ---- revisions

after_revision : (t : Tables) (call : Call) (a : Act) → (after_act t call a).revision ≡ t.revision + 1
unfolding after_act with_change
after_revision t call a = refl

-- a journal's entries raise the revision one by one
pub journal_revision : (t : Tables) (es : List Entry) → (after_journal t es).revision ≡ t.revision + length es
journal_revision t [] = omega arith
journal_revision t (e ∷ es) = let a = after_revision t e.call e.act in let b = journal_revision (after_act t e.call e.act) es in omega (arith, a, b)

-- the revision of a legal journal's entry counts the entries before it
pub entry_revision : (opened : Tables) (before after : List Entry) (e : Entry) → IsLegal opened (before ++ e ∷ after) → e.revision ≡ opened.revision + length before + 1
entry_revision opened before after e legal =
    let p = legal_at opened [] before after e legal in
    let r = ap (λ (x : Entry). x.revision) p.0.entry in
    let n = journal_revision opened before in omega (arith, r, n)
