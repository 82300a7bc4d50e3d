-- Entries that raise the revision one by one: those above a revision are the last ones.
use Rattle.std.proofs.Common.{◌≡◌, ℕ, zero, suc, ◌+◌, ◌-◌, ◌<◌, ◌≤◌, true, false, cond, nat_lt, min, List, [], ◌∷◌, filter, length, drop, refl, sym, ap, ◌∙◌, subst, arith}
use Rattle.std.proofs.lemmas.List.{drop_min}
use Rattle.std.proofs.lemmas.Bool.Decides.{nat_tests}
use Rattle.desk_base.specs.declared.rows.tables.Tables.{Tables}
use Rattle.desk_base.specs.declared.asked.acts.Act.{Act}
use Rattle.desk_base.specs.declared.asked.acts.Call.{Call}
use Rattle.desk_base.specs.declared.asked.acts.Entry.{Entry}
use Rattle.desk_base.specs.changes.Changes.{with_change}
use Rattle.desk_base.specs.asked.Acts.{after_act}
use Rattle.desk_base.specs.asked.Histories.{IsLegal, IsLegalFrom, after_journal}
use Rattle.desk_base.proofs.histories.Numbers.{journal_revision}
use Rattle.desk_core.specs.Journaled.{NumberedFrom, AreNumbered}

abbrev above : ℕ → List Entry → List Entry
above n es = filter (λ (e : Entry). nat_lt n e.revision) es

-- where the entries go on from a revision that is not below, all are above it
all_above : (from n : ℕ) (es : List Entry) → from ≤ n → NumberedFrom n es → above from es ≡ es
all_above from n [] b h = refl
all_above from n (e ∷ es) b h =
    ap (λ c. cond c (e ∷ above from es) (above from es)) (is_above from e.revision (let r = h.0 in omega (arith, r))) ∙ ap (λ l. e ∷ l) (all_above from (n + 1) es (omega arith) h.1)
  where
    is_above : (a b : ℕ) → a < b → nat_lt a b ≡ true
    is_above a b l = grind (arith, nat_tests)

-- the first entries are not above it
pub last_above : (from n : ℕ) (es : List Entry) → NumberedFrom n es → above from es ≡ drop (from - n) es
last_above from n [] h = by (from - n)
  where
    by : (k : ℕ) → [] ≡ drop {A = Entry} k []
    by zero = refl
    by (suc k) = refl
last_above from n (e ∷ es) h = by (from - n) refl (last_above from (n + 1) es h.1)
  where
    is_not : (a b : ℕ) → b ≤ a → nat_lt a b ≡ false
    is_not a b l = grind (arith, nat_tests)

    by : (k : ℕ) → from - n ≡ k → above from es ≡ drop (from - (n + 1)) es → above from (e ∷ es) ≡ drop k (e ∷ es)
    by zero q rest = all_above from n (e ∷ es) (omega (arith, q)) h
    by (suc k) q rest =
        let less : from - (n + 1) ≡ k = omega (arith, q) in
        ap (λ c. cond c (e ∷ above from es) (above from es)) (is_not from e.revision (let r = h.0 in omega (arith, r, q))) ∙ rest ∙ ap (λ j. drop j es) less

-- the entries above a revision, where the last has the revision `last`
pub entries_above : (last from : ℕ) (es : List Entry) → AreNumbered last es → drop (min (from - (last - length es)) (length es)) es ≡ above from es
entries_above last from es h =
    let first : last - length es ≡ h.before = (let e = h.ends in omega (arith, e)) in
    drop_min (from - (last - length es)) es ∙ ap (λ n. drop (from - n) es) first ∙ sym (last_above from h.before es h.each)

-- ---- a legal journal

after_revision : (t : Tables) (call : Call) (a : Act) → (after_act t call a).revision ≡ t.revision + 1
unfolding after_act with_change
after_revision t call a = refl

numbered_from : (t : Tables) (before es : List Entry) → IsLegalFrom t before es → NumberedFrom t.revision es
numbered_from t before [] h = tt
numbered_from t before (e ∷ es) h = (
  ap (λ (x : Entry). x.revision) h.0.entry,
  subst (λ n. NumberedFrom n es) (after_revision t e.call e.act) (numbered_from (after_act t e.call e.act) _ es h.1),
)

pub legal_numbered : (opened t : Tables) (journal : List Entry) → t ≡ after_journal opened journal → IsLegal opened journal → AreNumbered t.revision journal
legal_numbered opened t journal e l = record {
  before = opened.revision;
  ends = ap (λ (u : Tables). u.revision) e ∙ journal_revision opened journal;
  each = numbered_from opened [] journal l;
}
