-- What the least broken key of a table says of a rule.
use Rattle.std.proofs.Common.{◌≡◌, true, false, ◌∷◌, length, Some, None, inl, inr, refl, sym, ap, ◌∙◌, subst, is_none}
use Rattle.std.proofs.lemmas.Bool.{false≢true}
use Rattle.std.specs.Prelude.{Contains}
use Rattle.std.specs.List.{slice_get}
use Rattle.std.specs.Ordering.{is_lt}
use Rattle.std.specs.declared.cmp.Ordering.TheVariants.{Less}
use Rattle.desk_base.specs.declared.rows.tables.Tables.{Tables}
use Rattle.desk_base.specs.declared.rows.tables.Table.{Table}
use Rattle.desk_base.specs.declared.rows.tables.Key.{Key}
use Rattle.desk_base.specs.declared.rows.tables.AnyRow.{AnyRow}
use Rattle.desk_base.specs.declared.asked.rules.TableRule.{TableRule}
use Rattle.desk_base.specs.declared.asked.rules.TableRule.TheVariants.{Order, Limit, Field, Citation, Fits as FitsRule, Booked, Count}
use Rattle.desk_base.specs.rules.Sound.{Keeps, keeps_fields}
use Rattle.desk_base.specs.rules.TableLimits.{limit_of}
use Rattle.desk_base.specs.asked.Refusing.{is_there, is_key}
use Rattle.desk_base.specs.rows.Keys.{key_cmp}
use Rattle.desk_base.specs.rows.Rows.{rows_in, keys_in, key_of, citations_of}
use Rattle.desk_base.proofs.lists.Members.{IsIn, in_right, in_mapped, in_from_contains, contains_from_in}
use Rattle.desk_base.proofs.lists.Orders.{not_itself}
use Rattle.desk_base.proofs.lists.Tests.{list_all_at, list_all_from, list_any_at, list_any_from}
use Rattle.desk_base.proofs.tables.KeyOrder.{is_key-same, is_key-itself}
use Rattle.desk_base.proofs.tables.Sounds.{key_table, key_total}
use Rattle.desk_rules.specs.Broken.{cites_there, IsReady, broken_in}
use Rattle.desk_rules.proofs.Unordered.{either, less, IsUnordered, none_unordered, least_is_unordered, least_is_least}
use Rattle.desk_rules.proofs.Missing.{none_missing}
use Rattle.desk_rules.proofs.Firsts.{got_at, cut_got, none_fails, first_fails}

-- at this key of the table the rule is broken, and at each lesser key of the table it is kept
pub record IsLeastIn (rule : TableRule) (t : Tables) (table : Table) (k : Key) : Type 0 where
  pub in_table : k.table ≡ table
  pub broken : Keeps rule t k → ⊥
  pub least : (j : Key) → j.table ≡ table → key_cmp j k ≡ Less → Keeps rule t j

-- ---- order

kept_order : (t : Tables) (k : Key) → (IsUnordered (keys_in t k.table) k → ⊥) → Keeps Order t k
kept_order t k h before after j e = elim (either (is_lt (key_cmp j k))) [
  | inl f ↦ less (key_cmp j k) f
  | inr f ↦ absurd (h (record { before = before; last = j; after = after; cut = e; fault = f }))
]

unordered_in : (t : Tables) (table : Table) (k : Key) → IsUnordered (keys_in t table) k → k.table ≡ table
unordered_in t table k u = key_table t table k (subst (IsIn k) (sym u.cut) (in_right k u.before (u.last ∷ k ∷ u.after) (inr (inl refl))))

least_order : (t : Tables) (table : Table) (k : Key) → broken_in Order t table ≡ Some k → IsLeastIn Order t table k
least_order t table k e =
    let u = least_is_unordered (keys_in t table) k e in
    let here = unordered_in t table k u in
    record {
      in_table = here;
      broken = λ keeps. false≢true (sym u.fault ∙ ap is_lt (keeps u.before u.after u.last (ap (keys_in t) here ∙ u.cut)));
      least = λ j i l. kept_order t j (λ v. false≢true (sym (least_is_least (keys_in t table) k e j (subst (λ x. IsUnordered (keys_in t x) j) i v)) ∙ ap is_lt l));
    }

-- ---- limits

least_limit : (t : Tables) (table : Table) (k : Key) → broken_in Limit t table ≡ Some k → IsLeastIn Limit t table k
least_limit t table k e =
    let c = cut_got (keys_in t table) (limit_of table) k e in
    let here = key_table t table k (subst (IsIn k) (sym c.cut) (in_right k c.before (k ∷ c.after) (inl refl))) in
    record {
      in_table = here;
      broken = λ keeps. keeps c.before c.after (ap (keys_in t) here ∙ c.cut) (c.place ∙ sym (ap limit_of here));
      least = λ j i l before after f g.
          let got = ap (λ x. slice_get (keys_in t x) (limit_of x)) (sym i) ∙ ap (λ n. slice_get (keys_in t j.table) n) (sym g) ∙ ap (λ l. slice_get l (length before)) f ∙ got_at before after j in
          let same : Some j ≡ Some k = sym got ∙ e in
          not_itself key_cmp key_total j (ap (key_cmp j) (one j k same) ∙ l);
    }
  where
    one : (j k : Key) → Some j ≡ Some k → j ≡ k
    one j k f = cc

-- ---- field and tree rules

fails_field : (t : Tables) (k : Key) (row : AnyRow) → IsIn row (rows_in t k.table) → key_of row ≡ k → keeps_fields t row ≡ false → Keeps Field t k → ⊥
fails_field t k row i e f keeps = false≢true (sym f ∙ keeps row (contains_from_in (rows_in t k.table) row i) e)

-- ---- citations

there_from : (t : Tables) (k : Key) → Contains (keys_in t k.table) k → is_there t k ≡ true
there_from t k c = list_any_from (is_key k) (keys_in t k.table) k (in_from_contains (keys_in t k.table) k c) (is_key-itself k)

there_is : (t : Tables) (k : Key) → is_there t k ≡ true → Contains (keys_in t k.table) k
there_is t k e =
    let h = list_any_at (is_key k) (keys_in t k.table) e in
    subst (Contains (keys_in t k.table)) (sym (is_key-same k h.0 h.2)) (contains_from_in (keys_in t k.table) h.0 h.1)

fails_citation : (t : Tables) (k : Key) (row : AnyRow) → IsIn row (rows_in t k.table) → key_of row ≡ k → cites_there t row ≡ false → Keeps Citation t k → ⊥
fails_citation t k row i e f keeps =
    false≢true (sym f ∙ none_missing t (citations_of row) ∙ list_all_from (is_there t) (citations_of row) (λ c j. there_from t c (keeps row c (contains_from_in (rows_in t k.table) row i) e (contains_from_in (citations_of row) c j))))

passes_citation : (t : Tables) (row : AnyRow) → cites_there t row ≡ true → (c : Key) → Contains (citations_of row) c → Contains (keys_in t c.table) c
passes_citation t row e c i = there_is t c (list_all_at (is_there t) (citations_of row) c (sym (none_missing t (citations_of row)) ∙ e) (in_from_contains (citations_of row) c i))

-- ---- each rule

in_own : (t : Tables) (table : Table) (row : AnyRow) → IsIn row (rows_in t table) → (key_of row).table ≡ table
in_own t table row i = key_table t table (key_of row) (in_mapped key_of row (rows_in t table) i)

-- a row of the key's table, among those of a table that is the same
moved : (t : Tables) (table : Table) (k : Key) (row : AnyRow) → k.table ≡ table → Contains (rows_in t k.table) row → IsIn row (rows_in t table)
moved t table k row e c = subst (λ x. IsIn row (rows_in t x)) e (in_from_contains (rows_in t k.table) row c)

pub kept_in : (rule : TableRule) (t : Tables) (table : Table) → IsReady rule t → broken_in rule t table ≡ None → (k : Key) → k.table ≡ table → Keeps rule t k
kept_in Order t table r e k i = kept_order t k (λ u. none_unordered (keys_in t table) e k (subst (λ x. IsUnordered (keys_in t x) k) i u))
kept_in Limit t table r e k i = λ before after f g.
    let got = ap (λ x. slice_get (keys_in t x) (limit_of x)) (sym i) ∙ ap (λ n. slice_get (keys_in t k.table) n) (sym g) ∙ ap (λ l. slice_get l (length before)) f ∙ got_at before after k in
    let same : Some k ≡ None = sym got ∙ e in
    false≢true (ap is_none same)
kept_in Field t table r e k i = λ row c f. none_fails key_of (keeps_fields t) (rows_in t table) e row (moved t table k row i c)
kept_in Citation t table r e k i = λ row c j f g. passes_citation t row (none_fails key_of (cites_there t) (rows_in t table) e row (moved t table k row i j)) c g
kept_in FitsRule t table r e k i = absurd r
kept_in Booked t table r e k i = absurd r
kept_in Count t table r e k i = absurd r

pub least_in : (rule : TableRule) (t : Tables) (table : Table) → IsReady rule t → (k : Key) → broken_in rule t table ≡ Some k → IsLeastIn rule t table k
least_in Order t table r k e = least_order t table k e
least_in Limit t table r k e = least_limit t table k e
least_in Field t table r k e =
    let h = first_fails key_of (keeps_fields t) (rows_in t table) k (r table) e in
    let here : k.table ≡ table = ap (λ (x : Key). x.table) (sym h.key_is) ∙ in_own t table h.row h.there in
    record {
      in_table = here;
      broken = fails_field t k h.row (subst (λ x. IsIn h.row (rows_in t x)) (sym here) h.there) h.key_is h.fails;
      least = λ j i l row c f. h.before row (moved t table j row i c) (ap (λ x. key_cmp x k) f ∙ l);
    }
least_in Citation t table r k e =
    let h = first_fails key_of (cites_there t) (rows_in t table) k (r table) e in
    let here : k.table ≡ table = ap (λ (x : Key). x.table) (sym h.key_is) ∙ in_own t table h.row h.there in
    record {
      in_table = here;
      broken = fails_citation t k h.row (subst (λ x. IsIn h.row (rows_in t x)) (sym here) h.there) h.key_is h.fails;
      least = λ j i l row c g f d. passes_citation t row (h.before row (moved t table j row i g) (ap (λ x. key_cmp x k) f ∙ l)) c d;
    }
least_in FitsRule t table r k e = absurd r
least_in Booked t table r k e = absurd r
least_in Count t table r k e = absurd r
