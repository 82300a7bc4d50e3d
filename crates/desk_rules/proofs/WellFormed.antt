-- Rules that are kept in turn: what makes tables well formed, and where they are bad.
use Rattle.std.proofs.Common.{◌≡◌, ℕ, ◌<◌, ◌≤◌, Bool, true, false, not, length, Option, Some, None, inl, refl, sym, ap, ◌∙◌, subst, ◌*◌, arith, is_some}
use Rattle.std.proofs.lemmas.Bool.{false≢true}
use Rattle.std.proofs.lemmas.List.{length-map}
use Rattle.std.specs.Prelude.{MatchOption, IsTrue, IfNone, ◌↔◌}
use Rattle.std.specs.List.{slice_get}
use Rattle.desk_base.specs.declared.rows.tables.Tables.{Tables}
use Rattle.desk_base.specs.declared.rows.tables.Table.{Table}
use Rattle.desk_base.specs.declared.rows.tables.Table.TheVariants.{Zone, Off, Booking}
use Rattle.desk_base.specs.declared.rows.tables.Key.{Key}
use Rattle.desk_base.specs.declared.asked.rules.TableRule.{TableRule}
use Rattle.desk_base.specs.declared.asked.rules.TableRule.TheVariants.{Order, Limit, Field, Citation, Fits as FitsRule, Booked, Count}
use Rattle.desk_base.specs.rules.Sound.{IsBadAt, AreWellFormed, taken_limit_of, rule_number}
use Rattle.desk_base.specs.rules.TableLimits.{limit_of}
use Rattle.desk_base.specs.rows.Lookups.{KeysRise}
use Rattle.desk_base.specs.rows.Rows.{rows_in, keys_in, key_of}
use Rattle.desk_base.proofs.lists.Members.{IsIn, in_right}
use Rattle.desk_base.proofs.tables.Sounds.{keys_in_order, key_table}
use Rattle.desk_rules.specs.declared.formed.BadAt.{BadAt}
use Rattle.desk_rules.specs.Formed.{IsKept, IsLeastBroken, AreFormed}
use Rattle.desk_rules.proofs.Firsts.{cut_got, none_got}

-- where order is kept, the keys of each table rise
pub rise_from_kept : (t : Tables) → IsKept Order t → KeysRise t
rise_from_kept t keeps table = keys_in_order t table keeps

-- where none is the least that is broken, the rule is kept, and else it is not
pub kept_if_none : (rule : TableRule) (t : Tables) (o : Option Key) (b : Bool) → is_some o ≡ not b → MatchOption o (IsKept rule t) (IsLeastBroken rule t) → IsTrue b ↔ IsKept rule t
kept_if_none rule t None true e h = ((λ f. h), (λ k. refl))
kept_if_none rule t None false e h = absurd (false≢true e)
kept_if_none rule t (Some k) true e h = absurd (false≢true (sym e))
kept_if_none rule t (Some k) false e h = ((λ f. absurd (false≢true f)), (λ keeps. absurd (h.broken (keeps k))))

-- ---- the first rule that is broken

module _ (t : Tables) (n : ℕ) (few : n ≤ 4) (order : 1 < n → IsKept Order t) (limit : 2 < n → IsKept Limit t) (field : 3 < n → IsKept Field t) where
  earlier : (rule : TableRule) → rule_number rule < n → IsKept rule t
  earlier Order h = order h
  earlier Limit h = limit h
  earlier Field h = field h
  earlier Citation h = absurd (omega arith)
  earlier FitsRule h = absurd (omega arith)
  earlier Booked h = absurd (omega arith)
  earlier Count h = absurd (omega arith)

  bad : (rule : TableRule) (k : Key) → rule_number rule ≡ n → IsLeastBroken rule t k → IsBadAt t rule k
  bad rule k e h = record { broken = h.broken; least = h.least; first = λ before l j. earlier before (omega (arith, l, e)) j }

pub bad_limit : (t : Tables) (k : Key) → IsKept Order t → IsLeastBroken Limit t k → IsBadAt t Limit k
bad_limit t k order h = bad t 2 (omega arith) (λ l. order) (λ l. absurd (omega arith)) (λ l. absurd (omega arith)) Limit k refl h

pub bad_field : (t : Tables) (k : Key) → IsKept Order t → IsKept Limit t → IsLeastBroken Field t k → IsBadAt t Field k
bad_field t k order limit h = bad t 3 (omega arith) (λ l. order) (λ l. limit) (λ l. absurd (omega arith)) Field k refl h

pub bad_citation : (t : Tables) (k : Key) → IsKept Order t → IsKept Limit t → IsKept Field t → IsLeastBroken Citation t k → IsBadAt t Citation k
bad_citation t k order limit field h = bad t 4 (omega arith) (λ l. order) (λ l. limit) (λ l. field) Citation k refl h

-- ---- well-formed tables

few_from : (t : Tables) (table : Table) → IsKept Limit t → (o : Option Key) → slice_get (keys_in t table) (limit_of table) ≡ o → length (keys_in t table) ≤ limit_of table
few_from t table keeps None e = none_got (keys_in t table) (limit_of table) e
few_from t table keeps (Some k) e =
    let c = cut_got (keys_in t table) (limit_of table) k e in
    let here = key_table t table k (subst (IsIn k) (sym c.cut) (in_right k c.before _ (inl refl))) in
    absurd (keeps k c.before c.after (ap (keys_in t) here ∙ c.cut) (c.place ∙ sym (ap limit_of here)))

ten_times : (m n : ℕ) → m ≤ n → m ≤ 10 * n
ten_times m n h = omega (arith, h)

enough_taken : (table : Table) (n : ℕ) → n ≤ limit_of table → n ≤ taken_limit_of table
enough_taken Off n h = ten_times n (limit_of Off) h
enough_taken Booking n h = ten_times n (limit_of Booking) h
enough_taken Zone n h = h
enough_taken _ n h = h

-- tables that keep the rules are what calls ask for
pub formed_well : (t : Tables) → AreFormed t → AreWellFormed t
formed_well t f = record {
  order = f.order;
  limit = λ table. enough_taken table (length (rows_in t table)) (subst (λ n. n ≤ limit_of table) (length-map (rows_in t table) key_of) (few_from t table f.limit (slice_get (keys_in t table) (limit_of table)) refl));
  field = f.field;
  citation = f.citation;
}

-- where nothing is bad, the tables are well formed
pub none_well : (t : Tables) (o : Option BadAt) → MatchOption o (AreFormed t) (λ b. IsBadAt t b.rule b.key) → IfNone o (AreWellFormed t)
none_well t None f = formed_well t f
none_well t (Some b) f = tt

-- well-formed tables, by the last of their rules
pub well_if : (t : Tables) (b : Bool) → IsKept Order t → ((table : Table) → length (rows_in t table) ≤ taken_limit_of table) → IsKept Field t → IsTrue b ↔ IsKept Citation t → IsTrue b ↔ AreWellFormed t
well_if t b order limit field last = ((λ e. record { order = order; limit = limit; field = field; citation = last.0 e }), (λ w. last.1 w.citation))
