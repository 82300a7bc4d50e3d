-- What the refusals of a put that do not apply give: a row that suits the tables, and where the bookings fit, no conflict.
use Rattle.std.proofs.Common.{◌≡◌, ◌≢◌, ℕ, Bool, true, false, not, cond, ◌&&◌, ◌==◌, nat_le, List, [], ◌∷◌, ◌++◌, map, length, Option, Some, None, refl, sym, ap, subst, is_none, arith}
use Rattle.std.proofs.lemmas.Bool.{false≢true, or_parts}
use Rattle.std.proofs.lemmas.Bool.Decides.{nat_tests}
use Rattle.std.proofs.lemmas.List.{append-nil}
use Rattle.std.specs.Prelude.{find, option_map}
use Rattle.std.specs.List.{list_all}
use Rattle.std.specs.Option.{option_or}
use Rattle.desk_base.specs.rows.Types.{Tables, Key, AnyRow, GroupRow, BookingRow, Ask}
use Rattle.desk_base.specs.declared.rows.tables.Table.TheVariants.{Group as GroupTable, Caller as CallerTable}
use Rattle.desk_base.specs.declared.rows.tables.AnyRow.TheVariants.{Group}
use Rattle.desk_base.specs.declared.asked.acts.Act.{Act}
use Rattle.desk_base.specs.declared.asked.acts.Act.TheVariants as act
use Rattle.desk_base.specs.declared.asked.acts.Call.{Call}
use Rattle.desk_base.specs.declared.asked.acts.Entry.{Entry}
use Rattle.desk_base.specs.declared.asked.refusals.Clash.{Clash}
use Rattle.desk_base.specs.declared.asked.refusals.Refusal.{Refusal}
use Rattle.desk_base.specs.declared.asked.refusals.Refusal.TheVariants as refusal
use Rattle.desk_base.specs.rules.Limits.{journal_limit, revision_limit}
use Rattle.desk_base.specs.rules.Rules.{first_broken}
use Rattle.desk_base.specs.rows.Keys.{id_key}
use Rattle.desk_base.specs.rows.Rows.{key_of, citations_of, rules_of}
use Rattle.desk_base.specs.rules.TreeRules.{tree_fault}
use Rattle.desk_base.specs.meaning.Load.{Fits, ask_of}
use Rattle.desk_base.specs.asked.Groups.{is_booked}
use Rattle.desk_base.specs.asked.Callers.{last_number}
use Rattle.desk_base.specs.asked.Refusing.{is_there, has_place, cited_by, refused_entry, refused_number, unknown_among, refused_field, refused_tree, refused_removal, refused_place, refused_booked, early_refusal}
use Rattle.desk_base.specs.asked.Acts.{after_act}
use Rattle.desk_base.specs.asked.Steps.{IsConflict, IsLateRefusal}
use Rattle.desk_base.specs.rules.Sound.{has_tree}
use Rattle.desk_base.proofs.lists.Tests.{and_both}
use Rattle.desk_base.proofs.meaning.Shapes.{rules_kept}
use Rattle.desk_base.proofs.meaning.Clashes.{clash-not_fits}
use Rattle.desk_base.proofs.puts.Suits.{Suits, is_unbooked}

-- ---- refusals that do not apply

or_none : {A : Type 0} (o p : Option A) → option_or o p ≡ None → (o ≡ None) × (p ≡ None)
or_none None p e = (refl, e)
or_none (Some x) p e = absurd (false≢true (ap is_none e))

pub map_none : {A B : Type 0} (f : A → B) (o : Option A) → option_map f o ≡ None → o ≡ None
map_none f None e = refl
map_none f (Some x) e = absurd (false≢true (ap is_none e))

pub test_fails : {A : Type 0} (b : Bool) (x : A) → cond b (Some x) None ≡ None → b ≡ false
test_fails true x e = absurd (false≢true (ap is_none e))
test_fails false x e = refl

pub all_there : (t : Tables) (keys : List Key) → find (λ k. not (is_there t k)) keys ≡ None → list_all (is_there t) keys ≡ true
all_there t [] e = refl
all_there t (k ∷ keys) e = step (is_there t k) refl e (all_there t keys)
  where
    step : (b : Bool) → is_there t k ≡ b → cond (not b) (Some k) (find (λ j. not (is_there t j)) keys) ≡ None → (find (λ j. not (is_there t j)) keys ≡ None → list_all (is_there t) keys ≡ true) → (is_there t k && list_all (is_there t) keys) ≡ true
    step true h f more = and_both (is_there t k) (list_all (is_there t) keys) h (more f)
    step false h f more = absurd (false≢true (ap is_none f))

-- of the refusals of a change none applies
pub record NoneApplies (t : Tables) (journal : List Entry) (call : Call) (a : Act) : Type 0 where
  pub entry : refused_entry t journal ≡ None
  pub known : unknown_among t (cited_by a) ≡ None
  pub field : refused_field t a ≡ None
  pub tree : refused_tree a ≡ None
  pub place : refused_place t call a ≡ None
  pub booked : refused_booked t a ≡ None

pub early_none : (t : Tables) (journal : List Entry) (call : Call) (a : Act) → early_refusal t journal call a ≡ None → NoneApplies t journal call a
unfolding early_refusal
early_none t journal call a e =
    let one = or_none (refused_entry t journal) _ e in
    let two = or_none (refused_number (last_number t call.caller) call.number) _ one.1 in
    let three = or_none (unknown_among t (cited_by a)) _ two.1 in
    let four = or_none (refused_field t a) _ three.1 in
    let five = or_none (refused_tree a) _ four.1 in
    let six = or_none (refused_removal t a) _ five.1 in
    let seven = or_none (refused_place t call a) _ six.1 in
    let eight = or_none (refused_booked t a) _ seven.1 in
    record { entry = one.0; known = three.0; field = four.0; tree = five.0; place = seven.0; booked = eight.0 }

module _ (t : Tables) (journal : List Entry) (call : Call) where
  not_at_limit : (n : ℕ) → (n == revision_limit) ≡ false → n ≢ revision_limit
  not_at_limit n h = grind (arith, nat_tests)

  -- the revision is not at its limit
  pub revision_goes_on : (a : Act) → early_refusal t journal call a ≡ None → t.revision ≢ revision_limit
  revision_goes_on a e =
      let h = early_none t journal call a e in
      not_at_limit t.revision (or_parts (nat_le journal_limit (length journal)) (t.revision == revision_limit) (test_fails _ _ h.entry)).1

  -- ---- a put of a row

  -- the row suits the tables
  pub suits_put : (row : AnyRow) → early_refusal t journal call (act.Put row) ≡ None → has_tree row ≡ true → is_unbooked t row ≡ true → Suits t row
  suits_put row e tree unbooked =
      let h = early_none t journal call (act.Put row) e in
      record {
        cited = all_there t (citations_of row) (map_none refusal.UnknownId _ h.known);
        fields = and_both (is_none (first_broken (rules_of t row))) (has_tree row) (ap is_none (map_none refusal.BadField (first_broken (rules_of t row)) h.field)) tree;
        place = (rules_kept ((has_place t (key_of row), (key_of row).table) ∷ (has_place t (id_key CallerTable call.caller), CallerTable) ∷ []) (map_none refusal.Full _ h.place)).0;
        unbooked = unbooked;
      }

  -- and its caller's row has a place
  pub caller_of_put : (row : AnyRow) → early_refusal t journal call (act.Put row) ≡ None → has_place t (id_key CallerTable call.caller) ≡ true
  caller_of_put row e =
      let h = early_none t journal call (act.Put row) e in
      (rules_kept ((has_place t (key_of row), (key_of row).table) ∷ (has_place t (id_key CallerTable call.caller), CallerTable) ∷ []) (map_none refusal.Full _ h.place)).1.0

  -- ---- a put of a group

  pub suits_put_group : (g : GroupRow) → early_refusal t journal call (act.PutGroup g) ≡ None → Suits t (Group g)
  suits_put_group g e =
      let h = early_none t journal call (act.PutGroup g) e in
      record {
        cited = all_there t (citations_of (Group g)) (map_none refusal.UnknownId _ h.known);
        fields =
            and_both (is_none (first_broken (rules_of t (Group g)))) (has_tree (Group g)) (ap is_none (map_none refusal.BadField (first_broken (rules_of t (Group g))) h.field))
            (ap is_none (map_none (λ f. refusal.BadTree f.rule f.node) (tree_fault g.nodes (length g.leaves)) h.tree));
        place = (rules_kept ((has_place t (id_key GroupTable g.id), GroupTable) ∷ (has_place t (id_key CallerTable call.caller), CallerTable) ∷ []) (map_none refusal.Full _ h.place)).0;
        unbooked = ap not (test_fails (is_booked t g.id) _ h.booked);
      }

  pub caller_of_put_group : (g : GroupRow) → early_refusal t journal call (act.PutGroup g) ≡ None → has_place t (id_key CallerTable call.caller) ≡ true
  caller_of_put_group g e =
      let h = early_none t journal call (act.PutGroup g) e in
      (rules_kept ((has_place t (id_key GroupTable g.id), GroupTable) ∷ (has_place t (id_key CallerTable call.caller), CallerTable) ∷ []) (map_none refusal.Full _ h.place)).1.0

-- ---- conflicts

-- where all fit there is no conflict
pub no_clash : (t : Tables) (standing : List BookingRow) (asked : List Ask) → Fits t (map ask_of standing ++ asked) → (c : Clash) → ¬ (IsConflict t standing asked c)
no_clash t standing asked f c k = clash-not_fits t standing asked c.resource c.minute c.capacity k.clash f

-- where the standing bookings fit after the put, no later refusal applies
pub no_late_refusal : (t : Tables) (call : Call) (row : AnyRow) → Fits (after_act t call (act.Put row)) (map ask_of t.bookings) → (why : Refusal) → ¬ (IsLateRefusal t call (act.Put row) why)
no_late_refusal t call row f (refusal.Conflict c) h = no_clash (after_act t call (act.Put row)) t.bookings [] (subst (Fits (after_act t call (act.Put row))) (sym (append-nil (map ask_of t.bookings))) f) c h.1
no_late_refusal t call row f _ h = h
