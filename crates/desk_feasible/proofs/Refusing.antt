-- Each point that a start and picks break is the verdict on them where they keep those before it.
use Rattle.std.proofs.Common.{◌≡◌, ℕ, true, List, [], ◌∷◌, ◌++◌, Option, Some, None, refl, sym, ap, subst, is_none, unwrap_or}
use Rattle.std.proofs.lemmas.Bool.{false≢true}
use Rattle.std.specs.Prelude.{option_map}
use Rattle.std.specs.List.{list_all}
use Rattle.std.specs.Option.{option_or}
use Rattle.desk_base.specs.declared.rows.tables.Tables.{Tables}
use Rattle.desk_base.specs.declared.rows.groups.GroupRow.{GroupRow}
use Rattle.desk_base.specs.declared.asked.refusals.Clash.{Clash}
use Rattle.desk_base.specs.declared.asked.refusals.Refusal.TheVariants.{Conflict}
use Rattle.desk_base.specs.declared.asked.rules.LeafRule.{LeafRule}
use Rattle.desk_base.specs.meaning.Eligible.{first_broken_at}
use Rattle.desk_base.specs.meaning.Load.{Fits}
use Rattle.desk_base.specs.meaning.Picks.{Choice, choices_of, first_broken_same}
use Rattle.desk_base.specs.search.Listing.{IsFeasible, serves, other_asks, asks_for}
use Rattle.desk_base.specs.search.Verdicts.{Unserved, first_unserved, HasShape, IsServed}
use Rattle.desk_base.specs.asked.Steps.{others_of, IsConflict, IsPlaceRefusal}
use Rattle.desk_base.proofs.meaning.Clashes.{clash-not_fits}
use Rattle.desk_base.proofs.lists.Tests.{and_left, and_right, and_both}
use Rattle.desk_base.specs.search.Verdicts.{IsVerdict}
use Rattle.desk_feasible.specs.declared.broken.Broken.{Broken}
use Rattle.desk_feasible.specs.declared.broken.Broken.TheVariants.{OffGrid, BadShape, NotEligible}
use Rattle.desk_feasible.specs.Broken.{verdict_of, refusal_of, unserved_as}

-- ---- eligibility

-- where no leaf is unserved each chosen resource serves its leaf
unserved_step : (o : Option LeafRule) (c : Choice) (later : Option Unserved) → option_or (option_map (λ (broken : LeafRule). record { choice = c; rule = broken }) o) later ≡ None → (is_none o ≡ true) × (later ≡ None)
unserved_step None c later e = (refl, e)
unserved_step (Some broken) c later e = absurd (false≢true (ap is_none e))

pub none_unserved : (t : Tables) (g : GroupRow) (s : ℕ) (cs : List Choice) → first_unserved t g s cs ≡ None → list_all (serves t g s) cs ≡ true
none_unserved t g s [] e = refl
none_unserved t g s (c ∷ cs) e =
    let h = unserved_step (first_broken_at t g c.leaf s c.resource) c (first_unserved t g s cs) e in
    and_both (serves t g s c) (list_all (serves t g s) cs) h.0 (none_unserved t g s cs h.1)

-- and only so
served_step : (o : Option LeafRule) (c : Choice) (later : Option Unserved) → is_none o ≡ true → later ≡ None → option_or (option_map (λ (broken : LeafRule). record { choice = c; rule = broken }) o) later ≡ None
served_step None c later e f = f
served_step (Some broken) c later e f = absurd (false≢true e)

pub all_served : (t : Tables) (g : GroupRow) (s : ℕ) (cs : List Choice) → list_all (serves t g s) cs ≡ true → first_unserved t g s cs ≡ None
all_served t g s [] e = refl
all_served t g s (c ∷ cs) e =
    served_step (first_broken_at t g c.leaf s c.resource) c (first_unserved t g s cs) (and_left (serves t g s c) (list_all (serves t g s) cs) e) (all_served t g s cs (and_right (serves t g s c) (list_all (serves t g s) cs) e))

pub none_mapped : (o : Option Unserved) → None ≡ option_map unserved_as o → o ≡ None
none_mapped None e = refl
none_mapped (Some u) e = absurd (false≢true (sym (ap is_none e)))

pub served_from : (t : Tables) (g : GroupRow) (s : ℕ) (picks : List (Option ℕ)) → HasShape g s picks → None ≡ option_map unserved_as (first_unserved t g s (choices_of 0 g.leaves picks)) → IsServed t g s picks
served_from t g s picks shape e = record {
  shape = shape;
  serve = none_unserved t g s (choices_of 0 g.leaves picks) (none_mapped (first_unserved t g s (choices_of 0 g.leaves picks)) e);
}

module _ (t : Tables) (g : GroupRow) (s : ℕ) (picks : List (Option ℕ)) where
  unserved_by : (o : Option Unserved) (b : Broken) → first_unserved t g s (choices_of 0 g.leaves picks) ≡ o → Some b ≡ option_map unserved_as o → HasShape g s picks → IsVerdict t g s picks (verdict_of b)
  unserved_by None b e f shape = absurd (false≢true (ap is_none f))
  unserved_by (Some u) b e f shape =
      let same : unserved_as u ≡ b = sym (ap (λ o. unwrap_or o b) f) in
      subst (λ b. IsVerdict t g s picks (verdict_of b)) same (shape, (u.choice, e, refl, refl))

  pub unserved_is : (b : Broken) → Some b ≡ option_map unserved_as (first_unserved t g s (choices_of 0 g.leaves picks)) → HasShape g s picks → IsVerdict t g s picks (verdict_of b)
  unserved_is b f shape = unserved_by (first_unserved t g s (choices_of 0 g.leaves picks)) b refl f shape

  -- the same point refuses a booking
  pub refused : (b : Broken) → IsVerdict t g s picks (verdict_of b) → IsPlaceRefusal t g s picks (refusal_of s b)
  refused OffGrid h = (h, refl)
  refused (BadShape j) h = h
  refused (NotEligible j r broken) h = h

  -- ---- room

  pub feasible : IsServed t g s picks → first_broken_same t s g.nodes g.leaves picks ≡ None → Fits t (other_asks t g ++ asks_for g s picks) → IsFeasible t g s picks
  feasible served same fits = record {
    grid = served.shape.grid;
    pattern = served.shape.pattern;
    serve = served.serve;
    same = same;
    fits = fits;
  }

  pub conflict : (c : Clash) → IsServed t g s picks → first_broken_same t s g.nodes g.leaves picks ≡ None → IsConflict t (others_of t g.id) (asks_for g s picks) c → IsPlaceRefusal t g s picks (Conflict c)
  conflict c served same h = ((served, same, clash-not_fits t (others_of t g.id) (asks_for g s picks) c.resource c.minute c.capacity h.clash), h)
