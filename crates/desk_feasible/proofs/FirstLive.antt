-- A first pick, alone.
use Rattle.std.proofs.Common.{◌≡◌, ℕ, ◌+◌, ◌-◌, ◌≤◌, ◌<◌, true, false, [], ◌∷◌, ◌++◌, map, Option, Some, None, refl, sym, ap, ◌∙◌, subst, arith}
use Rattle.std.specs.Prelude.{slice_get, ◌↔◌}
use Rattle.std.proofs.lemmas.List.{append-nil}
use Rattle.std.specs.List.{list_all}
use Rattle.desk_base.specs.declared.rows.groups.Leaf.{Leaf}
use Rattle.desk_base.specs.declared.search.results.Ask.{Ask}
use Rattle.desk_base.specs.declared.search.results.Options.{Options}
use Rattle.desk_base.specs.meaning.Eligible.{first_broken_rule, is_in_windows}
use Rattle.desk_base.specs.meaning.Load.{Fits}
use Rattle.desk_base.specs.meaning.Picks.{Choice, choices_of, first_broken_same}
use Rattle.desk_base.specs.meaning.Trees.{tree_of}
use Rattle.desk_base.specs.search.Listing.{BeginsPattern, IsOnGrid, IsWithinOptions, IsLive, serves, other_asks, ask_for}
use Rattle.desk_base.specs.search.Positions.{position_at}
use Rattle.desk_base.proofs.lists.Tests.{and_left, and_both}
use Rattle.desk_need.specs.Cases.{Asked}
use Rattle.desk_load.specs.declared.view.demand.Demand.{Demand}
use Rattle.desk_load.specs.Starts.{IsNextOf}
use Rattle.desk_load.specs.Views.{ViewParts, standing, demand_over}
use Rattle.desk_need.specs.declared.cases.starts.StartRun.{StartRun}
use Rattle.desk_need.specs.Starts.{IsIn}
use Rattle.desk_feasible.specs.Live.{IsReady, HasLaid, PickRun, IsPickStart, BeginsAt}
use Rattle.desk_feasible.proofs.Growing.{choices_nil, choices_none, choices_some, one_serves}
use Rattle.desk_feasible.proofs.Laying.{standing_is}
use Rattle.desk_feasible.proofs.Windows.{served, leaf_end}

-- what the least number of P is, is the least number of Q
pub next_same : (P Q : ℕ → Type 0) (m : ℕ) → ((s : ℕ) → m ≤ s → P s → Q s) → ((s : ℕ) → m ≤ s → Q s → P s) → (o : Option ℕ) → IsNextOf P m o → IsNextOf Q m o
next_same P Q m to from None h = λ s l q. h s l (from s l q)
next_same P Q m to from (Some n) h = (h.0, to n h.0 h.1, λ s l b q. h.2 s l b (from s l q))

module _ (a : Asked) (o : Options) (ready : IsReady a) where
  none_chosen : choices_of 0 a.group.leaves (None ∷ []) ≡ []
  none_chosen = choices_none 0 a.group.leaves [] ∙ choices_nil 0 a.group.leaves

  pub skip_live : (s : ℕ) → IsOnGrid a.group s → IsWithinOptions o s → BeginsPattern (tree_of a.group.nodes) (false ∷ []) → first_broken_same a.tables s a.group.nodes a.group.leaves (None ∷ []) ≡ None → IsLive a.tables a.group o (position_at s (None ∷ []))
  skip_live s grid within pattern same = record {
    grid = grid;
    within = within;
    has_pick = omega arith;
    pattern = pattern;
    serve = ap (list_all (serves a.tables a.group s)) none_chosen;
    same = same;
    fits = subst (λ cs. Fits a.tables (other_asks a.tables a.group ++ map (ask_for s) cs)) (sym none_chosen) (subst (Fits a.tables) (sym (append-nil (other_asks a.tables a.group))) ready.fits);
  }

  module _ (leaf : Leaf) (r : ℕ) (at : slice_get a.group.leaves 0 ≡ Some leaf) where
    abbrev pub first_choice : Choice
    first_choice = record { number = 0; leaf = leaf; resource = r }

    chosen : choices_of 0 a.group.leaves (Some r ∷ []) ≡ first_choice ∷ []
    chosen = choices_some 0 a.group.leaves [] leaf r at ∙ ap (λ cs. cs ++ first_choice ∷ []) (choices_nil 0 a.group.leaves)

    pub pick_live : (s : ℕ) → first_broken_rule a.tables leaf r ≡ None → IsOnGrid a.group s → IsWithinOptions o s → BeginsPattern (tree_of a.group.nodes) (true ∷ []) → is_in_windows a.group leaf s ≡ true
        → first_broken_same a.tables s a.group.nodes a.group.leaves (Some r ∷ []) ≡ None → Fits a.tables (other_asks a.tables a.group ++ ask_for s first_choice ∷ []) → IsLive a.tables a.group o (position_at s (Some r ∷ []))
    pick_live s rule grid within pattern windows same fits = record {
      grid = grid;
      within = within;
      has_pick = omega arith;
      pattern = pattern;
      serve = ap (list_all (serves a.tables a.group s)) chosen ∙ and_both (serves a.tables a.group s first_choice) true (one_serves a.tables a.group s leaf r rule windows) refl;
      same = same;
      fits = subst (λ cs. Fits a.tables (other_asks a.tables a.group ++ map (ask_for s) cs)) (sym chosen) fits;
    }

    pub live_windows : (s : ℕ) → IsLive a.tables a.group o (position_at s (Some r ∷ [])) → is_in_windows a.group leaf s ≡ true
    live_windows s h = (served a.tables a.group leaf s r (and_left (serves a.tables a.group s first_choice) true (sym (ap (list_all (serves a.tables a.group s)) chosen) ∙ h.serve))).1

    pub live_fits : (s : ℕ) → IsLive a.tables a.group o (position_at s (Some r ∷ [])) → Fits a.tables (other_asks a.tables a.group ++ ask_for s first_choice ∷ [])
    live_fits s h = subst (λ cs. Fits a.tables (other_asks a.tables a.group ++ map (ask_for s) cs)) chosen h.fits

-- ---- the starts that are looked at

-- the cut holds those of a run that are not before one, below the window's end, and within the options
abbrev pub IsCutOf : Asked → Options → StartRun → ℕ → StartRun → Type 0
IsCutOf a o run from cut = (s : ℕ) → (IsIn cut s ↔ (IsIn run s × (from ≤ s) × (s < a.group.to) × IsWithinOptions o s))

module _ (a : Asked) (o : Options) (ready : IsReady a) (run cut : StartRun) (from : ℕ) (is_cut : IsCutOf a o run from cut) where
  -- left out first
  module _ (all : (s : ℕ) → a.group.from ≤ s → s < a.group.to → IsIn run s) (pattern : BeginsPattern (tree_of a.group.nodes) (false ∷ [])) where
    pub skip_next : (n : Option ℕ) → IsNextOf (IsPickStart (record { asked = a; pick = None; offset = 0; first = cut.first; last = cut.last })) from n → IsNextOf (λ s. IsLive a.tables a.group o (position_at s (None ∷ []))) from n
    skip_next =
        next_same (IsPickStart (record { asked = a; pick = None; offset = 0; first = cut.first; last = cut.last })) (λ s. IsLive a.tables a.group o (position_at s (None ∷ []))) from
        (λ s low p. skip_live a o ready s p.grid ((is_cut s).0 (p.low, p.high)).3 pattern p.same)
        (λ s low h. let i = (is_cut s).1 (all s h.grid.from h.grid.below, low, h.grid.below, h.within) in record { grid = h.grid; low = i.0; high = i.1; same = h.same })

  module _ (leaf : Leaf) (r : ℕ) (at : slice_get a.group.leaves 0 ≡ Some leaf) (rule : first_broken_rule a.tables leaf r ≡ None) (windows : (s : ℕ) → (is_in_windows a.group leaf s ≡ true ↔ IsIn run s)) where
    abbrev pub starts : PickRun
    starts = record { asked = a; pick = Some r; offset = leaf.offset; first = cut.first; last = cut.last }

    abbrev pub demand : Demand
    demand = record { resource = r; effort = leaf.effort }

    abbrev pub begin : ℕ → Ask
    begin m = demand_over demand m (m + leaf.duration)

    pub inside : (s : ℕ) → IsPickStart starts s → is_in_windows a.group leaf s ≡ true
    inside s p = (windows s).1 ((is_cut s).0 (p.low, p.high)).0

    pub begins_low : (m : ℕ) → BeginsAt starts m → a.group.from ≤ m
    begins_low m b = omega (arith, b.0, b.1.grid.from)

    pub begins_end : (m : ℕ) → BeginsAt starts m → m + leaf.duration ≤ a.group.to
    begins_end m b = omega (arith, b.0, leaf_end a.group leaf (m - leaf.offset) (inside (m - leaf.offset) b.1))

    module _ (v : ViewParts) (laid : HasLaid a v 0 []) (pattern : BeginsPattern (tree_of a.group.nodes) (true ∷ [])) where
      stands : standing v ≡ other_asks a.tables a.group
      stands = standing_is a v 0 [] laid ∙ ap (λ cs. other_asks a.tables a.group ++ map (ask_for 0) cs) (choices_nil 0 a.group.leaves) ∙ append-nil (other_asks a.tables a.group)

      fits_from : (x : Ask) → Fits v.tables (standing v ++ x ∷ []) → Fits a.tables (other_asks a.tables a.group ++ x ∷ [])
      fits_from x f = subst (λ l. Fits a.tables (l ++ x ∷ [])) stands (subst (λ t. Fits t (standing v ++ x ∷ [])) laid.tables f)

      fits_to : (x : Ask) → Fits a.tables (other_asks a.tables a.group ++ x ∷ []) → Fits v.tables (standing v ++ x ∷ [])
      fits_to x f = subst (λ t. Fits t (standing v ++ x ∷ [])) (sym laid.tables) (subst (λ l. Fits a.tables (l ++ x ∷ [])) (sym stands) f)

      pub view_fits : Fits v.tables (standing v)
      view_fits = subst (λ t. Fits t (standing v)) (sym laid.tables) (subst (Fits a.tables) (sym stands) ready.fits)

      pub lives_at : (m : ℕ) → BeginsAt starts m → Fits v.tables (standing v ++ begin m ∷ []) → IsLive a.tables a.group o (position_at (m - leaf.offset) (Some r ∷ []))
      lives_at m b fits =
          let s = m - leaf.offset in
          let e : m ≡ s + leaf.offset = omega (arith, b.0) in
          pick_live a o ready leaf r at s rule b.1.grid ((is_cut s).0 (b.1.low, b.1.high)).3 pattern (inside s b.1) b.1.same
          (subst (λ n. Fits a.tables (other_asks a.tables a.group ++ begin n ∷ [])) e (fits_from (begin m) fits))

      pub from_at : (m : ℕ) → BeginsAt starts m → from ≤ m - leaf.offset
      from_at m b = ((is_cut (m - leaf.offset)).0 (b.1.low, b.1.high)).1

      pub begins_live : (s : ℕ) → from ≤ s → IsLive a.tables a.group o (position_at s (Some r ∷ [])) → BeginsAt starts (s + leaf.offset)
      begins_live s low h =
          let w = live_windows a o ready leaf r at s h in
          let i = (is_cut s).1 ((windows s).0 w, low, h.grid.below, h.within) in
          (omega arith, subst (IsPickStart starts) (omega arith) (record { grid = h.grid; low = i.0; high = i.1; same = h.same }))

      pub fits_live : (s : ℕ) → IsLive a.tables a.group o (position_at s (Some r ∷ [])) → Fits v.tables (standing v ++ begin (s + leaf.offset) ∷ [])
      fits_live s h = fits_to (begin (s + leaf.offset)) (live_fits a o ready leaf r at s h)
