-- The live positions of a ready case are what a search may go over.
use Rattle.std.proofs.Common.{ℕ, ◌≤◌, List, [], ◌∷◌, ◌++◌, length, Option, Some, None, arith, length-append}
use Rattle.std.specs.Prelude.{Contains, MatchOption, ⊤, max}
use Rattle.std.specs.Option.{option_map_or}
use Rattle.desk_base.specs.declared.search.results.Position.{Position}
use Rattle.desk_base.specs.declared.search.results.Options.{Options}
use Rattle.desk_base.specs.search.Listing.{IsLive, IsLiveList, IsWithinOptions}
use Rattle.desk_base.specs.search.Positions.{position_at}
use Rattle.desk_base.proofs.meaning.Shapes.{sound_group}
use Rattle.desk_base.proofs.tables.Sounds.{resources_in_order}
use Rattle.desk_need.specs.Cases.{Asked}
use Rattle.desk_feasible.specs.Live.{IsReady, IsPlaced}
use Rattle.desk_feasible.proofs.Growing.{begun_length}
use Rattle.desk_pages.specs.Places.{live_places}
use Rattle.desk_pages.specs.Spaces.{earliest, IsInHorizon}
use Rattle.desk_pages.proofs.Places.{lives_are}

module _ (a : Asked) (o : Options) (ready : IsReady a) (inside : IsInHorizon a.group) where
  pub lives : IsLiveList a.tables a.group o (live_places a.tables a.group o)
  lives = lives_are a.tables a.group o (resources_in_order a.tables ready.formed.order) ready.fits inside (sound_group a.tables a.group ready.formed ready.there).leaves

  pub live_from : (p : Position) → Contains (live_places a.tables a.group o) p → IsLive a.tables a.group o p
  live_from p c = lives.sound p c

  pub live_to : (p : Position) → IsLive a.tables a.group o p → Contains (live_places a.tables a.group o) p
  live_to p h = lives.complete p h

  -- a live position has no more picks than there are leaves
  pub live_length : (p : Position) → IsLive a.tables a.group o p → length p.picks ≤ length a.group.leaves
  live_length p h = begun_length a p.picks ready h.pattern

  pub late_from : (s : ℕ) → a.group.from ≤ s → IsWithinOptions o s → earliest a o ≤ s
  late_from s low within = by_option o.from within.0
    where
      by_option : (from : Option ℕ) → MatchOption from ⊤ (λ m. m ≤ s) → option_map_or (λ m. max a.group.from m) from a.group.from ≤ s
      by_option None h = low
      by_option (Some m) h = omega (arith, h, low)

-- ---- live and placed

module _ (a : Asked) (o : Options) where
  pub placed_from : (p : Position) → IsLive a.tables a.group o p → IsPlaced a.tables a.group p.start p.picks
  placed_from p h = record { pattern = h.pattern; serve = h.serve; same = h.same; fits = h.fits }

  -- what begins as a live position does and is placed with one more pick is live
  pub live_more : (s : ℕ) (picks : List (Option ℕ)) (x : Option ℕ) → IsLive a.tables a.group o (position_at s picks) → IsPlaced a.tables a.group s (picks ++ x ∷ []) → IsLive a.tables a.group o (position_at s (picks ++ x ∷ []))
  live_more s picks x live h = record {
    grid = live.grid;
    within = live.within;
    has_pick = omega (arith, length-append picks (x ∷ []));
    pattern = h.pattern;
    serve = h.serve;
    same = h.same;
    fits = h.fits;
  }
