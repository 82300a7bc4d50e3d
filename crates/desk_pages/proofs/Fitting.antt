-- Whether bookings fit, looked at in the minutes of the new ones alone.
use Rattle.std.proofs.Common.{◌≡◌, ℕ, ◌-◌, ◌<◌, ◌≤◌, true, List, ◌++◌, Option, Some, None, inl, inr, refl, sym, subst, arith, ◌==◌}
use Rattle.std.proofs.lemmas.Bool.Decides.{nat_tests}
use Rattle.std.specs.Prelude.{IfSome}
use Rattle.std.specs.Bool.{Decides}
use Rattle.std.specs.List.{list_all}
use Rattle.desk_base.specs.declared.rows.tables.Tables.{Tables}
use Rattle.desk_base.specs.declared.rows.resources.ResourceRow.{ResourceRow}
use Rattle.desk_base.specs.declared.search.results.Ask.{Ask}
use Rattle.desk_base.specs.meaning.Time.{covers, minutes_of, IsMinute}
use Rattle.desk_base.specs.meaning.Load.{weight, room, IsWithinRoom, Fits}
use Rattle.desk_pages.specs.Rooms.{is_within_room, has_room_at, have_room_at, have_room_during, have_room}
use Rattle.desk_base.proofs.meaning.Rooms.{weight-quiet, unknown_fits}
use Rattle.desk_base.proofs.lists.Members.{IsIn}
use Rattle.desk_base.proofs.lists.Tests.{list_all_at, list_all_from, some_or_none, find_cases, in_range, from_range}

pub within_room_decides : (w : ℕ) (n : Option ℕ) → Decides (is_within_room w n) (IfSome n (λ k. w ≤ k))
within_room_decides w None = (λ _. tt, λ _. refl)
within_room_decides w (Some n) = (λ e. grind (arith, nat_tests), λ e. grind (arith, nat_tests))

abbrev pub FitsAt : Tables → List Ask → ℕ → Type 0
FitsAt t asks m = (r : ℕ) → IsWithinRoom t asks r m

pub fits_at_from : (t : Tables) (asks : List Ask) (m : ℕ) → have_room_at t asks m ≡ true → FitsAt t asks m
unfolding have_room_at has_room_at
fits_at_from t asks m h r =
    elim (find_cases (λ (x : ResourceRow). x.id == r) t.resources) [
      | inl e ↦ unknown_fits t asks r m e
      | inr (x, i, k, f) ↦
          let e : x.id ≡ r = grind (arith, nat_tests) in
          subst (λ r. IsWithinRoom t asks r m) e ((within_room_decides (weight t asks x.id m) (room t x.id m)).0 (list_all_at (λ (x : ResourceRow). has_room_at t asks m x.id) t.resources x h i))
    ]

pub have_room_at_from : (t : Tables) (asks : List Ask) (m : ℕ) → FitsAt t asks m → have_room_at t asks m ≡ true
unfolding have_room_at has_room_at
have_room_at_from t asks m h = list_all_from (λ (x : ResourceRow). has_room_at t asks m x.id) t.resources (λ x i. (within_room_decides (weight t asks x.id m) (room t x.id m)).1 (h x.id))

-- each of the bookings lies inside the horizon
abbrev pub AreInHorizon : List Ask → Type 0
AreInHorizon asks = (a : Ask) → IsIn a asks → (m : ℕ) → a.window.from ≤ m → m < a.window.to → IsMinute m

-- new bookings fit beside others that do exactly if the test passes
pub have_room_decides : (t : Tables) (others new : List Ask) → Fits t others → AreInHorizon new → Decides (have_room t others new) (Fits t (others ++ new))
unfolding have_room have_room_during
have_room_decides t others new before inside = (to, from)
  where
    to : list_all (have_room_during t (others ++ new)) new ≡ true → Fits t (others ++ new)
    to h = record {
      at = λ r m k. elim (some_or_none (λ a. covers a.window.from a.window.to m) new) [
        | inl (a, i, w) ↦
            let low : a.window.from ≤ m = grind (arith, nat_tests) in
            let high : m < a.window.to = grind (arith, nat_tests) in
            fits_at_from t (others ++ new) m (list_all_at (have_room_at t (others ++ new)) (minutes_of a.window) m (list_all_at (have_room_during t (others ++ new)) new a h i) (in_range m a.window.from (a.window.to - a.window.from) low (omega arith))) r
        | inr none ↦ subst (λ w. IfSome (room t r m) (λ n. w ≤ n)) (sym (weight-quiet t others new r m none)) (before.at r m k)
      ];
    }

    from : Fits t (others ++ new) → list_all (have_room_during t (others ++ new)) new ≡ true
    from h = list_all_from (have_room_during t (others ++ new)) new (λ a i. list_all_from (have_room_at t (others ++ new)) (minutes_of a.window) (λ m j.
        let b = from_range m a.window.from (a.window.to - a.window.from) j in
        have_room_at_from t (others ++ new) m (λ r. h.at r m (inside a i m b.0 (omega (arith, b.0, b.1))))))
