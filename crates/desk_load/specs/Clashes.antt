-- Where bookings are above the room of a resource.
use Rattle.std.specs.Prelude.{ℕ, ◌<◌, Bool, ◌&&◌, ◌||◌, ◌==◌, nat_lt, List, Option, Some, None, if◌then◌else◌}
use Rattle.desk_base.specs.declared.rows.tables.Tables.{Tables}
use Rattle.desk_base.specs.declared.search.results.Ask.{Ask}
use Rattle.desk_base.specs.meaning.Time.{IsMinute}
use Rattle.desk_base.specs.meaning.Load.{IsWithinRoom, Fits}
use Rattle.desk_load.specs.declared.view.places.Place.{Place}
use Rattle.desk_load.specs.declared.view.probe.Probe.{Probe}
use Rattle.desk_load.specs.declared.view.probe.Probe.TheVariants.{Free, Short}

-- the first place comes before the second: at an earlier minute, or at the same on a lower resource
abbrev pub is_before : Place → Place → Bool
is_before p q = nat_lt p.minute q.minute || ((p.minute == q.minute) && nat_lt p.resource q.resource)

-- the earlier of a place and of one that was found before
abbrev pub earlier : Option Place → Place → Place
earlier None q = q
earlier (Some p) q = if is_before q p then q else p

-- the place that is known after a probe
abbrev pub after_probe : Option Place → Probe → Option Place
after_probe found Free = found
after_probe found (Short r m) = Some (earlier found (record { resource = r; minute = m }))

-- at the place the bookings are above the room: at no earlier minute are they so, and at this one on no lower resource
pub record IsOver (t : Tables) (asks : List Ask) (p : Place) : Type 0 where
  pub minute : IsMinute p.minute
  pub over : IsWithinRoom t asks p.resource p.minute → ⊥
  pub sooner : (r m : ℕ) → IsMinute m → m < p.minute → IsWithinRoom t asks r m
  pub lower : (r : ℕ) → r < p.resource → IsWithinRoom t asks r p.minute

-- the bookings fit, or this is the first place at which they do not
abbrev pub IsFirstOver : Tables → List Ask → Option Place → Type 0
IsFirstOver t asks None = Fits t asks
IsFirstOver t asks (Some p) = IsOver t asks p
