-- The trial tables keep what a listing needs, and the tables without rows are sound.
use Rattle.std.proofs.Common.{◌≡◌, ℕ, ◌≤◌, true, List, [], length, Option, Some, None, refl, sym, subst, arith, inl}
use Rattle.std.specs.Prelude.{IfSome}
use Rattle.std.specs.List.{list_all}
use Rattle.std.specs.List.Sorted.{IsStrictlySortedBy}
use Rattle.desk_base.specs.rows.Types.{Tables, Table, Key, AnyRow}
use Rattle.desk_base.specs.declared.rows.tables.Table.TheVariants.{Zone, Calendar, Work, Break, Day, Off, Unit, Site, Role, Characteristic, Territory, Resource, HasRole, HasCharacteristic, HasTerritory, Member, Group, Booking, Caller, BookingNumbers}
use Rattle.desk_base.specs.rows.Keys.{key_cmp}
use Rattle.desk_base.specs.rules.TableLimits.{limit_of}
use Rattle.desk_base.specs.rows.Rows.{rows_in, keys_in}
use Rattle.desk_base.specs.meaning.Load.{room, Fits}
use Rattle.desk_base.specs.search.Listing.{IsSoundGroup}
use Rattle.desk_base.specs.rules.Sound.{IsSound, keeps_fields}
use Rattle.desk_base.specs.rows.Trial.{trial, trial_group, no_rows}
use Rattle.desk_base.proofs.tables.Sounds.{cites_there, sound_by_table}
use Rattle.desk_base.proofs.tables.KeyRises.{rise-no_rows}

room-zero : (n : Option ℕ) → IfSome n (λ k. 0 ≤ k)
room-zero None = tt
room-zero (Some n) = omega arith

-- no booking at all fits
pub Fits-none : (t : Tables) → Fits t []
Fits-none t = record { at = λ r m i. room-zero (room t r m) }

trial_order : (table : Table) → IsStrictlySortedBy key_cmp (keys_in trial table)
unfolding IsStrictlySortedBy
trial_order Zone = (tt, tt)
trial_order Calendar = ((refl, tt), (tt, tt))
trial_order Work = ((refl, tt), (tt, tt))
trial_order Break = tt
trial_order Day = tt
trial_order Off = tt
trial_order Unit = (tt, tt)
trial_order Site = (tt, tt)
trial_order Role = tt
trial_order Characteristic = tt
trial_order Territory = tt
trial_order Resource = ((refl, (refl, tt)), ((refl, tt), (tt, tt)))
trial_order HasRole = tt
trial_order HasCharacteristic = tt
trial_order HasTerritory = tt
trial_order Member = tt
trial_order Group = (tt, tt)
trial_order Booking = tt
trial_order Caller = tt
trial_order BookingNumbers = tt

trial_limit : (table : Table) → length (keys_in trial table) ≤ limit_of table
trial_limit Zone = omega arith
trial_limit Calendar = omega arith
trial_limit Work = omega arith
trial_limit Break = omega arith
trial_limit Day = omega arith
trial_limit Off = omega arith
trial_limit Unit = omega arith
trial_limit Site = omega arith
trial_limit Role = omega arith
trial_limit Characteristic = omega arith
trial_limit Territory = omega arith
trial_limit Resource = omega arith
trial_limit HasRole = omega arith
trial_limit HasCharacteristic = omega arith
trial_limit HasTerritory = omega arith
trial_limit Member = omega arith
trial_limit Group = omega arith
trial_limit Booking = omega arith
trial_limit Caller = omega arith
trial_limit BookingNumbers = omega arith

trial_fields : (table : Table) → list_all (keeps_fields trial) (rows_in trial table) ≡ true
trial_fields Zone = refl
trial_fields Calendar = refl
trial_fields Work = refl
trial_fields Break = refl
trial_fields Day = refl
trial_fields Off = refl
trial_fields Unit = refl
trial_fields Site = refl
trial_fields Role = refl
trial_fields Characteristic = refl
trial_fields Territory = refl
trial_fields Resource = refl
trial_fields HasRole = refl
trial_fields HasCharacteristic = refl
trial_fields HasTerritory = refl
trial_fields Member = refl
trial_fields Group = refl
trial_fields Booking = refl
trial_fields Caller = refl
trial_fields BookingNumbers = refl

trial_citations : (table : Table) → list_all (cites_there trial) (rows_in trial table) ≡ true
trial_citations Zone = refl
trial_citations Calendar = refl
trial_citations Work = refl
trial_citations Break = refl
trial_citations Day = refl
trial_citations Off = refl
trial_citations Unit = refl
trial_citations Site = refl
trial_citations Role = refl
trial_citations Characteristic = refl
trial_citations Territory = refl
trial_citations Resource = refl
trial_citations HasRole = refl
trial_citations HasCharacteristic = refl
trial_citations HasTerritory = refl
trial_citations Member = refl
trial_citations Group = refl
trial_citations Booking = refl
trial_citations Caller = refl
trial_citations BookingNumbers = refl

pub trial_sound : IsSound trial
trial_sound = sound_by_table trial (record { order = trial_order; limit = trial_limit; field = trial_fields; citation = trial_citations; fits = Fits-none trial; booked = λ g c. inl refl; count = refl })

pub trial_group_sound : IsSoundGroup trial_group
trial_group_sound = record { leaves = refl; some = omega arith; step = omega arith; window = omega arith }

no_keys_in : (table : Table) → keys_in no_rows table ≡ []
no_keys_in Zone = refl
no_keys_in _ = refl

no_rows_in : (table : Table) → rows_in no_rows table ≡ []
no_rows_in Zone = refl
no_rows_in _ = refl

-- the tables without rows are sound
pub empty_sound : IsSound no_rows
empty_sound = sound_by_table no_rows (record {
  order = rise-no_rows;
  limit = λ table. subst (λ (keys : List Key). length keys ≤ limit_of table) (sym (no_keys_in table)) (omega arith);
  field = λ table. subst (λ (rows : List AnyRow). list_all (keeps_fields no_rows) rows ≡ true) (sym (no_rows_in table)) refl;
  citation = λ table. subst (λ (rows : List AnyRow). list_all (cites_there no_rows) rows ≡ true) (sym (no_rows_in table)) refl;
  fits = Fits-none no_rows;
  booked = λ g c. inl refl;
  count = refl;
})
