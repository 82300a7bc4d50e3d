-- Puts over the trial tables: what the lemmas on puts ask for can be met.
use Rattle.std.proofs.Common.{◌≡◌, [], None, refl}
use Rattle.std.specs.Prelude.{codes}
use Rattle.desk_base.specs.rows.Types.{AnyRow}
use Rattle.desk_base.specs.declared.rows.tables.AnyRow.TheVariants.{Unit as UnitRow, Work}
use Rattle.desk_base.specs.declared.asked.acts.Act.TheVariants as act
use Rattle.desk_base.specs.declared.asked.acts.Call.{Call}
use Rattle.desk_base.specs.asked.Refusing.{early_refusal}
use Rattle.desk_base.specs.asked.Acts.{after_act}
use Rattle.desk_base.specs.rules.Sound.{IsSound}
use Rattle.desk_base.specs.rows.Trial.{trial, trial_group, work_on_monday}
use Rattle.desk_base.proofs.tables.TrialSound.{trial_sound, Fits-none}
use Rattle.desk_base.proofs.puts.AcceptedPuts.{sound_put, sound_quiet_put, sound_put_group}

-- the first change of a caller
abbrev first_call : Call
first_call = record { caller = 7; number = 1 }

-- a second unit
abbrev second_unit : AnyRow
second_unit = UnitRow (record { id = 2; name = codes "North" })

unit_not_refused : early_refusal trial [] first_call (act.Put second_unit) ≡ None
unfolding early_refusal
unit_not_refused = refl

unit_leaves_sound : IsSound (after_act trial first_call (act.Put second_unit))
unit_leaves_sound = sound_quiet_put trial [] first_call second_unit trial_sound refl refl unit_not_refused

-- the afternoon of the first calendar
abbrev afternoon : AnyRow
afternoon = Work (record (work_on_monday 1 720) { to = 1020 })

work_not_refused : early_refusal trial [] first_call (act.Put afternoon) ≡ None
unfolding early_refusal
work_not_refused = refl

work_leaves_sound : IsSound (after_act trial first_call (act.Put afternoon))
work_leaves_sound = sound_put trial [] first_call afternoon trial_sound refl work_not_refused (Fits-none (after_act trial first_call (act.Put afternoon)))

-- the group anew
group_not_refused : early_refusal trial [] first_call (act.PutGroup trial_group) ≡ None
unfolding early_refusal
group_not_refused = refl

group_leaves_sound : IsSound (after_act trial first_call (act.PutGroup trial_group))
group_leaves_sound = sound_put_group trial [] first_call trial_group trial_sound group_not_refused
