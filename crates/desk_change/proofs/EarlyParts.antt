-- The refusals of a change that rows show are those of its call, of what it says, and of what stands.
use Rattle.std.proofs.Common.{◌≡◌, Option, None, sym, ap, ◌∙◌}
use Rattle.std.specs.Option.{option_or}
use Rattle.std.specs.Prelude.{List}
use Rattle.desk_base.specs.declared.rows.tables.Tables.{Tables}
use Rattle.desk_base.specs.declared.asked.refusals.Refusal.{Refusal}
use Rattle.desk_base.specs.declared.asked.acts.Act.{Act}
use Rattle.desk_base.specs.declared.asked.acts.Call.{Call}
use Rattle.desk_base.specs.declared.asked.acts.Entry.{Entry}
use Rattle.desk_base.specs.asked.Callers.{last_number}
use Rattle.desk_base.specs.asked.Refusing.{refused_entry, refused_number, unknown_among, cited_by, refused_field, refused_tree, refused_removal, refused_place, refused_booked, refused_open, early_refusal}
use Rattle.desk_change.proofs.Options.{or-none, or-or}

-- the refusals of a call, of what is said, and of what stands
abbrev pub of_call : Tables → List Entry → Call → Option Refusal
of_call t journal call = option_or (refused_entry t journal) (refused_number (last_number t call.caller) call.number)

abbrev pub of_content : Tables → Act → Option Refusal
of_content t a = option_or (unknown_among t (cited_by a)) (option_or (refused_field t a) (refused_tree a))

abbrev pub of_standing : Tables → Call → Act → Option Refusal
of_standing t call a = option_or (refused_removal t a) (option_or (refused_place t call a) (option_or (refused_booked t a) (refused_open t a)))

join : (e n u f tree used place booked stands : Option Refusal)
    → option_or (option_or e n) (option_or (option_or u (option_or f tree)) (option_or used (option_or place (option_or booked stands))))
    ≡ option_or e (option_or n (option_or u (option_or f (option_or tree (option_or used (option_or place (option_or booked (option_or stands None))))))))
join e n u f tree used place booked stands =
    let rest = option_or used (option_or place (option_or booked stands)) in
    or-or e n (option_or (option_or u (option_or f tree)) rest)
    ∙ ap (λ x. option_or e (option_or n x)) (or-or u (option_or f tree) rest ∙ ap (option_or u) (or-or f tree rest))
    ∙ ap (λ x. option_or e (option_or n (option_or u (option_or f (option_or tree (option_or used (option_or place (option_or booked x)))))))) (sym (or-none stands))

pub early_parts : (t : Tables) (journal : List Entry) (call : Call) (a : Act) → early_refusal t journal call a ≡ option_or (of_call t journal call) (option_or (of_content t a) (of_standing t call a))
unfolding early_refusal
early_parts t journal call a =
    sym (join (refused_entry t journal) (refused_number (last_number t call.caller) call.number) (unknown_among t (cited_by a)) (refused_field t a) (refused_tree a) (refused_removal t a) (refused_place t call a) (refused_booked t a) (refused_open t a))
