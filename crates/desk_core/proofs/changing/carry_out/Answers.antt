use Rattle.std.proofs.Common.{◌≡◌, List, None, sym, ap, ◌∙◌}
use Rattle.desk_base.specs.declared.asked.acts.Entry.{Entry}
use Rattle.desk_base.specs.asked.Refusing.{early_refusal}
use Rattle.desk_core.proofs.Unrefused.{accepted_by, sound_by}
use Rattle.desk_core.proofs.changing.carry_out.Goals as goal

pub returns-in-None-clause-accepted : goal.returns-in-None-clause-accepted
returns-in-None-clause-accepted c =
    let free : early_refusal c.args.view.now.tables c.args.journal.now.items c.args.call.now c.args.act.now ≡ None = sym (c.in-None.ensures ∙ ap (λ (js : List Entry). early_refusal c.args.view.now.tables js c.args.call.now c.args.act.now) c.as_slice.ensures.value) in
    accepted_by c.args.view.now.tables c.args.journal.now.items c.args.call.now c.args.act.now c.judge_and_enter.result free c.judge_and_enter.ensures.placed c.judge_and_enter.ensures.fits

pub returns-in-None-clause-sound : goal.returns-in-None-clause-sound
returns-in-None-clause-sound c =
    let free : early_refusal c.args.view.now.tables c.args.journal.now.items c.args.call.now c.args.act.now ≡ None = sym (c.in-None.ensures ∙ ap (λ (js : List Entry). early_refusal c.args.view.now.tables js c.args.call.now c.args.act.now) c.as_slice.ensures.value) in
    sound_by c.args.view.now.tables c.args.journal.now.items c.args.call.now c.args.act.now c.judge_and_enter.result c.judge_and_enter.new.view.tables c.requires.sound c.requires.served free c.judge_and_enter.ensures.placed c.judge_and_enter.ensures.fits
    c.judge_and_enter.ensures.after c.judge_and_enter.ensures.same_tables
