use Rattle.std.proofs.Common.{◌≤◌, ap, arith}
use Rattle.desk_base.specs.declared.rows.groups.GroupRow.{GroupRow}
use Rattle.desk_base.specs.rules.Limits.{first_minute, end_of_minutes}
use Rattle.desk_pages.specs.Spaces.{SpaceParts}
use Rattle.desk_pages.proofs.Lives.{lives}
use Rattle.desk_pages.proofs.Sounding.{sound}
use Rattle.desk_pages.proofs.space.Space.build.Goals as goal

pub returns-clause-sound : goal.returns-clause-sound
returns-clause-sound c =
    let low : first_minute ≤ c.args.case.now.group.from = omega (arith, c.get.ensures.value, c.get.ensures.low, ap (λ (g : GroupRow). g.from) c.group.ensures) in
    let high : c.args.case.now.group.to ≤ end_of_minutes = omega (arith, c.get-2.ensures.value, c.get-2.ensures.high, ap (λ (g : GroupRow). g.to) c.group-2.ensures) in
    let x : SpaceParts = record { asked = c.args.case.now; options = c.args.options.now; choices = c.in_ok-choices.choices.items } in
    sound x c.requires (low, high) c.in_ok-choices.ensures

pub returns-clause-lives : goal.returns-clause-lives
returns-clause-lives c =
    let low : first_minute ≤ c.args.case.now.group.from = omega (arith, c.get.ensures.value, c.get.ensures.low, ap (λ (g : GroupRow). g.from) c.group.ensures) in
    let high : c.args.case.now.group.to ≤ end_of_minutes = omega (arith, c.get-2.ensures.value, c.get-2.ensures.high, ap (λ (g : GroupRow). g.to) c.group-2.ensures) in
    lives c.args.case.now c.args.options.now c.requires (low, high)
