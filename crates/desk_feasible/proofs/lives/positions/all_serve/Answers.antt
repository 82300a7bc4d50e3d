use Rattle.std.proofs.Common.{refl, sym, ap, ◌∙◌, is_none}
use Rattle.std.proofs.lemmas.Bool.{false≢true}
use Rattle.std.specs.Prelude.{option_map}
use Rattle.desk_base.specs.meaning.Picks.{choices_of}
use Rattle.desk_base.specs.search.Verdicts.{first_unserved}
use Rattle.desk_feasible.specs.Broken.{unserved_as}
use Rattle.desk_feasible.proofs.Refusing.{none_unserved, all_served, none_mapped}
use Rattle.desk_feasible.proofs.lives.positions.all_serve.Goals as goal

pub returns-in-None : goal.returns-in-None
returns-in-None c =
    let t = c.args.case.now.tables in
    let g = c.args.case.now.group in
    let cs = choices_of 0 g.leaves c.args.picks.now in (
      λ e. none_unserved t g c.args.start cs (none_mapped (first_unserved t g c.args.start cs) (sym c.in-None.is ∙ c.unserved.ensures)),
      λ h. refl,
    )

pub returns-in-Some : goal.returns-in-Some
returns-in-Some c =
    let t = c.args.case.now.tables in
    let g = c.args.case.now.group in
    let cs = choices_of 0 g.leaves c.args.picks.now in (
      λ e. absurd (false≢true e),
      λ h. absurd (false≢true (sym (ap is_none c.in-Some.is) ∙ ap is_none c.unserved.ensures ∙ ap (λ o. is_none (option_map unserved_as o)) (all_served t g c.args.start cs h))),
    )
