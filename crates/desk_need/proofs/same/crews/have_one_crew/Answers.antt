use Rattle.std.proofs.Common.{ℕ, ◌||◌, ap, sym, ◌∙◌}
use Rattle.std.specs.List.{list_any, list_all}
use Rattle.desk_base.specs.meaning.Picks.{choices_of, is_in_crew}
use Rattle.desk_need.specs.Crews.{crews_of}
use Rattle.desk_need.proofs.CrewLemmas.{one_crew}
use Rattle.desk_need.proofs.same.crews.have_one_crew.Goals as goal

pub returns-else-nobody : goal.returns-else-nobody
returns-else-nobody c =
    let t = c.args.tables.now in
    let cs = choices_of c.args.number c.args.leaves.now c.args.picks.now in
    let has = λ (g : ℕ). list_all (is_in_crew t c.args.start g) cs in
    c.has_crew.ensures ∙ ap (list_any has) c.requires.all
    ∙ ap (λ b. b || list_any has (crews_of t)) (sym c.if-nobody.false ∙ c.is_none_chosen-nobody.ensures)
    ∙ sym (one_crew t c.args.start cs)
