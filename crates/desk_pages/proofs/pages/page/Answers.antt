use Rattle.std.proofs.Common.{ℕ, ◌+◌, ◌*◌, ◌≤◌, List, [], length, sym, ap, subst}
use Rattle.std.specs.Option.{option_copied}
use Rattle.desk_base.specs.declared.search.results.Position.{Position}
use Rattle.desk_base.specs.rules.Limits.{passed_limit}
use Rattle.desk_base.specs.search.Page.{ResumePoint, due_of, passed_of}
use Rattle.desk_need.specs.Cases.{Asked}
use Rattle.desk_feasible.specs.Live.{HasLaid}
use Rattle.desk_pages.specs.Spaces.{SpaceParts, ways_of}
use Rattle.desk_pages.proofs.Paged.{bare, as_before, is_page, one_pending}
use Rattle.desk_pages.proofs.pages.page.Goals as goal

pub page-requires-clause-held : goal.page-requires-clause-held
page-requires-clause-held g c s =
    subst (λ (a : Asked). HasLaid a c.args.view.now s []) (sym c.in_ok-space.ensures.asked) (bare c.args.case.now c.args.view.now c.requires.tables c.requires.without c.requires.nothing s)

pub returns-in_err-page-clause-view : goal.returns-in_err-page-clause-view
returns-in_err-page-clause-view g c =
    as_before c.args.case.now c.args.view.now c.requires.tables c.requires.without c.requires.nothing c.page.new.view (subst (λ (a : Asked). HasLaid a c.page.new.view 0 []) c.in_ok-space.ensures.asked (c.page.ensures.held 0))

pub returns-clause-view : goal.returns-clause-view
returns-clause-view g c =
    as_before c.args.case.now c.args.view.now c.requires.tables c.requires.without c.requires.nothing c.page.new.view (subst (λ (a : Asked). HasLaid a c.page.new.view 0 []) c.in_ok-space.ensures.asked (c.page.ensures.held 0))

pub returns-clause-page : goal.returns-clause-page
returns-clause-page g c =
    let a = c.args.case.now in
    let after = option_copied c.args.after in
    let point : ResumePoint = record { after = after; shown = c.args.shown } in
    let x : SpaceParts = c.in_ok-space.space in
    is_page a.tables a.group c.args.options.now point (ways_of x).lives c.in_ok-space.ensures.lives (length x.asked.group.leaves) c.args.limit c.in_ok-page.page (ap (λ (y : Asked). length y.group.leaves) c.in_ok-space.ensures.asked) c.in_ok-page.ensures.page

pub returns-clause-steps : goal.returns-clause-steps
returns-clause-steps g c ps pending =
    let a = c.args.case.now in
    let o = c.args.options.now in
    let after = option_copied c.args.after in
    let point : ResumePoint = record { after = after; shown = c.args.shown } in
    let x : SpaceParts = c.in_ok-space.space in
    let n = λ (leaves : ℕ) (qs : List Position). length (passed_of leaves c.args.limit passed_limit (due_of leaves o.per point qs)) in
    let one = one_pending a.tables a.group o point (ways_of x).lives c.in_ok-space.ensures.lives ps pending in
    subst (λ (y : Asked). c.page.new.steps ≤ c.args.steps.now + (n (length y.group.leaves) ps + length y.group.leaves + 2) * (length y.tables.resources + 1)) c.in_ok-space.ensures.asked
    (subst (λ qs. c.page.new.steps ≤ c.args.steps.now + (n (length x.asked.group.leaves) qs + length x.asked.group.leaves + 2) * (length x.asked.tables.resources + 1)) one c.in_ok-page.ensures.steps)
