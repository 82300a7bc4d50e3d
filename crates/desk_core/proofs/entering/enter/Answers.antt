use Rattle.std.proofs.Common.{◌≡◌, sym, ap, ◌∙◌, subst}
use Rattle.std.specs.Prelude.{Result, Ok, Err, IfErr, IsErrAnd}
use Rattle.desk_base.specs.asked.Acts.{change_of}
use Rattle.desk_base.specs.changes.Changes.{with_change}
use Rattle.desk_core.specs.declared.accepting.Accepted.{Accepted}
use Rattle.desk_core.proofs.Judged.{after_is}
use Rattle.desk_core.proofs.entering.enter.Goals as goal

passed_on : {A E : Type 0} (r : Result A E) (e : E) (P : E → Type 0) → IsErrAnd r (λ x. x ≡ e) → P e → IfErr r P
passed_on (Ok x) e P h p = tt
passed_on (Err x) e P h p = subst P (sym h) p

pub returns-clause-after : goal.returns-clause-after
returns-clause-after c =
    let is : c.in-Ok-accept.accepted.change ≡ change_of c.args.view.now.tables c.args.call.now c.args.act.now = ap (λ (x : Accepted). x.change) c.in-Ok-accept.ensures in
    c.in_ok-change_view.ensures.after ∙ ap (with_change c.args.view.now.tables) is ∙ sym (after_is c.args.view.now.tables c.args.call.now c.args.act.now)
