use Rattle.std.proofs.Common.{ℕ, cond, [], ◌∷◌, ◌++◌, map, sym, ap, ◌∙◌, arith}
use Rattle.desk_base.specs.declared.rows.resources.MemberRow.{MemberRow}
use Rattle.desk_load.specs.Shown.{first_on}
use Rattle.desk_load.proofs.Used.{not_true, not_false}
use Rattle.desk_load.proofs.Scanned.{append_nothing}
use Rattle.desk_load.proofs.view.free.FreeView.first_with_group.Goals as goal

pub returns-then-not-covered : goal.returns-then-not-covered
returns-then-not-covered c seen e =
    let v = c.args.self.now in
    let t = v.tables in
    let k : ℕ = c.args.place.now.minute in
    let s = c.is_covered-covered.ensures in
    let here = s.value_at k (omega arith) s.later in
    e ∙ ap (first_on v c.args.place.now) (sym (append_nothing seen) ∙ ap (λ b. seen ++ map (λ (x : MemberRow). x.group) (cond b (c.args.row.now ∷ []) [])) (sym (here ∙ not_true _ c.if-not-covered.true)))

pub returns : goal.returns
returns c seen e =
    let v = c.args.self.now in
    let t = v.tables in
    let k : ℕ = c.args.place.now.minute in
    let s = c.is_covered-covered.ensures in
    let here = s.value_at k (omega arith) s.later in
    c.first_with.ensures seen e ∙ ap (first_on v c.args.place.now) (ap (λ b. seen ++ map (λ (x : MemberRow). x.group) (cond b (c.args.row.now ∷ []) [])) (sym (here ∙ not_false _ c.if-not-covered.false)))
