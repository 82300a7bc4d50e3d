use Rattle.std.proofs.Common.{ℕ, cond, [], ◌++◌, sym, ap, ◌∙◌, arith}
use Rattle.desk_load.specs.Scans.{plain_and_groups}
use Rattle.desk_load.specs.Shown.{first_on}
use Rattle.desk_load.proofs.Used.{not_true, not_false}
use Rattle.desk_load.proofs.Scanned.{append_nothing}
use Rattle.desk_load.proofs.view.free.FreeView.first_with_member.Goals as goal

pub returns-then-not-covered : goal.returns-then-not-covered
returns-then-not-covered c seen e =
    let v = c.args.self.now in
    let t = v.tables in
    let k : ℕ = c.args.place.now.minute in
    let s = c.is_covered-covered.ensures in
    let here = s.value_at k (omega arith) s.later in
    e ∙ ap (first_on v c.args.place.now) (sym (append_nothing seen) ∙ ap (λ b. seen ++ (cond b (plain_and_groups t c.args.row.now.member k) [] ++ [])) (sym (here ∙ not_true _ c.if-not-covered.true)))

pub returns : goal.returns
returns c seen e =
    let v = c.args.self.now in
    let t = v.tables in
    let k : ℕ = c.args.place.now.minute in
    let s = c.is_covered-covered.ensures in
    let here = s.value_at k (omega arith) s.later in
    c.first_with_plain.ensures seen e ∙ ap (first_on v c.args.place.now) (ap (λ l. seen ++ l) (sym (append_nothing (plain_and_groups t c.args.row.now.member k)) ∙ ap (λ b. cond b (plain_and_groups t c.args.row.now.member k) [] ++ []) (sym (here ∙ not_false _ c.if-not-covered.false))))
