use Rattle.std.proofs.Common.{ℕ, cond, min, [], ◌∷◌, ◌++◌, map, sym, ap, ◌∙◌, arith}
use Rattle.desk_base.specs.declared.rows.resources.MemberRow.{MemberRow}
use Rattle.desk_load.specs.Scans.{groups_at}
use Rattle.desk_load.proofs.Used.{not_true, not_false}
use Rattle.desk_load.proofs.Scanned.{scan_narrow, scan_as, scan_is, append_nothing}
use Rattle.desk_load.proofs.view.free.FreeView.look_at_group.Goals as goal

pub returns-then-not-covered : goal.returns-then-not-covered
returns-then-not-covered c seen s =
    let v = c.args.self.now in
    let t = v.tables in
    let m : ℕ = c.args.minute in
    let e = c.is_covered-covered.ensures in
    let n = c.narrowed.ensures in
    scan_as v c.args.demand.now seen (λ k. seen k ++ groups_at (c.args.row.now ∷ []) k) m c.narrowed.result.short c.narrowed.result.until
    (λ k lo hi. sym (append_nothing (seen k)) ∙ ap (λ b. seen k ++ map (λ (x : MemberRow). x.group) (cond b (c.args.row.now ∷ []) [])) (sym (e.value_at k lo (omega (arith, hi, n.until)) ∙ not_true _ c.if-not-covered.true)))
    (scan_is v c.args.demand.now seen m c.args.scan.short c.narrowed.result.short (min c.args.scan.until c.is_covered-covered.result.until) c.narrowed.result.until n.short n.until
    (scan_narrow v c.args.demand.now seen m c.args.scan.short c.args.scan.until (min c.args.scan.until c.is_covered-covered.result.until) (omega (arith, s.later, e.later)) (omega arith) s))

pub returns : goal.returns
returns c seen s =
    let v = c.args.self.now in
    let t = v.tables in
    let m : ℕ = c.args.minute in
    let e = c.is_covered-covered.ensures in
    let n = c.narrowed-2.ensures in
    let g = c.look_at-next.ensures seen s in
    scan_as v c.args.demand.now (λ k. seen k ++ c.args.row.now.group ∷ []) (λ k. seen k ++ groups_at (c.args.row.now ∷ []) k) m c.narrowed-2.result.short c.narrowed-2.result.until
    (λ k lo hi. ap (λ b. seen k ++ map (λ (x : MemberRow). x.group) (cond b (c.args.row.now ∷ []) [])) (sym (e.value_at k lo (omega (arith, hi, n.until)) ∙ not_false _ c.if-not-covered.false)))
    (scan_is v c.args.demand.now (λ k. seen k ++ c.args.row.now.group ∷ []) m c.look_at-next.result.short c.narrowed-2.result.short (min c.look_at-next.result.until c.is_covered-covered.result.until) c.narrowed-2.result.until n.short n.until
    (scan_narrow v c.args.demand.now (λ k. seen k ++ c.args.row.now.group ∷ []) m c.look_at-next.result.short c.look_at-next.result.until (min c.look_at-next.result.until c.is_covered-covered.result.until) (omega (arith, g.later, e.later)) (omega arith) g))
