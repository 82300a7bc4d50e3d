use Rattle.std.proofs.Common.{ℕ, [], ◌∷◌, ◌++◌, sym, ap, ◌∙◌}
use Rattle.desk_member.specs.Spans.{rows_of_group}
use Rattle.desk_load.specs.Scans.{plain_and_groups, members_and_groups, counted_by, counted_on}
use Rattle.desk_load.proofs.Scanned.{scan_as, append_nothing, append_twice}
use Rattle.desk_load.proofs.view.free.FreeView.look_at_all.Goals as goal

pub returns-in-Plain : goal.returns-in-Plain
returns-in-Plain c seen s =
    let t = c.args.self.now.tables in
    let r : ℕ = c.args.demand.now.resource in
    scan_as c.args.self.now c.args.demand.now (λ k. seen k ++ plain_and_groups t r k) (λ k. seen k ++ counted_on t r k) c.args.minute _ _ (λ k lo hi. ap (λ s. seen k ++ counted_by s t r k) (sym c.in-Plain.ensures)) (c.look_at_plain.ensures seen s)

pub returns-in-Crew : goal.returns-in-Crew
returns-in-Crew c seen s =
    let t = c.args.self.now.tables in
    let r : ℕ = c.args.demand.now.resource in
    scan_as c.args.self.now c.args.demand.now (λ k. (seen k ++ r ∷ []) ++ members_and_groups t (rows_of_group t r) k) (λ k. seen k ++ counted_on t r k) c.args.minute _ _
    (λ k lo hi. append_twice (seen k) (r ∷ []) (members_and_groups t (rows_of_group t r) k) ∙ ap (λ s. seen k ++ counted_by s t r k) (sym c.in-Crew.ensures)) (c.look_at_members.ensures (λ k. seen k ++ r ∷ []) (c.look_at-next.ensures seen s))

pub returns-in-Pool : goal.returns-in-Pool
returns-in-Pool c seen s =
    let t = c.args.self.now.tables in
    let r : ℕ = c.args.demand.now.resource in
    scan_as c.args.self.now c.args.demand.now (λ k. seen k ++ r ∷ []) (λ k. seen k ++ counted_on t r k) c.args.minute _ _ (λ k lo hi. ap (λ s. seen k ++ counted_by s t r k) (sym c.in-Pool.ensures)) (c.look_at.ensures seen s)

pub returns-in-Unknown : goal.returns-in-Unknown
returns-in-Unknown c seen s =
    let t = c.args.self.now.tables in
    let r : ℕ = c.args.demand.now.resource in
    scan_as c.args.self.now c.args.demand.now seen (λ k. seen k ++ counted_on t r k) c.args.minute _ _ (λ k lo hi. sym (append_nothing (seen k)) ∙ ap (λ s. seen k ++ counted_by s t r k) (sym c.in-Unknown.ensures)) s
