use Rattle.std.proofs.Common.{ℕ, take, sym, subst}
use Rattle.std.proofs.lemmas.List.{take_all}
use Rattle.desk_load.specs.Overs.{IsFirstAmong}
use Rattle.desk_load.proofs.Scanned.{take_more}
use Rattle.desk_load.proofs.view.free.FreeView.first_over.Goals as goal

pub loop-resource-preserved : goal.loop-resource-preserved
loop-resource-preserved c =
    let t = c.args.self.now.tables in
    let seen = c.args.suspects.now in
    let i : ℕ = c.loop-resource.resource-index in
    subst (λ l. IsFirstAmong t l c.over_with-found.result) (sym (take_more seen i c.resource-item.result c.loop-resource-test.true c.resource-item.is)) (c.over_with-found.ensures (take i seen) c.loop-resource.invariant)

pub returns : goal.returns
returns c = subst (λ l. IsFirstAmong c.args.self.now.tables l c.loop-resource.found) (take_all c.loop-resource.resource-index c.args.suspects.now c.loop-resource-test.false) c.loop-resource.invariant
