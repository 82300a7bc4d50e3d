use Rattle.std.proofs.Common.{◌∙◌, ap}
use Rattle.desk_load.specs.Changed.{parts_of, taken_back}
use Rattle.desk_load.proofs.TakenBack.{last_back}
use Rattle.desk_load.proofs.changes.opened.OpenIndex.put_all_back.Goals as goal

pub loop-former-preserved : goal.loop-former-preserved
loop-former-preserved c =
    let at = c.loop-former in
    let former = c.in-Some.former in
    ap (λ v. taken_back (parts_of c.put_back.new.self) v.items) c.put_back.ensures.formers
    ∙ last_back (parts_of at.self) (parts_of c.put_back.new.self) c.pop.new.self.items at.self.formers.items former c.in-Some.ensures.items c.put_back.ensures.parts
    ∙ at.invariant
