use Rattle.std.proofs.Common.{◌≡◌, ◌<◌, length, take, slice_get, IfSome, subst}
use Rattle.desk_keeper.specs.Stock.{HasNone}
use Rattle.desk_keeper.specs.Memory.{IsFresh}
use Rattle.desk_keeper.proofs.Taking.{takes_first, holds_of_taken, holds_of_left}
use Rattle.desk_keeper.proofs.memory_opener.take_first.Goals as goal

pub returns-clause-first : goal.returns-clause-first
returns-clause-first c =
    takes_first c.args.path.now c.remove-path.result c.args.stores.now.items c.remove-path.new.self.items c.in_ok-at.at
    (subst (λ xs. c.in_ok-at.at < length xs) c.as_slice.ensures.value c.in_ok-at.ensures.within)
    (subst (λ xs. IfSome (slice_get xs c.in_ok-at.at) (λ x. x.0 ≡ c.args.path.now)) c.as_slice.ensures.value c.in_ok-at.ensures.found)
    (subst (λ xs. HasNone c.args.path.now (take c.in_ok-at.at xs)) c.as_slice.ensures.value c.in_ok-at.ensures.first)
    c.remove-path.ensures.value
    c.remove-path.ensures.items

pub returns-clause-fresh : goal.returns-clause-fresh
returns-clause-fresh c all =
    holds_of_taken (λ x. IsFresh x.1) c.remove-path.result c.args.stores.now.items c.in_ok-at.at
    (subst (λ xs. c.in_ok-at.at < length xs) c.as_slice.ensures.value c.in_ok-at.ensures.within)
    c.remove-path.ensures.value
    all

pub returns-clause-others : goal.returns-clause-others
returns-clause-others c all = holds_of_left (λ x. IsFresh x.1) c.args.stores.now.items c.remove-path.new.self.items c.in_ok-at.at c.remove-path.ensures.items all
