use Rattle.std.proofs.Common.{Some, ap, subst}
use Rattle.desk_keeper.specs.Stock.{TakesFirst}
use Rattle.desk_keeper.proofs.memory_opener.MemoryOpenerOpener.fetch.Goals as goal

pub returns-in-Some-clause-first : goal.returns-in-Some-clause-first
returns-in-Some-clause-first c = (
  c.take_first.new.stores.items,
  subst (λ o. TakesFirst c.args.path.now c.in-Some.store o.stock.stores c.take_first.new.stores.items) c.self.view_is c.in-Some.ensures.first,
  ap (λ o. Some (record { stores = c.take_first.new.stores.items; given_back = o.stock.given_back })) c.self.view_is,
)
