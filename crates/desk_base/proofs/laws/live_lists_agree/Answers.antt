use Rattle.desk_base.specs.search.Order.{position_cmp}
use Rattle.desk_base.specs.search.OrderLaws.{position_total}
use Rattle.desk_base.specs.search.Listing.{IsLive}
use Rattle.desk_base.proofs.lists.Orders.{Enumerates-same}
use Rattle.desk_base.proofs.laws.live_lists_agree.Goals as goal

pub returns : goal.returns
returns c = λ t g o. Enumerates-same position_cmp position_total (IsLive t g o)
