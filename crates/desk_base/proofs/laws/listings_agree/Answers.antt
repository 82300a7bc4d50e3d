use Rattle.desk_base.proofs.searched.Pages.{listing-same}
use Rattle.desk_base.proofs.laws.listings_agree.Goals as goal

pub returns : goal.returns
returns c = listing-same
