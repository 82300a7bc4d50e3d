use Rattle.desk_wire.proofs.Cuts.{IsWhole-append, IsBad-append, IsTooLarge-append}
use Rattle.desk_wire.proofs.laws.fronts_stay.Goals as goal

pub returns : goal.returns
returns c = record {
  whole = IsWhole-append;
  bad = IsBad-append;
  too_large = IsTooLarge-append;
}
