use Rattle.std.proofs.Common.{sym}
use Rattle.desk_spans.proofs.StretchLemmas.{Fill-le}
use Rattle.desk_spans.proofs.TimelineLemmas.{end_of-timeline}
use Rattle.desk_spans.proofs.profile.Profile.to.Goals as goal

pub returns : goal.returns
returns c = rw (← c.self.view_is) (sym (end_of-timeline _ _ _ (Fill-le _ _ _ c.self.invariant.fill)))
