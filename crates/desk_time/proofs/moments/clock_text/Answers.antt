use Rattle.std.proofs.Common.{refl}
use Rattle.desk_time.specs.Moments.{clock_text}
use Rattle.desk_time.proofs.moments.clock_text.Goals as goal

pub returns-clause-text : goal.returns-clause-text
unfolding clock_text
returns-clause-text c = rw (c.two_digits.ensures, c.two_digits-2.ensures) refl
