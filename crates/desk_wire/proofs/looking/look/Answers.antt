use Rattle.std.proofs.Common.{◌≤◌, ap, ◌∙◌, Err, arith, length}
use Rattle.desk_wire.specs.Front.{line_feeds}
use Rattle.desk_wire.proofs.LineFeeds.{never_exceeds}
use Rattle.desk_wire.proofs.looking.look.Goals as goal

pub returns-in-Err-TooManyHeaders-clause-bad : goal.returns-in-Err-TooManyHeaders-clause-bad
returns-in-Err-TooManyHeaders-clause-bad c =
    let room : line_feeds c.args.buf.now ≤ length c.args.headers.now = omega arith in
    let exceeds = c.parse_request.ensures.too_many (c.in-Err-TooManyHeaders.is ∙ ap Err c.in-Err-TooManyHeaders.field-0-is) in
    absurd (never_exceeds (length c.args.headers.now) c.args.buf.now room exceeds)
