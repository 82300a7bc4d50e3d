use Rattle.std.proofs.Common.{sym, ap, ◌∙◌, length}
use Rattle.std.proofs.lemmas.List.{length-take-le}
use Rattle.desk_wire.specs.Front.{line_feeds}
use Rattle.desk_wire.proofs.HeadSpans.{full_lines, full_bytes}
use Rattle.desk_wire.proofs.reading.without_head.Goals as goal

pub returns-then-count_lines-ge-MOST_HEAD_LINES : goal.returns-then-count_lines-ge-MOST_HEAD_LINES
returns-then-count_lines-ge-MOST_HEAD_LINES c =
    full_lines c.args.rest.now c.count_lines.result c.requires.none c.requires.may
    (c.count_lines.ensures ∙ ap line_feeds c.requires.front) c.if-count_lines-ge-MOST_HEAD_LINES.true

pub returns-then-len-ge-MOST_HEAD_BYTES : goal.returns-then-len-ge-MOST_HEAD_BYTES
returns-then-len-ge-MOST_HEAD_BYTES c =
    full_bytes c.args.rest.now c.count_lines.result c.args.len c.requires.none c.requires.may
    (c.count_lines.ensures ∙ ap line_feeds c.requires.front) c.if-count_lines-ge-MOST_HEAD_LINES.false
    (sym (length-take-le c.args.len c.args.rest.now c.requires.len) ∙ ap length c.requires.front) c.if-len-ge-MOST_HEAD_BYTES.true
