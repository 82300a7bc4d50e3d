use Rattle.std.proofs.Common.{map, sym, ◌∙◌}
use Rattle.httparse.specs.Spans.{header_bytes}
use Rattle.desk_wire.specs.Framing.{is_close}
use Rattle.desk_wire.proofs.Lists.{list_any-map}
use Rattle.desk_wire.proofs.FramingLemmas.{closed_old, closed_said}
use Rattle.desk_wire.proofs.closing.closes_of.Goals as goal

pub returns-then-version-eq0 : goal.returns-then-version-eq0
returns-then-version-eq0 c = closed_old c.args.version (map (header_bytes c.args.buf.now) c.args.headers.now) c.if-version-eq0.true

pub returns-else-version-eq0 : goal.returns-else-version-eq0
returns-else-version-eq0 c =
    closed_said c.args.version (map (header_bytes c.args.buf.now) c.args.headers.now) c.any_close.result c.if-version-eq0.false
    (c.any_close.ensures ∙ sym (list_any-map is_close (header_bytes c.args.buf.now) c.args.headers.now))
