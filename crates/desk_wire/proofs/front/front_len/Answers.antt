use Rattle.std.proofs.Common.{◌≡◌, ◌<◌, ◌+◌, ◌++◌, length, take, drop, arith, ap, sym, ◌∙◌}
use Rattle.desk_wire.specs.Limits.{most_head_lines}
use Rattle.desk_wire.specs.Front.{through}
use Rattle.desk_wire.proofs.FrontLemmas.{through-line, through-other, front_at_line, front_at_end}
use Rattle.desk_wire.proofs.front.front_len.Goals as goal
use Rattle.desk_wire.proofs.front.front_len.Goals.{then-rest-i-eq10+else-left-eq0, else-rest-i-eq10}

pub returns-then-left-eq0-clause-front : goal.returns-then-left-eq0-clause-front
returns-then-left-eq0-clause-front c =
    let xs = c.args.rest.now in
    let within : c.loop-i.i < length xs = omega arith in
    let e = through-line (through most_head_lines xs) xs c.loop-i.i c.loop-i.left within c.loop-i.invariant.some c.if-rest-i-eq10.true c.loop-i.invariant.rest in
    front_at_line xs (c.loop-i.i + 1) (omega arith) (omega arith) (e ∙ ap (λ n. take (c.loop-i.i + 1) xs ++ through n (drop (c.loop-i.i + 1) xs)) c.if-left-eq0.true)

pub loop-i-preserved : goal.loop-i-preserved
loop-i-preserved c =
    let xs = c.args.rest.now in
    let within : c.loop-i.i < length xs = omega arith in
    elim c.if-rest-i-eq10.branch [
      | then-rest-i-eq10+else-left-eq0 w ↦ record {
        some = omega arith;
        rest = rw w.left-is (through-line (through most_head_lines xs) xs c.loop-i.i c.loop-i.left within c.loop-i.invariant.some w.if-rest-i-eq10.true c.loop-i.invariant.rest);
      }
      | else-rest-i-eq10 w ↦ record {
        some = omega arith;
        rest = rw w.left-is (through-other (through most_head_lines xs) xs c.loop-i.i c.loop-i.left within c.loop-i.invariant.some w.if-rest-i-eq10.false c.loop-i.invariant.rest);
      }
    ]

pub returns-clause-front : goal.returns-clause-front
returns-clause-front c =
    let e : c.loop-i.i ≡ c.min-most.result = omega arith in
    let h = front_at_end c.args.rest.now c.loop-i.i c.loop-i.left (e ∙ c.min-most.ensures) c.loop-i.invariant.rest in
    rw (sym e) h
