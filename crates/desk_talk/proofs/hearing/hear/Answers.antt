use Rattle.std.proofs.Common.{◌++◌, length-append, arith, rules}
use Rattle.std.proofs.KnownBytes.{Consumes-trans}
use Rattle.desk_talk.proofs.HearingSteps.{fills_more, wants_more, none_whole}
use Rattle.desk_talk.proofs.hearing.hear.Goals as goal

pub loop-request-preserved : goal.loop-request-preserved
loop-request-preserved g c =
    let had = c.loop-request.invariant in
    let wants = wants_more c.loop-request.framer _ c.next_request.new.self c.in-Ok-More.field-0-is (c.in-Ok-More.ensures.first had.fills.waits) in
    let pulled = c.in-Bytes.ensures.pulled in
    record {
      fills = fills_more c.next_request.new.self had.fills wants.1 wants.2 pulled.2;
      first = λ whole. absurd (none_whole _ _ had.first wants.0 whole);
      budget = search rules;
      rising = search rules;
    }

pub returns-in-AtEnd-clause-first : goal.returns-in-AtEnd-clause-first
returns-in-AtEnd-clause-first g c =
    let had = c.loop-request.invariant in
    let wants = wants_more c.loop-request.framer _ c.next_request.new.self c.in-Ok-More.field-0-is (c.in-Ok-More.ensures.first had.fills.waits) in
    λ whole. absurd (none_whole _ _ had.first wants.0 whole)

pub returns-in-Fault-clause-first : goal.returns-in-Fault-clause-first
returns-in-Fault-clause-first g c =
    let had = c.loop-request.invariant in
    let wants = wants_more c.loop-request.framer _ c.next_request.new.self c.in-Ok-More.field-0-is (c.in-Ok-More.ensures.first had.fills.waits) in
    λ whole. absurd (none_whole _ _ had.first wants.0 whole)

pub returns-in-NoMemory-clause-first : goal.returns-in-NoMemory-clause-first
returns-in-NoMemory-clause-first g c =
    let had = c.loop-request.invariant in
    let wants = wants_more c.loop-request.framer _ c.next_request.new.self c.in-Ok-More.field-0-is (c.in-Ok-More.ensures.first had.fills.waits) in
    λ whole. absurd (none_whole _ _ had.first wants.0 whole)

pub returns-in-NoMemory-clause-hears : goal.returns-in-NoMemory-clause-hears
returns-in-NoMemory-clause-hears g c =
    let had = c.loop-request.invariant.fills in
    let got = c.in-NoMemory.ensures.pulled.1 in
    record {
      more = had.more ++ got.0;
      taken = Consumes-trans _ _ _ had.more got.0 had.taken got.1;
      count = omega (arith, had.count, got.2, length-append had.more got.0);
      heard = tt;
    }
