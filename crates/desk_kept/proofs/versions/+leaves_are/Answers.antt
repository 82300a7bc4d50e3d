use Rattle.std.proofs.Common.{◌≡◌, true, false, codes, bytes_eq, string_bytes, sym, ap, ◌∙◌, if◌then◌else◌}
use Rattle.serde_json.specs.View.{view, members_view}
use Rattle.serde_json.proofs.Views.{Entry}
use Rattle.desk_kept.specs.Versions.{has_offset_as, leaves_are, members_are}
use Rattle.desk_kept.proofs.MemberOffsets.{other_member, next_member}
use Rattle.desk_kept.proofs.versions.+leaves_are.Goals as goal

pub members_are-returns-then-not-member_is : goal.members_are-returns-then-not-member_is
members_are-returns-then-not-member_is t c =
    let v = c.args.version in
    let e : Entry = (c.in-Some.name.now, c.in-Some.value.now) in
    let here = c.loop-name.invariant ∙ ap (λ es. members_are v (members_view es)) c.in-Some.ensures.steps in
    let test : (if bytes_eq (string_bytes e.0) (codes "leaf") then has_offset_as v (view e.1) else leaves_are v (view e.1)) ≡ false =
    ap (λ name. if bytes_eq name (codes "leaf") then has_offset_as v (view e.1) else leaves_are v (view e.1)) (sym c.as_str.ensures.value) ∙ sym c.member_is.ensures ∙ c.if-not-member_is.true in
    other_member v (members_view c.args.members.now.entries) e c.next.new.self here test

pub members_are-loop-name-preserved : goal.members_are-loop-name-preserved
members_are-loop-name-preserved t c =
    let v = c.args.version in
    let e : Entry = (c.in-Some.name.now, c.in-Some.value.now) in
    let here = c.loop-name.invariant ∙ ap (λ es. members_are v (members_view es)) c.in-Some.ensures.steps in
    let test : (if bytes_eq (string_bytes e.0) (codes "leaf") then has_offset_as v (view e.1) else leaves_are v (view e.1)) ≡ true =
    ap (λ name. if bytes_eq name (codes "leaf") then has_offset_as v (view e.1) else leaves_are v (view e.1)) (sym c.as_str.ensures.value) ∙ sym c.member_is.ensures ∙ c.if-not-member_is.false in
    next_member v (members_view c.args.members.now.entries) e c.next.new.self here test
