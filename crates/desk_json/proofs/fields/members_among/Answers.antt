use Rattle.std.proofs.Common.{◌≡◌, ℕ, List, true, false, string_bytes, sym, ap, ◌∙◌}
use Rattle.serde_json.specs.View.{members_view}
use Rattle.serde_json.proofs.Views.{Entry}
use Rattle.desk_json.specs.Forms.{is_among, members_among, all_names}
use Rattle.desk_json.proofs.NamesAmong.{other_name, known_name}
use Rattle.desk_json.proofs.fields.members_among.Goals as goal

pub returns-then-not-is_known : goal.returns-then-not-is_known
returns-then-not-is_known c =
    let names : List (List ℕ) = all_names c.args.names.now in
    let e : Entry = (c.in-Some.name.now, c.in-Some.field-0-1.now) in
    let here = c.loop-name.invariant ∙ ap (λ es. members_among names (members_view es)) c.in-Some.ensures.steps in
    let test : is_among names (string_bytes e.0) ≡ false = ap (is_among names) (sym c.as_str.ensures.value) ∙ sym c.is_known.ensures ∙ c.if-not-is_known.true in
    other_name names (members_view c.args.members.now.entries) e c.next.new.self here test

pub loop-name-preserved : goal.loop-name-preserved
loop-name-preserved c =
    let names : List (List ℕ) = all_names c.args.names.now in
    let e : Entry = (c.in-Some.name.now, c.in-Some.field-0-1.now) in
    let here = c.loop-name.invariant ∙ ap (λ es. members_among names (members_view es)) c.in-Some.ensures.steps in
    let test : is_among names (string_bytes e.0) ≡ true = ap (is_among names) (sym c.as_str.ensures.value) ∙ sym c.is_known.ensures ∙ c.if-not-is_known.false in
    known_name names (members_view c.args.members.now.entries) e c.next.new.self here test
