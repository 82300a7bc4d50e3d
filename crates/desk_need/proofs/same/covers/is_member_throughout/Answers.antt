use Rattle.std.proofs.Common.{◌≡◌, ◌+◌, ◌==◌, min, max, ◌∙◌, arith}
use Rattle.std.specs.List.{list_any}
use Rattle.desk_base.specs.rules.Limits.{first_minute, end_of_minutes}
use Rattle.desk_base.specs.meaning.Load.{members}
use Rattle.desk_base.specs.meaning.Picks.{is_member_throughout}
use Rattle.desk_need.proofs.CoverLemmas.{all_range_same}
use Rattle.desk_need.proofs.same.covers.is_member_throughout.Goals as goal

pub returns : goal.returns
unfolding is_member_throughout
returns c =
    let from : c.later-from.result ≡ max first_minute (c.args.start + c.args.leaf.now.offset) = omega (arith, c.later-from.ensures, c.begin_of-begin.ensures.value) in
    let to : c.earlier-to.result ≡ min (c.args.start + c.args.leaf.now.offset + c.args.leaf.now.duration) end_of_minutes = omega (arith, c.earlier-to.ensures, c.begin_of-begin.ensures.value) in
    c.is_member_from.ensures ∙ all_range_same (λ m. list_any (λ x. x == c.args.member) (members c.args.tables.now c.args.crew m)) c.later-from.result c.earlier-to.result (max first_minute (c.args.start + c.args.leaf.now.offset)) (min (c.args.start + c.args.leaf.now.offset + c.args.leaf.now.duration) end_of_minutes) from to
