-- A resource that serves breaks no rule, and its leaf lies inside its windows.
use Rattle.std.proofs.Common.{◌≡◌, ℕ, ◌+◌, ◌≤◌, Bool, true, false, cond, ◌&&◌, nat_le, Option, Some, None, refl, is_none, arith}
use Rattle.std.proofs.lemmas.Bool.{false≢true}
use Rattle.std.proofs.lemmas.Bool.Decides.{nat_tests}
use Rattle.std.specs.Option.{option_or}
use Rattle.desk_base.specs.declared.rows.tables.Tables.{Tables}
use Rattle.desk_base.specs.declared.rows.groups.GroupRow.{GroupRow}
use Rattle.desk_base.specs.declared.rows.groups.Leaf.{Leaf}
use Rattle.desk_base.specs.declared.asked.rules.LeafRule.{LeafRule}
use Rattle.desk_base.specs.declared.asked.rules.LeafRule.TheVariants.{Window as OutsideWindow}
use Rattle.desk_base.specs.meaning.Eligible.{first_broken_rule, first_broken_at, is_in_windows}
use Rattle.desk_base.specs.meaning.Time.{leaf_time}
use Rattle.desk_base.proofs.lists.Tests.{and_left, and_right}

or_none : (o : Option LeafRule) (b : Bool) → is_none (option_or o (cond b None (Some OutsideWindow))) ≡ true → (is_none o ≡ true) × (b ≡ true)
or_none None true e = (refl, refl)
or_none None false e = absurd (false≢true e)
or_none (Some r) b e = absurd (false≢true e)

pub served : (t : Tables) (g : GroupRow) (l : Leaf) (s r : ℕ) → is_none (first_broken_at t g l s r) ≡ true → (is_none (first_broken_rule t l r) ≡ true) × (is_in_windows g l s ≡ true)
served t g l s r e = or_none (first_broken_rule t l r) (is_in_windows g l s) e

pub leaf_end : (g : GroupRow) (l : Leaf) (s : ℕ) → is_in_windows g l s ≡ true → (leaf_time l s).to ≤ g.to
leaf_end g l s e =
    let h = and_right (nat_le g.from (s + l.offset)) (nat_le (s + l.offset + l.duration) g.to) (and_left (nat_le g.from (s + l.offset) && nat_le (s + l.offset + l.duration) g.to) _ e) in
    grind (arith, nat_tests)
