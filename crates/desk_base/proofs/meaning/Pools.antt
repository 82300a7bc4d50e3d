-- In well-formed tables a pool weighs what stands on it and what its members weigh.
use Rattle.std.proofs.Common.{◌≡◌, ℕ, ◌+◌, true, ◌&&◌, ◌==◌, List, map, filter, refl, ap, ◌∙◌, is_none}
use Rattle.std.proofs.lemmas.Bool.{false≢true}
use Rattle.std.specs.Prelude.{sum_by}
use Rattle.desk_base.specs.rows.Types.{Tables, Ask, MemberRow}
use Rattle.desk_base.specs.declared.rows.tables.AnyRow.TheVariants.{Member}
use Rattle.desk_base.specs.rules.Rules.{first_broken}
use Rattle.desk_base.specs.meaning.Time.{covers}
use Rattle.desk_base.specs.rows.Rows.{key_of}
use Rattle.desk_base.specs.rules.Fields.{is_plain, member_rules}
use Rattle.desk_base.specs.meaning.Load.{LoadSort, plain, crew, pool, unknown, sort_of, members, own_load, weight}
use Rattle.desk_base.specs.rules.Sound.{AreWellFormed}
use Rattle.desk_base.proofs.lists.Members.{IsIn, in-map, in-filter, in_mapped, contains_from_in}
use Rattle.desk_base.proofs.lists.Tests.{and_left}
use Rattle.desk_base.proofs.meaning.Shapes.{rules_kept, none_from}
use Rattle.desk_base.proofs.meaning.Sums.{weight-pool}

plain_is : (s : LoadSort) → is_plain s ≡ true → s ≡ plain
plain_is plain e = refl
plain_is crew e = absurd (false≢true e)
plain_is pool e = absurd (false≢true e)
plain_is unknown e = absurd (false≢true e)

-- each member of a crew or a pool is plain
pub members_plain : (t : Tables) (g m x : ℕ) → AreWellFormed t → IsIn x (members t g m) → sort_of t x ≡ plain
members_plain t g m x s i =
    let a = in-map (λ (y : MemberRow). y.member) x (filter (λ y. (y.group == g) && covers y.from y.to m) t.members) i in
    let b = in-filter (λ (y : MemberRow). (y.group == g) && covers y.from y.to m) a.0 t.members a.1 in
    let k = s.field (key_of (Member a.0)) (Member a.0) (contains_from_in (map Member t.members) (Member a.0) (in_mapped Member a.0 t.members b.0)) refl in
    let r = rules_kept (member_rules t a.0) (none_from (first_broken (member_rules t a.0)) (and_left (is_none (first_broken (member_rules t a.0))) true k)) in
    ap (sort_of t) a.2 ∙ plain_is (sort_of t a.0.member) r.1.0

pub pool_weights : (t : Tables) (asks : List Ask) (r m : ℕ) → AreWellFormed t → sort_of t r ≡ pool → weight t asks r m ≡ sum_by (own_load r m) asks + sum_by (λ x. weight t asks x m) (members t r m)
pool_weights t asks r m s e = weight-pool t asks r m e (λ x i. members_plain t r m x s i)
