use Rattle.std.proofs.Common.{rules, ◌≡◌, ℕ, true, ◌&&◌, nat_eq, sym}
use Rattle.std.proofs.lemmas.Bool.Decides.{Decides-eqb}
use Rattle.std.specs.Bool.{Decides}
use Rattle.desk_base.proofs.searched.BeginsLemmas.{pick_decides, begins_by_picks}
use Rattle.desk_base.proofs.search.results.Position.begins.Goals as goal

-- ids are equal where their numbers are
id_decides : (a b : ℕ) → Decides (nat_eq a b && true) (a ≡ b)
id_decides a b = search (rules, Decides-eqb)

pub returns-then-eq : goal.returns-then-eq
returns-then-eq c =
    let self = c.args.self.now in
    let other = c.args.other.now in
    let e : self.start ≡ other.start = (Decides-eqb self.start other.start).0 (sym c.if-eq.ensures) in
    begins_by_picks (pick_decides id_decides) self other c.starts_with.result e (rw (← c.as_slice.ensures, ← c.as_slice-then-eq.ensures) c.starts_with.ensures.value)
