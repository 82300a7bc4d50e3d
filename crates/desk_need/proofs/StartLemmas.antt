-- Runs of starts that keep the rule of windows.
use Rattle.std.proofs.Common.{◌≡◌, ℕ, ◌+◌, ◌≤◌, true, Option, Some, None, refl, sym, subst, arith, nat_le, MatchOption}
use Rattle.std.proofs.lemmas.Bool.Decides.{nat_tests}
use Rattle.std.specs.Prelude.{⊤}
use Rattle.std.specs.Option.{option_map_or}
use Rattle.desk_base.specs.declared.rows.groups.GroupRow.{GroupRow}
use Rattle.desk_base.specs.declared.rows.groups.Leaf.{Leaf}
use Rattle.desk_base.specs.declared.values.minutes.Window.{Window}
use Rattle.desk_base.specs.meaning.Time.{is_inside, leaf_time}
use Rattle.desk_base.specs.meaning.Eligible.{is_in_windows}
use Rattle.desk_base.proofs.lists.Tests.{and_left, and_right, and_both}
use Rattle.desk_need.specs.declared.cases.starts.StartRun.{StartRun}
use Rattle.desk_need.specs.Starts.{IsIn, AreStarts, LiesInside, LiesInOwn}

-- what holds of the same starts has the same run
pub are_starts_same : (P Q : ℕ → Type 0) → ((s : ℕ) → P s → Q s) → ((s : ℕ) → Q s → P s) → (o : Option StartRun) → AreStarts P o → AreStarts Q o
are_starts_same P Q f g None h = λ s q. h s (g s q)
are_starts_same P Q f g (Some run) h = λ s. (λ q. (h s).0 (g s q), λ i. f s ((h s).1 i))

-- ---- the leaf's own window

abbrev Own : Leaf → ℕ → Option Window → Type 0
Own leaf s w = MatchOption w ⊤ (λ w. LiesInside leaf w.from w.to s)

pub own_none : (leaf : Leaf) (run : StartRun) → leaf.window ≡ None → AreStarts (λ s. IsIn run s × LiesInOwn leaf s) (Some run)
own_none leaf run e = λ s. (λ p. p.0, λ i. (i, subst (Own leaf s) (sym e) tt))

pub own_never : (leaf : Leaf) (run : StartRun) (w : Window) → leaf.window ≡ Some w → AreStarts (λ s. LiesInside leaf w.from w.to s) None → AreStarts (λ s. IsIn run s × LiesInOwn leaf s) None
own_never leaf run w e h = λ s p. h s (subst (Own leaf s) e p.1)

pub own_some : (leaf : Leaf) (run own : StartRun) (w : Window) (o : Option StartRun) → leaf.window ≡ Some w → AreStarts (λ s. LiesInside leaf w.from w.to s) (Some own) → AreStarts (λ s. IsIn run s × IsIn own s) o → AreStarts (λ s. IsIn run s × LiesInOwn leaf s) o
own_some leaf run own w o e h k =
    are_starts_same (λ s. IsIn run s × IsIn own s) (λ s. IsIn run s × LiesInOwn leaf s)
    (λ s p. (p.0, subst (Own leaf s) (sym e) ((h s).1 p.1)))
    (λ s p. (p.0, (h s).0 (subst (Own leaf s) e p.1)))
    o k

-- ---- both windows

lies : (leaf : Leaf) (w : Window) (s : ℕ) → is_inside (leaf_time leaf s) w ≡ true → LiesInside leaf w.from w.to s
lies leaf w s e =
    let a = and_left (nat_le w.from (s + leaf.offset)) (nat_le (s + leaf.offset + leaf.duration) w.to) e in
    let b = and_right (nat_le w.from (s + leaf.offset)) (nat_le (s + leaf.offset + leaf.duration) w.to) e in
    (le _ _ a, le _ _ b)
  where
    le : (m n : ℕ) → nat_le m n ≡ true → m ≤ n
    le m n e = grind (arith, nat_tests)

lies_inside : (leaf : Leaf) (w : Window) (s : ℕ) → LiesInside leaf w.from w.to s → is_inside (leaf_time leaf s) w ≡ true
lies_inside leaf w s h = and_both (nat_le w.from (s + leaf.offset)) (nat_le (s + leaf.offset + leaf.duration) w.to) (le _ _ h.0) (le _ _ h.1)
  where
    le : (m n : ℕ) → m ≤ n → nat_le m n ≡ true
    le m n e = grind (arith, nat_tests)

own_lies : (leaf : Leaf) (s : ℕ) (o : Option Window) → option_map_or (is_inside (leaf_time leaf s)) o true ≡ true → Own leaf s o
own_lies leaf s None e = tt
own_lies leaf s (Some w) e = lies leaf w s e

own_inside : (leaf : Leaf) (s : ℕ) (o : Option Window) → Own leaf s o → option_map_or (is_inside (leaf_time leaf s)) o true ≡ true
own_inside leaf s None h = refl
own_inside leaf s (Some w) h = lies_inside leaf w s h

pub windows_lie : (g : GroupRow) (leaf : Leaf) (s : ℕ) → is_in_windows g leaf s ≡ true → LiesInside leaf g.from g.to s × LiesInOwn leaf s
windows_lie g leaf s e = (
  lies leaf (record { from = g.from; to = g.to }) s (and_left (is_inside (leaf_time leaf s) (record { from = g.from; to = g.to })) (option_map_or (is_inside (leaf_time leaf s)) leaf.window true) e),
  own_lies leaf s leaf.window (and_right (is_inside (leaf_time leaf s) (record { from = g.from; to = g.to })) (option_map_or (is_inside (leaf_time leaf s)) leaf.window true) e),
)

pub lie_in_windows : (g : GroupRow) (leaf : Leaf) (s : ℕ) → LiesInside leaf g.from g.to s → LiesInOwn leaf s → is_in_windows g leaf s ≡ true
lie_in_windows g leaf s a b =
    and_both (is_inside (leaf_time leaf s) (record { from = g.from; to = g.to })) (option_map_or (is_inside (leaf_time leaf s)) leaf.window true)
    (lies_inside leaf (record { from = g.from; to = g.to }) s a) (own_inside leaf s leaf.window b)

pub never_in_windows : (g : GroupRow) (leaf : Leaf) → AreStarts (λ s. LiesInside leaf g.from g.to s) None → AreStarts (λ s. is_in_windows g leaf s ≡ true) None
never_in_windows g leaf h = λ s e. h s (windows_lie g leaf s e).0

pub in_windows : (g : GroupRow) (leaf : Leaf) (run : StartRun) (o : Option StartRun) → AreStarts (λ s. LiesInside leaf g.from g.to s) (Some run) → AreStarts (λ s. IsIn run s × LiesInOwn leaf s) o → AreStarts (λ s. is_in_windows g leaf s ≡ true) o
in_windows g leaf run o h k =
    are_starts_same (λ s. IsIn run s × LiesInOwn leaf s) (λ s. is_in_windows g leaf s ≡ true)
    (λ s p. lie_in_windows g leaf s ((h s).1 p.0) p.1)
    (λ s e. let w = windows_lie g leaf s e in ((h s).0 w.0, w.1))
    o k
