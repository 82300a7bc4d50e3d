-- How many steps a page takes at most, in numbers.
use Rattle.std.specs.Prelude.{ℕ, ◌≤◌, ◌≡◌, List, length}
use Rattle.desk_base.specs.declared.search.results.Options.{Options}
use Rattle.desk_base.specs.declared.search.results.Position.{Position}
use Rattle.desk_base.specs.rules.Limits.{passed_limit}
use Rattle.desk_base.specs.search.Page.{ResumePoint, ArePending, due_of, passed_of}
use Rattle.desk_need.specs.Cases.{Asked}

-- a case, a search's options, from where it goes on, and how many rows a page may have
pub record Question : Type 0 where
  pub asked : Asked
  pub options : Options
  pub point : ResumePoint
  pub limit : ℕ

-- how many leaves the group has, how many positions the page passes, and where the counter stands at most
pub record Count : Type 0 where
  pub leaves : ℕ
  pub passed : ℕ
  pub most : ℕ

-- how many positions the page passes, where these are pending
abbrev pub passes : Question → List Position → ℕ
passes q ps = length (passed_of (length q.asked.group.leaves) q.limit passed_limit (due_of (length q.asked.group.leaves) q.options.per q.point ps))

-- of 100 resources, with so many leaves and passed positions, the counter stands at most there
abbrev pub TakesAtMost : Question → Count → ℕ → Type 0
TakesAtMost q c steps = (ps : List Position) → ArePending q.asked.tables q.asked.group q.options q.point.after ps → length q.asked.tables.resources ≡ 100 → length q.asked.group.leaves ≡ c.leaves → passes q ps ≡ c.passed → steps ≤ c.most
