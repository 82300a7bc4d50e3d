use Rattle.std.proofs.Common.{rules, ◌≡◌, ◌∙◌, ℕ, ◌≤◌, true, false, nat_lt, List, length, sym, ap, subst}
use Rattle.std.proofs.lemmas.List.Sorted.{IsPartitionPoint-from_clause}
use Rattle.std.specs.List.Sorted.{IsPartitionPoint}
use Rattle.desk_base.specs.rows.Ranges.{Rise}
use Rattle.desk_base.proofs.lists.Cuts.{cut_partitioned, is_below, cut_below}
use Rattle.desk_load.specs.declared.weights.Weight.{Weight}
use Rattle.desk_load.specs.Parted.{IndexParts}
use Rattle.desk_load.proofs.Numbers.{rise_strict}
use Rattle.desk_load.proofs.Renumbered.{absent_number, inserted_is}
use Rattle.desk_load.proofs.changes.opened.OpenIndex.add_weight_of.Goals as goal

pub weight_of-requires-clause-rise : goal.weight_of-requires-clause-rise
unfolding Rise
weight_of-requires-clause-rise c = tt

pub returns-clause-weights : goal.returns-clause-weights
returns-clause-weights c =
    let owner : Weight → ℕ = λ w. w.resource in
    let rank : Weight → ℕ = λ w. 0 in
    let number : ℕ = c.get-number.result in
    let n : ℕ = c.args.resource in
    let at : ℕ = c.partition_point-at.result in
    let weights = c.args.self.now.weights.items in
    let rows = c.deref.result.now in
    let below = is_below owner rank number in
    let rise : Rise owner rank rows = subst (Rise owner rank) (sym c.deref.ensures.value) (rise_strict owner weights c.requires.rise) in
    let p = IsPartitionPoint-from_clause below rows at c.partition_point-at.ensures.partitioned (cut_partitioned below rows (cut_below owner rank number rows rise)) (λ a r q k. search rules) in
    let p1 = subst (λ m. IsPartitionPoint (λ (w : Weight). nat_lt w.resource m ≡ true) (λ (w : Weight). nat_lt w.resource m ≡ false) rows at) c.get-number.ensures.value p in
    let q = subst (λ (xs : List Weight). IsPartitionPoint (λ (w : Weight). nat_lt w.resource n ≡ true) (λ (w : Weight). nat_lt w.resource n ≡ false) xs at) c.deref.ensures.value p1 in
    let e = c.in_ok-weight.ensures in
    record {
      weight = c.in_ok-weight.weight;
      nothing = record { begin = e.begin; end = e.end; values = e.values };
      rows =
          ap (λ (i : IndexParts). i.weights) c.in_ok-add_weight.ensures.parts
          ∙ inserted_is owner n weights at (record { resource = n; weight = c.in_ok-weight.weight }) (subst (λ (xs : List Weight). at ≤ length xs) c.deref.ensures.value c.partition_point-at.ensures.bound) q (absent_number owner n weights c.requires.absent);
    }
