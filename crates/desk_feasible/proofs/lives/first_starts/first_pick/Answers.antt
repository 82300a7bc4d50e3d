use Rattle.std.proofs.Common.{◌≡◌, ℕ, ◌+◌, ◌≤◌, ◌↔◌, true, ap, sym, subst, arith}
use Rattle.desk_base.specs.declared.rows.groups.GroupRow.{GroupRow}
use Rattle.desk_base.specs.declared.rows.groups.Leaf.{Leaf}
use Rattle.desk_base.specs.declared.search.results.Options.{Options}
use Rattle.desk_base.specs.meaning.Eligible.{is_in_windows}
use Rattle.desk_base.specs.rules.Limits.{first_minute, end_of_minutes}
use Rattle.desk_need.specs.declared.cases.starts.StartRun.{StartRun}
use Rattle.desk_need.specs.Cases.{Asked}
use Rattle.desk_need.specs.Starts.{IsIn}
use Rattle.desk_feasible.proofs.FirstLive as first
use Rattle.desk_feasible.proofs.Windows.{leaf_end}
use Rattle.desk_feasible.proofs.lives.first_starts.first_pick.Goals as goal

pub returns-in-None-clause-first : goal.returns-in-None-clause-first
returns-in-None-clause-first g c s low live =
    let a = c.args.case.now in
    c.in-None.ensures s (subst (λ (g : GroupRow). is_in_windows g c.args.leaf.now s ≡ true) (sym c.group-group.ensures) (first.live_windows a c.args.options.now c.requires.ready c.args.leaf.now c.args.id c.requires.leaf s live))

-- the run, and the cut of it, of the case's own group
module _ (a : Asked) (o : Options) (leaf : Leaf) (group : GroupRow) (same : group ≡ a.group) (run cut : StartRun) (from : ℕ) where
  pub windows_of : ((s : ℕ) → (is_in_windows group leaf s ≡ true ↔ IsIn run s)) → (s : ℕ) → (is_in_windows a.group leaf s ≡ true ↔ IsIn run s)
  windows_of h = subst (λ (g : GroupRow). (s : ℕ) → (is_in_windows g leaf s ≡ true ↔ IsIn run s)) same h

  pub cut_of : first.IsCutOf (record { tables = a.tables; group = group }) o run from cut → first.IsCutOf a o run from cut
  cut_of h = subst (λ (g : GroupRow). first.IsCutOf (record { tables = a.tables; group = g }) o run from cut) same h

pub invariant_of-starts : goal.invariant_of-starts
invariant_of-starts g c =
    let a = c.args.case.now in
    let group = c.group-group.ensures in
    let windows = windows_of a c.args.options.now c.args.leaf.now c.group-group.result.now group c.in-Some.run' c.cut.result c.args.from c.in-Some.ensures in
    let is_cut = cut_of a c.args.options.now c.args.leaf.now c.group-group.result.now group c.in-Some.run' c.cut.result c.args.from c.cut.ensures.cut in
    let end_is : a.group.to ≤ end_of_minutes = omega (arith, c.get-2.ensures.value, c.get-2.ensures.high, ap (λ (g : GroupRow). g.to) c.group-2.ensures) in (
      c.requires.ready,
      omega (arith, c.cut.ensures.end, ap (λ (g : GroupRow). g.to) group),
      λ s low high. omega (arith, end_is, leaf_end a.group c.args.leaf.now s ((windows s).1 ((is_cut s).0 (low, high)).0)),
    )

pub first_fit_among-requires-clause-end : goal.first_fit_among-requires-clause-end
first_fit_among-requires-clause-end g c m b =
    let a = c.args.case.now in
    let group = c.group-group.ensures in
    let windows = windows_of a c.args.options.now c.args.leaf.now c.group-group.result.now group c.in-Some.run' c.cut.result c.args.from c.in-Some.ensures in
    let is_cut = cut_of a c.args.options.now c.args.leaf.now c.group-group.result.now group c.in-Some.run' c.cut.result c.args.from c.cut.ensures.cut in
    omega (
      arith,
      c.get-2.ensures.value,
      c.get-2.ensures.high,
      ap (λ (g : GroupRow). g.to) c.group-2.ensures,
      first.begins_end a c.args.options.now c.requires.ready c.in-Some.run' c.cut.result c.args.from is_cut c.args.leaf.now c.args.id c.requires.leaf c.requires.serves windows m b,
    )

pub returns-in-Some-first_fit_among-clause-first : goal.returns-in-Some-first_fit_among-clause-first
returns-in-Some-first_fit_among-clause-first g c =
    let a = c.args.case.now in
    let o = c.args.options.now in
    let v = c.args.view.now in
    let leaf = c.args.leaf.now in
    let ready = c.requires.ready in
    let group = c.group-group.ensures in
    let run = c.in-Some.run' in
    let cut = c.cut.result in
    let windows = windows_of a o leaf c.group-group.result.now group run cut c.args.from c.in-Some.ensures in
    let is_cut = cut_of a o leaf c.group-group.result.now group run cut c.args.from c.cut.ensures.cut in
    let pattern = c.goes_on.ensures.0 c.if-not-goes_on.false in
    let e = c.in-Some-first_fit_among.ensures in
    let m : ℕ = c.in-Some-first_fit_among.minute in
    let begin = λ (n : ℕ). first.begin a o ready run cut c.args.from is_cut leaf c.args.id c.requires.leaf c.requires.serves windows n in
    let low : first_minute ≤ a.group.from = omega (arith, c.get.ensures.value, c.get.ensures.low, ap (λ (g : GroupRow). g.from) c.group.ensures) in
    let high : a.group.to ≤ end_of_minutes = omega (arith, c.get-2.ensures.value, c.get-2.ensures.high, ap (λ (g : GroupRow). g.to) c.group-2.ensures) in
    let fits = c.free_bookings_fit.ensures v (begin m) (first.view_fits a o ready run cut c.args.from is_cut leaf c.args.id c.requires.leaf c.requires.serves windows v c.requires.laid pattern) e.free in (
      first.from_at a o ready run cut c.args.from is_cut leaf c.args.id c.requires.leaf c.requires.serves windows v c.requires.laid pattern m e.start,
      first.lives_at a o ready run cut c.args.from is_cut leaf c.args.id c.requires.leaf c.requires.serves windows v c.requires.laid pattern m e.start fits,
      λ s from_s less live.
          let b = first.begins_live a o ready run cut c.args.from is_cut leaf c.args.id c.requires.leaf c.requires.serves windows v c.requires.laid pattern s from_s live in
          let f = first.fits_live a o ready run cut c.args.from is_cut leaf c.args.id c.requires.leaf c.requires.serves windows v c.requires.laid pattern s live in
          let from_low = first.begins_low a o ready run cut c.args.from is_cut leaf c.args.id c.requires.leaf c.requires.serves windows (s + leaf.offset) b in
          let to_high = first.begins_end a o ready run cut c.args.from is_cut leaf c.args.id c.requires.leaf c.requires.serves windows (s + leaf.offset) b in
          e.least (s + leaf.offset) b (omega (arith, less)) (c.fitting_bookings_are_free.ensures v (begin (s + leaf.offset)) (omega (arith, from_low, low)) (omega (arith, to_high, high)) f),
    )

pub returns-in-None-first_fit_among-clause-first : goal.returns-in-None-first_fit_among-clause-first
returns-in-None-first_fit_among-clause-first g c s from_s live =
    let a = c.args.case.now in
    let o = c.args.options.now in
    let v = c.args.view.now in
    let leaf = c.args.leaf.now in
    let ready = c.requires.ready in
    let group = c.group-group.ensures in
    let run = c.in-Some.run' in
    let cut = c.cut.result in
    let windows = windows_of a o leaf c.group-group.result.now group run cut c.args.from c.in-Some.ensures in
    let is_cut = cut_of a o leaf c.group-group.result.now group run cut c.args.from c.cut.ensures.cut in
    let pattern = c.goes_on.ensures.0 c.if-not-goes_on.false in
    let begin = λ (n : ℕ). first.begin a o ready run cut c.args.from is_cut leaf c.args.id c.requires.leaf c.requires.serves windows n in
    let low : first_minute ≤ a.group.from = omega (arith, c.get.ensures.value, c.get.ensures.low, ap (λ (g : GroupRow). g.from) c.group.ensures) in
    let high : a.group.to ≤ end_of_minutes = omega (arith, c.get-2.ensures.value, c.get-2.ensures.high, ap (λ (g : GroupRow). g.to) c.group-2.ensures) in
    let b = first.begins_live a o ready run cut c.args.from is_cut leaf c.args.id c.requires.leaf c.requires.serves windows v c.requires.laid pattern s from_s live in
    let f = first.fits_live a o ready run cut c.args.from is_cut leaf c.args.id c.requires.leaf c.requires.serves windows v c.requires.laid pattern s live in
    let from_low = first.begins_low a o ready run cut c.args.from is_cut leaf c.args.id c.requires.leaf c.requires.serves windows (s + leaf.offset) b in
    let to_high = first.begins_end a o ready run cut c.args.from is_cut leaf c.args.id c.requires.leaf c.requires.serves windows (s + leaf.offset) b in
    c.in-None-first_fit_among.ensures.none (s + leaf.offset) b (c.fitting_bookings_are_free.ensures v (begin (s + leaf.offset)) (omega (arith, from_low, low)) (omega (arith, to_high, high)) f)
