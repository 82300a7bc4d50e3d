use Rattle.std.proofs.Common.{◌≡◌, ℕ, ◌<◌, ◌≤◌, ◌∙◌, ap, sym, arith, true, ◌==◌, is_some}
use Rattle.std.proofs.lemmas.Bool.Decides.{nat_tests}
use Rattle.std.specs.Prelude.{List, filter}
use Rattle.std.specs.List.{list_any}
use Rattle.desk_base.specs.declared.rows.tables.Tables.{Tables}
use Rattle.desk_base.specs.declared.rows.calendars.OffRow.{OffRow}
use Rattle.desk_base.specs.meaning.Time.{covers}
use Rattle.desk_calendar.specs.Offs.{is_off}
use Rattle.desk_base.proofs.lists.Bounds.{any_found, any_within, any_still, found_passes, found_among}
use Rattle.desk_calendar.proofs.offs.off_at.Goals as goal

within : (t : Tables) (r : ℕ) (offs : List OffRow) → offs ≡ filter (λ (o : OffRow). o.resource == r) t.offs → (k : ℕ) → is_off t r k ≡ list_any (λ (o : OffRow). covers o.from o.to k) offs
within t r offs e k = any_within (λ (o : OffRow). o.resource == r) (λ (o : OffRow). covers o.from o.to k) t.offs ∙ ap (list_any (λ (o : OffRow). covers o.from o.to k)) (sym e)

holds_it : (f t m k : ℕ) → covers f t m ≡ true → m ≤ k → k < t → covers f t k ≡ true
holds_it f t m k e l h = grind (arith, nat_tests)

ends_later : (f t m : ℕ) → covers f t m ≡ true → m < t
ends_later f t m e = grind (arith, nat_tests)

pub returns-in-Some-clause-off : goal.returns-in-Some-clause-off
returns-in-Some-clause-off c = sym (within c.args.tables.now c.args.resource c.offs_of-offs.result.now c.offs_of-offs.ensures c.args.minute ∙ any_found (λ (o : OffRow). covers o.from o.to c.args.minute) c.offs_of-offs.result.now ∙ ap is_some (sym c.in-Some.ensures))

pub returns-in-Some-clause-later : goal.returns-in-Some-clause-later
returns-in-Some-clause-later c =
    let o = c.in-Some.off.now in
    let e = found_passes (λ (o : OffRow). covers o.from o.to c.args.minute) c.offs_of-offs.result.now o (sym c.in-Some.ensures) in
    omega (arith, ends_later o.from o.to c.args.minute e, c.get.ensures.value)

pub returns-in-Some-clause-steady : goal.returns-in-Some-clause-steady
returns-in-Some-clause-steady c k l h =
    let o = c.in-Some.off.now in
    let e = found_passes (λ (o : OffRow). covers o.from o.to c.args.minute) c.offs_of-offs.result.now o (sym c.in-Some.ensures) in
    within c.args.tables.now c.args.resource c.offs_of-offs.result.now c.offs_of-offs.ensures k ∙ found_among (λ (o : OffRow). covers o.from o.to c.args.minute) (λ (o : OffRow). covers o.from o.to k) c.offs_of-offs.result.now o (sym c.in-Some.ensures) (holds_it o.from o.to c.args.minute k e l (omega (arith, h, c.get.ensures.value)))

pub returns-in-None-clause-off : goal.returns-in-None-clause-off
returns-in-None-clause-off c = sym (within c.args.tables.now c.args.resource c.offs_of-offs.result.now c.offs_of-offs.ensures c.args.minute ∙ any_found (λ (o : OffRow). covers o.from o.to c.args.minute) c.offs_of-offs.result.now ∙ ap is_some (sym c.in-None.ensures))

pub returns-in-None-clause-steady : goal.returns-in-None-clause-steady
returns-in-None-clause-steady c k l h =
    within c.args.tables.now c.args.resource c.offs_of-offs.result.now c.offs_of-offs.ensures k ∙ any_still (λ (o : OffRow). covers o.from o.to k) (λ (o : OffRow). covers o.from o.to c.args.minute) c.offs_of-offs.result.now (c.next_bound.ensures.still.at k l h)
    ∙ any_found (λ (o : OffRow). covers o.from o.to c.args.minute) c.offs_of-offs.result.now ∙ ap is_some (sym c.in-None.ensures)
