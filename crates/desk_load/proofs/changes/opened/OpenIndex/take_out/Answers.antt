use Rattle.std.proofs.Common.{◌≡◌, ◌∙◌, sym, subst}
use Rattle.desk_base.specs.declared.rows.tables.Table.TheVariants.{Booking as BookingTable}
use Rattle.desk_base.specs.changes.Changes.{without_row}
use Rattle.desk_base.specs.rows.Keys.{id_key}
use Rattle.desk_load.specs.Changed.{parts_of}
use Rattle.desk_load.specs.Lists.{list_under}
use Rattle.desk_load.specs.Stages.{IsStage}
use Rattle.desk_load.proofs.Reweighed.{are_whole}
use Rattle.desk_load.proofs.Following.{went, gone, none_known, taken_stands, none_taken, went_bounds, stage_usable}
use Rattle.desk_load.proofs.changes.opened.OpenIndex.take_out.Goals as goal

pub turn-requires-clause-there : goal.turn-requires-clause-there
turn-requires-clause-there c =
    let q = c.requires.stage in
    let rows : c.list_under-rows.result.now ≡ list_under c.in-Some.former.now.resource c.args.self.now.standing.items = c.list_under-rows.ensures ∙ (λ i. list_under (c.get.ensures.value i) (c.as_slice.ensures.value i)) in
    let k = taken_stands c.args.tables.now q.0 c.args.next q.1.0 (parts_of c.args.self.now) q.1.1 c.args.id c.in-Some.former.now.resource c.in-Some-among.found.now c.list_under-rows.result.now rows (sym c.in-Some-among.ensures) in
    (stage_usable c.args.tables.now q.0 c.args.next q.1.0 (parts_of c.args.self.now) q.1.1 c.in-Some-among.found.now k.0).there

pub turn-requires-clause-not_empty : goal.turn-requires-clause-not_empty
turn-requires-clause-not_empty c =
    let q = c.requires.stage in
    let rows : c.list_under-rows.result.now ≡ list_under c.in-Some.former.now.resource c.args.self.now.standing.items = c.list_under-rows.ensures ∙ (λ i. list_under (c.get.ensures.value i) (c.as_slice.ensures.value i)) in
    let k = taken_stands c.args.tables.now q.0 c.args.next q.1.0 (parts_of c.args.self.now) q.1.1 c.args.id c.in-Some.former.now.resource c.in-Some-among.found.now c.list_under-rows.result.now rows (sym c.in-Some-among.ensures) in
    (stage_usable c.args.tables.now q.0 c.args.next q.1.0 (parts_of c.args.self.now) q.1.1 c.in-Some-among.found.now k.0).not_empty

pub turn-requires-clause-whole : goal.turn-requires-clause-whole
turn-requires-clause-whole c = let q = c.requires.stage in are_whole q.0 c.args.self.now.weights.items q.1.1.index.weights

pub turn-requires-clause-bounds : goal.turn-requires-clause-bounds
turn-requires-clause-bounds c =
    let q = c.requires.stage in
    let rows : c.list_under-rows.result.now ≡ list_under c.in-Some.former.now.resource c.args.self.now.standing.items = c.list_under-rows.ensures ∙ (λ i. list_under (c.get.ensures.value i) (c.as_slice.ensures.value i)) in
    let k = taken_stands c.args.tables.now q.0 c.args.next q.1.0 (parts_of c.args.self.now) q.1.1 c.args.id c.in-Some.former.now.resource c.in-Some-among.found.now c.list_under-rows.result.now rows (sym c.in-Some-among.ensures) in
    went_bounds c.args.tables.now q.0 c.args.next q.1.0 (parts_of c.args.self.now) q.1.1 c.in-Some-among.found.now c.requires.well_formed k.0

pub returns-in_default-clause-out : goal.returns-in_default-clause-out
returns-in_default-clause-out c s more h = gone c.args.tables.now s c.args.next more (parts_of c.args.self.now) h (id_key BookingTable c.args.id) (none_known c.args.tables.now s c.args.next more (parts_of c.args.self.now) h c.args.id c.requires.later (sym c.in_default.ensures))

pub returns-in_ok-turn-in-Some-among-clause-out : goal.returns-in_ok-turn-in-Some-among-clause-out
returns-in_ok-turn-in-Some-among-clause-out c s more h =
    let rows : c.list_under-rows.result.now ≡ list_under c.in-Some.former.now.resource c.args.self.now.standing.items = c.list_under-rows.ensures ∙ (λ i. list_under (c.get.ensures.value i) (c.as_slice.ensures.value i)) in
    let k = taken_stands c.args.tables.now s c.args.next more (parts_of c.args.self.now) h c.args.id c.in-Some.former.now.resource c.in-Some-among.found.now c.list_under-rows.result.now rows (sym c.in-Some-among.ensures) in
    subst (λ n. IsStage c.args.tables.now (without_row s BookingTable (id_key BookingTable n)) c.args.next more (parts_of c.turn.new.self)) k.1
    (went c.args.tables.now s c.args.next more (parts_of c.args.self.now) h c.in-Some-among.found.now (parts_of c.turn.new.self) k.0 c.in_ok-turn-in-Some-among.ensures.turned)

pub returns-in-None-clause-out : goal.returns-in-None-clause-out
returns-in-None-clause-out c s more h =
    let rows : c.list_under-rows.result.now ≡ list_under c.in-Some.former.now.resource c.args.self.now.standing.items = c.list_under-rows.ensures ∙ (λ i. list_under (c.get.ensures.value i) (c.as_slice.ensures.value i)) in
    none_taken c.args.tables.now s c.args.next more (parts_of c.args.self.now) h c.args.id c.in-Some.former.now c.list_under-rows.result.now c.requires.well_formed c.requires.later (sym c.in-Some.ensures) rows (sym c.in-None.ensures)
