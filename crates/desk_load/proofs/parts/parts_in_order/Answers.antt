use Rattle.std.proofs.Common.{◌≡◌, ℕ, ◌+◌, ◌<◌, ◌++◌, ◌∷◌, [], ◌∙◌, sym, ap, subst, map, take, arith}
use Rattle.std.proofs.lemmas.List.{take_more}
use Rattle.std.proofs.lemmas.List.Sums.{sum_by-append}
use Rattle.std.specs.Prelude.{sum_by, IsSome}
use Rattle.desk_base.specs.declared.rows.bookings.BookingRow.{BookingRow}
use Rattle.desk_base.specs.declared.search.results.Ask.{Ask}
use Rattle.desk_base.specs.meaning.Capacity.{resource_of}
use Rattle.desk_base.specs.meaning.Load.{load, weight, ask_of}
use Rattle.desk_member.specs.Pieces.{item_at}
use Rattle.desk_load.specs.Parts.{part_of, part_at, IsAskable}
use Rattle.desk_load.proofs.Numbers.{map_more, all_get}
use Rattle.desk_load.proofs.Weighed.{parts_items, weight-append, weight-one}
use Rattle.desk_load.proofs.parts.parts_in_order.Goals as goal

pub load_pieces-requires-clause-there : goal.load_pieces-requires-clause-there
load_pieces-requires-clause-there c =
    let x : BookingRow = c.booking-item.result in
    let a : IsAskable c.args.tables.now x = subst (IsAskable c.args.tables.now) (sym c.booking-item.is) (all_get (IsAskable c.args.tables.now) c.args.bookings.now c.loop-booking.booking-index x c.requires.askable c.loop-booking-test.true) in
    subst (λ (k : Ask). IsSome (resource_of c.args.tables.now k.resource)) (sym c.ask_of.ensures) a.there

pub load_pieces-requires-clause-window : goal.load_pieces-requires-clause-window
load_pieces-requires-clause-window c =
    let x : BookingRow = c.booking-item.result in
    let a : IsAskable c.args.tables.now x = subst (IsAskable c.args.tables.now) (sym c.booking-item.is) (all_get (IsAskable c.args.tables.now) c.args.bookings.now c.loop-booking.booking-index x c.requires.askable c.loop-booking-test.true) in
    subst (λ (k : Ask). k.window.from < k.window.to) (sym c.ask_of.ensures) a.not_empty

pub loop-booking-preserved : goal.loop-booking-preserved
loop-booking-preserved c r m =
    let t = c.args.tables.now in
    let xs = c.args.bookings.now in
    let i : ℕ = c.loop-booking.booking-index in
    let x : BookingRow = c.booking-item.result in
    let more : take (i + 1) xs ≡ take i xs ++ x ∷ [] = take_more xs i x c.loop-booking-test.true ∙ ap (λ y. take i xs ++ y ∷ []) (sym c.booking-item.is) in
    let mapped = ap (map ask_of) more ∙ map_more ask_of (take i xs) x in
    let a = ap (sum_by (part_at r m)) c.in_ok-add_parts.ensures in
    let b = sum_by-append (part_at r m) c.loop-booking.parts.items (map part_of c.as_slice.result.now) in
    let d = parts_items r m c.as_slice.result.now in
    let e = c.in_ok-items.ensures.sums r m in
    let f = weight-append t (map ask_of (take i xs)) (ask_of x ∷ []) r m in
    let g = weight-one t (ask_of x) r m in
    let h = ap (λ l. weight t l r m) mapped in
    let k = c.loop-booking.invariant r m in
    let n = ap (sum_by (item_at r m)) c.as_slice.ensures ∙ e ∙ ap (load t r m) c.ask_of.ensures in
    omega (arith, a, b, d, n, f, g, h, k)
