use Rattle.std.proofs.Common.{◌≡◌, ℕ, List, ◌++◌, ◌∷◌, [], ◌∙◌, sym, ap, subst, map, take, get_or}
use Rattle.std.proofs.lemmas.List.{take_more}
use Rattle.std.specs.Prelude.{filter}
use Rattle.desk_base.specs.declared.rows.bookings.BookingRow.{BookingRow}
use Rattle.desk_base.specs.rows.Ranges.{Rise, owns}
use Rattle.desk_base.proofs.lists.Cuts.{Rise-filter}
use Rattle.desk_load.specs.declared.lists.Owned.{Owned}
use Rattle.desk_load.specs.Lists.{owned_bookings}
use Rattle.desk_load.proofs.Listing.{rise_map}
use Rattle.desk_load.proofs.Numbers.{map_more}
use Rattle.desk_load.proofs.lists.lists_of.Goals as goal

pub of-requires : goal.of-requires
of-requires c =
    let ns = c.args.numbers.now in
    let i : ℕ = c.loop-number.number-index in
    let n : ℕ = get_or ns i 0 in
    let rows = filter (owns (λ (o : Owned). o.owner) n) c.args.owned.items in
    let one = c.in_ok-bookings.ensures ∙ ap (map (λ (o : Owned). o.booking)) (c.rows_of.ensures ∙ ap (filter (owns (λ (o : Owned). o.owner) n)) c.as_slice.ensures.value ∙ c.in_ok-rows.ensures.same n) in
    subst (Rise (λ (b : BookingRow). b.id) (λ _. 0)) (sym one)
    (rise_map (λ (o : Owned). o.booking) (λ (b : BookingRow). b.id) rows (Rise-filter (λ (o : Owned). o.booking.id) (λ _. 0) (owns (λ (o : Owned). o.owner) n) c.args.owned.items c.requires))

pub loop-number-preserved : goal.loop-number-preserved
loop-number-preserved c =
    let ns = c.args.numbers.now in
    let i : ℕ = c.loop-number.number-index in
    let n : ℕ = get_or ns i 0 in
    let f = owned_bookings c.args.owned.items in
    let one : c.of.result ≡ map (λ (o : Owned). o.booking) (filter (owns (λ (o : Owned). o.owner) n) c.args.owned.items) = c.of.ensures ∙ c.in_ok-bookings.ensures ∙ ap (map (λ (o : Owned). o.booking)) (c.rows_of.ensures ∙ ap (filter (owns (λ (o : Owned). o.owner) n)) c.as_slice.ensures.value ∙ c.in_ok-rows.ensures.same n) in
    c.in-Ok.ensures.items
    ∙ ap (λ l. l ++ record { number = n; bookings = c.of.result } ∷ []) c.loop-number.invariant
    ∙ ap (λ (l : List BookingRow). map f (take i ns) ++ record { number = n; bookings = l } ∷ []) one
    ∙ sym (ap (map f) (take_more ns i 0 c.loop-number-test.true) ∙ map_more f (take i ns) n)
