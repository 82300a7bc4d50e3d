use Rattle.std.proofs.Common.{◌≡◌, ◌∙◌, sym, ap, subst, map}
use Rattle.std.specs.Ordering.{nat_cmp}
use Rattle.std.specs.List.{AllByRecursion}
use Rattle.std.specs.List.Sorted.{IsStrictlySortedBy}
use Rattle.desk_base.specs.declared.rows.bookings.BookingRow.{BookingRow}
use Rattle.desk_base.specs.rows.Ranges.{Rise}
use Rattle.desk_base.proofs.tables.Rising.{bookings_rise}
use Rattle.desk_load.specs.declared.lists.BookingList.{BookingList}
use Rattle.desk_load.specs.declared.lists.Owned.{Owned}
use Rattle.desk_load.specs.Lists.{owned, owned_bookings, lists_of}
use Rattle.desk_load.specs.Index.{resource_numbers, group_numbers}
use Rattle.desk_load.specs.Parts.{IsAskable}
use Rattle.desk_load.proofs.Listing.{rise_map, lists_are, lists_climb}
use Rattle.desk_load.proofs.Numbers.{keys_climb, resources_climb, groups_climb}
use Rattle.desk_load.proofs.Standing.{standing_askable}
use Rattle.desk_load.proofs.Weighed.{weight_small}
use Rattle.desk_load.proofs.index.LoadIndex.build.Goals as goal

pub parts_of-requires-clause-askable : goal.parts_of-requires-clause-askable
parts_of-requires-clause-askable c = subst (AllByRecursion (IsAskable c.args.tables.now)) (sym c.as_slice-bookings.ensures) (standing_askable c.args.tables.now c.requires)

pub weights_of-requires-clause-few : goal.weights_of-requires-clause-few
weights_of-requires-clause-few c r m = weight_small c.args.tables.now c.requires r m

pub lists_of-requires : goal.lists_of-requires
lists_of-requires c =
    let t = c.args.tables.now in
    subst (Rise (λ (o : Owned). o.booking.id) (λ _. 0)) (sym (c.in_ok-by_resource.ensures ∙ ap (map (owned (λ (b : BookingRow). b.resource))) c.as_slice-bookings.ensures))
    (rise_map (owned (λ (b : BookingRow). b.resource)) (λ (o : Owned). o.booking.id) t.bookings (bookings_rise t (keys_climb t c.requires)))

pub lists_of-requires-2 : goal.lists_of-requires-2
lists_of-requires-2 c =
    let t = c.args.tables.now in
    subst (Rise (λ (o : Owned). o.booking.id) (λ _. 0)) (sym (c.in_ok-by_group.ensures ∙ ap (map (owned (λ (b : BookingRow). b.group))) c.as_slice-bookings.ensures))
    (rise_map (owned (λ (b : BookingRow). b.group)) (λ (o : Owned). o.booking.id) t.bookings (bookings_rise t (keys_climb t c.requires)))

pub invariant_of-result : goal.invariant_of-result
invariant_of-result c =
    let t = c.args.tables.now in
    let standing : c.in_ok-standing.standing.items ≡ lists_of (λ (b : BookingRow). b.resource) (resource_numbers t) t.bookings =
    c.in_ok-standing.ensures
    ∙ ap (λ l. map (owned_bookings l) c.as_slice-2.result.now) (c.in_ok-by_resource.ensures ∙ ap (map (owned (λ (b : BookingRow). b.resource))) c.as_slice-bookings.ensures)
    ∙ ap (map (owned_bookings (map (owned (λ (b : BookingRow). b.resource)) t.bookings))) (c.as_slice-2.ensures.value ∙ c.in_ok-resources.ensures)
    ∙ lists_are (λ (b : BookingRow). b.resource) (resource_numbers t) t.bookings
    in
    let booked : c.in_ok-booked.booked.items ≡ lists_of (λ (b : BookingRow). b.group) (group_numbers t) t.bookings =
    c.in_ok-booked.ensures
    ∙ ap (λ l. map (owned_bookings l) c.as_slice-3.result.now) (c.in_ok-by_group.ensures ∙ ap (map (owned (λ (b : BookingRow). b.group))) c.as_slice-bookings.ensures)
    ∙ ap (map (owned_bookings (map (owned (λ (b : BookingRow). b.group)) t.bookings))) (c.as_slice-3.ensures.value ∙ c.in_ok-groups.ensures)
    ∙ lists_are (λ (b : BookingRow). b.group) (group_numbers t) t.bookings
    in (
      subst (IsStrictlySortedBy nat_cmp) (sym c.in_ok-weights.ensures.numbers) (resources_climb t c.requires),
      subst (λ l. IsStrictlySortedBy nat_cmp (map (λ (x : BookingList). x.number) l)) (sym standing) (lists_climb (λ (b : BookingRow). b.resource) (resource_numbers t) t.bookings (resources_climb t c.requires)),
      subst (λ l. IsStrictlySortedBy nat_cmp (map (λ (x : BookingList). x.number) l)) (sym booked) (lists_climb (λ (b : BookingRow). b.group) (group_numbers t) t.bookings (groups_climb t c.requires)),
    )

pub returns : goal.returns
returns c =
    let t = c.args.tables.now in
    record {
      weights = c.in_ok-weights.ensures;
      standing =
          c.in_ok-standing.ensures
          ∙ ap (λ l. map (owned_bookings l) c.as_slice-2.result.now) (c.in_ok-by_resource.ensures ∙ ap (map (owned (λ (b : BookingRow). b.resource))) c.as_slice-bookings.ensures)
          ∙ ap (map (owned_bookings (map (owned (λ (b : BookingRow). b.resource)) t.bookings))) (c.as_slice-2.ensures.value ∙ c.in_ok-resources.ensures)
          ∙ lists_are (λ (b : BookingRow). b.resource) (resource_numbers t) t.bookings;
      booked =
          c.in_ok-booked.ensures
          ∙ ap (λ l. map (owned_bookings l) c.as_slice-3.result.now) (c.in_ok-by_group.ensures ∙ ap (map (owned (λ (b : BookingRow). b.group))) c.as_slice-bookings.ensures)
          ∙ ap (map (owned_bookings (map (owned (λ (b : BookingRow). b.group)) t.bookings))) (c.as_slice-3.ensures.value ∙ c.in_ok-groups.ensures)
          ∙ lists_are (λ (b : BookingRow). b.group) (group_numbers t) t.bookings;
      members = c.in_ok-members.ensures;
    }
