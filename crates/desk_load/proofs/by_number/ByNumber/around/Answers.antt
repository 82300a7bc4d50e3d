use Rattle.std.proofs.Common.{◌≡◌, ◌∙◌, ◌++◌, nat_lt, ap, sym, subst}
use Rattle.std.specs.Prelude.{filter}
use Rattle.desk_base.specs.declared.rows.bookings.BookingRow.{BookingRow}
use Rattle.desk_base.specs.rows.Ranges.{Rise}
use Rattle.desk_member.proofs.Placing.{rise_around}
use Rattle.desk_load.proofs.by_number.ByNumber.around.Goals as goal

-- what is made: the bookings below, these, and those above
made : (c : goal.In_ok-extend_from_slice-3) → c.extend_from_slice-3.new.self.items ≡ (filter (λ (x : BookingRow). nat_lt x.id c.args.number) c.self.inside.rows.items ++ c.args.own.now) ++ filter (λ (x : BookingRow). nat_lt c.args.number x.id) c.self.inside.rows.items
made c =
    let all = c.as_slice-all.ensures.value in
    let low = c.below.ensures ∙ ap (filter (λ (x : BookingRow). nat_lt x.id c.args.number)) all in
    let high = c.above.ensures ∙ ap (filter (λ (x : BookingRow). nat_lt c.args.number x.id)) all in
    c.in_ok-extend_from_slice-3.ensures.items
    ∙ ap (λ l. l ++ c.above.result.now) (c.in_ok-extend_from_slice-2.ensures.items ∙ ap (λ l. l ++ c.args.own.now) (c.in_ok-extend_from_slice.ensures.items ∙ ap (λ l. l ++ c.below.result.now) c.in_ok-rows.ensures.items))
    ∙ (λ i. (low i ++ c.args.own.now) ++ high i)

pub invariant_of-result : goal.invariant_of-result
invariant_of-result c = subst (Rise (λ (x : BookingRow). x.id) (λ x. 0)) (sym (made c)) (rise_around (λ (x : BookingRow). x.id) c.args.number c.args.own.now c.self.inside.rows.items c.requires c.self.invariant)

pub returns : goal.returns
returns c =
    let same : c.self.inside.rows.items ≡ c.args.self.now = cc in
    made c ∙ ap (λ l. (filter (λ (x : BookingRow). nat_lt x.id c.args.number) l ++ c.args.own.now) ++ filter (λ (x : BookingRow). nat_lt c.args.number x.id) l) same
