use Rattle.std.proofs.Common.{◌≡◌, ℕ, ◌+◌, ◌<◌, ◌≤◌, not, ◌++◌, filter, inl, inr, sym, ap, ◌∙◌, subst, arith}
use Rattle.std.proofs.lemmas.Bool.{cases_lt}
use Rattle.std.specs.Prelude.{IfSome, find, option_map}
use Rattle.std.specs.Option.{option_map_or}
use Rattle.desk_base.specs.declared.rows.bookings.BookingRow.{BookingRow}
use Rattle.desk_base.specs.declared.asked.refusals.Shown.TheVariants.{Booking, Gap}
use Rattle.desk_base.specs.meaning.Time.{IsMinute}
use Rattle.desk_base.specs.meaning.Load.{weight, room, ask_of, counts, IsWithinRoom}
use Rattle.desk_load.specs.Views.{is_own, other_asks}
use Rattle.desk_load.proofs.Weighed.{weight-append}
use Rattle.desk_base.proofs.lists.Bounds.{find_within}
use Rattle.desk_load.proofs.view.free.FreeView.clash_at.Goals as goal

pub room_at-requires-clause-bounded : goal.room_at-requires-clause-bounded
room_at-requires-clause-bounded c e =
    let v = c.args.self.now in
    let p = c.args.place.now in
    let all = other_asks v.tables v.without ++ c.args.asks.now in
    c.requires.over.over (subst (λ b. IfSome b (λ n. weight v.tables all p.resource p.minute ≤ n)) (sym e) tt)

pub returns : goal.returns
returns c =
    let v = c.args.self.now in
    let t = v.tables in
    let p = c.args.place.now in
    let r : ℕ = p.resource in
    let asks = c.args.asks.now in
    let others = other_asks t v.without in
    let o = c.requires.over in
    let e = c.minute_of.ensures in
    let over : c.room_at.result < weight t others r p.minute + weight t asks r p.minute = above c.room_at.result (weight t (others ++ asks) r p.minute) (weight t others r p.minute + weight t asks r p.minute) (λ l. o.over (subst (λ b. IfSome b (λ n. weight t (others ++ asks) r p.minute ≤ n)) (sym c.room_at.ensures) l)) (weight-append t others asks r p.minute) in
    record {
      clash = record {
        minute = subst IsMinute (sym e) o.minute;
        capacity = ap (room t r) e ∙ c.room_at.ensures;
        over = subst (λ m. c.room_at.result < weight t others r m + weight t asks r m) (sym e) over;
        earlier = λ q k i l. o.sooner q k i (omega (arith, l, e));
        lower = λ q l. subst (λ m. IsWithinRoom t (others ++ asks) q m) (sym e) (o.lower q l);
      };
      standing_weight = c.weight_of_others.ensures ∙ ap (weight t others r) (sym e);
      asked_weight = c.weight_at.ensures ∙ ap (weight t asks r) (sym e);
      shown = c.shown_of.ensures ∙ ap (λ n. option_map_or Booking n Gap) (c.first_at.ensures ∙ ap (option_map (λ (b : BookingRow). b.id)) (find_within (λ b. not (is_own v.without b)) (λ b. counts t r p.minute (ask_of b)) t.bookings) ∙ ap (λ m. option_map (λ (b : BookingRow). b.id) (find (λ b. counts t r m (ask_of b)) (filter (λ b. not (is_own v.without b)) t.bookings))) (sym e));
    }
  where
    above : (n w s : ℕ) → (w ≤ n → ⊥) → w ≡ s → n < s
    above n w s h e = elim (cases_lt n s) [ inl l ↦ l | inr l ↦ absurd (h (omega (arith, l, e))) ]
