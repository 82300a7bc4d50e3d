use Rattle.std.proofs.Common.{ℕ, Some, sym, ap, ◌∙◌, pos}
use Rattle.desk_base.specs.meaning.Load.{is_crew, sort_of}
use Rattle.desk_load.specs.declared.view.boards.Measure.TheVariants.{Room}
use Rattle.desk_load.specs.Boards.{measured}
use Rattle.desk_load.proofs.Bounded.{bounded_room}
use Rattle.desk_load.proofs.view.boards.room_profile.Goals as goal

pub returns : goal.returns
returns c =
    let t = c.args.tables.now in
    let r : ℕ = c.args.resource in
    let same = c.of_all-view.ensures.tables in
    let e = c.in_ok-profile.ensures in
    let bounded = ap (λ u. is_crew (sort_of u r)) (sym same) ∙ sym c.is_crew.ensures ∙ c.if-is_crew.false in
    record {
      begin = e.window_from;
      end = e.window_end;
      room_at = λ m lo hi. bounded_room t r m bounded ∙ ap Some (ap (λ u. pos (measured Room u r m)) (sym same) ∙ sym (e.values m lo hi));
    }
