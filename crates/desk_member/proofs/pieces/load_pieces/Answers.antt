use Rattle.std.proofs.Common.{refl, sym, ap, subst, ◌∙◌, arith}
use Rattle.std.specs.Prelude.{All}
use Rattle.desk_member.specs.Pieces.{taken, IsItemOf}
use Rattle.desk_member.proofs.pieces.load_pieces.Goals as goal

pub returns : goal.returns
returns c = record {
  each = c.in_ok-add_piece.ensures.each c.args.ask.now (record { there = c.requires.there; begins = omega arith; not_empty = c.requires.window; ends = omega arith; effort = refl })
      (subst (All (IsItemOf c.args.tables.now c.args.ask.now)) (sym c.new-items.ensures) (λ k d l. absurd (omega arith)));
  sums = λ r m. c.in_ok-add_piece.ensures.sums r m ∙ omega (arith, ap (λ l. taken l r m) c.new-items.ensures);
}
