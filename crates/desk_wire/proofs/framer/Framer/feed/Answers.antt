use Rattle.std.proofs.Common.{List, ℕ, drop, sym, ap, ◌∙◌, subst, arith}
use Rattle.std.proofs.lemmas.List.{drop-append-le}
use Rattle.desk_wire.specs.Looks.{IsKept}
use Rattle.desk_wire.proofs.HeadSpans.{kept-append}
use Rattle.desk_wire.proofs.framer.Framer.feed.Goals as goal

pub invariant_of-self-2 : goal.invariant_of-self-2
invariant_of-self-2 c =
    let start = c.self.inside.start in
    let old = c.self.inside.bytes.items in
    let grown = ap (drop start) c.in_ok-extend_from_slice.ensures.items ∙ drop-append-le start old c.args.piece.now (omega (arith, c.self.invariant.0)) in (
      omega (arith, c.self.invariant.0, c.in_ok-extend_from_slice.ensures.len),
      subst (λ (b : List ℕ). IsKept b c.self.inside.kept) (sym grown) (kept-append (drop start old) c.args.piece.now c.self.inside.kept c.self.invariant.1),
    )
