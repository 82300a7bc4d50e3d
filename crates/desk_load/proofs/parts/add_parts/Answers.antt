use Rattle.std.proofs.Common.{◌≡◌, ℕ, ◌+◌, ◌++◌, ◌∷◌, [], ◌∙◌, sym, ap, map, take, append_assoc}
use Rattle.std.proofs.lemmas.List.{take_more}
use Rattle.desk_member.specs.declared.items.Item.{Item}
use Rattle.desk_load.specs.Parts.{part_of}
use Rattle.desk_load.proofs.Numbers.{map_more}
use Rattle.desk_load.proofs.parts.add_parts.Goals as goal

pub loop-item-preserved : goal.loop-item-preserved
loop-item-preserved c =
    let xs = c.args.items.now in
    let i : ℕ = c.loop-item.item-index in
    let x : Item = c.item-item.result in
    let more : take (i + 1) xs ≡ take i xs ++ x ∷ [] = take_more xs i x c.loop-item-test.true ∙ ap (λ y. take i xs ++ y ∷ []) (sym c.item-item.is) in
    let mapped = ap (map part_of) more ∙ map_more part_of (take i xs) x in
    c.in-Ok.ensures.items
    ∙ ap (λ l. l ++ part_of x ∷ []) c.loop-item.invariant
    ∙ append_assoc c.args.parts.now.items (map part_of (take i xs)) (part_of x ∷ [])
    ∙ ap (λ l. c.args.parts.now.items ++ l) (sym mapped)
