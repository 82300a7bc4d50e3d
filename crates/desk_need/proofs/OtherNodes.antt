-- Nodes of which the first passes no test, or asks for no crew.
use Rattle.std.proofs.Common.{◌≡◌, ◌≤◌, ◌≢◌, ℕ, ◌+◌, ◌-◌, Bool, false, List, [], ◌∷◌, length, take, drop, position, option_map, slice_index_or, ap, sym, subst, ◌∙◌, arith}
use Rattle.std.proofs.lemmas.List.{take_rest}
use Rattle.desk_base.specs.declared.rows.tables.Tables.{Tables}
use Rattle.desk_base.specs.declared.rows.groups.Node.{Node}
use Rattle.desk_base.specs.declared.rows.groups.Same.TheVariants.{Crew}
use Rattle.desk_base.specs.meaning.Picks.{Span, spans, leaves_under}
use Rattle.desk_base.specs.meaning.Trees.{leaf_bit}
use Rattle.desk_base.proofs.lists.Places.{position_false}
use Rattle.desk_need.specs.Crews.{AreCrewsFor}

-- the nodes behind the first
abbrev pub behind : List Node → List Node
behind nodes = take (length nodes - 1) (drop 1 nodes)

-- the first place is one later than that among the others
pub one_later : (p : Span → Bool) (before : ℕ) (nodes : List Node) (d : Node) → 1 ≤ length nodes
    → p (record { node = slice_index_or nodes 0 d; before = before; under = leaves_under (slice_index_or nodes 0 d).depth (behind nodes) }) ≡ false
    → option_map (λ n. n + 1) (position p (spans (before + leaf_bit (slice_index_or nodes 0 d)) (behind nodes))) ≡ position p (spans before nodes)
one_later p before [] d h e = absurd (omega arith)
one_later p before (n ∷ ns) d h e =
    let rest = take_rest (n ∷ ns) 1 in
    ap (λ ms. option_map (λ k. k + 1) (position p (spans (before + leaf_bit n) ms))) rest
    ∙ sym (position_false p (record { node = n; before = before; under = leaves_under n.depth ns }) (spans (before + leaf_bit n) ns) (ap (λ ms. p (record { node = n; before = before; under = leaves_under n.depth ms })) (sym rest) ∙ e))

-- crews that the others need are enough
pub crews_later : (t : Tables) (nodes : List Node) (d : Node) (crews : List ℕ) → 1 ≤ length nodes → (slice_index_or nodes 0 d).same ≢ Crew → AreCrewsFor t (behind nodes) crews → AreCrewsFor t nodes crews
crews_later t [] d crews h other rest = tt
crews_later t (n ∷ ns) d crews h other rest = ((λ e. absurd (other e)), subst (λ ms. AreCrewsFor t ms crews) (take_rest (n ∷ ns) 1) rest)
