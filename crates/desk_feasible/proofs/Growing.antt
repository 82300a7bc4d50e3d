-- Picks with one more.
use Rattle.std.proofs.Common.{◌≡◌, ℕ, zero, suc, ◌⊎◌, inl, inr, ◌+◌, ◌≤◌, true, false, not, List, [], ◌∷◌, ◌++◌, map, take, drop, length, Option, Some, None, cond, refl, sym, ap, ◌∙◌, subst, arith, is_some, is_none, append_assoc, length-append}
use Rattle.std.proofs.lemmas.Bool.{false≢true}
use Rattle.std.proofs.lemmas.List.{map-append, length-map}
use Rattle.std.proofs.lemmas.List.Folds.{list_all-append}
use Rattle.std.specs.Prelude.{slice_get}
use Rattle.std.specs.List.{list_all}
use Rattle.std.specs.Option.{option_or}
use Rattle.desk_base.specs.declared.asked.rules.LeafRule.{LeafRule}
use Rattle.desk_base.specs.declared.asked.rules.LeafRule.TheVariants.{Window as OutsideWindow}
use Rattle.desk_base.specs.declared.rows.tables.Tables.{Tables}
use Rattle.desk_base.specs.declared.rows.groups.GroupRow.{GroupRow}
use Rattle.desk_base.specs.declared.rows.groups.Leaf.{Leaf}
use Rattle.desk_base.specs.declared.rows.groups.Node.{Node}
use Rattle.desk_base.specs.meaning.Eligible.{first_broken_rule, first_broken_at, is_in_windows}
use Rattle.desk_base.specs.meaning.Load.{Fits}
use Rattle.desk_base.specs.meaning.Picks.{Choice, choices_of, pattern_of, keeps, Span, spans, keeps_same, first_broken_same}
use Rattle.desk_base.specs.meaning.Trees.{tree_of, patterns}
use Rattle.desk_base.specs.search.Listing.{BeginsPattern, serves, other_asks, ask_for, asks_for}
use Rattle.desk_base.proofs.lists.Members.{in_from_contains}
use Rattle.desk_base.proofs.lists.Places.{position_none}
use Rattle.desk_base.proofs.lists.Tests.{and_left, and_right, and_both}
use Rattle.desk_base.proofs.meaning.Patterns.{length-pattern}
use Rattle.desk_base.proofs.meaning.Shapes.{sound_group, none_from}
use Rattle.desk_need.specs.Cases.{Asked}
use Rattle.desk_feasible.specs.Live.{IsReady, IsPlaced}
use Rattle.desk_feasible.proofs.Windows.{served}

-- ---- what one more pick chooses

pub choices_nil : (i : ℕ) (leaves : List Leaf) → choices_of i leaves [] ≡ []
choices_nil i [] = refl
choices_nil i (l ∷ ls) = refl

pub choices_none : (i : ℕ) (leaves : List Leaf) (picks : List (Option ℕ)) → choices_of i leaves (picks ++ None ∷ []) ≡ choices_of i leaves picks
choices_none i [] picks = refl
choices_none i (l ∷ ls) [] = choices_nil (i + 1) ls
choices_none i (l ∷ ls) (None ∷ picks) = choices_none (i + 1) ls picks
choices_none i (l ∷ ls) (Some r ∷ picks) = ap (λ cs. record { number = i; leaf = l; resource = r } ∷ cs) (choices_none (i + 1) ls picks)

abbrev choice : ℕ → Leaf → ℕ → Choice
choice i l r = record { number = i; leaf = l; resource = r }

pub choices_some : (i : ℕ) (leaves : List Leaf) (picks : List (Option ℕ)) (leaf : Leaf) (r : ℕ) → slice_get leaves (length picks) ≡ Some leaf → choices_of i leaves (picks ++ Some r ∷ []) ≡ choices_of i leaves picks ++ choice (i + length picks) leaf r ∷ []
choices_some i [] picks leaf r e = absurd (false≢true (ap is_some e))
choices_some i (l ∷ ls) [] leaf r e =
    let same : l ≡ leaf = cc in
    ap (λ cs. choice i l r ∷ cs) (choices_nil (i + 1) ls) ∙ ap (λ x. choice i x r ∷ []) same ∙ ap (λ n. choice n leaf r ∷ []) (omega arith)
choices_some i (l ∷ ls) (None ∷ picks) leaf r e = choices_some (i + 1) ls picks leaf r e ∙ ap (λ n. choices_of (i + 1) ls picks ++ choice n leaf r ∷ []) (omega arith)
choices_some i (l ∷ ls) (Some q ∷ picks) leaf r e = ap (λ cs. choice i l q ∷ cs) (choices_some (i + 1) ls picks leaf r e ∙ ap (λ n. choices_of (i + 1) ls picks ++ choice n leaf r ∷ []) (omega arith))

-- and asks for what its leaf does
pub asks_more : (g : GroupRow) (s : ℕ) (picks : List (Option ℕ)) (leaf : Leaf) (r : ℕ) → slice_get g.leaves (length picks) ≡ Some leaf → asks_for g s (picks ++ Some r ∷ []) ≡ asks_for g s picks ++ ask_for s (choice 0 leaf r) ∷ []
asks_more g s picks leaf r at = ap (map (ask_for s)) (choices_some 0 g.leaves picks leaf r at) ∙ map-append (ask_for s) (choices_of 0 g.leaves picks) (choice (0 + length picks) leaf r ∷ [])

-- ---- part-of-same with a leaf that is left out

drop_none : (n : ℕ) (picks : List (Option ℕ)) → (drop n (picks ++ None ∷ []) ≡ drop n picks ++ None ∷ []) ⊎ ((drop n (picks ++ None ∷ []) ≡ []) × (drop n picks ≡ []))
drop_none zero picks = inl refl
drop_none (suc zero) [] = inr (refl, refl)
drop_none (suc (suc n)) [] = inr (refl, refl)
drop_none (suc n) (p ∷ picks) = drop_none n picks

kept_none : (t : Tables) (s : ℕ) (ls : List Leaf) (picks : List (Option ℕ)) (x : Span) → keeps_same t s ls (picks ++ None ∷ []) x ≡ keeps_same t s ls picks x
unfolding keeps_same
kept_none t s ls picks x =
    let under = take x.under (drop x.before ls) in
    elim (drop_none x.before picks) [
      | inl e ↦ ap (λ p. keeps x.node.same t s (choices_of x.before under p)) e ∙ ap (keeps x.node.same t s) (choices_none x.before under (drop x.before picks))
      | inr e ↦ ap (λ p. keeps x.node.same t s (choices_of x.before under p)) e.0 ∙ ap (λ p. keeps x.node.same t s (choices_of x.before under p)) (sym e.1)
    ]

pub same_none : (t : Tables) (s : ℕ) (ns : List Node) (ls : List Leaf) (picks : List (Option ℕ)) → first_broken_same t s ns ls picks ≡ None → first_broken_same t s ns ls (picks ++ None ∷ []) ≡ None
same_none t s ns ls picks e = position_none (λ x. not (keeps_same t s ls picks x)) (λ x. not (keeps_same t s ls (picks ++ None ∷ []) x)) (λ x f. ap not (kept_none t s ls picks x) ∙ f) (spans 0 ns) e

-- ---- placed picks

-- a resource that breaks no rule serves a leaf that lies inside its windows
pub one_serves : (t : Tables) (g : GroupRow) (s : ℕ) (leaf : Leaf) (r : ℕ) → first_broken_rule t leaf r ≡ None → is_in_windows g leaf s ≡ true → is_none (first_broken_at t g leaf s r) ≡ true
one_serves t g s leaf r rule w = ap (λ (o : Option LeafRule). is_none (option_or o (cond (is_in_windows g leaf s) None (Some OutsideWindow)))) rule ∙ ap (λ b. is_none (cond b None (Some OutsideWindow))) w

-- the last pick breaks no rule of its leaf, which lies inside its windows, where each that is chosen serves
abbrev pub Serves : Tables → GroupRow → ℕ → Leaf → ℕ → Type 0
Serves t g s leaf r = (first_broken_rule t leaf r ≡ None) × (is_in_windows g leaf s ≡ true)

pub last_serves : (t : Tables) (g : GroupRow) (s : ℕ) (picks : List (Option ℕ)) (r : ℕ) (leaf : Leaf) → slice_get g.leaves (length picks) ≡ Some leaf → list_all (serves t g s) (choices_of 0 g.leaves (picks ++ Some r ∷ [])) ≡ true → Serves t g s leaf r
last_serves t g s picks r leaf at h =
    let c = choice (0 + length picks) leaf r in
    let all = sym (ap (list_all (serves t g s)) (choices_some 0 g.leaves picks leaf r at) ∙ list_all-append (serves t g s) (choices_of 0 g.leaves picks) (c ∷ [])) ∙ h in
    let last = and_right (list_all (serves t g s) (choices_of 0 g.leaves picks)) (list_all (serves t g s) (c ∷ [])) all in
    let both = served t g leaf s r (and_left (is_none (first_broken_at t g leaf s r)) true last) in
    (none_from (first_broken_rule t leaf r) both.0, both.1)

pub pattern_more : (picks : List (Option ℕ)) (x : Option ℕ) → pattern_of (picks ++ x ∷ []) ≡ pattern_of picks ++ is_some x ∷ []
pattern_more picks x = map-append is_some picks (x ∷ [])

-- picks that begin a pattern are no more than there are leaves
pub begun_length : (a : Asked) (picks : List (Option ℕ)) → IsReady a → BeginsPattern (tree_of a.group.nodes) (pattern_of picks) → length picks ≤ length a.group.leaves
begun_length a picks ready h =
    let whole = length-pattern (tree_of a.group.nodes) (pattern_of picks ++ h.0) (in_from_contains (patterns (tree_of a.group.nodes)) (pattern_of picks ++ h.0) h.1) in
    omega (arith, whole, length-append (pattern_of picks) h.0, length-map picks (λ (x : Option ℕ). is_some x), (sound_group a.tables a.group ready.formed ready.there).leaves)

module _ (t : Tables) (g : GroupRow) (s : ℕ) (picks : List (Option ℕ)) (placed : IsPlaced t g s picks) where
  pub skips : BeginsPattern (tree_of g.nodes) (pattern_of picks ++ false ∷ []) → IsPlaced t g s (picks ++ None ∷ [])
  skips h = record {
    pattern = subst (BeginsPattern (tree_of g.nodes)) (sym (pattern_more picks None)) h;
    serve = ap (list_all (serves t g s)) (choices_none 0 g.leaves picks) ∙ placed.serve;
    same = same_none t s g.nodes g.leaves picks placed.same;
    fits = subst (λ cs. Fits t (other_asks t g ++ map (ask_for s) cs)) (sym (choices_none 0 g.leaves picks)) placed.fits;
  }

  pub skipped : IsPlaced t g s (picks ++ None ∷ []) → BeginsPattern (tree_of g.nodes) (pattern_of picks ++ false ∷ [])
  skipped h = subst (BeginsPattern (tree_of g.nodes)) (pattern_more picks None) h.pattern

  module _ (leaf : Leaf) (r : ℕ) (at : slice_get g.leaves (length picks) ≡ Some leaf) (rule : first_broken_rule t leaf r ≡ None) where
    more : choices_of 0 g.leaves (picks ++ Some r ∷ []) ≡ choices_of 0 g.leaves picks ++ choice (0 + length picks) leaf r ∷ []
    more = choices_some 0 g.leaves picks leaf r at

    in_all : other_asks t g ++ asks_for g s (picks ++ Some r ∷ []) ≡ (other_asks t g ++ asks_for g s picks) ++ ask_for s (choice 0 leaf r) ∷ []
    in_all = ap (λ l. other_asks t g ++ l) (asks_more g s picks leaf r at) ∙ sym (append_assoc (other_asks t g) (asks_for g s picks) (ask_for s (choice 0 leaf r) ∷ []))

    pub picks_more : BeginsPattern (tree_of g.nodes) (pattern_of picks ++ true ∷ []) → is_in_windows g leaf s ≡ true → first_broken_same t s g.nodes g.leaves (picks ++ Some r ∷ []) ≡ None
        → Fits t ((other_asks t g ++ asks_for g s picks) ++ ask_for s (choice 0 leaf r) ∷ []) → IsPlaced t g s (picks ++ Some r ∷ [])
    picks_more h w same fits = record {
      pattern = subst (BeginsPattern (tree_of g.nodes)) (sym (pattern_more picks (Some r))) h;
      serve = ap (list_all (serves t g s)) more ∙ list_all-append (serves t g s) (choices_of 0 g.leaves picks) (choice (0 + length picks) leaf r ∷ [])
          ∙ and_both (list_all (serves t g s) (choices_of 0 g.leaves picks)) (list_all (serves t g s) (choice (0 + length picks) leaf r ∷ [])) placed.serve (and_both (serves t g s (choice (0 + length picks) leaf r)) true (one_serves t g s leaf r rule w) refl);
      same = same;
      fits = subst (Fits t) (sym in_all) fits;
    }

    pub picked_pattern : IsPlaced t g s (picks ++ Some r ∷ []) → BeginsPattern (tree_of g.nodes) (pattern_of picks ++ true ∷ [])
    picked_pattern h = subst (BeginsPattern (tree_of g.nodes)) (pattern_more picks (Some r)) h.pattern

    pub picked_windows : IsPlaced t g s (picks ++ Some r ∷ []) → is_in_windows g leaf s ≡ true
    picked_windows h = (last_serves t g s picks r leaf at h.serve).1

    pub picked_fits : IsPlaced t g s (picks ++ Some r ∷ []) → Fits t ((other_asks t g ++ asks_for g s picks) ++ ask_for s (choice 0 leaf r) ∷ [])
    picked_fits h = subst (Fits t) in_all h.fits
