-- What is said of trees, node by node.
use Rattle.std.proofs.Common.{◌≡◌, ℕ, ◌-◌, ◌<◌, ◌≤◌, Bool, true, false, cond, ◌&&◌, ◌||◌, ◌==◌, List, [], ◌∷◌, length, take, drop, get_or, refl, sym, ap, ◌∙◌, subst, arith, nat_lt}
use Rattle.std.proofs.lemmas.Bool.Decides.{nat_tests}
use Rattle.std.proofs.lemmas.List.{take_all}
use Rattle.desk_base.specs.declared.rows.groups.Node.{Node}
use Rattle.desk_base.specs.declared.rows.groups.NodeKind.{NodeKind}
use Rattle.desk_base.specs.declared.rows.groups.NodeKind.TheVariants.{All, Any, Leaf}
use Rattle.desk_base.specs.meaning.Trees.{Trees, none, tree_and, children, siblings_after, tree_by, trees_of, leaf_count, leaf_counts}
use Rattle.desk_need.specs.Judging.{none_chosen, begins, all_begin, one_begins, begins_by, none_by, bits_by, Judges, begins_at}
use Rattle.desk_need.proofs.Begins.{drop-add, none_chosen-add}

-- ---- the tree of one node

begins_node : (k : NodeKind) (ts : Trees) (bits : List Bool) → begins_by k (all_begin ts bits) (one_begins ts bits) bits ≡ begins (tree_by k ts) bits
begins_node All ts bits = refl
begins_node Any ts bits = refl
begins_node Leaf ts bits = refl

none_node : (k : NodeKind) (ts : Trees) (bits : List Bool) → none_by k (none_chosen (leaf_counts ts) bits) bits ≡ none_chosen (leaf_count (tree_by k ts)) bits
none_node All ts bits = refl
none_node Any ts bits = refl
none_node Leaf ts [] = refl
none_node Leaf ts (true ∷ bits) = refl
none_node Leaf ts (false ∷ bits) = refl

bits_node : (k : NodeKind) (ts : Trees) (bits : List Bool) → bits_by k (drop (leaf_counts ts) bits) bits ≡ drop (leaf_count (tree_by k ts)) bits
bits_node All ts bits = refl
bits_node Any ts bits = refl
bits_node Leaf ts bits = refl

module _ (k : NodeKind) (d : ℕ) (ns later : List Node) (bits rest : List Bool) (each one nothing : Bool) (h : Judges d ns bits each one nothing later rest) where
  pub node_begins : begins_by k each one bits ≡ begins (tree_by k (children d (trees_of ns))) bits
  node_begins =
      ap (λ x. begins_by k x one bits) h.each_is ∙ ap (λ x. begins_by k (all_begin (children d (trees_of ns)) bits) x bits) h.one_is ∙ begins_node k (children d (trees_of ns)) bits

  pub node_none : none_by k nothing bits ≡ none_chosen (leaf_count (tree_by k (children d (trees_of ns)))) bits
  node_none = ap (λ x. none_by k x bits) h.nothing_is ∙ none_node k (children d (trees_of ns)) bits

  pub node_bits : bits_by k rest bits ≡ drop (leaf_count (tree_by k (children d (trees_of ns)))) bits
  node_bits = ap (λ x. bits_by k x bits) h.rest_is ∙ bits_node k (children d (trees_of ns)) bits

-- ---- a node in front

judges_none : (d : ℕ) (bits rest : List Bool) (each one nothing : Bool) (later : List Node) → each ≡ true → one ≡ false → nothing ≡ true → later ≡ [] → rest ≡ bits → Judges d [] bits each one nothing later rest
judges_none d bits rest each one nothing later a b c e f = record { each_is = a; one_is = b; nothing_is = c; later_is = ap trees_of e; rest_is = f }

judges_beside : (d : ℕ) (n : Node) (ns : List Node) (bits rest : List Bool) (each one nothing : Bool) (later : List Node) → nat_lt d n.depth ≡ false → each ≡ true → one ≡ false → nothing ≡ true → later ≡ n ∷ ns → rest ≡ bits → Judges d (n ∷ ns) bits each one nothing later rest
judges_beside d n ns bits rest each one nothing later s a b c e f =
    let t = tree_by n.kind (children n.depth (trees_of ns)) in
    let ss = siblings_after n.depth (trees_of ns) in
    let no : children d (trees_of (n ∷ ns)) ≡ none = ap (λ x. cond x (tree_and t (children d ss)) none) s in
    let same : siblings_after d (trees_of (n ∷ ns)) ≡ trees_of (n ∷ ns) = ap (λ x. cond x (siblings_after d ss) (trees_of (n ∷ ns))) s in
    record {
      each_is = a ∙ sym (ap (λ ts. all_begin ts bits) no);
      one_is = b ∙ sym (ap (λ ts. one_begins ts bits) no);
      nothing_is = c ∙ sym (ap (λ ts. none_chosen (leaf_counts ts) bits) no);
      later_is = ap trees_of e ∙ sym same;
      rest_is = f ∙ sym (ap (λ ts. drop (leaf_counts ts) bits) no);
    }

-- what is said below a node, of it, and beside it
module _ (d : ℕ) (n : Node) (ns behind : List Node) (bits under : List Bool) (ba bo bn : Bool) (below : Judges n.depth ns bits ba bo bn behind under)
    (fa fn : Bool) (after : List Bool) (first : fa ≡ begins_by n.kind ba bo bits) (left : fn ≡ none_by n.kind bn bits) (after_is : after ≡ bits_by n.kind under bits)
    (sa so sn : Bool) (last : List Node) (end : List Bool) (beside : Judges d behind after sa so sn last end) where
  judges_under : (each one nothing : Bool) (later : List Node) (rest : List Bool) → nat_lt d n.depth ≡ true → each ≡ (fa && sa) → one ≡ ((fa && sn) || (fn && so)) → nothing ≡ (fn && sn) → later ≡ last → rest ≡ end → Judges d (n ∷ ns) bits each one nothing later rest
  judges_under each one nothing later rest s a b c e f =
      let t = tree_by n.kind (children n.depth (trees_of ns)) in
      let ss = siblings_after n.depth (trees_of ns) in
      let cs = children d ss in
      let shape : children d (trees_of (n ∷ ns)) ≡ tree_and t cs = ap (λ x. cond x (tree_and t cs) none) s in
      let over : siblings_after d (trees_of (n ∷ ns)) ≡ siblings_after d ss = ap (λ x. cond x (siblings_after d ss) (trees_of (n ∷ ns))) s in
      let fa_is : fa ≡ begins t bits = first ∙ node_begins n.kind n.depth ns behind bits under ba bo bn below in
      let fn_is : fn ≡ none_chosen (leaf_count t) bits = left ∙ node_none n.kind n.depth ns behind bits under ba bo bn below in
      let fb_is : after ≡ drop (leaf_count t) bits = after_is ∙ node_bits n.kind n.depth ns behind bits under ba bo bn below in
      let sa_is : sa ≡ all_begin cs (drop (leaf_count t) bits) = beside.each_is ∙ ap (λ x. all_begin (children d x) after) below.later_is ∙ ap (all_begin cs) fb_is in
      let so_is : so ≡ one_begins cs (drop (leaf_count t) bits) = beside.one_is ∙ ap (λ x. one_begins (children d x) after) below.later_is ∙ ap (one_begins cs) fb_is in
      let sn_is : sn ≡ none_chosen (leaf_counts cs) (drop (leaf_count t) bits) = beside.nothing_is ∙ ap (λ x. none_chosen (leaf_counts (children d x)) after) below.later_is ∙ ap (none_chosen (leaf_counts cs)) fb_is in
      let sb_is : end ≡ drop (leaf_counts cs) (drop (leaf_count t) bits) = beside.rest_is ∙ ap (λ x. drop (leaf_counts (children d x)) after) below.later_is ∙ ap (drop (leaf_counts cs)) fb_is in
      record {
        each_is = a ∙ ap (λ x. x && sa) fa_is ∙ ap (λ x. begins t bits && x) sa_is ∙ sym (ap (λ ts. all_begin ts bits) shape);
        one_is = b ∙ ap (λ x. (x && sn) || (fn && so)) fa_is ∙ ap (λ x. (begins t bits && x) || (fn && so)) sn_is
            ∙ ap (λ x. (begins t bits && none_chosen (leaf_counts cs) (drop (leaf_count t) bits)) || (x && so)) fn_is
            ∙ ap (λ x. (begins t bits && none_chosen (leaf_counts cs) (drop (leaf_count t) bits)) || (none_chosen (leaf_count t) bits && x)) so_is
            ∙ sym (ap (λ ts. one_begins ts bits) shape);
        nothing_is = c ∙ ap (λ x. x && sn) fn_is ∙ ap (λ x. none_chosen (leaf_count t) bits && x) sn_is ∙ sym (none_chosen-add (leaf_count t) (leaf_counts cs) bits) ∙ sym (ap (λ ts. none_chosen (leaf_counts ts) bits) shape);
        later_is = ap trees_of e ∙ beside.later_is ∙ ap (siblings_after d) below.later_is ∙ sym over;
        rest_is = f ∙ sb_is ∙ sym (drop-add (leaf_count t) (leaf_counts cs) bits) ∙ sym (ap (λ ts. drop (leaf_counts ts) bits) shape);
      }

-- ---- the same of nodes that are taken apart

pub first_rest : {A : Type 0} (xs : List A) (d : A) → 1 ≤ length xs → xs ≡ get_or xs 0 d ∷ take (length xs - 1) (drop 1 xs)
first_rest [] d l = absurd (omega arith)
first_rest (x ∷ xs) d l = ap (λ ys. x ∷ ys) (sym (take_all (length (x ∷ xs) - 1) xs (omega arith)))

pub empty_is : {A : Type 0} (xs : List A) → length xs < 1 → xs ≡ []
empty_is [] l = refl
empty_is (x ∷ xs) l = absurd (omega arith)

pub judged_empty : (d : ℕ) (ns : List Node) (bits rest : List Bool) (each one nothing : Bool) (later : List Node) → length ns < 1 → each ≡ true → one ≡ false → nothing ≡ true → later ≡ ns → rest ≡ bits → Judges d ns bits each one nothing later rest
judged_empty d ns bits rest each one nothing later l a b c e f =
    let n = empty_is ns l in
    subst (λ xs. Judges d xs bits each one nothing later rest) (sym n) (judges_none d bits rest each one nothing later a b c (e ∙ n) f)

pub judged_beside : (d : ℕ) (ns : List Node) (k : Node) (bits rest : List Bool) (each one nothing : Bool) (later : List Node) → 1 ≤ length ns → (get_or ns 0 k).depth ≤ d → each ≡ true → one ≡ false → nothing ≡ true → later ≡ ns → rest ≡ bits → Judges d ns bits each one nothing later rest
judged_beside d ns k bits rest each one nothing later l s a b c e f =
    let n = first_rest ns k l in
    subst (λ xs. Judges d xs bits each one nothing later rest) (sym n) (judges_beside d (get_or ns 0 k) (take (length ns - 1) (drop 1 ns)) bits rest each one nothing later (not_below s) a b c (e ∙ n) f)
  where
    not_below : {m : ℕ} → m ≤ d → nat_lt d m ≡ false
    not_below l = grind (arith, nat_tests)

pub judged_under : (d : ℕ) (ns : List Node) (k : Node) (bits under : List Bool) (ba bo bn : Bool) (behind : List Node) → 1 ≤ length ns → Judges (get_or ns 0 k).depth (take (length ns - 1) (drop 1 ns)) bits ba bo bn behind under
    → (fa fn : Bool) (after : List Bool) → fa ≡ begins_by (get_or ns 0 k).kind ba bo bits → fn ≡ none_by (get_or ns 0 k).kind bn bits → after ≡ bits_by (get_or ns 0 k).kind under bits
    → (sa so sn : Bool) (last : List Node) (end : List Bool) → Judges d behind after sa so sn last end
    → (each one nothing : Bool) (later : List Node) (rest : List Bool) → d < (get_or ns 0 k).depth → each ≡ (fa && sa) → one ≡ ((fa && sn) || (fn && so)) → nothing ≡ (fn && sn) → later ≡ last → rest ≡ end → Judges d ns bits each one nothing later rest
judged_under d ns k bits under ba bo bn behind l below fa fn after first left after_is sa so sn last end beside each one nothing later rest s a b c e f =
    subst (λ xs. Judges d xs bits each one nothing later rest) (sym (first_rest ns k l))
    (judges_under d (get_or ns 0 k) (take (length ns - 1) (drop 1 ns)) behind bits under ba bo bn below fa fn after first left after_is sa so sn last end beside each one nothing later rest (is_below s) a b c e f)
  where
    is_below : {m : ℕ} → d < m → nat_lt d m ≡ true
    is_below l = grind (arith, nat_tests)

-- ---- all the nodes

pub root_begins : (ns : List Node) (k : Node) (bits under : List Bool) (ba bo bn : Bool) (behind : List Node) → 1 ≤ length ns → Judges (get_or ns 0 k).depth (take (length ns - 1) (drop 1 ns)) bits ba bo bn behind under
    → (fa : Bool) (after : List Bool) (r ends : Bool) → fa ≡ begins_by (get_or ns 0 k).kind ba bo bits → after ≡ bits_by (get_or ns 0 k).kind under bits → ends ≡ (length after == 0) → r ≡ (fa && ends) → r ≡ begins_at ns bits
root_begins [] k bits under ba bo bn behind l below fa after r ends first after_is ends_is r_is = absurd (omega arith)
root_begins (n ∷ ns) k bits under ba bo bn behind l below fa after r ends first after_is ends_is r_is =
    let t = tree_by n.kind (children n.depth (trees_of ns)) in
    let all_ns : take (length (n ∷ ns) - 1) ns ≡ ns = take_all (length (n ∷ ns) - 1) ns (omega arith) in
    let under_is : Judges n.depth ns bits ba bo bn behind under = subst (λ xs. Judges n.depth xs bits ba bo bn behind under) all_ns below in
    let fa_is : fa ≡ begins t bits = first ∙ node_begins n.kind n.depth ns behind bits under ba bo bn under_is in
    let fb_is : after ≡ drop (leaf_count t) bits = after_is ∙ node_bits n.kind n.depth ns behind bits under ba bo bn under_is in
    r_is ∙ ap (λ x. x && ends) fa_is ∙ ap (λ x. begins t bits && x) (ends_is ∙ ap (λ xs. length xs == 0) fb_is)

pub no_root_begins : (ns : List Node) (bits : List Bool) (r : Bool) → length ns < 1 → r ≡ (length bits == 0) → r ≡ begins_at ns bits
no_root_begins [] bits r l e = e
no_root_begins (n ∷ ns) bits r l e = absurd (omega arith)
