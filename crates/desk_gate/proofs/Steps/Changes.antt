-- What every step owes: the rule holds again where one view and the state of the lock have changed.
use Rattle.std.proofs.Common.{◌≡◌, ℕ, ◌+◌, ◌≤◌, ◌≢◌, true, List, [], ◌∷◌, length, get_or, set, Option, Some, refl, sym, ap, ◌∙◌, subst, ⊎_elim, inl, inr, ◌⊎◌, arith}
use mathlib.Core.Option as slot
use mathlib.Core.Option.{some, none, some-injective, some-ne-none}
use mathlib.Core.Logic.{dite}
use native.Mathlib.Decide.{ℕ_discrete}
use lib.ListN.{get_elem?}
use Rattle.atomic_table.specs.Table.{State, Me, keeps, stepped}
use Rattle.atomic_table.proofs.Lists.{at_set, set_here, set_else}
use Rattle.desk_gate.specs.declared.limits.TheConstants.{TURN_LIMIT}
use Rattle.desk_gate.specs.declared.counted.Counted.{Ghosts}
use Rattle.desk_gate.specs.declared.view.View.{View}
use Rattle.desk_gate.specs.Histories.{entries_of}
use Rattle.desk_gate.specs.Views.{waits}
use Rattle.desk_gate.specs.Rule.{LockState, words_of, Fits, IsHome, IsOut, Core, Sums, IsKept}
use Rattle.desk_gate.proofs.Sums.{at_length, total_set, apart_set}
use Rattle.desk_gate.proofs.Views.{not_both}

pub some_same : {A : Type 0} (a b : A) → Some a ≡ Some b → a ≡ b
some_same a b e = cc

abbrev pub S : Type 0 → Type 0 → Type 0 → Type 0
S X E O = State (Option X) (View E O)

abbrev pub Homes : Type 0 → Type 0
Homes X = List (slot.Option (Option X))

module _ {X E O : Type 0} (c : Ghosts X E O) (key : X) where
  abbrev pub Rule : S X E O → Type 0
  Rule s = IsKept c key s.words s.homes s.views

  abbrev pub base : ℕ
  base = length (c.history key)

  abbrev pub Fit : LockState E → View E O → Type 0
  Fit b v = Fits c.author base (c.origin_of key) b v

  abbrev Lies : LockState E → Homes X → List (View E O) → Type 0
  Lies b homes vs = IsHome c key b homes vs ⊎ IsOut c key homes vs

  pub core_set : (b b' : LockState E) (homes homes' : Homes X) (vs : List (View E O)) (id : ℕ) (me me' : View E O) (h : Core c key b homes vs) → get_elem? vs id ≡ some me
      → b'.served ≤ b'.drawn → b'.drawn ≤ TURN_LIMIT
      → ((n : ℕ) → b'.drawn ≤ n → entries_of c.author n base b'.history ≡ [])
      → ((i : ℕ) (v : View E O) → i ≢ id → get_elem? vs i ≡ some v → Fit b v → Fit b' v)
      → Fit b' me'
      → ((n : ℕ) → me'.turn ≡ Some n → (me.turn ≡ Some n) ⊎ (b.drawn ≤ n))
      → ((n : ℕ) → me'.number ≡ Some n → (me.number ≡ Some n) ⊎ (b.drawn ≤ n))
      → Lies b' homes' (set vs id me')
      → Core c key b' homes' (set vs id me')
  core_set b b' homes homes' vs id me me' h at order most fresh others mine turn number lies = record {
    order = order;
    most = most;
    fresh = fresh;
    fits = λ i v there. ⊎_elim
        (λ (t : (i ≡ id) × (me' ≡ v)). subst (λ (w : View E O). Fit b' w) t.1 mine)
        (λ (t : (i ≢ id) × (get_elem? vs i ≡ some v)). others i v t.0 t.1 (h.fits i v t.1))
        (at_set vs id i me' v there);
    turns_apart = apart_set (λ (v : View E O). v.turn) vs id me me' b.drawn h.turns_apart at (λ i n v v_is e. ((h.fits i v v_is).turn n e).1) turn;
    numbers_apart = apart_set (λ (v : View E O). v.number) vs id me me' b.drawn h.numbers_apart at (λ i n v v_is e. ((h.fits i v v_is).number n e).0) number;
    lies = lies;
  }

  pub lies_same : (b b' : LockState E) (homes : Homes X) (vs : List (View E O)) (id : ℕ) (me me' : View E O) → get_elem? vs id ≡ some me → me'.holds ≡ me.holds
      → b.history ≡ b'.history → b.faults ≡ b'.faults → Lies b homes vs → Lies b' homes (set vs id me')
  lies_same b b' homes vs id me me' at same log faults lies = ⊎_elim
      (λ (o : IsHome c key b homes vs). inl (
        o.0,
        o.1,
        o.2 ∙ log,
        o.3,
        o.4 ∙ faults,
        λ i v there. ⊎_elim
            (λ (t : (i ≡ id) × (me' ≡ v)). ap (λ (w : View E O). w.holds) (sym t.1) ∙ same ∙ o.5 id me at)
            (λ (t : (i ≢ id) × (get_elem? vs i ≡ some v)). o.5 i v t.1)
            (at_set vs id i me' v there),
      ))
      (λ (o : IsOut c key homes vs). dite (ℕ_discrete o.1 id)
      (λ (e : o.1 ≡ id).
      let one : o.2 ≡ me = some-injective o.2 me (sym (subst (λ k. get_elem? vs k ≡ some o.2) e o.3) ∙ at) in
      inr (o.0, id, me', set_here vs id me' (at_length vs id me at), same ∙ ap (λ (w : View E O). w.holds) (sym one) ∙ o.4))
      (λ (ne : o.1 ≢ id). inr (o.0, o.1, o.2, set_else vs id o.1 me' ne ∙ o.3, o.4)))
      lies

  pub sums_set : (b b' : LockState E) (vs : List (View E O)) (id : ℕ) (me me' : View E O) → Sums c key b vs → get_elem? vs id ≡ some me
      → me'.share ≡ me.share → length me'.turns + b.served ≡ length me.turns + b'.served
      → b'.served + waits me'.turn + b.drawn ≡ b.served + waits me.turn + b'.drawn
      → Sums c key b' (set vs id me')
  sums_set b b' vs id me me' h at share ended waiting =
      let s = total_set (λ (v : View E O). v.share) vs id me me' at in
      let e = total_set (λ (v : View E O). length v.turns) vs id me me' at in
      let w = total_set (λ (v : View E O). waits v.turn) vs id me me' at in
      record { shares = let k = h.shares in omega arith; ended = let k = h.ended in omega arith; waiting = let k = h.waiting in omega arith }

  -- the board stays, and the view keeps its turn, its number, its share and its turns
  pub stays : (i : ℕ) (s : S X E O) (h : Rule s) (id : ℕ) (me : Me (Option X) (View E O)) (w : View E O) → get_elem? s.views id ≡ some me.0 → Fit h.state w
      → w.turn ≡ me.0.turn → w.number ≡ me.0.number → w.share ≡ me.0.share → w.turns ≡ me.0.turns → w.holds ≡ me.0.holds
      → set s.words i (get_or s.words i 0) ≡ s.words
      → Rule (stepped s i (get_or s.words i 0) id me.1 w keeps)
  stays i s h id me w at fit turn number share turns holds words = record {
    state = h.state;
    words_are = words ∙ h.words_are;
    core = core_set h.state h.state s.homes s.homes s.views id me.0 w h.core at h.core.order h.core.most h.core.fresh (λ i v ne is f. f) fit
        (λ n e. inl (sym turn ∙ e)) (λ n e. inl (sym number ∙ e)) (lies_same h.state h.state s.homes s.views id me.0 w at holds refl refl h.core.lies);
    sums = sums_set h.state h.state s.views id me.0 w h.sums at share (ap (λ l. length l + h.state.served) turns) (ap (λ t. h.state.served + waits t + h.state.drawn) turn);
  }

  pub word : (s : S X E O) (h : Rule s) (i : ℕ) → set (words_of h.state) i (get_or (words_of h.state) i 0) ≡ words_of h.state → set s.words i (get_or s.words i 0) ≡ s.words
  word s h i e = ap (λ ws. set ws i (get_or ws i 0)) h.words_are ∙ e ∙ sym h.words_are

  -- no other view has the turn of the one that has the value
  pub alone : (s : S X E O) (h : Rule s) (id : ℕ) (me : View E O) → get_elem? s.views id ≡ some me → me.turn ≡ Some h.state.served
      → (i : ℕ) (v : View E O) → i ≢ id → get_elem? s.views i ≡ some v → v.turn ≡ Some h.state.served → ⊥
  alone s h id me at turn i v ne is e = ne (h.core.turns_apart i id h.state.served v me is at e turn)

  -- the value is out with the view that holds
  pub is_out : (s : S X E O) (h : Rule s) (id : ℕ) (me : View E O) → get_elem? s.views id ≡ some me → me.holds ≡ true → s.homes ≡ none ∷ []
  is_out s h id me at holds = ⊎_elim
      (λ (o : IsHome c key h.state s.homes s.views). absurd (not_both me.holds holds (o.5 id me at)))
      (λ (o : IsOut c key s.homes s.views). o.0)
      h.core.lies
