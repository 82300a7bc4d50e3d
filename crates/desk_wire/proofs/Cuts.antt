-- What stands at the front stays there, whatever bytes follow.
use Rattle.std.proofs.Common.{◌≡◌, ℕ, ◌<◌, ◌≤◌, inl, inr, Bool, true, false, List, [], ◌∷◌, ◌++◌, length, refl, sym, ap, ◌∙◌, subst, append_assoc, arith, length-append}
use Rattle.std.specs.Prelude.{MatchBool}
use Rattle.httparse.specs.Grammar.{RequestHead, print_request, ReadsRequest, HasNoRequest, NeverHasRequest, MayBecomeRequest}
use Rattle.httparse.proofs.GrammarLemmas.{ReadsRequest-append}
use Rattle.desk_wire.specs.Limits.{most_head_lines}
use Rattle.desk_wire.specs.Front.{front, line_feeds}
use Rattle.desk_wire.specs.Requests.{HasHead, IsWhole, IsBad, IsFull, IsTooLarge, Requests, Begins, Ends, End, clean}
use Rattle.desk_wire.specs.declared.rules.Request.{Request}
use Rattle.desk_wire.specs.declared.rules.HeadRule.{HeadRule}
use Rattle.desk_wire.specs.declared.rules.WireLimit.{WireLimit}
use Rattle.desk_wire.proofs.FrontLemmas.{front-append, front-full_lines, front-full_bytes}
use Rattle.desk_wire.proofs.LineFeeds.{head_feeds}

pub HasHead-append : (bytes more : List ℕ) (h : RequestHead) (after : List ℕ) → HasHead bytes h after → HasHead (bytes ++ more) h (after ++ more)
HasHead-append bytes more h after x =
    let grown = front-append bytes more in (
      (
        x.0.0 ++ grown.0,
        subst (λ (b : List ℕ). ReadsRequest b h (x.0.0 ++ grown.0)) (sym grown.1) (ReadsRequest-append (front bytes) h x.0.0 grown.0 x.0.1),
      ),
      ap (λ l. l ++ more) x.1 ∙ append_assoc (print_request h) after more,
    )

pub IsWhole-append : (bytes more : List ℕ) (q : Request) (rest : List ℕ) → IsWhole bytes q rest → IsWhole (bytes ++ more) q (rest ++ more)
IsWhole-append bytes more q rest x = record {
  head = x.head;
  has_head = subst (HasHead (bytes ++ more) x.head) (append_assoc q.body rest more) (HasHead-append bytes more x.head (q.body ++ rest) x.has_head);
  framed = x.framed;
  is = x.is;
}

pub NeverHasRequest-append : (bytes more : List ℕ) → NeverHasRequest bytes → NeverHasRequest (bytes ++ more)
NeverHasRequest-append bytes more x = λ next. subst HasNoRequest (sym (append_assoc bytes more next)) (x (more ++ next))

pub IsBad-append : (bytes more : List ℕ) (rule : HeadRule) → IsBad bytes rule → IsBad (bytes ++ more) rule
IsBad-append bytes more rule (inl x) =
    let grown = front-append bytes more in inl (x.0, subst NeverHasRequest (sym grown.1) (NeverHasRequest-append (front bytes) grown.0 x.1))
IsBad-append bytes more rule (inr x) = inr (x.0, x.1 ++ more, HasHead-append bytes more x.0 x.1 x.2, x.3)

full_stays : (bytes more : List ℕ) (limit : WireLimit) → front (bytes ++ more) ≡ front bytes → IsFull bytes limit → IsFull (bytes ++ more) limit
full_stays bytes more limit e x = record {
  none = subst HasNoRequest (sym e) x.none;
  may = subst MayBecomeRequest (sym e) x.may;
  which = elim x.which [
    | inl y ↦ inl (y.0, ap line_feeds e ∙ y.1)
    | inr y ↦ inr (y.0, subst (λ (p : List ℕ). line_feeds p < most_head_lines) (sym e) y.1, ap length e ∙ y.2)
  ];
}

pub IsTooLarge-append : (bytes more : List ℕ) (limit : WireLimit) → IsTooLarge bytes limit → IsTooLarge (bytes ++ more) limit
IsTooLarge-append bytes more limit (inl x) =
    inl (elim x.which [
      | inl y ↦ full_stays bytes more limit (front-full_lines bytes more y.1) x
      | inr y ↦ full_stays bytes more limit (front-full_bytes bytes more y.2) x
    ])
IsTooLarge-append bytes more limit (inr x) = inr (x.0, x.1 ++ more, HasHead-append bytes more x.0 x.1 x.2, x.3)

pub Begins-append : (bytes more : List ℕ) (qs : List Request) (rest : List ℕ) → Begins bytes qs rest → Begins (bytes ++ more) qs (rest ++ more)
Begins-append bytes more [] rest x = ap (λ l. l ++ more) x
Begins-append bytes more (q ∷ qs) rest x =
    (x.0 ++ more, IsWhole-append bytes more q x.0 x.1, x.2, Begins-append x.0 more qs rest x.3)

-- one request more
pub Begins-push : (bytes : List ℕ) (qs : List Request) (rest : List ℕ) (q : Request) (after : List ℕ) → Begins bytes qs rest → IsWhole rest q after → q.close ≡ false
    → Begins bytes (qs ++ q ∷ []) after
Begins-push bytes [] rest q after x y stays = (after, subst (λ (b : List ℕ). IsWhole b q after) (sym x) y, stays, refl)
Begins-push bytes (p ∷ qs) rest q after x y stays = (x.0, x.1, x.2, Begins-push x.0 qs rest q after x.3 y stays)

open_case : (q : Request) (closes : Bool) (P Q : Type 0) → closes ≡ false → Q → MatchBool closes P Q
open_case q true P Q e y = absurd (cc)
open_case q false P Q e y = y

closed_case : (closes : Bool) (P Q : Type 0) → closes ≡ true → P → MatchBool closes P Q
closed_case true P Q e y = y
closed_case false P Q e y = absurd (cc)

-- the rest ends so, and all of it does
pub Requests-from_Begins : (bytes : List ℕ) (qs : List Request) (rest : List ℕ) (end : End) → Begins bytes qs rest → Ends rest end → Requests bytes qs end
Requests-from_Begins bytes [] rest end x y = subst (λ (b : List ℕ). Ends b end) (sym x) y
Requests-from_Begins bytes (q ∷ qs) rest end x y =
    (x.0, x.1, open_case q q.close _ _ x.2 (Requests-from_Begins x.0 qs rest end x.3 y))

-- the last request closes
pub Requests-from_close : (bytes : List ℕ) (qs : List Request) (rest : List ℕ) (q : Request) (after : List ℕ) → Begins bytes qs rest → IsWhole rest q after → q.close ≡ true
    → Requests bytes (qs ++ q ∷ []) clean
Requests-from_close bytes [] rest q after x y closes =
    (after, subst (λ (b : List ℕ). IsWhole b q after) (sym x) y, closed_case q.close _ _ closes (refl, refl))
Requests-from_close bytes (p ∷ qs) rest q after x y closes =
    (x.0, x.1, open_case p p.close _ _ x.2 (Requests-from_close x.0 qs rest q after x.3 y closes))

pub feeds_length : (xs : List ℕ) → line_feeds xs ≤ length xs
feeds_length [] = omega arith
feeds_length (x ∷ xs) = let h = feeds_length xs in grind arith

-- a request takes bytes
pub IsWhole-shorter : (bytes : List ℕ) (q : Request) (rest : List ℕ) → IsWhole bytes q rest → length rest < length bytes
IsWhole-shorter bytes q rest x =
    let a = head_feeds x.head in
    let b = feeds_length (print_request x.head) in
    let c = ap length x.has_head.1 in
    let d = length-append (print_request x.head) (q.body ++ rest) in
    let e = length-append q.body rest in
    omega arith
