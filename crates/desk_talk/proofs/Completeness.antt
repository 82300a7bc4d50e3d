-- An input of whole requests is answered to its end.
use Rattle.std.proofs.Common.{◌≡◌, ℕ, List, Option, Some, IfSome, inl, inr, refl, subst, length, ◌<◌, ◌≤◌, None, ap, arith, length-append}
use Rattle.std.specs.Io.KnownBytes.{Consumes}
use Rattle.desk_wire.specs.Requests.{Requests, End, clean, cut, bad, too_large}
use Rattle.desk_wire.specs.declared.rules.Request.{Request}
use Rattle.desk_wire.specs.declared.responses.Response.{Response}
use Rattle.desk_wire.proofs.Unique.{clean_unique}
use Rattle.desk_talk.specs.Ends.{EndsWell}
use Rattle.desk_talk.specs.Hearing.{taken_limit}
use Rattle.desk_talk.specs.Sessions.{Exchange, requests_of, border_of, Session}
use Rattle.desk_talk.specs.declared.ends.SessionEnd.{SessionEnd}
use Rattle.desk_talk.specs.declared.ends.SessionEnd.TheVariants as end
use Rattle.desk_talk.specs.declared.ends.Stop.{Stop}

taken_length : (all : List ℕ) (l' : Option (List ℕ)) (got : List ℕ) → Consumes (Some all) l' got → length got ≤ length all
taken_length all None got x = absurd x
taken_length all (Some rest) got x = omega (arith, ap length x, length-append got rest)

-- the whole input has no border but its own
border_is : (l : Option (List ℕ)) (how : SessionEnd) (border : End) (xs : List Exchange) (all : List ℕ) (qs : List Request) → border_of how ≡ Some border
    → IfSome l (λ bytes. IfSome (border_of how) (λ e. Requests bytes (requests_of xs) e)) → l ≡ Some all → Requests all qs clean → border ≡ clean
border_is l how border xs all qs is whole told requests =
    let known = subst (λ o. IfSome o (λ bytes. IfSome (border_of how) (λ e. Requests bytes (requests_of xs) e))) told whole in
    clean_unique all qs (requests_of xs) border requests (subst (λ o. IfSome o (λ e. Requests all (requests_of xs) e)) is known)

pub completes : {S : Type 0} (T : S → Request → Response → S → Type 0) (K : S → Request → Stop → S → Type 0) (N : List Exchange → Type 0) (l l' h h' : Option (List ℕ)) (s t : S) (how : SessionEnd)
    → Session T K N l l' h h' s t how → (all : List ℕ) (qs : List Request) → l ≡ Some all → Requests all qs clean → length all < taken_limit
    → (how ≡ end.ReadFault → ⊥) → (how ≡ end.WriteFault → ⊥) → EndsWell how
completes T K N l l' h h' s t end.Closed x all qs e c few r w = inl refl
completes T K N l l' h h' s t end.NoMemory x all qs e c few r w = inr (inl refl)
completes T K N l l' h h' s t end.Spent x all qs e c few r w = inr (inr refl)
completes T K N l l' h h' s t end.ReadFault x all qs e c few r w = absurd (r refl)
completes T K N l l' h h' s t end.WriteFault x all qs e c few r w = absurd (w refl)
completes T K N l l' h h' s t end.Truncated x all qs e c few r w =
    let same : cut ≡ clean = border_is l end.Truncated cut x.exchanges all qs refl x.whole e c in absurd (cc)
completes T K N l l' h h' s t (end.BadHead rule) x all qs e c few r w =
    let same : bad rule ≡ clean = border_is l (end.BadHead rule) (bad rule) x.exchanges all qs refl x.whole e c in absurd (cc)
completes T K N l l' h h' s t (end.TooLarge limit) x all qs e c few r w =
    let same : too_large limit ≡ clean = border_is l (end.TooLarge limit) (too_large limit) x.exchanges all qs refl x.whole e c in absurd (cc)
completes T K N l l' h h' s t end.BudgetEnd x all qs e c few r w =
    let got = taken_length all l' x.got (subst (λ (o : Option (List ℕ)). Consumes o l' x.got) e x.taken) in
    absurd (omega (arith, got, x.ending.1, few))
