-- A conversation goes on by what was heard and by a turn, and ends.
use Rattle.std.proofs.Common.{◌≡◌, ℕ, ◌+◌, ◌-◌, ◌<◌, ◌≤◌, inl, inr, Bool, true, false, List, [], ◌∷◌, ◌++◌, length, Option, Some, None, IfSome, IsTrue, refl, sym, ap, ◌∙◌, subst, append_assoc, append-nil, arith, length-append}
use Rattle.std.specs.Prelude.{if◌then◌else◌, ⊤}
use Rattle.std.specs.Io.KnownBytes.{Consumes, Appends, IsAtEnd}
use Rattle.std.proofs.KnownBytes.{Consumes-nil, Appends-nil, Consumes-trans, Appends-trans}
use Rattle.desk_io.specs.Counts.{Rose}
use Rattle.desk_wire.specs.Requests.{Requests, End, clean, cut, bad, too_large, Begins, Ends, IsWhole, IsOpen}
use Rattle.desk_wire.specs.Framers.{IsRefused}
use Rattle.desk_wire.specs.Fed.{Fed}
use Rattle.desk_wire.specs.Responses.{response_text}
use Rattle.desk_wire.proofs.Cuts.{Begins-append, Begins-push, IsWhole-append, IsBad-append, IsTooLarge-append, Requests-from_Begins, Requests-from_close, IsWhole-shorter}
use Rattle.desk_wire.specs.declared.rules.WireEnd.{WireEnd}
use Rattle.desk_wire.specs.declared.rules.WireEnd.TheVariants as why
use Rattle.desk_wire.specs.declared.rules.Request.{Request}
use Rattle.desk_wire.specs.declared.responses.Response.{Response}
use Rattle.desk_talk.specs.Ends.{closing}
use Rattle.desk_talk.specs.Sessions.{Exchange, requests_of, texts_of, Turns, Answered, AnsweredSoFar, NothingMore, OneMoreTurn, PartOfClosing, OneMoreStop, CutOff, IsEnding, border_of, Session}
use Rattle.desk_talk.specs.Rounds.{IsSent, IsReplied, IsFinished, end_of_turn, end_after}
use Rattle.desk_talk.specs.Hearing.{Hears, IsHeard, taken_limit, counted_limit}
use Rattle.desk_talk.specs.declared.hearing.Heard.{Heard}
use Rattle.desk_talk.specs.declared.hearing.Heard.TheVariants as heard
use Rattle.desk_talk.specs.declared.ends.SessionEnd.{SessionEnd}
use Rattle.desk_talk.specs.declared.ends.SessionEnd.TheVariants as end
use Rattle.desk_talk.specs.declared.ends.Stop.{Stop}
use Rattle.desk_talk.specs.declared.ends.Stop.TheVariants as stop
use Rattle.desk_talk.specs.declared.rounds.Sent.{Sent}
use Rattle.desk_talk.specs.declared.rounds.Sent.TheVariants as sent
use Rattle.desk_talk.specs.declared.rounds.Replied.{Replied}
use Rattle.desk_talk.specs.declared.rounds.Replied.TheVariants as replied

-- where a conversation stands: each request before the rest is answered, and none closes
pub record Stands {S : Type 0} (Turn : S → Request → Response → S → Type 0)
    (left left' held held' : Option (List ℕ)) (s t : S) (rest : List ℕ) (count : ℕ) : Type 0 where
  pub got : List ℕ
  pub exchanges : List Exchange
  pub taken : Consumes left left' got
  pub given : Appends held held' (texts_of exchanges)
  pub number : count ≡ length got
  pub begins : Begins got (requests_of exchanges) rest
  pub turns : Turns Turn s exchanges t

-- ---- lists of exchanges

pub texts-push : (xs : List Exchange) (x : Exchange) → texts_of (xs ++ x ∷ []) ≡ texts_of xs ++ response_text x.response
texts-push [] x = append-nil (response_text x.response)
texts-push (y ∷ ys) x =
    ap (λ l. response_text y.response ++ l) (texts-push ys x) ∙ sym (append_assoc (response_text y.response) (texts_of ys) (response_text x.response))

pub requests-push : (xs : List Exchange) (x : Exchange) → requests_of (xs ++ x ∷ []) ≡ requests_of xs ++ x.request ∷ []
requests-push [] x = refl
requests-push (y ∷ ys) x = ap (λ l. y.request ∷ l) (requests-push ys x)

pub turns-push : {S : Type 0} (Turn : S → Request → Response → S → Type 0) (s : S) (xs : List Exchange) (t : S) (x : Exchange) (u : S)
    → Turns Turn s xs t → Turn t x.request x.response u → Turns Turn s (xs ++ x ∷ []) u
turns-push Turn s [] t x u e y = (u, subst (λ v. Turn v x.request x.response u) (sym e) y, refl)
turns-push Turn s (z ∷ zs) t x u e y = (e.0, e.1, turns-push Turn e.0 zs t x u e.2 y)

-- ---- told bytes

told_all : (l l' : Option (List ℕ)) (got : List ℕ) (P : List ℕ → Type 0) → Consumes l l' got → ((more : List ℕ) → P (got ++ more)) → IfSome l P
told_all None l' got P x f = tt
told_all (Some xs) None got P x f = absurd x
told_all (Some xs) (Some ys) got P x f = subst P (sym x) (f ys)

told_end : (l l' : Option (List ℕ)) (got : List ℕ) (P : List ℕ → Type 0) → Consumes l l' got → IsAtEnd l' → P got → IfSome l P
told_end None l' got P x e y = tt
told_end (Some xs) None got P x e y = absurd x
told_end (Some xs) (Some ys) got P x e y = subst P (sym (x ∙ ap (λ r. got ++ r) e ∙ append-nil got)) y

pub untold : {A : Type 0} (l : Option A) → IfSome l (λ all. ⊤)
untold None = tt
untold (Some all) = tt

pub some_same : {A : Type 0} {x y : A} → Some x ≡ Some y → x ≡ y
some_same e = cc

-- ---- steps

pub stands_start : {S : Type 0} (Turn : S → Request → Response → S → Type 0) (l h : Option (List ℕ)) (s : S) (rest : List ℕ) → rest ≡ []
    → Stands Turn l l h h s s rest 0
stands_start Turn l h s rest e = record {
  got = [];
  exchanges = [];
  taken = Consumes-nil l;
  given = Appends-nil h;
  number = refl;
  begins = sym e;
  turns = refl;
}

pub stands_heard : {S : Type 0} {Turn : S → Request → Response → S → Type 0} {l l' l'' h h' : Option (List ℕ)} {s t : S} {n n' : ℕ} {fed now : Fed} {d : Heard}
    → Stands Turn l l' h h' s t fed.rest n → (x : Hears l' l'' n n' fed now d) → Stands Turn l l'' h h' s t (fed.rest ++ x.more) n'
stands_heard {l = l} {l' = l'} {l'' = l''} {fed = fed} a x = record {
  got = a.got ++ x.more;
  exchanges = a.exchanges;
  taken = Consumes-trans l l' l'' a.got x.more a.taken x.taken;
  given = a.given;
  number = omega (arith, a.number, x.count, length-append a.got x.more);
  begins = Begins-append a.got x.more (requests_of a.exchanges) fed.rest a.begins;
  turns = a.turns;
}

pub stands_turn : {S : Type 0} {Turn : S → Request → Response → S → Type 0} {l l' h h' : Option (List ℕ)} (h'' : Option (List ℕ)) {s t : S} (u : S) {rest : List ℕ} {n : ℕ}
    (q : Request) (r : Response) (after : List ℕ) → Stands Turn l l' h h' s t rest n → IsWhole rest q after → q.close ≡ false → Turn t q r u
    → Appends h' h'' (response_text r) → Stands Turn l l' h h'' s u after n
stands_turn {Turn = Turn} {h = h} {h' = h'} h'' {s = s} {t = t} u {rest = rest} q r after a w stays turn more =
    let x : Exchange = record { request = q; response = r } in
    record {
      got = a.got;
      exchanges = a.exchanges ++ x ∷ [];
      taken = a.taken;
      given = subst (Appends h h'') (sym (texts-push a.exchanges x)) (Appends-trans h h' h'' (texts_of a.exchanges) (response_text r) a.given more);
      number = a.number;
      begins = subst (λ (qs : List Request). Begins a.got qs after) (sym (requests-push a.exchanges x))
          (Begins-push a.got (requests_of a.exchanges) rest q after a.begins w stays);
      turns = turns-push Turn s a.exchanges t x u a.turns turn;
    }

false_is_not : IsTrue false → ⊥
false_is_not e = cc

-- a turn that does not end the conversation
pub turn_stands : {S : Type 0} {Turn : S → Request → Response → S → Type 0} (Stops : S → Request → Stop → S → Type 0) {l l' h h' : Option (List ℕ)} (h'' : Option (List ℕ))
    {s t : S} (u : S) {rest : List ℕ} {n : ℕ} (q : Request) (close : Bool) (after : List ℕ) (replied : Replied)
    → Stands Turn l l' h h' s t rest n → IsWhole rest q after → q.close ≡ close → IsReplied Turn Stops t q replied u h' h'' → end_of_turn replied close ≡ None
    → Stands Turn l l' h h'' s u after n
turn_stands Stops h'' u q true after (replied.Sent sent.Whole) a w c x e = absurd (cc)
turn_stands Stops h'' u q false after (replied.Sent sent.Whole) a w c x e = stands_turn h'' u q x.0 after a w c x.1 x.2
turn_stands Stops h'' u q close after (replied.Sent sent.Fault) a w c x e = absurd (cc)
turn_stands Stops h'' u q close after (replied.Sent sent.NoMemory) a w c x e = absurd (cc)
turn_stands Stops h'' u q close after (replied.Stopped stop.NoMemory) a w c x e = absurd (cc)
turn_stands Stops h'' u q close after (replied.Stopped stop.Spent) a w c x e = absurd (cc)

-- ---- ends

module _ {S : Type 0} (Turn : S → Request → Response → S → Type 0) (Stops : S → Request → Stop → S → Type 0) (Knows : List Exchange → Type 0)
    (s : S) (learns : (xs : List Exchange) (t : S) → Turns Turn s xs t → Knows xs) {l l' h h' : Option (List ℕ)} (h'' : Option (List ℕ)) where
  -- a conversation that ended so, after which this was done and sent last
  pub ended : {t : S} {rest : List ℕ} {n : ℕ} (u : S) (how : SessionEnd) (piece : List ℕ) → (a : Stands Turn l l' h h' s t rest n) → n < counted_limit → Appends h' h'' piece
      → IsEnding Turn Stops a.got a.exchanges t u piece how → IfSome l (λ all. IfSome (border_of how) (λ border. Requests all (requests_of a.exchanges) border))
      → Session Turn Stops Knows l l' h h'' s u how
  ended {t = t} u how piece a few given ending whole = record {
    got = a.got;
    exchanges = a.exchanges;
    now = t;
    sent = piece;
    taken = a.taken;
    few = subst (λ (k : ℕ). k < counted_limit) a.number few;
    given = Appends-trans h h' h'' (texts_of a.exchanges) piece a.given given;
    turns = a.turns;
    knows = learns a.exchanges t a.turns;
    ending = ending;
    whole = whole;
  }

  -- the rest of the bytes ends so
  answered : {t : S} {rest : List ℕ} {n : ℕ} (border : End) (last : List ℕ) → (a : Stands Turn l l' h h' s t rest n) → Ends rest border
      → Answered a.got a.exchanges border last t t last
  answered {rest = rest} border last a e = record {
    requests = Requests-from_Begins a.got (requests_of a.exchanges) rest border a.begins e;
    stays = refl;
    sends = refl;
  }

  -- the same with bytes behind them
  answered_all : {t : S} {rest : List ℕ} {n : ℕ} (border : End) (more : List ℕ) → (a : Stands Turn l l' h h' s t rest n) → Ends (rest ++ more) border
      → Requests (a.got ++ more) (requests_of a.exchanges) border
  answered_all {rest = rest} border more a e =
      Requests-from_Begins (a.got ++ more) (requests_of a.exchanges) (rest ++ more) border (Begins-append a.got more (requests_of a.exchanges) rest a.begins) e

  so_far : {t : S} {rest : List ℕ} {n : ℕ} → (a : Stands Turn l l' h h' s t rest n) → IsOpen rest → AnsweredSoFar a.got a.exchanges t t []
  so_far {rest = rest} a e = record { rest = rest; begins = a.begins; waits = e; stays = refl; sends = refl }

  pub cut_off : {t : S} {rest : List ℕ} {n : ℕ} (Last : List ℕ → S → S → List ℕ → Type 0) (u : S) (piece : List ℕ) → (a : Stands Turn l l' h h' s t rest n) → Last rest t u piece
      → CutOff Last a.got a.exchanges t u piece
  cut_off {rest = rest} Last u piece a e = record { rest = rest; begins = a.begins; last = e }

  -- ---- the end that a turn brings

  -- the last request closes
  closes : {t : S} {rest : List ℕ} {n : ℕ} (x : Exchange) (after more : List ℕ) → (a : Stands Turn l l' h h' s t rest n) → IsWhole rest x.request after → x.request.close ≡ true
      → Requests (a.got ++ more) (requests_of (a.exchanges ++ x ∷ [])) clean
  closes {rest = rest} x after more a w close =
      subst (λ (qs : List Request). Requests (a.got ++ more) qs clean) (sym (requests-push a.exchanges x))
      (Requests-from_close (a.got ++ more) (requests_of a.exchanges) (rest ++ more) x.request (after ++ more)
      (Begins-append a.got more (requests_of a.exchanges) rest a.begins) (IsWhole-append rest more x.request after w) close)

  closed_session : {t : S} (u : S) {rest : List ℕ} {n : ℕ} (x : Exchange) (after : List ℕ) → Stands Turn l l' h h' s t rest n → n < counted_limit → IsWhole rest x.request after
      → x.request.close ≡ true → Turn t x.request x.response u → Appends h' h'' (response_text x.response) → Session Turn Stops Knows l l' h h'' s u end.Closed
  closed_session {t = t} u x after a few w close turn given =
      let turns = turns-push Turn s a.exchanges t x u a.turns turn in
      let texts = Appends-trans h h' h'' (texts_of a.exchanges) (response_text x.response) a.given given in
      record {
        got = a.got;
        exchanges = a.exchanges ++ x ∷ [];
        now = u;
        sent = [];
        taken = a.taken;
        few = subst (λ (k : ℕ). k < counted_limit) a.number few;
        given = subst (Appends h h'') (sym (texts-push a.exchanges x) ∙ sym (append-nil (texts_of (a.exchanges ++ x ∷ [])))) texts;
        turns = turns;
        knows = learns (a.exchanges ++ x ∷ []) u turns;
        ending = record {
          requests = subst (λ (b : List ℕ). Requests b (requests_of (a.exchanges ++ x ∷ [])) clean) (append-nil a.got) (closes x after [] a w close);
          stays = refl;
          sends = refl;
        };
        whole = told_all l l' a.got (λ all. Requests all (requests_of (a.exchanges ++ x ∷ [])) clean) a.taken (λ more. closes x after more a w close);
      }

  pub turn_session : {t : S} (u : S) {rest : List ℕ} {n : ℕ} (q : Request) (close : Bool) (after : List ℕ) (replied : Replied) (how : SessionEnd)
      → Stands Turn l l' h h' s t rest n → n < counted_limit → IsWhole rest q after → q.close ≡ close → IsReplied Turn Stops t q replied u h' h'' → end_of_turn replied close ≡ Some how
      → Session Turn Stops Knows l l' h h'' s u how
  turn_session u q true after (replied.Sent sent.Whole) how a few w c x e =
      subst (Session Turn Stops Knows l l' h h'' s u) (some_same e) (closed_session u (record { request = q; response = x.0 }) after a few w c x.1 x.2)
  turn_session u q false after (replied.Sent sent.Whole) how a few w c x e = absurd (cc)
  turn_session u q close after (replied.Sent sent.Fault) how a few w c x e =
      let piece = x.2 in
      subst (Session Turn Stops Knows l l' h h'' s u) (some_same e)
      (ended u end.WriteFault piece.0 a few piece.3 (inl (cut_off (OneMoreTurn Turn) u piece.0 a (q, after, x.0, piece.1, w, x.1, piece.2))) (untold l))
  turn_session u q close after (replied.Sent sent.NoMemory) how a few w c x e =
      subst (Session Turn Stops Knows l l' h h'' s u) (some_same e)
      (ended u end.NoMemory [] a few x.2 (inr (inl (cut_off (OneMoreTurn Turn) u [] a (q, after, x.0, response_text x.0, w, x.1, refl)))) (untold l))
  turn_session u q close after (replied.Stopped stop.NoMemory) how a few w c x e =
      subst (Session Turn Stops Knows l l' h h'' s u) (some_same e)
      (ended u end.NoMemory [] a few x.1 (inr (inr (cut_off (OneMoreStop Stops stop.NoMemory) u [] a (q, after, w, x.0, refl)))) (untold l))
  turn_session u q close after (replied.Stopped stop.Spent) how a few w c x e =
      subst (Session Turn Stops Knows l l' h h'' s u) (some_same e)
      (ended u end.Spent [] a few x.1 (cut_off (OneMoreStop Stops stop.Spent) u [] a (q, after, w, x.0, refl)) (untold l))

  -- ---- the end after what was heard

  refused_session : {t : S} {rest : List ℕ} {n : ℕ} (e : WireEnd) (sent : Sent) → Stands Turn l l' h h' s t rest n → n < counted_limit → IsRefused rest e → IsSent sent h' h'' (closing e)
      → Session Turn Stops Knows l l' h h'' s t (end_after e sent)
  refused_session {t = t} {rest = rest} (why.Bad rule) sent.Whole a few x y =
      let last = response_text (closing (why.Bad rule)) in
      ended t (end.BadHead rule) last a few y (answered (bad rule) last a x)
      (told_all l l' a.got (λ all. Requests all (requests_of a.exchanges) (bad rule)) a.taken (λ more. answered_all (bad rule) more a (IsBad-append rest more rule x)))
  refused_session {t = t} {rest = rest} (why.TooLarge limit) sent.Whole a few x y =
      let last = response_text (closing (why.TooLarge limit)) in
      ended t (end.TooLarge limit) last a few y (answered (too_large limit) last a x)
      (told_all l l' a.got (λ all. Requests all (requests_of a.exchanges) (too_large limit)) a.taken (λ more. answered_all (too_large limit) more a (IsTooLarge-append rest more limit x)))
  refused_session {t = t} e sent.Fault a few x y =
      ended t end.WriteFault y.0 a few y.3 (inr (cut_off PartOfClosing t y.0 a (e, y.1, x, refl, y.2))) (untold l)
  refused_session {t = t} e sent.NoMemory a few x y = ended t end.NoMemory [] a few y (inl (cut_off NothingMore t [] a (refl, refl))) (untold l)

  at_end_session : {t : S} {rest : List ℕ} {n : ℕ} (empty : Bool) → Stands Turn l l' h h' s t rest n → n < counted_limit → IsOpen rest → IsAtEnd l' → (IsTrue empty → rest ≡ [])
      → (rest ≡ [] → IsTrue empty) → Appends h' h'' [] → Session Turn Stops Knows l l' h h'' s t (if empty then end.Closed else end.Truncated)
  at_end_session {t = t} true a few waits none hollow full y =
      let is = answered clean [] a (hollow refl) in
      ended t end.Closed [] a few y is (told_end l l' a.got (λ all. Requests all (requests_of a.exchanges) clean) a.taken none is.requests)
  at_end_session {t = t} {rest = rest} false a few waits none hollow full y =
      let some = λ (e : rest ≡ []). false_is_not (full e) in
      let is = answered cut [] a (some, waits) in
      ended t end.Truncated [] a few y is (told_end l l' a.got (λ all. Requests all (requests_of a.exchanges) cut) a.taken none is.requests)

  pub finished_session : {t : S} {rest : List ℕ} {n : ℕ} (d : Heard) (empty : Bool) (how : SessionEnd) (now : Fed)
      → Stands Turn l l' h h' s t rest n → n < counted_limit → IsHeard rest d now → (d ≡ heard.AtEnd → IsAtEnd l') → ((x : Request) → d ≡ heard.Request x → ⊥) → IsFinished d empty how h' h''
      → (IsTrue empty → now.rest ≡ []) → (now.rest ≡ [] → IsTrue empty) → (d ≡ heard.Budget → taken_limit ≤ n) → Session Turn Stops Knows l l' h h'' s t how
  finished_session (heard.Request q) empty how now a few x input none f hollow full budget = absurd (none q refl)
  finished_session {t = t} (heard.Refused e) empty how now a few x input none f hollow full budget =
      subst (Session Turn Stops Knows l l' h h'' s t) (sym f.1) (refused_session e f.0 a few x f.2)
  finished_session {t = t} heard.AtEnd empty how now a few x input none f hollow full budget =
      subst (Session Turn Stops Knows l l' h h'' s t) (sym f.0)
      (at_end_session empty a few x.0 (input refl) (λ e. sym x.1 ∙ hollow e) (λ e. full (x.1 ∙ e)) f.1)
  finished_session {t = t} heard.Fault empty how now a few x input none f hollow full budget =
      subst (Session Turn Stops Knows l l' h h'' s t) (sym f.0) (ended t end.ReadFault [] a few f.1 (so_far a x) (untold l))
  finished_session {t = t} heard.Budget empty how now a few x input none f hollow full budget =
      subst (Session Turn Stops Knows l l' h h'' s t) (sym f.0)
      (ended t end.BudgetEnd [] a few f.1 (so_far a x, subst (λ (k : ℕ). taken_limit ≤ k) a.number (budget refl)) (untold l))
  finished_session {t = t} heard.NoMemory empty how now a few x input none f hollow full budget =
      subst (Session Turn Stops Knows l l' h h'' s t) (sym f.0)
      (ended t end.NoMemory [] a few f.1 (inl (cut_off NothingMore t [] a (refl, refl))) (untold l))

-- ---- faults

refused_no_read : (e : WireEnd) (sent : Sent) → end_after e sent ≡ end.ReadFault → ⊥
refused_no_read (why.Bad rule) sent.Whole x = cc
refused_no_read (why.TooLarge limit) sent.Whole x = cc
refused_no_read e sent.Fault x = cc
refused_no_read e sent.NoMemory x = cc

at_end_no_read : (empty : Bool) → (if empty then end.Closed else end.Truncated) ≡ end.ReadFault → ⊥
at_end_no_read true x = cc
at_end_no_read false x = cc

-- a read fault was heard
pub fault_heard : (d : Heard) (empty : Bool) (how : SessionEnd) (h' h'' : Option (List ℕ)) → ((x : Request) → d ≡ heard.Request x → ⊥) → IsFinished d empty how h' h''
    → how ≡ end.ReadFault → d ≡ heard.Fault
fault_heard (heard.Request q) empty how h' h'' none f e = absurd (none q refl)
fault_heard (heard.Refused w) empty how h' h'' none f e = absurd (refused_no_read w f.0 (sym f.1 ∙ e))
fault_heard heard.AtEnd empty how h' h'' none f e = absurd (at_end_no_read empty (sym f.0 ∙ e))
fault_heard heard.Fault empty how h' h'' none f e = refl
fault_heard heard.Budget empty how h' h'' none f e = let x : end.BudgetEnd ≡ end.ReadFault = sym f.0 ∙ e in absurd (cc)
fault_heard heard.NoMemory empty how h' h'' none f e = let x : end.NoMemory ≡ end.ReadFault = sym f.0 ∙ e in absurd (cc)

-- a write fault of a turn is the sink's
pub fault_sent : (d : Replied) (close : Bool) (how : SessionEnd) → end_of_turn d close ≡ Some how → how ≡ end.WriteFault → d ≡ replied.Sent sent.Fault
fault_sent (replied.Sent sent.Whole) true how e f = absurd (cc)
fault_sent (replied.Sent sent.Whole) false how e f = absurd (cc)
fault_sent (replied.Sent sent.Fault) close how e f = refl
fault_sent (replied.Sent sent.NoMemory) close how e f = absurd (cc)
fault_sent (replied.Stopped stop.NoMemory) close how e f = absurd (cc)
fault_sent (replied.Stopped stop.Spent) close how e f = absurd (cc)

-- a turn takes bytes
pub takes_bytes : (l l' : Option (List ℕ)) (n n' : ℕ) (fed now : Fed) (q : Request) → n' < counted_limit → Hears l l' n n' fed now (heard.Request q)
    → (counted_limit - n') + length now.rest < (counted_limit - n) + length fed.rest
takes_bytes l l' n n' fed now q most x =
    let shorter = IsWhole-shorter (fed.rest ++ x.more) q now.rest x.heard.0 in
    let len = length-append fed.rest x.more in
    let count = x.count in
    omega arith

pub rose_from : (a b c : ℕ) → a ≤ b → Rose b c → Rose a c
rose_from a b c e x = omega arith

pub hears_at : {l l' : Option (List ℕ)} {n n' : ℕ} {fed now : Fed} {d : Heard} (x : Heard) → d ≡ x → Hears l l' n n' fed now d → Hears l l' n n' fed now x
hears_at {l = l} {l' = l'} {n = n} {n' = n'} {fed = fed} {now = now} x e h = subst (λ d. Hears l l' n n' fed now d) e h
