-- A request is read in one way.
use Rattle.std.proofs.Common.{◌≡◌, ℕ, Bool, true, false, List, [], ◌∷◌, ◌++◌, codes, get_or, Option, Some, None, unwrap_or, Result, Ok, Err, MatchOption, refl, sym, ap, subst, ◌∙◌, arith}
use Rattle.std.specs.Prelude.{MatchResult}
use Rattle.std.proofs.lemmas.Fmt.{decimal_injective}
use Rattle.std.proofs.lemmas.List.{append_cancel_left, append_cancel_right}
use Rattle.serde_json.specs.Data.{Data}
use Rattle.desk_base.specs.declared.search.results.Cursor.{Cursor}
use Rattle.desk_base.specs.declared.asked.answers.Command.{Command as Asking}
use Rattle.desk_base.specs.declared.asked.answers.Command.TheVariants.{Ask, Change}
use Rattle.desk_base.specs.declared.asked.answers.Query.{Query}
use Rattle.desk_base.specs.declared.asked.answers.Query.TheVariants.{Revision, Journal}
use Rattle.desk_time.proofs.MomentTexts.{moment_text-one_moment}
use Rattle.desk_wire.specs.declared.rules.Request.{Request}
use Rattle.desk_wire.specs.declared.responses.Allow.{Allow}
use Rattle.desk_json.specs.Asked.{IsAsked}
use Rattle.desk_json.specs.Bodies.{parsed, change_in}
use Rattle.desk_json.specs.Faults.{◌>>=◌}
use Rattle.desk_json.specs.Cursors.{cursor_text}
use Rattle.desk_json.specs.CursorReading.{IsCursor}
use Rattle.desk_json.specs.Decimals.{ReadsId}
use Rattle.desk_json.specs.declared.faults.BodyError.{BodyError}
use Rattle.desk_json.specs.declared.faults.BodyError.TheVariants.{Bad}
use Rattle.desk_route.specs.declared.refusals.WebRefusal.{WebRefusal}
use Rattle.desk_route.specs.declared.refusals.WebRefusal.TheVariants.{NoRoute, WrongMethod, BadParameter, BadBody, NotBuilt}
use Rattle.desk_route.specs.declared.refusals.Parameter.TheVariants.{Id}
use Rattle.desk_route.specs.declared.requests.Routed.{Routed}
use Rattle.desk_route.specs.declared.requests.Routed.TheVariants.{Command, Refused}
use Rattle.desk_route.specs.declared.routes.Route.{Route}
use Rattle.desk_route.specs.declared.routes.Route.TheVariants as route
use Rattle.desk_route.specs.declared.parameters.Form.{Form}
use Rattle.desk_route.specs.declared.parameters.Form.TheVariants as form
use Rattle.desk_route.specs.declared.parameters.Value.{Value}
use Rattle.desk_route.specs.declared.parameters.Value.TheVariants.{Limit, After, Latest, From, To, Per, Above}
use Rattle.desk_route.specs.declared.parameters.Asked.{Asked}
use Rattle.desk_route.specs.Routes.{rows_path, IsPathOf, HasRoute, path_of, query_of}
use Rattle.desk_route.specs.Parameters.{rows_forms, journal_forms, parameter_of, named, IsValue, is_given, with_value}
use Rattle.desk_route.specs.Queries.{IfSo, ReadsValue, ReadsNamed, ReadsPairs}
use Rattle.desk_route.specs.Requesting.{serves, method_of, rows_of, AfterQuery, ReadsGroup, ReadsRows, ReadsChange, ReadsServed, ReadsBy, ReadsAt, ReadsAs, Reads}
use Rattle.desk_route.specs.Exchanges.{IsRequested}

-- ---- the route of a path

-- it shows in the second byte and the fourth
abbrev second_byte : Route → ℕ
second_byte route.Rows = 103
second_byte route.Board = 98
second_byte route.Sheet = 114
second_byte route.Journal = 106
second_byte route.Revision = 114
second_byte route.Changes = 99

abbrev fourth_byte : Route → ℕ
fourth_byte route.Rows = 111
fourth_byte route.Board = 97
fourth_byte route.Sheet = 115
fourth_byte route.Journal = 117
fourth_byte route.Revision = 118
fourth_byte route.Changes = 97

second_is : (r : Route) (path : List ℕ) → IsPathOf r path → get_or path 1 0 ≡ second_byte r
second_is route.Rows path is = ap (λ p. get_or p 1 0) is.2
second_is route.Board path is = ap (λ p. get_or p 1 0) is
second_is route.Sheet path is = ap (λ p. get_or p 1 0) is.2
second_is route.Journal path is = ap (λ p. get_or p 1 0) is
second_is route.Revision path is = ap (λ p. get_or p 1 0) is
second_is route.Changes path is = ap (λ p. get_or p 1 0) is

fourth_is : (r : Route) (path : List ℕ) → IsPathOf r path → get_or path 3 0 ≡ fourth_byte r
fourth_is route.Rows path is = ap (λ p. get_or p 3 0) is.2
fourth_is route.Board path is = ap (λ p. get_or p 3 0) is
fourth_is route.Sheet path is = ap (λ p. get_or p 3 0) is.2
fourth_is route.Journal path is = ap (λ p. get_or p 3 0) is
fourth_is route.Revision path is = ap (λ p. get_or p 3 0) is
fourth_is route.Changes path is = ap (λ p. get_or p 3 0) is

by_bytes : (r s : Route) → second_byte r ≡ second_byte s → fourth_byte r ≡ fourth_byte s → r ≡ s
by_bytes route.Rows route.Rows e f = refl
by_bytes route.Board route.Board e f = refl
by_bytes route.Sheet route.Sheet e f = refl
by_bytes route.Journal route.Journal e f = refl
by_bytes route.Revision route.Revision e f = refl
by_bytes route.Changes route.Changes e f = refl
by_bytes _ _ e f = absurd (omega (arith, e, f))

route_same : (path : List ℕ) (r s : Option Route) → HasRoute path r → HasRoute path s → r ≡ s
route_same path (Some r) (Some s) h k = ap (λ x. Some x) (by_bytes r s (sym (second_is r path h.1) ∙ second_is s path k.1) (sym (fourth_is r path h.1) ∙ fourth_is s path k.1))
route_same path (Some r) None h k = absurd (k r h.0 h.1)
route_same path None (Some s) h k = absurd (h s k.0 k.1)
route_same path None None h k = refl

-- ---- the number of a group

id_same : (text : List ℕ) (a b : Option ℕ) → ReadsId text a → ReadsId text b → a ≡ b
id_same text (Some a) (Some b) h k = ap (λ x. Some x) (decimal_injective a b (omega (arith, h.0)) (omega (arith, k.0)) (sym h.1 ∙ k.1))
id_same text (Some a) None h k = absurd (k a h.0 h.1)
id_same text None (Some b) h k = absurd (h b k.0 k.1)
id_same text None None h k = refl

part_same : (path a b : List ℕ) → path ≡ rows_path a → path ≡ rows_path b → a ≡ b
part_same path a b h k = append_cancel_right a b (codes "/rows") (append_cancel_left (codes "/groups/") (a ++ codes "/rows") (b ++ codes "/rows") (sym h ∙ k))

-- ---- one or the other

if_same : {X : Type 0} (b : Bool) (P Q : X → Type 0) (x y : X) → (P x → P y → x ≡ y) → (Q x → Q y → x ≡ y) → IfSo b (P x) (Q x) → IfSo b (P y) (Q y) → x ≡ y
if_same true P Q x y p q h k = p h k
if_same false P Q x y p q h k = q h k

-- ---- bodies

change_same : (body : List ℕ) (r s : Result Asking WebRefusal) → ReadsChange body r → ReadsChange body s → r ≡ s
change_same body (Ok c) (Ok d) h k = let e : Ok c ≡ Ok d = sym h ∙ k in cc
change_same body (Ok c) (Err why) h k = let e : Ok c ≡ Err (Bad k.0 k.1) = sym h ∙ k.3 in absurd (cc)
change_same body (Err why) (Ok d) h k = let e : Err (Bad h.0 h.1) ≡ Ok d = sym h.3 ∙ k in absurd (cc)
change_same body (Err why) (Err other) h k =
    let e : Err (Bad h.0 h.1) ≡ Err (Bad k.0 k.1) = sym h.3 ∙ k.3 in
    let rule : h.0 ≡ k.0 = cc in
    let field : h.1 ≡ k.1 = cc in
    ap (λ w. Err w) (h.2 ∙ ap (λ x. BadBody x h.1) rule ∙ ap (λ x. BadBody k.0 x) field ∙ sym k.2)

-- ---- where a text is that of one cursor

module _ (one_cursor : (c d : Cursor) → IsCursor c → IsCursor d → cursor_text c ≡ cursor_text d → c ≡ d) where
  value_same : (f : Form) (text : List ℕ) (v w : Value) → IsValue f text v → IsValue f text w → v ≡ w
  value_same form.Limit text (Limit m) (Limit n) h k = ap (λ x. Limit x) (decimal_injective m n (omega (arith, h.0)) (omega (arith, k.0)) (sym h.1 ∙ k.1))
  value_same form.After text (After c) (After d) h k = ap (λ x. After x) (one_cursor c d h.0 k.0 (sym h.1 ∙ k.1))
  value_same form.Latest text Latest Latest h k = refl
  value_same form.From text (From m) (From n) h k = ap (λ x. From x) (moment_text-one_moment text m n h k)
  value_same form.To text (To m) (To n) h k = ap (λ x. To x) (moment_text-one_moment text m n h k)
  value_same form.Per text (Per m) (Per n) h k = ap (λ x. Per x) (decimal_injective m n (omega (arith, h.0)) (omega (arith, k.0)) (sym h.1 ∙ k.1))
  value_same form.Above text (Above m) (Above n) h k = ap (λ x. Above x) (decimal_injective m n (omega (arith, h.0)) (omega (arith, k.0)) (sym h.1 ∙ k.1))
  value_same _ text _ _ h k = absurd (search)

  reads_value_same : (f : Form) (text : List ℕ) (r s : Result Value WebRefusal) → ReadsValue f text r → ReadsValue f text s → r ≡ s
  reads_value_same f text (Ok v) (Ok w) h k = ap (λ x. Ok x) (value_same f text v w h k)
  reads_value_same f text (Ok v) (Err why) h k = absurd (k.1 v h)
  reads_value_same f text (Err why) (Ok w) h k = absurd (h.1 w k)
  reads_value_same f text (Err why) (Err other) h k = ap (λ x. Err x) (h.0 ∙ sym k.0)

  named_same : (asked : Asked) (f : Option Form) (text : List ℕ) (r s : Result Value WebRefusal) → ReadsNamed asked f text r → ReadsNamed asked f text s → r ≡ s
  named_same asked None text r s h k = h ∙ sym k
  named_same asked (Some f) text r s h k =
      if_same (is_given f asked) (λ x. x ≡ Err (BadParameter (parameter_of f))) (ReadsValue f text) r s (λ a b. a ∙ sym b) (λ a b. reads_value_same f text r s a b) h k

  pairs_same : (forms : List Form) (asked : Asked) (pairs : List (List ℕ × List ℕ)) (r s : Result Asked WebRefusal) → ReadsPairs forms asked pairs r → ReadsPairs forms asked pairs s → r ≡ s
  pairs_same forms asked [] r s h k = h ∙ sym k
  pairs_same forms asked (pair ∷ pairs) r s h k = by h.0 k.0 (named_same asked (named forms pair.0) pair.1 h.0 k.0 h.1 k.1) (λ value a b. pairs_same forms (with_value asked value) pairs r s a b) h.2 k.2
    where
      by : (one two : Result Value WebRefusal) → one ≡ two → ((value : Value) → ReadsPairs forms (with_value asked value) pairs r → ReadsPairs forms (with_value asked value) pairs s → r ≡ s)
          → MatchResult one (λ value. ReadsPairs forms (with_value asked value) pairs r) (λ why. r ≡ Err why) → MatchResult two (λ value. ReadsPairs forms (with_value asked value) pairs s) (λ why. s ≡ Err why) → r ≡ s
      by (Ok v) (Ok w) e next a b = let same : v ≡ w = cc in next v a (subst (λ x. ReadsPairs forms (with_value asked x) pairs s) (sym same) b)
      by (Ok v) (Err why) e next a b = absurd (cc)
      by (Err why) (Ok w) e next a b = absurd (cc)
      by (Err why) (Err other) e next a b = let same : why ≡ other = cc in a ∙ ap (λ x. Err x) same ∙ sym b

  after_same : (forms : List Form) (query : List ℕ) (Rest : Asked → Result Asking WebRefusal → Type 0) (r s : Result Asking WebRefusal) → ((asked : Asked) → Rest asked r → Rest asked s → r ≡ s)
      → AfterQuery forms query Rest r → AfterQuery forms query Rest s → r ≡ s
  after_same forms query Rest r s one h k = by h.0 k.0 (pairs_same forms _ _ h.0 k.0 h.1 k.1) h.2 k.2
    where
      by : (read other : Result Asked WebRefusal) → read ≡ other → MatchResult read (λ asked. Rest asked r) (λ why. r ≡ Err why) → MatchResult other (λ asked. Rest asked s) (λ why. s ≡ Err why) → r ≡ s
      by (Ok v) (Ok w) e a b = let same : v ≡ w = cc in one v a (subst (λ x. Rest x s) (sym same) b)
      by (Ok v) (Err why) e a b = absurd (cc)
      by (Err why) (Ok w) e a b = absurd (cc)
      by (Err why) (Err other) e a b = let same : why ≡ other = cc in a ∙ ap (λ x. Err x) same ∙ sym b

  group_same : (query : List ℕ) (group : Option ℕ) (r s : Result Asking WebRefusal) → ReadsGroup query group r → ReadsGroup query group s → r ≡ s
  group_same query None r s h k = h ∙ sym k
  group_same query (Some g) r s h k = after_same rows_forms query (λ asked answer. answer ≡ Ok (Ask (rows_of g asked))) r s (λ asked a b. a ∙ sym b) h k

  rows_same : (path query : List ℕ) (r s : Result Asking WebRefusal) → ReadsRows path query r → ReadsRows path query s → r ≡ s
  rows_same path query r s h k =
      let part = part_same path h.0 k.0 h.1 k.1 in
      let group = id_same h.0 h.2.0 k.2.0 h.2.1 (subst (λ p. ReadsId p k.2.0) (sym part) k.2.1) in
      group_same query h.2.0 r s h.2.2 (subst (λ g. ReadsGroup query g s) (sym group) k.2.2)

  served_same : (x : Route) (path query body : List ℕ) (r s : Result Asking WebRefusal) → ReadsServed x path query body r → ReadsServed x path query body s → r ≡ s
  served_same route.Rows path query body r s h k = rows_same path query r s h k
  served_same route.Journal path query body r s h k = after_same journal_forms query (λ asked answer. answer ≡ Ok (Ask (Journal (unwrap_or asked.above 0)))) r s (λ asked a b. a ∙ sym b) h k
  served_same route.Revision path query body r s h k = after_same [] query (λ asked answer. answer ≡ Ok (Ask Revision)) r s (λ asked a b. a ∙ sym b) h k
  served_same route.Changes path query body r s h k = after_same [] query (λ asked. ReadsChange body) r s (λ asked a b. change_same body r s a b) h k
  served_same route.Board path query body r s h k = h ∙ sym k
  served_same route.Sheet path query body r s h k = h ∙ sym k

  by_same : (allow : Option Allow) (x : Route) (q : Request) (r s : Result Asking WebRefusal) → ReadsBy allow x q r → ReadsBy allow x q s → r ≡ s
  by_same None x q r s h k = h ∙ sym k
  by_same (Some allow) x q r s h k =
      if_same (serves allow q.method) (ReadsServed x (path_of q.target) (query_of q.target) q.body) (λ y. y ≡ Err (WrongMethod allow)) r s (λ a b. served_same x (path_of q.target) (query_of q.target) q.body r s a b) (λ a b. a ∙ sym b) h k

  there_same : (q : Request) (found : Option Route) (r s : Result Asking WebRefusal) → MatchOption found (r ≡ Err NoRoute) (λ x. ReadsAt x q r) → MatchOption found (s ≡ Err NoRoute) (λ x. ReadsAt x q s) → r ≡ s
  there_same q None r s h k = h ∙ sym k
  there_same q (Some x) r s h k = by_same (method_of x) x q r s h k

  as_same : (q : Request) (r s : Result Asking WebRefusal) → ReadsAs q r → ReadsAs q s → r ≡ s
  as_same q r s h k =
      let same = route_same (path_of q.target) h.route k.route h.has_route k.has_route in
      there_same q h.route r s h.there (subst (λ (x : Option Route). MatchOption x (s ≡ Err NoRoute) (λ y. ReadsAt y q s)) (sym same) k.there)

  pub reads_same : (request : Request) (r s : Routed) → Reads request r → Reads request s → r ≡ s
  reads_same q (Command c) (Command d) h k = let e = as_same q (Ok c) (Ok d) h k in cc
  reads_same q (Command c) (Refused why) h k = let e = as_same q (Ok c) (Err why) h k in absurd (cc)
  reads_same q (Refused why) (Command d) h k = let e = as_same q (Err why) (Ok d) h k in absurd (cc)
  reads_same q (Refused why) (Refused other) h k = let e = as_same q (Err why) (Err other) h k in cc

-- ---- what is asked for is listed

-- two answers are the same
abbrev Told : Result Asking WebRefusal → Result Asking WebRefusal → Type 0
Told r s = r ≡ s

ask_is_requested : (q : Query) (c : Asking) → Told (Ok c) (Ok (Ask q)) → IsRequested c
ask_is_requested q c e = let same : c ≡ Ask q = cc in subst IsRequested (sym same) tt

listed_is_requested : (c : Asking) → IsAsked c → IsRequested c
listed_is_requested (Change call act) is = is
listed_is_requested (Ask query) is = tt

-- what data that bytes hold is read as
read_of : {X : Type 0} (r : Result X BodyError) (next : X → Result Asking BodyError) (c : Asking) → (r >>= next) ≡ Ok c → (x : X) × (next x ≡ Ok c)
read_of (Ok x) next c e = (x, e)
read_of (Err why) next c e = absurd (cc)

not_refused : (c : Asking) (why : WebRefusal) → ¬ (Told (Ok c) (Err why))
not_refused c why e = cc

if_asked : (b : Bool) (P : Type 0) (c : Asking) (why : WebRefusal) → IfSo b P (Told (Ok c) (Err why)) → P
if_asked true P c why h = h
if_asked false P c why h = absurd (not_refused c why h)

after_asks : (forms : List Form) (query : List ℕ) (Rest : Asked → Result Asking WebRefusal → Type 0) (c : Asking) → ((asked : Asked) → Rest asked (Ok c) → IsRequested c) → AfterQuery forms query Rest (Ok c) → IsRequested c
after_asks forms query Rest c one h = by h.0 h.2
  where
    by : (read : Result Asked WebRefusal) → MatchResult read (λ asked. Rest asked (Ok c)) (λ why. Told (Ok c) (Err why)) → IsRequested c
    by (Ok asked) a = one asked a
    by (Err why) a = absurd (not_refused c why a)

group_asks : (query : List ℕ) (group : Option ℕ) (c : Asking) → ReadsGroup query group (Ok c) → IsRequested c
group_asks query None c h = absurd (not_refused c (BadParameter Id) h)
group_asks query (Some g) c h = after_asks rows_forms query (λ asked answer. answer ≡ Ok (Ask (rows_of g asked))) c (λ asked e. ask_is_requested (rows_of g asked) c e) h

module _ (law : (d : Data) (c : Asking) → change_in d ≡ Ok c → IsAsked c) where
  body_asks : (body : List ℕ) (c : Asking) → ReadsChange body (Ok c) → IsRequested c
  body_asks body c h = let read = read_of (parsed body) change_in c h in listed_is_requested c (law read.0 c read.1)

  served_asks : (x : Route) (path query body : List ℕ) (c : Asking) → ReadsServed x path query body (Ok c) → IsRequested c
  served_asks route.Rows path query body c h = group_asks query h.2.0 c h.2.2
  served_asks route.Journal path query body c h =
      after_asks journal_forms query (λ asked answer. answer ≡ Ok (Ask (Journal (unwrap_or asked.above 0)))) c (λ asked e. ask_is_requested (Journal (unwrap_or asked.above 0)) c e) h
  served_asks route.Revision path query body c h = after_asks [] query (λ asked answer. answer ≡ Ok (Ask Revision)) c (λ asked e. ask_is_requested Revision c e) h
  served_asks route.Changes path query body c h = after_asks [] query (λ asked. ReadsChange body) c (λ asked e. body_asks body c e) h
  served_asks route.Board path query body c h = absurd (not_refused c NotBuilt h)
  served_asks route.Sheet path query body c h = absurd (not_refused c NotBuilt h)

  by_asks : (allow : Option Allow) (x : Route) (q : Request) (c : Asking) → ReadsBy allow x q (Ok c) → IsRequested c
  by_asks None x q c h = absurd (not_refused c NotBuilt h)
  by_asks (Some allow) x q c h =
      served_asks x (path_of q.target) (query_of q.target) q.body c (if_asked (serves allow q.method) (ReadsServed x (path_of q.target) (query_of q.target) q.body (Ok c)) c (WrongMethod allow) h)

  there_asks : (q : Request) (found : Option Route) (c : Asking) → MatchOption found (Told (Ok c) (Err NoRoute)) (λ x. ReadsAt x q (Ok c)) → IsRequested c
  there_asks q None c h = absurd (not_refused c NoRoute h)
  there_asks q (Some x) c h = by_asks (method_of x) x q c h

  pub asks_listed : (q : Request) (c : Asking) → Reads q (Command c) → IsRequested c
  asks_listed q c h = there_asks q h.route c h.there
