-- How the readings of a request's parts make the reading of the whole.
use Rattle.std.proofs.Common.{◌≡◌, ℕ, Bool, true, false, List, ◌∷◌, map, ap, ◌∙◌, Option, Some, Result, Ok, Err, refl, sym, subst}
use Rattle.desk_base.specs.declared.asked.answers.Command.{Command as Asking}
use Rattle.desk_wire.specs.declared.rules.Request.{Request}
use Rattle.desk_wire.specs.declared.responses.Allow.{Allow}
use Rattle.desk_json.specs.Decimals.{ReadsId}
use Rattle.desk_route.specs.declared.refusals.WebRefusal.{WebRefusal}
use Rattle.desk_route.specs.declared.refusals.WebRefusal.TheVariants.{WrongMethod, BadParameter}
use Rattle.desk_route.specs.declared.refusals.Fault.{Fault}
use Rattle.desk_route.specs.declared.refusals.Fault.TheVariants as fault
use Rattle.desk_route.specs.declared.routes.Route.{Route}
use Rattle.desk_route.specs.declared.parameters.Form.{Form}
use Rattle.desk_route.specs.declared.parameters.Asked.{Asked}
use Rattle.desk_route.specs.Routes.{path_of, query_of, rows_path, HasRoute}
use Rattle.desk_route.specs.declared.parameters.Value.{Value}
use Rattle.std.specs.Prelude.{String, string_bytes, IfOk}
use Rattle.std.specs.declared.alloc.AllocError.{AllocError}
use Rattle.form_urlencoded.specs.Form.{DecodesTo}
use Rattle.form_urlencoded.specs.Parse.{owned_pairs_left, YieldsOwned}
use Rattle.form_urlencoded.specs.declared.reading.ParseIntoOwned.{ParseIntoOwned}
use Rattle.desk_route.specs.Parameters.{parameter_of, is_given, with_value}
use Rattle.desk_route.specs.Queries.{IfSo, OrNoMemory, text_of, text_pair, ReadsValue, ReadsNew, ReadsPair, ReadsPairs, ReadsQuery}
use Rattle.desk_route.specs.Requesting.{serves, method_of, AfterQuery, ReadsGroup, ReadsRows, ReadsServed, ReadsBy, ReadsAt, ReadsAs}

-- what is read of one thing is read of another where each answer of the one is one of the other
pub carried : {X : Type 0} (P : Result X WebRefusal → Type 0) (Q : Result X WebRefusal → Type 0) → ((r : Result X WebRefusal) → P r → Q r) → (r : Result X Fault) → OrNoMemory P r → OrNoMemory Q r
carried P Q go (Ok x) h = go (Ok x) h
carried P Q go (Err (fault.Refused why)) h = go (Err why) h
carried P Q go (Err fault.NoMemory) h = tt

-- two answers are the same
abbrev Told : Result Asking WebRefusal → Result Asking WebRefusal → Type 0
Told r s = r ≡ s

-- one or the other
so : (b : Bool) (P Q : Type 0) → b ≡ true → P → IfSo b P Q
so true P Q e h = h
so false P Q e h = absurd (cc)

so_not : (b : Bool) (P Q : Type 0) → b ≡ false → Q → IfSo b P Q
so_not true P Q e h = absurd (cc)
so_not false P Q e h = h

-- ---- the value of a parameter

pub given_before : (asked : Asked) (form : Form) (text : List ℕ) → is_given form asked ≡ true → ReadsNew asked form text (Err (BadParameter (parameter_of form)))
given_before asked form text given = so (is_given form asked) _ _ given refl

pub not_given : (asked : Asked) (form : Form) (text : List ℕ) (r : Result Value Fault) → is_given form asked ≡ false → OrNoMemory (ReadsValue form text) r → OrNoMemory (ReadsNew asked form text) r
not_given asked form text r given h = carried (ReadsValue form text) (ReadsNew asked form text) (λ x read. so_not (is_given form asked) _ _ given read) r h

-- ---- the pairs of a query

-- the first of the pairs that are left, as text
pub left_is : (before after : List (List ℕ × List ℕ)) (name value n t : List ℕ) → before ≡ (name, value) ∷ after → DecodesTo name n → DecodesTo value t → map text_pair before ≡ (n, t) ∷ map text_pair after
left_is before after name value n t e d v =
    ap (map text_pair) e ∙ ap (λ x. (x, text_of value) ∷ map text_pair after) (sym d.2) ∙ ap (λ y. (n, y) ∷ map text_pair after) (sym v.2)

-- the pair that the iterator yields, as text
pub yielded : {A : Type 0} (before after : ParseIntoOwned A) (item : Result (String A × String A) AllocError) (name value : String A) (n t : List ℕ) → YieldsOwned before (Some item) after → item ≡ Ok (name, value)
    → n ≡ string_bytes name → t ≡ string_bytes value → map text_pair (owned_pairs_left before) ≡ (n, t) ∷ map text_pair (owned_pairs_left after)
yielded before after item name value n t h e f g =
    let d = subst (λ i. IfOk i (λ pair. DecodesTo h.0 (string_bytes pair.0) × DecodesTo h.1 (string_bytes pair.1))) e h.3 in
    left_is (owned_pairs_left before) (owned_pairs_left after) h.0 h.1 n t h.2 (subst (DecodesTo h.0) (sym f) d.0) (subst (DecodesTo h.1) (sym g) d.1)

-- a pair more
pub pair_more : (forms : List Form) (asked more : Asked) (left rest : List (List ℕ × List ℕ)) (pair : List ℕ × List ℕ) (value : Value) (r : Result Asked WebRefusal) → left ≡ pair ∷ rest
    → ReadsPair forms asked pair (Ok value) → more ≡ with_value asked value → ReadsPairs forms more rest r → ReadsPairs forms asked left r
pair_more forms asked more left rest pair value r e read is h =
    subst (λ l. ReadsPairs forms asked l r) (sym e) (Ok value, read, subst (λ a. ReadsPairs forms a rest r) is h)

-- a pair that breaks a rule
pub pair_bad : (forms : List Form) (asked : Asked) (query : List ℕ) (left rest : List (List ℕ × List ℕ)) (pair : List ℕ × List ℕ) (why : Fault) → left ≡ pair ∷ rest
    → OrNoMemory {X = Value} (ReadsPair forms asked pair) (Err why) → ((r : Result Asked WebRefusal) → ReadsPairs forms asked left r → ReadsQuery forms query r) → OrNoMemory {X = Asked} (ReadsQuery forms query) (Err why)
pair_bad forms asked query left rest pair (fault.Refused why) e h so_far = so_far (Err why) (subst (λ l. ReadsPairs forms asked l (Err why)) (sym e) (Err why, h, refl))
pair_bad forms asked query left rest pair fault.NoMemory e h so_far = tt

-- ---- what follows the query

pub after_query : (forms : List Form) (query : List ℕ) (Rest : Asked → Result Asking WebRefusal → Type 0) (asked : Asked) (r : Result Asking Fault) → ReadsQuery forms query (Ok asked) → OrNoMemory (Rest asked) r
    → OrNoMemory (AfterQuery forms query Rest) r
after_query forms query Rest asked r read rest = carried (Rest asked) (AfterQuery forms query Rest) (λ x h. (Ok asked, read, h)) r rest

pub at_query : (forms : List Form) (query : List ℕ) (Rest : Asked → Result Asking WebRefusal → Type 0) (why : Fault) → OrNoMemory {X = Asked} (ReadsQuery forms query) (Err why) → OrNoMemory {X = Asking} (AfterQuery forms query Rest) (Err why)
at_query forms query Rest (fault.Refused why) h = (Err why, h, refl)
at_query forms query Rest fault.NoMemory h = tt

-- ---- the rows of a group

pub of_group : (path part query : List ℕ) (group : Option ℕ) (r : Result Asking Fault) → path ≡ rows_path part → ReadsId part group → OrNoMemory (ReadsGroup query group) r → OrNoMemory (ReadsRows path query) r
of_group path part query group r is reads rest = carried (ReadsGroup query group) (ReadsRows path query) (λ x h. (part, is, (group, reads, h))) r rest

-- ---- a route

pub served : (allow : Allow) (route : Route) (q : Request) (r : Result Asking Fault) → method_of route ≡ Some allow → serves allow q.method ≡ true
    → OrNoMemory (ReadsServed route (path_of q.target) (query_of q.target) q.body) r → OrNoMemory (ReadsAt route q) r
served allow route q r method serve rest =
    carried (ReadsServed route (path_of q.target) (query_of q.target) q.body) (ReadsAt route q)
    (λ x h. subst (λ m. ReadsBy m route q x) (sym method) (subst (λ b. IfSo b (ReadsServed route (path_of q.target) (query_of q.target) q.body x) (x ≡ Err (WrongMethod allow))) (sym serve) h)) r rest

pub routed : (q : Request) (route : Route) (r : Result Asking Fault) → HasRoute (path_of q.target) (Some route) → OrNoMemory (ReadsAt route q) r → OrNoMemory (ReadsAs q) r
routed q route r has rest = carried (ReadsAt route q) (ReadsAs q) (λ x h. record { route = Some route; has_route = has; there = h }) r rest

pub other_method : (allow : Allow) (route : Route) (q : Request) → method_of route ≡ Some allow → serves allow q.method ≡ false → ReadsAt route q (Err (WrongMethod allow))
other_method allow route q method serve =
    subst (λ m. ReadsBy m route q (Err (WrongMethod allow))) (sym method) (so_not (serves allow q.method) _ (Told (Err (WrongMethod allow)) (Err (WrongMethod allow))) serve refl)
