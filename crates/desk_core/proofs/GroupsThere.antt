-- A group is found by its number exactly where a row stands under its key.
use Rattle.std.proofs.Common.{◌≡◌, ℕ, Bool, true, false, cond, ◌&&◌, ◌||◌, not, ◌==◌, List, [], ◌∷◌, ◌≤◌, map, Option, Some, None, inl, inr, if◌then◌else◌, refl, sym, ap, ◌∙◌, subst, arith}
use Rattle.std.proofs.lemmas.Bool.Decides.{nat_tests}
use Rattle.std.proofs.lemmas.Option.{none-some}
use Rattle.std.specs.Prelude.{find, nat_lt, nat_le, MatchOption, is_some, option_map, Contains}
use Rattle.std.specs.List.{list_any}
use Rattle.std.specs.Option.{option_or}
use Rattle.std.specs.Ordering.{is_eq, ordering_then}
use Rattle.std.specs.declared.cmp.Ordering.TheVariants.{Less, Equal, Greater}
use Rattle.desk_base.specs.declared.rows.tables.Tables.{Tables}
use Rattle.desk_base.specs.declared.rows.tables.Table.TheVariants.{Group as GroupTable}
use Rattle.desk_base.specs.declared.rows.tables.AnyRow.TheVariants.{Group}
use Rattle.desk_base.specs.declared.rows.groups.GroupRow.{GroupRow}
use Rattle.desk_base.specs.declared.rows.tables.Key.{Key}
use Rattle.desk_base.specs.declared.search.results.Cursor.{Cursor}
use Rattle.desk_base.specs.declared.search.results.Options.{Options}
use Rattle.desk_base.specs.declared.asked.acts.Entry.{Entry}
use Rattle.desk_base.specs.declared.asked.answers.Query.TheVariants.{Rows as RowsOf}
use Rattle.desk_base.specs.declared.asked.answers.Outcome.{Outcome}
use Rattle.desk_base.specs.declared.asked.answers.Outcome.TheVariants.{Done, Repeated, Refused, NoMemory}
use Rattle.desk_base.specs.declared.asked.answers.Reply.TheVariants.{Rows}
use Rattle.desk_base.specs.declared.asked.answers.Reply.TheVariants as reply
use Rattle.desk_base.specs.declared.asked.refusals.Refusal.{Refusal}
use Rattle.desk_base.specs.declared.asked.refusals.Refusal.TheVariants.{UnknownId, BadField}
use Rattle.desk_base.specs.declared.asked.rules.Field.TheVariants.{Limit, Per}
use Rattle.desk_base.specs.rows.Keys.{id_key}
use Rattle.desk_base.specs.rows.Rows.{key_of}
use Rattle.desk_base.specs.asked.Groups.{group_of}
use Rattle.desk_base.specs.asked.Refusing.{is_key, is_there, unknown_among}
use Rattle.desk_base.specs.rules.Limits.{page_limit}
use Rattle.desk_base.specs.rules.Fields.{is_within_range}
use Rattle.desk_base.specs.search.Page.{IsAskable}
use Rattle.desk_base.specs.asked.Steps.{point_of, refused_limit, refused_per, refused_cursor, refused_page}
use Rattle.desk_base.proofs.lists.Members.{IsIn, contains_from_in}
use Rattle.desk_base.proofs.lists.Tests.{find_cases, and_left, and_right}
use Rattle.desk_core.specs.Answering.{refused_known, IsPageOrNone, IsAnswerOrNone}

-- whether an order is that of equal numbers
eq_then : (a b : Bool) → is_eq (ordering_then (if a then Less else if b then Equal else Greater) Equal) ≡ not a && b
eq_then true b = refl
eq_then false true = refl
eq_then false false = refl

not_below : (m n : ℕ) → (not (nat_lt m n) && (m == n)) ≡ (n == m)
not_below m n = grind (arith, nat_tests)

-- keys of groups are one where their numbers are
group_key : (m n : ℕ) → is_key (id_key GroupTable m) (id_key GroupTable n) ≡ (n == m)
group_key m n = eq_then (nat_lt m n) (m == n) ∙ not_below m n

-- whether some element passes is whether one is found
found_step : {A : Type 0} (b : Bool) (x : A) (rest : Bool) (o : Option A) → rest ≡ is_some o → (b || rest) ≡ is_some (cond b (Some x) o)
found_step true x rest o e = refl
found_step false x rest o e = e

some_found : {A : Type 0} (p : A → Bool) (xs : List A) → list_any p xs ≡ is_some (find p xs)
some_found p [] = refl
some_found p (x ∷ xs) = found_step (p x) x (list_any p xs) (find p xs) (some_found p xs)

same_any : (id : ℕ) (gs : List GroupRow) → list_any (is_key (id_key GroupTable id)) (map key_of (map Group gs)) ≡ list_any (λ (x : GroupRow). x.id == id) gs
same_any id [] = refl
same_any id (x ∷ gs) = ap (λ u. u || list_any (is_key (id_key GroupTable id)) (map key_of (map Group gs))) (group_key id x.id) ∙ ap (λ u. (x.id == id) || u) (same_any id gs)

-- a row stands under a group's key exactly where the group is found
pub group-there : (t : Tables) (id : ℕ) → is_there t (id_key GroupTable id) ≡ is_some (group_of t id)
group-there t id = same_any id t.groups ∙ some_found (λ (x : GroupRow). x.id == id) t.groups

first_unknown : (b : Bool) (k : Key) → option_map UnknownId (cond (not b) (Some k) None) ≡ (if b then None else Some (UnknownId k))
first_unknown true k = refl
first_unknown false k = refl

unknown_step : (t : Tables) (id : ℕ) → unknown_among t (id_key GroupTable id ∷ []) ≡ (if is_some (group_of t id) then None else Some (UnknownId (id_key GroupTable id)))
unknown_step t id = first_unknown (is_there t (id_key GroupTable id)) (id_key GroupTable id) ∙ ap (λ b. if b then None else Some (UnknownId (id_key GroupTable id))) (group-there t id)

or-assoc : {A : Type 0} (a b c : Option A) → option_or a (option_or b c) ≡ option_or (option_or a b) c
or-assoc None b c = refl
or-assoc (Some x) b c = refl

abbrev later : Tables → Options → Option Cursor → Bool → ℕ → Option Refusal
later t o after latest limit = option_or (refused_limit limit) (option_or (refused_per o.per) (refused_cursor t.revision after latest))

-- the refusal of a page of a group that is there, and of one that is not
pub known_page : (t : Tables) (id : ℕ) (g : GroupRow) (o : Options) (after : Option Cursor) (latest : Bool) (limit : ℕ) → Some g ≡ group_of t id
    → refused_page t id o after latest limit ≡ refused_known t o after latest limit
known_page t id g o after latest limit e =
    ap (λ u. option_or u (later t o after latest limit)) (unknown_step t id ∙ ap (λ (o : Option GroupRow). if is_some o then None else Some (UnknownId (id_key GroupTable id))) (sym e))
    ∙ or-assoc (refused_limit limit) (refused_per o.per) (refused_cursor t.revision after latest)

pub unknown_page : (t : Tables) (id : ℕ) (o : Options) (after : Option Cursor) (latest : Bool) (limit : ℕ) → None ≡ group_of t id
    → refused_page t id o after latest limit ≡ Some (UnknownId (id_key GroupTable id))
unknown_page t id o after latest limit e =
    ap (λ u. option_or u (later t o after latest limit)) (unknown_step t id ∙ ap (λ (o : Option GroupRow). if is_some o then None else Some (UnknownId (id_key GroupTable id))) (sym e))

-- a group that is found is there
pub found_group : (t : Tables) (id : ℕ) (g : GroupRow) → Some g ≡ group_of t id → Contains t.groups g
found_group t id g e =
    elim (find_cases (λ (x : GroupRow). x.id == id) t.groups) [
      | inl n ↦ let f : Some g ≡ None = e ∙ n in absurd (cc)
      | inr (y, i, p, f) ↦ let h : Some y ≡ Some g = sym f ∙ sym e in let k : y ≡ g = cc in contains_from_in t.groups g (subst (λ z. IsIn z t.groups) k i)
    ]

-- what a page of a group comes to is the answer
pub page_answers : (t : Tables) (journal : List Entry) (id : ℕ) (g : GroupRow) (o : Options) (after : Option Cursor) (latest : Bool) (limit : ℕ) (out : Outcome) → Some g ≡ group_of t id
    → refused_known t o after latest limit ≡ None → IsPageOrNone t g o (point_of after) limit out → IsAnswerOrNone t journal (RowsOf id o after latest limit) out
page_answers t journal id g o after latest limit (Done (Rows page)) e r h = inl (known_page t id g o after latest limit e ∙ r, (g, sym e, h))
page_answers t journal id g o after latest limit (Done (reply.Change receipt)) e r h = absurd h
page_answers t journal id g o after latest limit (Done (reply.Journal summaries)) e r h = absurd h
page_answers t journal id g o after latest limit (Done reply.Revision) e r h = absurd h
page_answers t journal id g o after latest limit (Repeated receipt) e r h = absurd h
page_answers t journal id g o after latest limit (Refused why) e r h = absurd h
page_answers t journal id g o after latest limit NoMemory e r h = inr refl

-- a page that is not refused may be asked for
first_passes : {A : Type 0} (o p : Option A) → option_or o p ≡ None → (o ≡ None) × (p ≡ None)
first_passes None p e = (refl, e)
first_passes (Some x) p e = absurd (none-some x (sym e))

within_step : (n : ℕ) (b : Bool) (why : Refusal) → is_within_range 1 page_limit n ≡ b → cond b None (Some why) ≡ None → (1 ≤ n) × (n ≤ page_limit)
within_step n true why e f = let low = and_left (nat_le 1 n) (nat_le n page_limit) e in let high = and_right (nat_le 1 n) (nat_le n page_limit) e in (grind (arith, nat_tests), grind (arith, nat_tests))
within_step n false why e f = absurd (none-some why (sym f))

per_within : (per : Option ℕ) → refused_per per ≡ None → MatchOption per (Unit {0}) (λ n. (1 ≤ n) × (n ≤ page_limit))
per_within None e = tt
per_within (Some n) e = within_step n (is_within_range 1 page_limit n) (BadField Per) refl e

pub askable : (t : Tables) (o : Options) (after : Option Cursor) (latest : Bool) (limit : ℕ) → refused_known t o after latest limit ≡ None → IsAskable o limit
askable t o after latest limit e =
    let counts = first_passes (refused_limit limit) (refused_per o.per) (first_passes (option_or (refused_limit limit) (refused_per o.per)) (refused_cursor t.revision after latest) e).0 in
    record { rows = within_step limit (is_within_range 1 page_limit limit) (BadField Limit) refl counts.0; of_start = per_within o.per counts.1 }
