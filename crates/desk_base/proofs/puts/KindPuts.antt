-- Resources keep their kinds where a row is put.
use Rattle.std.proofs.Common.{◌≡◌, ℕ, Bool, true, false, cond, ◌==◌, List, [], ◌∷◌, Option, Some, None, inl, inr, refl, sym, ap, ◌∙◌, if◌then◌else◌, is_none}
use Rattle.std.proofs.lemmas.Bool.{false≢true, eqb-true, eq-eqb}
use Rattle.std.specs.Prelude.{find}
use Rattle.std.specs.Option.{option_map_or}
use Rattle.desk_base.specs.rows.Types.{Tables, Key, AnyRow, ResourceRow, Kind}
use Rattle.desk_base.specs.declared.rows.resources.Kind.TheVariants.{Generic}
use Rattle.desk_base.specs.declared.rows.tables.Table.TheVariants.{Resource as ResourceTable}
use Rattle.desk_base.specs.declared.rows.tables.AnyRow.TheVariants.{Resource}
use Rattle.desk_base.specs.rules.Rules.{first_broken}
use Rattle.desk_base.specs.rows.Keys.{id_key}
use Rattle.desk_base.specs.rows.Rows.{rows_in, key_of, keys_in}
use Rattle.desk_base.specs.meaning.Capacity.{resource_of}
use Rattle.desk_base.specs.meaning.Eligible.{kind_number}
use Rattle.desk_base.specs.meaning.Load.{LoadSort, plain, crew, pool, unknown, sort_of, sort_of_kind}
use Rattle.desk_base.specs.rules.Fields.{keeps_kind, resource_rules, are_of_one_kind}
use Rattle.desk_base.specs.changes.Changes.{with_row}
use Rattle.desk_base.specs.rules.Sound.{IsSound, keeps_fields}
use Rattle.desk_base.proofs.lists.Members.{IsIn, in-map, in_mapped}
use Rattle.desk_base.proofs.lists.Tests.{and_left, find_cases}
use Rattle.desk_base.proofs.meaning.Shapes.{rules_kept, none_from}
use Rattle.desk_base.proofs.tables.AnyRows.{same_resource}
use Rattle.desk_base.proofs.puts.Suits.{Suits, put_keeps}
use Rattle.desk_base.proofs.tables.RowPuts.{in_put, key_stays}

-- ---- kinds and sorts

abbrev sort_by_number : ℕ → LoadSort
sort_by_number n = if n == 6 then crew else if n == 7 then pool else plain

sort-number : (k : Kind) → sort_by_number (kind_number k) ≡ sort_of_kind k
sort-number Generic = refl
sort-number _ = refl

-- kinds of one number are of one sort
pub same_sort : (k l : Kind) → kind_number k ≡ kind_number l → sort_of_kind k ≡ sort_of_kind l
same_sort k l e = sym (sort-number k) ∙ ap sort_by_number e ∙ sort-number l

-- ---- resources by their ids

pub none_found : {A : Type 0} (p : A → Bool) (xs : List A) (x : A) → find p xs ≡ None → IsIn x xs → p x ≡ true → ⊥
none_found p [] x e i h = i
none_found {A} p (y ∷ ys) x e i h = step (p y) refl e i (λ f j. none_found p ys x f j h)
  where
    step : (b : Bool) → p y ≡ b → cond b (Some y) (find p ys) ≡ None → IsIn x (y ∷ ys) → (find p ys ≡ None → IsIn x ys → ⊥) → ⊥
    step true k f j more = false≢true (ap is_none f)
    step false k f (inl q) more = false≢true (sym k ∙ sym (ap p q) ∙ h)
    step false k f (inr j) more = more f j

-- a resource that is there is found
pub resource_found : (t : Tables) (a : ℕ) → IsIn (id_key ResourceTable a) (keys_in t ResourceTable) → (z : ResourceRow) × IsIn z t.resources × (z.id ≡ a) × (resource_of t a ≡ Some z)
resource_found t a i =
    let h = in-map key_of (id_key ResourceTable a) (rows_in t ResourceTable) i in
    let g = in-map Resource h.0 t.resources h.1 in
    let same : g.0.id ≡ a = sym (ap (λ (k : Key). k.a) (h.2 ∙ ap key_of g.2)) in
    elim (find_cases (λ (z : ResourceRow). z.id == a) t.resources) [
      | inl n ↦ absurd (none_found (λ (z : ResourceRow). z.id == a) t.resources g.0 n g.1 (ap (λ n. n == a) same ∙ eq-eqb a a refl))
      | inr r ↦ (r.0, r.1, eqb-true r.0.id a r.2, r.3)
    ]

-- ---- kinds with a row that is put

kind_kept : (t : Tables) (x : ResourceRow) → keeps_fields t (Resource x) ≡ true → keeps_kind t x ≡ true
kind_kept t x e =
    let r = rules_kept (resource_rules t x) (none_from (first_broken (resource_rules t x)) (and_left (is_none (first_broken (resource_rules t x))) true e)) in r.1.0

found_kind : (t : Tables) (x z : ResourceRow) → keeps_kind t x ≡ true → resource_of t x.id ≡ Some z → kind_number z.kind ≡ kind_number x.kind
found_kind t x z e f = eqb-true (kind_number z.kind) (kind_number x.kind) (sym (ap (λ o. option_map_or (λ (y : ResourceRow). kind_number y.kind == kind_number x.kind) o true) f) ∙ e)

module _ (t : Tables) (row : AnyRow) (s : IsSound t) (fit : Suits t row) where
  kind_before : (x : ResourceRow) → IsIn x (with_row t row).resources → keeps_kind t x ≡ true
  kind_before x i = kind_kept t x (put_keeps t row s fit ResourceTable (Resource x) (in_mapped Resource x (with_row t row).resources i))

  -- what had no resource of its id is the row that is put
  is_new : (x : ResourceRow) (a : ℕ) → IsIn x (with_row t row).resources → x.id ≡ a → resource_of t a ≡ None → Resource x ≡ row
  is_new x a i e n = elim (in_put t row ResourceTable (Resource x) (in_mapped Resource x (with_row t row).resources i)) [
    | inl f ↦ f
    | inr j ↦
        let h = in-map Resource (Resource x) t.resources j in
        absurd (none_found (λ (z : ResourceRow). z.id == a) t.resources h.0 n h.1 (ap (λ n. n == a) (sym (ap (λ (z : ResourceRow). z.id) (same_resource x h.0 h.2)) ∙ e) ∙ eq-eqb a a refl))
  ]

  -- rows of one id are of one kind
  one_kind : (x y : ResourceRow) → IsIn x (with_row t row).resources → IsIn y (with_row t row).resources → x.id ≡ y.id → kind_number x.kind ≡ kind_number y.kind
  one_kind x y i j e = elim (find_cases (λ (z : ResourceRow). z.id == y.id) t.resources) [
    | inl n ↦ ap (λ (z : ResourceRow). kind_number z.kind) (same_resource x y (is_new x y.id i e n ∙ sym (is_new y y.id j refl n)))
    | inr r ↦ sym (found_kind t x r.0 (kind_before x i) (ap (resource_of t) e ∙ r.3)) ∙ found_kind t y r.0 (kind_before y j) r.3
  ]

  -- each keeps the kind that stands under its id
  pub kinds_put : (y : ResourceRow) → IsIn y (with_row t row).resources → keeps_kind (with_row t row) y ≡ true
  kinds_put y j = elim (find_cases (λ (z : ResourceRow). z.id == y.id) (with_row t row).resources) [
    | inl n ↦ ap (λ o. option_map_or (λ (x : ResourceRow). kind_number x.kind == kind_number y.kind) o true) n
    | inr r ↦
        ap (λ o. option_map_or (λ (x : ResourceRow). kind_number x.kind == kind_number y.kind) o true) r.3
        ∙ ap (λ n. n == kind_number y.kind) (one_kind r.0 y r.1 j (eqb-true r.0.id y.id r.2)) ∙ eq-eqb (kind_number y.kind) (kind_number y.kind) refl
  ]

  resource_kept : (a : ℕ) → IsIn (id_key ResourceTable a) (keys_in t ResourceTable) → (z u : ResourceRow) × (resource_of t a ≡ Some z) × (resource_of (with_row t row) a ≡ Some u) × (kind_number u.kind ≡ kind_number z.kind)
  resource_kept a i =
      let h = resource_found t a i in
      let g = resource_found (with_row t row) a (key_stays t row ResourceTable (id_key ResourceTable a) i) in
      (h.0, g.0, h.3, g.3, sym (found_kind t g.0 h.0 (kind_before g.0 g.1) (ap (resource_of t) g.2 ∙ h.3)))

  -- a resource that was there is of the same sort
  pub sort_put : (a : ℕ) → IsIn (id_key ResourceTable a) (keys_in t ResourceTable) → sort_of (with_row t row) a ≡ sort_of t a
  sort_put a i =
      let h = resource_kept a i in
      ap (λ o. option_map_or (λ (x : ResourceRow). sort_of_kind x.kind) o unknown) h.3 ∙ same_sort h.1.kind h.0.kind h.4
      ∙ sym (ap (λ o. option_map_or (λ (x : ResourceRow). sort_of_kind x.kind) o unknown) h.2)

  -- two that were there are of one kind where they were
  pub one_kind_put : (a b : ℕ) → IsIn (id_key ResourceTable a) (keys_in t ResourceTable) → IsIn (id_key ResourceTable b) (keys_in t ResourceTable) → are_of_one_kind (with_row t row) a b ≡ are_of_one_kind t a b
  one_kind_put a b i j =
      let h = resource_kept a i in
      let g = resource_kept b j in
      kinds_of h.3 g.3 ∙ (λ k. h.4 k == g.4 k) ∙ sym (kinds_of h.2 g.2)
    where
      kinds_of : {p q : Option ResourceRow} {x y : ResourceRow} → p ≡ Some x → q ≡ Some y
          → option_map_or (λ (x : ResourceRow). option_map_or (λ (y : ResourceRow). kind_number x.kind == kind_number y.kind) q false) p false ≡ (kind_number x.kind == kind_number y.kind)
      kinds_of e f = λ k. option_map_or (λ (x : ResourceRow). option_map_or (λ (y : ResourceRow). kind_number x.kind == kind_number y.kind) (f k) false) (e k) false
