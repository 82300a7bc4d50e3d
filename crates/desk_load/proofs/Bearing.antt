-- Tables that differ in the row of one key: on resources on which that row does not bear, what fits still fits.
use Rattle.std.proofs.Common.{◌≡◌, ℕ, ◌+◌, ◌≤◌, Bool, true, false, cond, not, ◌&&◌, ◌||◌, ◌==◌, List, [], ◌∷◌, map, Option, Some, None, inl, inr, refl, sym, ap, ◌∙◌, subst, arith}
use Rattle.std.proofs.lemmas.Bool.{false≢true}
use Rattle.std.proofs.lemmas.Bool.Decides.{nat_tests}
use Rattle.std.proofs.lemmas.List.Sums.{sum_by-cons}
use Rattle.std.specs.Prelude.{filter, find, sum_by, option_map, option_and_then, IfSome, Contains}
use Rattle.std.specs.List.{list_any}
use Rattle.std.specs.Option.{option_map_or}
use Rattle.desk_base.specs.declared.rows.tables.Tables.{Tables}
use Rattle.desk_base.specs.declared.rows.tables.Key.{Key}
use Rattle.desk_base.specs.declared.rows.calendars.ZoneRow.{ZoneRow}
use Rattle.desk_base.specs.declared.rows.calendars.CalendarRow.{CalendarRow}
use Rattle.desk_base.specs.declared.rows.calendars.WorkRow.{WorkRow}
use Rattle.desk_base.specs.declared.rows.calendars.BreakRow.{BreakRow}
use Rattle.desk_base.specs.declared.rows.calendars.DayRow.{DayRow}
use Rattle.desk_base.specs.declared.rows.calendars.OffRow.{OffRow}
use Rattle.desk_base.specs.declared.rows.resources.ResourceRow.{ResourceRow}
use Rattle.desk_base.specs.declared.rows.resources.MemberRow.{MemberRow}
use Rattle.desk_base.specs.declared.rows.bookings.BookingRow.{BookingRow}
use Rattle.desk_base.specs.declared.search.results.Ask.{Ask}
use Rattle.desk_base.specs.declared.rows.tables.AnyRow.TheVariants.{Zone, Calendar, Work, Break, Day, Off, Resource, Member}
use Rattle.desk_base.specs.rows.Rows.{key_of}
use Rattle.desk_base.specs.asked.Refusing.{is_key}
use Rattle.desk_base.specs.meaning.Time.{IsMinute, covers, LocalTime, local_time, weekday_of}
use Rattle.desk_base.specs.meaning.Capacity.{resource_of, calendar_of, shifts_of, calendar_capacity, capacity}
use Rattle.desk_base.specs.meaning.Load.{LoadSort, plain, crew, pool, unknown, sort_of, sort_of_kind, is_crew, members, loads, effort_at, own_load, plain_load, load_by, load, weight, room_of_crew, room_by, room, ask_of, IsWithinRoom, Fits}
use Rattle.desk_base.proofs.lists.Members.{IsIn, in-map, in-filter, in_filtered, in_mapped, contains_from_in}
use Rattle.desk_base.proofs.lists.Filtered.{pass_both}
use Rattle.desk_base.proofs.lists.Tests.{and_left, and-false, list_any_from, list_any_at, find_cases, sum_by_same}
use Rattle.desk_base.proofs.tables.KeyOrder.{is_key-same}
use Rattle.desk_member.specs.Memberships.{of_member}
use Rattle.desk_member.specs.Spans.{rows_of_group}
use Rattle.desk_load.specs.Differing.{DiffersAt, has_calendar, zone_of, is_in_zone, touches, bears_by, bears_on, suspects_of}
use Rattle.desk_load.specs.Overs.{BearsStanding}
use Rattle.desk_load.proofs.Among.{bears_nothing}
use Rattle.desk_load.proofs.RoomLemmas.{unknown_weighs}
use Rattle.desk_load.proofs.Used.{joins, member_by_rows}

-- ---- tests

equal : (a b : ℕ) → (a == b) ≡ true → a ≡ b
equal a b e = grind (arith, nat_tests)

same : (a b : ℕ) → a ≡ b → (a == b) ≡ true
same a b e = grind (arith, nat_tests)

or_right : (a b : Bool) → b ≡ true → (a || b) ≡ true
or_right true b e = refl
or_right false b e = e

or_left : (a b : Bool) → a ≡ true → (a || b) ≡ true
or_left true b e = refl
or_left false b e = absurd (false≢true e)

not_left : (a b : Bool) → (a || b) ≡ false → a ≡ false
not_left true b e = e
not_left false b e = refl

not_right : (a b : Bool) → (a || b) ≡ false → b ≡ false
not_right true b e = absurd (false≢true (sym e))
not_right false b e = e

-- ---- lists that are the same but for rows that do not count

module _ {A : Type 0} (p q : A → Bool) (h : (x : A) → p x ≡ true → q x ≡ true) where
  any_passed : (xs : List A) → list_any p (filter q xs) ≡ list_any p xs
  any_passed [] = refl
  any_passed (x ∷ xs) = step (q x) (p x) refl refl (any_passed xs)
    where
      step : (b c : Bool) → q x ≡ b → p x ≡ c → list_any p (filter q xs) ≡ list_any p xs → list_any p (cond b (x ∷ filter q xs) (filter q xs)) ≡ (c || list_any p xs)
      step true c e f r = (λ i. f i || r i)
      step false true e f r = absurd (false≢true (sym e ∙ h x f))
      step false false e f r = r

  found_passed : (xs : List A) → find p (filter q xs) ≡ find p xs
  found_passed [] = refl
  found_passed (x ∷ xs) = step (q x) (p x) refl refl (found_passed xs)
    where
      step : (b c : Bool) → q x ≡ b → p x ≡ c → find p (filter q xs) ≡ find p xs → find p (cond b (x ∷ filter q xs) (filter q xs)) ≡ cond c (Some x) (find p xs)
      step true c e f r = (λ i. cond (f i) (Some x) (r i))
      step false true e f r = absurd (false≢true (sym e ∙ h x f))
      step false false e f r = r

  any_alike : (xs ys : List A) → filter q ys ≡ filter q xs → list_any p ys ≡ list_any p xs
  any_alike xs ys e = sym (any_passed ys) ∙ ap (list_any p) e ∙ any_passed xs

  pub found_alike : (xs ys : List A) → filter q ys ≡ filter q xs → find p ys ≡ find p xs
  found_alike xs ys e = sym (found_passed ys) ∙ ap (find p) e ∙ found_passed xs

  rows_alike : (xs ys : List A) → filter q ys ≡ filter q xs → filter p ys ≡ filter p xs
  rows_alike xs ys e = sym (pass_both p q h ys) ∙ ap (filter p) e ∙ pass_both p q h xs

sum_alike : {A : Type 0} (f g : A → ℕ) (xs : List A) → ((x : A) → IsIn x xs → f x ≡ g x) → sum_by f xs ≡ sum_by g xs
sum_alike f g [] h = refl
sum_alike f g (x ∷ xs) h =
    let e = h x (inl refl) in
    let r = sum_alike f g xs (λ y i. h y (inr i)) in
    let a = sum_by-cons f x xs in
    let b = sum_by-cons g x xs in
    omega arith

-- ---- a resource of which the row says nothing

module _ (t u : Tables) (k : Key) (d : DiffersAt t u k) where
  module _ (r : ℕ) (untouched : touches u k r ≡ false) where
    -- a row whose key would say something of it has another key
    beside : (j : Key) → touches u j r ≡ true → not (is_key k j) ≡ true
    beside j h = by (is_key k j) refl
      where
        by : (b : Bool) → is_key k j ≡ b → not b ≡ true
        by true e = absurd (false≢true (sym untouched ∙ ap (λ l. touches u l r) (is_key-same k j e) ∙ h))
        by false e = refl

    same_resource : resource_of u r ≡ resource_of t r
    same_resource = found_alike (λ (x : ResourceRow). x.id == r) (λ x. not (is_key k (key_of (Resource x)))) (λ x e. beside (key_of (Resource x)) (or_left (x.id == r) (list_any (λ (y : MemberRow). y.group == x.id) (of_member r u.members)) e)) t.resources u.resources d.resources

    same_sort : sort_of u r ≡ sort_of t r
    same_sort = ap (λ o. option_map_or (λ (x : ResourceRow). sort_of_kind x.kind) o unknown) same_resource

    same_members : (m : ℕ) → members u r m ≡ members t r m
    same_members m = ap (map (λ (x : MemberRow). x.member)) (rows_alike (joins r m) (λ x. not (is_key k (key_of (Member x)))) (λ x e. beside (key_of (Member x)) (or_left (x.group == r) (x.member == r) (and_left (x.group == r) (covers x.from x.to m) e))) t.members u.members d.members)

    same_memberships : of_member r u.members ≡ of_member r t.members
    same_memberships = rows_alike (λ (x : MemberRow). x.member == r) (λ x. not (is_key k (key_of (Member x)))) (λ x e. beside (key_of (Member x)) (or_right (x.group == r) (x.member == r) e)) t.members u.members d.members

    same_offs : (m : ℕ) → list_any (λ (o : OffRow). (o.resource == r) && covers o.from o.to m) u.offs ≡ list_any (λ (o : OffRow). (o.resource == r) && covers o.from o.to m) t.offs
    same_offs m = any_alike (λ (o : OffRow). (o.resource == r) && covers o.from o.to m) (λ o. not (is_key k (key_of (Off o)))) (λ o e. beside (key_of (Off o)) (and_left (o.resource == r) (covers o.from o.to m) e)) t.offs u.offs d.offs

    -- ---- its calendar

    module _ (c : ℕ) (own : calendar_of u r ≡ Some c) where
      of_calendar : (n : ℕ) → (n == c) ≡ true → has_calendar u n r ≡ true
      of_calendar n e = ap (λ o. option_map_or (λ x. x == n) o false) own ∙ same c n (sym (equal n c e))

      same_calendar : (at : LocalTime) → calendar_capacity u c at ≡ calendar_capacity t c at
      unfolding calendar_capacity
      same_calendar at =
          let days : list_any (λ (x : DayRow). (x.calendar == c) && (x.day == at.day)) u.days ≡ list_any (λ (x : DayRow). (x.calendar == c) && (x.day == at.day)) t.days =
          any_alike (λ (x : DayRow). (x.calendar == c) && (x.day == at.day)) (λ x. not (is_key k (key_of (Day x)))) (λ x e. beside (key_of (Day x)) (of_calendar x.calendar (and_left (x.calendar == c) (x.day == at.day) e))) t.days u.days d.days in
          let day : find (λ (x : DayRow). (x.calendar == c) && (x.day == at.day) && covers x.from x.to at.minute) u.days ≡ find (λ (x : DayRow). (x.calendar == c) && (x.day == at.day) && covers x.from x.to at.minute) t.days =
          found_alike (λ (x : DayRow). (x.calendar == c) && (x.day == at.day) && covers x.from x.to at.minute) (λ x. not (is_key k (key_of (Day x)))) (λ x e. beside (key_of (Day x)) (of_calendar x.calendar (and_left (x.calendar == c) (x.day == at.day) (and_left ((x.calendar == c) && (x.day == at.day)) (covers x.from x.to at.minute) e)))) t.days u.days d.days in
          let breaks : list_any (λ (x : BreakRow). (x.calendar == c) && (x.weekday == weekday_of at.day) && covers x.from x.to at.minute) u.breaks ≡ list_any (λ (x : BreakRow). (x.calendar == c) && (x.weekday == weekday_of at.day) && covers x.from x.to at.minute) t.breaks =
          any_alike (λ (x : BreakRow). (x.calendar == c) && (x.weekday == weekday_of at.day) && covers x.from x.to at.minute) (λ x. not (is_key k (key_of (Break x)))) (λ x e. beside (key_of (Break x)) (of_calendar x.calendar (and_left (x.calendar == c) (x.weekday == weekday_of at.day) (and_left ((x.calendar == c) && (x.weekday == weekday_of at.day)) (covers x.from x.to at.minute) e)))) t.breaks u.breaks d.breaks in
          let work : find (λ (x : WorkRow). (x.calendar == c) && (x.weekday == weekday_of at.day) && covers x.from x.to at.minute) u.works ≡ find (λ (x : WorkRow). (x.calendar == c) && (x.weekday == weekday_of at.day) && covers x.from x.to at.minute) t.works =
          found_alike (λ (x : WorkRow). (x.calendar == c) && (x.weekday == weekday_of at.day) && covers x.from x.to at.minute) (λ x. not (is_key k (key_of (Work x)))) (λ x e. beside (key_of (Work x)) (of_calendar x.calendar (and_left (x.calendar == c) (x.weekday == weekday_of at.day) (and_left ((x.calendar == c) && (x.weekday == weekday_of at.day)) (covers x.from x.to at.minute) e)))) t.works u.works d.works in
          λ i. cond (days i) (option_map_or (λ (x : DayRow). x.capacity) (day i) 0) (cond (breaks i) 0 (option_map_or (λ (x : WorkRow). x.capacity) (work i) 0))

      same_calendar_row : find (λ (x : CalendarRow). x.id == c) u.calendars ≡ find (λ (x : CalendarRow). x.id == c) t.calendars
      same_calendar_row = found_alike (λ (x : CalendarRow). x.id == c) (λ x. not (is_key k (key_of (Calendar x)))) (λ x e. beside (key_of (Calendar x)) (of_calendar x.id e)) t.calendars u.calendars d.calendars

      of_zone : (x : CalendarRow) → find (λ (y : CalendarRow). y.id == c) u.calendars ≡ Some x → (n : ℕ) → (n == x.zone) ≡ true → is_in_zone u n r ≡ true
      of_zone x f n e =
          ap (λ o. option_map_or (λ z. z == n) (option_and_then (zone_of u) o) false) own
          ∙ ap (λ o. option_map_or (λ z. z == n) (option_map (λ (y : CalendarRow). y.zone) o) false) f ∙ same x.zone n (sym (equal n x.zone e))

      same_zone : (o : Option CalendarRow) → find (λ (y : CalendarRow). y.id == c) u.calendars ≡ o → option_and_then (λ (x : CalendarRow). find (λ (z : ZoneRow). z.id == x.zone) u.zones) o ≡ option_and_then (λ (x : CalendarRow). find (λ (z : ZoneRow). z.id == x.zone) t.zones) o
      same_zone None f = refl
      same_zone (Some x) f = found_alike (λ (z : ZoneRow). z.id == x.zone) (λ z. not (is_key k (key_of (Zone z)))) (λ z e. beside (key_of (Zone z)) (of_zone x f z.id e)) t.zones u.zones d.zones

      same_shifts : shifts_of u c ≡ shifts_of t c
      same_shifts =
          ap (λ o. option_map_or (λ (z : ZoneRow). z.shifts) o [])
          (same_zone (find (λ (y : CalendarRow). y.id == c) u.calendars) refl ∙ ap (option_and_then (λ (x : CalendarRow). find (λ (z : ZoneRow). z.id == x.zone) t.zones)) same_calendar_row)

    same_capacity : (m : ℕ) → capacity u r m ≡ capacity t r m
    unfolding capacity
    same_capacity m = λ i. cond (same_offs m i) 0 ((by (calendar_of u r) refl ∙ ap given same_own) i)
      where
        given : Option ℕ → ℕ
        given o = option_map_or (λ c. calendar_capacity t c (local_time (shifts_of t c) m)) o 0

        same_own : calendar_of u r ≡ calendar_of t r
        same_own = ap (option_and_then (λ (x : ResourceRow). x.calendar)) same_resource

        by : (o : Option ℕ) → calendar_of u r ≡ o → option_map_or (λ c. calendar_capacity u c (local_time (shifts_of u c) m)) o 0 ≡ given o
        by None e = refl
        by (Some c) e = same_calendar c e (local_time (shifts_of u c) m) ∙ ap (λ s. calendar_capacity t c (local_time s m)) (same_shifts c e)

    -- ---- what loads it

    same_loads : (on m : ℕ) → loads u on r m ≡ loads t on r m
    same_loads on m = ap (λ b. (on == r) || b) (by (list_any (λ x. x == r) (members u on m)) refl)
      where
        joined : list_any (λ x. x == r) (members u on m) ≡ list_any (λ x. x == r) (members t on m)
        joined = member_by_rows u on r m ∙ ap (list_any (joins on m)) same_memberships ∙ sym (member_by_rows t on r m)

        of_group : list_any (joins on m) (of_member r u.members) ≡ true → (n : ℕ) → (n == on) ≡ true → list_any (λ (y : MemberRow). y.group == n) (of_member r u.members) ≡ true
        of_group h n e =
            let x = list_any_at (joins on m) (of_member r u.members) h in
            list_any_from (λ (y : MemberRow). y.group == n) (of_member r u.members) x.0 x.1 (same x.0.group n (equal x.0.group on (and_left (x.0.group == on) (covers x.0.from x.0.to m) x.2) ∙ sym (equal n on e)))

        by : (b : Bool) → list_any (λ x. x == r) (members u on m) ≡ b → (is_crew (sort_of u on) && list_any (λ x. x == r) (members u on m)) ≡ (is_crew (sort_of t on) && list_any (λ x. x == r) (members t on m))
        by false e = (ap (λ b. is_crew (sort_of u on) && b) e ∙ and-false (is_crew (sort_of u on))) ∙ sym (ap (λ b. is_crew (sort_of t on) && b) (sym joined ∙ e) ∙ and-false (is_crew (sort_of t on)))
        by true e =
            let there = sym (member_by_rows u on r m) ∙ e in
            let row : resource_of u on ≡ resource_of t on = found_alike (λ (x : ResourceRow). x.id == on) (λ x. not (is_key k (key_of (Resource x)))) (λ x f. beside (key_of (Resource x)) (or_right (x.id == r) (list_any (λ (y : MemberRow). y.group == x.id) (of_member r u.members)) (of_group there x.id f))) t.resources u.resources d.resources in
            λ i. is_crew (option_map_or (λ (x : ResourceRow). sort_of_kind x.kind) (row i) unknown) && joined i

    same_plain_load : (m : ℕ) (a : Ask) → plain_load u r m a ≡ plain_load t r m a
    unfolding plain_load
    same_plain_load m a = ap (λ b. cond b (effort_at m a) 0) (same_loads a.resource m)

  -- ---- a resource on which the row does not bear

  module _ (r : ℕ) (s : LoadSort) (is : sort_of u r ≡ s) (no : bears_by s u k r ≡ false) where
    quiet : touches u k r ≡ false
    quiet = by s no
      where
        by : (s : LoadSort) → bears_by s u k r ≡ false → touches u k r ≡ false
        by plain e = e
        by crew e = e
        by pool e = not_left (touches u k r) (list_any (λ (x : MemberRow). touches u k x.member) (rows_of_group u r)) e
        by unknown e = e

    -- nor do the members of a pool
    quiet_member : bears_by pool u k r ≡ false → (m x : ℕ) → IsIn x (members u r m) → touches u k x ≡ false
    quiet_member e m x i =
        let y = in-map (λ (y : MemberRow). y.member) x (filter (joins r m) u.members) i in
        let z = in-filter (joins r m) y.0 u.members y.1 in
        let in_group = in_filtered (λ (z : MemberRow). z.group == r) y.0 u.members z.0 (and_left (y.0.group == r) (covers y.0.from y.0.to m) z.1) in
        by (touches u k x) refl (not_right (touches u k r) (list_any (λ (x : MemberRow). touches u k x.member) (rows_of_group u r)) e) y.0 in_group y.2
      where
        by : (b : Bool) → touches u k x ≡ b → list_any (λ (x : MemberRow). touches u k x.member) (rows_of_group u r) ≡ false → (y : MemberRow) → IsIn y (rows_of_group u r) → x ≡ y.member → b ≡ false
        by false f n y j g = refl
        by true f n y j g = absurd (false≢true (sym n ∙ list_any_from (λ (x : MemberRow). touches u k x.member) (rows_of_group u r) y j (sym (ap (touches u k) g) ∙ f)))

    same_room : (m : ℕ) → room u r m ≡ room t r m
    unfolding room
    same_room m = ap (λ s. room_by s u r m) is ∙ by s no ∙ ap (λ s. room_by s t r m) (sym is ∙ same_sort r quiet)
      where
        by : (s : LoadSort) → bears_by s u k r ≡ false → room_by s u r m ≡ room_by s t r m
        by plain e = ap Some (same_capacity r quiet m)
        by crew e = ap room_of_crew (same_members r quiet m)
        by pool e = ap Some (sum_alike (λ x. capacity u x m) (λ x. capacity t x m) (members u r m) (λ x i. same_capacity x (quiet_member e m x i) m) ∙ ap (sum_by (λ x. capacity t x m)) (same_members r quiet m))
        by unknown e = refl

    same_load : (m : ℕ) (a : Ask) → load u r m a ≡ load t r m a
    unfolding load
    same_load m a = ap (λ s. load_by s u r m a) is ∙ by s no ∙ ap (λ s. load_by s t r m a) (sym is ∙ same_sort r quiet)
      where
        by : (s : LoadSort) → bears_by s u k r ≡ false → load_by s u r m a ≡ load_by s t r m a
        by plain e = same_plain_load r quiet m a
        by crew e = refl
        by pool e = ap (λ n. own_load r m a + n) (sum_alike (λ x. plain_load u x m a) (λ x. plain_load t x m a) (members u r m) (λ x i. same_plain_load x (quiet_member e m x i) m a) ∙ ap (sum_by (λ x. plain_load t x m a)) (same_members r quiet m))
        by unknown e = refl

    still_within : (asks : List Ask) (m : ℕ) → IsWithinRoom t asks r m → IsWithinRoom u asks r m
    still_within asks m h =
        let w : weight u asks r m ≡ weight t asks r m = sum_by_same (load u r m) (load t r m) asks (same_load m) in
        subst (λ o. IfSome o (λ n. weight u asks r m ≤ n)) (sym (same_room m)) (subst (λ n. IfSome (room t r m) (λ o. n ≤ o)) (sym w) h)

  -- where the bookings fit before, they are within the room of each resource on which the row does not bear
  pub others_within : Fits t (map ask_of t.bookings) → (r m : ℕ) → IsMinute m → (Contains (suspects_of u k) r → ⊥) → BearsStanding u r m
  others_within f r m i n = elim (find_cases (λ (x : ResourceRow). x.id == r) u.resources) [
    | inl e ↦ bears_nothing u r m (unknown_weighs u (map ask_of u.bookings) r m e)
    | inr h ↦ row h.0 h.1 (equal h.0.id r h.2) h.3
  ]
    where
      row : (x : ResourceRow) → IsIn x u.resources → x.id ≡ r → resource_of u r ≡ Some x → BearsStanding u r m
      row x j e h = by (bears_on u k x) refl
        where
          by : (b : Bool) → bears_on u k x ≡ b → BearsStanding u r m
          by true g = absurd (n (contains_from_in (suspects_of u k) r (subst (λ y. IsIn y (suspects_of u k)) e (in_mapped (λ (x : ResourceRow). x.id) x (filter (bears_on u k) u.resources) (in_filtered (bears_on u k) x u.resources j g)))))
          by false g =
              let sort : sort_of u r ≡ sort_of_kind x.kind = ap (λ o. option_map_or (λ (x : ResourceRow). sort_of_kind x.kind) o unknown) h in
              still_within r (sort_of_kind x.kind) sort (ap (bears_by (sort_of_kind x.kind) u k) (sym e) ∙ g) (map ask_of u.bookings) m
              (subst (λ (bs : List BookingRow). IsWithinRoom t (map ask_of bs) r m) (sym d.bookings) (f.at r m i))
