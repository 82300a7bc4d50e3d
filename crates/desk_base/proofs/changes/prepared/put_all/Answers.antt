use Rattle.std.proofs.Common.{◌≡◌, ◌∙◌, ◌∷◌, [], List, sym, ap, subst, arith, append_assoc, length-append}
use Rattle.std.proofs.lemmas.List.Sums.{fold-append}
use Rattle.std.specs.Vec.Iter.{into_iter_items}
use Rattle.desk_base.specs.rows.Types.{Tables}
use Rattle.desk_base.specs.declared.changes.formers.Former.{Former}
use Rattle.desk_base.specs.changes.Changes.{with_row}
use Rattle.desk_base.specs.rows.Lookups.{KeysRise}
use Rattle.desk_base.specs.changes.OpenTables.{tables_of}
use Rattle.desk_base.specs.changes.Formers.{taken_back, HavePlaces}
use Rattle.desk_base.proofs.tables.KeyRises.{rise-with_rows}
use Rattle.desk_base.proofs.tables.TakenBack.{taken_back-put, have_places-put}
use Rattle.desk_base.proofs.changes.prepared.put_all.Goals as goal

pub put-former-requires-clause-rise : goal.put-former-requires-clause-rise
put-former-requires-clause-rise c = subst (λ (t : Tables). KeysRise t) (sym c.loop-row.invariant.put) (rise-with_rows (tables_of c.args.tables.now) c.loop-row.yielded c.requires.rise)

pub loop-row-preserved : goal.loop-row-preserved
loop-row-preserved c =
    let at = c.loop-row in
    let row = c.in-Some.row in
    let steps : into_iter_items at.row-iterator ≡ row ∷ into_iter_items c.next.new.self = c.in-Some.ensures.steps.0 in
    let rise : KeysRise (tables_of at.tables) = subst (λ (t : Tables). KeysRise t) (sym at.invariant.put) (rise-with_rows (tables_of c.args.tables.now) at.yielded c.requires.rise) in
    let length = length-append at.yielded (row ∷ []) in
    record {
      items = append_assoc at.yielded (row ∷ []) _ ∙ rw (← steps) at.invariant.items;
      put = c.put-former.ensures.tables ∙ ap (λ t. with_row t row) at.invariant.put ∙ sym (fold-append with_row (tables_of c.args.tables.now) at.yielded (row ∷ []));
      room = λ table. let a = at.invariant.room table in let b = c.put-former.ensures.room table in omega arith;
      noted = c.push_reserved.ensures.len ∙ (let a = at.invariant.noted in omega arith);
      capacity = c.push_reserved.ensures.capacity ∙ at.invariant.capacity;
      back = subst (λ (l : List Former). taken_back (tables_of c.put-former.new.self) l ≡ tables_of c.args.tables.now) (sym c.push_reserved.ensures.items) (taken_back-put (tables_of at.tables) _ _ row at.formers.items c.put-former.result rise c.put-former.ensures.tables c.put-former.ensures.former at.invariant.back);
      places = subst (λ (l : List Former). HavePlaces (tables_of c.put-former.new.self) l) (sym c.push_reserved.ensures.items) (have_places-put (tables_of at.tables) _ row at.formers.items c.put-former.result rise c.put-former.ensures.tables c.put-former.ensures.former at.invariant.places);
    }
