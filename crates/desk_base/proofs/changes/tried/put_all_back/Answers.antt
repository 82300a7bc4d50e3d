use Rattle.std.proofs.Common.{◌∙◌, List, sym, subst}
use Rattle.desk_base.specs.rows.Types.{Tables}
use Rattle.desk_base.specs.declared.changes.formers.Former.{Former}
use Rattle.desk_base.specs.rows.Lookups.{KeysRise}
use Rattle.desk_base.specs.changes.OpenTables.{tables_of}
use Rattle.desk_base.specs.changes.Formers.{HavePlaces}
use Rattle.desk_base.proofs.tables.TakenBack.{last_place, taken_back-last, rise-put_back}
use Rattle.desk_base.proofs.changes.tried.put_all_back.Goals as goal

pub put_back-requires-clause-place : goal.put_back-requires-clause-place
put_back-requires-clause-place c =
    let at = c.loop-former in
    (last_place (tables_of at.tables) c.pop.new.self.items c.in-Some.former (subst (λ (l : List Former). HavePlaces (tables_of at.tables) l) c.in-Some.ensures.items at.invariant.places)).0

pub loop-former-preserved : goal.loop-former-preserved
loop-former-preserved c =
    let at = c.loop-former in
    let fewer = c.pop.new.self.items in
    let former = c.in-Some.former in
    record {
      rise = subst (λ (t : Tables). KeysRise t) (sym c.put_back.ensures) (rise-put_back (tables_of at.tables) former at.invariant.rise);
      places =
          subst (λ (t : Tables). HavePlaces t fewer) (sym c.put_back.ensures)
          (last_place (tables_of at.tables) fewer former (subst (λ (l : List Former). HavePlaces (tables_of at.tables) l) c.in-Some.ensures.items at.invariant.places)).1;
      same = taken_back-last (tables_of at.tables) _ at.formers.items fewer former c.in-Some.ensures.items c.put_back.ensures ∙ at.invariant.same;
    }
