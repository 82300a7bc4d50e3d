use Rattle.std.proofs.Common.{◌≡◌, ℕ, ◌+◌, [], ◌∷◌, ◌++◌, take, None, refl, sym, ap, ◌∙◌, subst}
use Rattle.std.proofs.lemmas.List.{take_all}
use Rattle.desk_load.specs.Views.{ViewParts, IsProbe, other_asks}
use Rattle.desk_load.specs.Clashes.{IsFirstOver, after_probe}
use Rattle.desk_load.proofs.Over.{over_more}
use Rattle.desk_load.proofs.Scanned.{append_nothing, append_twice, take_more}
use Rattle.desk_load.proofs.view.free.FreeView.lay_all.Goals as goal

pub loop-ask-init : goal.loop-ask-init
loop-ask-init c = record {
  tables = refl;
  without = refl;
  laid = c.requires.nothing;
  first = subst (λ l. IsFirstOver c.args.self.now.tables l None) (sym (append_nothing (other_asks c.args.self.now.tables c.args.self.now.without))) c.requires.fits;
}

pub returns-in_err-overlay_push-clause-tables : goal.returns-in_err-overlay_push-clause-tables
returns-in_err-overlay_push-clause-tables c = c.overlay_push.ensures.tables ∙ c.loop-ask.invariant.tables

pub returns-in_err-overlay_push-clause-without : goal.returns-in_err-overlay_push-clause-without
returns-in_err-overlay_push-clause-without c = c.overlay_push.ensures.without ∙ c.loop-ask.invariant.without

pub loop-ask-preserved : goal.loop-ask-preserved
loop-ask-preserved c =
    let v = c.args.self.now in
    let asks = c.args.asks.now in
    let i : ℕ = c.loop-ask.ask-index in
    let ask = c.ask-item.result in
    let h = c.loop-ask.invariant in
    let w : ViewParts = record { tables = v.tables; without = v.without; overlay = take i asks } in
    let e : c.loop-ask.self ≡ w = λ j. record { tables = h.tables j; without = h.without j; overlay = h.laid j } in
    let p = c.look_for_room.ensures in
    let one_more = sym (take_more asks i ask c.loop-ask-test.true c.ask-item.is) in
    let f = over_more w ask p.begin p.end c.loop-ask.found c.look_for_room.result h.first (subst (λ v. IsProbe v ask c.look_for_room.result) e p.probe) in
    record {
      tables = c.overlay_push.ensures.tables ∙ h.tables;
      without = c.overlay_push.ensures.without ∙ h.without;
      laid = c.in_ok-overlay_push.ensures.ok ∙ ap (λ l. l ++ ask ∷ []) h.laid ∙ one_more;
      first = subst (λ o. IsFirstOver v.tables (other_asks v.tables v.without ++ take (i + 1) asks) o) (sym c.after_probe-found.ensures) (subst (λ l. IsFirstOver v.tables l (after_probe c.loop-ask.found c.look_for_room.result)) (append_twice (other_asks v.tables v.without) (take i asks) (ask ∷ []) ∙ ap (λ l. other_asks v.tables v.without ++ l) one_more) f);
    }

pub returns-clause-tables : goal.returns-clause-tables
returns-clause-tables c = c.loop-ask.invariant.tables

pub returns-clause-without : goal.returns-clause-without
returns-clause-without c = c.loop-ask.invariant.without

pub returns-clause-laid : goal.returns-clause-laid
returns-clause-laid c = c.loop-ask.invariant.laid ∙ take_all c.loop-ask.ask-index c.args.asks.now c.loop-ask-test.false

pub returns-clause-first : goal.returns-clause-first
returns-clause-first c = subst (λ l. IsFirstOver c.args.self.now.tables (other_asks c.args.self.now.tables c.args.self.now.without ++ l) c.loop-ask.found) (take_all c.loop-ask.ask-index c.args.asks.now c.loop-ask-test.false) c.loop-ask.invariant.first
