-- A page over the live positions of a case.
use Rattle.std.proofs.Common.{◌≡◌, ℕ, List, [], length, Option, Some, sym, ap, ◌∙◌, arith}
use Rattle.desk_base.specs.declared.rows.tables.Tables.{Tables}
use Rattle.desk_base.specs.declared.rows.groups.GroupRow.{GroupRow}
use Rattle.desk_base.specs.declared.search.results.Ask.{Ask}
use Rattle.desk_base.specs.declared.search.results.Options.{Options}
use Rattle.desk_base.specs.declared.search.results.Page.{Page}
use Rattle.desk_base.specs.declared.search.results.Position.{Position}
use Rattle.desk_base.specs.search.Listing.{IsLive, IsLiveList}
use Rattle.desk_base.specs.search.Order.{position_cmp}
use Rattle.desk_base.specs.search.OrderLaws.{position_total}
use Rattle.desk_base.specs.search.Page.{ResumePoint, IsAfter, ArePending, page_of, IsPage}
use Rattle.desk_base.specs.search.Positions.{positions_after}
use Rattle.desk_base.proofs.lists.Orders.{Enumerates-same}
use Rattle.desk_base.proofs.searched.Pages.{pending_are}
use Rattle.desk_need.specs.Cases.{Asked}
use Rattle.desk_load.specs.Views.{ViewParts}
use Rattle.desk_feasible.specs.Live.{HasLaid}
use Rattle.desk_feasible.proofs.Growing.{choices_nil}
use Rattle.desk_base.specs.search.Listing.{ask_for}
use Rattle.std.specs.Prelude.{map}

-- ---- a view with nothing on top

abbrev view : Tables → Option ℕ → List Ask → ViewParts
view t o l = record { tables = t; without = o; overlay = l }

view_of : (t t' : Tables) (o o' : Option ℕ) (l l' : List Ask) → t ≡ t' → o ≡ o' → l ≡ l' → view t o l ≡ view t' o' l'
view_of t t' o o' l l' e f g = ap (λ x. view x o l) e ∙ ap (λ x. view t' x l) f ∙ ap (λ x. view t' o' x) g

module _ (a : Asked) (v : ViewParts) (tables : v.tables ≡ a.tables) (without : v.without ≡ Some a.group.id) (nothing : v.overlay ≡ []) where
  pub bare : (s : ℕ) → HasLaid a v s []
  bare s = record {
    tables = tables;
    without = without;
    overlay = nothing ∙ sym (ap (map (ask_for s)) (choices_nil 0 a.group.leaves));
    few = omega arith;
  }

  -- it is as before where nothing is laid again
  pub as_before : (w : ViewParts) → HasLaid a w 0 [] → w ≡ v
  as_before w h =
      let overlay = h.overlay ∙ ap (map (ask_for 0)) (choices_nil 0 a.group.leaves) ∙ sym nothing in
      view_of w.tables v.tables w.without v.without w.overlay v.overlay (h.tables ∙ sym tables) (h.without ∙ sym without) overlay

-- ---- pages

module _ (t : Tables) (g : GroupRow) (o : Options) (point : ResumePoint) (lives : List Position) (are : IsLiveList t g o lives) where
  pub is_page : (leaves limit : ℕ) (page : Page) → leaves ≡ length g.leaves → page ≡ page_of leaves o.per point limit (positions_after point.after lives) → IsPage t g o point limit page
  is_page leaves limit page size e = (positions_after point.after lives, pending_are t g o point.after lives are, e ∙ ap (λ n. page_of n o.per point limit (positions_after point.after lives)) size)

  pub one_pending : (ps : List Position) → ArePending t g o point.after ps → positions_after point.after lives ≡ ps
  one_pending ps h = Enumerates-same position_cmp position_total (λ p. IsLive t g o p × IsAfter point.after p) (positions_after point.after lives) ps (pending_are t g o point.after lives are) h
