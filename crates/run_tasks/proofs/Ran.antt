-- A block of lines as a task.
use Rattle.std.proofs.Common.{◌≡◌, inl, inr, ℕ, List, [], ◌∷◌, map, sym, ap, subst, ◌∙◌, refl, arith}
use Rattle.std.specs.Prelude.{Option, Some, None, Result, Ok, Err}
use Rattle.std.specs.List.{All}
use Rattle.std.proofs.lemmas.List.{append-nil}
use Rattle.std.proofs.lemmas.List.Sums.{list_all-from_AllPass}
use Rattle.declared_site.specs.declared.site.Site.{Site as Declared}
use Rattle.net_model.specs.Site.{Site, count_up}
use Rattle.net_model.specs.World.{Network, World}
use Rattle.net_model.specs.Action.{Action}
use Rattle.net_model.specs.Step.{run}
use Rattle.net_model.specs.BlockOrder.{IsMerge}
use Rattle.run_types.specs.declared.line.Line.{Line}
use Rattle.run_types.specs.declared.entry.Entry.TheVariants as entries
use Rattle.run_types.specs.declared.item.NumberedItem.{NumberedItem}
use Rattle.run_model.specs.Turn.{HttpTexts}
use Rattle.run_model.specs.Play.{Whole, NoMemory, Played, reporting, stopped_at}
use Rattle.run_model.specs.Works.{Work, Works, may_stand_in_block, plain_work, block_run, IsBlockOf, asked_by as asked_for_lines}
use Rattle.run_model.specs.Block.{block_items}
use Rattle.run_model.specs.Report.{Task, Does, Together, perform, report, actions_of}
use Rattle.run_model.specs.Headline.{TookFirst, Given, report_pieces}
use Rattle.run_ops.specs.Acting.{IsReady}
use Rattle.run_ops.specs.Runnable.{IsBlockLineFor}
use Rattle.run_ops.specs.declared.done_block.DoneBlock.{DoneBlock}
use Rattle.run_ops.specs.Together.{AreWorks, DoesTogether, LeftTogether}
use Rattle.run_lines.specs.declared.stop.Stop.{Stop}
use Rattle.run_lines.specs.declared.stop.Stop.TheVariants.{WriteFault, Memory, Forged}
use Rattle.run_lines.specs.Reporting.{Wrote}
use Rattle.run_lines.specs.Running.{StopsAs}
use Rattle.run_lines.proofs.Taking.{first_none, took_none}
use Rattle.run_lines.proofs.Going.{Ways}
use Rattle.run_tasks.specs.declared.prepared.Prepared.{Prepared}
use Rattle.run_tasks.specs.Prepared.{IsPrepared}
use Rattle.run_tasks.specs.Tasks.{RanTasks}
use Rattle.run_tasks.proofs.Cuts.{taken_whole, taken_of, cut_first}
use Rattle.run_tasks.proofs.Tasking.{LeadsOn, leads_one, nothing_more, all_done, acts_none, all_ran}
use Rattle.run_tasks.proofs.Asked.{all_same_asked}
use Rattle.run_tasks.proofs.Items.{items_told, same_items}

-- What was done is a block of these lines.
block_is : (http : HttpTexts) (net : Network) (workers : ℕ) (w : World) (d : Declared) (lines : List Line) (p : Prepared) (works : Works) → All (IsBlockLineFor d) lines →
    IsPrepared http net.site w lines p → AreWorks net workers w p.jobs.items works → IsBlockOf http net workers w lines works
block_is http net workers w d lines p works fit is are = record {
  may_stand = list_all-from_AllPass (λ (line : Line). may_stand_in_block line.command) lines (λ k line below. (fit k line below).may);
  block = are.block;
  merged = λ v h at.
      subst (λ (o : Option (List ℕ)). IsMerge (map (λ k. asked_for_lines http net.site w o workers k v 0 lines) (count_up workers)) (map plain_work h)) (sym are.whole)
      (subst (λ (parts : List (List Work)). IsMerge parts (map plain_work h)) (sym (all_same_asked http net.site w workers v lines p.jobs.items p.places.items is.places (count_up workers)))
      (are.merged v h at));
  put = are.put;
}

-- A block that left nothing out reports its items, and is whole.
block_said : (http : HttpTexts) (net : Network) (w : World) (lines : List Line) (works : Works) → works.left_out ≡ None →
    perform http net w (Does (entries.Block lines)) (Together works) ≡ record { items = block_items http net w lines works; world = run net w (block_run net works); ending = Whole }
unfolding perform
block_said http net w lines works whole =
    ap
    (λ (o : Option (List ℕ)). elim o as (λ o. Played) [
      | None ↦ record { items = block_items http net w lines works; world = run net w (block_run net works); ending = Whole }
      | Some places ↦ stopped_at (run net w (block_run net works)) NoMemory
    ])
    whole

acts_together : (net : Network) (works : Works) → actions_of net (Together works ∷ []) ≡ block_run net works
unfolding actions_of
acts_together net works = append-nil (block_run net works)

module _ {S : Type 0} (Stands Rests : S → Network → World → Type 0) (Tallied : S → S → Site → List Action → Type 0) (ways : Ways Stands Rests Tallied) (nodes : List (List ℕ)) (http : HttpTexts)
    (net : Network) (workers : ℕ) where
  -- Nothing was done.
  pub nothing_done : (T : Type 0) (a b : S) (r : Given) (w : World) (tasks : List Task) → Rests b net w → Tallied a b net.site [] →
      RanTasks {T = T} Stands Rests Tallied nodes a b r r http net workers w tasks (Err Memory)
  nothing_done T a b r w tasks rests tallied = record {
    done = [];
    is = tt;
    left = subst (Rests b net) (sym (nothing_more http net w tasks)) rests;
    tallied = subst (Tallied a b net.site) (sym (acts_none net)) tallied;
    told = first_none r _;
    cut = cut_first (λ items. items) nodes http net w tasks [] r r refl (omega arith) (taken_whole r r [] (took_none r));
  }

  block_leads : (w : World) (lines : List Line) (works : Works) → IsBlockOf http net workers w lines works → works.left_out ≡ None →
      LeadsOn http net workers w (Does (entries.Block lines) ∷ []) (Together works ∷ []) (block_items http net w lines works) (run net w (block_run net works)) []
  block_leads w lines works is whole =
      leads_one http net workers w (run net w (block_run net works)) (Does (entries.Block lines)) [] (Together works) (block_items http net w lines works) is (block_said http net w lines works whole)

  -- The block was done, and the run stopped in its report.
  block_stopped : (T : Type 0) (a b : S) (r t : Given) (w : World) (lines : List Line) (works : Works) (stop : Stop) → IsBlockOf http net workers w lines works →
      works.left_out ≡ None → Rests b net (run net w (block_run net works)) → Tallied a b net.site (block_run net works) →
      Wrote {T = Unit {0}} (Err stop) r t (report_pieces nodes (block_items http net w lines works)) →
      RanTasks {T = T} Stands Rests Tallied nodes a b r t http net workers w (Does (entries.Block lines) ∷ []) (Err stop)
  block_stopped T a b r t w lines works stop is whole rests tallied wrote =
      let leads = block_leads w lines works is whole in
      let after = run net w (block_run net works) in
      let items = block_items http net w lines works in
      let said : report http net w (Does (entries.Block lines) ∷ []) (Together works ∷ []) ≡ reporting items (stopped_at after Whole) = leads.said [] ∙ ap (reporting items) (all_done http net after) in
      record {
        done = Together works ∷ [];
        is = leads.is [] tt;
        left = subst (λ (q : Played). Rests b net q.world) (sym said) rests;
        tallied = subst (Tallied a b net.site) (sym (acts_together net works)) tallied;
        told = first_so stop _ (ap (λ (q : Played). q.items) said ∙ append-nil items) wrote;
        cut = cut_first (λ xs. xs) nodes http net w (Does (entries.Block lines) ∷ []) (Together works ∷ []) r t refl (omega arith)
            (taken_of stop nodes (record { items = items; world = after; ending = Whole }) r t (first_so stop (record { items = items; world = after; ending = Whole }) refl wrote));
      }
    where
      first_so : (stop : Stop) (q : Played) → q.items ≡ block_items http net w lines works → Wrote {T = Unit {0}} (Err stop) r t (report_pieces nodes (block_items http net w lines works)) →
          StopsAs stop nodes q r t
      first_so WriteFault q same wrote = subst (λ (xs : List NumberedItem). TookFirst r t (report_pieces nodes xs)) (sym same) wrote
      first_so Memory q same wrote = subst (λ (xs : List NumberedItem). TookFirst r t (report_pieces nodes xs)) (sym same) wrote
      first_so (Forged line) q same wrote = absurd wrote

  block_ran : {T : Type 0} (a b : S) (r t : Given) (w : World) (lines : List Line) (works : Works) (result : Result T Stop) → IsBlockOf http net workers w lines works →
      works.left_out ≡ None → IsReady Stands b net (run net w (block_run net works)) → Tallied a b net.site (block_run net works) →
      Wrote result r t (report_pieces nodes (block_items http net w lines works)) →
      RanTasks Stands Rests Tallied nodes a b r t http net workers w (Does (entries.Block lines) ∷ []) result
  block_ran {T = T} a b r t w lines works (Ok done) is whole ready tallied wrote =
      all_ran Stands Rests Tallied ways nodes http net workers T done a b r t w (run net w (block_run net works)) (Does (entries.Block lines) ∷ [])
      (record {
        done = Together works ∷ [];
        items = block_items http net w lines works;
        leads = block_leads w lines works is whole;
        ready = ready;
        tallied = subst (Tallied a b net.site) (sym (acts_together net works)) tallied;
        took = wrote;
      })
  block_ran {T = T} a b r t w lines works (Err WriteFault) is whole ready tallied wrote =
      block_stopped T a b r t w lines works WriteFault is whole (ways.rest b net _ ready.stands) tallied wrote
  block_ran {T = T} a b r t w lines works (Err Memory) is whole ready tallied wrote =
      block_stopped T a b r t w lines works Memory is whole (ways.rest b net _ ready.stands) tallied wrote
  block_ran {T = T} a b r t w lines works (Err (Forged line)) is whole ready tallied wrote = absurd wrote

  -- The block was done and reported.
  pub block_told : {T : Type 0} (d : Declared) (a b : S) (r t : Given) (w : World) (lines : List Line) (p : Prepared) (done : DoneBlock) (names : List (List ℕ)) (result : Result T Stop) →
      All (IsBlockLineFor d) lines → IsPrepared http net.site w lines p → DoesTogether Stands Tallied a b net workers w p.jobs.items done → names ≡ nodes →
      Wrote result r t (report_pieces names (items_told http p done)) → RanTasks Stands Rests Tallied nodes a b r t http net workers w (Does (entries.Block lines) ∷ []) result
  block_told d a b r t w lines p done names result fit is did named wrote =
      block_ran a b r t w lines did.works result (block_is http net workers w d lines p did.works fit is did.are) did.are.whole did.ready did.tallied
      (subst (λ (xs : List NumberedItem). Wrote result r t (report_pieces nodes xs)) (same_items http net workers w lines p did.works done is did.are did.turns did.frames)
      (subst (λ (ns : List (List ℕ)). Wrote result r t (report_pieces ns (items_told http p done))) named wrote))

  -- Memory ran out before the block was done or after it.
  pub block_left : (T : Type 0) (d : Declared) (a b : S) (r : Given) (w : World) (lines : List Line) (p : Prepared) → All (IsBlockLineFor d) lines →
      IsPrepared http net.site w lines p → LeftTogether Rests Tallied a b net workers w p.jobs.items →
      RanTasks {T = T} Stands Rests Tallied nodes a b r r http net workers w (Does (entries.Block lines) ∷ []) (Err Memory)
  block_left T d a b r w lines p fit is (inl left) = nothing_done T a b r w (Does (entries.Block lines) ∷ []) left.0 left.1
  block_left T d a b r w lines p fit is (inr ends) =
      block_stopped T a b r r w lines ends.works Memory (block_is http net workers w d lines p ends.works fit is ends.are) ends.are.whole ends.rests ends.tallied (first_none r _)
