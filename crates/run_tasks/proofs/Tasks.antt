-- The tasks of a load, in order.
use Rattle.std.proofs.Common.{◌≡◌, ◌∙◌, ℕ, ◌+◌, Bool, true, false, List, [], ◌∷◌, ◌++◌, refl, sym, ap, subst, arith}
use Rattle.std.specs.Prelude.{Result, Ok, Err, MatchResult}
use Rattle.std.proofs.lemmas.List.{append_assoc, append-nil}
use Rattle.std.proofs.lemmas.List.Concat.{flat_map-append}
use Rattle.net_model.specs.Site.{Site}
use Rattle.net_model.specs.World.{Network, World}
use Rattle.net_model.specs.Action.{Action}
use Rattle.net_model.specs.Step.{run}
use Rattle.run_types.specs.declared.item.NumberedItem.{NumberedItem}
use Rattle.run_types.specs.Texts.{handed_text}
use Rattle.run_model.specs.Turn.{HttpTexts}
use Rattle.run_model.specs.Script.{Script}
use Rattle.run_model.specs.Play.{Ending, Whole, CutShort, ForgedAt, NoMemory, Played, numbered, reporting, stopped_at, OneOf}
use Rattle.run_model.specs.Report.{Task, Performed, Acts, perform, IsPerformed, is_whole, with_rest, report, IsRunOf, actions_for, actions_of}
use Rattle.run_model.specs.Headline.{Took, TookFirst, after_all, Given, report_pieces}
use Rattle.run_ops.proofs.Plays.{reported}
use Rattle.run_ops.specs.Acting.{IsReady}
use Rattle.run_lines.specs.declared.stop.Stop.{Stop}
use Rattle.run_lines.specs.declared.stop.Stop.TheVariants.{WriteFault, Memory, Forged}
use Rattle.run_lines.specs.Reporting.{Wrote}
use Rattle.run_lines.specs.Running.{StopsAs}
use Rattle.run_lines.proofs.Taking.{took_none, took_on, first_none, first_within, first_after}
use Rattle.run_lines.proofs.Going.{Ways, stops_as}
use Rattle.run_tasks.proofs.Cuts.{HasTaken, taken_whole, taken_first, taken_of, cut_first, cut_behind, cut_on}
use Rattle.run_tasks.proofs.Tasking.{IsTask}
use Rattle.law_locality.proofs.Runs.{run_none, run-append}
use Rattle.law_run.proofs.Plays.{play_is_run}
use Rattle.law_run.specs.Ledgers.{ledgers_of}
use Rattle.law_run.specs.Handed.{enc_keys, dec_keys}
use Rattle.run_tasks.specs.declared.handed.Handed.{Handed}
use Rattle.run_tasks.specs.Told.{ledgers_alone, ledger_pieces, ended, IsLoadTold}
use Rattle.run_tasks.specs.Counting.{AreHanded, no_keys}
use Rattle.run_tasks.specs.Leading.{Leads, Went}
use Rattle.run_tasks.specs.Lines.{Finishes, Stops}
use Rattle.run_tasks.specs.Loaded.{Stopped, RanLoad}
use Rattle.run_tasks.proofs.Keys.{nothing_handed, both_handed}
use Rattle.run_tasks.proofs.Telling.{ledgers_on, pieces_both, none_took}

-- ---- actions

acts_none : (net : Network) → actions_of net [] ≡ []
unfolding actions_of
acts_none net = refl

acts_on : (net : Network) (xs ys : List Performed) → actions_of net (xs ++ ys) ≡ actions_of net xs ++ actions_of net ys
unfolding actions_of
acts_on net xs ys = flat_map-append (actions_for net) xs ys

acts_one : (net : Network) (actions : List Action) → actions_of net (Acts actions ∷ []) ≡ actions
unfolding actions_of
acts_one net actions = append-nil actions

-- ---- the report

first_done : (http : HttpTexts) (net : Network) (w : World) (task : Task) (tasks : List Task) (d : Performed) (more : List Performed) →
    report http net w (task ∷ tasks) (d ∷ more) ≡ with_rest (perform http net w task d).ending (perform http net w task d) (report http net (perform http net w task d).world tasks more)
unfolding report
first_done http net w task tasks d more = refl

nothing_more : (http : HttpTexts) (net : Network) (w : World) (tasks : List Task) → (report http net w tasks []).world ≡ w
unfolding report
nothing_more http net w [] = refl
nothing_more http net w (t ∷ ts) = refl

nothing_told : (http : HttpTexts) (net : Network) (w : World) (tasks : List Task) → (report http net w tasks []).items ≡ []
unfolding report
nothing_told http net w [] = refl
nothing_told http net w (t ∷ ts) = refl

all_done : (http : HttpTexts) (net : Network) (w : World) → report http net w [] [] ≡ stopped_at w Whole
unfolding report
all_done http net w = refl

-- ---- progress through the tasks

leads_none : (http : HttpTexts) (net : Network) (w : World) (tasks : List Task) → Leads http net w tasks [] [] w tasks
leads_none http net w tasks = record { is = λ more h. h; said = λ more. refl; led = sym (ap (run net w) (acts_none net) ∙ run_none net w) }

leads_one : (http : HttpTexts) (net : Network) (w after : World) (task : Task) (tasks : List Task) (actions : List Action) (items : List NumberedItem) →
    IsPerformed http net 1 w task (Acts actions) → perform http net w task (Acts actions) ≡ record { items = items; world = after; ending = Whole } → after ≡ run net w actions →
    Leads http net w (task ∷ tasks) (Acts actions ∷ []) items after tasks
leads_one http net w after task tasks actions items is said led = record {
  is = λ more h. (is, subst (λ (p : Played). OneOf (is_whole p.ending) (IsRunOf http net 1 p.world tasks more) (more ≡ [])) (sym said) h);
  said = λ more. first_done http net w task tasks (Acts actions) more ∙ ap (λ (p : Played). with_rest p.ending p (report http net p.world tasks more)) said;
  led = led ∙ ap (run net w) (sym (acts_one net actions));
}

leads_on : (http : HttpTexts) (net : Network) (w m after : World) (tasks mid rest : List Task) (first second : List Performed) (told more_told : List NumberedItem) →
    Leads http net w tasks first told m mid → Leads http net m mid second more_told after rest → Leads http net w tasks (first ++ second) (told ++ more_told) after rest
leads_on http net w m after tasks mid rest first second told more_told p q = record {
  is = λ more h. subst (IsRunOf http net 1 w tasks) (sym (append_assoc first second more)) (p.is (second ++ more) (q.is more h));
  said = λ more.
      ap (report http net w tasks) (append_assoc first second more) ∙ p.said (second ++ more)
      ∙ reported told more_told (report http net after rest more) _ (q.said more);
  led = q.led ∙ ap (λ (v : World). run net v (actions_of net second)) p.led ∙ sym (run-append net (actions_of net first) (actions_of net second) w)
      ∙ ap (run net w) (sym (acts_on net first second));
}

-- ---- where a task stops

cut_world : (e : Ending) (p q : Played) → q.world ≡ p.world → (with_rest e p q).world ≡ p.world
cut_world Whole p q same = same
cut_world CutShort p q same = refl
cut_world (ForgedAt number) p q same = refl
cut_world NoMemory p q same = refl

cut_items : (e : Ending) (p q : Played) → q.items ≡ [] → (with_rest e p q).items ≡ p.items
cut_items Whole p q none = ap (λ (xs : List NumberedItem). p.items ++ xs) none ∙ append-nil p.items
cut_items CutShort p q none = refl
cut_items (ForgedAt number) p q none = refl
cut_items NoMemory p q none = refl

cut_told : (nodes : List (List ℕ)) (e : Ending) (p q : Played) (stop : Stop) (a b : Given) → p.ending ≡ e → q.items ≡ [] → StopsAs stop nodes (ledgers_alone p) a b →
    StopsAs stop nodes (ledgers_alone (with_rest e p q)) a b
cut_told nodes e p q WriteFault a b is none told = subst (λ (xs : List NumberedItem). TookFirst a b (report_pieces nodes (ledgers_of xs))) (sym (cut_items e p q none)) told
cut_told nodes e p q Memory a b is none told = subst (λ (xs : List NumberedItem). TookFirst a b (report_pieces nodes (ledgers_of xs))) (sym (cut_items e p q none)) told
cut_told nodes Whole p q (Forged line) a b is none told = absurd (let wrong : Whole ≡ ForgedAt line = sym is ∙ told.0 in cc)
cut_told nodes CutShort p q (Forged line) a b is none told = told
cut_told nodes (ForgedAt number) p q (Forged line) a b is none told = told
cut_told nodes NoMemory p q (Forged line) a b is none told = told

abbrev none_left : List Performed
none_left = []

either : (b : Bool) (A B : Type 0) → A → B → OneOf b A B
either true A B a c = a
either false A B a c = c

-- The ledgers of a report that follows others are the ledgers of the others, and then its own.
alone_on : (p q : Played) (xs : List NumberedItem) → q ≡ reporting xs p → ledgers_alone q ≡ reporting (ledgers_of xs) (ledgers_alone p)
alone_on p q xs same = ap ledgers_alone same ∙ ap (λ (is : List NumberedItem). record { items = is; world = p.world; ending = p.ending }) (ledgers_on xs p.items)

module _ {S : Type 0} (Stands Rests : S → Network → World → Type 0) (Tallied : S → S → Site → List Action → Type 0) (ways : Ways Stands Rests Tallied) (nodes : List (List ℕ)) (http : HttpTexts)
    (net : Network) where
  pub went_none : (a : S) (r : Given) (w : World) (tasks : List Task) → IsReady Stands a net w → Went Stands Tallied nodes a a r r http net w tasks w tasks no_keys
  went_none a r w tasks ready = record {
    done = [];
    items = [];
    leads = leads_none http net w tasks;
    ready = ready;
    tallied = subst (Tallied a a net.site) (sym (acts_none net)) (ways.none a net w ready.stands);
    took = none_took nodes r [] refl;
    keys = subst (λ (xs : List Action). AreHanded net w xs no_keys) (sym (acts_none net)) (nothing_handed net w);
  }

  pub went_on : (a b c : S) (r t u : Given) (w m after : World) (tasks mid rest : List Task) (x y z : Handed) → z.masters ≡ x.masters + y.masters → z.slaves ≡ x.slaves + y.slaves →
      Went Stands Tallied nodes a b r t http net w tasks m mid x → Went Stands Tallied nodes b c t u http net m mid after rest y → Went Stands Tallied nodes a c r u http net w tasks after rest z
  went_on a b c r t u w m after tasks mid rest x y z masters slaves p q =
      let xs = actions_of net p.done in
      let ys = actions_of net q.done in
      let later : AreHanded net (run net w xs) ys y = subst (λ (v : World). AreHanded net v ys y) p.leads.led q.keys in
      record {
        done = p.done ++ q.done;
        items = p.items ++ q.items;
        leads = leads_on http net w m after tasks mid rest p.done q.done p.items q.items p.leads q.leads;
        ready = q.ready;
        tallied = subst (Tallied a c net.site) (sym (acts_on net p.done q.done)) (ways.more a b c net.site xs ys p.tallied q.tallied);
        took = subst (Took r u) (sym (pieces_both nodes p.items q.items)) (took_on r t u _ _ p.took q.took);
        keys = subst (λ (zs : List Action). AreHanded net w zs z) (sym (acts_on net p.done q.done)) (both_handed net w xs ys x y z p.keys later masters slaves);
      }

  pub went_one : (a b : S) (r t : Given) (w : World) (task : Task) (tasks : List Task) (number : ℕ) (script : Script) (handed : Handed) → IsTask http net 1 w task number script →
      (f : Finishes Stands Tallied nodes a b r t number net w script handed) → Went Stands Tallied nodes a b r t http net w (task ∷ tasks) f.plays.after tasks handed
  went_one a b r t w task tasks number script handed is f =
      let actions = f.plays.actions in
      let led : f.plays.after ≡ run net w actions = sym (ap (λ (p : Played). p.world) (f.plays.said number)) ∙ (play_is_run net number w script actions f.plays.is).1 in
      record {
        done = Acts actions ∷ [];
        items = numbered number f.items;
        leads = leads_one http net w f.plays.after task tasks actions (numbered number f.items) (is.is actions f.plays.is) (is.said actions ∙ f.plays.said number) led;
        ready = f.plays.ready;
        tallied = subst (Tallied a b net.site) (sym (acts_one net actions)) f.plays.tallied;
        took = f.took;
        keys = subst (λ (xs : List Action). AreHanded net w xs handed) (sym (acts_one net actions)) f.keys;
      }

  -- The same progress, with an equal list of tasks left.
  pub went_as : (a b : S) (r t : Given) (w after : World) (tasks rest others : List Task) (handed : Handed) → rest ≡ others → Went Stands Tallied nodes a b r t http net w tasks after rest handed →
      Went Stands Tallied nodes a b r t http net w tasks after others handed
  went_as a b r t w after tasks rest others handed same p = subst (λ (ts : List Task). Went Stands Tallied nodes a b r t http net w tasks after ts handed) same p

  -- ---- where a run stops

  pub one_stopped : (a b : S) (r t : Given) (w : World) (task : Task) (tasks : List Task) (number : ℕ) (script : Script) (stop : Stop) → IsTask http net 1 w task number script →
      Stops Rests Tallied nodes a b r t number net w script stop → Stopped Rests Tallied nodes a b r t http net w (task ∷ tasks) stop
  one_stopped a b r t w task tasks number script stop is s =
      let d = Acts s.actions in
      let p = perform http net w task d in
      let rest = report http net p.world tasks [] in
      let same = is.said s.actions in
      record {
        done = d ∷ [];
        is = (is.is s.actions s.is, either (is_whole p.ending) (IsRunOf http net 1 p.world tasks []) (none_left ≡ []) tt refl);
        rests = subst (λ (q : World). Rests b net q) (sym (ap (λ (q : Played). q.world) (first_done http net w task tasks d []) ∙ cut_world p.ending p rest (nothing_more http net p.world tasks)))
            (subst (λ (q : Played). Rests b net q.world) (sym same) s.rests);
        tallied = subst (Tallied a b net.site) (sym (acts_one net s.actions)) s.tallied;
        told = subst (λ (q : Played). StopsAs stop nodes (ledgers_alone q) r t) (sym (first_done http net w task tasks d []))
            (cut_told nodes p.ending p rest stop r t refl (nothing_told http net p.world tasks) (subst (λ (q : Played). StopsAs stop nodes (ledgers_alone q) r t) (sym same) s.told));
        cut = cut_first ledgers_of nodes http net w (task ∷ tasks) (d ∷ []) r t refl (omega arith) (taken_of stop nodes _ r t s.told);
      }

  pub went_stop : (a b c : S) (r t u : Given) (w m : World) (tasks mid : List Task) (stop : Stop) (handed : Handed) → Went Stands Tallied nodes a b r t http net w tasks m mid handed →
      Stopped Rests Tallied nodes b c t u http net m mid stop → Stopped Rests Tallied nodes a c r u http net w tasks stop
  went_stop a b c r t u w m tasks mid stop handed p q =
      let said = p.leads.said q.done in
      record {
        done = p.done ++ q.done;
        is = p.leads.is q.done q.is;
        rests = subst (λ (x : Played). Rests c net x.world) (sym said) q.rests;
        tallied = subst (Tallied a c net.site) (sym (acts_on net p.done q.done)) (ways.more a b c net.site (actions_of net p.done) (actions_of net q.done) p.tallied q.tallied);
        told = stops_as nodes (ledgers_alone (report http net m mid q.done)) (ledgers_alone (report http net w tasks (p.done ++ q.done))) (ledgers_of p.items) r t u stop
            (alone_on (report http net m mid q.done) (report http net w tasks (p.done ++ q.done)) p.items said) p.took q.told;
        cut = cut_on ledgers_of nodes http net w m tasks mid p.done q.done p.items r t u ledgers_on p.leads.said p.took q.cut;
      }

  -- Memory runs out before anything more is done.
  stops_there : (a : S) (r : Given) (w : World) (tasks : List Task) → IsReady Stands a net w → Stopped Rests Tallied nodes a a r r http net w tasks Memory
  stops_there a r w tasks ready = record {
    done = [];
    is = tt;
    rests = subst (Rests a net) (sym (nothing_more http net w tasks)) (ways.rest a net w ready.stands);
    tallied = subst (Tallied a a net.site) (sym (acts_none net)) (ways.none a net w ready.stands);
    told = first_none r (report_pieces nodes (ledgers_of (report http net w tasks []).items));
    cut = cut_first ledgers_of nodes http net w tasks [] r r refl (omega arith) (taken_whole r r [] (took_none r));
  }

  pub went_short : (a b : S) (r t : Given) (w m : World) (tasks mid : List Task) (handed : Handed) → Went Stands Tallied nodes a b r t http net w tasks m mid handed →
      Stopped Rests Tallied nodes a b r t http net w tasks Memory
  went_short a b r t w m tasks mid handed p = went_stop a b b r t t w m tasks mid Memory handed p (stops_there b t m mid p.ready)

  -- ---- the whole load

  stopped_as : (p : Played) (masters slaves : ℕ) (r t : Given) (stop : Stop) → StopsAs stop nodes (ledgers_alone p) r t → IsLoadTold (ended {T = Unit {0}} (Err stop)) nodes p masters slaves r t
  stopped_as p masters slaves r t WriteFault told = first_within r t (ledger_pieces nodes p) (after_all p.ending (handed_text masters slaves ∷ [])) told
  stopped_as p masters slaves r t Memory told = first_within r t (ledger_pieces nodes p) (after_all p.ending (handed_text masters slaves ∷ [])) told
  stopped_as p masters slaves r t (Forged line) told = told

  pub load_stopped : (a b : S) (r t : Given) (w : World) (tasks : List Task) (stop : Stop) → Stopped Rests Tallied nodes a b r t http net w tasks stop →
      RanLoad {T = Unit {0}} Stands Rests Tallied nodes a b r t http net w tasks (Err stop)
  load_stopped a b r t w tasks stop p = record {
    done = p.done;
    is = p.is;
    left = p.rests;
    tallied = p.tallied;
    told = stopped_as (report http net w tasks p.done) (enc_keys net w (actions_of net p.done)) (dec_keys net w (actions_of net p.done)) r t stop p.told;
    cut = p.cut;
  }

  -- All tasks were done, and the last line was written, or a part of it.
  last_told : (p : Played) (masters slaves : ℕ) (r t u : Given) (result : Result (Unit {0}) Stop) → p.ending ≡ Whole → Took r t (ledger_pieces nodes p) →
      Wrote result t u (handed_text masters slaves ∷ []) → IsLoadTold (ended result) nodes p masters slaves r u
  last_told p masters slaves r t u (Ok done) whole took wrote = (whole, took_on r t u (ledger_pieces nodes p) (handed_text masters slaves ∷ []) took wrote)
  last_told p masters slaves r t u (Err WriteFault) whole took wrote =
      subst (λ (e : Ending). TookFirst r u (ledger_pieces nodes p ++ after_all e (handed_text masters slaves ∷ []))) (sym whole)
      (first_after r t u (ledger_pieces nodes p) (handed_text masters slaves ∷ []) took wrote)
  last_told p masters slaves r t u (Err Memory) whole took wrote =
      subst (λ (e : Ending). TookFirst r u (ledger_pieces nodes p ++ after_all e (handed_text masters slaves ∷ []))) (sym whole)
      (first_after r t u (ledger_pieces nodes p) (handed_text masters slaves ∷ []) took wrote)
  last_told p masters slaves r t u (Err (Forged line)) whole took wrote = absurd wrote

  wrote_so : (result : Result (Unit {0}) Stop) (t u : Given) (texts : List (List ℕ)) → Wrote result t u texts → HasTaken t u
  wrote_so (Ok done) t u texts wrote = taken_whole t u texts wrote
  wrote_so (Err WriteFault) t u texts wrote = taken_first t u texts wrote
  wrote_so (Err Memory) t u texts wrote = taken_first t u texts wrote
  wrote_so (Err (Forged line)) t u texts wrote = absurd wrote

  left_then : (b : S) (w : World) (result : Result (Unit {0}) Stop) → IsReady Stands b net w → MatchResult result (λ answer. IsReady Stands b net w) (λ stop. Rests b net w)
  left_then b w (Ok done) ready = ready
  left_then b w (Err stop) ready = ways.rest b net w ready.stands

  pub load_done : (a b : S) (r t u : Given) (w after : World) (tasks : List Task) (handed : Handed) (result : Result (Unit {0}) Stop) →
      Went Stands Tallied nodes a b r t http net w tasks after [] handed → Wrote result t u (handed_text handed.masters handed.slaves ∷ []) →
      RanLoad Stands Rests Tallied nodes a b r u http net w tasks result
  load_done a b r t u w after tasks handed result p wrote =
      let said : report http net w tasks p.done ≡ record { items = p.items; world = after; ending = Whole } =
      ap (report http net w tasks) (sym (append-nil p.done)) ∙ p.leads.said [] ∙ ap (reporting p.items) (all_done http net after)
      ∙ ap (λ (xs : List NumberedItem). record { items = xs; world = after; ending = Whole }) (append-nil p.items) in
      let masters = enc_keys net w (actions_of net p.done) in
      let slaves = dec_keys net w (actions_of net p.done) in
      record {
        done = p.done;
        is = subst (IsRunOf http net 1 w tasks) (append-nil p.done) (p.leads.is [] tt);
        left = subst (λ (q : Played). MatchResult result (λ answer. IsReady Stands b net q.world) (λ stop. Rests b net q.world)) (sym said) (left_then b after result p.ready);
        tallied = p.tallied;
        told = last_told (report http net w tasks p.done) masters slaves r t u result (ap (λ (q : Played). q.ending) said)
            (subst (λ (q : Played). Took r t (ledger_pieces nodes q)) (sym said) p.took)
            (subst (λ (n : ℕ). Wrote result t u (handed_text masters n ∷ [])) p.keys.slaves (subst (λ (n : ℕ). Wrote result t u (handed_text n handed.slaves ∷ [])) p.keys.masters wrote));
        cut = cut_behind ledgers_of nodes http net w tasks p.done r t u (subst (λ (q : Played). Took r t (ledger_pieces nodes q)) (sym said) p.took)
            (wrote_so result t u (handed_text handed.masters handed.slaves ∷ []) wrote);
      }
