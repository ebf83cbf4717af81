-- How a run goes through a script, and where it stops.
use Rattle.std.proofs.Common.{◌≡◌, ℕ, Bool, true, false, List, [], ◌∷◌, ◌++◌, refl, sym, ap, subst, ◌∙◌}
use Rattle.std.specs.Prelude.{if◌then◌else◌, Result, Ok, Err, MatchResult, OnOk}
use Rattle.std.proofs.lemmas.List.{append-nil}
use Rattle.net_model.specs.Site.{Site}
use Rattle.net_model.specs.World.{Network, World}
use Rattle.net_model.specs.Action.{Action, Outcome, ForgedMatch}
use Rattle.net_model.specs.Step.{step}
use Rattle.run_types.specs.declared.item.Item.{Item}
use Rattle.run_types.specs.declared.item.NumberedItem.{NumberedItem}
use Rattle.run_model.specs.Script.{Script, Ends, Reports, Looks, Asks, asks, then_comes}
use Rattle.run_model.specs.Play.{Whole, ForgedAt, Played, numbered, is_forged, reporting, stopped_at, play, OneOf, IsPlay}
use Rattle.run_model.specs.Report.{is_whole}
use Rattle.run_model.specs.Headline.{Took, TookFirst, Given, report_pieces}
use Rattle.run_ops.specs.Acting.{IsReady, Does, Begins, Plays}
use Rattle.run_lines.specs.declared.stop.Stop.{Stop}
use Rattle.run_lines.specs.declared.stop.Stop.TheVariants.{WriteFault, Memory, Forged}
use Rattle.run_lines.specs.Reporting.{Wrote}
use Rattle.run_lines.specs.Going.{Leads, Reached}
use Rattle.run_lines.specs.Running.{StopsAs, Finishes, Stops, Ran, Runs, IsReadySomewhere}
use Rattle.run_lines.proofs.Taking.{took_none, took_on, first_none, first_within, first_after, pieces_on, pieces_none, numbered_on}
use Rattle.run_lines.proofs.Leading.{nothing, stays_put, same_world, leads_none, leads_told, leads_looks, leads_asked, leads_on, leads_after, goes_beyond}

-- what a network guarantees of its worlds and of its tally of actions
pub record Ways {S : Type 0} (Stands Rests : S → Network → World → Type 0) (Tallied : S → S → Site → List Action → Type 0) : Type 0 where
  pub rest : (s : S) (net : Network) (w : World) → Stands s net w → Rests s net w
  pub none : (s : S) (net : Network) (w : World) → Stands s net w → Tallied s s net.site []
  pub more : (a b c : S) (sited : Site) (xs ys : List Action) → Tallied a b sited xs → Tallied b c sited ys → Tallied a c sited (xs ++ ys)

-- a network is ready after a script was run to its end
pub ready_after : {S T : Type 0} (Stands Rests : S → Network → World → Type 0) (Tallied : S → S → Site → List Action → Type 0) (nodes : List (List ℕ)) (old new : S)
    (before taken : Given) (number : ℕ) (script : Script) (result : Result T Stop) → Runs Stands Rests Tallied nodes old new before taken number script result →
    IsReadySomewhere Stands old → OnOk result (IsReadySomewhere Stands new)
ready_after Stands Rests Tallied nodes old new before taken number script (Ok answer) runs ready = let f = runs ready.0 ready.1 ready.2 in (ready.0, f.plays.after, f.plays.ready)
ready_after Stands Rests Tallied nodes old new before taken number script (Err stop) runs ready = tt

-- ---- the only action of a script

abbrev none_left : List Action → List Action
none_left rest = rest

only_one : (rest : List Action) (forged : Bool) → OneOf forged (rest ≡ []) (rest ≡ []) → rest ≡ []
only_one rest true is = is
only_one rest false is = is

ends_there : (w : World) (number : ℕ) (p : Played) (forged : Bool) → p.world ≡ w → (if forged then stopped_at w (ForgedAt number) else p).world ≡ w
ends_there w number p true is = refl
ends_there w number p false is = is

either : (forged : Bool) (A B : Type 0) → A → B → OneOf forged A B
either true A B a b = a
either false A B a b = b

-- ---- a report that stopped after earlier items

pub stops_as : (nodes : List (List ℕ)) (p q : Played) (xs : List NumberedItem) (a b c : Given) → (stop : Stop) → q ≡ reporting xs p → Took a b (report_pieces nodes xs) →
    StopsAs stop nodes p b c → StopsAs stop nodes q a c
stops_as nodes p q xs a b c WriteFault same before told =
    subst (TookFirst a c) (sym (ap (λ (r : Played). report_pieces nodes r.items) same ∙ pieces_on nodes xs p.items)) (first_after a b c _ _ before told)
stops_as nodes p q xs a b c Memory same before told =
    subst (TookFirst a c) (sym (ap (λ (r : Played). report_pieces nodes r.items) same ∙ pieces_on nodes xs p.items)) (first_after a b c _ _ before told)
stops_as nodes p q xs a b c (Forged line) same before told = (
  ap (λ (r : Played). r.ending) same ∙ told.0,
  subst (Took a c) (sym (ap (λ (r : Played). report_pieces nodes r.items) same ∙ pieces_on nodes xs p.items)) (took_on a b c _ _ before told.1),
)

-- the same report, before another script
stops_beyond : (nodes : List (List ℕ)) (p q : Played) (more : List NumberedItem) (a b : Given) (stop : Stop) → q.items ≡ p.items ++ more → (is_whole p.ending ≡ false → q ≡ p) →
    StopsAs stop nodes p a b → StopsAs stop nodes q a b
stops_beyond nodes p q more a b WriteFault items cut told = subst (TookFirst a b) (sym (ap (report_pieces nodes) items ∙ pieces_on nodes p.items more)) (first_within a b _ _ told)
stops_beyond nodes p q more a b Memory items cut told = subst (TookFirst a b) (sym (ap (report_pieces nodes) items ∙ pieces_on nodes p.items more)) (first_within a b _ _ told)
stops_beyond nodes p q more a b (Forged line) items cut told =
    let same = cut (ap is_whole told.0) in subst (λ (r : Played). StopsAs (Forged line) nodes r a b) (sym same) told

module _ {S : Type 0} (Stands Rests : S → Network → World → Type 0) (Tallied : S → S → Site → List Action → Type 0) (ways : Ways Stands Rests Tallied) (nodes : List (List ℕ)) (number : ℕ)
    (net : Network) where
  -- ---- a run on its way

  pub reached_none : (s : S) (t : Given) (w : World) (script : Script) → IsReady Stands s net w → Reached Stands Tallied nodes s s t t number net w script w script
  reached_none s t w script ready = record {
    actions = [];
    items = [];
    leads = leads_none net w script;
    ready = ready;
    tallied = ways.none s net w ready.stands;
    took = subst (Took t t) (sym (pieces_none nodes)) (took_none t);
  }

  pub reached_on : (a b c : S) (r t u : Given) (w m after : World) (script mid rest : Script) → Reached Stands Tallied nodes a b r t number net w script m mid →
      Reached Stands Tallied nodes b c t u number net m mid after rest → Reached Stands Tallied nodes a c r u number net w script after rest
  reached_on a b c r t u w m after script mid rest p q = record {
    actions = p.actions ++ q.actions;
    items = p.items ++ q.items;
    leads = leads_on net w m after script mid rest p.actions q.actions p.items q.items p.leads q.leads;
    ready = q.ready;
    tallied = ways.more a b c net.site p.actions q.actions p.tallied q.tallied;
    took =
        subst (Took r u) (sym (ap (report_pieces nodes) (numbered_on number p.items q.items) ∙ pieces_on nodes (numbered number p.items) (numbered number q.items)))
        (took_on r t u _ _ p.took q.took);
  }

  pub reached_stop : (a b c : S) (r t u : Given) (w m : World) (script mid : Script) (stop : Stop) → Reached Stands Tallied nodes a b r t number net w script m mid →
      Stops Rests Tallied nodes b c t u number net m mid stop → Stops Rests Tallied nodes a c r u number net w script stop
  reached_stop a b c r t u w m script mid stop p q =
      let said = p.leads.said number q.actions q.is in
      record {
        actions = p.actions ++ q.actions;
        is = p.leads.is q.actions q.is;
        rests = subst (λ (r : Played). Rests c net r.world) (sym said) q.rests;
        tallied = ways.more a b c net.site p.actions q.actions p.tallied q.tallied;
        told = stops_as nodes _ _ (numbered number p.items) r t u stop said p.took q.told;
      }

  -- out of memory before anything more is done
  pub stops_here : (s : S) (t : Given) (w : World) (script : Script) → IsReady Stands s net w → Stops Rests Tallied nodes s s t t number net w script Memory
  stops_here s t w script ready = record {
    actions = [];
    is = nothing net w script;
    rests = subst (Rests s net) (sym (stays_put net number w script)) (ways.rest s net w ready.stands);
    tallied = ways.none s net w ready.stands;
    told = first_none t _;
  }

  -- a run whose rest has no action is finished
  pub finishes : (a b : S) (r t : Given) (w after : World) (script : Script) → Reached Stands Tallied nodes a b r t number net w script after Ends →
      Finishes Stands Tallied nodes a b r t number net w script
  unfolding play
  finishes a b r t w after script p = record {
    items = p.items;
    plays = record {
      actions = p.actions;
      after = after;
      is = subst (IsPlay net w script) (append-nil p.actions) (p.leads.is [] refl);
      said = λ n.
          ap (play net n w script) (sym (append-nil p.actions)) ∙ p.leads.said n [] refl
          ∙ ap (λ (xs : List NumberedItem). record { items = xs; world = after; ending = Whole }) (append-nil (numbered n p.items));
      ready = p.ready;
      tallied = p.tallied;
    };
    took = p.took;
  }

  -- ---- a script followed by another one

  pub reached_after : (a b : S) (r t : Given) (w : World) (script last : Script) → (f : Finishes Stands Tallied nodes a b r t number net w script) →
      Reached Stands Tallied nodes a b r t number net w (then_comes script last) f.plays.after last
  reached_after a b r t w script last f = record {
    actions = f.plays.actions;
    items = f.items;
    leads = leads_after net w f.plays.after script last f.plays.actions f.items f.plays.is f.plays.said;
    ready = f.plays.ready;
    tallied = f.plays.tallied;
    took = f.took;
  }

  pub stops_after : (a b : S) (r t : Given) (w : World) (script last : Script) (stop : Stop) → Stops Rests Tallied nodes a b r t number net w script stop →
      Stops Rests Tallied nodes a b r t number net w (then_comes script last) stop
  stops_after a b r t w script last stop p =
      let more = goes_beyond net number w script last p.actions p.is in
      record {
        actions = p.actions;
        is = more.is;
        rests = subst (Rests b net) (sym more.world) p.rests;
        tallied = p.tallied;
        told = stops_beyond nodes _ _ more.more r t stop more.items more.cut p.told;
      }

  -- a run that goes on to the end or to a stop
  pub ran_on : {T : Type 0} (a b c : S) (r t u : Given) (w m after : World) (script mid : Script) (result : Result T Stop) → Reached Stands Tallied nodes a b r t number net w script m mid →
      MatchResult result (λ done. Reached Stands Tallied nodes b c t u number net m mid after Ends) (λ stop. Stops Rests Tallied nodes b c t u number net m mid stop) →
      Ran Stands Rests Tallied nodes a c r u number net w script result
  ran_on a b c r t u w m after script mid (Ok done) p q = finishes a c r u w after script (reached_on a b c r t u w m after script mid Ends p q)
  ran_on a b c r t u w m after script mid (Err stop) p q = reached_stop a b c r t u w m script mid stop p q

  -- ---- items that are reported

  pub reached_told : (s : S) (r t : Given) (w : World) (items : List Item) (next : Script) → IsReady Stands s net w → Took r t (report_pieces nodes (numbered number items)) →
      Reached Stands Tallied nodes s s r t number net w (Reports items next) w next
  reached_told s r t w items next ready took = record {
    actions = [];
    items = items;
    leads = leads_told net w items next;
    ready = ready;
    tallied = ways.none s net w ready.stands;
    took = took;
  }

  pub reached_looks : (s : S) (t : Given) (w : World) (next : World → Script) → IsReady Stands s net w → Reached Stands Tallied nodes s s t t number net w (Looks next) w (next w)
  reached_looks s t w next ready = record {
    actions = [];
    items = [];
    leads = leads_looks net w next;
    ready = ready;
    tallied = ways.none s net w ready.stands;
    took = subst (Took t t) (sym (pieces_none nodes)) (took_none t);
  }

  first_told : (r t : Given) (w : World) (items : List Item) (next : Script) → TookFirst r t (report_pieces nodes (numbered number items)) →
      TookFirst r t (report_pieces nodes (play net number w (Reports items next) []).items)
  unfolding play
  first_told r t w items next told = subst (TookFirst r t) (sym (pieces_on nodes (numbered number items) (play net number w next []).items)) (first_within r t _ _ told)

  -- the items are reported, or a prefix of their text is
  pub told : {T : Type 0} (s : S) (r t : Given) (w : World) (items : List Item) (next : Script) (result : Result T Stop) → IsReady Stands s net w →
      Wrote result r t (report_pieces nodes (numbered number items)) →
      MatchResult result (λ done. Reached Stands Tallied nodes s s r t number net w (Reports items next) w next) (λ stop. Stops Rests Tallied nodes s s r t number net w (Reports items next) stop)
  told s r t w items next (Ok done) ready wrote = reached_told s r t w items next ready wrote
  told s r t w items next (Err WriteFault) ready wrote = record {
    actions = [];
    is = nothing net w (Reports items next);
    rests = subst (Rests s net) (sym (stays_put net number w (Reports items next))) (ways.rest s net w ready.stands);
    tallied = ways.none s net w ready.stands;
    told = first_told r t w items next wrote;
  }
  told s r t w items next (Err Memory) ready wrote = record {
    actions = [];
    is = nothing net w (Reports items next);
    rests = subst (Rests s net) (sym (stays_put net number w (Reports items next))) (ways.rest s net w ready.stands);
    tallied = ways.none s net w ready.stands;
    told = first_told r t w items next wrote;
  }
  told s r t w items next (Err (Forged line)) ready wrote = absurd wrote

  -- ---- an action

  pub asked : (a b : S) (t : Given) (w : World) (action : Action) (outcome : Outcome) (next : Outcome → Script) → (d : Does Stands Tallied a b net w action outcome) →
      is_forged outcome ≡ false → Reached Stands Tallied nodes a b t t number net w (Asks action next) (step net w d.action).0 (next outcome)
  asked a b t w action outcome next d calm = record {
    actions = d.action ∷ [];
    items = [];
    leads =
        subst (λ (o : Outcome). Leads net w (Asks action next) (d.action ∷ []) [] (step net w d.action).0 (next o)) d.said
        (leads_asked net w d.action action next d.is d.may (ap is_forged d.said ∙ calm));
    ready = d.ready;
    tallied = d.tallied;
    took = subst (Took t t) (sym (pieces_none nodes)) (took_none t);
  }

  pub forged : (a b : S) (t : Given) (w : World) (action : Action) (next : Outcome → Script) → Does Stands Tallied a b net w action ForgedMatch →
      Stops Rests Tallied nodes a b t t number net w (Asks action next) (Forged number)
  unfolding play
  forged a b t w action next d =
      let out = step net w d.action in
      let said : play net number w (Asks action next) (d.action ∷ []) ≡ stopped_at out.0 (ForgedAt number) =
      ap (λ (b : Bool). if b then stopped_at out.0 (ForgedAt number) else play net number out.0 (next out.1) []) (ap is_forged d.said) in
      record {
        actions = d.action ∷ [];
        is = (d.is, d.may, subst (λ (b : Bool). OneOf b (none_left [] ≡ []) (IsPlay net out.0 (next out.1) [])) (sym (ap is_forged d.said)) refl);
        rests = subst (λ (r : Played). Rests b net r.world) (sym said) (ways.rest b net out.0 d.ready.stands);
        tallied = d.tallied;
        told = (ap (λ (r : Played). r.ending) said, subst (λ (r : Played). Took t t (report_pieces nodes r.items)) (sym said) (subst (Took t t) (sym (pieces_none nodes)) (took_none t)));
      }

  -- ---- out of memory during an action

  pub begins_stop : (a b : S) (t : Given) (w : World) (script : Script) → Begins Rests Tallied a b net w script → Stops Rests Tallied nodes a b t t number net w script Memory
  begins_stop a b t w script p = record {
    actions = p.actions;
    is = p.is;
    rests = subst (Rests b net) (same_world net 0 number w script p.actions) p.rests;
    tallied = p.tallied;
    told = first_none t _;
  }

  begun_by : (b : S) (w : World) (action : Action) (next : Outcome → Script) (actions : List Action) → IsPlay net w (asks action (λ outcome. [])) actions →
      Rests b net (play net 0 w (asks action (λ outcome. [])) actions).world →
      IsPlay net w (Asks action next) actions × Rests b net (play net number w (Asks action next) actions).world
  unfolding play
  begun_by b w action next [] is rests = (tt, rests)
  begun_by b w action next (a ∷ rest) is rests =
      let out = step net w a in
      let none : rest ≡ [] = only_one rest (is_forged out.1) is.2 in
      let here : Rests b net out.0 =
      subst (Rests b net) (ends_there out.0 0 (play net 0 out.0 (Reports [] Ends) rest) (is_forged out.1) refl) rests in
      let last : (rest : List Action) → rest ≡ [] → OneOf (is_forged out.1) (rest ≡ []) (IsPlay net out.0 (next out.1) rest) = λ rest e.
      either (is_forged out.1) (rest ≡ []) (IsPlay net out.0 (next out.1) rest) e (subst (IsPlay net out.0 (next out.1)) (sym e) (nothing net out.0 (next out.1))) in
      let there : (rest : List Action) → rest ≡ [] → (play net number out.0 (next out.1) rest).world ≡ out.0 = λ rest e.
      ap (λ (xs : List Action). (play net number out.0 (next out.1) xs).world) e ∙ stays_put net number out.0 (next out.1) in
      ((is.0, is.1, last rest none), subst (Rests b net) (sym (ends_there out.0 number (play net number out.0 (next out.1) rest) (is_forged out.1) (there rest none))) here)

  pub begun : (a b : S) (t : Given) (w : World) (action : Action) (next : Outcome → Script) → Begins Rests Tallied a b net w (asks action (λ outcome. [])) →
      Stops Rests Tallied nodes a b t t number net w (Asks action next) Memory
  begun a b t w action next p =
      let all = begun_by b w action next p.actions p.is p.rests in
      record { actions = p.actions; is = all.0; rests = all.1; tallied = p.tallied; told = first_none t _ }

  -- ---- a line that asks for one action

  pub one_asked : {T : Type 0} (a b : S) (r t : Given) (w : World) (action : Action) (outcome : Outcome) (items : Outcome → List Item) (tell : List Item) (names : List (List ℕ))
      (result : Result T Stop) → Does Stands Tallied a b net w action outcome → is_forged outcome ≡ false → tell ≡ items outcome → names ≡ nodes →
      Wrote result r t (report_pieces names (numbered number tell)) → Ran Stands Rests Tallied nodes a b r t number net w (asks action items) result
  one_asked a b r t w action outcome items tell names result d calm same named wrote =
      let here = asked a b r w action outcome (λ o. Reports (items o) Ends) d calm in
      let m = (step net w d.action).0 in
      let there = told b r t m (items outcome) Ends result d.ready (subst (λ (xs : List Item). Wrote result r t (report_pieces nodes (numbered number xs))) same (subst (λ (ns : List (List ℕ)). Wrote result r t (report_pieces ns (numbered number tell))) named wrote)) in
      ran_on a b b r r t w m m (asks action items) (Reports (items outcome) Ends) result here there

  -- out of memory after the action
  pub asked_stops : (a b : S) (t : Given) (w : World) (action : Action) (outcome : Outcome) (next : Outcome → Script) → Does Stands Tallied a b net w action outcome →
      is_forged outcome ≡ false → Stops Rests Tallied nodes a b t t number net w (Asks action next) Memory
  asked_stops a b t w action outcome next d calm =
      let m = (step net w d.action).0 in
      reached_stop a b b t t t w m (Asks action next) (next outcome) Memory (asked a b t w action outcome next d calm) (stops_here b t m (next outcome) d.ready)

  -- nothing is left to do after the action
  pub asked_ends : (a b : S) (t : Given) (w : World) (action : Action) (outcome : Outcome) (next : Outcome → Script) → Does Stands Tallied a b net w action outcome →
      is_forged outcome ≡ false → next outcome ≡ Ends → Finishes Stands Tallied nodes a b t t number net w (Asks action next)
  asked_ends a b t w action outcome next d calm ends =
      let m = (step net w d.action).0 in
      finishes a b t t w m (Asks action next) (subst (λ (s : Script). Reached Stands Tallied nodes a b t t number net w (Asks action next) m s) ends (asked a b t w action outcome next d calm))

  -- the outcome of the action is reported, whatever other outcomes would lead to
  pub asked_told : {T : Type 0} (a b : S) (r t : Given) (w : World) (action : Action) (outcome : Outcome) (next : Outcome → Script) (tell : List Item) (names : List (List ℕ))
      (result : Result T Stop) → Does Stands Tallied a b net w action outcome → is_forged outcome ≡ false → next outcome ≡ Reports tell Ends → names ≡ nodes →
      Wrote result r t (report_pieces names (numbered number tell)) → Ran Stands Rests Tallied nodes a b r t number net w (Asks action next) result
  asked_told a b r t w action outcome next tell names result d calm same named wrote =
      let m = (step net w d.action).0 in
      let here = subst (λ (s : Script). Reached Stands Tallied nodes a b r r number net w (Asks action next) m s) same (asked a b r w action outcome next d calm) in
      let there = told b r t m tell Ends result d.ready (subst (λ (ns : List (List ℕ)). Wrote result r t (report_pieces ns (numbered number tell))) named wrote) in
      ran_on a b b r r t w m m (Asks action next) (Reports tell Ends) result here there

  -- the outcome of the action is reported after a look at the world
  pub asked_looked : {T : Type 0} (a b : S) (r t : Given) (w : World) (action : Action) (outcome : Outcome) (items : World → Outcome → List Item) (tell : List Item) (names : List (List ℕ))
      (result : Result T Stop) → Does Stands Tallied a b net w action outcome → is_forged outcome ≡ false → ((after : World) → Stands b net after → tell ≡ items after outcome) → names ≡ nodes →
      Wrote result r t (report_pieces names (numbered number tell)) → Ran Stands Rests Tallied nodes a b r t number net w (Asks action (λ out. Looks (λ at. Reports (items at out) Ends))) result
  asked_looked a b r t w action outcome items tell names result d calm same named wrote =
      let m = (step net w d.action).0 in
      let next : Outcome → Script = λ out. Looks (λ at. Reports (items at out) Ends) in
      let here = reached_on a b b r r r w m m (Asks action next) (next outcome) (Reports (items m outcome) Ends) (asked a b r w action outcome next d calm)
      (reached_looks b r m (λ at. Reports (items at outcome) Ends) d.ready) in
      let there = told b r t m (items m outcome) Ends result d.ready
      (subst (λ (xs : List Item). Wrote result r t (report_pieces nodes (numbered number xs))) (same m d.ready.stands)
      (subst (λ (ns : List (List ℕ)). Wrote result r t (report_pieces ns (numbered number tell))) named wrote)) in
      ran_on a b b r r t w m m (Asks action next) (Reports (items m outcome) Ends) result here there

  -- ---- a script that was run to its end, followed by its report

  plays_first : (a b : S) (r t : Given) (w : World) (script : Script) (items : List Item) (stop : Stop) → (p : Plays Stands Tallied a b net w script items) →
      StopsAs stop nodes (record { items = numbered number items; world = p.after; ending = Whole }) r t → Stops Rests Tallied nodes a b r t number net w script stop
  plays_first a b r t w script items stop p told = record {
    actions = p.actions;
    is = p.is;
    rests = subst (λ (q : Played). Rests b net q.world) (sym (p.said number)) (ways.rest b net p.after p.ready.stands);
    tallied = p.tallied;
    told = subst (λ (q : Played). StopsAs stop nodes q r t) (sym (p.said number)) told;
  }

  plays_wrote : {T : Type 0} (a b : S) (r t : Given) (w : World) (script : Script) (items : List Item) (result : Result T Stop) → Plays Stands Tallied a b net w script items →
      Wrote result r t (report_pieces nodes (numbered number items)) → Ran Stands Rests Tallied nodes a b r t number net w script result
  plays_wrote a b r t w script items (Ok done) p wrote = record { items = items; plays = p; took = wrote }
  plays_wrote a b r t w script items (Err WriteFault) p wrote = plays_first a b r t w script items WriteFault p wrote
  plays_wrote a b r t w script items (Err Memory) p wrote = plays_first a b r t w script items Memory p wrote
  plays_wrote a b r t w script items (Err (Forged line)) p wrote = absurd wrote

  pub plays_told : {T : Type 0} (a b : S) (r t : Given) (w : World) (script : Script) (items tell : List Item) (names : List (List ℕ)) (result : Result T Stop) →
      Plays Stands Tallied a b net w script items → tell ≡ items → names ≡ nodes → Wrote result r t (report_pieces names (numbered number tell)) →
      Ran Stands Rests Tallied nodes a b r t number net w script result
  plays_told a b r t w script items tell names result p same named wrote =
      plays_wrote a b r t w script items result p
      (subst (λ (xs : List Item). Wrote result r t (report_pieces nodes (numbered number xs))) same
      (subst (λ (ns : List (List ℕ)). Wrote result r t (report_pieces ns (numbered number tell))) named wrote))

  -- items that are reported without an action
  pub unasked_told : {T : Type 0} (a : S) (r t : Given) (w : World) (tell : List Item) (names : List (List ℕ)) (result : Result T Stop) → IsReady Stands a net w → names ≡ nodes →
      Wrote result r t (report_pieces names (numbered number tell)) → Ran Stands Rests Tallied nodes a a r t number net w (Reports tell Ends) result
  unasked_told a r t w tell names result ready named wrote =
      ran_on a a a r r t w w w (Reports tell Ends) (Reports tell Ends) result (reached_none a r w (Reports tell Ends) ready)
      (told a r t w tell Ends result ready (subst (λ (ns : List (List ℕ)). Wrote result r t (report_pieces ns (numbered number tell))) named wrote))
