-- The lines of a load, and which of their reports its sink takes.
use Rattle.std.proofs.Common.{◌≡◌, ◌∙◌, ℕ, Bool, true, false, List, [], ◌∷◌, refl, sym, ap, subst}
use Rattle.std.specs.Prelude.{if◌then◌else◌, Result, Ok, Err, OnOk}
use Rattle.std.specs.List.{list_all}
use Rattle.std.proofs.lemmas.List.{append-nil}
use Rattle.qkd_base.specs.declared.lane.Lane.{Lane}
use Rattle.net_model.specs.declared.reply.Reply.{Reply}
use Rattle.net_model.specs.Site.{Site}
use Rattle.net_model.specs.World.{Network, World}
use Rattle.net_model.specs.Action.{Action, Outcome, Replies}
use Rattle.net_model.specs.Step.{step}
use Rattle.run_types.specs.declared.command.Command.{Command}
use Rattle.run_types.specs.declared.command.Command.TheVariants as commands
use Rattle.run_types.specs.declared.item.Item.{Item}
use Rattle.run_types.specs.declared.item.NumberedItem.{NumberedItem}
use Rattle.run_model.specs.Turn.{HttpTexts}
use Rattle.run_model.specs.Script.{Script, Reports, Ends, asks}
use Rattle.run_model.specs.Lines.{script_of, begins}
use Rattle.run_model.specs.Play.{Whole, ForgedAt, Played, numbered, stopped_at, is_forged, play, IsPlay, OneOf}
use Rattle.run_model.specs.Headline.{Took, Given, report_pieces}
use Rattle.run_ops.specs.Acting.{Does, Plays}
use Rattle.run_lines.specs.declared.stop.Stop.{Stop}
use Rattle.run_lines.specs.Running.{IsReadySomewhere}
use Rattle.run_lines.specs.Running as reports
use Rattle.law_run.specs.Handed.{asks_no_key, enc_in, dec_in}
use Rattle.law_run.specs.Ledgers.{ledgers_of}
use Rattle.law_run.specs.Kinds.{is_ledger_line, is_unhanding}
use Rattle.law_run.proofs.LoadTasks.{begins_ledgers, other_ledgers, line_ledgers, begins_unasking, line_unasking}
use Rattle.run_tasks.specs.declared.handed.Handed.{Handed}
use Rattle.run_tasks.specs.Counting.{AreHanded, no_keys}
use Rattle.run_tasks.specs.Lines.{is_silent, Finishes, Stops, Runs}
use Rattle.run_tasks.proofs.Keys.{none_handed, asked_handed}
use Rattle.run_tasks.proofs.Telling.{none_took, none_told, all_told}

abbrev no_more : List Action
no_more = []

-- The script asks for no key and reports no ledger.
pub record IsSilent (net : Network) (w : World) (script : Script) : Type 0 where
  pub keys : (actions : List Action) → IsPlay net w script actions → list_all asks_no_key actions ≡ true
  pub ledgers : (number : ℕ) (actions : List Action) → ledgers_of (play net number w script actions).items ≡ []

pub begins_silent : (net : Network) (w : World) (v : ℕ) → IsSilent net w (begins v)
begins_silent net w v = record { keys = λ actions h. begins_unasking net w v actions h; ledgers = λ number actions. begins_ledgers net number w v actions }

silent_parts : (c : Command) → is_silent c ≡ true → (is_unhanding c ≡ true) × (is_ledger_line c ≡ false)
silent_parts (commands.Bits link at count) h = (refl, refl)
silent_parts (commands.Fill master slave bits count) h = (refl, refl)
silent_parts (commands.Settle rounds) h = (refl, refl)
silent_parts (commands.Ledger lane) h = cc
silent_parts c h = cc

pub line_silent : (http : HttpTexts) (net : Network) (w : World) (site : Site) (c : Command) → is_silent c ≡ true → IsSilent net w (script_of http site c)
line_silent http net w site c h =
    let parts = silent_parts c h in
    record { keys = λ actions p. line_unasking http net w site c actions parts.0 p; ledgers = λ number actions. other_ledgers http net number w site c actions parts.1 }

module _ {S : Type 0} (Stands Rests : S → Network → World → Type 0) (Tallied : S → S → Site → List Action → Type 0) (nodes : List (List ℕ)) (a b : S) (number : ℕ) (net : Network) (w : World) where
  -- The items are those that the script reported.
  items_are : (script : Script) (items : List Item) → (p : Plays Stands Tallied a b net w script items) → (play net number w script p.actions).items ≡ numbered number items
  items_are script items p = ap (λ (q : Played). q.items) (p.said number)

  -- ---- a silent script: the sink takes nothing

  pub silent_finishes : (r x y : Given) (script : Script) → IsSilent net w script → reports.Finishes Stands Tallied nodes a b x y number net w script →
      Finishes Stands Tallied nodes a b r r number net w script no_keys
  silent_finishes r x y script silent f = record {
    items = f.items;
    plays = f.plays;
    took = none_took nodes r (numbered number f.items) (ap ledgers_of (sym (items_are script f.items f.plays)) ∙ silent.ledgers number f.plays.actions);
    keys = none_handed net w f.plays.actions (silent.keys f.plays.actions f.plays.is);
  }

  pub silent_stops : (r x y : Given) (script : Script) (stop : Stop) → IsSilent net w script → reports.Stops Rests Tallied nodes a b x y number net w script stop →
      Stops Rests Tallied nodes a b r r number net w script stop
  silent_stops r x y script stop silent s = record {
    actions = s.actions;
    is = s.is;
    rests = s.rests;
    tallied = s.tallied;
    told = none_told nodes (play net number w script s.actions) r x y stop (silent.ledgers number s.actions) s.told;
  }

  -- ---- a ledger: the sink takes it

  pub ledger_finishes : (r t : Given) (http : HttpTexts) (site : Site) (lane : Lane) → reports.Finishes Stands Tallied nodes a b r t number net w (script_of http site (commands.Ledger lane)) →
      Finishes Stands Tallied nodes a b r t number net w (script_of http site (commands.Ledger lane)) no_keys
  ledger_finishes r t http site lane f =
      let same = items_are (script_of http site (commands.Ledger lane)) f.items f.plays in
      let all : ledgers_of (numbered number f.items) ≡ numbered number f.items = ap ledgers_of (sym same) ∙ line_ledgers http net number w site lane f.plays.actions ∙ same in
      record {
        items = f.items;
        plays = f.plays;
        took = subst (λ (xs : List NumberedItem). Took r t (report_pieces nodes xs)) (sym all) f.took;
        keys = none_handed net w f.plays.actions (line_unasking http net w site (commands.Ledger lane) f.plays.actions refl f.plays.is);
      }

  pub ledger_stops : (r t : Given) (http : HttpTexts) (site : Site) (lane : Lane) (stop : Stop) →
      reports.Stops Rests Tallied nodes a b r t number net w (script_of http site (commands.Ledger lane)) stop →
      Stops Rests Tallied nodes a b r t number net w (script_of http site (commands.Ledger lane)) stop
  ledger_stops r t http site lane stop s = record {
    actions = s.actions;
    is = s.is;
    rests = s.rests;
    tallied = s.tallied;
    told = all_told nodes (play net number w (script_of http site (commands.Ledger lane)) s.actions) r t stop (line_ledgers http net number w site lane s.actions) s.told;
  }

  -- ---- a request for keys

  asked_plays : (action : Action) (reply : Reply) (items : Outcome → List Item) → (d : Does Stands Tallied a b net w action (Replies reply)) →
      (p : Plays Stands Tallied a b net w (asks action items) (items (Replies reply))) × (p.actions ≡ d.action ∷ [])
  unfolding play
  asked_plays action reply items d =
      let out = step net w d.action in
      let calm : is_forged out.1 ≡ false = ap is_forged d.said in (
        record {
          actions = d.action ∷ [];
          after = out.0;
          is = (d.is, d.may, subst (λ (f : Bool). OneOf f (no_more ≡ []) (IsPlay net out.0 (Reports (items out.1) Ends) [])) (sym calm) refl);
          said = λ n.
              ap (λ (f : Bool). if f then stopped_at out.0 (ForgedAt n) else play net n out.0 (Reports (items out.1) Ends) []) calm
              ∙ ap (λ (xs : List NumberedItem). record { items = xs; world = out.0; ending = Whole }) (append-nil (numbered n (items out.1)))
              ∙ ap (λ (o : Outcome). record { items = numbered n (items o); world = out.0; ending = Whole }) d.said;
          ready = d.ready;
          tallied = d.tallied;
        },
        refl,
      )

  pub asked_finishes : (r : Given) (http : HttpTexts) (site : Site) (command : Command) (action : Action) (reply : Reply) (items : Outcome → List Item) (handed : Handed) →
      is_ledger_line command ≡ false → script_of http site command ≡ asks action items → Does Stands Tallied a b net w action (Replies reply) →
      handed.masters ≡ enc_in action (Replies reply) → handed.slaves ≡ dec_in action (Replies reply) →
      Finishes Stands Tallied nodes a b r r number net w (script_of http site command) handed
  asked_finishes r http site command action reply items handed other is d masters slaves =
      let script = script_of http site command in
      let told = items (Replies reply) in
      let both = asked_plays action reply items d in
      let all : (p : Plays Stands Tallied a b net w script told) × (p.actions ≡ d.action ∷ []) =
      subst (λ (s : Script). (p : Plays Stands Tallied a b net w s told) × (p.actions ≡ d.action ∷ [])) (sym is) both in
      let p = all.0 in
      record {
        items = told;
        plays = p;
        took = none_took nodes r (numbered number told) (ap ledgers_of (sym (items_are script told p)) ∙ other_ledgers http net number w site command p.actions other);
        keys =
            subst (λ (xs : List Action). AreHanded net w xs handed) (sym all.1)
            (asked_handed net w d.action action reply d.is d.said handed masters slaves);
      }

-- A script that was done whole leaves the network ready.
pub ready_after : {S : Type 0} (Stands Rests : S → Network → World → Type 0) (Tallied : S → S → Site → List Action → Type 0) (nodes : List (List ℕ)) (old new : S)
    (before taken : Given) (number : ℕ) (script : Script) (result : Result Handed Stop) → Runs Stands Rests Tallied nodes old new before taken number script result →
    IsReadySomewhere Stands old → OnOk result (IsReadySomewhere Stands new)
ready_after Stands Rests Tallied nodes old new before taken number script (Ok handed) runs ready = let f = runs ready.0 ready.1 ready.2 in (ready.0, f.plays.after, f.plays.ready)
ready_after Stands Rests Tallied nodes old new before taken number script (Err stop) runs ready = tt
