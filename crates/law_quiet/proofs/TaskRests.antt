-- After each task of a run that came to its end, the network is quiet.
use Rattle.std.proofs.Common.{◌≡◌, ℕ, true, false, List, [], ◌∷◌, ◌++◌, refl, sym, subst, Option, Some, None}
use Rattle.net_model.specs.declared.event.Event.{Event}
use Rattle.net_model.specs.declared.event.Event.TheVariants as events
use Rattle.net_model.specs.declared.reply.Reply.{Reply}
use Rattle.net_model.specs.Premises.{IsNetwork}
use Rattle.net_model.specs.Site.{sender}
use Rattle.net_model.specs.World.{Network, World}
use Rattle.net_model.specs.Action.{Ok, Ask}
use Rattle.net_model.specs.Step.{run}
use Rattle.run_types.specs.declared.stream_call.StreamCall.{StreamCall}
use Rattle.run_types.specs.declared.stream_call.StreamCall.TheVariants as calls
use Rattle.run_types.specs.declared.command.Command.{Command}
use Rattle.run_types.specs.declared.command.Command.TheVariants as commands
use Rattle.run_types.specs.declared.entry.Entry.TheVariants.{Line, Block}
use Rattle.run_types.specs.declared.item.NumberedItem.{NumberedItem}
use Rattle.run_model.specs.Turn.{HttpTexts, Request, AnswersAtOnce, Calls, Turn, Unasked, Asked, turn_of, http_turn, event_of}
use Rattle.run_model.specs.Course.{is_request}
use Rattle.run_model.specs.Lines.{has_low, has_high, script_of_turn, script_of, begins}
use Rattle.run_model.specs.Play.{Ending, Whole, CutShort, ForgedAt, NoMemory, Played, stopped_at, play, OneOf}
use Rattle.run_model.specs.Works.{parts, block_run}
use Rattle.run_model.specs.Block.{block_items}
use Rattle.run_model.specs.Report.{Task, Begins, Does, Performed, Acts, Together, perform, IsPerformed, is_whole, with_rest, report, IsRunOf}
use Rattle.law_locality.proofs.Chains.{kept, block_is_run}
use Rattle.law_quiet.specs.Between.{AsksRequest, TaskAsks, AskRequests}
use Rattle.law_quiet.proofs.BlockRests.{block_rests}
use Rattle.law_quiet.proofs.KeptQuiet.{sends_nothing}
use Rattle.law_quiet.proofs.Leading.{any_told, Leads, leads_play}
use Rattle.law_quiet.proofs.ScriptRests.{Rests, rests_on, ticks_once, settles, takes_blocks, starts_once}

-- The turn orders no frame.
abbrev pub IsMute : Turn → Type 0
IsMute (Unasked items) = Unit {0}
IsMute (Asked action items) = sends_nothing action ≡ true

request_mute : (event : Event) → is_request event ≡ true → sends_nothing (Ask 0 event Ok) ≡ true
request_mute (events.Enc m s n bits) h = refl
request_mute (events.Dec s m names) h = refl
request_mute (events.Status m s) h = refl
request_mute (events.EncGroup m slaves n bits) h = refl
request_mute _ h = cc

pub http_mute : (v : ℕ) (response : Event → Reply → ℕ × List ℕ) (r : Request) → ((event : Event) → r ≡ Calls event → is_request event ≡ true) → IsMute (http_turn v response r)
http_mute v response (AnswersAtOnce status body) h = tt
http_mute v response (Calls event) h = request_mute event (h event refl)

pub stream_mute : (v : ℕ) (call : StreamCall) → sends_nothing (Ask v (event_of call) Ok) ≡ true
stream_mute v (calls.Open source peer bits) = refl
stream_mute v (calls.Join caller source stream bits) = refl
stream_mute v (calls.Get caller stream index) = refl
stream_mute v (calls.Close caller stream) = refl

-- A run came to its end only if each task did.
pub whole_first : (e : Ending) (p rest : Played) → p.ending ≡ e → (with_rest e p rest).ending ≡ Whole → p.ending ≡ Whole
whole_first Whole p rest is whole = is
whole_first CutShort p rest is whole = whole
whole_first (ForgedAt number) p rest is whole = whole
whole_first NoMemory p rest is whole = whole

-- What a task and those after it report together.
pub with_parts : (e : Ending) (p rest : Played) → e ≡ Whole → ((with_rest e p rest).items ≡ p.items ++ rest.items) × ((with_rest e p rest).ending ≡ rest.ending) × ((with_rest e p rest).world ≡ rest.world)
with_parts Whole p rest is = (refl, refl, refl)
with_parts CutShort p rest is = cc
with_parts (ForgedAt number) p rest is = cc
with_parts NoMemory p rest is = cc

module _ (http : HttpTexts) (net : Network) (network : IsNetwork net) where
  turn_rests : (w : World) → Rests net network w → (t : Turn) → IsMute t → Leads net (λ item. true) (Rests net network) w (script_of_turn t)
  turn_rests w h (Unasked items) mute = λ told. h
  turn_rests w h (Asked action items) mute = λ a asked may told. rests_on net network w h a action asked may mute

  line_rests : (command : Command) → AsksRequest http command → (w : World) → Rests net network w → Leads net (λ item. true) (Rests net network) w (script_of http net.site command)
  unfolding turn_of
  line_rests (commands.Bits link ends count) asks w h = takes_blocks net network link (has_low ends) (has_high ends) count w h
  line_rests (commands.Fill master slave bits count) asks w h = turn_rests w h (turn_of http net.site (commands.Fill master slave bits count)) refl
  line_rests (commands.Feed stream count) asks w h = turn_rests w h (turn_of http net.site (commands.Feed stream count)) refl
  line_rests (commands.Tick v) asks w h = ticks_once net network false v w h
  line_rests (commands.Settle rounds) asks w h = settles net network rounds w h
  line_rests (commands.Pass lane number) asks w h = turn_rests w h (turn_of http net.site (commands.Pass lane number)) refl
  line_rests (commands.Flip lane number bit) asks w h = turn_rests w h (turn_of http net.site (commands.Flip lane number bit)) refl
  line_rests (commands.Forge lane octets) asks w h = turn_rests w h (turn_of http net.site (commands.Forge lane octets)) refl
  line_rests (commands.Crash v) asks w h = turn_rests w h (turn_of http net.site (commands.Crash v)) refl
  line_rests (commands.Start v) asks w h = turn_rests w h (turn_of http net.site (commands.Start v)) refl
  line_rests (commands.Cut v call image) asks w h = turn_rests w h (turn_of http net.site (commands.Cut v call image)) refl
  line_rests (commands.Fail v call) asks w h = turn_rests w h (turn_of http net.site (commands.Fail v call)) refl
  line_rests (commands.LinkUp link) asks w h = turn_rests w h (turn_of http net.site (commands.LinkUp link)) refl
  line_rests (commands.LinkDown link) asks w h = turn_rests w h (turn_of http net.site (commands.LinkDown link)) refl
  line_rests (commands.Enc v master slave count bits) asks w h = turn_rests w h (turn_of http net.site (commands.Enc v master slave count bits)) refl
  line_rests (commands.Dec v slave master names) asks w h = turn_rests w h (turn_of http net.site (commands.Dec v slave master names)) refl
  line_rests (commands.Status v master slave) asks w h = turn_rests w h (turn_of http net.site (commands.Status v master slave)) refl
  line_rests (commands.Http v octets) asks w h = turn_rests w h (http_turn v http.response (http.request v octets)) (http_mute v http.response (http.request v octets) asks)
  line_rests (commands.Stream v call) asks w h = turn_rests w h (turn_of http net.site (commands.Stream v call)) (stream_mute v call)
  line_rests (commands.Show v name) asks w h = turn_rests w h (turn_of http net.site (commands.Show v name)) refl
  line_rests (commands.FillGroup master bits count slaves) asks w h = turn_rests w h (turn_of http net.site (commands.FillGroup master bits count slaves)) refl
  line_rests (commands.EncGroup v master count bits slaves) asks w h = turn_rests w h (turn_of http net.site (commands.EncGroup v master count bits slaves)) refl
  line_rests (commands.Ledger l) asks w h = λ a asked may told. rests_on net network w h a (Ask (sender net.site l) (events.Ledger l) Ok) asked may refl

  -- What is done for a task.

  whole_block : (w : World) (items : List NumberedItem) (after : World) (o : Option (List ℕ)) →
      (elim o as (λ o. Played) [ None ↦ record { items = items; world = after; ending = Whole } | Some places ↦ stopped_at after NoMemory ]).ending ≡ Whole →
      (elim o as (λ o. Played) [ None ↦ record { items = items; world = after; ending = Whole } | Some places ↦ stopped_at after NoMemory ]).world ≡ after
  whole_block w items after None whole = refl
  whole_block w items after (Some places) whole = cc

  module _ (workers : ℕ) where
    task_rests : (w : World) → Rests net network w → (t : Task) → TaskAsks http t → (d : Performed) → IsPerformed http net workers w t d → (perform http net w t d).ending ≡ Whole →
        Rests net network (perform http net w t d).world
    unfolding perform block_run
    task_rests w h (Begins number v) asks (Acts actions) plays whole = leads_play net (λ item. true) (Rests net network) number (begins v) w actions (starts_once net network v w h) plays whole (any_told (play net number w (begins v) actions).items)
    task_rests w h (Does (Line line)) asks (Acts actions) plays whole =
        leads_play net (λ item. true) (Rests net network) line.number (script_of http net.site line.command) w actions (line_rests line.command asks w h) plays whole
        (any_told (play net line.number w (script_of http net.site line.command) actions).items)
    task_rests w h (Does (Block lines)) asks (Together works) plays whole =
        subst (Rests net network) (sym (whole_block w (block_items http net w lines works) (run net w (block_run net works)) works.left_out whole))
        (kept net network (block_run net works) w h.0 (block_is_run net w (parts works) network h.0 plays.block), block_rests net network w h.0 h.1 (parts works) plays.block)
    task_rests w h (Begins number v) asks (Together works) plays whole = absurd plays
    task_rests w h (Does (Line line)) asks (Together works) plays whole = absurd plays
    task_rests w h (Does (Block lines)) asks (Acts actions) plays whole = absurd plays

    -- The next tasks follow only if this one ended whole.
    then_rests : (ds : List Performed) (e : Ending) (p rest : Played) (A : Type 0) → p.ending ≡ e → OneOf (is_whole e) A (ds ≡ []) → (with_rest e p rest).ending ≡ Whole →
        (A → rest.ending ≡ Whole → Rests net network rest.world) → Rests net network (with_rest e p rest).world
    then_rests ds Whole p rest A is h whole more = more h whole
    then_rests ds CutShort p rest A is h whole more = cc
    then_rests ds (ForgedAt number) p rest A is h whole more = cc
    then_rests ds NoMemory p rest A is h whole more = cc

    pub tasks_rest : (w : World) → Rests net network w → (ts : List Task) → AskRequests http ts → (ds : List Performed) → IsRunOf http net workers w ts ds → (report http net w ts ds).ending ≡ Whole →
        Rests net network (report http net w ts ds).world
    unfolding report
    tasks_rest w h [] asks [] plays whole = h
    tasks_rest w h (t ∷ ts) asks [] plays whole = cc
    tasks_rest w h [] asks (d ∷ ds) plays whole = absurd plays
    tasks_rest w h (t ∷ ts) asks (d ∷ ds) plays whole =
        let p : Played = perform http net w t d in
        let rest : Played = report http net p.world ts ds in
        let after = task_rests w h t asks.0 d plays.0 (whole_first p.ending p rest refl whole) in
        then_rests ds p.ending p rest (IsRunOf http net workers p.world ts ds) refl plays.1 whole (λ later end. tasks_rest p.world after ts asks.1 ds later end)
