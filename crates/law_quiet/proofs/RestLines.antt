-- After lines that a rest outlasts, all frames on wires count as passed.
use Rattle.std.proofs.Common.{◌≡◌, ℕ, zero, suc, Bool, true, false, List, [], ◌∷◌, refl, sym, ◌∙◌, ap, subst}
use Rattle.std.specs.List.{AllByRecursion}
use Rattle.qkd_base.specs.declared.lane.Lane.{Lane}
use Rattle.net_model.specs.declared.event.Event.{Event}
use Rattle.net_model.specs.declared.event.Event.TheVariants as events
use Rattle.net_model.specs.declared.reply.Reply.{Reply}
use Rattle.net_model.specs.Premises.{IsNetwork}
use Rattle.net_model.specs.Site.{sender}
use Rattle.net_model.specs.World.{Network, World}
use Rattle.net_model.specs.Action.{Ok, Action, Ask}
use Rattle.net_model.specs.Step.{step, IsStep}
use Rattle.run_types.specs.declared.command.Command.{Command}
use Rattle.run_types.specs.declared.command.Command.TheVariants as commands
use Rattle.run_types.specs.declared.end.End.{End}
use Rattle.run_types.specs.declared.end.End.TheVariants.{Low, High}
use Rattle.run_types.specs.declared.entry.Entry.TheVariants.{Line, Block}
use Rattle.run_model.specs.Lines.{block_at_end, blocks, is_taken as took, has_low, has_high, script_of, script_of_turn}
use Rattle.run_model.specs.Play.{Whole, Played, plain}
use Rattle.run_model.specs.Report.{Task, Begins, Does, Performed, Acts, Together, perform, IsPerformed, report, IsRunOf}
use Rattle.run_model.specs.Script.{Script}
use Rattle.run_model.specs.Turn.{HttpTexts, Request, AnswersAtOnce, Calls, Turn, Unasked, Asked, http_turn, turn_of}
use Rattle.law_quiet.specs.Between.{AsksRequest, TaskAsks, AskRequests}
use Rattle.law_quiet.specs.Passes.{is_start}
use Rattle.law_quiet.specs.Rested.{keeps_rest, KeepsRest, is_taken}
use Rattle.law_quiet.proofs.Coverage.{plain_start, AllCovered, mute_covers}
use Rattle.law_quiet.proofs.KeptQuiet.{sends_nothing}
use Rattle.law_quiet.proofs.Leading.{are_told, told_first, told_later, Leads, leads_play}
use Rattle.law_quiet.proofs.RestSettles.{settles}
use Rattle.law_quiet.proofs.ScriptRests.{plain_sends}
use Rattle.law_quiet.proofs.Settles.{later_of}
use Rattle.law_quiet.proofs.TaskRests.{IsMute, http_mute, stream_mute, whole_first, with_parts}

-- The turn starts no manager.
abbrev StartsNone : Turn → Type 0
StartsNone (Unasked items) = Unit {0}
StartsNone (Asked action items) = is_start action ≡ false

http_starts_none : (v : ℕ) (response : Event → Reply → ℕ × List ℕ) (r : Request) → StartsNone (http_turn v response r)
http_starts_none v response (AnswersAtOnce status body) = tt
http_starts_none v response (Calls event) = refl

module _ (http : HttpTexts) (net : Network) (network : IsNetwork net) (l : Lane) where
  abbrev Q : World → Type 0
  Q w = AllCovered net network l w

  abbrev Goes : World → Script → Type 0
  Goes w s = Leads net is_taken Q w s

  one_keeps : (w : World) → Q w → (a action : Action) → plain a ≡ action → IsStep net w a → sends_nothing action ≡ true → is_start action ≡ false → Q (step net w a).0
  one_keeps w h a action asked may mute other =
      mute_covers net network l w h a (plain_start a ∙ ap is_start asked ∙ other) (plain_sends net network a ∙ ap sends_nothing asked ∙ mute) may

  turn_keeps : (w : World) → Q w → (t : Turn) → IsMute t → StartsNone t → Goes w (script_of_turn t)
  turn_keeps w h (Unasked items) mute other = λ told. h
  turn_keeps w h (Asked action items) mute other = λ a asked may told. one_keeps w h a action asked may mute other

  one_block : (link : ℕ) (end : End) (goes_on : Bool) (next : Bool → Script) → ((b : Bool) (x : World) → Q x → Goes x (next b)) → (w : World) → Q w → Goes w (block_at_end net.site link end goes_on next)
  one_block link end false next more w h = more false w h
  one_block link end true next more w h = λ a asked may told. more (took (step net w a).1) (step net w a).0 (one_keeps w h a _ asked may refl refl)

  all_blocks : (link : ℕ) (low high : Bool) (count : ℕ) (w : World) → Q w → Goes w (blocks net.site link low high count)
  unfolding blocks
  all_blocks link low high zero w h = h
  all_blocks link low high (suc n) w h = one_block link Low low _ (λ b x q. one_block link High high _ (λ d y r. all_blocks link b d n y r) x q) w h

  line_keeps : (command : Command) → AsksRequest http command → keeps_rest command ≡ true → (w : World) → Q w → Goes w (script_of http net.site command)
  unfolding turn_of
  line_keeps (commands.Bits link ends count) asks rests w h = all_blocks link (has_low ends) (has_high ends) count w h
  line_keeps (commands.Fill master slave bits count) asks rests w h = turn_keeps w h (turn_of http net.site (commands.Fill master slave bits count)) refl refl
  line_keeps (commands.Feed stream count) asks rests w h = turn_keeps w h (turn_of http net.site (commands.Feed stream count)) refl refl
  line_keeps (commands.Tick v) asks rests w h = cc
  line_keeps (commands.Settle rounds) asks rests w h = settles net network l rounds w h
  line_keeps (commands.Pass lane number) asks rests w h = turn_keeps w h (turn_of http net.site (commands.Pass lane number)) refl refl
  line_keeps (commands.Flip lane number bit) asks rests w h = turn_keeps w h (turn_of http net.site (commands.Flip lane number bit)) refl refl
  line_keeps (commands.Forge lane octets) asks rests w h = turn_keeps w h (turn_of http net.site (commands.Forge lane octets)) refl refl
  line_keeps (commands.Crash v) asks rests w h = turn_keeps w h (turn_of http net.site (commands.Crash v)) refl refl
  line_keeps (commands.Start v) asks rests w h = cc
  line_keeps (commands.Cut v call image) asks rests w h = turn_keeps w h (turn_of http net.site (commands.Cut v call image)) refl refl
  line_keeps (commands.Fail v call) asks rests w h = turn_keeps w h (turn_of http net.site (commands.Fail v call)) refl refl
  line_keeps (commands.LinkUp link) asks rests w h = turn_keeps w h (turn_of http net.site (commands.LinkUp link)) refl refl
  line_keeps (commands.LinkDown link) asks rests w h = turn_keeps w h (turn_of http net.site (commands.LinkDown link)) refl refl
  line_keeps (commands.Enc v master slave count bits) asks rests w h = turn_keeps w h (turn_of http net.site (commands.Enc v master slave count bits)) refl refl
  line_keeps (commands.Dec v slave master names) asks rests w h = turn_keeps w h (turn_of http net.site (commands.Dec v slave master names)) refl refl
  line_keeps (commands.Status v master slave) asks rests w h = turn_keeps w h (turn_of http net.site (commands.Status v master slave)) refl refl
  line_keeps (commands.Http v octets) asks rests w h =
      turn_keeps w h (http_turn v http.response (http.request v octets)) (http_mute v http.response (http.request v octets) asks) (http_starts_none v http.response (http.request v octets))
  line_keeps (commands.Stream v call) asks rests w h = turn_keeps w h (turn_of http net.site (commands.Stream v call)) (stream_mute v call) refl
  line_keeps (commands.Show v name) asks rests w h = turn_keeps w h (turn_of http net.site (commands.Show v name)) refl refl
  line_keeps (commands.FillGroup master bits count slaves) asks rests w h = turn_keeps w h (turn_of http net.site (commands.FillGroup master bits count slaves)) refl refl
  line_keeps (commands.EncGroup v master count bits slaves) asks rests w h = turn_keeps w h (turn_of http net.site (commands.EncGroup v master count bits slaves)) refl refl
  line_keeps (commands.Ledger m) asks rests w h = λ a asked may told. one_keeps w h a (Ask (sender net.site m) (events.Ledger m) Ok) asked may refl refl

  module _ (workers : ℕ) where
    one_task : (t : Task) (d : Performed) (w : World) → TaskAsks http t → KeepsRest t → Q w → IsPerformed http net workers w t d → (perform http net w t d).ending ≡ Whole →
        are_told is_taken (perform http net w t d).items ≡ true → Q (perform http net w t d).world
    unfolding perform
    one_task (Does (Line line)) (Acts actions) w asks rests h plays whole told =
        leads_play net is_taken Q line.number (script_of http net.site line.command) w actions (line_keeps line.command asks rests w h) plays whole told
    one_task (Does (Line line)) (Together works) w asks rests h plays whole told = absurd plays
    one_task (Does (Block lines)) d w asks rests h plays whole told = absurd rests
    one_task (Begins number v) d w asks rests h plays whole told = absurd rests

    pub tasks_keep : (ts : List Task) (ds : List Performed) (w : World) → AskRequests http ts → AllByRecursion KeepsRest ts → Q w → IsRunOf http net workers w ts ds → (report http net w ts ds).ending ≡ Whole →
        are_told is_taken (report http net w ts ds).items ≡ true → Q (report http net w ts ds).world
    unfolding report
    tasks_keep [] [] w asks each h plays whole told = h
    tasks_keep [] (d ∷ ds) w asks each h plays whole told = absurd plays
    tasks_keep (t ∷ ts) [] w asks each h plays whole told = cc
    tasks_keep (t ∷ ts) (d ∷ ds) w asks each h plays whole told =
        let p : Played = perform http net w t d in
        let rest : Played = report http net p.world ts ds in
        let end = whole_first p.ending p rest refl whole in
        let both = with_parts p.ending p rest end in
        let all = ap (are_told is_taken) (sym both.0) ∙ told in
        let one = one_task t d w asks.0 each.0 h plays.0 end (told_first is_taken p.items rest.items all) in
        subst Q (sym both.2)
        (tasks_keep ts ds p.world asks.1 each.1 one (later_of http net workers p.ending (IsRunOf http net workers p.world ts ds) (ds ≡ []) end plays.1) (sym both.1 ∙ whole) (told_later is_taken p.items rest.items all))
