-- The jobs that are made of the lines of a block.
use Rattle.std.proofs.Common.{◌≡◌, ℕ, ◌<◌, Bool, true, false, ◌&&◌, List, [], ◌∷◌, length, refl, sym, ap, ◌∙◌, arith}
use Rattle.std.proofs.lemmas.Bool.Decides.{nat_tests}
use Rattle.std.specs.Prelude.{not, nat_lt, Some, if◌then◌else◌}
use Rattle.qkd_base.specs.declared.lane.Lane.{Lane}
use Rattle.net_model.specs.declared.event.Event.{Event}
use Rattle.net_model.specs.declared.reply.Reply.{Reply}
use Rattle.net_model.specs.Site.{Site}
use Rattle.net_model.specs.World.{World}
use Rattle.net_model.specs.Events.{is_valid_event}
use Rattle.net_model.specs.Step.{is_asked}
use Rattle.net_model.specs.BlockOrder.{is_block_event}
use Rattle.net_model.specs.Action.{Outcome, Ok, Ask, Deliver}
use Rattle.declared_site.specs.declared.site.Site.{Site as Declared}
use Rattle.declared_site.specs.SiteOf.{site_of}
use Rattle.run_types.specs.declared.command.Command.{Command}
use Rattle.run_types.specs.declared.command.Command.TheVariants as commands
use Rattle.run_types.specs.declared.stream_call.StreamCall.TheVariants as calls
use Rattle.run_types.specs.declared.frame_result.FrameResult.TheVariants.{Refused}
use Rattle.run_types.specs.declared.refusal.Refusal.TheVariants.{NoFrame}
use Rattle.run_types.specs.declared.item.Item.{Item}
use Rattle.run_types.specs.declared.item.Item.TheVariants as items
use Rattle.run_model.specs.Outcomes.{frame_items, http_items}
use Rattle.run_model.specs.Turn.{HttpTexts, Turn, Unasked, Asked, AnswersAtOnce, Calls, turn_of, at_node, http_turn}
use Rattle.run_model.specs.Works.{block_turn, may_stand_in_block}
use Rattle.run_model.specs.Block.{unasked_items}
use Rattle.run_ops.specs.declared.reply_report.Reporting.{Reporting}
use Rattle.run_ops.specs.Reported.{reported}
use Rattle.run_ops.specs.Asking.{asks_an_event}
use Rattle.run_ops.specs.Fitting.{is_plan}
use Rattle.run_ops.specs.Runnable.{IsFit, IsCommandFor}
use Rattle.run_ops.specs.declared.job.Job.{Job}
use Rattle.run_ops.specs.declared.job.Job.TheVariants as jobs
use Rattle.run_ops.specs.Jobs.{asked_for, is_job}
use Rattle.run_lines.specs.Commands.{any_texts}
use Rattle.run_tasks.specs.declared.prepared.Telling.{Telling}
use Rattle.run_tasks.specs.declared.prepared.Telling.TheVariants as tellings
use Rattle.run_tasks.specs.declared.prepared.Made.TheVariants as makings
use Rattle.run_tasks.specs.Prepared.{asked_in, said_in, tells, IsLineMade}

module _ (http : HttpTexts) (site : Site) (w : World) where
  of_turn : (command : Command) (job : Job) (telling : Telling) (turn : Turn) → block_turn http site w command ≡ turn → asked_for job ≡ asked_in turn →
      ((reply : Reply) → tells http job telling reply ≡ said_in turn reply) → unasked_items turn ≡ [] → IsLineMade http site w command (makings.Job job telling)
  of_turn command job telling turn is asks told none = (
    record { asks = asks ∙ ap asked_in (sym is); told = λ reply. told reply ∙ ap (λ (t : Turn). said_in t reply) (sym is) },
    ap unasked_items is ∙ none,
  )

  at_once : (command : Command) (item : Item) → block_turn http site w command ≡ Unasked (item ∷ []) → IsLineMade http site w command (makings.Told item)
  at_once command item is = (record { asks = ap asked_in (sym is); told = λ reply. ap (λ (t : Turn). said_in t reply) (sym is) }, ap unasked_items is)

  -- ---- a frame

  refused : Lane → ℕ → Turn
  refused l number = Unasked (items.Passed l number (Refused (NoFrame (length (w.wire l)))) ∷ [])

  pub pass_job : (l : Lane) (number j : ℕ) → number < length (w.wire l) → j ≡ number →
      IsLineMade http site w (commands.Pass l number) (makings.Job (jobs.Pass l j) (tellings.Passed l number))
  unfolding turn_of refused
  pass_job l number j below same =
      let yes : nat_lt number (length (w.wire l)) ≡ true = grind (arith, nat_tests) in
      of_turn (commands.Pass l number) (jobs.Pass l j) (tellings.Passed l number) (Asked (Deliver l number Ok) (frame_items (items.Passed l number)))
      (ap (λ (b : Bool). if b then turn_of http site (commands.Pass l number) else refused l number) yes) (ap (λ (k : ℕ). Some (Deliver l k Ok)) same) (λ reply. refl) refl

  -- ---- an HTTP request

  pub http_job : (v : ℕ) (octets : List ℕ) (event : Event) → http.request v octets ≡ Calls event →
      IsLineMade http site w (commands.Http v octets) (makings.Job (jobs.Ask v event) (tellings.Answered v))
  unfolding turn_of
  http_job v octets event asks =
      of_turn (commands.Http v octets) (jobs.Ask v event) (tellings.Answered v) (at_node v event (http_items v (http.response event))) (ap (http_turn v http.response) asks) refl (λ reply. refl) refl

  pub http_told : (v : ℕ) (octets : List ℕ) (status : ℕ) (body : List ℕ) (item : Item) → http.request v octets ≡ AnswersAtOnce status body → item ≡ items.Http v status body →
      IsLineMade http site w (commands.Http v octets) (makings.Told item)
  unfolding turn_of
  http_told v octets status body item asks is =
      at_once (commands.Http v octets) item (ap (http_turn v http.response) asks ∙ ap (λ (i : Item). Unasked (i ∷ [])) (sym is))

  -- ---- an event

  as_it_is : (command : Command) → asks_an_event command ≡ true → block_turn http site w command ≡ turn_of http site command
  as_it_is (commands.Pass l number) asks = cc
  as_it_is command asks = refl

  pub asked_job : (command : Command) (v : ℕ) (event : Event) (reporting : Reporting) → asks_an_event command ≡ true → turn_of http site command ≡ at_node v event (reported reporting) →
      IsLineMade http site w command (makings.Job (jobs.Ask v event) (tellings.Asked reporting))
  asked_job command v event reporting asks turn =
      of_turn command (jobs.Ask v event) (tellings.Asked reporting) (at_node v event (reported reporting)) (as_it_is command asks ∙ turn) refl (λ reply. refl) refl

-- ---- each job is allowed

-- ---- an event of a block
all_four : (a b c d e : Bool) → (a && b && c && d) ≡ true → e ≡ true → (a && b && e && d) ≡ true
all_four true true true true true h k = refl
all_four true true true true false h k = cc
all_four true true true false e h k = cc
all_four true true false d e h k = cc
all_four true false c d e h k = cc
all_four false b c d e h k = cc

pub event_allowed : (d : Declared) (v : ℕ) (event : Event) → IsFit d (Ask v event Ok) → is_block_event event ≡ true → is_job (site_of d) (jobs.Ask v event) ≡ true
event_allowed d v event fit may =
    all_four (nat_lt v (site_of d).nodes) (is_asked event) (not (is_plan event)) (is_valid_event (site_of d) v event) (is_block_event event) fit may

-- the job of a turn
job_in : Turn → Job
job_in (Unasked said) = jobs.Nothing
job_in (Asked (Ask v event environment) said) = jobs.Ask v event
job_in (Asked action said) = jobs.Nothing

job_allowed : (d : Declared) (command : Command) → may_stand_in_block command ≡ true → asks_an_event command ≡ true → IsCommandFor d command →
    is_job (site_of d) (job_in (turn_of any_texts (site_of d) command)) ≡ true
unfolding turn_of job_in is_valid_event
job_allowed d (commands.Fill master slave bits count) may asks h = h any_texts
job_allowed d (commands.Feed stream count) may asks h = h any_texts
job_allowed d (commands.Enc v master slave count bits) may asks h = h any_texts
job_allowed d (commands.Dec v slave master names) may asks h = h any_texts
job_allowed d (commands.Status v master slave) may asks h = h any_texts
job_allowed d (commands.FillGroup master bits count slaves) may asks h = h any_texts
job_allowed d (commands.EncGroup v master count bits slaves) may asks h = h any_texts
job_allowed d (commands.Stream v (calls.Open source peer bits)) may asks h = h any_texts
job_allowed d (commands.Stream v (calls.Join caller source stream bits)) may asks h = h any_texts
job_allowed d (commands.Stream v (calls.Get caller stream index)) may asks h = h any_texts
job_allowed d (commands.Stream v (calls.Close caller stream)) may asks h = h any_texts
job_allowed d (commands.Tick v) may asks h = both (nat_lt v (length d.nodes)) (let yes : nat_lt v (length d.nodes) ≡ true = grind (arith, nat_tests) in yes)
  where
    both : (b : Bool) → b ≡ true → (b && true && true && true) ≡ true
    both true e = refl
    both false e = cc
job_allowed d (commands.Pass lane number) may asks h = cc
job_allowed d (commands.Http v octets) may asks h = cc
job_allowed d (commands.Flip lane number bit) may asks h = cc
job_allowed d (commands.Forge lane octets) may asks h = cc
job_allowed d (commands.Crash v) may asks h = cc
job_allowed d (commands.Start v) may asks h = cc
job_allowed d (commands.Cut v call image) may asks h = cc
job_allowed d (commands.Fail v call) may asks h = cc
job_allowed d (commands.LinkUp link) may asks h = cc
job_allowed d (commands.LinkDown link) may asks h = cc
job_allowed d (commands.Show v name) may asks h = cc
job_allowed d (commands.Bits link ends count) may asks h = cc
job_allowed d (commands.Settle rounds) may asks h = cc
job_allowed d (commands.Ledger lane) may asks h = cc

pub asked_allowed : (d : Declared) (command : Command) (v : ℕ) (event : Event) (said : Outcome → List Item) → may_stand_in_block command ≡ true → asks_an_event command ≡ true →
    IsCommandFor d command → ((http : HttpTexts) → turn_of http (site_of d) command ≡ at_node v event said) → is_job (site_of d) (jobs.Ask v event) ≡ true
unfolding job_in
asked_allowed d command v event said may asks h turn = ap (λ (t : Turn). is_job (site_of d) (job_in t)) (sym (turn any_texts)) ∙ job_allowed d command may asks h
