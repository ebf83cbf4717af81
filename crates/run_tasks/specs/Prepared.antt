-- The lines of a block as jobs, and what is reported of each.
use Rattle.std.specs.Prelude.{◌≡◌, ℕ, true, List, [], ◌∷◌, map, Option, Some, None}
use Rattle.net_model.specs.declared.reply.Reply.{Reply}
use Rattle.net_model.specs.Site.{Site}
use Rattle.net_model.specs.World.{World}
use Rattle.net_model.specs.Action.{Action, Replies}
use Rattle.run_types.specs.declared.command.Command.{Command}
use Rattle.run_types.specs.declared.line.Line.{Line}
use Rattle.run_types.specs.declared.item.Item.{Item}
use Rattle.run_types.specs.declared.item.Item.TheVariants as items
use Rattle.run_types.specs.declared.item.NumberedItem.{NumberedItem}
use Rattle.run_model.specs.Outcomes.{frame_items, http_items}
use Rattle.run_model.specs.Turn.{HttpTexts, Turn, Unasked, Asked}
use Rattle.run_model.specs.Works.{block_turn}
use Rattle.run_model.specs.Block.{unasked_items, all_unasked}
use Rattle.run_ops.specs.Reported.{reported}
use Rattle.run_ops.specs.declared.job.Job.{Job}
use Rattle.run_ops.specs.declared.job.Job.TheVariants as jobs
use Rattle.run_ops.specs.Jobs.{asked_for, is_job, IsThere}
use Rattle.run_tasks.specs.declared.prepared.Telling.{Telling}
use Rattle.run_tasks.specs.declared.prepared.Telling.TheVariants as tellings
use Rattle.run_tasks.specs.declared.prepared.Made.{Made}
use Rattle.run_tasks.specs.declared.prepared.Made.TheVariants as makings
use Rattle.run_tasks.specs.declared.prepared.Place.{Place}
use Rattle.run_tasks.specs.declared.prepared.Told.{Told}
use Rattle.run_tasks.specs.declared.prepared.Prepared.{Prepared}

-- the action that a turn asks for

abbrev pub asked_in : Turn → Option Action
asked_in (Unasked said) = None
asked_in (Asked action said) = Some action

abbrev pub said_in : Turn → Reply → List Item
said_in (Unasked said) reply = []
said_in (Asked action said) reply = said (Replies reply)

-- what is reported of the reply to a job; for an HTTP request, it is the HTTP answer to the event that the job asks for
abbrev pub tells : HttpTexts → Job → Telling → Reply → List Item
tells http job tellings.Nothing reply = []
tells http job (tellings.Asked reporting) reply = reported reporting (Replies reply)
tells http job (tellings.Passed lane frame) reply = frame_items (items.Passed lane frame) (Replies reply)
tells http (jobs.Ask node event) (tellings.Answered v) reply = http_items v (http.response event) (Replies reply)
tells http _ (tellings.Answered v) reply = []

-- A job asks for what its line's turn asks for, and reports of the reply what that turn reports.
pub record IsJobOf (http : HttpTexts) (site : Site) (w : World) (command : Command) (job : Job) (telling : Telling) : Type 0 where
  pub asks : asked_for job ≡ asked_in (block_turn http site w command)
  pub told : (reply : Reply) → tells http job telling reply ≡ said_in (block_turn http site w command) reply

-- A job may be done here: what it names is declared and in range, and a frame that is to pass is on its wire.
abbrev pub IsAllowed : Site → World → Job → Type 0
IsAllowed site w job = (is_job site job ≡ true) × IsThere w job

abbrev pub IsMadeAllowed : Site → World → Made → Type 0
IsMadeAllowed site w (makings.Job job telling) = IsAllowed site w job
IsMadeAllowed site w (makings.Told item) = Unit {0}

-- A job was made of the line, or the line asks nobody and this item is reported.
abbrev pub IsLineMade : HttpTexts → Site → World → Command → Made → Type 0
IsLineMade http site w command (makings.Job job telling) = IsJobOf http site w command job telling × (unasked_items (block_turn http site w command) ≡ [])
IsLineMade http site w command (makings.Told item) = IsJobOf http site w command jobs.Nothing tellings.Nothing × (unasked_items (block_turn http site w command) ≡ item ∷ [])

-- the job that was made of a line

abbrev pub job_made : Made → Job
job_made (makings.Job job telling) = job
job_made (makings.Told item) = jobs.Nothing

abbrev pub place_made : ℕ → Made → Place
place_made number (makings.Job job telling) = record { number = number; telling = telling }
place_made number (makings.Told item) = record { number = number; telling = tellings.Nothing }

abbrev pub told_made : ℕ → Made → List Told
told_made number (makings.Job job telling) = []
told_made number (makings.Told item) = record { number = number; item = item } ∷ []

abbrev pub IsOfLine : HttpTexts → Site → World → Line → Job → Place → Type 0
IsOfLine http site w line job place = (place.number ≡ line.number) × IsJobOf http site w line.command job place.telling

-- The jobs and places are those of the lines, one by one.
abbrev pub AreOfLines : HttpTexts → Site → World → List Line → List Job → List Place → Type 0
AreOfLines http site w [] [] [] = Unit {0}
AreOfLines http site w (line ∷ lines) (job ∷ more) (place ∷ places) = IsOfLine http site w line job place × AreOfLines http site w lines more places
AreOfLines http site w _ _ _ = ⊥

abbrev pub told_item : Told → NumberedItem
told_item t = record { number = t.number; item = t.item }

-- The jobs and places are those of the lines, and what was told is what lines that ask nobody report.
pub record IsPrepared (http : HttpTexts) (site : Site) (w : World) (lines : List Line) (p : Prepared) : Type 0 where
  pub places : AreOfLines http site w lines p.jobs.items p.places.items
  pub told : map told_item p.told.items ≡ all_unasked http site w lines
