-- The turns that jobs ask of managers.
use Rattle.std.specs.Prelude.{ℕ, List, slice_get, Option, Some, None}
use Rattle.qkd_base.specs.declared.lane.Lane.{Lane}
use Rattle.net_model.specs.declared.event.Event.{Event}
use Rattle.net_model.specs.declared.event.Event.TheVariants.{Plan}
use Rattle.net_model.specs.declared.reply.Reply.{Reply}
use Rattle.net_model.specs.declared.reply.Reply.TheVariants.{Planned}
use Rattle.net_model.specs.Action.{Environment, Action, Ok, Arm, Fail, Ask, Deliver}
use Rattle.run_model.specs.Works.{Work}
use Rattle.run_ops.specs.declared.job.Job.{Job}
use Rattle.run_ops.specs.declared.job.Job.TheVariants as jobs
use Rattle.par_managers.specs.declared.next.Next.{Next}

-- an action that is no manager's turn
abbrev unasked : Action
unasked = Arm 0 (Fail 0)

-- the action that a job asks for, with an answer of the environment
abbrev pub asked_with : Job → Environment → Action
asked_with jobs.Nothing environment = unasked
asked_with (jobs.Ask node event) environment = Ask node event environment
asked_with (jobs.Pass lane number) environment = Deliver lane number environment

abbrev pub action_at : Option Job → Action
action_at None = unasked
action_at (Some job) = asked_with job Ok

-- the turn, if nothing in the environment fails
abbrev pub work_of : List Job → Next → Work
work_of all next = record { place = next.place; action = action_at (slice_get all next.place) }

-- the node that replied with its plan, if one did
abbrev pub planner : Job → Reply → Option ℕ
planner (jobs.Ask node Plan) (Planned orders repeats shorts) = Some node
planner job reply = None

-- jobs, by what they ask for

abbrev pub asks : (node : ℕ) → Event → Job
asks node event = jobs.Ask node event

abbrev pub passes : Lane → (number : ℕ) → Job
passes lane number = jobs.Pass lane number
