-- The calls of a worker in all its jobs, machine by machine.
use Rattle.std.specs.Prelude.{◌≡◌, ℕ, ◌+◌, ◌==◌, ◌<◌, List, ◌++◌, map, filter, slice_get, Option, Some}
use Rattle.std.specs.List.{AllByRecursion, flat_map}
use Rattle.net_model.specs.Tick.{Emission}
use Rattle.net_model.specs.Action.{Replies}
use Rattle.run_model.specs.Works.{wanted_put}
use Rattle.run_ops.specs.declared.job.Job.{Job}
use Rattle.lane_sender.specs.Lane.{LaneForm}
use Rattle.shared_objects.specs.declared.either.Either.TheVariants.{Left}
use Rattle.shared_objects.specs.declared.call.Call.{Call}
use Rattle.shared_objects.specs.Asked.{requests_on}
use Rattle.shared_objects.specs.Said.{Said, said_on}
use Rattle.par_managers.specs.declared.turn.Turn.{Turn}
use Rattle.par_lanes.specs.declared.emitted.Emitted.{Emitted}
use Rattle.par_lanes.specs.Calls.{IsOf}
use Rattle.par_lanes.specs.Saying.{IsCalledFor}
use Rattle.par_lanes.specs.Emitting.{AreLogged}
use Rattle.par_managers.specs.declared.ask.PlanAsk.{PlanAsk}
use Rattle.par_managers.specs.declared.ask.PlanAnswer.{PlanAnswer}
use Rattle.par_managers.specs.declared.keep.Replied.{Replied}
use Rattle.par_managers.specs.declared.keep.Keep.{Keep}
use Rattle.par_managers.specs.Doing.{Ask, Answer}

-- a call in a manager's history, as a call of a machine of either kind
abbrev pub manager_call : ℕ × (PlanAsk × PlanAnswer) → ℕ × (Ask × Answer)
manager_call c = (c.0, (Left c.1.0, Left c.1.1))

-- the line and the job of a call: here of a call in a manager's history, below of a shift's entry

abbrev pub line_asked : ℕ × (PlanAsk × PlanAnswer) → ℕ × Job
line_asked c = (c.1.0.place, c.1.0.job.now)

abbrev pub line_of : Turn → ℕ × Job
line_of t = (t.place, t.job.now)

-- what is kept of the reply to a call
abbrev pub reply_kept : (node : ℕ) → ℕ × (PlanAsk × PlanAnswer) → Replied
reply_kept node c = record { node = node; at = c.0; turned = record { place = c.1.0.place; reply = c.1.1.reply } }

-- the frames that a reply sends, each with the place of its line

abbrev pub wanted_in : Replied → List (ℕ × Emission)
wanted_in r = map (λ e. (r.turned.place, e)) (wanted_put (Replies r.turned.reply))

abbrev pub wanted_of : Emission × Emitted → ℕ × Emission
wanted_of x = (x.1.line, x.0)

-- A worker called the node's manager just for the turns that its shift asks of it, and keeps a reply for each.
pub record HasTurned (v : ℕ) (shift : List (Option (Call Turn))) (said : List (Said Ask Answer)) (mine : List Replied) : Type 0 where
  pub calls : List (ℕ × (PlanAsk × PlanAnswer))
  pub are : said_on v said ≡ map manager_call calls
  pub asked : map line_asked calls ≡ map line_of (requests_on v shift)
  pub replied : map (reply_kept v) calls ≡ filter (λ (r : Replied). r.node == v) mine

-- A worker's calls, and what it keeps of them: its replies, and the records of the frames that these send, in order.
pub record HasTalked {X : Type 0} (lanes : List (LaneForm X)) (first : ℕ) (keep : Keep) (said : List (Said Ask Answer)) (next : Keep) : Type 0 where
  pub mine : List Replied
  pub outs : List (Emission × Emitted)
  pub kept : next.replies.items ≡ keep.replies.items ++ mine
  pub logged : AreLogged (map (λ x. x.1) outs) keep.log next.log
  pub of : AllByRecursion (λ (x : Emission × Emitted). IsOf x.1.line x.0 x.1) outs
  pub wanted : map wanted_of outs ≡ flat_map wanted_in mine
  pub nodes : AllByRecursion (λ (r : Replied). r.node < first) mine
  pub turned : (v : ℕ) → v < first → HasTurned v keep.shift.items said mine
  pub sent : (i : ℕ) (side : LaneForm X) → slice_get lanes i ≡ Some side → IsCalledFor side (first + i) i outs said
