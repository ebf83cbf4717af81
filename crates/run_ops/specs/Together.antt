-- What a block of jobs, done side by side, does to a network.
use Rattle.std.specs.Prelude.{◌≡◌, ◌⊎◌, ℕ, true, List, [], ◌∷◌, map, slice_get, Option, Some, None}
use Rattle.std.specs.List.{flat_map}
use Rattle.net_model.specs.Site.{Site, count_up}
use Rattle.net_model.specs.World.{Network, World}
use Rattle.net_model.specs.Action.{Action, Outcome, Replies}
use Rattle.net_model.specs.Step.{run}
use Rattle.net_model.specs.BlockOrder.{IsMerge, IsBlock}
use Rattle.run_types.specs.declared.item.Item.{Item}
use Rattle.run_model.specs.Lines.{all_lanes}
use Rattle.run_model.specs.Works.{Works, Work, Done, flat, parts, plain_work, block_run, done_from, turns_done, claimed, are_put}
use Rattle.run_model.specs.Block.{PutDone, puts_of, puts_on}
use Rattle.run_ops.specs.Acting.{IsReady}
use Rattle.run_ops.specs.declared.job.Job.{Job}
use Rattle.run_ops.specs.declared.done_block.DoneBlock.{DoneBlock}
use Rattle.run_ops.specs.declared.done_block.Turned.{Turned}
use Rattle.run_ops.specs.declared.done_block.PutFrame.{PutFrame}
use Rattle.run_ops.specs.Jobs.{asked_by}

-- These works are what the workers did. No job is left out. The works are a block of the network. Each manager's
-- history is a merge of what the workers ask of it, apart from the answers of disks and entropies. Each frame that
-- was put belongs to the plan that ordered it.
pub record AreWorks (net : Network) (workers : ℕ) (w : World) (jobs : List Job) (works : Works) : Type 0 where
  pub whole : works.left_out ≡ None
  pub block : IsBlock net w (parts works)
  pub merged : (v : ℕ) (h : List Work) → slice_get works.histories v ≡ Some h → IsMerge (map (λ k. asked_by net.site workers k v 0 jobs) (count_up workers)) (map plain_work h)
  pub put : are_put (claimed net w works) (flat (turns_done net w works)) works.puts ≡ true

-- The replies, each with the place of its line.

abbrev pub turned : Turned → ℕ × Outcome
turned t = (t.place, Replies t.reply)

abbrev pub turn_done : Done → ℕ × Outcome
turn_done d = (d.work.place, d.outcome)

-- The items that report the frames, in the order in which a block reports them.

abbrev pub frame_put : PutFrame → ℕ × List Item
frame_put f = (f.place, f.item ∷ [])

abbrev pub put_done : PutDone → ℕ × List Item
put_done p = (p.place, p.reported)

abbrev pub puts_reported : Network → World → Works → List PutDone
puts_reported net w works = flat_map (puts_on (puts_of (done_from net (claimed net w works) works.puts))) (all_lanes net.site)

-- The jobs were done with these replies and frames. Between the old and the new value, parts failed just as the
-- block's actions say.
pub record DoesTogether {S : Type 0} (Stands : S → Network → World → Type 0) (Tallied : S → S → Site → List Action → Type 0) (old new : S) (net : Network) (workers : ℕ)
    (w : World) (jobs : List Job) (done : DoneBlock) : Type 0 where
  pub works : Works
  pub are : AreWorks net workers w jobs works
  pub turns : map turned done.turns.items ≡ map turn_done (flat (turns_done net w works))
  pub frames : map frame_put done.frames.items ≡ map put_done (puts_reported net w works)
  pub ready : IsReady Stands new net (run net w (block_run net works))
  pub tallied : Tallied old new net.site (block_run net works)

-- The jobs were done and the run ends. The new value is left in the world after them.
pub record EndsTogether {S : Type 0} (Rests : S → Network → World → Type 0) (Tallied : S → S → Site → List Action → Type 0) (old new : S) (net : Network) (workers : ℕ)
    (w : World) (jobs : List Job) : Type 0 where
  pub works : Works
  pub are : AreWorks net workers w jobs works
  pub rests : Rests new net (run net w (block_run net works))
  pub tallied : Tallied old new net.site (block_run net works)

-- The run ends since memory ran out, before or after the jobs were done.
abbrev pub LeftTogether : {S : Type 0} → (S → Network → World → Type 0) → (S → S → Site → List Action → Type 0) → S → S → Network → ℕ → World → List Job → Type 0
LeftTogether Rests Tallied old new net workers w jobs =
    (Rests new net w × Tallied old new net.site []) ⊎ EndsTogether Rests Tallied old new net workers w jobs
