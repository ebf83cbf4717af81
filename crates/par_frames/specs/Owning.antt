-- The frames that the managers' turns of each worker send on the lanes.
use Rattle.std.specs.Prelude.{◌≡◌, ℕ, ◌%◌, ◌==◌, List, length, map, filter, slice_get, Some}
use Rattle.std.specs.List.{AllByRecursion}
use Rattle.net_model.specs.Site.{sender}
use Rattle.net_model.specs.World.{Network, World}
use Rattle.net_model.specs.Action.{Outcome}
use Rattle.net_model.specs.Tick.{Emission}
use Rattle.net_model.specs.BlockOrder.{IsMerge}
use Rattle.run_model.specs.Works.{Work, flat, done_from, wanted_put}
use Rattle.run_ops.specs.Together.{turn_done}
use Rattle.law_parallel.specs.Putting.{lane_of}

-- the turn of a node's manager for the line at a place, and its outcome
pub record NodeTurn : Type 0 where
  pub node : ℕ
  pub line : ℕ
  pub outcome : Outcome

abbrev pub told_by : NodeTurn → ℕ × Outcome
told_by t = (t.line, t.outcome)

abbrev pub wants_of : NodeTurn → List (ℕ × Emission)
wants_of t = map (λ e. (t.line, e)) (wanted_put t.outcome)

-- the turns of one node
abbrev pub turns_at : ℕ → List NodeTurn → List NodeTurn
turns_at v ts = filter (λ (t : NodeTurn). t.node == v) ts

-- The turn sends its frames on lanes that leave its node.
abbrev pub SendsItsOwn : Network → NodeTurn → Type 0
SendsItsOwn net t = AllByRecursion (λ e. sender net.site (lane_of e) ≡ t.node) (wanted_put t.outcome)

-- Each worker took its turns in its own order. Each is for one of its own lines: the line's place modulo `workers` is the worker's number. Each
-- manager's turns are a merge of the workers' turns of it. All of these, node by node, are what was done.
pub record AreOwnTurns (net : Network) (workers : ℕ) (w : World) (histories : List (List Work)) (own : List (List NodeTurn)) : Type 0 where
  pub lines : (k : ℕ) (ts : List NodeTurn) → slice_get own k ≡ Some ts → AllByRecursion (λ (t : NodeTurn). t.line % workers ≡ k) ts
  pub sends : AllByRecursion (AllByRecursion (SendsItsOwn net)) own
  pub turned : List (List (ℕ × Outcome))
  pub managers : length turned ≡ net.site.nodes
  pub merged : (v : ℕ) (log : List (ℕ × Outcome)) → slice_get turned v ≡ Some log → IsMerge (map (λ ts. map told_by (turns_at v ts)) own) log
  pub told : flat turned ≡ map turn_done (done_from net w (flat histories))
