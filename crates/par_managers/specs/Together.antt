-- The calls of all workers of a block, what the workers keep, and what each machine did.
use Rattle.std.specs.Prelude.{◌≡◌, ℕ, ◌+◌, ◌==◌, ◌<◌, List, [], ◌∷◌, ◌++◌, map, filter, slice_get, Some}
use Rattle.std.specs.List.{AllZip, AllByRecursion, flat_map}
use Rattle.net_model.specs.Tick.{Emission}
use Rattle.net_model.specs.BlockOrder.{IsMerge}
use Rattle.turnstile.specs.Turns.{Leads}
use Rattle.lane_sender.specs.Lane.{LaneForm}
use Rattle.par_lanes.specs.declared.ask.LaneAsk.{LaneAsk}
use Rattle.par_lanes.specs.declared.ask.LaneAnswer.{LaneAnswer}
use Rattle.shared_objects.specs.declared.either.Either.{Either}
use Rattle.shared_objects.specs.declared.either.Either.TheVariants.{Left, Right}
use Rattle.shared_objects.specs.Rising.{placed_from}
use Rattle.shared_objects.specs.Asked.{requests_on}
use Rattle.par_lanes.specs.declared.emitted.Emitted.{Emitted}
use Rattle.par_lanes.specs.Calls.{IsOf, CallAllBy, emitted_at}
use Rattle.par_lanes.specs.Emitting.{AreLogged}
use Rattle.par_managers.specs.declared.ask.PlanAsk.{PlanAsk}
use Rattle.par_managers.specs.declared.ask.PlanAnswer.{PlanAnswer}
use Rattle.par_managers.specs.declared.keep.Replied.{Replied}
use Rattle.par_managers.specs.declared.keep.Keep.{Keep}
use Rattle.par_managers.specs.Talking.{line_asked, line_of, reply_kept, wanted_in, wanted_of}

-- A worker keeps its replies, each from one of the first machines, and the records of the frames that these send.
pub record HasKept (first : ℕ) (keep : Keep) (mine : List Replied) (outs : List (Emission × Emitted)) (next : Keep) : Type 0 where
  pub kept : next.replies.items ≡ keep.replies.items ++ mine
  pub logged : AreLogged (map (λ x. x.1) outs) keep.log next.log
  pub of : AllByRecursion (λ (x : Emission × Emitted). IsOf x.1.line x.0 x.1) outs
  pub wanted : map wanted_of outs ≡ flat_map wanted_in mine
  pub nodes : AllByRecursion (λ (r : Replied). r.node < first) mine

-- Each worker keeps its own replies and records.
abbrev pub HaveKept : (first : ℕ) → List Keep → List (List Replied) → List (List (Emission × Emitted)) → List Keep → Type 0
HaveKept first [] [] [] [] = Unit {0}
HaveKept first (keep ∷ keeps) (mine ∷ mines) (out ∷ outs) (next ∷ nexts) = HasKept first keep mine out next × HaveKept first keeps mines outs nexts
HaveKept first _ _ _ _ = ⊥

-- The history of a node's manager is a merge of the workers' calls. Each worker asks what its shift asks, and keeps the replies with their places.
pub record IsManaged {M : Type 0} (turn : M → PlanAsk → PlanAnswer → M → Type 0) (v : ℕ) (keeps : List Keep) (mines : List (List Replied)) (before after : M) : Type 0 where
  pub log : List (PlanAsk × PlanAnswer)
  pub leads : Leads turn before log after
  pub calls : List (List (ℕ × (PlanAsk × PlanAnswer)))
  pub merged : IsMerge calls (placed_from 0 log)
  pub asked : map (map line_asked) calls ≡ map (λ (keep : Keep). map line_of (requests_on v keep.shift.items)) keeps
  pub replied : map (map (reply_kept v)) calls ≡ map (filter (λ (r : Replied). r.node == v)) mines

-- The history of a lane is a merge of the workers' calls, each for the frames that the worker sent there.
pub record IsLaid {N X : Type 0} (turn : N → LaneAsk → LaneAnswer → N → Type 0) (i : ℕ) (side : LaneForm X) (outs : List (List (Emission × Emitted))) (before after : N) : Type 0 where
  pub log : List (LaneAsk × LaneAnswer)
  pub leads : Leads turn before log after
  pub calls : List (List (ℕ × (LaneAsk × LaneAnswer)))
  pub merged : IsMerge calls (placed_from 0 log)
  pub by : AllZip (CallAllBy side) (map (emitted_at i) outs) calls

-- The workers of a block did their jobs. The first machines are the managers.
pub record HaveWorked {M N X : Type 0} (turn : M → PlanAsk → PlanAnswer → M → Type 0) (other_turn : N → LaneAsk → LaneAnswer → N → Type 0) (lanes : List (LaneForm X)) (first : ℕ)
    (keeps : List Keep) (machines : List (Either M N)) (nexts : List Keep) (machines' : List (Either M N)) : Type 0 where
  pub mines : List (List Replied)
  pub outs : List (List (Emission × Emitted))
  pub kept : HaveKept first keeps mines outs nexts
  pub managers : (v : ℕ) (before : M) → v < first → slice_get machines v ≡ Some (Left before) → (after : M) × (slice_get machines' v ≡ Some (Left after)) × IsManaged turn v keeps mines before after
  pub desks : (i : ℕ) (side : LaneForm X) (before : N) → slice_get lanes i ≡ Some side → slice_get machines (first + i) ≡ Some (Right before) →
      (after : N) × (slice_get machines' (first + i) ≡ Some (Right after)) × IsLaid other_turn i side outs before after
