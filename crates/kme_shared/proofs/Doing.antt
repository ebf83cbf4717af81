-- The calls of a job, and their results.
use mathlib.Core.Logic.{dite}
use native.Mathlib.Decide.{dec_le}
use Rattle.std.proofs.Common.{◌≡◌, ℕ, ◌+◌, ◌-◌, ◌<◌, ◌≤◌, List, [], ◌∷◌, ◌++◌, map, length, slice_get, Some, refl, ap, ◌∙◌, arith, length-append}
use Rattle.qkd_base.specs.Lane.{lane_place}
use Rattle.net_model.specs.Tick.{Emission}
use Rattle.net_model.specs.Action.{Replies}
use Rattle.run_model.specs.Works.{wanted_put}
use Rattle.lane_shares.specs.declared.share.Share.{Share}
use Rattle.lane_sender.specs.Lane.{LaneForm}
use Rattle.shared_objects.specs.declared.either.Either.{Either}
use Rattle.shared_objects.specs.declared.call.Call.{Call}
use Rattle.shared_objects.specs.Said.{Said, said_on}
use Rattle.shared_objects.specs.Laws.{said_behind}
use Rattle.par_lanes.specs.declared.emitted.Emitted.{Emitted}
use Rattle.par_lanes.specs.declared.frame_log.FrameLog.{FrameLog}
use Rattle.par_lanes.specs.Wants.{lane_for, turns_at}
use Rattle.par_lanes.specs.Saying.{IsDesk, SayAllBy}
use Rattle.par_lanes.proofs.Saying.{others_unsaid, counted_all}
use Rattle.par_lanes.specs.Emitting.{HasEmitted}
use Rattle.par_managers.specs.declared.keep.Replied.{Replied}
use Rattle.par_managers.specs.declared.turn.Turn.{Turn}
use Rattle.par_managers.specs.Doing.{Ask, Answer, GoAllBy, HasAsked, DidTurn}
use Rattle.kme_shared.proofs.Emitting.{one_said}

module _ {M D X : Type 0} (machines : List (Either M D)) (side : D → LaneForm X) (first : ℕ) where
  module _ (lanes : List (LaneForm X)) (laid : (i : ℕ) (desk : D) → IsDesk machines (first + i) desk → slice_get lanes i ≡ Some (side desk)) where
    -- the desks that are called are those of the lanes
    go_all : (xs : List (Emission × Emitted)) (said : List (Said Ask Answer)) → SayAllBy machines side first xs said → GoAllBy lanes first xs said
    go_all [] said h = h
    go_all (x ∷ xs) said (front, rest, is, says, more) =
        (front, rest, is, record { side = side says.desk; there = laid (lane_place (lane_for x.0)) says.desk says.there; calls = says.calls; are = says.are; by = says.by }, go_all xs rest more)

    -- a job took the turn that its entry asks for
    pub did_turn : {Went : List (Said Ask Answer) → Type 0} (call : Call Turn) (front : List (Said Ask Answer)) (replied : Replied) → HasAsked call front replied → {granted granted' : List Share} {log log' : FrameLog}
        (e : HasEmitted machines side first Went replied.turned.place (wanted_put (Replies replied.turned.reply)) granted log granted' log') →
        (replies replies' : List Replied) → replies' ≡ replies ++ replied ∷ [] → DidTurn lanes first call (front ++ e.said) replies log replies' log'
    did_turn call front replied asked e replies replies' kept = record {
      front = front;
      later = e.said;
      are = refl;
      replied = replied;
      asked = asked;
      put = record { emitted = e.outs; wanted = e.all; of = e.told; called = go_all e.outs e.said e.says; logged = e.logged };
      kept = kept;
    }

  -- each machine is called at most `most` times while frames go out
  few_said : (most : ℕ) (wants : List Emission) → ((i : ℕ) → turns_at i wants ≤ most) →
      (xs : List (Emission × Emitted)) → map (λ x. x.0) xs ≡ wants → (said : List (Said Ask Answer)) → SayAllBy machines side first xs said → (i : ℕ) → length (said_on i said) ≤ most
  few_said most wants few xs all said says i =
      dite (dec_le first i)
      (λ above.
      let same : i ≡ first + (i - first) = omega (arith, above) in
      let many = ap (λ (n : ℕ). length (said_on n said)) same ∙ counted_all machines side first (i - first) xs said says ∙ ap (turns_at (i - first)) all in
      let most' = few (i - first) in
      omega (arith, many, most'))
      (λ below.
      let low : i < first = omega (arith, below) in
      let none = ap length (others_unsaid machines side first i low xs said says) in
      omega (arith, none))

  -- with the call of the manager, each machine is called at most once more than for the frames
  pub few_in_all : {Went : List (Said Ask Answer) → Type 0} (call : Said Ask Answer) {line : ℕ} {wants : List Emission} {granted granted' : List Share} {log log' : FrameLog} (e : HasEmitted machines side first Went line wants granted log granted' log') →
      (most : ℕ) → ((i : ℕ) → turns_at i wants ≤ most) → (i : ℕ) → length (said_on i (call ∷ e.said)) ≤ most + 1
  few_in_all call {wants = wants} e most few i =
      let one = one_said i call in
      let both = ap length (said_behind i (call ∷ []) e.said) ∙ length-append (said_on i (call ∷ [])) (said_on i e.said) in
      let rest = few_said most wants few e.outs e.all e.said e.says i in
      omega (arith, one, both, rest)
