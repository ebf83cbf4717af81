-- A worker's entries, in order.
use Rattle.std.proofs.Common.{◌≡◌, ℕ, ◌+◌, ◌<◌, ◌≤◌, List, ◌∷◌, length, ap, subst, ◌∙◌, arith, Option}
use Rattle.std.specs.Prelude.{IfSome}
use Rattle.std.specs.List.{AllZip, AllByRecursion}
use Rattle.lane_shares.specs.declared.share.Share.{Share}
use Rattle.lane_shares.specs.declared.shares.Shares.{Shares}
use Rattle.lane_shares.specs.Names.{Fits}
use Rattle.lane_sender.specs.Lane.{LaneForm}
use Rattle.shared_objects.specs.declared.either.Either.{Either}
use Rattle.shared_objects.specs.declared.call.Call.{Call}
use Rattle.world_state.specs.declared.state.State.{State}
use Rattle.par_managers.specs.declared.turn.Turn.{Turn}
use Rattle.kme_shared.specs.Working.{MayAsk, MayWork}
use Rattle.world_state.specs.Outside.{Outside}

-- the entry that is taken is the first one
pub at_front : {shift tail : List (Option (Call Turn))} {first entry : Option (Call Turn)} → shift ≡ first ∷ tail → first ≡ entry → shift ≡ entry ∷ tail
at_front {tail = tail} is same = is ∙ ap (λ (e : Option (Call Turn)). e ∷ tail) same

module _ {K Q E X M N : Type 0} {opening_of : M → State K Q E X} {node_of : M → ℕ} {shares_in : M → List Shares} {side : N → LaneForm X} {shares_of : N → Shares}
    {opening : State K Q E X} {first : ℕ} {shares : List Shares} {machines : List (Either M N)} {outside : Outside K Q E X} {shift tail : List (Option (Call Turn))} {granted : List Share} {replies room job : ℕ} {rest : List ℕ}
    (h : MayWork opening_of node_of shares_in side shares_of opening first shares machines outside shift granted replies room (job ∷ rest))
    (entry : Option (Call Turn)) (is : shift ≡ entry ∷ tail) where
  each : AllByRecursion (λ entry. IfSome entry (MayAsk outside opening first)) (entry ∷ tail)
  each = subst (λ (s : List (Option (Call Turn))). AllByRecursion (λ entry. IfSome entry (MayAsk outside opening first)) s) is h.coming

  -- the next entry may be asked
  pub next_may : IfSome entry (MayAsk outside opening first)
  next_may = each.0

  pub has_room : replies < room
  has_room = let long = ap (λ (s : List (Option (Call Turn))). length s) is in let fits = h.replies' in omega (arith, long, fits)

  -- the other entries may still be asked afterwards
  pub rest_may : (granted' : List Share) → AllZip Fits shares granted' → (replies' room' more : ℕ) → replies' ≡ replies + more → more ≤ 1 → room' ≡ room →
      MayWork opening_of node_of shares_in side shares_of opening first shares machines outside tail granted' replies' room' rest
  rest_may granted' fits replies' room' more many one same =
      let long = ap (λ (s : List (Option (Call Turn))). length s) is in
      let all = h.entries in
      let roomy = h.replies' in
      record {
        seated = h.seated;
        entries = omega (arith, long, all);
        coming = each.1;
        fits = fits;
        replies' = omega (arith, long, roomy, many, one, same);
      }
