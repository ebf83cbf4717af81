-- What a manager's reply wants put may go out.
use Rattle.std.proofs.Common.{◌≡◌, ℕ, ◌+◌, ◌-◌, ◌^◌, ◌<◌, ◌≤◌, List, [], ◌∷◌, ◌++◌, length, take, drop, refl, sym, ap, subst, ◌∙◌, arith, append-nil, Bool, true, false}
use Rattle.std.specs.Prelude.{◌==◌, if◌then◌else◌}
use Rattle.std.specs.List.{AllZip, AllByRecursion}
use Rattle.net_model.specs.declared.order.Order.{Order}
use Rattle.net_model.specs.declared.repeat.Repeat.{Repeat}
use Rattle.net_model.specs.declared.reply.Reply.{Reply}
use Rattle.net_model.specs.Site.{Site}
use Rattle.net_model.specs.Action.{Replies}
use Rattle.net_model.specs.Tick.{Emission, Again, New}
use Rattle.run_model.specs.Works.{wanted_put}
use Rattle.lane_shares.specs.declared.share.Share.{Share}
use Rattle.lane_shares.specs.declared.shares.Shares.{Shares}
use Rattle.lane_shares.specs.Names.{Fits}
use Rattle.lane_shares.specs.Views.{with_amount}
use Rattle.lane_sender.specs.Lane.{LaneForm}
use Rattle.par_lanes.specs.declared.ask.LaneAsk.{LaneAsk}
use Rattle.par_lanes.specs.declared.ask.LaneAnswer.{LaneAnswer}
use Rattle.shared_objects.specs.declared.either.Either.{Either}
use Rattle.shared_objects.proofs.Zips.{zip_same}
use Rattle.shared_objects.specs.Said.{Said, said_on}
use Rattle.par_lanes.specs.declared.emitted.Emitted.{Emitted}
use Rattle.par_lanes.specs.declared.frame_log.FrameLog.{FrameLog}
use Rattle.par_lanes.specs.Wants.{wanted, bytes_at}
use Rattle.par_lanes.specs.Calls.{IsOf}
use Rattle.par_lanes.specs.Saying.{SayAllBy}
use Rattle.par_lanes.specs.Emitting.{CanGo, MayEmit, HasEmitted, grant_at}
use Rattle.par_managers.specs.Wanted.{CanLeave}
use Rattle.kme_shared.specs.Granting.{IsGranted, AreHome}

at_most_one : {A : Type 0} (b : Bool) (x : A) → length (if b then x ∷ [] else []) ≤ 1
at_most_one true x = omega arith
at_most_one false x = omega arith

-- one call is at most one call of each machine
pub one_said : {Q A : Type 0} (i : ℕ) (s : Said Q A) → length (said_on i (s ∷ [])) ≤ 1
one_said i s = at_most_one (s.machine == i) (s.place, (s.request, s.reply))

module _ {M D X : Type 0} {machines : List (Either M D)} {side : D → LaneForm X} {shares_of : D → Shares} {first : ℕ} {shares : List Shares} {s : Site}
    (home : AreHome machines side shares_of first shares s) where
  -- what can leave a node can go out over the lanes' desks
  can_go : (v : ℕ) (wants : List Emission) → AllByRecursion (CanLeave s v) wants → AllByRecursion (CanGo machines side first) wants
  can_go v [] h = tt
  can_go v (Again r ∷ wants) h = ((home.lanes r.lane h.0.0, h.0.2), can_go v wants h.1)
  can_go v (New o ∷ wants) h = ((home.lanes o.lane h.0.0, h.0.2), can_go v wants h.1)

  -- a worker with enough calls left may put out what a reply wants
  pub may_emit : (shares' : List Shares) → shares' ≡ shares → (v : ℕ) (reply : Reply) (given granted : List Share) → granted ≡ given → IsGranted s v shares' reply given → (machines' : List (Either M D)) → machines' ≡ machines →
      (budget : ℕ → ℕ) → ((i : ℕ) → i < length machines → 2 ^ 21 ≤ budget i) →
      (repeats : List Repeat) (orders : List Order) → wanted repeats orders ≡ wanted_put (Replies reply) → MayEmit machines' side first budget shares_of shares granted (wanted repeats orders ++ [])
  may_emit shares' shared v reply given granted all h machines' same budget left repeats orders is =
      subst (λ (ms : List (Either M D)). MayEmit ms side first budget shares_of shares granted (wanted repeats orders ++ [])) (sym same)
      (subst (λ (es : List Emission). MayEmit machines side first budget shares_of shares granted es) (sym (append-nil (wanted repeats orders) ∙ is))
      (subst (λ (gs : List Share). MayEmit machines side first budget shares_of shares gs (wanted_put (Replies reply))) (sym all)
      (record {
        few = home.few;
        shared = home.shared;
        fits = subst (λ (ss : List Shares). AllZip Fits ss given) shared h.fits;
        each = can_go v (wanted_put (Replies reply)) h.can;
        turns = λ i below. let a = h.few i in let b = left (first + i) below in omega (arith, a, b);
        bytes = λ i below. h.bytes i;
      })))

-- enough calls of each machine are left after one call
pub still_left : (budget budget' said most : ℕ) → most + 1 ≤ budget → budget' + said ≡ budget → said ≤ 1 → most ≤ budget'
still_left budget budget' said most left spent one = omega (arith, left, spent, one)

-- a call and the frames that go out after it, as one sequence of calls
pub put_behind : {M D X Q A : Type 0} (side : D → LaneForm X) (first : ℕ) (machines machines' : List (Either M D)) → machines' ≡ machines →
    {Went Went' : List (Said (Either Q LaneAsk) (Either A LaneAnswer)) → Type 0} → ((said : List (Said (Either Q LaneAsk) (Either A LaneAnswer))) → Went said → Went' said) →
    (line line' : ℕ) → line ≡ line' → (wants wants' : List Emission) → wants ≡ wants' → (given granted : List Share) → granted ≡ given → (granted' back : List Share) → back ≡ granted' → (log log' : FrameLog) →
    HasEmitted machines' side first Went line wants granted log granted' log' → HasEmitted machines side first Went' line' wants' given log back log'
put_behind side first machines machines' same onward line line' lined wants wants' is given granted all granted' back whole log log' e = record {
  said = e.said;
  went = onward e.said e.went;
  outs = e.outs;
  all = e.all ∙ is;
  told = subst (λ (n : ℕ). AllByRecursion (λ (x : Emission × Emitted). IsOf n x.0 x.1) e.outs) lined e.told;
  says = subst (λ (ms : List (Either _ _)). SayAllBy ms side first e.outs e.said) same e.says;
  less = λ i. ap (grant_at i) whole ∙ e.less i ∙ ap (λ (es : List Emission). with_amount (grant_at i granted) ((grant_at i granted).amount - bytes_at i es)) is ∙ ap (λ (gs : List Share). with_amount (grant_at i gs) ((grant_at i gs).amount - bytes_at i wants')) all;
  logged = e.logged;
}

front : {A : Type 0} (xs zs : List A) → take (length xs) (xs ++ zs) ≡ xs
front [] zs = refl
front (x ∷ xs) zs = ap (λ (ys : List _). x ∷ ys) (front xs zs)

-- when the frames are out, a share keeps the granted bytes that they did not use
pub given_back : (shares : List Shares) (given granted : List Share) → AllZip Fits shares given → AllZip Fits shares granted → (n : ℕ) → n ≡ length given → take n (granted ++ drop (length granted) given) ≡ granted
given_back shares given granted fits fits' n size =
    ap (λ (m : ℕ). take m (granted ++ drop (length granted) given)) (size ∙ zip_same Fits shares given fits ∙ sym (zip_same Fits shares granted fits')) ∙ front granted (drop (length granted) given)
