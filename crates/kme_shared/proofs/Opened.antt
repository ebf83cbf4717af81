-- What a block's workers begin with, from a snapshot of the state.
use Rattle.std.proofs.Common.{◌≡◌, ℕ, List, ◌++◌, length, map, take, drop, sym, ap, subst, ◌∙◌, arith, Option, Vec, Global}
use Rattle.std.specs.List.{AllZip}
use Rattle.std.proofs.lemmas.List.{length-map}
use Rattle.net_model.specs.World.{Network, World}
use Rattle.world_state.specs.Passed.{Post}
use Rattle.run_ops.specs.Acting.{IsReady}
use Rattle.run_ops.specs.declared.job.Job.{Job}
use Rattle.lane_shares.specs.declared.share.Share.{Share}
use Rattle.lane_shares.specs.declared.shares.Shares.{Shares}
use Rattle.lane_shares.specs.Names.{knows, Fits}
use Rattle.lane_sender.specs.Lane.{LaneForm}
use Rattle.shared_objects.specs.declared.call.Call.{Call}
use Rattle.shared_objects.proofs.Lasts.{written_back}
use Rattle.shared_objects.proofs.Zips.{zip_same}
use Rattle.par_managers.specs.declared.turn.Turn.{Turn}
use Rattle.par_managers.specs.Calls.{AreShifts}
use Rattle.par_managers.specs.Opening.{AllOpened}
use Rattle.par_managers.proofs.Openings.{opened_long}
use Rattle.world_state.specs.declared.state.State.{State}
use Rattle.world_state.specs.Stands.{Stands}
use Rattle.par_frames.specs.declared.worked.Worked.{Worked}
use Rattle.par_frames.specs.NoteWorking.{HasWorked}
use Rattle.kme_shared.specs.Sheets.{IsDealt}
use Rattle.kme_shared.proofs.Dealt.{opened_as}
use Rattle.world_state.specs.Outside.{Outside}

-- lists with equal images are equally long
pub same_long : {A B C : Type 0} (f : A → C) (g : B → C) (xs : List A) (ys : List B) → map f xs ≡ map g ys → length xs ≡ length ys
same_long {A} {B} {C} f g xs ys e = sym (length-map xs f) ∙ ap (λ (zs : List C). length zs) e ∙ length-map ys g

-- the issuers keep their bytes when others are written over them
pub still_opened : {K Q E X : Type 0} (s : State K Q E X) (sides : List (LaneForm X)) (ds : List Shares) (rs us : List Share) → AllOpened s sides ds rs us →
    (first again : List Shares) (given gave taken : List Share) (n : ℕ) → first ≡ ds → again ≡ ds → given ≡ rs → n ≡ length rs → AllZip Fits first gave → map knows gave ≡ map knows given →
    taken ≡ take n (gave ++ drop (length gave) rs) → AllOpened s sides again taken us
still_opened s sides ds rs us h first again given gave taken n is is' from many fits same back =
    let fit : AllZip Fits ds gave = subst (λ (es : List Shares). AllZip Fits es gave) is fits in
    let long = opened_long s sides ds rs us h in
    let zipped = zip_same Fits ds gave fit in
    let whole : taken ≡ gave = back ∙ written_back n gave rs (omega (arith, zipped, long.0, long.1, many)) in
    subst (λ (es : List Shares). AllOpened s sides es taken us) (sym is')
    (subst (λ (qs : List Share). AllOpened s sides ds qs us) (sym whole) (opened_as s sides ds rs us gave h fit (same ∙ ap (map knows) from)))

module _ {K Q E X : Type 0} (outside : Outside K Q E X) (old opening : State K Q E X) (is : opening ≡ old) where
  pub ready_at : (net : Network) (w : World) → IsReady (Stands outside) old net w → IsReady (Stands outside) opening net w
  ready_at net w ready = subst (λ (s : State K Q E X). IsReady (Stands outside) s net w) (sym is) ready

  pub shifts_at : (n workers : ℕ) (jobs : List Job) (xs ys : List (List (Option (Call Turn)))) → n ≡ workers → ys ≡ xs → AreShifts outside old workers jobs xs →
      AreShifts outside opening n jobs ys
  shifts_at n workers jobs xs ys many same h =
      subst (λ (zs : List (List (Option (Call Turn)))). AreShifts outside opening n jobs zs) (sym same)
      (subst (λ (m : ℕ). AreShifts outside opening m jobs xs) (sym many)
      (subst (λ (s : State K Q E X). AreShifts outside s workers jobs xs) (sym is) h))

  pub dealt_at : (ds ds' : List Shares) (v : ℕ) (issuers : List Share) (kept : State K Q E X) → ds' ≡ ds → IsDealt old ds v issuers kept → IsDealt opening ds' v issuers kept
  dealt_at ds ds' v issuers kept same h =
      subst (λ (es : List Shares). IsDealt opening es v issuers kept) (sym same) (subst (λ (s : State K Q E X). IsDealt s ds v issuers kept) (sym is) h)

  -- work that was done from the snapshot was done from the state
  pub worked_from : (posts : Vec (Post K E) Global) (lanes : Vec (LaneForm X) Global) (n workers : ℕ) (jobs : List Job) (worked : Worked) →
      n ≡ workers →
      ((net : Network) (w : World) → IsReady (Stands outside) opening net w →
      HasWorked outside opening (record opening { posts = posts; lanes = lanes }) net w n jobs worked) →
      (net : Network) (w : World) → IsReady (Stands outside) old net w →
      HasWorked outside old (record old { posts = posts; lanes = lanes }) net w workers jobs worked
  worked_from posts lanes n workers jobs worked many h net w ready =
      subst (λ (m : ℕ). HasWorked outside old (record old { posts = posts; lanes = lanes }) net w m jobs worked) many
      (subst (λ (s : State K Q E X). HasWorked outside s (record s { posts = posts; lanes = lanes }) net w n jobs worked) is (h net w (ready_at net w ready)))
