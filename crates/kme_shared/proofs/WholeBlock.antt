-- A block went through from its start to its end.
use Rattle.std.proofs.Common.{◌≡◌, ℕ, ◌*◌, ◌^◌, ◌<◌, ◌≤◌, List, [], ◌∷◌, length, map, sym, ap, subst, ◌∙◌, arith, Option, Some, None, vec_capacity}
use Rattle.std.specs.Prelude.{slice_get, IfSome}
use Rattle.std.specs.List.{AllByRecursion}
use Rattle.std.specs.Option.{option_map}
use Rattle.std.proofs.lemmas.Option.{slice_get-map}
use Rattle.world_state.specs.Passed.{Post}
use Rattle.run_ops.specs.declared.job.Job.{Job}
use Rattle.block_run.specs.Jobs.{jobs_of, job_count}
use Rattle.lane_shares.specs.declared.shares.Shares.{Shares}
use Rattle.lane_shares.specs.Names.{Fits}
use Rattle.lane_sender.specs.Lane.{LaneForm}
use Rattle.par_lanes.specs.Grants.{IsShareOf}
use Rattle.par_lanes.specs.Asking.{MayAsk as MayAskLane}
use Rattle.par_lanes.specs.Turns.{desk_charter, DeskTurns}
use Rattle.shared_objects.specs.declared.either.Either.{Either}
use Rattle.shared_objects.specs.Done.{AreDone}
use Rattle.par_managers.specs.declared.ask.PlanAsk.{PlanAsk}
use Rattle.par_managers.specs.declared.ask.PlanAnswer.{PlanAnswer}
use Rattle.declared_site.specs.SiteOf.{site_of}
use Rattle.shared_objects.specs.declared.call.Call.{Call}
use Rattle.shared_objects.proofs.Zips.{zip_weaker}
use Rattle.par_managers.specs.declared.turn.Turn.{Turn}
use Rattle.par_managers.specs.Calls.{AreShifts, AreComing}
use Rattle.par_managers.proofs.Workers.{long_jobs}
use Rattle.par_managers.specs.declared.keep.Keep.{Keep}
use Rattle.par_managers.specs.Together.{HaveWorked}
use Rattle.par_frames.specs.declared.worked.Worked.{Worked}
use Rattle.par_managers.specs.PlanTaking.{MayCall, TookPlanTurn}
use Rattle.par_managers.specs.Doing.{DoesJob}
use Rattle.par_managers.proofs.Together.{either_turn, worked as talked}
use Rattle.kme_shared.specs.Working.{AreSeated, MayAsk, MayWork}
use Rattle.kme_shared.specs.Seats.{HaveSat, lefts, rights}
use Rattle.kme_shared.specs.Gathering.{AreGathered}
use Rattle.kme_shared.specs.Desks.{ManagerTurns, LaneTurns}
use Rattle.kme_shared.specs.WorkGathering.{AreBare}
use Rattle.kme_shared.specs.Going.{WentThrough}
use Rattle.world_state.specs.declared.state.State.{State}
use Rattle.kme_shared.specs.Keeping.{IsFresh}
use Rattle.kme_shared.proofs.BlockReplies.{all_at}
use Rattle.kme_shared.proofs.Places.{AreSplit, lefts_of, rights_of}
use Rattle.kme_shared.proofs.Seated.{are_sat, have_stayed, have_risen}
use Rattle.world_state.specs.Outside.{Outside}

pub all_weaker : {A : Type 0} (P R : A → Type 0) → ((x : A) → P x → R x) → (xs : List A) → AllByRecursion P xs → AllByRecursion R xs
all_weaker P R w [] h = tt
all_weaker P R w (x ∷ xs) h = (w x h.0, all_weaker P R w xs h.1)

-- the number of all calls is in range
pub few_calls : (workers jobs : ℕ) → workers ≤ 32 → jobs < 2 ^ 32 → workers * (jobs * 2097153) < 2 ^ 63
few_calls workers jobs few small =
    let a : workers * (jobs * 2097153) ≤ 32 * (jobs * 2097153) = grind (arith, few) in
    omega (arith, a, small)

module _ {K Q E X : Type 0} (outside : Outside K Q E X) (opening : State K Q E X) (workers : ℕ) (jobs : List Job) (keeps : List Keep)
    (shifts : AreShifts outside opening workers jobs (map (λ (keep : Keep). keep.shift.items) keeps)) (many : length keeps ≡ workers) (shares : List Shares)
    (fresh : AllByRecursion (IsFresh shares) keeps) where
  shift_at : (w : ℕ) (keep : Keep) → slice_get keeps w ≡ Some keep → slice_get (map (λ (keep : Keep). keep.shift.items) keeps) w ≡ Some keep.shift.items
  shift_at w keep at = slice_get-map (λ (keep : Keep). keep.shift.items) keeps w ∙ ap (option_map (λ (keep : Keep). keep.shift.items)) at

  pub entries : (w : ℕ) (keep : Keep) → slice_get keeps w ≡ Some keep → length keep.shift.items ≡ length (jobs_of w (length keeps) (length jobs))
  entries w keep at =
      shifts.entries w keep.shift.items (shift_at w keep at) ∙ sym (long_jobs w workers (job_count w workers (length jobs)))
      ∙ ap (λ (n : ℕ). length (jobs_of w n (length jobs))) (sym many)

  come : (first : ℕ) → first ≡ length opening.posts.items → (entries : List (Option (Call Turn))) → AreComing outside opening jobs entries →
      AllByRecursion (λ entry. IfSome entry (MayAsk outside opening first)) entries
  come first is [] h = tt
  come first is (None ∷ entries) h = (tt, come first is entries h.1)
  come first is (Some call ∷ entries) h = (record { node = (let n = h.0.0.node in omega (arith, n, is)); come = h.0.0.may }, come first is entries h.1)

  few : (first : ℕ) → (entries : List (Option (Call Turn))) → AllByRecursion (λ entry. IfSome entry (MayAsk outside opening first)) entries →
      AllByRecursion (λ entry. IfSome entry (λ call. call.machine < first)) entries
  few first [] h = tt
  few first (None ∷ entries) h = (tt, few first entries h.1)
  few first (Some call ∷ entries) h = (h.0.node, few first entries h.1)

  pub coming : (first : ℕ) → first ≡ length opening.posts.items → (w : ℕ) (keep : Keep) → slice_get keeps w ≡ Some keep →
      AllByRecursion (λ entry. IfSome entry (MayAsk outside opening first)) keep.shift.items
  coming first is w keep at =
      come first is keep.shift.items (all_at (AreComing outside opening jobs) (map (λ (keep : Keep). keep.shift.items) keeps) w keep.shift.items shifts.coming (shift_at w keep at))

  pub below : (first : ℕ) → first ≡ length opening.posts.items → (w : ℕ) (keep : Keep) → slice_get keeps w ≡ Some keep → AllByRecursion (λ entry. IfSome entry (λ call. call.machine < first)) keep.shift.items
  below first is w keep at = few first keep.shift.items (coming first is w keep at)

  pub bare : AreBare keeps
  bare = all_weaker (IsFresh shares) (λ (keep : Keep). (keep.replies.items ≡ []) × (keep.log.frames.items ≡ [])) (λ keep h. (h.replies, h.frames)) keeps fresh

  pub no_replies : AllByRecursion (λ (keep : Keep). keep.replies.items ≡ []) keeps
  no_replies = all_weaker (IsFresh shares) (λ (keep : Keep). keep.replies.items ≡ []) (λ keep h. h.replies) keeps fresh

  -- a worker may do its jobs
  module _ {D L : Type 0} (opening_of : D → State K Q E X) (node_of : D → ℕ) (shares_in : D → List Shares) (side_of : L → LaneForm X) (shares_of : L → Shares) (first : ℕ) (is : first ≡ length opening.posts.items)
      (machines : List (Either D L)) (seated : AreSeated opening_of node_of shares_in side_of shares_of opening (length opening.posts.items) shares machines) where
    pub may_work : (w : ℕ) (keep : Keep) → slice_get keeps w ≡ Some keep →
        MayWork opening_of node_of shares_in side_of shares_of opening first shares machines outside keep.shift.items keep.granted.items (length keep.replies.items) (vec_capacity keep.replies)
        (jobs_of w (length keeps) (length jobs))
    may_work w keep at =
        let f = all_at (IsFresh shares) keeps w keep fresh at in
        record {
          seated = subst (λ (n : ℕ). AreSeated opening_of node_of shares_in side_of shares_of opening n shares machines) (sym is) seated;
          entries = entries w keep at;
          coming = coming first is w keep at;
          fits = zip_weaker (λ d r. IsShareOf d 0 r) Fits (λ d r h. h.fits) shares keep.granted.items f.granted;
          replies' = (let e = ap (λ xs. length xs) f.replies in let r = f.room in omega (arith, e, r));
        }

-- managers and lanes went to their desks, the workers did their jobs, managers and lanes left, and the results were gathered
module _ {K Q E X D L : Type 0} (outside : Outside K Q E X)
    (opening_of : D → State K Q E X) (node_of up_of : D → ℕ) (post_of : D → Post K E) (shares_in : D → List Shares) (side_of : L → LaneForm X) (shares_of : L → Shares)
    (opening : State K Q E X) (workers : ℕ) (jobs : List Job) (shares : List Shares) (keeps nexts : List Keep) (machines machines' : List (Either D L)) where
  abbrev pub DidWork : Type 0
  DidWork =
      HaveWorked (ManagerTurns outside opening_of node_of up_of post_of shares_in) (LaneTurns outside.wire side_of shares_of)
      opening.lanes.items (length opening.posts.items) keeps machines nexts machines'

  -- if the errands are done at these machines, the workers did their jobs
  pub did_work : (first : ℕ) → first ≡ length opening.posts.items →
      AreDone (either_turn opening.lanes.items first (λ d. (opening_of d, node_of d, shares_in d)) (desk_charter side_of shares_of)
      (λ (c : State K Q E X × ℕ × List Shares) (t : PlanAsk). MayCall outside c.0 c.1 c.2 t.place t.job.now t.octets t.granted.items) MayAskLane
      (λ d (t : PlanAsk) (answer : PlanAnswer) n. TookPlanTurn outside.disk outside.entropy (site_of (opening_of d).site) (node_of d) (up_of d) (post_of d) (shares_in d)
      t.place t.job.now t.octets t.granted.items answer.reply answer.granted.items (up_of n) (post_of n)) (DeskTurns outside.wire side_of shares_of))
      (DoesJob opening.lanes.items first) (length jobs) keeps machines nexts machines' →
      ((w : ℕ) (keep : Keep) → slice_get keeps w ≡ Some keep → (length keep.shift.items ≡ length (jobs_of w (length keeps) (length jobs))) × AllByRecursion (λ entry. IfSome entry (λ call. call.machine < first)) keep.shift.items) →
      DidWork
  did_work first is done may =
      subst (λ (n : ℕ). HaveWorked (ManagerTurns outside opening_of node_of up_of post_of shares_in) (LaneTurns outside.wire side_of shares_of)
      opening.lanes.items n keeps machines nexts machines') is
      (talked opening.lanes.items first (λ d. (opening_of d, node_of d, shares_in d)) (desk_charter side_of shares_of)
      (λ (c : State K Q E X × ℕ × List Shares) (t : PlanAsk). MayCall outside c.0 c.1 c.2 t.place t.job.now t.octets t.granted.items) MayAskLane
      (λ d (t : PlanAsk) (answer : PlanAnswer) n. TookPlanTurn outside.disk outside.entropy (site_of (opening_of d).site) (node_of d) (up_of d) (post_of d) (shares_in d)
      t.place t.job.now t.octets t.granted.items answer.reply answer.granted.items (up_of n) (post_of n)) (DeskTurns outside.wire side_of shares_of) (length jobs) keeps machines nexts machines' done may)

  -- no machine was added or lost
  pub as_many : (sat : HaveSat opening_of node_of up_of post_of shares_in side_of shares_of opening shares machines) → length machines' ≡ length machines → DidWork →
      (length (lefts machines') ≡ length opening.posts.items) × (length (rights machines') ≡ length opening.lanes.items)
  as_many sat same did =
      let split : AreSplit (length opening.posts.items) (length opening.lanes.items) machines' =
      have_stayed opening_of node_of up_of post_of shares_in side_of shares_of opening shares machines sat
      (ManagerTurns outside opening_of node_of up_of post_of shares_in) (LaneTurns outside.wire side_of shares_of)
      keeps nexts machines' same did in (
        ap (λ (ms : List (Either D L)). length (lefts ms)) split.are ∙ ap (λ (ds : List D). length ds) (lefts_of split.first split.second) ∙ split.many,
        ap (λ (ms : List (Either D L)). length (rights ms)) split.are ∙ ap (λ (ds : List L). length ds) (rights_of split.first split.second) ∙ split.others,
      )

  pub went_through : (new : State K Q E X) (worked : Worked) → HaveSat opening_of node_of up_of post_of shares_in side_of shares_of opening shares machines → 1 ≤ workers → length keeps ≡ workers →
      AreShifts outside opening workers jobs (map (λ (keep : Keep). keep.shift.items) keeps) → AllByRecursion (IsFresh shares) keeps →
      length machines' ≡ length machines → DidWork → new.site ≡ opening.site → new.devices.items ≡ opening.devices.items → new.up ≡ opening.up →
      new.posts.items ≡ map post_of (lefts machines') → new.lanes.items ≡ map side_of (rights machines') → AreGathered nexts worked →
      WentThrough outside opening_of node_of up_of post_of shares_in side_of shares_of opening new workers jobs worked
  went_through new worked sat some many shifts fresh same did site devices links posts lanes all = record {
    some = some;
    keeps = keeps;
    callers = many;
    shifts = shifts;
    bare = bare outside opening workers jobs keeps shifts many shares fresh;
    machines = machines;
    sat = are_sat opening_of node_of up_of post_of shares_in side_of shares_of opening shares machines sat;
    machines' = machines';
    nexts = nexts;
    worked' = did;
    risen = have_risen opening_of node_of up_of post_of side_of opening new machines'
        (have_stayed opening_of node_of up_of post_of shares_in side_of shares_of opening shares machines sat
        (ManagerTurns outside opening_of node_of up_of post_of shares_in) (LaneTurns outside.wire side_of shares_of)
        keeps nexts machines' same did) posts lanes site devices links;
    gathered = all;
  }
