-- A block that went through is a block of the network, done by its workers.
use Rattle.std.proofs.Common.{◌≡◌, ℕ, ◌+◌, ◌<◌, true, List, length, map, refl, sym, ◌∙◌, ap, subst, arith, Some}
use Rattle.std.specs.Prelude.{slice_get}
use Rattle.std.specs.List.{AllByRecursion}
use Rattle.std.specs.List.Sorted.{IsPermutation}
use Rattle.std.proofs.lemmas.List.{length-map}
use Rattle.qkd_base.specs.declared.lane.Lane.{Lane}
use Rattle.net_model.specs.World.{Network, World}
use Rattle.net_model.specs.Events.{is_lane}
use Rattle.net_model.specs.Tick.{Emission}
use Rattle.declared_site.specs.SiteOf.{site_of}
use Rattle.world_state.specs.Passed.{Post}
use Rattle.run_ops.specs.Acting.{IsReady}
use Rattle.run_ops.specs.declared.job.Job.{Job}
use Rattle.run_ops.specs.Together.{turned}
use Rattle.shared_objects.specs.Rising.{together}
use Rattle.lane_shares.specs.declared.shares.Shares.{Shares}
use Rattle.lane_sender.specs.Lane.{LaneForm}
use Rattle.par_lanes.specs.declared.emitted.Emitted.{Emitted}
use Rattle.world_state.proofs.Passed.{get_within}
use Rattle.world_state.specs.Stands.{Stands}
use Rattle.world_state.specs.declared.state.State.{State}
use Rattle.world_state.specs.Armed.{most_armed}
use Rattle.par_managers.specs.declared.ask.PlanAsk.{PlanAsk}
use Rattle.par_managers.specs.declared.ask.PlanAnswer.{PlanAnswer}
use Rattle.par_managers.specs.Turns.{TookAllTurns}
use Rattle.par_frames.specs.Blocks.{LanesWorked, LanesLeft}
use Rattle.par_frames.specs.Owning.{AreOwnTurns}
use Rattle.par_frames.specs.Telling.{AreSorted}
use Rattle.par_frames.specs.Working.{kept}
use Rattle.par_frames.proofs.AllLanes.{lanes_left}
use Rattle.par_frames.specs.States.{HasLanes}
use Rattle.par_frames.proofs.Counting.{lanes_tallied}
use Rattle.par_frames.proofs.Standing.{stands}
use Rattle.par_managers.specs.declared.keep.Replied.{Replied}
use Rattle.par_frames.specs.declared.worked.Worked.{Worked}
use Rattle.par_frames.specs.NoteWorking.{HasWorked}
use Rattle.kme_shared.specs.Going.{WentThrough}
use Rattle.kme_shared.proofs.Called.{IsCalled, Leaves, said}
use Rattle.kme_shared.proofs.Frames.{lanes_in_order, reported, noted}
use Rattle.kme_shared.proofs.WorkKeeping.{AllKept, all_below_first, all_frames, all_of_lines, all_on_lanes, all_replies, as_many, each_kept}
use Rattle.kme_shared.proofs.Lanes.{IsWorked, is_worked}
use Rattle.kme_shared.proofs.Lists.{all_moved, fused, Listed, listed}
use Rattle.kme_shared.proofs.Managers.{Row, logs_of, Manages, called, can, asks, mid, took, armed_as}
use Rattle.kme_shared.proofs.Owning.{own_turn, own_turns, all_leave}
use Rattle.kme_shared.proofs.Replies.{all_told}
use Rattle.world_state.specs.Outside.{Outside}

module _ {K Q E X D L : Type 0} (outside : Outside K Q E X)
    (opening_of : D → State K Q E X) (node_of up_of : D → ℕ) (post_of : D → Post K E) (shares_in : D → List Shares) (side_of : L → LaneForm X) (shares_of : L → Shares)
    (old new : State K Q E X) (workers : ℕ) (jobs : List Job) (worked : Worked)
    (h : WentThrough {L = L} outside opening_of node_of up_of post_of shares_in side_of shares_of old new workers jobs worked) where
  abbrev first : ℕ
  first = length old.posts.items

  abbrev mines : List (List Replied)
  mines = h.worked'.mines

  abbrev outs : List (List (Emission × Emitted))
  outs = h.worked'.outs

  -- the managers

  abbrev ManagesHere : ℕ → Row D → Type 0
  ManagesHere v row =
      Manages outside opening_of node_of up_of post_of shares_in old jobs new workers h.keeps mines v row

  one_managed : (v : ℕ) → v < 0 + first → (row : Row D) × ManagesHere v row
  one_managed v lt =
      let less : v < first = omega (arith, lt) in
      let post = get_within old.posts.items v less in
      let sat = h.sat.managers v post.0 post.1 in
      let m = h.worked'.managers v sat.desk less sat.there in (
        record { desk = sat.desk; log = m.2.log; after = m.0 },
        record {
          posted = post.1 ∙ ap (λ (p : Post K E). Some p) (sym sat.is);
          opens = λ i. (sat.opens i, sat.node i);
          up = sat.up;
          risen = h.risen.posts v m.0 less m.1;
          leads = m.2.leads;
          called = record { calls = m.2.calls; merged = m.2.merged; asked = m.2.asked; replied = m.2.replied };
        },
      )

  rows : Listed ManagesHere 0 first
  rows = listed ManagesHere 0 first one_managed

  abbrev logs : List (List (PlanAsk × PlanAnswer))
  logs = logs_of rows.rows

  many : length logs ≡ first
  many = length-map rows.rows (λ (r : Row D). r.log) ∙ rows.long

  called_here : (v : ℕ) (log : List (PlanAsk × PlanAnswer)) → slice_get logs v ≡ Some log → IsCalled v h.keeps mines log
  called_here =
      called outside opening_of node_of up_of post_of shares_in old jobs new workers h.keeps mines h.shifts rows

  -- what the workers keep

  keeps_all : AllKept first mines outs
  keeps_all = each_kept first h.keeps mines outs h.nexts h.worked'.kept

  below : AllByRecursion (AllByRecursion (λ (r : Replied). r.node < length logs)) mines
  below = subst (λ (n : ℕ). AllByRecursion (AllByRecursion (λ (r : Replied). r.node < n)) mines) (sym many) (all_below_first first mines outs keeps_all)

  gathered : IsPermutation (together mines) h.gathered.replied
  gathered = subst (λ (rs : List Replied). IsPermutation rs h.gathered.replied) (all_replies first h.keeps mines outs h.nexts h.worked'.kept h.bare) h.gathered.replies

  replies_are : map turned worked.turns.items ≡ map said (together logs)
  replies_are =
      ap (map turned) h.gathered.turns ∙ fused turned (λ (r : Replied). r.turned) h.gathered.replied
      ∙ all_told h.keeps mines logs called_here below h.gathered.replied gathered h.gathered.order

  module _ (net : Network) (w : World) (ready : IsReady (Stands outside) old net w) where
    abbrev middle : State K Q E X
    middle = mid outside opening_of node_of up_of post_of shares_in old jobs new workers h.keeps mines h.shifts rows

    turns : TookAllTurns outside old middle net w workers jobs (map said (together logs))
    turns =
        took outside opening_of node_of up_of post_of shares_in old jobs new workers h.keeps mines h.shifts rows
        net w ready h.risen.nodes

    sited : site_of old.site ≡ net.site
    sited = sym ready.stands.sited

    leave : AllByRecursion (AllByRecursion (Leaves net.site)) mines
    leave =
        all_leave h.keeps mines logs called_here below net.site
        (can outside opening_of node_of up_of post_of shares_in old jobs new workers h.keeps mines h.shifts rows net.site sited)

    own : AreOwnTurns net workers w turns.histories (map (map own_turn) mines)
    own =
        own_turns h.keeps mines logs called_here below (site_of old.site) workers jobs
        (asks outside opening_of node_of up_of post_of shares_in old jobs new workers h.keeps mines h.shifts)
        net w turns.histories (many ∙ ready.stands.nodes) leave turns.said

    -- the lanes

    abbrev WorkedHere : Lane → Type 0
    WorkedHere l = IsWorked {M = D} outside.wire side_of shares_of net workers w turns.histories old.lanes.items new.lanes.items first h.machines h.machines' mines outs l

    one_worked : (l : Lane) → is_lane net.site l ≡ true → WorkedHere l
    one_worked l e =
        is_worked outside.wire side_of shares_of net workers w turns.histories old.lanes.items new.lanes.items first h.machines h.machines' mines outs
        (λ i side at. let sat = h.sat.lanes i side at in (sat.desk, sat.there, sat.is)) h.worked'.desks h.risen.lanes (λ k side f at. turns.stands.lanes k side f at) ready.stands.sides keeps_all
        ((as_many first h.keeps mines outs h.nexts h.worked'.kept).1 ∙ h.callers) ready.stands.running.network own l e

    lanes : LanesWorked outside.wire net workers w turns.histories
    lanes l e = (one_worked l e).lane

    has : HasLanes outside.wire net workers w turns.histories lanes middle new
    unfolding lanes
    has = record {
      site = h.risen.site;
      posts = refl;
      devices = h.risen.devices;
      up = h.risen.links;
      sides = h.risen.sides;
      was = λ l e. (one_worked l e).was;
      is = λ l e. (one_worked l e).is;
    }

    all_left : LanesLeft outside.wire net workers w jobs turns.histories lanes
    all_left =
        lanes_left outside.wire net workers w jobs turns.histories h.some ready.stands.running ready.quiet
        (record { nodes = turns.nodes; merged = turns.merged; turns = turns.turns }) lanes

    -- the frames

    module _ (whole : worked.is_whole ≡ true) where
      same : IsPermutation (together (map kept outs)) worked.frames.items
      same = subst (λ (es : List Emitted). IsPermutation es worked.frames.items) (all_frames first h.keeps mines outs h.nexts h.worked'.kept h.bare (h.gathered.whole whole)) (h.gathered.frames whole)

      sorted : AreSorted outside.wire net workers w turns.histories lanes outs worked.frames.items
      unfolding lanes
      sorted = record { lanes' = λ l e. (one_worked l e).put; told = all_of_lines first mines outs keeps_all; same = same; order = h.gathered.lanes whole }

      declared : AllByRecursion (λ (e : Emitted). is_lane net.site e.lane ≡ true) worked.frames.items
      declared = all_moved (λ (e : Emitted). is_lane net.site e.lane ≡ true) (together (map kept outs)) worked.frames.items same (all_on_lanes first net.site mines outs keeps_all leave)

    pub has_worked : HasWorked outside old new net w workers jobs worked
    has_worked = record {
      histories = turns.histories;
      logs = all_left.logs;
      are = all_left.are;
      stands = stands outside net workers w jobs turns.histories lanes all_left middle new has turns.stands;
      tallied = lanes_tallied outside net workers w jobs turns.histories lanes all_left old middle new new has turns.tallied refl ready.stands.sides;
      said = λ whole. replies_are ∙ turns.said;
      in_lanes = λ whole. lanes_in_order net.site worked.frames.items (declared whole) (h.gathered.lanes whole);
      reported = λ whole l e. reported outside.wire net workers w jobs turns.histories lanes all_left outs worked.frames.items (sorted whole) l e;
      noted = λ whole l e. noted outside.wire net workers w jobs turns.histories lanes all_left outs worked.frames.items (sorted whole) l e;
    }

    pub has_armed : most_armed outside.disk new.posts.items ≡ most_armed outside.disk old.posts.items
    has_armed =
        armed_as outside opening_of node_of up_of post_of shares_in old jobs new workers h.keeps mines h.shifts rows
        net w ready h.risen.nodes
