-- The calls of all workers, machine by machine.
use Rattle.std.proofs.Common.{◌≡◌, ℕ, zero, suc, ◌+◌, ◌<◌, List, [], ◌∷◌, map, filter, length, refl, ap, ap₂, subst, ◌∙◌, arith, Some}
use Rattle.std.specs.Prelude.{◌==◌, slice_get, IfSome}
use Rattle.std.specs.List.{AllZip, AllByRecursion}
use Rattle.std.proofs.lemmas.Option.{slice_get_within}
use Rattle.block_run.specs.Jobs.{jobs_of}
use Rattle.net_model.specs.Tick.{Emission}
use Rattle.net_model.specs.BlockOrder.{IsMerge}
use Rattle.run_ops.specs.declared.job.Job.{Job}
use Rattle.turnstile.specs.Turns.{turn_of}
use Rattle.lane_sender.specs.Lane.{LaneForm}
use Rattle.par_lanes.specs.declared.ask.LaneAsk.{LaneAsk}
use Rattle.par_lanes.specs.declared.ask.LaneAnswer.{LaneAnswer}
use Rattle.shared_objects.specs.declared.either.Either.{Either}
use Rattle.shared_objects.specs.declared.either.Either.TheVariants.{Left, Right}
use Rattle.shared_objects.specs.Sides.{charter_of, TakesOn, TurnsOn}
use Rattle.shared_objects.specs.Histories.{on_left, on_right}
use Rattle.shared_objects.proofs.Staying.{left_same, right_same, stays_left, stays_right}
use Rattle.shared_objects.specs.Rising.{placed_from}
use Rattle.shared_objects.proofs.Making.{made_of}
use Rattle.shared_objects.specs.Asked.{requests_on}
use Rattle.shared_objects.proofs.Zips.{item_at}
use Rattle.shared_objects.specs.Said.{Said, said_on, all_said}
use Rattle.shared_objects.specs.Done.{HasAnswered, AreDone}
use Rattle.par_lanes.specs.declared.emitted.Emitted.{Emitted}
use Rattle.par_lanes.specs.Calls.{CallAllBy, emitted_at}
use Rattle.par_lanes.specs.Saying.{desk_call}
use Rattle.par_managers.specs.declared.ask.PlanAsk.{PlanAsk}
use Rattle.par_managers.specs.declared.ask.PlanAnswer.{PlanAnswer}
use Rattle.par_managers.specs.declared.keep.Replied.{Replied}
use Rattle.par_managers.specs.declared.keep.Keep.{Keep}
use Rattle.par_managers.specs.Doing.{Ask, Answer, DoesJob}
use Rattle.par_managers.specs.Talking.{manager_call, line_asked, line_of, reply_kept, HasTalked}
use Rattle.par_managers.specs.Together.{HaveKept, IsManaged, IsLaid, HaveWorked}
use Rattle.par_managers.proofs.Talking.{talks}

-- If f is one to one, a merge of images under f is the image of a merge.

same_map : {A B : Type 0} (f : A → B) → ((x y : A) → f x ≡ f y → x ≡ y) → (xs ys : List A) → map f xs ≡ map f ys → xs ≡ ys
same_map f one [] [] e = refl
same_map f one [] (y ∷ ys) e = absurd (cc e)
same_map f one (x ∷ xs) [] e = absurd (cc e)
same_map f one (x ∷ xs) (y ∷ ys) e = ap₂ (λ z zs. z ∷ zs) (one x y (head_same e)) (same_map f one xs ys (tail_same e))
  where
    head_same : {B : Type 0} {a b : B} {xs ys : List B} → a ∷ xs ≡ b ∷ ys → a ≡ b
    head_same e = cc

    tail_same : {B : Type 0} {a b : B} {xs ys : List B} → a ∷ xs ≡ b ∷ ys → xs ≡ ys
    tail_same e = cc

merge_back : {A B : Type 0} (f : A → B) → ((x y : A) → f x ≡ f y → x ≡ y) → (parts : List (List A)) (out : List A) → IsMerge (map (map f) parts) (map f out) → IsMerge parts out
merge_back {A} f one parts out h =
    let made = made_of f parts (map f out) h in
    subst (λ (xs : List A). IsMerge parts xs) (same_map f one made.merge out made.of) made.is

-- the entries of a list with their places
placed_map : {A B : Type 0} (f : A → B) (place : ℕ) (xs : List A) → placed_from place (map f xs) ≡ map (λ (c : ℕ × A). (c.0, f c.1)) (placed_from place xs)
placed_map f place [] = refl
placed_map f place (x ∷ xs) = ap (λ rest. (place, f x) ∷ rest) (placed_map f (place + 1) xs)

manager_one : (x y : ℕ × (PlanAsk × PlanAnswer)) → manager_call x ≡ manager_call y → x ≡ y
manager_one x y e = let asks = left_same x.1.0 y.1.0 (ap (λ c. c.1.0) e) in let answers = left_same x.1.1 y.1.1 (ap (λ c. c.1.1) e) in λ i. ((e i).0, (asks i, answers i))

desk_one : (x y : ℕ × (LaneAsk × LaneAnswer)) → desk_call {Q = PlanAsk} {A = PlanAnswer} x ≡ desk_call y → x ≡ y
desk_one x y e = let asks = right_same x.1.0 y.1.0 (ap (λ c. c.1.0) e) in let answers = right_same x.1.1 y.1.1 (ap (λ c. c.1.1) e) in λ i. ((e i).0, (asks i, answers i))

module _ {X : Type 0} (lanes : List (LaneForm X)) (first : ℕ) where
  -- Each worker has done its jobs.
  abbrev pub HaveAllTalked : List Keep → List (List (Said Ask Answer)) → List Keep → Type 0
  HaveAllTalked [] [] [] = Unit {0}
  HaveAllTalked (keep ∷ keeps) (said ∷ saids) (next ∷ nexts) = HasTalked lanes first keep said next × HaveAllTalked keeps saids nexts
  HaveAllTalked _ _ _ = ⊥

  all_talked : (keeps : List Keep) (talks' : List (List (ℕ × List (Said Ask Answer)))) (nexts : List Keep) → length talks' ≡ length keeps → length nexts ≡ length keeps →
      ((w : ℕ) (keep next : Keep) (talk : List (ℕ × List (Said Ask Answer))) → slice_get keeps w ≡ Some keep → slice_get nexts w ≡ Some next → slice_get talks' w ≡ Some talk → HasTalked lanes first keep (all_said talk) next) →
      HaveAllTalked keeps (map all_said talks') nexts
  all_talked [] [] [] m n h = tt
  all_talked [] (t ∷ ts) nexts m n h = absurd (omega (arith, m))
  all_talked [] [] (x ∷ xs) m n h = absurd (omega (arith, n))
  all_talked (k ∷ ks) [] nexts m n h = absurd (omega (arith, m))
  all_talked (k ∷ ks) (t ∷ ts) [] m n h = absurd (omega (arith, n))
  all_talked (k ∷ ks) (t ∷ ts) (x ∷ xs) m n h =
      (h zero k x t refl refl refl, all_talked ks ts xs (omega (arith, m)) (omega (arith, n)) (λ w keep next talk a b c. h (suc w) keep next talk a b c))

  -- what the workers keep, worker by worker

  mines_of : (keeps : List Keep) (saids : List (List (Said Ask Answer))) (nexts : List Keep) → HaveAllTalked keeps saids nexts → List (List Replied)
  mines_of [] [] [] h = []
  mines_of (k ∷ ks) (s ∷ ss) (n ∷ ns) h = h.0.mine ∷ mines_of ks ss ns h.1
  mines_of [] (s ∷ ss) ns h = absurd h
  mines_of [] [] (n ∷ ns) h = absurd h
  mines_of (k ∷ ks) [] ns h = absurd h
  mines_of (k ∷ ks) (s ∷ ss) [] h = absurd h

  outs_of : (keeps : List Keep) (saids : List (List (Said Ask Answer))) (nexts : List Keep) → HaveAllTalked keeps saids nexts → List (List (Emission × Emitted))
  outs_of [] [] [] h = []
  outs_of (k ∷ ks) (s ∷ ss) (n ∷ ns) h = h.0.outs ∷ outs_of ks ss ns h.1
  outs_of [] (s ∷ ss) ns h = absurd h
  outs_of [] [] (n ∷ ns) h = absurd h
  outs_of (k ∷ ks) [] ns h = absurd h
  outs_of (k ∷ ks) (s ∷ ss) [] h = absurd h

  have_kept : (keeps : List Keep) (saids : List (List (Said Ask Answer))) (nexts : List Keep) (h : HaveAllTalked keeps saids nexts) → HaveKept first keeps (mines_of keeps saids nexts h) (outs_of keeps saids nexts h) nexts
  unfolding mines_of outs_of
  have_kept [] [] [] h = tt
  have_kept (k ∷ ks) (s ∷ ss) (n ∷ ns) h = (record { kept = h.0.kept; logged = h.0.logged; of = h.0.of; wanted = h.0.wanted; nodes = h.0.nodes }, have_kept ks ss ns h.1)
  have_kept [] (s ∷ ss) ns h = absurd h
  have_kept [] [] (n ∷ ns) h = absurd h
  have_kept (k ∷ ks) [] ns h = absurd h
  have_kept (k ∷ ks) (s ∷ ss) [] h = absurd h

  -- the calls of a manager
  record HaveTurned (v : ℕ) (keeps : List Keep) (saids : List (List (Said Ask Answer))) (mines : List (List Replied)) : Type 0 where
    calls : List (List (ℕ × (PlanAsk × PlanAnswer)))
    are : map (said_on v) saids ≡ map (map manager_call) calls
    asked : map (map line_asked) calls ≡ map (λ (keep : Keep). map line_of (requests_on v keep.shift.items)) keeps
    replied : map (map (reply_kept v)) calls ≡ map (filter (λ (r : Replied). r.node == v)) mines

  have_turned : (v : ℕ) → v < first → (keeps : List Keep) (saids : List (List (Said Ask Answer))) (nexts : List Keep) (h : HaveAllTalked keeps saids nexts) → HaveTurned v keeps saids (mines_of keeps saids nexts h)
  unfolding mines_of
  have_turned v below [] [] [] h = record { calls = []; are = refl; asked = refl; replied = refl }
  have_turned v below (k ∷ ks) (s ∷ ss) (n ∷ ns) h =
      let one = h.0.turned v below in
      let more = have_turned v below ks ss ns h.1 in
      record {
        calls = one.calls ∷ more.calls;
        are = ap₂ (λ (x : List (ℕ × (Ask × Answer))) (xs : List (List (ℕ × (Ask × Answer)))). x ∷ xs) one.are more.are;
        asked = ap₂ (λ (x : List (ℕ × Job)) (xs : List (List (ℕ × Job))). x ∷ xs) one.asked more.asked;
        replied = ap₂ (λ (x : List Replied) (xs : List (List Replied)). x ∷ xs) one.replied more.replied;
      }
  have_turned v below [] (s ∷ ss) ns h = absurd h
  have_turned v below [] [] (n ∷ ns) h = absurd h
  have_turned v below (k ∷ ks) [] ns h = absurd h
  have_turned v below (k ∷ ks) (s ∷ ss) [] h = absurd h

  -- the calls of a lane
  record HaveSent (i : ℕ) (side : LaneForm X) (saids : List (List (Said Ask Answer))) (outs : List (List (Emission × Emitted))) : Type 0 where
    calls : List (List (ℕ × (LaneAsk × LaneAnswer)))
    are : map (said_on (first + i)) saids ≡ map (map desk_call) calls
    by : AllZip (CallAllBy side) (map (emitted_at i) outs) calls

  have_sent : (i : ℕ) (side : LaneForm X) → slice_get lanes i ≡ Some side → (keeps : List Keep) (saids : List (List (Said Ask Answer))) (nexts : List Keep) (h : HaveAllTalked keeps saids nexts) → HaveSent i side saids (outs_of keeps saids nexts h)
  unfolding outs_of
  have_sent i side there [] [] [] h = record { calls = []; are = refl; by = tt }
  have_sent i side there (k ∷ ks) (s ∷ ss) (n ∷ ns) h =
      let one = h.0.sent i side there in
      let more = have_sent i side there ks ss ns h.1 in
      record {
        calls = one.calls ∷ more.calls;
        are = ap₂ (λ (x : List (ℕ × (Ask × Answer))) (xs : List (List (ℕ × (Ask × Answer)))). x ∷ xs) one.are more.are;
        by = (one.by, more.by);
      }
  have_sent i side there [] (s ∷ ss) ns h = absurd h
  have_sent i side there [] [] (n ∷ ns) h = absurd h
  have_sent i side there (k ∷ ks) [] ns h = absurd h
  have_sent i side there (k ∷ ks) (s ∷ ss) [] h = absurd h

  -- ---- machine by machine
  module _ {M N C D : Type 0} (charter : M → C) (other_charter : N → D) (takes : C → PlanAsk → Type 0) (other_takes : D → LaneAsk → Type 0) (turns : M → PlanAsk → PlanAnswer → M → Type 0) (other_turns : N → LaneAsk → LaneAnswer → N → Type 0) where
    abbrev turn : M → PlanAsk → PlanAnswer → M → Type 0
    turn = turn_of charter takes turns

    abbrev other_turn : N → LaneAsk → LaneAnswer → N → Type 0
    other_turn = turn_of other_charter other_takes other_turns

    abbrev pub either_turn : Either M N → Ask → Answer → Either M N → Type 0
    either_turn = turn_of (charter_of charter other_charter) (TakesOn takes other_takes) (TurnsOn turns other_turns)

    managed : (v : ℕ) → v < first → (keeps : List Keep) (saids : List (List (Said Ask Answer))) (nexts : List Keep) (h : HaveAllTalked keeps saids nexts) (before : M) (after : Either M N) → HasAnswered either_turn (map (said_on v) saids) (Left before) after →
        (next : M) × (after ≡ Left next) × IsManaged turn v keeps (mines_of keeps saids nexts h) before next
    managed v below keeps saids nexts h before after a =
        let t = have_turned v below keeps saids nexts h in
        let stays = stays_left charter other_charter takes other_takes turns other_turns before a.log after a.leads in
        let placed = ap (placed_from 0) stays.whole ∙ placed_map on_left 0 stays.own in (
          stays.left,
          stays.leaves,
          record {
            log = stays.own;
            leads = stays.leads;
            calls = t.calls;
            merged = merge_back manager_call manager_one t.calls (placed_from 0 stays.own) (subst (λ (ps : List (List (ℕ × (Ask × Answer)))). IsMerge ps (map manager_call (placed_from 0 stays.own))) t.are (subst (λ (out : List (ℕ × (Ask × Answer))). IsMerge (map (said_on v) saids) out) placed a.merged));
            asked = t.asked;
            replied = t.replied;
          },
        )

    laid : (i : ℕ) (side : LaneForm X) → slice_get lanes i ≡ Some side → (keeps : List Keep) (saids : List (List (Said Ask Answer))) (nexts : List Keep) (h : HaveAllTalked keeps saids nexts) (before : N) (after : Either M N) →
        HasAnswered either_turn (map (said_on (first + i)) saids) (Right before) after → (next : N) × (after ≡ Right next) × IsLaid other_turn i side (outs_of keeps saids nexts h) before next
    laid i side there keeps saids nexts h before after a =
        let t = have_sent i side there keeps saids nexts h in
        let stays = stays_right charter other_charter takes other_takes turns other_turns before a.log after a.leads in
        let placed = ap (placed_from 0) stays.whole ∙ placed_map on_right 0 stays.own in (
          stays.left,
          stays.leaves,
          record {
            log = stays.own;
            leads = stays.leads;
            calls = t.calls;
            merged = merge_back desk_call desk_one t.calls (placed_from 0 stays.own) (subst (λ (ps : List (List (ℕ × (Ask × Answer)))). IsMerge ps (map desk_call (placed_from 0 stays.own))) t.are (subst (λ (out : List (ℕ × (Ask × Answer))). IsMerge (map (said_on (first + i)) saids) out) placed a.merged));
            by = t.by;
          },
        )

    pub worked : (jobs : ℕ) (keeps : List Keep) (machines : List (Either M N)) (nexts : List Keep) (machines' : List (Either M N)) → AreDone either_turn (DoesJob lanes first) jobs keeps machines nexts machines' →
        ((w : ℕ) (keep : Keep) → slice_get keeps w ≡ Some keep → (length keep.shift.items ≡ length (jobs_of w (length keeps) jobs)) × AllByRecursion (λ entry. IfSome entry (λ call. call.machine < first)) keep.shift.items) →
        HaveWorked turn other_turn lanes first keeps machines nexts machines'
    worked jobs keeps machines nexts machines' done may =
        let all = all_talked keeps done.talks nexts done.talked.workers done.talked.keeps
        (λ w keep next talk a b c. let m = may w keep a in talks lanes first (jobs_of w (length keeps) jobs) keep next talk (done.talked.chains w keep next talk a b c) m.0 m.1) in
        let saids : List (List (Said Ask Answer)) = map all_said done.talks in
        record {
          mines = mines_of keeps saids nexts all;
          outs = outs_of keeps saids nexts all;
          kept = have_kept keeps saids nexts all;
          managers = λ v before below there.
              let there' = after_at v (Left before) there in
              let m = managed v below keeps saids nexts all before there'.0 (done.answered.each v (Left before) there'.0 there there'.1) in
              (m.0, there'.1 ∙ ap Some m.1, m.2);
          desks = λ i side before at there.
              let there' = after_at (first + i) (Right before) there in
              let m = laid i side at keeps saids nexts all before there'.0 (done.answered.each (first + i) (Right before) there'.0 there there'.1) in
              (m.0, there'.1 ∙ ap Some m.1, m.2);
        }
      where
        after_at : (i : ℕ) (m : Either M N) → slice_get machines i ≡ Some m → (n : Either M N) × (slice_get machines' i ≡ Some n)
        after_at i m there = let within = slice_get_within machines i m there in let same = done.answered.same in item_at machines' i (omega (arith, within, same))
