-- The turns that each worker asked of the managers.
use Rattle.std.proofs.Common.{◌≡◌, ℕ, ◌+◌, ◌%◌, ◌<◌, true, false, List, [], ◌∷◌, length, map, refl, sym, ◌∙◌, ap, ap₂, subst, arith, Some}
use Rattle.std.specs.Prelude.{◌==◌, cond, filter, slice_get}
use Rattle.std.specs.List.{AllByRecursion}
use Rattle.std.proofs.lemmas.List.{length-map}
use Rattle.std.proofs.lemmas.Option.{slice_get_within}
use Rattle.net_model.specs.Site.{Site, sender, count_up}
use Rattle.net_model.specs.World.{Network, World}
use Rattle.net_model.specs.Action.{Outcome, Replies}
use Rattle.net_model.specs.BlockOrder.{IsMerge}
use Rattle.net_model.specs.Tick.{Emission, Again, New}
use Rattle.run_model.specs.Works.{Work, flat, done_from, wanted_put}
use Rattle.run_ops.specs.declared.job.Job.{Job}
use Rattle.run_ops.specs.Jobs.{asked_by}
use Rattle.run_ops.specs.Together.{turn_done}
use Rattle.law_base.proofs.Lists.{all_at, all_from, mapped_at}
use Rattle.shared_objects.specs.Rising.{placed_from, together}
use Rattle.shared_objects.proofs.Alls.{all_map}
use Rattle.shared_objects.proofs.Holding.{all_of_parts}
use Rattle.shared_objects.proofs.Mapping.{merge_map}
use Rattle.law_parallel.specs.Putting.{lane_of}
use Rattle.world_state.proofs.Passed.{get_within, get-map}
use Rattle.par_managers.proofs.Histories.{length-count_up, counted_at}
use Rattle.shared_objects.specs.Asked.{requests_on}
use Rattle.par_managers.specs.declared.turn.Turn.{Turn}
use Rattle.par_managers.specs.Calls.{work_of}
use Rattle.par_frames.specs.Owning.{NodeTurn, told_by, turns_at, SendsItsOwn, AreOwnTurns}
use Rattle.par_managers.specs.declared.ask.PlanAsk.{PlanAsk}
use Rattle.par_managers.specs.declared.ask.PlanAnswer.{PlanAnswer}
use Rattle.par_managers.specs.Wanted.{CanLeave}
use Rattle.par_managers.specs.declared.keep.Replied.{Replied}
use Rattle.par_managers.specs.declared.keep.Keep.{Keep}
use Rattle.par_managers.specs.Talking.{line_asked, line_of, reply_kept}
use Rattle.kme_shared.proofs.Asked.{asked_own}
use Rattle.kme_shared.proofs.Called.{IsCalled, Leaves, said, told}
use Rattle.kme_shared.proofs.Lists.{all_fused, all_parts, flat_mapped, from_map, some_is, to_map, to_maps}

abbrev here : ℕ → List Replied → List Replied
here v rs = filter (λ (r : Replied). r.node == v) rs

-- a reply as a turn that its worker asked for
abbrev pub own_turn : Replied → NodeTurn
own_turn r = record { node = r.node; line = r.turned.place; outcome = Replies r.turned.reply }

-- ---- the turns at one node, as pairs of a line's place and an outcome

told_at : (v : ℕ) (rs : List Replied) → map told_by (turns_at v (map own_turn rs)) ≡ map told (here v rs)
told_at v [] = refl
told_at v (r ∷ rs) =
    let rest = told_at v rs in
    elim (r.node == v) as (λ t. map told_by (cond t (own_turn r ∷ turns_at v (map own_turn rs)) (turns_at v (map own_turn rs))) ≡ map told (cond t (r ∷ here v rs) (here v rs))) [
      | true ↦ ap (λ (xs : List (ℕ × Outcome)). told r ∷ xs) rest
      | false ↦ rest
    ]

all_told_at : (v : ℕ) (mines : List (List Replied)) → map (λ ts. map told_by (turns_at v ts)) (map (map own_turn) mines) ≡ map (map told) (map (here v) mines)
all_told_at v [] = refl
all_told_at v (m ∷ ms) = ap₂ (λ (xs : List (ℕ × Outcome)) (xss : List (List (ℕ × Outcome))). xs ∷ xss) (told_at v m) (all_told_at v ms)

said_placed : (n : ℕ) (log : List (PlanAsk × PlanAnswer)) → map (λ (c : ℕ × (PlanAsk × PlanAnswer)). said c.1) (placed_from n log) ≡ map said log
said_placed n [] = refl
said_placed n (e ∷ log) = ap (λ (xs : List (ℕ × Outcome)). said e ∷ xs) (said_placed (n + 1) log)

all_placed : {A : Type 0} (P : A → Type 0) (n : ℕ) (log : List A) → AllByRecursion P log → AllByRecursion (λ (c : ℕ × A). P c.1) (placed_from n log)
all_placed P n [] h = tt
all_placed P n (e ∷ log) h = (h.0, all_placed P (n + 1) log h.1)

goes_from : (s : Site) (v : ℕ) (e : Emission) → CanLeave s v e → sender s (lane_of e) ≡ v
goes_from s v (Again r) h = h.1
goes_from s v (New o) h = h.1

module _ (keeps : List Keep) (mines : List (List Replied)) (logs : List (List (PlanAsk × PlanAnswer))) (called : (v : ℕ) (log : List (PlanAsk × PlanAnswer)) → slice_get logs v ≡ Some log → IsCalled v keeps mines log)
    (below : AllByRecursion (AllByRecursion (λ (r : Replied). r.node < length logs)) mines) where
  merged_at : (v : ℕ) (log : List (PlanAsk × PlanAnswer)) → slice_get logs v ≡ Some log → IsMerge (map (λ ts. map told_by (turns_at v ts)) (map (map own_turn) mines)) (map said log)
  merged_at v log at =
      let c = called v log at in
      let parts : map (map (λ (x : ℕ × (PlanAsk × PlanAnswer)). said x.1)) c.calls ≡ map (λ ts. map told_by (turns_at v ts)) (map (map own_turn) mines) =
      sym (all_fused told (reply_kept v) c.calls) ∙ ap (map (map told)) c.replied ∙ sym (all_told_at v mines) in
      subst (λ (xs : List (ℕ × Outcome)). IsMerge (map (λ ts. map told_by (turns_at v ts)) (map (map own_turn) mines)) xs) (said_placed 0 log)
      (subst (λ (xss : List (List (ℕ × Outcome))). IsMerge xss (map (λ (x : ℕ × (PlanAsk × PlanAnswer)). said x.1) (placed_from 0 log))) parts (merge_map (λ (x : ℕ × (PlanAsk × PlanAnswer)). said x.1) c.merged))

  -- ---- the frames that the turns want can leave their nodes

  module _ (s : Site) (can : (v : ℕ) (log : List (PlanAsk × PlanAnswer)) → slice_get logs v ≡ Some log → AllByRecursion (λ (e : PlanAsk × PlanAnswer). AllByRecursion (CanLeave s v) (wanted_put (Replies e.1.reply))) log) where
    abbrev Can : ℕ → Replied → Type 0
    Can v r = AllByRecursion (CanLeave s v) (wanted_put (Replies r.turned.reply))

    can_at : (v : ℕ) → v < length logs → AllByRecursion (AllByRecursion (Can v)) (map (here v) mines)
    can_at v lt =
        let log = get_within logs v lt in
        let c = called v log.0 log.1 in
        subst (AllByRecursion (AllByRecursion (Can v))) c.replied
        (to_maps (Can v) (reply_kept v) c.calls
        (all_of_parts (λ (x : ℕ × (PlanAsk × PlanAnswer)). AllByRecursion (CanLeave s v) (wanted_put (Replies x.1.1.reply))) c.merged
        (all_placed (λ (e : PlanAsk × PlanAnswer). AllByRecursion (CanLeave s v) (wanted_put (Replies e.1.reply))) 0 log.0 (can v log.0 log.1))))

    pub all_leave : AllByRecursion (AllByRecursion (Leaves s)) mines
    all_leave =
        all_from (AllByRecursion (Leaves s)) mines (λ k mine at.
        all_parts (λ (r : Replied). r.node) Can (length logs) mine (all_at (AllByRecursion (λ (r : Replied). r.node < length logs)) mines k mine below at)
        (λ v lt. all_at (AllByRecursion (Can v)) (map (here v) mines) k (here v mine) (can_at v lt) (get-map (here v) mines k mine at)))

  -- ---- the turns are those of the worker's lines

  module _ (s : Site) (workers : ℕ) (jobs : List Job)
      (asks : (v : ℕ) → map (λ (keep : Keep). map work_of (requests_on v keep.shift.items)) keeps ≡ map (λ k. asked_by s workers k v 0 jobs) (count_up workers)) where
    abbrev IsOwn : ℕ → ℕ → Type 0
    IsOwn k line = line % workers ≡ k

    asked_at : (k v : ℕ) (keep : Keep) → slice_get keeps k ≡ Some keep → AllByRecursion (λ (t : Turn). IsOwn k t.place) (requests_on v keep.shift.items)
    asked_at k v keep at =
        let there = sym (ap (λ (xs : List (List Work)). slice_get xs k) (asks v)) ∙ get-map (λ (x : Keep). map work_of (requests_on v x.shift.items)) keeps k keep at in
        let x = mapped_at (λ n. asked_by s workers n v 0 jobs) (count_up workers) (map work_of (requests_on v keep.shift.items)) k there in
        let long = length-count_up workers in
        let within = slice_get_within (count_up workers) k x.0 x.1 in
        let same : x.0 ≡ k = some_is (sym x.1 ∙ counted_at workers k (omega (arith, long, within))) in
        from_map (λ (y : Work). IsOwn k y.place) work_of (requests_on v keep.shift.items)
        (subst (AllByRecursion (λ (y : Work). IsOwn k y.place)) (ap (λ (n : ℕ). asked_by s workers n v 0 jobs) (sym same) ∙ x.2) (asked_own s workers k v 0 jobs))

    own_by : (k v : ℕ) (cs : List (ℕ × (PlanAsk × PlanAnswer))) (rs : List Replied) (ts : List Turn) → map (reply_kept v) cs ≡ rs → map line_of ts ≡ map line_asked cs → AllByRecursion (λ (t : Turn). IsOwn k t.place) ts →
        AllByRecursion (λ (r : Replied). IsOwn k r.turned.place) rs
    own_by k v cs rs ts are lines h =
        subst (AllByRecursion (λ (r : Replied). IsOwn k r.turned.place)) are
        (to_map (λ (r : Replied). IsOwn k r.turned.place) (reply_kept v) cs
        (from_map (λ (p : ℕ × Job). IsOwn k p.0) line_asked cs (subst (AllByRecursion (λ (p : ℕ × Job). IsOwn k p.0)) lines (to_map (λ (p : ℕ × Job). IsOwn k p.0) line_of ts h))))

    own_at : (k : ℕ) (mine : List Replied) → slice_get mines k ≡ Some mine → (v : ℕ) → v < length logs → AllByRecursion (λ (r : Replied). IsOwn k r.turned.place) (here v mine)
    own_at k mine at v lt =
        let log = get_within logs v lt in
        let c = called v log.0 log.1 in
        let cs = mapped_at (map (reply_kept v)) c.calls (here v mine) k (ap (λ (xs : List (List Replied)). slice_get xs k) c.replied ∙ get-map (here v) mines k mine at) in
        let keep = mapped_at (λ (x : Keep). map line_of (requests_on v x.shift.items)) keeps (map line_asked cs.0) k
        (sym (ap (λ (xs : List (List (ℕ × Job))). slice_get xs k) c.asked) ∙ get-map (map line_asked) c.calls k cs.0 cs.1) in
        own_by k v cs.0 (here v mine) (requests_on v keep.0.shift.items) cs.2 keep.2 (asked_at k v keep.0 keep.1)

    own_lines : (k : ℕ) (mine : List Replied) → slice_get mines k ≡ Some mine → AllByRecursion (λ (r : Replied). IsOwn k r.turned.place) mine
    own_lines k mine at =
        all_parts (λ (r : Replied). r.node) (λ v (r : Replied). IsOwn k r.turned.place) (length logs) mine (all_at (AllByRecursion (λ (r : Replied). r.node < length logs)) mines k mine below at) (own_at k mine at)

    -- ---- the turns are all the worker's own

    module _ (net : Network) (w : World) (histories : List (List Work)) (nodes : length logs ≡ net.site.nodes) (leave : AllByRecursion (AllByRecursion (Leaves net.site)) mines)
        (tells : map said (together logs) ≡ map turn_done (done_from net w (flat histories))) where
      sends : (r : Replied) → Leaves net.site r → SendsItsOwn net (own_turn r)
      sends r h = all_map (CanLeave net.site r.node) (λ e. sender net.site (lane_of e) ≡ r.node) (goes_from net.site r.node) (wanted_put (Replies r.turned.reply)) h

      pub own_turns : AreOwnTurns net workers w histories (map (map own_turn) mines)
      own_turns = record {
        lines = λ k ts at.
            let x = mapped_at (map own_turn) mines ts k at in
            subst (AllByRecursion (λ (t : NodeTurn). t.line % workers ≡ k)) x.2 (to_map (λ (t : NodeTurn). t.line % workers ≡ k) own_turn x.0 (own_lines k x.0 x.1));
        sends = to_maps (SendsItsOwn net) own_turn mines
            (all_map (AllByRecursion (Leaves net.site)) (AllByRecursion (λ (r : Replied). SendsItsOwn net (own_turn r))) (all_map (Leaves net.site) (λ (r : Replied). SendsItsOwn net (own_turn r)) sends) mines leave);
        turned = map (map said) logs;
        managers = length-map logs (map said) ∙ nodes;
        merged = λ v log at.
            let x = mapped_at (map said) logs log v at in
            subst (λ (xs : List (ℕ × Outcome)). IsMerge (map (λ ts. map told_by (turns_at v ts)) (map (map own_turn) mines)) xs) x.2 (merged_at v x.0 x.1);
        told = flat_mapped said logs ∙ tells;
      }
