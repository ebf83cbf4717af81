-- The managers of a block took all turns that its workers ask of them.
use Rattle.std.proofs.Common.{◌≡◌, ℕ, suc, ◌+◌, List, [], ◌∷◌, length, map, refl, sym, ◌∙◌, ap, ap₂, subst, arith, Option, Some, None}
use Rattle.std.specs.Prelude.{slice_get, IfSome}
use Rattle.std.specs.List.{AllByRecursion}
use Rattle.net_model.specs.declared.reply.Reply.{Reply}
use Rattle.net_model.specs.Site.{Site, count_up}
use Rattle.net_model.specs.World.{Network, World}
use Rattle.net_model.specs.Action.{Ok, Replies}
use Rattle.net_model.specs.BlockOrder.{IsMerge}
use Rattle.declared_site.specs.SiteOf.{site_of}
use Rattle.world_state.specs.Passed.{Post}
use Rattle.run_model.specs.Works.{Work, wanted_put}
use Rattle.run_ops.specs.Acting.{IsReady}
use Rattle.run_ops.specs.declared.job.Job.{Job}
use Rattle.run_ops.specs.Jobs.{asked_by}
use Rattle.law_base.proofs.Lists.{mapped_at}
use Rattle.shared_objects.specs.Rising.{placed_from, together}
use Rattle.shared_objects.proofs.Mapping.{merge_map}
use Rattle.turnstile.specs.Turns.{Leads}
use Rattle.lane_shares.specs.declared.shares.Shares.{Shares}
use Rattle.world_state.specs.Stands.{Stands}
use Rattle.world_state.specs.declared.state.State.{State}
use Rattle.world_state.specs.Armed.{most_armed}
use Rattle.par_managers.specs.Turning.{asked_with}
use Rattle.shared_objects.specs.declared.call.Call.{Call}
use Rattle.shared_objects.specs.Asked.{requests_on}
use Rattle.par_managers.specs.declared.turn.Turn.{Turn}
use Rattle.par_managers.specs.Calls.{work_of, AreShifts, AreComing}
use Rattle.par_managers.proofs.Requests.{all_requests}
use Rattle.par_managers.specs.declared.ask.PlanAsk.{PlanAsk}
use Rattle.par_managers.specs.declared.ask.PlanAnswer.{PlanAnswer}
use Rattle.par_managers.specs.Turns.{TookAllTurns}
use Rattle.par_managers.specs.Wanted.{CanLeave}
use Rattle.par_managers.proofs.Ending.{IsServed, AreServed, Turns, armed_all, is_served, took_all}
use Rattle.par_managers.specs.declared.keep.Replied.{Replied}
use Rattle.par_managers.specs.declared.keep.Keep.{Keep}
use Rattle.par_managers.specs.Talking.{line_asked, line_of}
use Rattle.kme_shared.specs.Desks.{ManagerTurns}
use Rattle.kme_shared.proofs.Called.{IsCalled, said}
use Rattle.kme_shared.proofs.Lists.{from_maps, fused, Listed, mapped_is, to_map}
use Rattle.world_state.specs.Outside.{Outside}

-- a manager's desk before its turns, the turns, and the desk after them
pub record Row (D : Type 0) : Type 0 where
  pub desk : D
  pub log : List (PlanAsk × PlanAnswer)
  pub after : D

abbrev pub desks : {D : Type 0} → List (Row D) → List D
desks {D} rows = map (λ (r : Row D). r.desk) rows

abbrev pub logs_of : {D : Type 0} → List (Row D) → List (List (PlanAsk × PlanAnswer))
logs_of {D} rows = map (λ (r : Row D). r.log) rows

abbrev pub afters : {D : Type 0} → List (Row D) → List D
afters {D} rows = map (λ (r : Row D). r.after) rows

module _ {K Q E X D : Type 0} (outside : Outside K Q E X)
    (opening_of : D → State K Q E X) (node_of up_of : D → ℕ) (post_of : D → Post K E) (shares_in : D → List Shares) (old : State K Q E X) (jobs : List Job) where
  abbrev turn : D → PlanAsk → PlanAnswer → D → Type 0
  turn = ManagerTurns outside opening_of node_of up_of post_of shares_in

  abbrev place_in : PlanAsk → ℕ
  place_in q = q.place

  abbrev job_in : PlanAsk → Job
  job_in q = q.job.now

  abbrev octets_in : PlanAsk → Option (List ℕ)
  octets_in q = q.octets

  abbrev reply_in : PlanAnswer → Reply
  reply_in a = a.reply

  abbrev charter_of : D → State K Q E X × ℕ
  charter_of d = (opening_of d, node_of d)

  abbrev TurnsHere : D → PlanAsk → PlanAnswer → D → Type 0
  TurnsHere d q a n = Turns outside old up_of post_of place_in job_in octets_in reply_in jobs charter_of turn d q a n

  one_turn : (d : D) (q : PlanAsk) (a : PlanAnswer) (n : D) → turn d q a n → TurnsHere d q a n
  one_turn d q a n t = record { come = t.0.come; happens = t.1.happens; linked = t.1.up; kept = λ i. ((t.2 i).0, (t.2 i).1) }

  -- what the replies want put can leave the node
  pub all_can : (v : ℕ) (s : Site) → site_of old.site ≡ s → (d n : D) (log : List (PlanAsk × PlanAnswer)) → charter_of d ≡ (old, v) → Leads turn d log n →
      AllByRecursion (λ (e : PlanAsk × PlanAnswer). AllByRecursion (CanLeave s v) (wanted_put (Replies e.1.reply))) log
  all_can v s is d n [] at leads = tt
  all_can v s is d n (e ∷ log) at leads =
      let t = leads.1 in
      let first : AllByRecursion (CanLeave (site_of (charter_of d).0.site) (charter_of d).1) (wanted_put (Replies e.1.reply)) = t.1.can in (
        subst (λ (x : Site). AllByRecursion (CanLeave x v) (wanted_put (Replies e.1.reply))) is
            (subst (λ (c : State K Q E X × ℕ). AllByRecursion (CanLeave (site_of c.0.site) c.1) (wanted_put (Replies e.1.reply))) at first),
        all_can v s is leads.0 n log ((λ i. ((t.2 i).0, (t.2 i).1)) ∙ at) leads.2,
      )

  module _ (new : State K Q E X) (workers : ℕ) (keeps : List Keep) (mines : List (List Replied)) where
    pub record Manages (v : ℕ) (row : Row D) : Type 0 where
      pub posted : slice_get old.posts.items v ≡ Some (post_of row.desk)
      pub opens : charter_of row.desk ≡ (old, v)
      pub up : up_of row.desk ≡ old.up
      pub risen : slice_get new.posts.items v ≡ Some (post_of row.after)
      pub leads : Leads turn row.desk row.log row.after
      pub called : IsCalled v keeps mines row.log

    module _ (shifts : AreShifts outside old workers jobs (map (λ (keep : Keep). keep.shift.items) keeps)) where
      pub asks : (v : ℕ) → map (λ (keep : Keep). map work_of (requests_on v keep.shift.items)) keeps ≡ map (λ k. asked_by (site_of old.site) workers k v 0 jobs) (count_up workers)
      asks v = sym (fused (λ shift. map work_of (requests_on v shift)) (λ (keep : Keep). keep.shift.items) keeps) ∙ shifts.asked v

      abbrev IsThere : ℕ × Job → Type 0
      IsThere p = slice_get jobs p.0 ≡ Some p.1

      -- each worker asks for turns of the jobs at their places
      asked_there : (v : ℕ) (ks : List Keep) → AllByRecursion (AreComing outside old jobs) (map (λ (keep : Keep). keep.shift.items) ks) →
          AllByRecursion (AllByRecursion IsThere) (map (λ (keep : Keep). map line_of (requests_on v keep.shift.items)) ks)
      asked_there v [] h = tt
      asked_there v (k ∷ ks) h = (
        to_map IsThere line_of (requests_on v k.shift.items) (all_requests (λ (t : Turn). slice_get jobs t.place ≡ Some t.job.now) v k.shift.items (only k.shift.items h.0)),
        asked_there v ks h.1,
      )
        where
          only : (entries : List (Option (Call Turn))) → AreComing outside old jobs entries →
              AllByRecursion (λ (entry : Option (Call Turn)). IfSome entry (λ call. slice_get jobs call.request.place ≡ Some call.request.job.now)) entries
          only [] g = tt
          only (None ∷ entries) g = (tt, only entries g.1)
          only (Some call ∷ entries) g = (g.0.1, only entries g.1)

      abbrev work_at : ℕ × Job → Work
      work_at p = record { place = p.0; action = asked_with p.1 Ok }

      abbrev entry : ℕ × (PlanAsk × PlanAnswer) → PlanAsk × PlanAnswer
      entry c = c.1

      entries_are : (n : ℕ) (log : List (PlanAsk × PlanAnswer)) → map entry (placed_from n log) ≡ log
      entries_are n [] = refl
      entries_are n (e ∷ log) = ap (λ (es : List (PlanAsk × PlanAnswer)). e ∷ es) (entries_are (n + 1) log)

      abbrev works : List (PlanAsk × PlanAnswer) → List Work
      works log = map (λ (e : PlanAsk × PlanAnswer). work_at (e.0.place, e.0.job.now)) log

      abbrev ServedHere : ℕ → Row D → Type 0
      ServedHere v row =
          IsServed outside old up_of post_of place_in job_in octets_in reply_in jobs workers v row.desk row.log row.after

      served : (v : ℕ) (row : Row D) → Manages v row → ServedHere v row
      served v row m =
          let c = m.called in
          let all : List (List (PlanAsk × PlanAnswer)) = map (map entry) c.calls in
          let merged : IsMerge all row.log = subst (IsMerge all) (entries_are 0 row.log) (merge_map entry c.merged) in
          let lines : map works all ≡ map (map work_at) (map (map line_asked) c.calls) = every c.calls in
          let asked : map works all ≡ map (λ k. asked_by (site_of old.site) workers k v 0 jobs) (count_up workers) =
          lines ∙ ap (map (map work_at)) c.asked ∙ of_keeps v keeps ∙ asks v in
          let there : AllByRecursion (λ mine. AllByRecursion (λ (e : PlanAsk × PlanAnswer). slice_get jobs e.0.place ≡ Some e.0.job.now) mine) all =
          again c.calls (from_maps IsThere line_asked c.calls (subst (AllByRecursion (AllByRecursion IsThere)) (sym c.asked) (asked_there v keeps shifts.coming))) in
          is_served outside old up_of post_of place_in job_in octets_in reply_in jobs charter_of turn one_turn workers v
          row.desk row.after row.log all m.opens m.up m.leads merged asked there
        where
          one : (cs : List (ℕ × (PlanAsk × PlanAnswer))) → works (map entry cs) ≡ map work_at (map line_asked cs)
          one [] = refl
          one (c ∷ cs) = ap (λ (ws : List Work). work_at (line_asked c) ∷ ws) (one cs)

          every : (calls : List (List (ℕ × (PlanAsk × PlanAnswer)))) → map works (map (map entry) calls) ≡ map (map work_at) (map (map line_asked) calls)
          every [] = refl
          every (cs ∷ calls) = ap₂ (λ (ws : List Work) (wss : List (List Work)). ws ∷ wss) (one cs) (every calls)

          of_keeps : (v : ℕ) (ks : List Keep) →
              map (map work_at) (map (λ (keep : Keep). map line_of (requests_on v keep.shift.items)) ks) ≡ map (λ (keep : Keep). map work_of (requests_on v keep.shift.items)) ks
          of_keeps v [] = refl
          of_keeps v (k ∷ ks) = ap₂ (λ (ws : List Work) (wss : List (List Work)). ws ∷ wss) (fused work_at line_of (requests_on v k.shift.items)) (of_keeps v ks)

          part : (cs : List (ℕ × (PlanAsk × PlanAnswer))) → AllByRecursion (λ (c : ℕ × (PlanAsk × PlanAnswer)). IsThere (line_asked c)) cs →
              AllByRecursion (λ (e : PlanAsk × PlanAnswer). slice_get jobs e.0.place ≡ Some e.0.job.now) (map entry cs)
          part cs h = to_map (λ (e : PlanAsk × PlanAnswer). slice_get jobs e.0.place ≡ Some e.0.job.now) entry cs h

          again : (calls : List (List (ℕ × (PlanAsk × PlanAnswer)))) → AllByRecursion (AllByRecursion (λ (c : ℕ × (PlanAsk × PlanAnswer)). IsThere (line_asked c))) calls →
              AllByRecursion (λ mine. AllByRecursion (λ (e : PlanAsk × PlanAnswer). slice_get jobs e.0.place ≡ Some e.0.job.now) mine) (map (map entry) calls)
          again [] h = tt
          again (cs ∷ calls) h = (part cs h.0, again calls h.1)

      -- all managers, node by node

      all_served : (first : ℕ) (rows : List (Row D)) → ((i : ℕ) (row : Row D) → slice_get rows i ≡ Some row → ServedHere (first + i) row) →
          AreServed outside old up_of post_of place_in job_in octets_in reply_in jobs workers first (desks rows) (logs_of rows) (afters rows)
      all_served first [] h = tt
      all_served first (r ∷ rows) h =
          (subst (λ (v : ℕ). ServedHere v r) (none first) (h 0 r refl), all_served (first + 1) rows (λ i row at. subst (λ (v : ℕ). ServedHere v row) (next first i) (h (suc i) row at)))
        where
          none : (n : ℕ) → n + 0 ≡ n
          none n = omega arith

          next : (n i : ℕ) → n + suc i ≡ n + 1 + i
          next n i = omega arith

      module _ (rows : Listed Manages 0 (length old.posts.items)) where
        zero_more : (n : ℕ) → 0 + n ≡ n
        zero_more n = omega arith

        pub manages : (v : ℕ) (row : Row D) → slice_get rows.rows v ≡ Some row → Manages v row
        manages v row at = subst (λ (n : ℕ). Manages n row) (zero_more v) (rows.each v row at)

        pub called : (v : ℕ) (log : List (PlanAsk × PlanAnswer)) → slice_get (logs_of rows.rows) v ≡ Some log → IsCalled v keeps mines log
        called v log at = let x = mapped_at (λ (r : Row D). r.log) rows.rows log v at in subst (IsCalled v keeps mines) x.2 (manages v x.0 x.1).called

        pub can : (s : Site) → site_of old.site ≡ s → (v : ℕ) (log : List (PlanAsk × PlanAnswer)) → slice_get (logs_of rows.rows) v ≡ Some log →
            AllByRecursion (λ (e : PlanAsk × PlanAnswer). AllByRecursion (CanLeave s v) (wanted_put (Replies e.1.reply))) log
        can s is v log at =
            let x = mapped_at (λ (r : Row D). r.log) rows.rows log v at in
            let m = manages v x.0 x.1 in
            subst (AllByRecursion (λ (e : PlanAsk × PlanAnswer). AllByRecursion (CanLeave s v) (wanted_put (Replies e.1.reply)))) x.2 (all_can v s is x.0.desk x.0.after x.0.log m.opens m.leads)

        starts : map post_of (desks rows.rows) ≡ old.posts.items
        starts = fused post_of (λ (r : Row D). r.desk) rows.rows ∙ mapped_is (λ (r : Row D). post_of r.desk) rows.rows old.posts.items rows.long (λ i row at. (manages i row at).posted)

        ends : length new.posts.items ≡ length old.posts.items → new.posts.items ≡ map post_of (afters rows.rows)
        ends long =
            sym (fused post_of (λ (r : Row D). r.after) rows.rows
            ∙ mapped_is (λ (r : Row D). post_of r.after) rows.rows new.posts.items (rows.long ∙ sym long) (λ i row at. (manages i row at).risen))

        -- the state whose managers have taken their turns
        abbrev pub mid : State K Q E X
        mid = record old { posts = new.posts }

        pub took : (net : Network) (w : World) → IsReady (Stands outside) old net w → length new.posts.items ≡ length old.posts.items →
            TookAllTurns outside old mid net w workers jobs (map said (together (logs_of rows.rows)))
        took net w ready long =
            took_all outside old up_of post_of place_in job_in octets_in reply_in jobs net w ready workers
            (desks rows.rows) (logs_of rows.rows) (afters rows.rows) starts (all_served 0 rows.rows (λ i row at. served (0 + i) row (rows.each i row at))) mid refl (ends long) refl refl refl

        -- the largest count of armings of a disk is as before
        pub armed_as : (net : Network) (w : World) → IsReady (Stands outside) old net w → length new.posts.items ≡ length old.posts.items →
            most_armed outside.disk new.posts.items ≡ most_armed outside.disk old.posts.items
        armed_as net w ready long =
            ap (most_armed outside.disk) (ends long)
            ∙ armed_all outside old up_of post_of place_in job_in octets_in reply_in jobs net w ready workers
            (desks rows.rows) (logs_of rows.rows) (afters rows.rows) starts (all_served 0 rows.rows (λ i row at. served (0 + i) row (rows.each i row at)))
