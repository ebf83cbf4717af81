-- The reports of a block's frames, lane by lane.
use Rattle.std.proofs.Common.{◌≡◌, ℕ, ◌≤◌, Bool, true, false, not, ◌&&◌, List, [], ◌∷◌, ◌++◌, length, map, refl, sym, ◌∙◌, ap}
use Rattle.std.specs.Prelude.{filter, if◌then◌else◌}
use Rattle.std.specs.List.{flat_map, AllByRecursion}
use Rattle.qkd_base.specs.Lane.{lane_eq}
use Rattle.qkd_base.specs.declared.lane.Lane.{Lane}
use Rattle.net_model.specs.declared.fact.Fact.{Fact}
use Rattle.net_model.specs.World.{Network, World}
use Rattle.net_model.specs.Premises.{IsNetwork}
use Rattle.net_model.specs.Invariant.{Conserved}
use Rattle.net_model.specs.Step.{IsRun}
use Rattle.run_model.specs.Lines.{all_lanes}
use Rattle.run_model.specs.Works.{Work, Works, actions_in, claimed, done_from}
use Rattle.run_model.specs.Block.{PutDone, puts_of, puts_on, sorted}
use Rattle.run_ops.specs.Quiet.{IsQuiet}
use Rattle.run_ops.specs.declared.job.Job.{Job}
use Rattle.run_ops.specs.Together.{puts_reported}
use Rattle.law_locality.proofs.Puts.{puts_run}
use Rattle.law_locality.proofs.Lists.{all_weaker}
use Rattle.law_parallel.specs.Logs.{Deed}
use Rattle.law_parallel.specs.Puts.{frames_put, reported_from, reported_on}
use Rattle.law_parallel.specs.LaneWorks.{AreLaneWorks, works_of}
use Rattle.law_parallel.proofs.AllClaims.{all_claims}
use Rattle.law_parallel.proofs.AllPuts.{LanePut, works_in, on_that, puts_are, puts_on_lane, works_put, each_put}
use Rattle.law_parallel.proofs.LaneBlock.{start, after, after_claims, frames_counted}
use Rattle.law_parallel.proofs.LanePutFor.{facts_after, puts_made, all_there, IsFoundThere}
use Rattle.law_parallel.proofs.Reported.{puts_at, HasPlace, done_puts, reported_at, reports_are}
use Rattle.law_parallel.proofs.Rest.{claims_alone}

-- A test of the reports on a lane may be applied after choosing the lane's reports.
kept_twice : (q : PutDone → Bool) (l : Lane) (ds : List PutDone) →
    filter (λ (d : PutDone). lane_eq d.lane l && q d) ds ≡ filter (λ (d : PutDone). lane_eq d.lane l && q d) (reported_at l ds)
kept_twice q l [] = refl
kept_twice q l (d ∷ ds) =
    elim (lane_eq d.lane l) as (λ t. lane_eq d.lane l ≡ t → (if t && q d then d ∷ filter (λ (x : PutDone). lane_eq x.lane l && q x) ds else filter (λ (x : PutDone). lane_eq x.lane l && q x) ds) ≡
    filter (λ (x : PutDone). lane_eq x.lane l && q x) (if t then d ∷ reported_at l ds else reported_at l ds)) [
      | true ↦ λ e.
          let rest = kept_twice q l ds in
          ap (λ (xs : List PutDone). if q d then d ∷ xs else xs) rest
          ∙ ap (λ (b : Bool). if b && q d then d ∷ filter (λ (x : PutDone). lane_eq x.lane l && q x) (reported_at l ds) else filter (λ (x : PutDone). lane_eq x.lane l && q x) (reported_at l ds)) (sym e)
      | false ↦ λ e. kept_twice q l ds
    ] refl

pub on_its_lane : (l : Lane) (ds : List PutDone) → puts_on ds l ≡ puts_on (reported_at l ds) l
on_its_lane l ds =
    ap (λ (xs : List PutDone). xs ++ sorted (filter (λ (d : PutDone). lane_eq d.lane l && not d.took) ds)) (kept_twice (λ (d : PutDone). d.took) l ds)
    ∙ ap (λ (xs : List PutDone). filter (λ (d : PutDone). lane_eq d.lane l && d.took) (reported_at l ds) ++ sorted xs) (kept_twice (λ (d : PutDone). not d.took) l ds)

each_lane : (f g : Lane → List PutDone) → ((l : Lane) → f l ≡ g l) → (ls : List Lane) → flat_map f ls ≡ flat_map g ls
each_lane f g h [] = refl
each_lane f g h (l ∷ ls) = let one = h l in let rest = each_lane f g h ls in λ i. one i ++ rest i

module _ (net : Network) (network : IsNetwork net) (workers : ℕ) (some : 1 ≤ workers) (w : World) (c : Conserved net w) (quiet : IsQuiet w) (jobs : List Job) (histories : List (List Work))
    (logs : Lane → List Deed) (h : AreLaneWorks net workers w jobs histories logs) where
  abbrev begun : World
  begun = start net network workers w c quiet jobs histories logs h

  abbrev then' : World
  then' = after net network workers w c quiet jobs histories logs h

  abbrev made : List LanePut
  made = puts_made net network workers some w c quiet jobs histories logs h

  pub puts_go : IsRun net then' (actions_in (works_in made))
  puts_go =
      puts_run net (actions_in (works_in made)) then' (works_put net.site made (each_put net.site begun logs h.undeclared h.answered))
      (frames_counted net network workers w c quiet jobs histories logs h)

  pub have_places : AllByRecursion (HasPlace then'.frames) made
  have_places =
      all_weaker (IsFoundThere net network workers some w c quiet jobs histories logs h) (HasPlace then'.frames) (λ p f. f.frame) made (all_there net network workers some w c quiet jobs histories logs h)

  pub puts_lane : (l : Lane) → puts_at l made ≡ frames_put begun l (logs l)
  puts_lane l = ap (map (λ (p : LanePut). p.1)) (puts_on_lane net.site begun logs h.undeclared l) ∙ plain (frames_put begun l (logs l))
    where
      plain : (ps : List _) → map (λ (p : LanePut). p.1) (on_that l ps) ≡ ps
      plain [] = refl
      plain (p ∷ ps) = ap (λ qs. p ∷ qs) (plain ps)

  pub wire_before : then'.wire ≡ begun.wire
  wire_before = ap (λ (x : World). x.wire) (claims_alone net (all_claims net.site logs) begun)

  reported_here : (l : Lane) → reported_at l (done_puts net then' made) ≡ reported_on begun l (logs l)
  reported_here l =
      reports_are net made then' puts_go have_places l
      ∙ ap (λ (facts : List Fact). reported_from facts l (length (then'.wire l)) (puts_at l made)) (facts_after net network workers some w c quiet jobs histories logs h)
      ∙ ap (λ (f : Lane → List ℕ). reported_from begun.durable.facts l (length (f l)) (puts_at l made)) wire_before
      ∙ ap (reported_from begun.durable.facts l (length (begun.wire l))) (puts_lane l)

  abbrev done : Works
  done = works_of net w histories logs

  all_done : puts_of (done_from net (claimed net w done) done.puts) ≡ done_puts net then' made
  all_done =
      ap (λ (x : World). puts_of (done_from net x done.puts)) (after_claims net network workers w c quiet jobs histories logs h)
      ∙ ap (λ (ps : List Work). puts_of (done_from net then' ps)) (puts_are net.site begun logs)

  pub frames_reported : puts_reported net w done ≡ flat_map (λ l. puts_on (reported_on begun l (logs l)) l) (all_lanes net.site)
  frames_reported =
      each_lane _ _ (λ l. ap (λ (ds : List PutDone). puts_on ds l) all_done ∙ on_its_lane l (done_puts net then' made) ∙ ap (λ (ds : List PutDone). puts_on ds l) (reported_here l)) (all_lanes net.site)
