-- What is done in sequence is one block that the workers may do, with the same outcomes, reports, faults and world.
use Rattle.std.proofs.Common.{◌≡◌, ℕ, ◌≤◌, false, List, [], ◌++◌, refl, sym, ◌∙◌, ap, subst}
use Rattle.std.specs.Prelude.{nat_lt}
use Rattle.qkd_base.specs.declared.lane.Lane.{Lane}
use Rattle.net_model.specs.World.{Network, World, Transmission}
use Rattle.net_model.specs.Premises.{IsNetwork}
use Rattle.net_model.specs.Invariant.{Conserved}
use Rattle.net_model.specs.Action.{Action}
use Rattle.net_model.specs.BlockOrder.{completions, block_actions, IsBlock}
use Rattle.net_model.specs.Step.{run}
use Rattle.run_model.specs.Works.{Work, Works, actions_in, parts, flat, done_from, claimed, block_run}
use Rattle.run_model.specs.Block.{puts_of}
use Rattle.run_ops.specs.Quiet.{IsQuiet}
use Rattle.run_ops.specs.declared.job.Job.{Job}
use Rattle.run_ops.specs.Together.{AreWorks}
use Rattle.law_locality.proofs.Chains.{kept}
use Rattle.law_locality.proofs.Claims.{all_claimed}
use Rattle.law_locality.proofs.Completions.{IsDone, completions_run}
use Rattle.law_locality.proofs.Puts.{all_put, orders_stay}
use Rattle.law_locality.proofs.Runs.{run-append, runs-append}
use Rattle.law_base.proofs.Lists.{all_both}
use Rattle.law_locality.specs.Touched.{touches_node}
use Rattle.law_parallel.specs.Putting.{Putting, one_by_one, claims_of, puts_in}
use Rattle.law_parallel.specs.InOrder.{turns_over, in_order, IsInOrder, works_of, IsOneBlock}
use Rattle.law_parallel.proofs.Block.{are_turns, alone, conserved, first, on_declared, after_claims, each_claim, all_orders, all_frames, is_block}
use Rattle.law_parallel.proofs.Faults.{others, same_others, disks_same, entropies_same, devices_same, wires_same, armed_same}
use Rattle.law_parallel.proofs.PutFor.{put_for}
use Rattle.law_parallel.proofs.Puts.{puts}
use Rattle.law_parallel.proofs.Quiet.{turns_away, ones_away, quiet_after, none_far}
use Rattle.law_parallel.proofs.Runs.{flat_actions}

module _ (net : Network) (network : IsNetwork net) (workers : ℕ) (some : 1 ≤ workers) (w : World) (c : Conserved net w) (quiet : IsQuiet w) (jobs : List Job) (histories : List (List Work))
    (ps : List Putting) (h : IsInOrder net workers w jobs histories ps) where
  abbrev start : World
  start = turns_over net w histories

  abbrev done : Works
  done = works_of net w histories ps

  abbrev all : List Action
  all = actions_in (flat histories)

  abbrev claims : List Action
  claims = claims_of ps

  abbrev ones : List Action
  ones = actions_in (one_by_one net start ps)

  abbrev frames : List Action
  frames = puts net start ps

  abbrev ends : List Action
  ends = completions net

  block : IsBlock net w (parts done)
  block = is_block net network workers w c quiet jobs histories ps h

  -- The world after all frames were sent.
  abbrev last : World
  last = run net start ones

  last_is : last ≡ run net (run net start claims) frames
  last_is = (first net network workers w c quiet jobs histories ps h).same ∙ run-append net claims frames start

  is_run : block_run net done ≡ all ++ claims ++ frames ++ ends
  unfolding block_run block_actions
  is_run = ap (λ (xs : List Action). xs ++ claims ++ frames ++ ends) (flat_actions histories)

  in_order_last : run net w (in_order net w histories ps) ≡ run net last ends
  in_order_last = run-append net (all ++ ones) ends w ∙ ap (λ (x : World). run net x ends) (run-append net all ones w)

  same_world : run net w (block_run net done) ≡ run net w (in_order net w histories ps)
  same_world =
      ap (run net w) is_run ∙ run-append net (all ++ claims ++ frames) ends w
      ∙ ap (λ (x : World). run net x ends) (run-append net (all ++ claims) frames w ∙ ap (λ (x : World). run net x frames) (run-append net all claims w) ∙ sym last_is)
      ∙ sym in_order_last

  done_all : IsDone net last
  done_all =
      subst (IsDone net) (sym last_is) (record {
        orders = λ l. ap (λ (f : Lane → List Transmission). f l) (orders_stay net frames (run net start claims) (block.puts))
            ∙ all_claimed net claims start (each_claim net network workers w c quiet jobs histories ps h) (all_orders net network workers w c quiet jobs histories ps h) l;
        puts = all_put net frames (run net start claims) (block.puts) (all_frames net network workers w c quiet jobs histories ps h);
      })

  last_conserved : Conserved net last
  last_conserved = kept net network ones start (conserved net network workers w c quiet jobs histories ps h) h.puts

  abbrev IsAway : ℕ → Action → Type 0
  IsAway u a = touches_node net.site a u ≡ false

  far : (u : ℕ) → nat_lt u net.site.nodes ≡ false → last.placings u ≡ []
  far u e =
      ap (λ (x : World). x.placings u) (sym (run-append net all ones w))
      ∙ none_far net network (all ++ ones) w c (runs-append net all ones w h.turns h.puts) quiet u
      (all_both (IsAway u) all ones (turns_away net network u e (flat histories) (are_turns net network workers w c quiet jobs histories ps h))
      (ones_away net network u e ps start (on_declared net network workers w c quiet jobs histories ps h)))

  is_quiet : IsQuiet (run net w (in_order net w histories ps))
  is_quiet = subst IsQuiet (sym in_order_last) (quiet_after net network last last_conserved done_all (completions_run net last done_all) far)

  same_rest : others (block_run net done) ≡ others (in_order net w histories ps)
  same_rest = ap others is_run ∙ same_others net all ends ps start

  reported : puts_of (done_from net (claimed net w done) (puts_in (one_by_one net start ps))) ≡ puts_of (done_from net start (one_by_one net start ps))
  reported =
      ap (λ (x : World). puts_of (done_from net x (puts_in (one_by_one net start ps)))) (after_claims net network workers w c quiet jobs histories ps h)
      ∙ (first net network workers w c quiet jobs histories ps h).reported

  are : AreWorks net workers w jobs done
  are = record {
    whole = refl;
    block = block;
    merged = h.merged;
    put = put_for net network workers some w c quiet jobs histories ps h;
  }

  pub one_block : IsOneBlock net workers w jobs histories ps
  one_block = record {
    are = are;
    turns = (alone net network workers w c quiet jobs histories ps h).same;
    reported = reported;
    after = same_world;
    quiet = is_quiet;
    disks = λ v. disks_same (block_run net done) (in_order net w histories ps) same_rest net.site v;
    entropies = λ v. entropies_same (block_run net done) (in_order net w histories ps) same_rest v;
    devices = λ link. devices_same (block_run net done) (in_order net w histories ps) same_rest link;
    wires = λ l. wires_same (block_run net done) (in_order net w histories ps) same_rest l;
    armed = λ v. armed_same (block_run net done) (in_order net w histories ps) same_rest v;
  }
