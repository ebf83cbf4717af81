-- After the starts of the declared nodes every lane is still: no fact was made yet, and nothing was sent.
use Rattle.std.proofs.Common.{◌≡◌, ℕ, ◌+◌, Bool, true, false, List, [], ◌∷◌, refl, sym, ◌∙◌, ap, subst, Some, None}
use Rattle.std.specs.Prelude.{◌==◌, if◌then◌else◌}
use Rattle.std.specs.List.{list_any}
use Rattle.qkd_base.specs.Lane.{lane_eq, reverse_lane}
use Rattle.qkd_base.specs.declared.lane.Lane.{Lane}
use Rattle.net_model.specs.declared.fact.Fact.{Fact}
use Rattle.net_model.specs.declared.record.Record.{Record}
use Rattle.net_model.specs.Premises.{IsNetwork}
use Rattle.net_model.specs.Table.{fact_at}
use Rattle.net_model.specs.Site.{sender, receiver}
use Rattle.net_model.specs.World.{Network, World, Durable, PendingAck, no_doubt, no_volatile, first}
use Rattle.net_model.specs.Records.{replay}
use Rattle.net_model.specs.Invariant.{Conserved}
use Rattle.net_model.specs.Action.{Recovery, Recovers, Resumes, Interrupted, NoMemory, Foreign, Action, Start, Outcome, StartStopped, StartMemory, ForeignAt}
use Rattle.net_model.specs.Start.{resolved_durable, restarted, recovers, start}
use Rattle.net_model.specs.Step.{step}
use Rattle.run_types.specs.declared.item.Item.{Item}
use Rattle.run_model.specs.Lines.{begins, begun}
use Rattle.run_model.specs.Play.{Whole, Played, plain, play}
use Rattle.run_model.specs.Report.{starts_from, Performed, Acts, Together, perform, report, IsRunOf}
use Rattle.run_model.specs.Turn.{HttpTexts}
use Rattle.law_base.proofs.Base.{by_number, by_test}
use Rattle.law_base.proofs.Resuming.{resumed_durable}
use Rattle.law_quiet.specs.Between.{AskRequests}
use Rattle.law_quiet.specs.Still.{flies_on, IsStill}
use Rattle.law_quiet.proofs.Leading.{any_told, Leads, leads_play}
use Rattle.law_quiet.proofs.Settles.{later_of, between}
use Rattle.law_quiet.proofs.StillRounds.{owed_none}
use Rattle.law_quiet.proofs.TaskRests.{whole_first, with_parts}

pub record IsBare (w : World) : Type 0 where
  pub facts : w.durable.facts ≡ []
  pub doubts : (v : ℕ) → (w.in_doubt v).batch ≡ []
  pub windows : (v : ℕ) → (w.volatile v).window ≡ []
  pub pending : (v : ℕ) → (w.volatile v).pending_acks ≡ []

first_bare : IsBare first
unfolding first
first_bare = record { facts = refl; doubts = λ v. refl; windows = λ v. refl; pending = λ v. refl }

bare_still : (net : Network) (w : World) (l : Lane) → Conserved net w → IsBare w → IsStill net w l
bare_still net w l c h = record {
  owes = owed_none net w c (sender net.site l) (receiver net.site l) (λ n f there. let none = ap (λ (facts : List Fact). fact_at facts n) (sym h.facts) ∙ there in cc);
  flies = ap (list_any (flies_on l)) (h.windows (sender net.site l));
  answers = ap (list_any (λ (a : PendingAck). lane_eq a.lane (reverse_lane l))) (h.pending (sender net.site l));
}

module _ (net : Network) (w : World) (h : IsBare w) where
  settled : (v : ℕ) (committed : Bool) → (resolved_durable net.site w v committed).facts ≡ []
  unfolding replay
  settled v true = ap (λ (rs : List Record). (replay net.site v rs w.durable).facts) (h.doubts v) ∙ h.facts
  settled v false = h.facts

  none_kept : (v u : ℕ) → (if u == v then no_volatile else w.volatile u).window ≡ []
  none_kept v u = by_number (λ k b. (if b then no_volatile else w.volatile k).window ≡ []) v refl (λ k ne. h.windows k) u

  none_pends : (v u : ℕ) → (if u == v then no_volatile else w.volatile u).pending_acks ≡ []
  none_pends v u = by_number (λ k b. (if b then no_volatile else w.volatile k).pending_acks ≡ []) v refl (λ k ne. h.pending k) u

  recovers_bare : (v : ℕ) (recovery : Recovery) → IsBare (recovers net w v recovery).0
  unfolding restarted
  recovers_bare v (Recovers committed) = record {
    facts = settled v committed;
    doubts = by_number (λ k b. (if b then no_doubt else w.in_doubt k).batch ≡ []) v refl (λ k ne. h.doubts k);
    windows = none_kept v;
    pending = none_pends v;
  }
  recovers_bare v (Resumes committed) = record {
    facts = ap (λ (d : Durable). d.facts) (resumed_durable net w v committed) ∙ settled v committed;
    doubts = by_number (λ k b. (if b then no_doubt else (if b then record (w.in_doubt v) { checkpointed = Some committed } else w.in_doubt k)).batch ≡ []) v refl (λ k ne. h.doubts k);
    windows = none_kept v;
    pending = none_pends v;
  }
  recovers_bare v (Interrupted None) = record { facts = h.facts; doubts = h.doubts; windows = h.windows; pending = h.pending }
  recovers_bare v (Interrupted (Some committed)) = record {
    facts = h.facts;
    doubts = by_number (λ k b. (if b then record (w.in_doubt v) { checkpointed = Some committed } else w.in_doubt k).batch ≡ []) v (h.doubts v) (λ k ne. h.doubts k);
    windows = h.windows;
    pending = h.pending;
  }
  recovers_bare v NoMemory = h
  recovers_bare v Foreign = h

  starts_bare : (v : ℕ) (recovery : Recovery) → IsBare (step net w (Start v recovery)).0
  unfolding step start
  starts_bare v recovery = by_test (λ (r : World × Outcome). IsBare r.0) (w.up v) _ _ (λ up. h) (λ down. recovers_bare v recovery)

  asked_start : (a : Action) (v : ℕ) → plain a ≡ Start v (Recovers false) → IsBare (step net w a).0
  asked_start (Start u recovery) v asked = starts_bare u recovery
  asked_start _ v asked = cc

abbrev any : Item → Bool
any item = true

begun_bare : (net : Network) (out : Outcome) (x : World) → IsBare x → Leads net any IsBare x (begun out)
begun_bare net StartStopped x q = λ told. q
begun_bare net (ForeignAt place) x q = λ told. q
begun_bare net StartMemory x q = tt
begun_bare net _ x q = q

module _ (http : HttpTexts) (net : Network) (workers : ℕ) where
  starts_ask : (v : ℕ) (numbers : List ℕ) → AskRequests http (starts_from v numbers)
  starts_ask v [] = tt
  starts_ask v (number ∷ rest) = (tt, starts_ask (v + 1) rest)

  all_bare : (v : ℕ) (numbers : List ℕ) (ds : List Performed) (w : World) → IsBare w → IsRunOf http net workers w (starts_from v numbers) ds → (report http net w (starts_from v numbers) ds).ending ≡ Whole →
      IsBare (report http net w (starts_from v numbers) ds).world
  unfolding report perform
  all_bare v [] [] w h plays whole = h
  all_bare v [] (d ∷ ds) w h plays whole = absurd plays
  all_bare v (number ∷ rest) [] w h plays whole = cc
  all_bare v (number ∷ rest) (Together works ∷ ds) w h plays whole = absurd plays.0
  all_bare v (number ∷ rest) (Acts actions ∷ ds) w h plays whole =
      let p : Played = play net number w (begins v) actions in
      let later : Played = report http net p.world (starts_from (v + 1) rest) ds in
      let end = whole_first p.ending p later refl whole in
      let both = with_parts p.ending p later end in
      let one = leads_play net any IsBare number (begins v) w actions (λ a asked may. begun_bare net (step net w a).1 (step net w a).0 (asked_start net w h a v asked)) plays.0 end (any_told p.items) in
      subst IsBare (sym both.2)
      (all_bare (v + 1) rest ds p.world one (later_of http net workers p.ending (IsRunOf http net workers p.world (starts_from (v + 1) rest) ds) (ds ≡ []) end plays.1) (sym both.1 ∙ whole))

  pub begun_still : IsNetwork net → (numbers : List ℕ) (ds : List Performed) → IsRunOf http net workers first (starts_from 0 numbers) ds → (report http net first (starts_from 0 numbers) ds).ending ≡ Whole →
      (l : Lane) → IsStill net (report http net first (starts_from 0 numbers) ds).world l
  begun_still network numbers ds plays whole l =
      bare_still net (report http net first (starts_from 0 numbers) ds).world l (between http net workers network (starts_from 0 numbers) (starts_ask 0 numbers) ds plays whole).conserved
      (all_bare 0 numbers ds first first_bare plays whole)
