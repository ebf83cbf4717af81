-- In a run owners of bytes are only added. So the frames of a run cover bytes behind those that were owned at its beginning.
use Rattle.std.proofs.Common.{◌≡◌, ℕ, ◌-◌, ◌≤◌, Bool, true, false, List, [], ◌∷◌, ◌++◌, length, refl, sym, ◌∙◌, ap, arith, replicate, Some, None, Option}
use Rattle.std.specs.Prelude.{slice_get, nat_lt, if◌then◌else◌}
use Rattle.std.proofs.lemmas.Bool.{ltb-true, ltb-false}
use Rattle.qkd_base.specs.declared.lane.Lane.{Lane}
use Rattle.net_model.specs.Item.{need}
use Rattle.net_model.specs.Premises.{IsNetwork}
use Rattle.net_model.specs.World.{Network, World, Durable, Owner, Frame, Burnt, Allocation, Transmission}
use Rattle.net_model.specs.Ownership.{is_frame, covers}
use Rattle.net_model.specs.Decision.{Effect}
use Rattle.net_model.specs.Handle.{commit, stopped}
use Rattle.net_model.specs.Frames.{allocate}
use Rattle.net_model.specs.Invariant.{Conserved}
use Rattle.net_model.specs.Start.{resolved, resolved_durable, burnt_to, leaves, restarted, interrupted_start}
use Rattle.net_model.specs.Action.{Action}
use Rattle.net_model.specs.Step.{step, is_step, run, is_run, IsRun}
use Rattle.run_model.specs.Begin.{IsAtRest}
use Rattle.law_base.proofs.Base.{and_left, and_right, by_lane, by_test, not_both, slice_get-append_left}
use Rattle.law_base.proofs.Walks.{step_walk}
use Rattle.law_invariant.proofs.Steps.{step_keeps}
use Rattle.law_run.proofs.Owns.{Continues, continues_same, continues_then, IsFresh, replay_owns}

nothing_owned : (own : List Owner) → length own ≤ 0 → own ≡ []
nothing_owned [] h = refl
nothing_owned (o ∷ own) h = absurd (omega (arith, h))

-- Each lane's owners of the first state are the first ones of the second.
abbrev pub OwnsOn : Durable → Durable → Type 0
OwnsOn a b = (l : Lane) → Continues (a.own l) (b.own l)

module _ (net : Network) (w : World) (c : Conserved net w) where
  fresh : IsFresh w.durable
  fresh l none = let room = c.now.room l in nothing_owned (w.durable.own l) (omega (arith, room.planned, room.leased, none))

  abbrev Owning : World → Type 0
  Owning x = OwnsOn w.durable x.durable

  same : Owning w
  same l = continues_same (w.durable.own l)

  commit_owns : (v octets : ℕ) (e : Effect) → Owning (commit net.site w v octets e)
  unfolding commit
  commit_owns v octets e = (replay_owns net.site v e.batch w.durable fresh).own

  stopped_owns : (v octets : ℕ) (e : Effect) → Owning (stopped w v octets e)
  unfolding stopped
  stopped_owns v octets e = same

  allocate_owns : (t : Transmission) → Owning (allocate w t).0
  unfolding allocate
  allocate_owns t =
      let more : List Owner = replicate (need w.durable.facts t.item) (Frame (length (w.frames t.lane))) in
      by_lane (λ l b. Continues (w.durable.own l) (if b then w.durable.own t.lane ++ more else w.durable.own l)) t.lane (more, refl) (λ l. continues_same (w.durable.own l))

  burnt_owns : (v : ℕ) (d : Durable) → OwnsOn w.durable d → (l : Lane) → Continues (w.durable.own l) (if leaves net.site v l then burnt_to (d.lease l) (d.own l) else d.own l)
  burnt_owns v d h l =
      by_test (λ (os : List Owner). Continues (w.durable.own l) os) (leaves net.site v l) (burnt_to (d.lease l) (d.own l)) (d.own l)
      (λ e. continues_then (w.durable.own l) (d.own l) (burnt_to (d.lease l) (d.own l)) (h l) (replicate (d.lease l - length (d.own l)) Burnt, refl)) (λ e. h l)

  settled_owns : (v : ℕ) (committed : Bool) → OwnsOn w.durable (resolved_durable net.site w v committed)
  settled_owns v true = (replay_owns net.site v (w.in_doubt v).batch w.durable fresh).own
  settled_owns v false = same

  resumed_owns : (v : ℕ) (found committed : Bool) → OwnsOn w.durable (resolved_durable net.site (interrupted_start net w v (Some found)) v committed)
  resumed_owns v found true = (replay_owns net.site v ((interrupted_start net w v (Some found)).in_doubt v).batch w.durable fresh).own
  resumed_owns v found false = same

  started_owns : (v : ℕ) (committed : Bool) → Owning (restarted net (resolved net.site w v committed) v)
  unfolding restarted
  started_owns v committed = burnt_owns v (resolved_durable net.site w v committed) (settled_owns v committed)

  again_owns : (v : ℕ) (committed : Bool) → Owning (restarted net (resolved net.site (interrupted_start net w v (Some committed)) v committed) v)
  unfolding restarted
  again_owns v committed = burnt_owns v (resolved_durable net.site (interrupted_start net w v (Some committed)) v committed) (resumed_owns v committed committed)

  interrupted_owns : (v : ℕ) (made : Option Bool) → Owning (interrupted_start net w v made)
  interrupted_owns v None = same
  interrupted_owns v (Some committed) = same

  step_owns : (a : Action) → Owning (step net w a).0
  step_owns a = step_walk net w Owning (record {
    same = same;
    commits = commit_owns;
    stops = stopped_owns;
    allocates = allocate_owns;
    refuses = λ l o. same;
    puts = λ l o. same;
    notes = λ x v h. h;
    starts = started_owns;
    resumes = again_owns;
    interrupts = interrupted_owns;
    crashes = λ v. same;
    links = λ link up. same;
  }) a

pub run_owns : (net : Network) → IsNetwork net → (actions : List Action) (w : World) → Conserved net w → IsRun net w actions → OwnsOn w.durable (run net w actions).durable
unfolding run is_run
run_owns net network [] w c r l = continues_same (w.durable.own l)
run_owns net network (a ∷ actions) w c r l =
    let after : World = (step net w a).0 in
    let one = and_left (is_step net w a) (is_run net after actions) r in
    continues_then (w.durable.own l) (after.durable.own l) ((run net after actions).durable.own l) (step_owns net w c a l)
    (run_owns net network actions after (step_keeps net w a network one c) (and_right (is_step net w a) (is_run net after actions) r) l)

-- The frames of a run from a world at rest take bytes behind those owned there.
pub frames_above : (net : Network) (b u : World) → IsAtRest b → Conserved net b → Conserved net u → OwnsOn b.durable u.durable → (l : Lane) (j x : ℕ) →
    covers u.durable.facts (slice_get (u.frames l) j) x ≡ true → b.durable.lease l ≤ x
frames_above net b u rest c d h l j x covered = let owned = rest.owned l in let behind = late (nat_lt x (length (b.durable.own l))) refl in omega (arith, owned, behind)
  where
    owned_there : is_frame j (slice_get (u.durable.own l) x) ≡ true
    owned_there = (d.now.owned l).frame x j ∙ covered

    unframed : is_frame j (slice_get (b.durable.own l) x) ≡ false
    unframed = (c.now.owned l).frame x j ∙ ap (λ (fs : List Allocation). covers b.durable.facts (slice_get fs j) x) (rest.framed l)

    late : (t : Bool) → nat_lt x (length (b.durable.own l)) ≡ t → length (b.durable.own l) ≤ x
    late false e = ltb-false x (length (b.durable.own l)) e
    late true e =
        let less = ltb-true x (length (b.durable.own l)) e in
        let more = h l in
        let at : slice_get (u.durable.own l) x ≡ slice_get (b.durable.own l) x =
        ap (λ (os : List Owner). slice_get os x) more.1 ∙ slice_get-append_left (b.durable.own l) more.0 x less in
        absurd (not_both (is_frame j (slice_get (b.durable.own l) x)) (ap (is_frame j) (sym at) ∙ owned_there) unframed)
