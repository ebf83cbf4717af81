-- In every run a node that was never started has no batches, and gives back nothing.
use Rattle.std.proofs.Common.{◌≡◌, ℕ, Bool, true, false, ◌&&◌, ◌||◌, refl, sym, ap, subst, arith, Option, Some, None}
use Rattle.std.specs.Prelude.{◌==◌, if◌then◌else◌}
use Rattle.net_model.specs.World.{Network, World, Journal, InDoubt, no_doubt}
use Rattle.net_model.specs.Journal.{added_len, is_blank, new_journal, extended, is_checkpoint_due, checkpointed, recovered_journal}
use Rattle.net_model.specs.Decision.{Effect}
use Rattle.net_model.specs.Handle.{commit, stopped}
use Rattle.net_model.specs.Frames.{allocate}
use Rattle.net_model.specs.Start.{resolved, resolved_journal, need_at, restarted, interrupted_start, may_resolve}
use Rattle.net_model.specs.Action.{Action}
use Rattle.net_model.specs.Step.{step}
use Rattle.law_base.proofs.Base.{by_number, by_test, eq_from, not_both, number_set_same, or_first, or_left}
use Rattle.law_base.proofs.Walks.{IsPreserved, step_walk}
use Rattle.law_recovery.proofs.Journals.{checkpoint_stays}

-- What holds of a journal and a doubt, and of the journal before them: the records are of version 2, a checkpoint settled
-- the doubt only where there is a journal, and no journal goes away.
pub record IsBegunBy (before j : Journal) (d : InDoubt) : Type 0 where
  pub version : j.version ≡ 2
  pub unsettled : j.length' ≡ 0 → d.checkpointed ≡ None
  pub stays : j.length' ≡ 0 → before.length' ≡ 0

abbrev pub IsBegun : World → Type 0
IsBegun w = (v : ℕ) → IsBegunBy (w.journal v) (w.journal v) (w.in_doubt v)

some_length : (j : Journal) → is_blank j ≡ false → j.length' ≡ 0 → ⊥
some_length j e none = not_both (j.length' == 0) (ap (λ (n : ℕ). n == 0) none) (or_first (j.length' == 0) _ e)

module _ (net : Network) (w : World) (b : IsBegun w) where
  abbrev Begun : World → Type 0
  Begun x = (v : ℕ) → IsBegunBy (w.journal v) (x.journal v) (x.in_doubt v)

  written : (before : Journal) (j : Journal) (d : InDoubt) → j.version ≡ 2 → is_blank j ≡ false → IsBegunBy before j d
  written before j d version e = record { version = version; unsettled = λ none. absurd (some_length j e none); stays = λ none. absurd (some_length j e none) }

  longer : (before j : Journal) (octets : ℕ) (d : InDoubt) → IsBegunBy before j d → IsBegunBy before (extended j octets) d
  longer before j octets d h = record {
    version = h.version;
    unsettled = λ none. h.unsettled (omega (arith, none));
    stays = λ none. h.stays (omega (arith, none));
  }

  certain : (before j : Journal) (d : InDoubt) → IsBegunBy before j d → IsBegunBy before j no_doubt
  certain before j d h = record { version = h.version; unsettled = λ none. refl; stays = h.stays }

  checkpoint_begun : (before j : Journal) (need : ℕ) (d : InDoubt) → IsBegunBy before (checkpointed j need) d
  unfolding checkpointed
  checkpoint_begun before j need d = written before (checkpointed j need) d refl (checkpoint_stays j need)

  recovered_begun : (before j : Journal) (need : ℕ) → IsBegunBy before j no_doubt → IsBegunBy before (recovered_journal j need) no_doubt
  recovered_begun before j need h =
      by_test (λ (x : Journal). IsBegunBy before x no_doubt) (is_checkpoint_due j need) (checkpointed j need) j (λ e. checkpoint_begun before j need no_doubt) (λ e. h)

  read_begun : (before j : Journal) (octets : ℕ) (d : InDoubt) → IsBegunBy before j d → IsBegunBy before (if is_blank j then new_journal else extended j octets) no_doubt
  read_begun before j octets d h =
      by_test (λ (x : Journal). IsBegunBy before x no_doubt) (is_blank j) new_journal (extended j octets) (λ e. written before new_journal no_doubt refl refl)
      (λ e. longer before j octets no_doubt (certain before j d h))

  here_begun : (v : ℕ) → IsBegunBy (w.journal v) (w.journal v) (w.in_doubt v)
  here_begun v = b v

  -- At node u the journal and the doubt are these, and at all others they stay.
  abbrev At : ℕ → Journal → InDoubt → ℕ → Bool → Type 0
  At u j d v t = IsBegunBy (w.journal v) (if t then j else w.journal v) (if t then d else w.in_doubt v)

  commit_begun : (u octets : ℕ) (e : Effect) → Begun (commit net.site w u octets e)
  unfolding commit
  commit_begun u octets e = by_number (λ v t. IsBegunBy (w.journal v) (if t then extended (w.journal u) (added_len (w.journal u).version e.batch) else w.journal v) (w.in_doubt v)) u
      (longer (w.journal u) (w.journal u) (added_len (w.journal u).version e.batch) (w.in_doubt u) (b u)) (λ v apart. b v)

  stopped_begun : (u octets : ℕ) (e : Effect) → Begun (stopped w u octets e)
  unfolding stopped
  stopped_begun u octets e = by_number (λ v t. IsBegunBy (w.journal v) (w.journal v) (if t then record { batch = e.batch; checkpointed = None } else w.in_doubt v)) u
      (record { version = (b u).version; unsettled = λ none. refl; stays = (b u).stays }) (λ v apart. b v)

  resolved_begun : (u : ℕ) (committed : Bool) → IsBegunBy (w.journal u) ((resolved net.site w u committed).journal u) no_doubt
  resolved_begun u committed =
      subst (λ (j : Journal). IsBegunBy (w.journal u) j no_doubt) (sym (number_set_same w.journal u (resolved_journal w u committed)))
      (read_begun (w.journal u) (w.journal u) _ (w.in_doubt u) (b u))

  started_begun : (u : ℕ) (committed : Bool) → Begun (restarted net (resolved net.site w u committed) u)
  unfolding restarted
  started_begun u committed =
      let next : World = resolved net.site w u committed in
      by_number (λ v t. IsBegunBy (w.journal v) (if t then recovered_journal (next.journal u) (need_at net next u) else if t then resolved_journal w u committed else w.journal v)
      (if t then no_doubt else w.in_doubt v)) u (recovered_begun (w.journal u) (next.journal u) (need_at net next u) (resolved_begun u committed)) (λ v apart. b v)

  interrupted_begun : (u : ℕ) (made : Option Bool) → Begun (interrupted_start net w u made)
  interrupted_begun u None = b
  interrupted_begun u (Some committed) =
      let next : World = resolved net.site w u committed in
      by_number (λ v t. IsBegunBy (w.journal v) (if t then checkpointed (next.journal u) (need_at net next u) else w.journal v)
      (if t then record (w.in_doubt u) { checkpointed = Some committed } else w.in_doubt v)) u (checkpoint_begun (w.journal u) (next.journal u) (need_at net next u) _) (λ v apart. b v)

  resumed_begun : (u : ℕ) (committed : Bool) → Begun (restarted net (resolved net.site (interrupted_start net w u (Some committed)) u committed) u)
  unfolding restarted
  resumed_begun u committed =
      let halted : World = interrupted_start net w u (Some committed) in
      let next : World = resolved net.site halted u committed in
      let read : IsBegunBy (w.journal u) (next.journal u) no_doubt =
      subst (λ (j : Journal). IsBegunBy (w.journal u) j no_doubt) (sym (number_set_same halted.journal u (resolved_journal halted u committed)))
      (read_begun (w.journal u) (halted.journal u) _ (halted.in_doubt u) (interrupted_begun u (Some committed) u)) in
      by_number (λ v t. IsBegunBy (w.journal v) (if t then recovered_journal (next.journal u) (need_at net next u) else if t then resolved_journal halted u committed else
      if t then checkpointed ((resolved net.site w u committed).journal u) (need_at net (resolved net.site w u committed) u) else w.journal v)
      (if t then no_doubt else if t then record (w.in_doubt u) { checkpointed = Some committed } else w.in_doubt v)) u
      (recovered_begun (w.journal u) (next.journal u) (need_at net next u) read) (λ v apart. b v)

  preserved : IsPreserved net w Begun
  unfolding allocate
  preserved = record {
    same = b;
    commits = commit_begun;
    stops = stopped_begun;
    allocates = λ t. b;
    refuses = λ l o. b;
    puts = λ l o. b;
    notes = λ x v h. h;
    starts = started_begun;
    resumes = resumed_begun;
    interrupts = interrupted_begun;
    crashes = λ v. b;
    links = λ link up. b;
  }

  pub step_begun : (a : Action) → Begun (step net w a).0
  step_begun a = step_walk net w Begun preserved a

pub still_begun : (net : Network) (w : World) → IsBegun w → (a : Action) → IsBegun (step net w a).0
still_begun net w b a v = let h = step_begun net w b a v in record { version = h.version; unsettled = h.unsettled; stays = λ none. none }

-- A journal of version 2 is blank exactly if it has no octet.
blank_length : (j : Journal) → j.version ≡ 2 → is_blank j ≡ true → j.length' ≡ 0
blank_length j version e = no_octet (j.length' == 0) _ (ap (λ (n : ℕ). (n == 1) && (j.length' == 17)) version) refl e
  where
    no_octet : (none other : Bool) → other ≡ false → (j.length' == 0) ≡ none → (none || other) ≡ true → j.length' ≡ 0
    no_octet true other h same e2 = eq_from j.length' 0 same
    no_octet false other h same e2 = cc

length_blank : (j : Journal) → j.length' ≡ 0 → is_blank j ≡ true
length_blank j none = or_left (j.length' == 0) _ (ap (λ (n : ℕ). n == 0) none)

-- A journal that is blank after an action was blank before.
pub was_blank : (net : Network) (w : World) → IsBegun w → (a : Action) (v : ℕ) → is_blank ((step net w a).0.journal v) ≡ true → is_blank (w.journal v) ≡ true
was_blank net w b a v e =
    let h = step_begun net w b a v in
    length_blank (w.journal v) (h.stays (blank_length ((step net w a).0.journal v) h.version e))

-- Nothing says that a batch in doubt of a blank journal was made.
pub blank_certain : (w : World) → IsBegun w → (v : ℕ) → is_blank (w.journal v) ≡ true → may_resolve (w.in_doubt v) false ≡ true
blank_certain w b v e = unmade (w.in_doubt v) ((b v).unsettled (blank_length (w.journal v) (b v).version e))
  where
    unmade : (d : InDoubt) → d.checkpointed ≡ None → may_resolve d false ≡ true
    unmade d none = rw none refl
