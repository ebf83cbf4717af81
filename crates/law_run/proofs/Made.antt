-- What a node makes in an effect: nothing, or one batch, which would be in doubt if its disk had failed.
use Rattle.std.proofs.Common.{◌≡◌, ◌≢◌, ℕ, ◌+◌, Bool, true, false, not, ◌&&◌, ◌||◌, List, [], ◌∷◌, ◌++◌, refl, sym, ◌∙◌, ap, subst, arith, None, ◌⊎◌, inl, inr, append-nil}
use Rattle.std.specs.Prelude.{nat_lt, if◌then◌else◌}
use Rattle.std.specs.List.{list_all}
use Rattle.std.proofs.lemmas.Bool.Decides.{nat_tests}
use Rattle.net_model.specs.declared.record.Record.{Record}
use Rattle.net_model.specs.declared.reply.Reply.TheVariants.{Stopped, Memory, JournalFull, NoRandom}
use Rattle.net_model.specs.OctetSequence.{has_octets}
use Rattle.net_model.specs.Site.{Site}
use Rattle.net_model.specs.World.{Network, World, Journal, InDoubt}
use Rattle.net_model.specs.View.{View}
use Rattle.net_model.specs.Needed.{view_of, masked}
use Rattle.net_model.specs.Journal.{added_len, body_len, is_nil, journal_limit, extended}
use Rattle.net_model.specs.Decision.{Effect}
use Rattle.net_model.specs.Invariant.{Conserved}
use Rattle.net_model.specs.Action.{Environment, IoFault, Outcome, Replies, is_io_fault, is_no_memory, is_entropy_fault}
use Rattle.net_model.specs.Handle.{is_numbered, commit, stopped, perform}
use Rattle.net_model.specs.Fold.{view_records, view_batch, view_restarted}
use Rattle.run_model.specs.Left.{is_longer, none_or_one}
use Rattle.law_base.proofs.Base.{number_set_same, by_test, when_true, when_false, not_true, or_second}
use Rattle.law_base.proofs.Walks.{perform_walk}
use Rattle.law_base.proofs.Extending.{extends_same}
use Rattle.law_locality.proofs.Durables.{other_replay}
use Rattle.law_recovery.specs.GivesBack.{GivesBack}
use Rattle.law_recovery.proofs.Restarting.{masked_restarts, recovered_masked, batch_given, effect_given, reply_given}
use Rattle.law_recovery.specs.Saved.{saved}
use Rattle.law_recovery.proofs.Views.{saved_same}
use Rattle.law_recovery.proofs.Effects.{Goes, here_or_there, other_set}

-- The node's journal doesn't get longer, and all batches that gave the node back still do.
pub record Quiet (net : Network) (w after : World) (v : ℕ) : Type 0 where
  pub short : is_longer (w.journal v) (after.journal v) ≡ false
  pub keeps : (batches : List (List Record)) → GivesBack net.site v batches (view_of net w v) → GivesBack net.site v batches (view_of net after v)

-- The node's journal gets longer by a batch. In the world where the disk failed, this batch is in doubt.
pub record Wrote (net : Network) (w after failed : World) (v : ℕ) : Type 0 where
  pub up : w.up v ≡ true
  pub batch : List Record
  pub some : is_nil batch ≡ false
  pub longer : is_longer (w.journal v) (after.journal v) ≡ true
  pub doubt : (failed.in_doubt v).batch ≡ batch
  pub given : (batches : List (List Record)) → GivesBack net.site v batches (view_of net w v) → GivesBack net.site v (batches ++ batch ∷ []) (view_of net after v)

abbrev pub Made : Network → World → World → World → ℕ → Type 0
Made net w after failed v = Quiet net w after v ⊎ Wrote net w after failed v

-- Lemmas on lengths.

no_less : (n : ℕ) → nat_lt n n ≡ false
no_less n = grind (arith, nat_tests)

no_more : (n : ℕ) → nat_lt n (n + 0) ≡ false
no_more n = grind (arith, nat_tests)

more : (n m : ℕ) → nat_lt n (n + (5 + m)) ≡ true
more n m = grind (arith, nat_tests)

-- Lemmas on lists.

nil_is : {A : Type 0} (xs : List A) → is_nil xs ≡ true → xs ≡ []
nil_is [] h = refl
nil_is (x ∷ xs) h = cc

pub one_of : (batch : List Record) → is_nil batch ≡ false → none_or_one batch ≡ batch ∷ []
one_of [] h = cc
one_of (r ∷ rs) h = refl

-- Lemmas on a batch that may be in doubt.
pub doubt_given : (site : Site) (me : ℕ) (batches : List (List Record)) (v : View) (batch : List Record) → GivesBack site me batches v →
    GivesBack site me (batches ++ none_or_one batch) (view_batch v batch)
unfolding view_records
doubt_given site me batches v [] h =
    subst (λ (bs : List (List Record)). GivesBack site me bs (masked v)) (sym (append-nil batches)) (sym (recovered_masked site me batches) ∙ ap masked h ∙ masked_restarts v)
doubt_given site me batches v (r ∷ rs) h = batch_given site me batches v (r ∷ rs) h

pub quiet : (net : Network) (w after : World) (v : ℕ) → after.journal v ≡ w.journal v → saved net after v ≡ saved net w v → Quiet net w after v
quiet net w after v journal view =
    record { short = ap (λ (j : Journal). is_longer (w.journal v) j) journal ∙ no_less (w.journal v).length'; keeps = λ batches h. h ∙ sym view }

pub quiet_same : (net : Network) (w : World) (v : ℕ) → Quiet net w w v
quiet_same net w v = quiet net w w v refl refl

io_no_worse : (a b c : Bool) → (a && (b || c)) ≡ false → (a && (b || false)) ≡ false
io_no_worse true true c h = cc
io_no_worse true false c h = refl
io_no_worse false b c h = refl

fourth : {A : Type 0} (a b c d : Bool) (p q r s t : A) → a ≡ false → b ≡ false → c ≡ false → d ≡ true →
    (if a then p else if b then q else if c then r else if d then s else t) ≡ s
fourth a b c d p q r s t ha hb hc hd =
    when_false a p (if b then q else if c then r else if d then s else t) ha ∙ when_false b q (if c then r else if d then s else t) hb ∙
    when_false c r (if d then s else t) hc ∙ when_true d s t hd

module _ (net : Network) (w : World) (c : Conserved net w) (u octets : ℕ) (up : w.up u ≡ true) (e : Effect) (goes : Goes net w u octets e) where
  stopped_quiet : (v : ℕ) → Quiet net w (stopped w u octets e) v
  unfolding stopped
  stopped_quiet v = quiet net w (stopped w u octets e) v refl (saved_same net v w (stopped w u octets e) (extends_same net.site v w.durable) refl refl refl)

  stopped_doubt : ((stopped w u octets e).in_doubt u).batch ≡ e.batch
  unfolding stopped
  stopped_doubt = ap (λ (d : InDoubt). d.batch) (number_set_same w.in_doubt u (record { batch = e.batch; checkpointed = None }))

  longer_journal : Journal
  longer_journal = extended (w.journal u) (added_len (w.journal u).version e.batch)

  commit_there : list_all is_numbered e.batch ≡ true → (v : ℕ) → v ≢ u → Quiet net w (commit net.site w u octets e) v
  unfolding commit longer_journal
  commit_there numbered v apart =
      let d = other_replay net.site v u apart w.durable w.frames w.unclaimed c.now e.batch (goes.may numbered) in
      quiet net w (commit net.site w u octets e) v (other_set w.journal u v longer_journal apart)
      (saved_same net v w (commit net.site w u octets e) d.extends d.acked d.closed d.handed)

  journal_here : (commit net.site w u octets e).journal u ≡ longer_journal
  unfolding commit longer_journal
  journal_here = number_set_same w.journal u longer_journal

  commit_none : is_nil e.batch ≡ true → list_all is_numbered e.batch ≡ true → Quiet net w (commit net.site w u octets e) u
  unfolding longer_journal
  commit_none none numbered =
      let len : ℕ = (w.journal u).length' in
      let add : ℕ = 5 + body_len (w.journal u).version e.batch in
      record {
        short = ap (λ (j : Journal). is_longer (w.journal u) j) journal_here ∙ ap (λ (t : Bool). nat_lt len (len + (if t then 0 else add))) none ∙ no_more len;
        keeps = λ batches h. reply_given net.site u batches (view_of net w u) e (nil_is e.batch none) h ∙ ap view_restarted (sym (goes.view numbered));
      }

  commit_some : is_nil e.batch ≡ false → list_all is_numbered e.batch ≡ true → (failed : World) → (failed.in_doubt u).batch ≡ e.batch →
      Wrote net w (commit net.site w u octets e) failed u
  unfolding longer_journal
  commit_some some numbered failed doubt =
      let len : ℕ = (w.journal u).length' in
      let add : ℕ = 5 + body_len (w.journal u).version e.batch in
      record {
        up = up;
        batch = e.batch;
        some = some;
        longer = ap (λ (j : Journal). is_longer (w.journal u) j) journal_here ∙ ap (λ (t : Bool). nat_lt len (len + (if t then 0 else add))) some ∙
            more len (body_len (w.journal u).version e.batch);
        doubt = doubt;
        given = λ batches h. effect_given net.site u batches (view_of net w u) e h ∙ ap view_restarted (sym (goes.view numbered));
      }

  -- Lemmas on an effect without a batch.
  pub still_quiet : is_nil e.batch ≡ true → (environment : Environment) (v : ℕ) → Quiet net w (perform net w u octets environment e).0 v
  still_quiet none environment v =
      perform_walk net w (λ (x : World). Quiet net w x v) (quiet_same net w v) u octets environment e (λ numbered room. stopped_quiet v)
      (λ numbered room. here_or_there (λ (k : ℕ). Quiet net w (commit net.site w u octets e) k) u v (commit_none none numbered) (commit_there numbered v))

  abbrev added : ℕ
  added = added_len (w.journal u).version e.batch

  fails : list_all is_numbered e.batch ≡ true → nat_lt journal_limit ((w.journal u).length' + added) ≡ false →
      (nat_lt 0 octets && (not (has_octets (net.entropy u) (w.drawn u + octets)) || false)) ≡ false → is_nil e.batch ≡ false →
      perform net w u octets IoFault e ≡ (stopped w u octets e, Replies Stopped)
  unfolding perform
  fails numbered room random some =
      fourth (not (list_all is_numbered e.batch)) (nat_lt journal_limit ((w.journal u).length' + added))
      (nat_lt 0 octets && (not (has_octets (net.entropy u) (w.drawn u + octets)) || false)) (not (is_nil e.batch))
      (w, Replies Memory) (w, Replies (JournalFull (w.journal u).length' added)) (w, Replies NoRandom) (stopped w u octets e, Replies Stopped)
      (commit net.site w u octets e, Replies e.reply) (ap not numbered) room random (ap not some)

  commit_made : list_all is_numbered e.batch ≡ true → nat_lt journal_limit ((w.journal u).length' + added) ≡ false →
      (nat_lt 0 octets && (not (has_octets (net.entropy u) (w.drawn u + octets)) || false)) ≡ false → (v : ℕ) →
      Made net w (commit net.site w u octets e) (perform net w u octets IoFault e).0 v
  commit_made numbered room random v =
      here_or_there (Made net w (commit net.site w u octets e) (perform net w u octets IoFault e).0) u v
      (elim (is_nil e.batch) as (λ t. is_nil e.batch ≡ t → Made net w (commit net.site w u octets e) (perform net w u octets IoFault e).0 u) [
        | true ↦ λ none. inl (commit_none none numbered)
        | false ↦ λ some. inr (commit_some some numbered (perform net w u octets IoFault e).0
            (ap (λ (r : World × Outcome). (r.0.in_doubt u).batch) (fails numbered room random some) ∙ stopped_doubt))
      ] refl) (λ apart. inl (commit_there numbered v apart))

  by_outcome : (failed : World) (v : ℕ) →
      (list_all is_numbered e.batch ≡ true → nat_lt journal_limit ((w.journal u).length' + added) ≡ false →
      (nat_lt 0 octets && (not (has_octets (net.entropy u) (w.drawn u + octets)) || false)) ≡ false → Made net w (commit net.site w u octets e) failed v) →
      (environment : Environment) → Made net w (perform net w u octets environment e).0 failed v
  unfolding perform
  by_outcome failed v commits environment =
      let P : World × Outcome → Type 0 = λ r. Made net w r.0 failed v in
      let same : Made net w w failed v = inl (quiet_same net w v) in
      by_test P (is_no_memory environment || not (list_all is_numbered e.batch)) _ _ (λ x. same)
      (λ x. let numbered = not_true (list_all is_numbered e.batch) (or_second (is_no_memory environment) _ x) in
      by_test P (nat_lt journal_limit ((w.journal u).length' + added)) _ _ (λ y. same)
      (λ room. by_test P (nat_lt 0 octets && (not (has_octets (net.entropy u) (w.drawn u + octets)) || is_entropy_fault environment)) _ _ (λ z. same)
      (λ z. by_test P (is_io_fault environment && not (is_nil e.batch)) _ _ (λ io. inl (stopped_quiet v))
      (λ io. commits numbered room (io_no_worse (nat_lt 0 octets) (not (has_octets (net.entropy u) (w.drawn u + octets))) (is_entropy_fault environment) z)))))

  pub effect_made : (environment : Environment) (v : ℕ) → Made net w (perform net w u octets environment e).0 (perform net w u octets IoFault e).0 v
  effect_made environment v = by_outcome (perform net w u octets IoFault e).0 v (λ numbered room random. commit_made numbered room random v) environment
