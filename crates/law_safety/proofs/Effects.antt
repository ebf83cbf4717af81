-- Effects keep the places of keys, whether they are committed, stopped or refused. Their secret facts are in the
-- table, or are cut from what is drawn.
use Rattle.std.proofs.Common.{subst, ◌≡◌, ℕ, ◌+◌, ◌≤◌, true, ◌&&◌, ◌||◌, not, refl, arith, Some, None, ◌⊎◌, inl, inr}
use Rattle.std.specs.Prelude.{nat_lt, slice_get, if◌then◌else◌}
use Rattle.std.specs.List.{list_all}
use Rattle.qkd_base.specs.Family.{number_set}
use Rattle.net_model.specs.declared.event.Event.{Event}
use Rattle.net_model.specs.declared.fact.Fact.{Fact}
use Rattle.net_model.specs.declared.record.Record.TheVariants.{Learned}
use Rattle.net_model.specs.declared.reply.Reply.TheVariants.{Down}
use Rattle.net_model.specs.Table.{name_of, fact_at, is_secret}
use Rattle.net_model.specs.OctetSequence.{has_octets}
use Rattle.net_model.specs.World.{Network, World, InDoubt}
use Rattle.net_model.specs.Needed.{view_of}
use Rattle.net_model.specs.Doubt.{MayReplay}
use Rattle.net_model.specs.Journal.{journal_limit, added_len, is_nil}
use Rattle.net_model.specs.Invariant.{Conserved}
use Rattle.net_model.specs.Decision.{Effect, Decision, Refuses, Does}
use Rattle.net_model.specs.Decide.{random_need}
use Rattle.net_model.specs.Action.{Environment, Outcome, Replies, is_no_memory, is_entropy_fault, is_io_fault}
use Rattle.net_model.specs.Handle.{is_numbered, commit, stopped, perform, resolve, handle}
use Rattle.law_base.proofs.Base.{by_number, by_test, or_second, not_true, number_set_same}
use Rattle.law_base.proofs.Walks.{perform_walk, handle_walk}
use Rattle.law_base.proofs.Growing.{replay_cases}
use Rattle.law_invariant.specs.May.{decided}
use Rattle.law_invariant.proofs.Effects.{with_drawn, drawn_more}
use Rattle.law_safety.proofs.Laid.{IsLaid, laid_stays, laid_more}
use Rattle.law_invariant.proofs.Cuts.{IsCutUp}
use Rattle.law_safety.proofs.Names.{IsThere, IsOwn, learned_own, last, older}

-- The facts in the table and in doubtful batches have places.
abbrev pub AreLaid : Network → World → Type 0
AreLaid net w = IsLaid net (IsThere w) w.drawn

-- The secret facts that the effect's batch learns are in the table already.
abbrev pub ReceivesOnly : World → Effect → Type 0
ReceivesOnly w e = (k : ℕ) (f : Fact) → slice_get e.batch k ≡ Some (Learned f) → is_secret f ≡ true → fact_at w.durable.facts (name_of f) ≡ Some f

module _ (net : Network) (w : World) (c : Conserved net w) (v : ℕ) where
  -- The effect has a permitted batch, and its secret facts get places.
  pub record MayLay (octets : ℕ) (e : Effect) : Type 0 where
    pub batch : MayReplay net.site w.durable v e.batch
    pub secrets : ReceivesOnly w e ⊎ IsCutUp (net.entropy v).octet v (last net w c v) (w.drawn v) (w.drawn v + octets) e.batch

  abbrev pub MayResolve : ℕ → Decision → Type 0
  MayResolve octets (Refuses reply) = Unit {0}
  MayResolve octets (Does e) = list_all is_numbered e.batch ≡ true → MayLay octets e

  module _ (laid : AreLaid net w) (up : w.up v ≡ true) where
    module _ (octets : ℕ) (e : Effect) (may : MayLay octets e) where
      -- The batch learns this fact.
      abbrev IsLearned : Fact → Type 0
      IsLearned f = (k : ℕ) × (slice_get e.batch k ≡ Some (Learned f))

      -- The batch learns this fact, and the node made it.
      abbrev IsMade : Fact → Type 0
      IsMade f = IsLearned f × IsOwn v f

      -- A fact was there before, or the batch learns it as a new one.
      there_or_made : (f : Fact) → IsThere w f ⊎ IsLearned f → IsThere w f ⊎ IsMade f
      there_or_made f (inl there) = inl there
      there_or_made f (inr (k, at)) = elim (learned_own net.site w.durable v e.batch may.batch k f at) [
        | inl came ↦ inl (inl (name_of f, came))
        | inr own ↦ inr ((k, at), own)
      ]

      came_there : ReceivesOnly w e → (f : Fact) → is_secret f ≡ true → IsThere w f ⊎ IsLearned f → IsThere w f
      came_there came f secret (inl there) = there
      came_there came f secret (inr (k, at)) = inl (name_of f, came k f at secret)

      -- If a world's only new facts are those of the batch, all its facts have places.
      lays : (w' : World) → ((u : ℕ) → w'.drawn u ≡ (with_drawn w v octets).drawn u) → ((f : Fact) → IsThere w' f → IsThere w f ⊎ IsLearned f) → AreLaid net w'
      lays w' same cases =
          let more : (u : ℕ) → w.drawn u ≤ w'.drawn u = λ u. let a = drawn_more w v octets u in let b = same u in omega (arith, a, b) in
          elim may.secrets [
            | inl came ↦ laid_stays net (IsThere w) (IsThere w') w.drawn w'.drawn (λ f t secret. came_there came f secret (cases f t)) more laid
            | inr cut ↦
                laid_more net (IsThere w) (IsThere w') IsMade w.drawn w'.drawn v (last net w c v) (w.drawn v + octets) cut.place laid (λ f t secret. older net w c v up f t)
                (λ f n secret. (n.1.starts, cut.each n.0.0 f n.0.1 secret))
                (λ f g n m secret secret' ne. cut.apart n.0.0 m.0.0 f g n.0.1 m.0.1 secret secret' ne)
                (λ f t secret. there_or_made f (cases f t)) more
                (let a = same v in let b = number_set_same w.drawn v (w.drawn v + octets) in omega (arith, a, b))
          ]

      commit_lays : AreLaid net (commit net.site w v octets e)
      unfolding commit
      commit_lays = lays (commit net.site w v octets e) (λ u. refl) cases
        where
          cases : (f : Fact) → IsThere (commit net.site w v octets e) f → IsThere w f ⊎ IsLearned f
          cases f (inl (n, there)) = elim (replay_cases net.site v e.batch w.durable may.batch n f there) [ inl old ↦ inl (inl (n, old)) | inr new ↦ inr new ]
          cases f (inr doubt) = inl (inr doubt)

      abbrev doubt : InDoubt
      doubt = record { batch = e.batch; checkpointed = None }

      stopped_lays : AreLaid net (stopped w v octets e)
      unfolding stopped
      stopped_lays = lays (stopped w v octets e) (λ u. refl) cases
        where
          in_batch : (f : Fact) (k u : ℕ) → slice_get (number_set w.in_doubt v doubt u).batch k ≡ Some (Learned f) → IsThere w f ⊎ IsLearned f
          in_batch f k =
              by_number (λ u t. slice_get (if t then doubt else w.in_doubt u).batch k ≡ Some (Learned f) → IsThere w f ⊎ IsLearned f) v (λ at. inr (k, at))
              (λ u ne at. inl (inr (u, k, at)))

          cases : (f : Fact) → IsThere (stopped w v octets e) f → IsThere w f ⊎ IsLearned f
          cases f (inl there) = inl (inl there)
          cases f (inr (u, k, at)) = in_batch f k u at

    -- The places are kept whatever the outside answers.
    pub perform_lays : (octets : ℕ) (environment : Environment) (e : Effect) → (list_all is_numbered e.batch ≡ true → MayLay octets e) →
        AreLaid net (perform net w v octets environment e).0
    perform_lays octets environment e may =
        perform_walk net w (AreLaid net) laid v octets environment e (λ numbered fits. stopped_lays octets e (may numbered)) (λ numbered fits. commit_lays octets e (may numbered))

  effect_may : (octets : ℕ) (x : Decision) (e : Effect) → MayResolve octets x → x ≡ Does e → MayResolve octets (Does e)
  effect_may octets x e may is = subst (MayResolve octets) is may

  pub handle_lays : AreLaid net w → (event : Event) (environment : Environment) → (w.up v ≡ true → MayResolve (random_need (view_of net w v) event) (decided net w v event)) →
      AreLaid net (handle net w v event environment).0
  handle_lays laid event environment may =
      handle_walk net w (AreLaid net) laid v event environment
      (λ up e is. perform_lays laid up (random_need (view_of net w v) event) environment e
      (effect_may (random_need (view_of net w v) event) (decided net w v event) e (may up) is))
