-- A node that takes a block makes it durable; if it takes none, no lane changes.
use Rattle.std.proofs.Common.{◌≡◌, ℕ, ◌+◌, ◌*◌, ◌<◌, not, Bool, true, false, ◌&&◌, ◌||◌, [], ◌∷◌, refl, sym, subst}
use Rattle.std.specs.Prelude.{◌==◌, nat_lt, if◌then◌else◌}
use Rattle.std.specs.List.{list_all}
use Rattle.net_model.specs.declared.event.Event.TheVariants.{Block}
use Rattle.net_model.specs.declared.record.Record.TheVariants.{Block as Block'}
use Rattle.net_model.specs.declared.reply.Reply.TheVariants.{Down, Stopped, Memory, JournalFull, NoRandom, LinkFull, Took}
use Rattle.net_model.specs.Site.{outgoing_lane, is_incident}
use Rattle.net_model.specs.OctetSequence.{has_octets, block_at}
use Rattle.net_model.specs.World.{Network, World}
use Rattle.net_model.specs.View.{port_of, blocks_of}
use Rattle.net_model.specs.Needed.{view_of}
use Rattle.net_model.specs.Journal.{added_len, is_nil, journal_limit}
use Rattle.net_model.specs.Decision.{Refuses, Does, Effect}
use Rattle.net_model.specs.Decide.{decide, random_need}
use Rattle.net_model.specs.Action.{Environment, Outcome, Replies, NoBlock, DeviceFailed, is_no_memory, is_entropy_fault, is_io_fault, is_device_fault}
use Rattle.net_model.specs.Handle.{is_numbered, commit, stopped, perform, resolve, handle, blocks_at, take_block}
use Rattle.law_base.proofs.Base.{below_from, by_test}
use Rattle.world_nodes.specs.LaneStands.{IsRunning}
use Rattle.world_nodes.specs.Going.{IsReplayed}
use Rattle.world_nodes.specs.Taking.{TakesOrStays}

module _ (net : Network) (w : World) (r : IsRunning net w) (v link : ℕ) (incident : is_incident net.site v link ≡ true) where
  abbrev number : ℕ
  number = blocks_at net w v link

  abbrev P : World × Outcome → Type 0
  P x = TakesOrStays net w v link x

  abbrev effect : Effect
  effect = record {
    batch = Block' link number (block_at (net.device link) number) ∷ [];
    volatile = (view_of net w v).volatile;
    orders = [];
    repeats = [];
    reply = Took number;
  }

  stays : (w' : World) (o : Outcome) → ((n : ℕ) → o ≡ Replies (Took n) → ⊥) → (w'.durable ≡ w.durable) × (w'.frames ≡ w.frames) × (w'.wire ≡ w.wire) → P (w', o)
  stays w' o other same = record { took = λ n e. absurd (other n e); otherwise = λ none. same }

  refused : (o : Outcome) → ((n : ℕ) → o ≡ Replies (Took n) → ⊥) → P (w, o)
  refused o other = stays w o other (refl, refl, refl)

  is_number : (n : ℕ) → ◌≡◌ {A = Outcome} (Replies (Took number)) (Replies (Took n)) → n ≡ number
  is_number n e = cc

  committed : number < 1024 → P (commit net.site w v 0 effect, Replies (Took number))
  unfolding commit
  committed below = record {
    took = λ n e.
        let is = is_number n e in (
          is,
          subst (λ (k : ℕ). k < 1024) (sym is) below,
          subst (λ (k : ℕ). IsReplayed net w (commit net.site w v 0 effect) v (Block' link k (block_at (net.device link) k) ∷ [])) (sym is)
              (record { may = ((incident, refl, below), tt); durable = refl; frames = refl; wire = refl }),
        );
    otherwise = λ none. absurd (none number refl);
  }

  performed : number < 1024 → (environment : Environment) → P (perform net w v 0 environment effect)
  unfolding perform stopped
  performed below environment =
      by_test P (is_no_memory environment || not (list_all is_numbered effect.batch)) _ _ (λ x. refused (Replies Memory) (λ n e. cc))
      (λ x. by_test P (nat_lt journal_limit ((w.journal v).length' + added_len (w.journal v).version effect.batch)) _ _ (λ y. refused (Replies (JournalFull _ _)) (λ n e. cc))
      (λ y. by_test P (nat_lt 0 0 && (not (has_octets (net.entropy v) (w.drawn v + 0)) || is_entropy_fault environment)) _ _ (λ z. refused (Replies NoRandom) (λ n e. cc))
      (λ z. by_test P (is_io_fault environment && not (is_nil effect.batch)) _ _ (λ io. stays (stopped w v 0 effect) (Replies Stopped) (λ n e. cc) (refl, refl, refl)) (λ io. committed below))))

  resolved_block : number < 1024 → (environment : Environment) (full : Bool) →
      P (resolve net w v 0 environment (if full then Refuses LinkFull else Does effect))
  resolved_block below environment true = refused (Replies LinkFull) (λ n e. cc)
  resolved_block below environment false = performed below environment

  handled : number < 1024 → (environment : Environment) → P (handle net w v (Block link number (block_at (net.device link) number)) environment)
  unfolding handle decide random_need
  handled below environment =
      by_test P (w.up v) _ _ (λ up. resolved_block below environment (blocks_of (port_of (view_of net w v) link) == 1024)) (λ down. refused (Replies Down) (λ n e. cc))

  pub take_makes : (environment : Environment) → P (take_block net w v link environment)
  unfolding take_block
  take_makes environment =
      by_test P (not (w.up v)) _ _ (λ down. refused (Replies Down) (λ n e. cc))
      (λ up. by_test P (number == 1024) _ _ (λ full. refused (Replies LinkFull) (λ n e. cc))
      (λ not_full. by_test P (not (has_octets (net.device link) (1024 + 1024 * number))) _ _ (λ none. refused NoBlock (λ n e. cc))
      (λ there. by_test P (is_device_fault environment) _ _ (λ fault. refused DeviceFailed (λ n e. cc))
      (λ fine. handled (below_from number 1024 (r.conserved.few_blocks (outgoing_lane net.site v link)) not_full) environment))))
