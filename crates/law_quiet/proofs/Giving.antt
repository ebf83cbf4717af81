-- After silent settles where all is up, every fact has arrived, and masters and slaves get their keys.
use Rattle.std.proofs.Common.{◌≡◌, ℕ, ◌*◌, ◌<◌, ◌≤◌, Bool, true, false, ◌&&◌, List, length, take, refl, sym, ◌∙◌, ap, subst, arith, Some, [], ◌∷◌}
use Rattle.std.specs.Prelude.{◌==◌}
use Rattle.std.specs.List.{list_all}
use Rattle.qkd_base.specs.Name.{Name, has}
use Rattle.net_model.specs.declared.event.Event.TheVariants.{Enc, Dec, EncGroup}
use Rattle.net_model.specs.declared.fact.Fact.{Fact}
use Rattle.net_model.specs.declared.fact.Fact.TheVariants.{Key}
use Rattle.net_model.specs.Table.{fact_at, is_secret, was_handed, target}
use Rattle.net_model.specs.Pools.{is_key_of, hand_to, pool, unhanded}
use Rattle.net_model.specs.Groups.{unhanded_group, group}
use Rattle.net_model.specs.Premises.{IsAllowed, IsNetwork}
use Rattle.net_model.specs.Knowledge.{AllDiffer, IsEntitled}
use Rattle.net_model.specs.World.{Network, World}
use Rattle.net_model.specs.Needed.{view_of}
use Rattle.net_model.specs.Action.{Ok}
use Rattle.net_model.specs.Handle.{handle}
use Rattle.run_model.specs.Turn.{HttpTexts}
use Rattle.law_base.proofs.Base.{eq_from, and_left, and_right}
use Rattle.law_safety.specs.Known.{KnowsFor}
use Rattle.law_safety.specs.Room.{HasRoomAt}
use Rattle.law_safety.specs.Truth.{IsAnswered}
use Rattle.law_safety.proofs.Success.{enc_succeeds, dec_succeeds, enc_group_succeeds}
use Rattle.law_quiet.specs.Chains.{IsAllUp}
use Rattle.law_quiet.specs.Delivered.{IsDelivered, IsBack}
use Rattle.law_quiet.specs.Settled.{IsKeyOf}
use Rattle.law_quiet.proofs.ChainedSteps.{chain_of}
use Rattle.law_quiet.proofs.Chains.{all_open}
use Rattle.law_quiet.proofs.FullPools.{full}
use Rattle.law_quiet.proofs.GroupReadiness.{groups_full}
use Rattle.law_quiet.proofs.Quieting.{calm4, arrives, returns}
use Rattle.law_quiet.proofs.Readiness.{is_known}
use Rattle.law_quiet.proofs.Rounds.{IsCalm}
use Rattle.law_quiet.proofs.Settles.{IsRest}

key_secret : (m t bits : ℕ) (f : Fact) → is_key_of m t bits (Some f) ≡ true → is_secret f ≡ true
key_secret m t bits (Key name master slave route bytes) h = refl
key_secret m t bits _ h = cc

key_target : (net : Network) (facts : List Fact) (m t bits : ℕ) (f : Fact) → is_key_of m t bits (Some f) ≡ true → IsEntitled net.site facts f → target f ≡ net.site.home t
key_target net facts m t bits (Key name master slave route bytes) h pair =
    let is : slave ≡ t = eq_from slave t (and_right (master == m) (slave == t) (and_left ((master == m) && (slave == t)) (8 * length bytes == bits) h)) in
    pair.to ∙ ap net.site.home is
key_target net facts m t bits _ h pair = cc

module _ (http : HttpTexts) (net : Network) (workers : ℕ) (network : IsNetwork net) (w after : World) (r : IsRest http net workers w after 4) (up : IsAllUp net w) where
  calm : IsCalm net w after
  calm = calm4 net network w after r.start.conserved r.start.quiet r.start.awaits r.rounds

  before : (n : Name) (f : Fact) → fact_at after.durable.facts n ≡ Some f → fact_at w.durable.facts n ≡ Some f
  before n f there = ap (λ (facts : List Fact). fact_at facts n) (sym calm.table.facts) ∙ there

  pub all_arrive : (n : Name) (f : Fact) → fact_at after.durable.facts n ≡ Some f → IsDelivered after n f
  all_arrive n f there =
      arrives net network w after r.start.conserved r.start.quiet r.start.awaits r.rounds n f (before n f there)
      (all_open net network w up f (chain_of net w r.start.chained n f (before n f there)))

  pub all_return : (n : Name) (f : Fact) → fact_at after.durable.facts n ≡ Some f → is_secret f ≡ true → IsBack net after n f
  all_return n f there secret =
      returns net network w after r.start.conserved r.start.quiet r.start.awaits r.rounds r.start.noted.table n f (before n f there) secret
      (all_open net network w up f (chain_of net w r.start.chained n f (before n f there)))

  up_after : (v : ℕ) → v < net.site.nodes → after.up v ≡ true
  up_after v here = ap (λ (f : ℕ → Bool). f v) calm.up ∙ up.nodes v here

  module _ (m t : ℕ) (allowed : net.site.allowed m t ≡ true) where
    pair : IsAllowed net.site m t
    pair = network.site.pairs m t allowed

    pub pool_full : (bits : ℕ) → length (pool (view_of net after (net.site.home m)) m t bits) ≡ unhanded (view_of net after (net.site.home m)) m t bits
    pool_full bits = full net after calm.conserved (net.site.home m) m t bits refl (λ n f there key. all_return n f there (key_secret m t bits f key))

    pub gives : (n bits : ℕ) → n ≤ unhanded (view_of net after (net.site.home m)) m t bits →
        HasRoomAt after (net.site.home m) (hand_to m (take n (pool (view_of net after (net.site.home m)) m t bits))) →
        IsAnswered after.durable.facts m (take n (pool (view_of net after (net.site.home m)) m t bits)) (handle net after (net.site.home m) (Enc m t n bits) Ok).1
    gives n bits few room =
        let enough = pool_full bits in
        enc_succeeds net after (net.site.home m) m t n bits calm.conserved (up_after (net.site.home m) pair.first_home) allowed refl (omega (arith, few, enough)) room

    knows : (n : Name) → IsKeyOf after m t n → KnowsFor after.durable.facts (after.durable.known (net.site.home t)) m t n
    knows n k =
        let there = (calm.conserved.now.table n k.fact k.there).entitled in
        subst (λ (u : ℕ). KnowsFor after.durable.facts (after.durable.known u) m t n) (key_target net after.durable.facts m t k.bits k.fact k.key there)
        (is_known net after calm.conserved n k.fact m t k.bits k.there k.key (all_arrive n k.fact k.there))

    pub hands : (names : List Name) → AllDiffer names → ((n : Name) → has names n ≡ true → IsKeyOf after m t n) →
        ((n : Name) → has names n ≡ true → was_handed after.durable.handed n t ≡ false) → HasRoomAt after (net.site.home t) (hand_to t names) →
        IsAnswered after.durable.facts t names (handle net after (net.site.home t) (Dec t m names) Ok).1
    hands names differ keys free room =
        dec_succeeds net after (net.site.home t) t m names network calm.conserved (up_after (net.site.home t) pair.last_home) allowed refl differ (λ n on. knows n (keys n on)) free room

  -- Group keys.

  module _ (m : ℕ) (slaves : List ℕ) (bits : ℕ) where
    pub groups_are_full : length (group (view_of net after (net.site.home m)) m slaves bits) ≡ unhanded_group (view_of net after (net.site.home m)) m slaves bits
    groups_are_full = groups_full net after calm.conserved (net.site.home m) m slaves bits all_return

    master_node : (ts : List ℕ) → list_all (λ t. net.site.allowed m t) ts ≡ true → 0 < length ts → net.site.home m < net.site.nodes
    master_node [] allowed some = absurd (omega (arith, some))
    master_node (t ∷ ts) allowed some = (network.site.pairs m t (and_left (net.site.allowed m t) _ allowed)).first_home

    pub gives_groups : (n : ℕ) → list_all (λ t. net.site.allowed m t) slaves ≡ true → 0 < length slaves → n ≤ unhanded_group (view_of net after (net.site.home m)) m slaves bits →
        HasRoomAt after (net.site.home m) (hand_to m (take n (group (view_of net after (net.site.home m)) m slaves bits))) →
        IsAnswered after.durable.facts m (take n (group (view_of net after (net.site.home m)) m slaves bits)) (handle net after (net.site.home m) (EncGroup m slaves n bits) Ok).1
    gives_groups n allowed some few room =
        let enough = groups_are_full in
        enc_group_succeeds net after (net.site.home m) m slaves n bits calm.conserved (up_after (net.site.home m) (master_node slaves allowed some)) refl allowed some (omega (arith, few, enough)) room
