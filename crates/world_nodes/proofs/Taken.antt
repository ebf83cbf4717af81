-- A node takes the next block of a link's device.
use Rattle.std.proofs.Common.{◌≡◌, ℕ, ◌+◌, ◌*◌, ◌<◌, Bool, true, false, not, ◌&&◌, List, [], ◌∷◌, length, refl, sym, ap, subst, ◌∙◌, arith}
use Rattle.std.specs.Prelude.{◌==◌, nat_lt, if◌then◌else◌}
use Rattle.std.proofs.lemmas.Bool.Decides.{nat_tests}
use Rattle.net_model.specs.declared.event.Event.{Event}
use Rattle.net_model.specs.declared.event.Event.TheVariants.{Block}
use Rattle.net_model.specs.declared.record.Record.TheVariants.{Block as Block'}
use Rattle.net_model.specs.declared.reply.Reply.{Reply}
use Rattle.net_model.specs.declared.reply.Reply.TheVariants as replies
use Rattle.net_model.specs.OctetSequence.{has_octets, block_at}
use Rattle.net_model.specs.Site.{is_incident}
use Rattle.net_model.specs.World.{Network, World}
use Rattle.net_model.specs.View.{port_of, blocks_of}
use Rattle.net_model.specs.Needed.{view_of}
use Rattle.net_model.specs.Decision.{Refuses, makes}
use Rattle.net_model.specs.Decide.{decide, random_need}
use Rattle.net_model.specs.Events.{is_valid_event}
use Rattle.net_model.specs.Handle.{blocks_at, perform, resolve, handle, take_block}
use Rattle.net_model.specs.Action.{Environment, OutOfMemory, EntropyFault, IoFault, DeviceFault, Outcome, Replies, NoBlock, DeviceFailed, TakeBlock, is_entropy_fault, is_io_fault, is_device_fault, is_shown, Ok as Fine}
use Rattle.net_model.specs.Step.{step, is_enabled, is_node, is_link}
use Rattle.law_base.proofs.Base.{and_left, and_right, and_both}
use Rattle.law_base.proofs.Octets.{length-octets_from}
use Rattle.law_recovery.proofs.Arriving.{block_goes}
use Rattle.law_recovery.proofs.Steps.{block_effect}
use Rattle.kme_store.specs.declared.post.Post.{Post}
use Rattle.world_nodes.specs.Stands.{PostStands}
use Rattle.world_nodes.specs.Handled.{BatchFits, ViewGoesOn, MayHandle, Handled}
use Rattle.world_nodes.specs.Blocks.{MayTake, MayPut, IsTaken}
use Rattle.world_nodes.specs.Counts.{Counts}
use Rattle.world_nodes.proofs.Counted.{post_disk, unchanged, spared, not_asked, none_taken}
use Rattle.world_nodes.proofs.Ports.{blocks_there}
use Rattle.disk_model.specs.declared.disk.Disk as Disk
use Rattle.source_devices.specs.declared.entropy.Entropy as Entropy

module _ (net : Network) (w : World) (v link : ℕ) where
  abbrev number : ℕ
  number = blocks_at net w v link

  abbrev bytes : List ℕ
  bytes = block_at (net.device link) number

  abbrev taken_by : Environment → Bool → Bool → Bool → World × Outcome
  taken_by environment up full there =
      if not up then (w, Replies replies.Down)
      else if full then (w, Replies replies.LinkFull)
      else if not there then (w, NoBlock)
      else if is_device_fault environment then (w, DeviceFailed)
      else handle net w v (Block link number bytes) environment

  takes : (environment : Environment) → step net w (TakeBlock v link environment) ≡ taken_by environment (w.up v) (number == 1024) (has_octets (net.device link) (1024 + 1024 * number))
  unfolding step take_block
  takes environment = refl

  pub says_down : w.up v ≡ false → step net w (TakeBlock v link Fine) ≡ (w, Replies replies.Down)
  says_down down = takes Fine ∙ ap (λ (t : Bool). taken_by Fine t (number == 1024) (has_octets (net.device link) (1024 + 1024 * number))) down

  pub says_full : w.up v ≡ true → (number == 1024) ≡ true → step net w (TakeBlock v link Fine) ≡ (w, Replies replies.LinkFull)
  says_full up full = takes Fine ∙ λ i. taken_by Fine (up i) (full i) (has_octets (net.device link) (1024 + 1024 * number))

  pub says_ended : w.up v ≡ true → (number == 1024) ≡ false → has_octets (net.device link) (1024 + 1024 * number) ≡ false → step net w (TakeBlock v link Fine) ≡ (w, NoBlock)
  says_ended up room none = takes Fine ∙ λ i. taken_by Fine (up i) (room i) (none i)

  pub says_failed : w.up v ≡ true → (number == 1024) ≡ false → has_octets (net.device link) (1024 + 1024 * number) ≡ true → step net w (TakeBlock v link DeviceFault) ≡ (w, DeviceFailed)
  says_failed up room there = takes DeviceFault ∙ λ i. taken_by DeviceFault (up i) (room i) (there i)

  says_handled : (environment : Environment) → is_device_fault environment ≡ false → w.up v ≡ true → (number == 1024) ≡ false → has_octets (net.device link) (1024 + 1024 * number) ≡ true →
      step net w (TakeBlock v link environment) ≡ handle net w v (Block link number bytes) environment
  says_handled environment fine up room there =
      takes environment ∙ (λ i. taken_by environment (up i) (room i) (there i))
      ∙ ap (λ (t : Bool). if t then (w, DeviceFailed) else handle net w v (Block link number bytes) environment) fine

  -- Without memory, nothing is taken.
  refused : w.up v ≡ true → (blocks_of (port_of (view_of net w v) link) == 1024) ≡ false → handle net w v (Block link number bytes) OutOfMemory ≡ (w, Replies replies.Memory)
  unfolding handle decide perform random_need
  refused up room =
      ap (λ (t : Bool). if t then resolve net w v 0 OutOfMemory
      (if blocks_of (port_of (view_of net w v) link) == 1024 then Refuses replies.LinkFull else makes (view_of net w v) (Block' link number bytes ∷ []) (replies.Took number)) else (w, Replies replies.Down)) up
      ∙ ap (λ (t : Bool). resolve net w v 0 OutOfMemory (if t then Refuses replies.LinkFull else makes (view_of net w v) (Block' link number bytes ∷ []) (replies.Took number))) room

  parts : is_enabled net w (TakeBlock v link Fine) ≡ true → ((is_node net v && is_link net link) && is_incident net.site v link) ≡ true
  unfolding is_enabled
  parts h = h

  pub incident : is_enabled net w (TakeBlock v link Fine) ≡ true → is_incident net.site v link ≡ true
  incident h = and_right (is_node net v && is_link net link) (is_incident net.site v link) (parts h)

  linked : is_enabled net w (TakeBlock v link Fine) ≡ true → is_link net link ≡ true
  linked h = and_right (is_node net v) (is_link net link) (and_left (is_node net v && is_link net link) (is_incident net.site v link) (parts h))

  pub below : is_enabled net w (TakeBlock v link Fine) ≡ true → link < net.site.links
  below h = let l : nat_lt link net.site.links ≡ true = linked h in grind (arith, nat_tests)

  enabled : is_enabled net w (TakeBlock v link Fine) ≡ true → (environment : Environment) → is_enabled net w (TakeBlock v link environment) ≡ true
  unfolding is_enabled
  enabled h environment = h

-- A reply is never a fault of the device.
of_reply : (environment : Environment) (reply : Reply) → is_shown environment (Replies reply) ≡ true → is_device_fault environment ≡ false
of_reply Fine reply h = refl
of_reply OutOfMemory reply h = refl
of_reply EntropyFault reply h = refl
of_reply IoFault reply h = refl
of_reply DeviceFault reply h = absurd (cc h)

shows_device : (outcome : Outcome) → is_shown DeviceFault outcome ≡ true → outcome ≡ DeviceFailed
shows_device DeviceFailed h = refl
shows_device _ h = absurd (cc h)

module _ {K E : Type 0} (disk_says : Disk.Ghosts K) (entropy_says : Entropy.Ghosts E) (net : Network) (w : World) (v : ℕ) (old : Post K E) (link up : ℕ)
    (m : MayTake disk_says entropy_says net w v old link up) where
  abbrev Taken : Post K E → Outcome → Type 0
  Taken new outcome = IsTaken disk_says entropy_says net w v link old new outcome

  is_taken : (environment : Environment) (new : Post K E) (w' : World) (outcome : Outcome) → step net w (TakeBlock v link environment) ≡ (w', outcome) → is_shown environment outcome ≡ true →
      (outcome ≡ DeviceFailed → environment ≡ DeviceFault) →
      PostStands disk_says entropy_says net w' v new → Counts disk_says entropy_says (is_io_fault environment) false old new → Taken new outcome
  is_taken environment new w' outcome is shown named stands counts = record {
    environment = environment;
    may = and_both (is_enabled net w (TakeBlock v link environment)) (is_shown environment (step net w (TakeBlock v link environment)).1) (enabled net w v link m.enabled environment)
        (ap (λ (x : World × Outcome). is_shown environment x.1) is ∙ shown);
    said = ap (λ (x : World × Outcome). x.1) is;
    stands = subst (λ (x : World × Outcome). PostStands disk_says entropy_says net x.0 v new) (sym is) stands;
    counts = counts;
    device = λ fault. shows_device outcome (ap (λ (e : Environment). is_shown e outcome) (sym fault) ∙ shown);
    no_device = named;
  }

  -- Nothing changed and no part failed.

  pub none_failed : Counts disk_says entropy_says false false old old
  none_failed = let d = post_disk disk_says net w v entropy_says old m.stands in unchanged disk_says entropy_says old d.0 d.1

  pub stays_fine : (outcome : Outcome) → step net w (TakeBlock v link Fine) ≡ (w, outcome) → (outcome ≡ DeviceFailed → ⊥) → Taken old outcome
  stays_fine outcome is other = is_taken Fine old w outcome is refl (λ failed. absurd (other failed)) m.stands none_failed

  pub stays_failed : step net w (TakeBlock v link DeviceFault) ≡ (w, DeviceFailed) → Taken old DeviceFailed
  stays_failed is = is_taken DeviceFault old w DeviceFailed is refl (λ failed. refl) m.stands none_failed

-- the block that is given to the manager

module _ {K E : Type 0} (disk_says : Disk.Ghosts K) (entropy_says : Entropy.Ghosts E) (net : Network) (w : World) (v : ℕ) (old : Post K E) (link number : ℕ) (block : List ℕ) (up : ℕ)
    (p : MayPut disk_says entropy_says net w v old link number block up) where
  abbrev now : ℕ
  now = blocks_at net w v link

  room : (now == 1024) ≡ false
  room = ap (λ (n : ℕ). n == 1024) (sym p.next) ∙ p.room

  there : has_octets (net.device link) (1024 + 1024 * now) ≡ true
  there = ap (λ (n : ℕ). has_octets (net.device link) (1024 + 1024 * n)) (sym p.next) ∙ p.there

  same : Block link number block ≡ Block link now (block_at (net.device link) now)
  same = λ i. Block link (p.next i) ((p.bytes ∙ ap (block_at (net.device link)) p.next) i)

  sized : length block ≡ 1024
  sized = ap length p.bytes ∙ length-octets_from (net.device link).octet (1024 * number) 1024

  valid : is_valid_event net.site v (Block link number block) ≡ true
  unfolding is_valid_event
  valid =
      let joins = incident net w v link p.may.enabled in
      let few = linked net w v link p.may.enabled in
      and_both (nat_lt link net.site.links && is_incident net.site v link) (length block == 1024) (and_both (nat_lt link net.site.links) (is_incident net.site v link) few joins)
      (ap (λ (n : ℕ). n == 1024) sized)

  as_block : MayHandle disk_says entropy_says net w v old (Block link number block) up
  as_block = record {
    running = p.may.running;
    stands = p.may.stands;
    valid = valid;
    goes = subst (ViewGoesOn net w v) (sym same) (λ octets e is numbered. block_goes net w v link p.may.running.conserved (incident net w v link p.may.enabled) room e octets is);
    fits = subst (BatchFits net w v) (sym same) (λ e is. (block_effect net w p.may.running.network p.may.running.conserved v link 0 (incident net w v link p.may.enabled) room e is).fits);
    links = p.may.links;
  }

  -- The manager may be given a copy of the block.
  pub may_handle : (copy : List ℕ) → copy ≡ block → MayHandle disk_says entropy_says net w v old (Block link number copy) up
  may_handle copy is = subst (λ (bs : List ℕ). MayHandle disk_says entropy_says net w v old (Block link number bs) up) (sym is) as_block

  pub put_handled : (new : Post K E) (reply : Reply) (copy : List ℕ) → copy ≡ block →
      Handled disk_says entropy_says net w v (Block link number copy) old new reply → IsTaken disk_says entropy_says net w v link old new (Replies reply)
  put_handled new reply copy copied h =
      let is = says_handled net w v link h.environment (of_reply h.environment reply h.shown) p.is_up room there
      ∙ ap (λ (x : Event). handle net w v x h.environment) (sym same ∙ sym (ap (λ (bs : List ℕ). Block link number bs) copied)) in
      let out : World × Outcome = handle net w v (Block link number copy) h.environment in
      is_taken disk_says entropy_says net w v old link up p.may h.environment new out.0 (Replies reply) (is ∙ λ i. (out.0, h.said i)) h.shown (λ failed. absurd (cc failed)) h.stands
      (spared disk_says entropy_says (is_io_fault h.environment) (is_entropy_fault h.environment) false old new
      (not_asked h.environment (random_need (view_of net w v) (Block link number copy)) (none_taken (view_of net w v) link number copy) h.entropy_asked) h.counts)

  pub put_wanting : IsTaken disk_says entropy_says net w v link old old (Replies replies.Memory)
  put_wanting =
      let seen = blocks_there net w v link (incident net w v link p.may.enabled) (below net w v link p.may.enabled) in
      is_taken disk_says entropy_says net w v old link up p.may OutOfMemory old w (Replies replies.Memory)
      (says_handled net w v link OutOfMemory refl p.is_up room there ∙ refused net w v link p.is_up (ap (λ (n : ℕ). n == 1024) seen ∙ room)) refl (λ failed. absurd (cc failed)) p.may.stands
      (none_failed disk_says entropy_says net w v old link up p.may)
