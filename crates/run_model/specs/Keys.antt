-- What the headline says of keys and of lane bytes. All of it follows, for every run, from the invariant.
use Rattle.std.specs.Prelude.{◌≡◌, ◌⊎◌, ℕ, ◌+◌, ◌≤◌, ◌<◌, true, false, List, ◌∷◌, ◌++◌, length, map, take, drop, slice_get, Some}
use Rattle.std.specs.List.{list_all}
use Rattle.qkd_base.specs.Name.{Name, has}
use Rattle.qkd_base.specs.Route.{first_of, last_of}
use Rattle.qkd_base.specs.declared.lane.Lane.{Lane}
use Rattle.net_model.specs.declared.event.Event.{Event}
use Rattle.net_model.specs.declared.event.Event.TheVariants.{Enc, EncGroup, Show}
use Rattle.net_model.specs.declared.fact.Fact.{Fact}
use Rattle.net_model.specs.declared.held.Held.{Held}
use Rattle.net_model.specs.declared.reply.Reply.TheVariants.{Handed, Shown}
use Rattle.net_model.specs.Item.{need}
use Rattle.net_model.specs.Table.{bytes_of, route_of, fact_at, is_secret, was_handed, sae_at}
use Rattle.net_model.specs.Site.{Site}
use Rattle.net_model.specs.World.{Network, World, Allocation, Frame}
use Rattle.net_model.specs.Journal.{added_len, journal_limit}
use Rattle.net_model.specs.Needed.{view_of}
use Rattle.net_model.specs.Pools.{pool, hand_to}
use Rattle.net_model.specs.Groups.{group}
use Rattle.net_model.specs.Ledger.{ledger}
use Rattle.net_model.specs.Drawn.{IsDrawn}
use Rattle.net_model.specs.Handings.{PairsDiffer, KnowsStored}
use Rattle.net_model.specs.Action.{Ask, Outcome, Replies, Environment, is_io_fault, is_no_memory}
use Rattle.net_model.specs.Step.{step}
use Rattle.net_model.specs.Deliveries.{Delivery, of_step, is_of_name, IsTrueDelivery, pairs_of, IsWithin}
use Rattle.net_model.specs.Invariant.{Conserved}
use Rattle.run_model.specs.Course.{Course, whole_run, world_after, last_world, handed_out}

-- ---- requests that succeed

-- The request can be answered. The manager is up, the application is at home there, and the pool has the n names. In
-- this event the disk doesn't fail, memory doesn't run out, and the journal has room.
pub record MaySucceed (net : Network) (w : World) (v : ℕ) (environment : Environment) (ns : List Name) (m n : ℕ) : Type 0 where
  pub up : w.up v ≡ true
  pub home : net.site.home m ≡ v
  pub enough : length ns ≡ n
  pub disk : is_io_fault environment ≡ false
  pub memory : is_no_memory environment ≡ false
  pub room : (w.journal v).length' + added_len (w.journal v).version (hand_to m ns) ≤ journal_limit

-- the answer is exactly these keys, in order, each with its bytes
pub record Answers (w : World) (m : ℕ) (ns : List Name) (outcome : Outcome) : Type 0 where
  pub keys : List (Name × List ℕ)
  pub is : outcome ≡ Replies (Handed keys)
  pub names : map (λ (k : Name × List ℕ). k.0) keys ≡ ns
  pub bytes : (i : ℕ) (k : Name × List ℕ) → slice_get keys i ≡ Some k → IsTrueDelivery w.durable.facts (record { name = k.0; sae = m; bytes = k.1 })

-- ---- entitled applications

-- the node knows the target's Stored note about each fact of this name
abbrev pub AreConfirmed : List Fact → List Name → Name → Type 0
AreConfirmed facts known n = (m : Name) (f : Fact) → fact_at facts m ≡ Some f → is_of_name n f ≡ true → KnowsStored facts known m

-- The application may have the key of this name: the key's or chunk's own fact, or a part of the group key, is for it.
-- That fact is for an allowed pair, the key's master and slave, the source and peer of the chunk's stream, or the
-- group's master and one slave, and goes from the home of the first to that of the last. The application is one of the
-- two, and its home knows the fact. If it is the first, each fact of the name is also confirmed there.
pub record IsEntitled (s : Site) (facts : List Fact) (known : ℕ → List Name) (n : Name) (sae : ℕ) : Type 0 where
  pub name : Name
  pub fact : Fact
  pub there : fact_at facts name ≡ Some fact
  pub is : is_of_name n fact ≡ true
  pub first : ℕ
  pub last : ℕ
  pub is_first : sae_at facts true fact ≡ Some first
  pub is_last : sae_at facts false fact ≡ Some last
  pub allowed : s.allowed first last ≡ true
  pub from : first_of (route_of fact) ≡ s.home first
  pub to : last_of (route_of fact) ≡ s.home last
  pub one : ((first ≡ sae) × AreConfirmed facts (known (s.home sae)) n) ⊎ (last ≡ sae)
  pub knows : has (known (s.home sae)) name ≡ true

-- the frame covers lane byte x
abbrev pub Covers : World → Allocation → ℕ → Type 0
Covers w a x = (a.offset ≤ x) × (x < a.offset + need w.durable.facts a.item)

-- The bytes are those of the key, chunk or part of this name, or of the parts of the group key of this name.
pub record AreBytesOf (facts : List Fact) (n : Name) (bytes : List ℕ) : Type 0 where
  pub name : Name
  pub fact : Fact
  pub there : fact_at facts name ≡ Some fact
  pub is_secret : is_secret fact ≡ true
  pub is : (name ≡ n) ⊎ (is_of_name n fact ≡ true)
  pub bytes_are : bytes ≡ bytes_of fact

pub record KeysAndBytes (c : Course) : Type 0 where
  -- all bytes that are handed out under one name are those of the name
  pub equal : (n : ℕ) (d : Delivery) → slice_get (handed_out c) n ≡ Some d → IsTrueDelivery (last_world c).durable.facts d
  -- the bytes of each key are octets that the entropy of its origin gave
  pub drawn : (n : Name) (f : Fact) → fact_at (last_world c).durable.facts n ≡ Some f → is_secret f ≡ true → IsDrawn c.net (last_world c) f
  -- if an operator is shown bytes of a name, they are those of the name, too
  pub shown : (n v : ℕ) (name : Name) (environment : Environment) (held : Held) (b : ℕ) (bytes : List ℕ) →
      slice_get (whole_run c) n ≡ Some (Ask v (Show name) environment) →
      (step c.net (world_after c n) (Ask v (Show name) environment)).1 ≡ Replies (Shown held (b ∷ bytes)) →
      AreBytesOf (last_world c).durable.facts name (b ∷ bytes)
  -- no key is handed to the same application twice, nor to one that had it before the course began
  pub once : PairsDiffer (c.begin.durable.handed ++ pairs_of (handed_out c))
  -- each handing is marked, in order, behind the earlier ones
  pub marked : IsWithin (pairs_of (handed_out c)) (drop (length c.begin.durable.handed) (last_world c).durable.handed)
  -- keys are handed out only where their applications are at home
  pub at_home : (k v i : ℕ) (event : Event) (environment : Environment) (d : Delivery) → slice_get (whole_run c) k ≡ Some (Ask v event environment) →
      slice_get (of_step c.net (world_after c k) (Ask v event environment) (step c.net (world_after c k) (Ask v event environment)).1) i ≡ Some d → c.net.site.home d.sae ≡ v
  -- keys are handed only to applications that are entitled to them
  pub entitled : (name : Name) (sae : ℕ) → was_handed (pairs_of (handed_out c)) name sae ≡ true → IsEntitled c.net.site (last_world c).durable.facts (last_world c).durable.known name sae
  -- no lane byte masks two different frames: two frames of a wire that cover the same byte are the same frame
  pub masks_one : (l : Lane) (m n i j x : ℕ) (a b : Allocation) → slice_get ((last_world c).wire l) m ≡ Some i → slice_get ((last_world c).wire l) n ≡ Some j →
      slice_get ((last_world c).frames l) i ≡ Some a → slice_get ((last_world c).frames l) j ≡ Some b →
      Covers (last_world c) a x → Covers (last_world c) b x → i ≡ j
  -- the hash key masks nothing
  pub hash_key : (l : Lane) (j x : ℕ) (a : Allocation) → slice_get ((last_world c).frames l) j ≡ Some a → Covers (last_world c) a x → 8 ≤ x
  -- after every action, each byte that a lane's sender received is unused, spent or burnt
  pub received : (n : ℕ) (l : Lane) → (ledger (world_after c n) l).received ≡
      (ledger (world_after c n) l).unused + (ledger (world_after c n) l).spent + (ledger (world_after c n) l).burnt
  -- a byte that a frame covers is spent by this frame alone
  pub one_place : (l : Lane) (j x : ℕ) (a : Allocation) → slice_get ((last_world c).frames l) j ≡ Some a → Covers (last_world c) a x →
      slice_get ((last_world c).durable.own l) x ≡ Some (Frame j)
  -- the frames of a course cover only bytes behind those that were leased before it began, and below the leased ends
  pub apart : (l : Lane) (j x : ℕ) (a : Allocation) → slice_get ((last_world c).frames l) j ≡ Some a → Covers (last_world c) a x →
      (c.begin.durable.lease l ≤ x) × (x < (last_world c).durable.lease l)
  -- a master that asks for keys gets the first ones of its pool, if the pool has enough
  pub succeeds : (k v m s n bits : ℕ) (environment : Environment) → slice_get (whole_run c) k ≡ Some (Ask v (Enc m s n bits) environment) →
      c.net.site.allowed m s ≡ true →
      MaySucceed c.net (world_after c k) v environment (take n (pool (view_of c.net (world_after c k) v) m s bits)) m n →
      Answers (world_after c k) m (take n (pool (view_of c.net (world_after c k) v) m s bits)) (step c.net (world_after c k) (Ask v (Enc m s n bits) environment)).1
  -- a master that asks for group keys gets the first ready ones, if there are enough
  pub group_succeeds : (k v m n bits : ℕ) (slaves : List ℕ) (environment : Environment) →
      slice_get (whole_run c) k ≡ Some (Ask v (EncGroup m slaves n bits) environment) → list_all (λ s. c.net.site.allowed m s) slaves ≡ true →
      MaySucceed c.net (world_after c k) v environment (take n (group (view_of c.net (world_after c k) v) m slaves bits)) m n →
      Answers (world_after c k) m (take n (group (view_of c.net (world_after c k) v) m slaves bits))
      (step c.net (world_after c k) (Ask v (EncGroup m slaves n bits) environment)).1
  -- the invariant holds after every action
  pub conserved : (n : ℕ) → Conserved c.net (world_after c n)
