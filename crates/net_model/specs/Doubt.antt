-- The premises of a batch in doubt. Each of its records may be made in the world as it is, whatever other managers do
-- in the meantime.
use Rattle.std.specs.Prelude.{◌≡◌, ◌≢◌, ℕ, ◌<◌, ◌≤◌, true, false, List, [], ◌∷◌, Some, None, ◌⊎◌}
use Rattle.qkd_base.specs.Name.{Name, IsName, has}
use Rattle.qkd_base.specs.declared.lane.Lane.{Lane}
use Rattle.net_model.specs.declared.fact.Fact.{Fact}
use Rattle.net_model.specs.declared.fact.Fact.TheVariants.{Stored}
use Rattle.net_model.specs.declared.record.Record.{Record}
use Rattle.net_model.specs.declared.record.Record.TheVariants.{Block, Lease, Learned, Acked, Handed, Closed, Bare}
use Rattle.net_model.specs.Facts.{IsWellFormedFact}
use Rattle.net_model.specs.Ranges.{IsRangedFact}
use Rattle.net_model.specs.Table.{PartOf, part_of, name_of, route_of, origin, fact_at, has_fact, facts_of, is_stored_about, was_handed}
use Rattle.net_model.specs.Site.{Site, sender, is_incident, outgoing_lane}
use Rattle.net_model.specs.Streams.{is_chunk_at}
use Rattle.net_model.specs.World.{Durable, received}
use Rattle.net_model.specs.Records.{apply_record}
use Rattle.net_model.specs.Knowledge.{IsEntitled, IsOn, PredecessorKnows, IsAdjacent, IsTargetOf, chunks_known}
use Rattle.net_model.specs.Handings.{MayHave}

-- a fact of the table that the node before this one on the route knows
pub record MayBeReceived (facts : List Fact) (known : ℕ → List Name) (v : ℕ) (f : Fact) : Type 0 where
  pub there : fact_at facts (name_of f) ≡ Some f
  pub on : IsOn (route_of f) v
  pub source : PredecessorKnows known v (name_of f) (route_of f)

abbrev pub NoStoredBy : ℕ → List Fact → Name → Type 0
NoStoredBy v facts n = (m : Name) (f : Fact) → fact_at facts m ≡ Some f → m.node ≡ v → is_stored_about n f ≡ false

abbrev pub MayNote : List Fact → (ℕ → List Name) → ℕ → Fact → Type 0
MayNote facts known v (Stored note about route) = IsTargetOf v (fact_at facts about) × (has (known v) about ≡ true) × NoStoredBy v facts about
MayNote facts known v _ = Unit {0}

-- A new part, compared with the facts that its node made. Its group key's name is one of the node's own names, and no
-- fact has it. Other parts of this key have the same bytes and the same master, and other slaves.
pub record IsPartAmong (facts : List Fact) (v : ℕ) (f : Fact) (p : PartOf) : Type 0 where
  pub mine : p.key.node ≡ v
  pub name : IsName p.key
  pub free : has_fact facts p.key ≡ false
  pub apart : p.key ≢ name_of f
  pub bytes : (m : Name) (g : Fact) (q : PartOf) → m.node ≡ v → fact_at facts m ≡ Some g → part_of g ≡ Some q → q.key ≡ p.key → q.bytes ≡ p.bytes
  pub master : (m : Name) (g : Fact) (q : PartOf) → m.node ≡ v → fact_at facts m ≡ Some g → part_of g ≡ Some q → q.key ≡ p.key → q.master ≡ p.master
  pub slave : (m : Name) (g : Fact) (q : PartOf) → m.node ≡ v → fact_at facts m ≡ Some g → part_of g ≡ Some q → q.key ≡ p.key → q.slave ≢ p.slave

-- a new fact that this node makes
pub record MayBeMade (s : Site) (facts : List Fact) (known : ℕ → List Name) (handed : List (Name × ℕ)) (v : ℕ) (f : Fact) : Type 0 where
  pub formed : IsWellFormedFact f
  pub ranged : IsRangedFact f
  pub free : fact_at facts (name_of f) ≡ None
  pub mine : (name_of f).node ≡ v
  pub starts : origin f ≡ v
  pub on : IsOn (route_of f) v
  pub entitled : IsEntitled s facts f
  pub note : MayNote facts known v f
  -- no group key of this node has the fact's name
  pub unused : (m : Name) (g : Fact) (p : PartOf) → m.node ≡ v → fact_at facts m ≡ Some g → part_of g ≡ Some p → p.key ≢ name_of f
  -- a chunk has the next index of its stream
  pub next : (stream : Name) (index : ℕ) → is_chunk_at stream index f ≡ true → index ≡ chunks_known facts (known v) stream
  pub part : (p : PartOf) → part_of f ≡ Some p → IsPartAmong facts v f p
  -- no part is added to a group key that was handed out here
  pub unhanded : (p : PartOf) → part_of f ≡ Some p → (sae : ℕ) → s.home sae ≡ v → was_handed handed p.key sae ≡ false

-- how many blocks the node's end of a link took
abbrev pub blocks_of_end : Site → Durable → ℕ → ℕ → ℕ
blocks_of_end s d v link = d.blocks (outgoing_lane s v link)

abbrev pub MayApply : Site → Durable → ℕ → Record → Type 0
MayApply s d v (Block link number bytes) = (is_incident s v link ≡ true) × (number ≡ blocks_of_end s d v link) × (number < 1024)
MayApply s d v (Lease lane end) = (sender s lane ≡ v) × (d.lease lane ≤ end) × (end ≤ received d lane)
MayApply s d v (Learned f) = (has (d.known v) (name_of f) ≡ false) × (MayBeReceived d.facts d.known v f ⊎ MayBeMade s d.facts d.known d.handed v f)
MayApply s d v (Acked n) = (u : ℕ) × IsAdjacent d.facts d.known u v u n
MayApply s d v (Handed n sae) = (s.home sae ≡ v) × (was_handed d.handed n sae ≡ false) × MayHave s d.facts d.known n sae
MayApply s d v (Closed n sae) = Unit {0}
MayApply s d v (Bare f) = ⊥

abbrev pub MayReplay : Site → Durable → ℕ → List Record → Type 0
MayReplay s d v [] = Unit {0}
MayReplay s d v (r ∷ rs) = MayApply s d v r × MayReplay s (apply_record s v r d) v rs

-- The table and what nodes know only grow. What belongs to node v is unchanged.
pub record ExtendsOf (s : Site) (v : ℕ) (facts facts' : List Fact) (known known' : ℕ → List Name) (handed handed' : List (Name × ℕ))
    (lease lease' blocks blocks' : Lane → ℕ) : Type 0 where
  pub grows : (n : Name) (f : Fact) → fact_at facts n ≡ Some f → fact_at facts' n ≡ Some f
  pub mine : (n : Name) → n.node ≡ v → fact_at facts' n ≡ fact_at facts n
  pub more : (u : ℕ) (n : Name) → has (known u) n ≡ true → has (known' u) n ≡ true
  pub here : known' v ≡ known v
  pub seen : facts_of facts' (known' v) ≡ facts_of facts (known v)
  pub hands : (n : Name) (sae : ℕ) → s.home sae ≡ v → was_handed handed' n sae ≡ was_handed handed n sae
  pub leases : (l : Lane) → sender s l ≡ v → lease' l ≡ lease l
  pub taken : (l : Lane) → sender s l ≡ v → blocks' l ≡ blocks l

abbrev pub Extends : Site → ℕ → Durable → Durable → Type 0
Extends s v a b = ExtendsOf s v a.facts b.facts a.known b.known a.handed b.handed a.lease b.lease a.blocks b.blocks
