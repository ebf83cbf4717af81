-- The view that a journal gives back has its blocks, leases, facts and marks in an order in which they may be
-- recorded, whatever records the journal has.
use Rattle.std.proofs.Common.{◌≡◌, ℕ, ◌+◌, ◌<◌, ◌≤◌, Bool, true, false, not, ◌&&◌, List, [], ◌∷◌, ◌++◌, length, length-append, refl, sym, ◌∙◌, ap, subst, arith, map}
use Rattle.std.specs.Prelude.{if◌then◌else◌, ◌==◌, nat_lt, nat_le}
use Rattle.std.specs.List.{list_any, AllByRecursion}
use Rattle.std.proofs.lemmas.List.{map-append}
use Rattle.std.proofs.lemmas.List.Folds.{list_any-append}
use Rattle.std.proofs.lemmas.Bool.Decides.{nat_tests}
use Rattle.qkd_base.specs.Name.{Name, name_eq}
use Rattle.qkd_base.specs.Lane.{lane_eq}
use Rattle.qkd_base.specs.LaneBytes.{lane_len}
use Rattle.qkd_base.specs.declared.lane.Way.{Way}
use Rattle.qkd_base.specs.declared.lane.Way.TheVariants.{Up, Down}
use Rattle.qkd_base.specs.declared.lane.Lane.{Lane}
use Rattle.net_model.specs.declared.fact.Fact.{Fact}
use Rattle.net_model.specs.declared.fact.Fact.TheVariants.{Key, Chunk, Stored, Open, Joined, Part}
use Rattle.net_model.specs.declared.record.Record.{Record}
use Rattle.net_model.specs.declared.record.Record.TheVariants.{Block, Lease, Learned, Acked, Handed, Closed, Bare}
use Rattle.net_model.specs.Table.{name_of, has_fact, learned, was_handed}
use Rattle.net_model.specs.Site.{Site, outgoing_lanes}
use Rattle.net_model.specs.Records.{keyed_lease}
use Rattle.net_model.specs.View.{View, Port, received_of}
use Rattle.net_model.specs.Needed.{is_owed, masked, masked_fact}
use Rattle.net_model.specs.Fold.{with_block, with_lease, owes, is_handed_by, is_stream_of, marked, view_record, view_records, view_batch, view_restarted, empty_port, empty_view, view_batches, recovered_view}
use Rattle.law_base.proofs.Base.{eq_from, and_left, and_right, and_both, or_left}
use Rattle.law_base.proofs.Masked.{IsBlind, masked_same, name_blind, any_masked}
use Rattle.law_recovery.proofs.Shapes.{knowing, has_same, masked_shapes, owed_blind}
use Rattle.law_recovery.proofs.Ends.{is_here, handed_blind}
use Rattle.law_recovery.proofs.Starting.{at_lease}
use Rattle.law_recovery.proofs.Accumulating.{Accumulates, one_after, accumulates_still}
use Rattle.law_recovery.proofs.Restarting.{block_added}

-- Lemmas on ports.

-- The port has at most 1,024 blocks, and its lease is between the hash key and the bytes received.
pub record IsPort (p : Port) : Type 0 where
  pub few : length p.blocks ≤ 1024
  pub leased : p.lease ≤ received_of p
  pub key : 0 < received_of p → 8 ≤ p.lease

pub more_received : (way : Way) (n : ℕ) → lane_len way n ≤ lane_len way (n + 1)
more_received Up n = omega arith
more_received Down n = omega arith

pub key_received : (way : Way) (n : ℕ) → 0 < lane_len way n → 8 ≤ lane_len way n
key_received Up n h = omega arith
key_received Down n h = omega arith

keyed_fits : (before after lease : ℕ) → before ≤ after → (0 < after → 8 ≤ after) → lease ≤ before → keyed_lease before after lease ≤ after
keyed_fits before after lease more whole fits =
    elim (before == 0) as (λ t. (if t && nat_lt 0 after then 8 else lease) ≤ after) [
      | false ↦ omega arith
      | true ↦ elim (nat_lt 0 after) as (λ t. nat_lt 0 after ≡ t → (if t then 8 else lease) ≤ after) [
        | true ↦ λ e. let some : 0 < after = grind (arith, nat_tests) in whole some
        | false ↦ λ e. omega arith
      ] refl
    ]

keyed_has : (before after lease : ℕ) → (0 < before → 8 ≤ lease) → 0 < after → 8 ≤ keyed_lease before after lease
keyed_has before after lease key some =
    elim (before == 0) as (λ t. (before == 0) ≡ t → 8 ≤ (if t && nat_lt 0 after then 8 else lease)) [
      | false ↦ λ e. let had : 0 < before = grind (arith, nat_tests) in key had
      | true ↦ λ e. elim (nat_lt 0 after) as (λ t. nat_lt 0 after ≡ t → 8 ≤ (if t then 8 else lease)) [
        | true ↦ λ k. omega arith
        | false ↦ λ k. let none : after ≤ 0 = grind (arith, nat_tests) in absurd (omega arith)
      ] refl
    ] refl

added_port : (number : ℕ) (bytes : List ℕ) (p : Port) → number ≡ length p.blocks → number < 1024 → IsPort p → IsPort (block_added number bytes p)
added_port number bytes p is low h =
    let count : length (p.blocks ++ bytes ∷ []) ≡ length p.blocks + 1 = length-append p.blocks (bytes ∷ []) in
    let next : lane_len p.lane.way (length (p.blocks ++ bytes ∷ [])) ≡ lane_len p.lane.way (number + 1) =
    ap (lane_len p.lane.way) count ∙ ap (λ (n : ℕ). lane_len p.lane.way (n + 1)) (sym is) in
    let more : received_of p ≤ lane_len p.lane.way (number + 1) =
    subst (λ (n : ℕ). received_of p ≤ lane_len p.lane.way (n + 1)) (sym is) (more_received p.lane.way (length p.blocks)) in
    record {
      few = omega arith;
      leased = subst (λ (n : ℕ). keyed_lease (received_of p) (lane_len p.lane.way (number + 1)) p.lease ≤ n) (sym next)
          (keyed_fits (received_of p) (lane_len p.lane.way (number + 1)) p.lease more (key_received p.lane.way (number + 1)) h.leased);
      key = λ some. keyed_has (received_of p) (lane_len p.lane.way (number + 1)) p.lease h.key (subst (λ (n : ℕ). 0 < n) next some);
    }

block_port : (link number : ℕ) (bytes : List ℕ) (p : Port) → IsPort p → IsPort (with_block link number bytes p)
block_port link number bytes p h =
    elim ((p.lane.link == link) && (number == length p.blocks) && nat_lt number 1024) as (λ t.
    ((p.lane.link == link) && (number == length p.blocks) && nat_lt number 1024) ≡ t → IsPort (if t then block_added number bytes p else p)) [
      | false ↦ λ e. h
      | true ↦ λ e.
          let prefix = and_left ((p.lane.link == link) && (number == length p.blocks)) (nat_lt number 1024) e in
          let last = and_right ((p.lane.link == link) && (number == length p.blocks)) (nat_lt number 1024) e in
          let low : number < 1024 = grind (arith, nat_tests) in
          added_port number bytes p (eq_from number (length p.blocks) (and_right (p.lane.link == link) (number == length p.blocks) prefix)) low h
    ] refl

lease_port : (l : Lane) (end : ℕ) (p : Port) → IsPort p → IsPort (with_lease l end p)
lease_port l end p h =
    elim (lane_eq p.lane l && nat_le p.lease end && nat_le end (received_of p)) as (λ t.
    (lane_eq p.lane l && nat_le p.lease end && nat_le end (received_of p)) ≡ t → IsPort (if t then record p { lease = end } else p)) [
      | false ↦ λ e. h
      | true ↦ λ e.
          let prefix = and_right (lane_eq p.lane l) (nat_le p.lease end) (and_left (lane_eq p.lane l && nat_le p.lease end) (nat_le end (received_of p)) e) in
          let last = and_right (lane_eq p.lane l && nat_le p.lease end) (nat_le end (received_of p)) e in
          let above : p.lease ≤ end = grind (arith, nat_tests) in
          let below : end ≤ received_of p = grind (arith, nat_tests) in
          record { few = h.few; leased = below; key = λ some. let had = h.key some in omega arith }
    ] refl

ports_kept : (f : Port → Port) → ((p : Port) → IsPort p → IsPort (f p)) → (ps : List Port) → AllByRecursion IsPort ps → AllByRecursion IsPort (map f ps)
ports_kept f keeps [] h = tt
ports_kept f keeps (p ∷ ps) h = (keeps p h.0, ports_kept f keeps ps h.1)

abbrev pub lane_at : Port → Lane
lane_at p = p.lane

pub lanes_kept : (f : Port → Port) → ((p : Port) → (f p).lane ≡ p.lane) → (ps : List Port) → map lane_at (map f ps) ≡ map lane_at ps
lanes_kept f keeps [] = refl
lanes_kept f keeps (p ∷ ps) = let one = keeps p in let rest = lanes_kept f keeps ps in λ i. one i ∷ rest i

pub block_lane : (link number : ℕ) (bytes : List ℕ) (p : Port) → (with_block link number bytes p).lane ≡ p.lane
block_lane link number bytes p =
    elim ((p.lane.link == link) && (number == length p.blocks) && nat_lt number 1024) as (λ t. (if t then block_added number bytes p else p).lane ≡ p.lane) [ true ↦ refl | false ↦ refl ]

pub lease_lane : (l : Lane) (end : ℕ) (p : Port) → (with_lease l end p).lane ≡ p.lane
lease_lane l end p =
    elim (lane_eq p.lane l && nat_le p.lease end && nat_le end (received_of p)) as (λ t. (if t then record p { lease = end } else p).lane ≡ p.lane) [ true ↦ refl | false ↦ refl ]

-- Lemmas on facts and marks.

abbrev pub new_fact : List Fact → Fact → Bool
new_fact facts f = not (has_fact facts (name_of f))

abbrev pub may_ack : ℕ → List Fact → List Name → Name → Bool
may_ack me facts acked n = owes (knowing me facts acked []) n

abbrev pub may_hand : ℕ → List Fact → List (Name × ℕ) → Name × ℕ → Bool
may_hand me facts handed h = list_any (λ f. is_here me f && is_handed_by h.0 h.1 f) facts && not (was_handed handed h.0 h.1)

abbrev pub may_close : ℕ → List Fact → List (Name × ℕ) → Name × ℕ → Bool
may_close me facts closed h = list_any (λ f. is_here me f && is_stream_of h.0 f) facts && not (was_handed closed h.0 h.1)

pub record AreKept (me : ℕ) (facts : List Fact) (acked : List Name) (handed closed : List (Name × ℕ)) : Type 0 where
  pub names : Accumulates new_fact [] facts
  pub acks : Accumulates (may_ack me facts) [] acked
  pub hands : Accumulates (may_hand me facts) [] handed
  pub closes : Accumulates (may_close me facts) [] closed

any_more : (p : Fact → Bool) (fs gs : List Fact) → list_any p fs ≡ true → list_any p (fs ++ gs) ≡ true
any_more p fs gs h = list_any-append p fs gs ∙ or_left (list_any p fs) (list_any p gs) h

first_still : (a b c : Bool) → (a ≡ true → b ≡ true) → (a && c) ≡ true → (b && c) ≡ true
first_still a b c h k = and_both b c (h (and_left a c k)) (and_right a c k)

ack_blind : (v : View) (n : Name) → IsBlind (λ f. name_eq (name_of f) n && is_owed v f)
ack_blind v n f = let name = name_blind f in let owed = owed_blind v f in λ i. name_eq (name i) n && owed i

stream_blind : (me : ℕ) (n : Name) → IsBlind (λ f. is_here me f && is_stream_of n f)
stream_blind me n (Key name master slave route bytes) = refl
stream_blind me n (Chunk name stream index route bytes) = refl
stream_blind me n (Stored note about route) = refl
stream_blind me n (Open stream source peer size route) = refl
stream_blind me n (Joined note about route) = refl
stream_blind me n (Part name key master slave route bytes) = refl

masked_names : (b : View) (done facts : List Fact) → Accumulates new_fact done facts → Accumulates new_fact (map (masked_fact b) done) (map (masked_fact b) facts)
masked_names b done [] h = tt
masked_names b done (f ∷ facts) h = (
  ap (λ (n : Name). not (has_fact (map (masked_fact b) done) n)) (masked_same name_of name_blind b f) ∙
      ap not (has_same (name_of f) (map (masked_fact b) done) done (masked_shapes b done)) ∙ h.0,
  subst (λ (fs : List Fact). Accumulates new_fact fs (map (masked_fact b) facts)) (map-append (masked_fact b) done (f ∷ [])) (masked_names b (done ++ f ∷ []) facts h.1),
)

module _ (me : ℕ) (facts : List Fact) (acked : List Name) (handed closed : List (Name × ℕ)) (h : AreKept me facts acked handed closed) where
  -- The lists after more facts, if these pass each test.
  with_facts : (facts' : List Fact) → Accumulates new_fact [] facts' → ((ns : List Name) (n : Name) → may_ack me facts ns n ≡ true → may_ack me facts' ns n ≡ true) →
      ((n : Name) (sae : ℕ) → list_any (λ f. is_here me f && is_handed_by n sae f) facts ≡ true → list_any (λ f. is_here me f && is_handed_by n sae f) facts' ≡ true) →
      ((n : Name) → list_any (λ f. is_here me f && is_stream_of n f) facts ≡ true → list_any (λ f. is_here me f && is_stream_of n f) facts' ≡ true) →
      AreKept me facts' acked handed closed
  with_facts facts' names owed handings streams = record {
    names = names;
    acks = accumulates_still (may_ack me facts) (may_ack me facts') owed [] acked h.acks;
    hands = accumulates_still (may_hand me facts) (may_hand me facts') (λ done x k. first_still _ _ _ (handings x.0 x.1) k) [] handed h.hands;
    closes = accumulates_still (may_close me facts) (may_close me facts') (λ done x k. first_still _ _ _ (streams x.0) k) [] closed h.closes;
  }

  learned_kept : (f : Fact) → AreKept me (learned facts f) acked handed closed
  learned_kept f = elim (has_fact facts (name_of f)) as (λ t. has_fact facts (name_of f) ≡ t → AreKept me (if t then facts else facts ++ f ∷ []) acked handed closed) [
    | true ↦ λ e. h
    | false ↦ λ e. with_facts (facts ++ f ∷ []) (one_after new_fact [] facts f h.names (ap not e)) (λ ns n k. any_more _ facts (f ∷ []) k) (λ n sae k. any_more _ facts (f ∷ []) k)
        (λ n k. any_more _ facts (f ∷ []) k)
  ] refl

  masked_kept : (b : View) → AreKept me (map (masked_fact b) facts) acked handed closed
  masked_kept b = with_facts (map (masked_fact b) facts) (masked_names b [] facts h.names)
      (λ ns n k. any_masked b facts (λ f. name_eq (name_of f) n && is_owed (knowing me facts ns []) f) (ack_blind (knowing me facts ns []) n) ∙ k)
      (λ n sae k. any_masked b facts (λ f. is_here me f && is_handed_by n sae f) (handed_blind me n sae) ∙ k)
      (λ n k. any_masked b facts (λ f. is_here me f && is_stream_of n f) (stream_blind me n) ∙ k)

  acked_kept : (n : Name) → may_ack me facts acked n ≡ true → AreKept me facts (acked ++ n ∷ []) handed closed
  acked_kept n e = record { names = h.names; acks = one_after (may_ack me facts) [] acked n h.acks e; hands = h.hands; closes = h.closes }

  handed_kept : (n : Name) (sae : ℕ) → list_any (λ f. is_here me f && is_handed_by n sae f) facts ≡ true → AreKept me facts acked (marked handed n sae) closed
  handed_kept n sae e = elim (was_handed handed n sae) as (λ t. was_handed handed n sae ≡ t → AreKept me facts acked (if t then handed else handed ++ (n, sae) ∷ []) closed) [
    | true ↦ λ k. h
    | false ↦ λ k. record {
      names = h.names;
      acks = h.acks;
      hands = one_after (may_hand me facts) [] handed (n, sae) h.hands (and_both _ (not (was_handed handed n sae)) e (ap not k));
      closes = h.closes;
    }
  ] refl

  closed_kept : (n : Name) (sae : ℕ) → list_any (λ f. is_here me f && is_stream_of n f) facts ≡ true → AreKept me facts acked handed (marked closed n sae)
  closed_kept n sae e = elim (was_handed closed n sae) as (λ t. was_handed closed n sae ≡ t → AreKept me facts acked handed (if t then closed else closed ++ (n, sae) ∷ [])) [
    | true ↦ λ k. h
    | false ↦ λ k. record {
      names = h.names;
      acks = h.acks;
      hands = h.hands;
      closes = one_after (may_close me facts) [] closed (n, sae) h.closes (and_both _ (not (was_handed closed n sae)) e (ap not k));
    }
  ] refl

-- Lemmas on views.

pub record IsKept (site : Site) (node : ℕ) (v : View) : Type 0 where
  pub me : v.me ≡ node
  pub lanes : map lane_at v.ports ≡ outgoing_lanes site node
  pub ports : AllByRecursion IsPort v.ports
  pub lists : AreKept v.me v.facts v.acked v.handed v.closed

either_kept : (P : View → Type 0) (t : Bool) (a b : View) → (t ≡ true → P a) → P b → P (if t then a else b)
either_kept P true a b h k = h refl
either_kept P false a b h k = k

module _ (site : Site) (node : ℕ) where
  with_ports : (v : View) (f : Port → Port) → ((p : Port) → IsPort p → IsPort (f p)) → ((p : Port) → (f p).lane ≡ p.lane) → IsKept site node v → IsKept site node (record v { ports = map f v.ports })
  with_ports v f keeps same h =
      record { me = h.me; lanes = lanes_kept f same v.ports ∙ h.lanes; ports = ports_kept f keeps v.ports h.ports; lists = h.lists }

  record_kept : (r : Record) (v : View) → IsKept site node v → IsKept site node (view_record r v)
  unfolding view_record
  record_kept (Block link number bytes) v h = with_ports v (with_block link number bytes) (block_port link number bytes) (block_lane link number bytes) h
  record_kept (Lease l end) v h = with_ports v (with_lease l end) (lease_port l end) (lease_lane l end) h
  record_kept (Learned f) v h =
      record { me = h.me; lanes = h.lanes; ports = h.ports; lists = learned_kept v.me v.facts v.acked v.handed v.closed h.lists f }
  record_kept (Acked n) v h = either_kept (IsKept site node) (owes v n) (record v { acked = v.acked ++ n ∷ [] }) v
      (λ e. record { me = h.me; lanes = h.lanes; ports = h.ports; lists = acked_kept v.me v.facts v.acked v.handed v.closed h.lists n e }) h
  record_kept (Handed n sae) v h = either_kept (IsKept site node) (list_any (λ f. is_here v.me f && is_handed_by n sae f) v.facts) (record v { handed = marked v.handed n sae }) v
      (λ e. record { me = h.me; lanes = h.lanes; ports = h.ports; lists = handed_kept v.me v.facts v.acked v.handed v.closed h.lists n sae e }) h
  record_kept (Closed n sae) v h = either_kept (IsKept site node) (list_any (λ f. is_here v.me f && is_stream_of n f) v.facts) (record v { closed = marked v.closed n sae }) v
      (λ e. record { me = h.me; lanes = h.lanes; ports = h.ports; lists = closed_kept v.me v.facts v.acked v.handed v.closed h.lists n sae e }) h
  record_kept (Bare f) v h =
      record { me = h.me; lanes = h.lanes; ports = h.ports; lists = learned_kept v.me v.facts v.acked v.handed v.closed h.lists f }

  records_kept : (rs : List Record) (v : View) → IsKept site node v → IsKept site node (view_records rs v)
  unfolding view_records
  records_kept [] v h = h
  records_kept (r ∷ rs) v h = records_kept rs (view_record r v) (record_kept r v h)

  batch_kept : (batch : List Record) (v : View) → IsKept site node v → IsKept site node (view_batch v batch)
  unfolding masked
  batch_kept batch v h =
      let next : View = view_records batch v in
      let k : IsKept site node next = records_kept batch v h in
      record { me = k.me; lanes = k.lanes; ports = k.ports; lists = masked_kept next.me next.facts next.acked next.handed next.closed k.lists next }

  batches_kept : (batches : List (List Record)) (v : View) → IsKept site node v → IsKept site node (view_batches v batches)
  batches_kept [] v h = h
  batches_kept (b ∷ batches) v h = batches_kept batches (view_batch v b) (batch_kept b v h)

  restarted_kept : (v : View) → IsKept site node v → IsKept site node (view_restarted v)
  unfolding view_restarted
  restarted_kept v h =
      let k = with_ports v at_lease (λ p port. record { few = port.few; leased = port.leased; key = port.key }) (λ p. refl) h in
      record { me = k.me; lanes = k.lanes; ports = k.ports; lists = k.lists }

  empty_lanes : (ls : List Lane) → map lane_at (map empty_port ls) ≡ ls
  empty_lanes [] = refl
  empty_lanes (l ∷ ls) = let rest = empty_lanes ls in λ i. l ∷ rest i

  nothing_received : (way : Way) → lane_len way 0 ≡ 0
  nothing_received Up = refl
  nothing_received Down = refl

  empty_ports : (ls : List Lane) → AllByRecursion IsPort (map empty_port ls)
  empty_ports [] = tt
  empty_ports (l ∷ ls) =
      let none = nothing_received l.way in (record { few = omega arith; leased = omega arith; key = λ some. absurd (omega arith) }, empty_ports ls)

  empty_kept : IsKept site node (empty_view site node)
  empty_kept = record {
    me = refl;
    lanes = empty_lanes (outgoing_lanes site node);
    ports = empty_ports (outgoing_lanes site node);
    lists = record { names = tt; acks = tt; hands = tt; closes = tt };
  }

  pub recovered_kept : (batches : List (List Record)) → IsKept site node (recovered_view site node batches)
  unfolding recovered_view
  recovered_kept batches =
      restarted_kept (view_batches (empty_view site node) batches) (batches_kept batches (empty_view site node) empty_kept)
