-- The first records of a checkpoint build the node's ports: the blocks and the lease of each.
use Rattle.std.proofs.Common.{◌≡◌, ℕ, ◌+◌, ◌<◌, ◌≤◌, Bool, true, false, cond, ◌&&◌, ◌||◌, List, [], ◌∷◌, ◌++◌, length, length-append, append-nil, append_assoc, refl, sym, ◌∙◌, ap, subst, arith, map}
use Rattle.std.specs.Prelude.{if◌then◌else◌, ◌==◌, nat_lt, nat_le, filter}
use Rattle.std.specs.List.{list_any, flat_map, AllByRecursion}
use Rattle.std.proofs.lemmas.Bool.Decides.{nat_tests}
use Rattle.qkd_base.specs.Lane.{way_eq, lane_eq}
use Rattle.qkd_base.specs.LaneBytes.{lane_len}
use Rattle.qkd_base.specs.declared.lane.Way.{Way}
use Rattle.qkd_base.specs.declared.lane.Way.TheVariants.{Up, Down}
use Rattle.qkd_base.specs.declared.lane.Lane.{Lane}
use Rattle.net_model.specs.declared.record.Record.{Record}
use Rattle.net_model.specs.declared.record.Record.TheVariants.{Block, Lease}
use Rattle.net_model.specs.Site.{Site, lane_of, is_incident, outgoing_lane, outgoing_lanes, count_up}
use Rattle.net_model.specs.Records.{keyed_lease}
use Rattle.net_model.specs.Journal.{block_records, lease_records}
use Rattle.net_model.specs.View.{View, Port, received_of}
use Rattle.net_model.specs.Needed.{masked}
use Rattle.net_model.specs.Fold.{with_block, with_lease, view_record, view_records, empty_port, empty_view}
use Rattle.law_base.proofs.Base.{eq_from, eq_same, and_both, or_first, or_second, when_true, lane_same}
use Rattle.law_invariant.proofs.Outgoing.{LinksDiffer, links_differ}
use Rattle.law_recovery.proofs.Starting.{at_lease}
use Rattle.law_recovery.proofs.Accumulating.{StaysMasked}
use Rattle.law_recovery.proofs.Restarting.{block_added}
use Rattle.law_recovery.proofs.Kept.{IsPort, more_received, lane_at}

-- What a record does to one port.

abbrev on_port : Record → Port → Port
on_port (Block link number bytes) p = with_block link number bytes p
on_port (Lease l end) p = with_lease l end p
on_port _ p = p

abbrev pub on_ports : List Record → Port → Port
on_ports [] p = p
on_ports (r ∷ rs) p = on_ports rs (on_port r p)

ports_then : (rs more : List Record) (p : Port) → on_ports (rs ++ more) p ≡ on_ports more (on_ports rs p)
ports_then [] more p = refl
ports_then (r ∷ rs) more p = ports_then rs more (on_port r p)

all_then : (rs more : List Record) (ps : List Port) → map (on_ports (rs ++ more)) ps ≡ map (on_ports more) (map (on_ports rs) ps)
all_then rs more [] = refl
all_then rs more (p ∷ ps) = let one = ports_then rs more p in let rest = all_then rs more ps in λ i. one i ∷ rest i

-- All records are blocks and leases.
abbrev pub ArePorts : List Record → Type 0
ArePorts [] = Unit {0}
ArePorts (Block link number bytes ∷ rs) = ArePorts rs
ArePorts (Lease l end ∷ rs) = ArePorts rs
ArePorts (_ ∷ rs) = ⊥

both_ports : (rs more : List Record) → ArePorts rs → ArePorts more → ArePorts (rs ++ more)
both_ports [] more h k = k
both_ports (Block link number bytes ∷ rs) more h k = both_ports rs more h k
both_ports (Lease l end ∷ rs) more h k = both_ports rs more h k
both_ports (_ ∷ rs) more h k = absurd h

all_ports : (spelled : Port → List Record) → ((p : Port) → ArePorts (spelled p)) → (ps : List Port) → ArePorts (flat_map spelled ps)
all_ports spelled each [] = tt
all_ports spelled each (p ∷ ps) = both_ports (spelled p) (flat_map spelled ps) (each p) (all_ports spelled each ps)

blocks_are : (link number : ℕ) (bs : List (List ℕ)) → ArePorts (block_records link number bs)
blocks_are link number [] = tt
blocks_are link number (b ∷ bs) = blocks_are link (number + 1) bs

leases_are : (p : Port) → ArePorts (lease_records p)
leases_are p = elim (nat_lt 8 p.lease) as (λ t. ArePorts (if t then Lease p.lane p.lease ∷ [] else [])) [ true ↦ tt | false ↦ tt ]

map_same : (ps : List Port) → map (on_ports []) ps ≡ ps
map_same [] = refl
map_same (p ∷ ps) = let rest = map_same ps in λ i. p ∷ rest i

map_one : (r : Record) (rs : List Record) (ps : List Port) → map (on_ports rs) (map (on_port r) ps) ≡ map (on_ports (r ∷ rs)) ps
map_one r rs [] = refl
map_one r rs (p ∷ ps) = let rest = map_one r rs ps in λ i. on_ports rs (on_port r p) ∷ rest i

module _ (site : Site) (me : ℕ) where
  abbrev pub ports_alone : List Port → View
  ports_alone ps = record (empty_view site me) { ports = ps }

  ports_go : (rs : List Record) → ArePorts rs → (ps : List Port) → view_records rs (ports_alone ps) ≡ ports_alone (map (on_ports rs) ps)
  unfolding view_records view_record
  ports_go [] h ps = ap ports_alone (sym (map_same ps))
  ports_go (Block link number bytes ∷ rs) h ps = ports_go rs h (map (with_block link number bytes) ps) ∙ ap ports_alone (map_one (Block link number bytes) rs ps)
  ports_go (Lease l end ∷ rs) h ps = ports_go rs h (map (with_lease l end) ps) ∙ ap ports_alone (map_one (Lease l end) rs ps)
  ports_go (_ ∷ rs) h ps = absurd h

  ports_masked : (rs : List Record) → ArePorts rs → (ps : List Port) → StaysMasked rs (ports_alone ps)
  unfolding masked view_record
  ports_masked [] h ps = refl
  ports_masked (Block link number bytes ∷ rs) h ps = (refl, ports_masked rs h (map (with_block link number bytes) ps))
  ports_masked (Lease l end ∷ rs) h ps = (refl, ports_masked rs h (map (with_lease l end) ps))
  ports_masked (_ ∷ rs) h ps = absurd h

-- The records of one port after those of another, where neither changes the other's port.

abbrev link_at : Port → ℕ
link_at p = p.lane.link

eq_back : (a b : ℕ) → (a == b) ≡ false → (b == a) ≡ false
eq_back a b h = grind (arith, nat_tests)

module _ (spelled : Port → List Record) (f g : Port → Port) (f_lane : (p : Port) → (f p).lane ≡ p.lane) (g_lane : (p : Port) → (g p).lane ≡ p.lane)
    (other : (p q : Port) → (q.lane.link == p.lane.link) ≡ false → on_ports (spelled p) q ≡ q) (one : (p : Port) → IsPort p → on_ports (spelled p) (f p) ≡ g p) where
  unseen : (q : Port) (ps : List Port) → list_any (λ y. y == q.lane.link) (map link_at ps) ≡ false → on_ports (flat_map spelled ps) q ≡ q
  unseen q [] h = refl
  unseen q (p ∷ ps) h =
      let apart = eq_back p.lane.link q.lane.link (or_first (p.lane.link == q.lane.link) (list_any (λ y. y == q.lane.link) (map link_at ps)) h) in
      ports_then (spelled p) (flat_map spelled ps) q ∙ ap (on_ports (flat_map spelled ps)) (other p q apart) ∙
      unseen q ps (or_second (p.lane.link == q.lane.link) (list_any (λ y. y == q.lane.link) (map link_at ps)) h)

  skipped : (p : Port) (more : List Record) (ps : List Port) → list_any (λ y. y == p.lane.link) (map link_at ps) ≡ false →
      map (on_ports (spelled p ++ more)) (map f ps) ≡ map (on_ports more) (map f ps)
  skipped p more [] h = refl
  skipped p more (q ∷ ps) h =
      let apart = or_first (q.lane.link == p.lane.link) (list_any (λ y. y == p.lane.link) (map link_at ps)) h in
      let at : ((f q).lane.link == p.lane.link) ≡ false = ap (λ (l : Lane). l.link == p.lane.link) (f_lane q) ∙ apart in
      let first = ports_then (spelled p) more (f q) ∙ ap (on_ports more) (other p (f q) at) in
      let rest = skipped p more ps (or_second (q.lane.link == p.lane.link) (list_any (λ y. y == p.lane.link) (map link_at ps)) h) in
      λ i. first i ∷ rest i

  pub all_spelled : (ps : List Port) → LinksDiffer (map link_at ps) → AllByRecursion IsPort ps → map (on_ports (flat_map spelled ps)) (map f ps) ≡ map g ps
  all_spelled [] d h = refl
  all_spelled (p ∷ ps) d h =
      let apart : list_any (λ y. y == (g p).lane.link) (map link_at ps) ≡ false = ap (λ (l : Lane). list_any (λ y. y == l.link) (map link_at ps)) (g_lane p) ∙ d.0 in
      let first = ports_then (spelled p) (flat_map spelled ps) (f p) ∙ ap (on_ports (flat_map spelled ps)) (one p h.0) ∙ unseen (g p) ps apart in
      let rest = skipped p (flat_map spelled ps) ps d.0 ∙ all_spelled ps d.1 h.1 in
      λ i. first i ∷ rest i

-- Lemmas on blocks of bytes.

abbrev first_lease : ℕ → ℕ
first_lease received = if nat_lt 0 received then 8 else 0

-- A port that received these blocks. The first one brought the hash key.
abbrev built : Lane → List (List ℕ) → Port
built l bs =
    record { lane = l; blocks = bs; lease = first_lease (lane_len l.way (length bs)); planned = first_lease (lane_len l.way (length bs)); recovered = 0 }

keyed_next : (before after : ℕ) → before ≤ after → keyed_lease before after (first_lease before) ≡ first_lease after
keyed_next before after more =
    elim (before == 0) as (λ t. (before == 0) ≡ t → (if t && nat_lt 0 after then 8 else first_lease before) ≡ first_lease after) [
      | true ↦ λ e. let none : before ≡ 0 = eq_from before 0 e in ap (λ (n : ℕ). if nat_lt 0 after then 8 else first_lease n) none
      | false ↦ λ e.
          let some : nat_lt 0 before ≡ true = grind (arith, nat_tests) in
          let then' : nat_lt 0 after ≡ true = grind (arith, nat_tests) in
          ap (λ (t : Bool). if t then 8 else 0) (some ∙ sym then')
    ] refl

block_built : (l : Lane) (done : List (List ℕ)) (b : List ℕ) (number : ℕ) → number ≡ length done → number < 1024 →
    with_block l.link number b (built l done) ≡ built l (done ++ b ∷ [])
block_built l done b number is low =
    let at : (number == length done) ≡ true = ap (λ (n : ℕ). number == n) (sym is) ∙ eq_same number in
    let few : nat_lt number 1024 ≡ true = grind (arith, nat_tests) in
    let test : ((l.link == l.link) && (number == length done) && nat_lt number 1024) ≡ true =
    and_both ((l.link == l.link) && (number == length done)) (nat_lt number 1024) (and_both (l.link == l.link) (number == length done) (eq_same l.link) at) few in
    let count : number + 1 ≡ length (done ++ b ∷ []) = omega (arith, length-append done (b ∷ [])) in
    let more : lane_len l.way (length done) ≤ lane_len l.way (number + 1) =
    subst (λ (n : ℕ). lane_len l.way (length done) ≤ lane_len l.way (n + 1)) (sym is) (more_received l.way (length done)) in
    let lease = keyed_next (lane_len l.way (length done)) (lane_len l.way (number + 1)) more ∙ ap (λ (n : ℕ). first_lease (lane_len l.way n)) count in
    when_true ((l.link == l.link) && (number == length done) && nat_lt number 1024) (block_added number b (built l done)) (built l done) test ∙
    (λ i. record { lane = l; blocks = done ++ b ∷ []; lease = lease i; planned = lease i; recovered = 0 })

blocks_built : (l : Lane) (done bs : List (List ℕ)) (number : ℕ) → number ≡ length done → number + length bs ≤ 1024 →
    on_ports (block_records l.link number bs) (built l done) ≡ built l (done ++ bs)
blocks_built l done [] number is few = ap (built l) (sym (append-nil done))
blocks_built l done (b ∷ bs) number is few =
    let count : number + 1 ≡ length (done ++ b ∷ []) = omega (arith, length-append done (b ∷ [])) in
    ap (on_ports (block_records l.link (number + 1) bs)) (block_built l done b number is (omega arith)) ∙
    blocks_built l (done ++ b ∷ []) bs (number + 1) count (omega arith) ∙ ap (built l) (append_assoc done (b ∷ []) bs)

blocks_other : (link : ℕ) (q : Port) → (q.lane.link == link) ≡ false → (bs : List (List ℕ)) (number : ℕ) → on_ports (block_records link number bs) q ≡ q
blocks_other link q apart [] number = refl
blocks_other link q apart (b ∷ bs) number =
    ap (λ (t : Bool). on_ports (block_records link (number + 1) bs) (if t && (number == length q.blocks) && nat_lt number 1024 then block_added number b q else q)) apart ∙
    blocks_other link q apart bs (number + 1)

-- Lemmas on leases.

abbrev pub leased : Port → Port
leased p = record (built p.lane p.blocks) { lease = p.lease }

lease_built : (p : Port) → IsPort p → on_ports (lease_records p) (built p.lane p.blocks) ≡ leased p
lease_built p h =
    elim (nat_lt 8 p.lease) as (λ t. nat_lt 8 p.lease ≡ t → on_ports (if t then Lease p.lane p.lease ∷ [] else []) (built p.lane p.blocks) ≡ leased p) [
      | true ↦ λ e.
          let above : nat_le (first_lease (received_of p)) p.lease ≡ true =
          elim (nat_lt 0 (received_of p)) as (λ t. nat_le (if t then 8 else 0) p.lease ≡ true) [ true ↦ grind (arith, nat_tests) | false ↦ grind (arith, nat_tests) ] in
          let fits = h.leased in
          let below : nat_le p.lease (received_of p) ≡ true = grind (arith, nat_tests) in
          when_true (lane_eq p.lane p.lane && nat_le (first_lease (received_of p)) p.lease && nat_le p.lease (received_of p)) (leased p) (built p.lane p.blocks)
          (and_both (lane_eq p.lane p.lane && nat_le (first_lease (received_of p)) p.lease) (nat_le p.lease (received_of p))
          (and_both (lane_eq p.lane p.lane) (nat_le (first_lease (received_of p)) p.lease) (lane_same p.lane) above) below)
      | false ↦ λ e.
          let few : p.lease ≤ 8 = grind (arith, nat_tests) in
          let same : first_lease (received_of p) ≡ p.lease =
          elim (nat_lt 0 (received_of p)) as (λ t. nat_lt 0 (received_of p) ≡ t → (if t then 8 else 0) ≡ p.lease) [
            | true ↦ λ k. let some : 0 < received_of p = grind (arith, nat_tests) in let had = h.key some in omega arith
            | false ↦ λ k. let none : received_of p ≤ 0 = grind (arith, nat_tests) in let had = h.leased in omega arith
          ] refl in
          λ i. record (built p.lane p.blocks) { lease = same i }
    ] refl

lease_other : (p q : Port) → (q.lane.link == p.lane.link) ≡ false → on_ports (lease_records p) q ≡ q
lease_other p q apart =
    elim (nat_lt 8 p.lease) as (λ t. on_ports (if t then Lease p.lane p.lease ∷ [] else []) q ≡ q) [
      | true ↦ ap (λ (t : Bool). if t && way_eq q.lane.way p.lane.way && nat_le q.lease p.lease && nat_le p.lease (received_of q) then record q { lease = p.lease } else q) apart
      | false ↦ refl
    ]

-- The ports of a node belong to different links.

any_fewer : (p : ℕ → Bool) (x : ℕ) (xs : List ℕ) → list_any (λ y. y == x) xs ≡ false → list_any (λ y. y == x) (filter p xs) ≡ false
any_fewer p x [] h = refl
any_fewer p x (y ∷ xs) h =
    let rest = any_fewer p x xs (or_second (y == x) (list_any (λ z. z == x) xs) h) in
    elim (p y) as (λ t. list_any (λ z. z == x) (cond t (y ∷ filter p xs) (filter p xs)) ≡ false) [
      | true ↦ ap (λ (t : Bool). t || list_any (λ z. z == x) (filter p xs)) (or_first (y == x) (list_any (λ z. z == x) xs) h) ∙ rest
      | false ↦ rest
    ]

fewer_differ : (p : ℕ → Bool) (xs : List ℕ) → LinksDiffer xs → LinksDiffer (filter p xs)
fewer_differ p [] h = tt
fewer_differ p (x ∷ xs) h = elim (p x) as (λ t. LinksDiffer (cond t (x ∷ filter p xs) (filter p xs))) [
  | true ↦ (any_fewer p x xs h.0, fewer_differ p xs h.1)
  | false ↦ fewer_differ p xs h.1
]

links_of : (s : Site) (v : ℕ) (xs : List ℕ) → map (λ (l : Lane). l.link) (map (outgoing_lane s v) xs) ≡ xs
links_of s v [] = refl
links_of s v (x ∷ xs) = let rest = links_of s v xs in λ i. x ∷ rest i

links_at : (ps : List Port) → map (λ (l : Lane). l.link) (map lane_at ps) ≡ map link_at ps
links_at [] = refl
links_at (p ∷ ps) = let rest = links_at ps in λ i. p.lane.link ∷ rest i

ports_differ : (s : Site) (v : ℕ) (ps : List Port) → map lane_at ps ≡ outgoing_lanes s v → LinksDiffer (map link_at ps)
unfolding outgoing_lanes
ports_differ s v ps h =
    let links = sym (links_of s v (filter (is_incident s v) (count_up s.links))) ∙ ap (map (λ (l : Lane). l.link)) (sym h) ∙ links_at ps in
    subst LinksDiffer links (fewer_differ (is_incident s v) (count_up s.links) (links_differ s.links))

-- Lemmas on all blocks and leases together.

abbrev pub port_records : List Port → List Record
port_records ps = flat_map (λ (p : Port). block_records p.lane.link 0 p.blocks) ps ++ flat_map lease_records ps

port_records_are : (ps : List Port) → ArePorts (port_records ps)
port_records_are ps =
    both_ports (flat_map (λ (p : Port). block_records p.lane.link 0 p.blocks) ps) (flat_map lease_records ps)
    (all_ports (λ (p : Port). block_records p.lane.link 0 p.blocks) (λ p. blocks_are p.lane.link 0 p.blocks) ps) (all_ports lease_records leases_are ps)

nothing_built : (l : Lane) → empty_port l ≡ built l []
nothing_built l = by_way l.way l.link
  where
    by_way : (d : Way) (link : ℕ) → empty_port (lane_of link d) ≡ built (lane_of link d) []
    by_way Up link = refl
    by_way Down link = refl

all_empty : (ps : List Port) → map empty_port (map lane_at ps) ≡ map (λ (p : Port). built p.lane []) ps
all_empty [] = refl
all_empty (p ∷ ps) = let one = nothing_built p.lane in let rest = all_empty ps in λ i. one i ∷ rest i

-- What a start makes of the ports that received them.
pub leased_lease : (ps : List Port) → map at_lease (map leased ps) ≡ map at_lease ps
leased_lease [] = refl
leased_lease (p ∷ ps) = let rest = leased_lease ps in λ i. at_lease p ∷ rest i

module _ (site : Site) (me : ℕ) (ps : List Port) (lanes : map lane_at ps ≡ outgoing_lanes site me) (ok : AllByRecursion IsPort ps) where
  pub all_spelled_ports : view_records (port_records ps) (empty_view site me) ≡ ports_alone site me (map leased ps)
  all_spelled_ports =
      let differ = ports_differ site me ps lanes in
      let blocks : List Record = flat_map (λ (p : Port). block_records p.lane.link 0 p.blocks) ps in
      let taken : map (on_ports blocks) (map (λ (p : Port). built p.lane []) ps) ≡ map (λ (p : Port). built p.lane p.blocks) ps =
      all_spelled (λ (p : Port). block_records p.lane.link 0 p.blocks) (λ (p : Port). built p.lane []) (λ (p : Port). built p.lane p.blocks) (λ p. refl) (λ p. refl)
      (λ p q apart. blocks_other p.lane.link q apart p.blocks 0) (λ p h. let few = h.few in blocks_built p.lane [] p.blocks 0 refl (omega arith)) ps differ ok in
      let rest : map (on_ports (flat_map lease_records ps)) (map (λ (p : Port). built p.lane p.blocks) ps) ≡ map leased ps =
      all_spelled lease_records (λ (p : Port). built p.lane p.blocks) leased (λ p. refl) (λ p. refl) lease_other lease_built ps differ ok in
      let start : empty_view site me ≡ ports_alone site me (map (λ (p : Port). built p.lane []) ps) = ap (ports_alone site me) (ap (map empty_port) (sym lanes) ∙ all_empty ps) in
      ap (view_records (port_records ps)) start ∙
      ports_go site me (port_records ps) (port_records_are ps) (map (λ (p : Port). built p.lane []) ps) ∙
      ap (ports_alone site me) (all_then blocks (flat_map lease_records ps) (map (λ (p : Port). built p.lane []) ps) ∙ ap (map (on_ports (flat_map lease_records ps))) taken ∙ rest)

  pub all_masked_ports : StaysMasked (port_records ps) (empty_view site me)
  all_masked_ports = ports_masked site me (port_records ps) (port_records_are ps) (map empty_port (outgoing_lanes site me))
