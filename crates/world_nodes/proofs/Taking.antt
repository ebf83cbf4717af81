-- A lane after one more block of its link.
use Rattle.std.proofs.Common.{◌≡◌, ℕ, zero, suc, ◌+◌, ◌%◌, ◌<◌, ◌≤◌, not, Bool, true, false, ◌&&◌, List, [], ◌∷◌, ◌++◌, length, replicate, refl, sym, ◌∙◌, ap, ap₂, subst, arith, Some, Result, Ok, Err}
use Rattle.std.specs.Prelude.{OnOk, OnErr, ◌==◌, nat_lt, slice_get, count_by, if◌then◌else◌}
use Rattle.std.specs.List.{flat_map}
use Rattle.std.proofs.lemmas.Bool.Decides.{nat_tests}
use Rattle.std.proofs.lemmas.List.{append-nil}
use Rattle.std.proofs.lemmas.List.Concat.{flat_map-append}
use Rattle.qkd_base.specs.LaneBytes.{even_places, odd_places, lane_octets, lane_len}
use Rattle.qkd_base.specs.declared.lane.Way.{Way}
use Rattle.qkd_base.specs.declared.lane.Way.TheVariants.{Up, Down}
use Rattle.qkd_base.specs.declared.lane.Lane.{Lane}
use Rattle.net_model.specs.declared.record.Record.TheVariants.{Block}
use Rattle.net_model.specs.Ledger.{is_burnt}
use Rattle.net_model.specs.Premises.{IsSite}
use Rattle.net_model.specs.Site.{Site, sender, lane_of, outgoing_lane}
use Rattle.net_model.specs.OctetSequence.{OctetSequence, first_blocks, block_at}
use Rattle.net_model.specs.World.{Network, World, Durable, Allocation, Owner, HashKey}
use Rattle.net_model.specs.Records.{is_first, keyed_own, keyed_lease, apply_record, replay, block_taken}
use Rattle.net_model.specs.Events.{is_lane}
use Rattle.net_model.specs.Frames.{octets_sent}
use Rattle.pad_ledger.specs.Ledger.{Ledger, received_more}
use Rattle.lane_sender.specs.Lane.{LaneForm}
use Rattle.law_base.proofs.Base.{eq_same, eq_from, not_false, when_false, when_true}
use Rattle.law_base.proofs.Grow.{Grows}
use Rattle.law_base.proofs.Growing.{replay_grows}
use Rattle.law_base.proofs.LaneBlocks.{count_blocks, lane_length, lane_small}
use Rattle.law_base.proofs.Lists.{lane_set_same}
use Rattle.std.proofs.lemmas.Bool.{lt-ltb, ltb-true}
use Rattle.world_nodes.specs.LaneStands.{WireStands, LaneStands}
use Rattle.world_nodes.specs.Taking.{is_of_way, MayTake, TakesBlock}
use Rattle.world_nodes.proofs.Wires.{wire_kept, KeepsOctets}
use Rattle.world_nodes.proofs.LaneGoing.{octets_kept}
use Rattle.source_devices.specs.declared.wire.Wire as Wire

-- the even and the odd places of a list with one element more, at its front or at its end

cons_places : (b : List ℕ) (bs : List (List ℕ)) → (even_places (b ∷ bs) ≡ b ∷ odd_places bs) × (odd_places (b ∷ bs) ≡ even_places bs)
cons_places b [] = (refl, refl)
cons_places b (c ∷ bs) = let r = cons_places c bs in (ap (λ (xs : List (List ℕ)). b ∷ xs) (sym r.1), sym r.0)

is_even : ℕ → Bool
is_even zero = true
is_even (suc n) = not (is_even n)

abbrev pushed : Bool → List (List ℕ) → List ℕ → List (List ℕ)
pushed true bs b = bs ++ b ∷ []
pushed false bs b = bs

pushed-cons : (t : Bool) (c : List ℕ) (bs : List (List ℕ)) (b : List ℕ) → c ∷ pushed t bs b ≡ pushed t (c ∷ bs) b
pushed-cons true c bs b = refl
pushed-cons false c bs b = refl

not_twice : (t : Bool) → not (not t) ≡ t
not_twice true = refl
not_twice false = refl

push_places : (bs : List (List ℕ)) (b : List ℕ) → (even_places (bs ++ b ∷ []) ≡ pushed (is_even (length bs)) (even_places bs) b) × (odd_places (bs ++ b ∷ []) ≡ pushed (not (is_even (length bs))) (odd_places bs) b)
unfolding is_even
push_places [] b = (refl, refl)
push_places (c ∷ bs) b =
    let r = push_places bs b in
    let whole = cons_places c (bs ++ b ∷ []) in
    let old = cons_places c bs in (
      whole.0 ∙ ap (λ (xs : List (List ℕ)). c ∷ xs) r.1 ∙ pushed-cons (not (is_even (length bs))) c (odd_places bs) b ∙ ap (λ (xs : List (List ℕ)). pushed (not (is_even (length bs))) xs b) (sym old.0),
      whole.1 ∙ r.0 ∙ ap₂ (λ (t : Bool) (xs : List (List ℕ)). pushed t xs b) (sym (not_twice (is_even (length bs)))) (sym old.1),
    )

even_from : (n : ℕ) → (is_even n ≡ (n % 2 == 0)) × (not (is_even n) ≡ (n % 2 == 1))
unfolding is_even
even_from zero = (refl, refl)
even_from (suc n) = let r = even_from n in (r.1 ∙ flip_one n, ap not r.1 ∙ flip_other n)
  where
    flip_one : (n : ℕ) → (n % 2 == 1) ≡ (suc n % 2 == 0)
    flip_one n = grind (arith, nat_tests)

    flip_other : (n : ℕ) → not (n % 2 == 1) ≡ (suc n % 2 == 1)
    flip_other n = grind (arith, nat_tests)

-- the bytes of a lane after one more block: with the block, if it belongs to the lane's way
abbrev joined : Bool → List ℕ → List ℕ → List ℕ
joined true xs b = xs ++ b
joined false xs b = xs

flat_pushed : (t : Bool) (bs : List (List ℕ)) (b : List ℕ) → flat_map (λ x. x) (pushed t bs b) ≡ joined t (flat_map (λ x. x) bs) b
flat_pushed true bs b = flat_map-append (λ x. x) bs (b ∷ []) ∙ ap (λ (xs : List ℕ). flat_map (λ x. x) bs ++ xs) (append-nil b)
flat_pushed false bs b = refl

lane_pushed : (way : Way) (bs : List (List ℕ)) (b : List ℕ) → lane_octets way (bs ++ b ∷ []) ≡ joined (is_of_way way (length bs)) (lane_octets way bs) b
unfolding lane_octets
lane_pushed Up bs b =
    ap (flat_map (λ x. x)) ((push_places bs b).0 ∙ ap (λ (t : Bool). pushed t (even_places bs) b) (even_from (length bs)).0) ∙ flat_pushed (is_of_way Up (length bs)) (even_places bs) b
lane_pushed Down bs b =
    ap (flat_map (λ x. x)) ((push_places bs b).1 ∙ ap (λ (t : Bool). pushed t (odd_places bs) b) (even_from (length bs)).1) ∙ flat_pushed (is_of_way Down (length bs)) (odd_places bs) b

lane_more : (way : Way) (t : OctetSequence) (n : ℕ) → lane_octets way (first_blocks t (n + 1)) ≡ joined (is_of_way way n) (lane_octets way (first_blocks t n)) (block_at t n)
unfolding first_blocks
lane_more way t n =
    let e : n + 1 ≡ suc n = omega arith in
    ap (λ (k : ℕ). lane_octets way (first_blocks t k)) e ∙ lane_pushed way (first_blocks t n) (block_at t n)
    ∙ ap (λ (k : ℕ). joined (is_of_way way k) (lane_octets way (first_blocks t n)) (block_at t n)) (count_blocks t n)

-- the number of these bytes

len_more : (way : Way) (n : ℕ) → is_of_way way n ≡ true → lane_len way (n + 1) ≡ lane_len way n + 1024
len_more Up n h = let even : n % 2 ≡ 0 = grind (arith, nat_tests) in omega (arith, even)
len_more Down n h = let odd : n % 2 ≡ 1 = grind (arith, nat_tests) in omega (arith, odd)

len_same : (way : Way) (n : ℕ) → is_of_way way n ≡ false → lane_len way (n + 1) ≡ lane_len way n
len_same Up n h = let odd : n % 2 ≡ 1 = grind (arith, nat_tests) in omega (arith, odd)
len_same Down n h = let even : n % 2 ≡ 0 = grind (arith, nat_tests) in omega (arith, even)

-- Over a lane's link, the lane that leaves its sender is the lane itself.

leaving : (s : Site) → IsSite s → (link : ℕ) (way : Way) → link < s.links → outgoing_lane s (sender s (lane_of link way)) link ≡ lane_of link way
leaving s site link Up below = ap (λ (t : Bool). lane_of link (if t then Up else Down)) (eq_same (s.low link))
leaving s site link Down below =
    let order = (site.ends link below).order in
    let low : (s.low link == s.high link) ≡ false = not_false (s.low link == s.high link) (λ e. let x = eq_from (s.low link) (s.high link) e in omega (arith, x, order)) in
    ap (λ (t : Bool). lane_of link (if t then Up else Down)) low

pub own_lane : (s : Site) → IsSite s → (l : Lane) → is_lane s l ≡ true → outgoing_lane s (sender s l) l.link ≡ l
own_lane s site l at = leaving s site l.link l.way (ltb-true l.link s.links at)

-- the ledger after more bytes

record Counts (g : Ledger) (received : ℕ) (own : List Owner) (lease : ℕ) : Type 0 where
  got : g.received ≡ received
  used : g.used ≡ length own
  burnt : g.burnt ≡ count_by is_burnt own
  end : g.end ≤ lease

none_of_none : (own : List Owner) → length own ≤ 0 → count_by is_burnt own ≡ 0
none_of_none [] h = refl
none_of_none (x ∷ own) h = absurd (omega arith)

counts_more : (b : ℕ) (g : Ledger) (own : List Owner) (lease : ℕ) → Counts g b own lease → length own ≤ b →
    Counts (received_more g 1024) (b + 1024) (keyed_own b (b + 1024) own) (keyed_lease b (b + 1024) lease)
counts_more b g own lease c few = elim (b == 0) as (λ t. (b == 0) ≡ t → Counts (received_more g 1024) (b + 1024) (if t && nat_lt 0 (b + 1024) then replicate 8 HashKey else own) (if t && nat_lt 0 (b + 1024) then 8 else lease)) [
  | true ↦ λ e.
      let none : b ≡ 0 = eq_from b 0 e in
      let some : nat_lt 0 (b + 1024) ≡ true = lt-ltb 0 (b + 1024) (omega arith) in
      subst (λ (t : Bool). Counts (received_more g 1024) (b + 1024) (if t then replicate 8 HashKey else own) (if t then 8 else lease)) (sym some)
      (subst (λ (x : Ledger). Counts x (b + 1024) (replicate 8 HashKey) 8) (sym (when_true (g.received == 0) _ _ (ap (λ (n : ℕ). n == 0) c.got ∙ e)))
      (record { got = omega (arith, none); used = refl; burnt = c.burnt ∙ none_of_none own (omega (arith, few, none)); end = omega arith }))
  | false ↦ λ e.
      subst (λ (x : Ledger). Counts x (b + 1024) own lease) (sym (when_false (g.received == 0) _ _ (ap (λ (n : ℕ). n == 0) c.got ∙ e)))
      (record { got = ap (λ (n : ℕ). n + 1024) c.got; used = c.used; burnt = c.burnt; end = c.end })
] refl

first_same : (b : ℕ) → is_first b b ≡ false
first_same b = grind (arith, nat_tests)

keyed_same : (b c : ℕ) (own : List Owner) → c ≡ b → keyed_own b c own ≡ own
keyed_same b c own e = ap (λ (n : ℕ). keyed_own b n own) e ∙ when_false (is_first b b) _ _ (first_same b)

lease_same : (b c lease : ℕ) → c ≡ b → keyed_lease b c lease ≡ lease
lease_same b c lease e = ap (λ (n : ℕ). keyed_lease b n lease) e ∙ when_false (is_first b b) _ _ (first_same b)

module _ {X : Type 0} (wire_says : Wire.Ghosts X) (net : Network) (w : World) (side : LaneForm X) (number : ℕ) (block : List ℕ) (m : MayTake wire_says net w side number block) where
  abbrev l : Lane
  l = side.lane

  abbrev n : ℕ
  n = w.durable.blocks l

  bytes_now : length side.bytes ≡ lane_len l.way n
  bytes_now = ap length m.stands.bytes ∙ lane_length l.way (net.device l.link) n

  pub has_room : is_of_way l.way number ≡ true → length side.bytes + 1024 ≤ 524288
  has_room of_way =
      omega (arith, bytes_now, len_more l.way n (ap (is_of_way l.way) (sym m.next) ∙ of_way), lane_small l.way (n + 1) (omega (arith, m.few, m.next)))

  module _ (w' : World) (t : TakesBlock net w w' l number block) where
    is_taken : w'.durable ≡ block_taken l w.durable
    unfolding replay apply_record
    is_taken = t.durable ∙ ap (λ (k : Lane). block_taken k w.durable) (own_lane net.site m.running.network.site l m.at)

    blocks : w'.durable.blocks l ≡ n + 1
    unfolding block_taken
    blocks = ap (λ (d : Durable). d.blocks l) is_taken ∙ lane_set_same w.durable.blocks l (n + 1)

    own : w'.durable.own l ≡ keyed_own (lane_len l.way n) (lane_len l.way (n + 1)) (w.durable.own l)
    unfolding block_taken
    own = ap (λ (d : Durable). d.own l) is_taken ∙ lane_set_same w.durable.own l _

    lease : w'.durable.lease l ≡ keyed_lease (lane_len l.way n) (lane_len l.way (n + 1)) (w.durable.lease l)
    unfolding block_taken
    lease = ap (λ (d : Durable). d.lease l) is_taken ∙ lane_set_same w.durable.lease l _

    keeps : KeepsOctets net w w' l
    keeps =
        octets_kept net w w' m.running l m.at
        (subst (λ (d : Durable). Grows w.durable.facts d.facts) (sym t.durable) (replay_grows net.site (sender net.site l) (Block l.link number block ∷ []) w.durable).facts)
        (omega (arith, blocks))
        (subst (λ (fs : Lane → List Allocation). (j : ℕ) (a : Allocation) → slice_get (w.frames l) j ≡ Some a → slice_get (fs l) j ≡ Some a) (sym t.frames) (λ j a h. h))

    pub wire_after : (wire : X) → wire ≡ side.wire → WireStands wire_says net w' l wire
    wire_after wire is = wire_kept wire_says net w w' l side.wire wire m.stands.wire keeps (ap (λ (x : Lane → List ℕ). x l) t.wire) is

    bytes_after : octets_sent net w' l ≡ joined (is_of_way l.way number) side.bytes block
    bytes_after =
        ap (λ (k : ℕ). lane_octets l.way (first_blocks (net.device l.link) k)) blocks ∙ lane_more l.way (net.device l.link) n
        ∙ λ i. joined (is_of_way l.way (sym m.next i)) (sym m.stands.bytes i) (sym (m.bytes ∙ ap (block_at (net.device l.link)) m.next) i)

    old : Counts side.ledger (lane_len l.way n) (w.durable.own l) (w.durable.lease l)
    old = record { got = m.stands.received; used = m.stands.used; burnt = m.stands.burnt; end = m.stands.end }

    few : length (w.durable.own l) ≤ lane_len l.way n
    few = omega (arith, (m.running.conserved.now.room l).planned, (m.running.conserved.now.room l).leased)

    stands_as : (new : LaneForm X) → new.lane ≡ l → octets_sent net w' l ≡ new.bytes → Counts new.ledger (lane_len l.way (n + 1)) (w'.durable.own l) (w'.durable.lease l) → new.wire ≡ side.wire →
        LaneStands wire_says net w' l new
    stands_as new lane bytes c wire = record {
      lane = lane;
      bytes = sym bytes;
      received = c.got ∙ ap (lane_len l.way) (sym blocks);
      used = c.used;
      burnt = c.burnt;
      end = c.end;
      wire = wire_after new.wire wire;
    }

    -- A block of the other way leaves the lane as it was.
    pub other_way : is_of_way l.way number ≡ false → LaneStands wire_says net w' l side
    other_way e =
        let same = len_same l.way n (ap (is_of_way l.way) (sym m.next) ∙ e) in
        stands_as side refl (bytes_after ∙ ap (λ (b : Bool). joined b side.bytes block) e)
        (record {
          got = old.got ∙ sym same;
          used = old.used ∙ ap length (sym (own ∙ keyed_same _ _ (w.durable.own l) same));
          burnt = old.burnt ∙ ap (count_by is_burnt) (sym (own ∙ keyed_same _ _ (w.durable.own l) same));
          end = subst (λ (k : ℕ). side.ledger.end ≤ k) (sym (lease ∙ lease_same _ _ (w.durable.lease l) same)) old.end;
        }) refl

    -- A block of the lane's own way is added to it.
    pub own_way : is_of_way l.way number ≡ true → (new : LaneForm X) → new ≡ record side { bytes = side.bytes ++ block; ledger = received_more side.ledger 1024 } → LaneStands wire_says net w' l new
    own_way e new is =
        let more = len_more l.way n (ap (is_of_way l.way) (sym m.next) ∙ e) in
        let c = counts_more (lane_len l.way n) side.ledger (w.durable.own l) (w.durable.lease l) old few in
        let c₁ = subst (λ (k : ℕ). Counts (received_more side.ledger 1024) k (keyed_own (lane_len l.way n) k (w.durable.own l)) (keyed_lease (lane_len l.way n) k (w.durable.lease l))) (sym more) c in
        subst (LaneStands wire_says net w' l) (sym is)
        (stands_as (record side { bytes = side.bytes ++ block; ledger = received_more side.ledger 1024 }) refl (bytes_after ∙ ap (λ (b : Bool). joined b side.bytes block) e)
        (record {
          got = c₁.got;
          used = c₁.used ∙ ap length (sym own);
          burnt = c₁.burnt ∙ ap (count_by is_burnt) (sym own);
          end = subst (λ (k : ℕ). (received_more side.ledger 1024).end ≤ k) (sym lease) c₁.end;
        }) refl)

-- answers

pub ok_then : {A E : Type 0} {P Q : Type 0} (r : Result A E) → OnOk r P → (P → Q) → OnOk r Q
ok_then (Ok x) h f = f h
ok_then (Err e) h f = tt

pub either_way : {A E : Type 0} {P Q S : Type 0} (r : Result A E) → OnOk r P → OnErr r Q → (P → S) → (Q → S) → S
either_way (Ok x) h k f g = f h
either_way (Err e) h k f g = g k
