-- A batch that was permitted in one world is permitted in each world that extends it.
use Rattle.std.proofs.Common.{◌≡◌, ℕ, ◌+◌, ◌≤◌, length, arith, Bool, true, false, ◌&&◌, ◌||◌, List, [], ◌∷◌, ◌++◌, refl, sym, ◌∙◌, ap, subst, Option, Some, None, ◌⊎◌, inl, inr}
use Rattle.std.specs.Prelude.{◌==◌, is_some, count_by, if◌then◌else◌}
use Rattle.std.specs.Option.{option_or}
use Rattle.std.proofs.lemmas.List.Folds.{find-append}
use Rattle.qkd_base.specs.Name.{Name, name_eq, has}
use Rattle.qkd_base.specs.Family.{lane_set}
use Rattle.qkd_base.specs.Lane.{lane_eq}
use Rattle.qkd_base.specs.LaneBytes.{lane_len}
use Rattle.qkd_base.specs.declared.lane.Lane.{Lane}
use Rattle.net_model.specs.declared.record.Record.{Record}
use Rattle.net_model.specs.declared.record.Record.TheVariants.{Block, Lease, Learned, Acked, Handed, Closed, Bare}
use Rattle.net_model.specs.declared.fact.Fact.{Fact}
use Rattle.net_model.specs.declared.fact.Fact.TheVariants.{Stored}
use Rattle.net_model.specs.Table.{PartOf, name_of, route_of, fact_at, facts_of, learned}
use Rattle.net_model.specs.Site.{Site, sender, outgoing_lane}
use Rattle.net_model.specs.Streams.{is_chunk_of}
use Rattle.net_model.specs.World.{Durable, Allocation, Transmission, received}
use Rattle.net_model.specs.Records.{apply_record, replay, block_taken, keyed_lease}
use Rattle.net_model.specs.Doubt.{MayBeReceived, MayBeMade, MayNote, IsPartAmong, MayApply, MayReplay, Extends}
use Rattle.net_model.specs.Invariant.{Invariant}
use Rattle.law_base.proofs.Tables.{at_prefix, learned_there, learned_new, learned_keeps, push_cases, push_there, facts_of-push, facts_of_one}
use Rattle.law_base.proofs.Grow.{Grows, source_grows, adjacent_grows, entitled_grows, target_grows, have_grows, NoNewPartOf}
use Rattle.law_base.proofs.Knowing.{known_with, known_with_here, known_with_grows, known_with_new, known_with_cases, AreThere, facts_stay}
use Rattle.law_base.proofs.Parts.{part_starts}
use Rattle.law_base.proofs.Blocks.{taken_owned}
use Rattle.law_base.proofs.Keeping.{handed-push, apply_keeps}
use Rattle.law_base.proofs.Extending.{end_of}

module _ (s : Site) (v : ℕ) (a b : Durable) (h : Extends s v a b) where
  received_later : (l : Lane) → sender s l ≡ v → received b l ≡ received a l
  received_later l e = ap (lane_len l.way) (h.taken l e)

  note_later : (f : Fact) → MayNote a.facts a.known v f → MayNote b.facts b.known v f
  note_later (Stored note about route) m = (
    target_grows a.facts b.facts a.known b.known h.grows h.more v about (fact_at a.facts about) refl m.0,
    h.more v about m.1,
    λ k f e at. m.2 k f (sym (h.mine k at) ∙ e) at,
  )
  note_later _ m = m

  receipt_later : (f : Fact) → MayBeReceived a.facts a.known v f → MayBeReceived b.facts b.known v f
  receipt_later f m =
      record {
        there = h.grows (name_of f) f m.there;
        on = m.on;
        source = source_grows a.facts b.facts a.known b.known h.grows h.more v (name_of f) (route_of f) m.source;
      }

  among_later : (f : Fact) (p : PartOf) → IsPartAmong a.facts v f p → IsPartAmong b.facts v f p
  among_later f p m =
      record {
        mine = m.mine;
        name = m.name;
        free = ap is_some (h.mine p.key m.mine) ∙ m.free;
        apart = m.apart;
        bytes = λ k g q at e. m.bytes k g q at (sym (h.mine k at) ∙ e);
        master = λ k g q at e. m.master k g q at (sym (h.mine k at) ∙ e);
        slave = λ k g q at e. m.slave k g q at (sym (h.mine k at) ∙ e);
      }

  made_later : (f : Fact) → MayBeMade s a.facts a.known a.handed v f → MayBeMade s b.facts b.known b.handed v f
  made_later f m =
      record {
        formed = m.formed;
        ranged = m.ranged;
        free = h.mine (name_of f) m.mine ∙ m.free;
        mine = m.mine;
        starts = m.starts;
        on = m.on;
        entitled = entitled_grows a.facts b.facts a.known b.known h.grows h.more s f m.entitled;
        note = note_later f m.note;
        unused = λ k g p at e. m.unused k g p at (sym (h.mine k at) ∙ e);
        next = λ stream index e. m.next stream index e ∙ sym (ap (count_by (is_chunk_of stream)) h.seen);
        part = λ p e. among_later f p (m.part p e);
        unhanded = λ p e sae at. h.hands p.key sae at ∙ m.unhanded p e sae at;
      }

  -- A group key whose master is at home at this node gets no new part from the one state to the other.
  handed_whole : (frames : Lane → List Allocation) (unclaimed : Lane → List Transmission) → Invariant s b frames unclaimed → (n : Name) (sae : ℕ) → s.home sae ≡ v →
      NoNewPartOf a.facts b.facts a.known b.known h.grows h.more n sae
  handed_whole frames unclaimed c n sae home m one master p x =
      let there = h.grows m one.fact one.there in
      let at : p.node ≡ v =
      (c.table p x.fact x.there).maker ∙ sym (c.groups.own p x.fact x.part x.there x.is).0 ∙ ap (λ (k : Name). k.node) (x.key ∙ sym one.key) ∙
      (c.groups.own m one.fact one.part there one.is).0 ∙ part_starts s b.facts one.fact one.part one.is (c.table m one.fact there).entitled ∙
      ap s.home master ∙ home in
      record { fact = x.fact; part = x.part; there = sym (h.mine p at) ∙ x.there; is = x.is; key = x.key }

  pub apply_later : (frames : Lane → List Allocation) (unclaimed : Lane → List Transmission) → Invariant s b frames unclaimed → (r : Record) →
      MayApply s a v r → MayApply s b v r
  apply_later frames unclaimed c (Block link number bytes) m =
      (m.0, m.1 ∙ sym (h.taken (outgoing_lane s v link) (end_of s v link m.0)), m.2)
  apply_later frames unclaimed c (Lease l end) m = (m.0, rw (h.leases l m.0) m.1, rw (received_later l m.0) m.2)
  apply_later frames unclaimed c (Learned f) m =
      (ap (λ (ns : List Name). has ns (name_of f)) h.here ∙ m.0, elim m.1 [ inl t ↦ inl (receipt_later f t) | inr x ↦ inr (made_later f x) ])
  apply_later frames unclaimed c (Acked n) m = (m.0, adjacent_grows a.facts b.facts a.known b.known h.grows h.more m.0 v m.0 n m.1)
  apply_later frames unclaimed c (Handed n sae) m =
      (m.0, h.hands n sae m.0 ∙ m.1, have_grows a.facts b.facts a.known b.known h.grows h.more s n sae (handed_whole frames unclaimed c n sae m.0) m.2)
  apply_later frames unclaimed c (Closed n sae) m = m
  apply_later frames unclaimed c (Bare f) m = m

  -- The same fact is learned in both worlds.

  learned_grows : (f : Fact) → MayBeReceived a.facts a.known v f ⊎ MayBeMade s a.facts a.known a.handed v f → Grows (learned a.facts f) (learned b.facts f)
  learned_grows f m n g e = elim m [
    | inl t ↦
        learned_keeps b.facts f n g (h.grows n g (ap (λ (facts : List Fact). fact_at facts n) (sym (learned_there a.facts f t.there)) ∙ e))
    | inr x ↦
        let free = h.mine (name_of f) x.mine ∙ x.free in
        ap (λ (facts : List Fact). fact_at facts n) (learned_new b.facts f free) ∙
        (elim (push_cases a.facts f n g (ap (λ (facts : List Fact). fact_at facts n) (sym (learned_new a.facts f x.free)) ∙ e)) [
          | inl old ↦ at_prefix b.facts (f ∷ []) n g (h.grows n g old)
          | inr (is, same) ↦ subst (λ (y : Name). fact_at (b.facts ++ f ∷ []) y ≡ Some g) (sym is)
              (subst (λ (y : Fact). fact_at (b.facts ++ f ∷ []) (name_of f) ≡ Some y) (sym same) (push_there b.facts f free))
        ])
  ]

  learned_mine : (f : Fact) → MayBeReceived a.facts a.known v f ⊎ MayBeMade s a.facts a.known a.handed v f → (n : Name) → n.node ≡ v →
      fact_at (learned b.facts f) n ≡ fact_at (learned a.facts f) n
  learned_mine f m n at = elim m [
    | inl t ↦
        ap (λ (facts : List Fact). fact_at facts n) (learned_there b.facts f (h.grows (name_of f) f t.there)) ∙ h.mine n at ∙
        ap (λ (facts : List Fact). fact_at facts n) (sym (learned_there a.facts f t.there))
    | inr x ↦
        let free = h.mine (name_of f) x.mine ∙ x.free in
        ap (λ (facts : List Fact). fact_at facts n) (learned_new b.facts f free) ∙ find-append (λ y. name_eq (name_of y) n) b.facts (f ∷ []) ∙
        ap (λ (o : Option Fact). option_or o (fact_at (f ∷ []) n)) (h.mine n at) ∙ sym (find-append (λ y. name_eq (name_of y) n) a.facts (f ∷ [])) ∙
        ap (λ (facts : List Fact). fact_at facts n) (sym (learned_new a.facts f x.free))
  ]

  learned_there_now : (d : Durable) (f : Fact) → (fact_at d.facts (name_of f) ≡ Some f) ⊎ (fact_at d.facts (name_of f) ≡ None) →
      fact_at (learned d.facts f) (name_of f) ≡ Some f
  learned_there_now d f m = elim m [
    | inl e ↦ learned_keeps d.facts f (name_of f) f e
    | inr e ↦ ap (λ (facts : List Fact). fact_at facts (name_of f)) (learned_new d.facts f e) ∙ push_there d.facts f e
  ]

  learned_here : (f : Fact) → known_with b.known v (name_of f) v ≡ known_with a.known v (name_of f) v
  learned_here f =
      known_with_here b.known v (name_of f) ∙ ap (λ (ns : List Name). ns ++ name_of f ∷ []) h.here ∙ sym (known_with_here a.known v (name_of f))

  -- The facts that are seen are the older ones and the new one.
  seen_with : (d : Durable) (f : Fact) → AreThere d.facts (d.known v) → fact_at (learned d.facts f) (name_of f) ≡ Some f →
      facts_of (learned d.facts f) (known_with d.known v (name_of f) v) ≡ facts_of d.facts (d.known v) ++ f ∷ []
  seen_with d f there new =
      ap (facts_of (learned d.facts f)) (known_with_here d.known v (name_of f)) ∙ facts_of-push (learned d.facts f) (d.known v) (name_of f) ∙
      ap (λ (fs : List Fact). facts_of (learned d.facts f) (d.known v) ++ fs) (facts_of_one (learned d.facts f) (name_of f) f new) ∙
      ap (λ (fs : List Fact). fs ++ f ∷ []) (facts_stay d.facts (learned d.facts f) (λ n g e. learned_keeps d.facts f n g e) (d.known v) there)

  learned_seen : AreThere a.facts (a.known v) → AreThere b.facts (b.known v) → (f : Fact) →
      MayBeReceived a.facts a.known v f ⊎ MayBeMade s a.facts a.known a.handed v f →
      facts_of (learned b.facts f) (known_with b.known v (name_of f) v) ≡ facts_of (learned a.facts f) (known_with a.known v (name_of f) v)
  learned_seen there there' f m =
      let old = elim m as (λ x. (fact_at a.facts (name_of f) ≡ Some f) ⊎ (fact_at a.facts (name_of f) ≡ None)) [ inl t ↦ inl t.there | inr x ↦ inr x.free ] in
      let new = elim m as (λ x. (fact_at b.facts (name_of f) ≡ Some f) ⊎ (fact_at b.facts (name_of f) ≡ None)) [
        | inl t ↦ inl (h.grows (name_of f) f t.there)
        | inr x ↦ inr (h.mine (name_of f) x.mine ∙ x.free)
      ] in
      seen_with b f there' (learned_there_now b f new) ∙ ap (λ (fs : List Fact). fs ++ f ∷ []) h.seen ∙ sym (seen_with a f there (learned_there_now a f old))

  learned_extends : AreThere a.facts (a.known v) → AreThere b.facts (b.known v) → (f : Fact) →
      MayBeReceived a.facts a.known v f ⊎ MayBeMade s a.facts a.known a.handed v f → Extends s v (apply_record s v (Learned f) a) (apply_record s v (Learned f) b)
  unfolding apply_record
  learned_extends there there' f m =
      record {
        grows = learned_grows f m;
        mine = learned_mine f m;
        more = λ u n e. elim (known_with_cases a.known v (name_of f) u n e) [
          | inl old ↦ known_with_grows b.known v (name_of f) u n (h.more u n old)
          | inr (at, is) ↦ subst (λ (x : ℕ). has (known_with b.known v (name_of f) x) n ≡ true) (sym at)
              (subst (λ (x : Name). has (known_with b.known v (name_of f) v) x ≡ true) is (known_with_new b.known v (name_of f)))
        ];
        here = learned_here f;
        seen = learned_seen there there' f m;
        hands = h.hands;
        leases = h.leases;
        taken = h.taken;
      }

  lane_same : (f g : Lane → ℕ) (k l : Lane) (x y : ℕ) → x ≡ y → g l ≡ f l → lane_set g k y l ≡ lane_set f k x l
  lane_same f g k l x y e e2 = elim (lane_eq l k) as (λ t. (if t then y else g l) ≡ (if t then x else f l)) [ true ↦ sym e | false ↦ e2 ]

  taken_extends : (k : Lane) → sender s k ≡ v → Extends s v (block_taken k a) (block_taken k b)
  unfolding block_taken
  taken_extends k at =
      record {
        grows = h.grows;
        mine = h.mine;
        more = h.more;
        here = h.here;
        seen = h.seen;
        hands = h.hands;
        leases = λ l e. let p = sym (h.taken k at) in let q = sym (h.leases k at) in
            lane_same a.lease b.lease k l (keyed_lease (lane_len k.way (a.blocks k)) (lane_len k.way (a.blocks k + 1)) (a.lease k))
            (keyed_lease (lane_len k.way (b.blocks k)) (lane_len k.way (b.blocks k + 1)) (b.lease k))
            (λ i. keyed_lease (lane_len k.way (p i)) (lane_len k.way (p i + 1)) (q i)) (h.leases l e);
        taken = λ l e. lane_same a.blocks b.blocks k l (a.blocks k + 1) (b.blocks k + 1) (ap (λ n. n + 1) (sym (h.taken k at))) (h.taken l e);
      }

  pub both_extend : AreThere a.facts (a.known v) → AreThere b.facts (b.known v) → (r : Record) → MayApply s a v r →
      Extends s v (apply_record s v r a) (apply_record s v r b)
  unfolding apply_record
  both_extend there there' (Block link number bytes) m = taken_extends (outgoing_lane s v link) (end_of s v link m.0)
  both_extend there there' (Lease l end) m =
      record {
        grows = h.grows;
        mine = h.mine;
        more = h.more;
        here = h.here;
        seen = h.seen;
        hands = h.hands;
        taken = h.taken;
        leases = λ k e. lane_same a.lease b.lease l k end end refl (h.leases k e);
      }
  both_extend there there' (Learned f) m = learned_extends there there' f m.1
  both_extend there there' (Acked n) m =
      record { grows = h.grows; mine = h.mine; more = h.more; here = h.here; seen = h.seen; hands = h.hands; leases = h.leases; taken = h.taken }
  both_extend there there' (Handed n sae) m =
      record {
        grows = h.grows;
        mine = h.mine;
        more = h.more;
        here = h.here;
        seen = h.seen;
        leases = h.leases;
        taken = h.taken;
        hands = λ k t e. handed-push b.handed n sae k t ∙ ap (λ (x : Bool). x || (name_eq n k && (sae == t))) (h.hands k t e) ∙ sym (handed-push a.handed n sae k t);
      }
  both_extend there there' (Closed n sae) m =
      record { grows = h.grows; mine = h.mine; more = h.more; here = h.here; seen = h.seen; hands = h.hands; leases = h.leases; taken = h.taken }
  both_extend there there' (Bare f) m = absurd m

-- No lane loses an owner of a byte by a permitted record.
apply_owned : (s : Site) (v : ℕ) (r : Record) (d : Durable) (frames : Lane → List Allocation) (unclaimed : Lane → List Transmission) → Invariant s d frames unclaimed →
    (l : Lane) → length (d.own l) ≤ length ((apply_record s v r d).own l)
unfolding apply_record
apply_owned s v (Block link number bytes) d frames unclaimed c l = taken_owned d unclaimed (outgoing_lane s v link) (c.room (outgoing_lane s v link)) l
apply_owned s v (Lease k end) d frames unclaimed c l = omega arith
apply_owned s v (Learned f) d frames unclaimed c l = omega arith
apply_owned s v (Acked n) d frames unclaimed c l = omega arith
apply_owned s v (Handed n sae) d frames unclaimed c l = omega arith
apply_owned s v (Closed n sae) d frames unclaimed c l = omega arith
apply_owned s v (Bare f) d frames unclaimed c l = omega arith

pub replay_owned : (s : Site) (v : ℕ) (rs : List Record) (d : Durable) (frames : Lane → List Allocation) (unclaimed : Lane → List Transmission) →
    Invariant s d frames unclaimed → MayReplay s d v rs → (l : Lane) → length (d.own l) ≤ length ((replay s v rs d).own l)
unfolding replay
replay_owned s v [] d frames unclaimed c m l = omega arith
replay_owned s v (r ∷ rs) d frames unclaimed c m l =
    let one = apply_owned s v r d frames unclaimed c l in
    let rest = replay_owned s v rs (apply_record s v r d) frames unclaimed (apply_keeps s d frames unclaimed c v r m.0) m.1 l in
    omega (arith, one, rest)

pub known_there : (s : Site) (d : Durable) (frames : Lane → List Allocation) (unclaimed : Lane → List Transmission) → Invariant s d frames unclaimed → (v : ℕ) →
    AreThere d.facts (d.known v)
known_there s d frames unclaimed c v n h = let x = c.knowledge.each v n h in (x.fact, x.there)

module _ (s : Site) (v : ℕ) (frames frames' : Lane → List Allocation) (unclaimed unclaimed' : Lane → List Transmission) where
  pub may_replay_later : (a b : Durable) → Invariant s a frames unclaimed → Invariant s b frames' unclaimed' → Extends s v a b → (rs : List Record) →
      MayReplay s a v rs → MayReplay s b v rs
  may_replay_later a b c d h [] m = m
  may_replay_later a b c d h (r ∷ rs) m =
      let now = apply_later s v a b h frames' unclaimed' d r m.0 in (
        now,
        may_replay_later (apply_record s v r a) (apply_record s v r b) (apply_keeps s a frames unclaimed c v r m.0) (apply_keeps s b frames' unclaimed' d v r now)
            (both_extend s v a b h (known_there s a frames unclaimed c v) (known_there s b frames' unclaimed' d v) r m.0) rs m.1,
      )
