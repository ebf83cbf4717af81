-- A fact that a node learns is appended to the facts of its view.
use Rattle.std.proofs.Common.{◌≡◌, ℕ, ◌+◌, true, false, List, [], ◌∷◌, ◌++◌, length, refl, sym, ◌∙◌, ap, subst, ◌⊎◌, inl, inr, Some, map}
use Rattle.std.proofs.lemmas.List.{map-append}
use Rattle.qkd_base.specs.Name.{Name, has}
use Rattle.qkd_base.specs.Family.{number_set}
use Rattle.qkd_base.specs.declared.lane.Lane.{Lane}
use Rattle.net_model.specs.declared.fact.Fact.{Fact}
use Rattle.net_model.specs.declared.record.Record.TheVariants.{Learned}
use Rattle.net_model.specs.Table.{PartOf, part_of, is_part_of, name_of, origin, fact_at, has_fact, learned, facts_of, was_handed}
use Rattle.net_model.specs.Site.{sender, receiver, outgoing_lanes}
use Rattle.net_model.specs.World.{Network, World, Durable, needs}
use Rattle.net_model.specs.Records.{apply_record}
use Rattle.net_model.specs.Doubt.{MayBeReceived, MayBeMade}
use Rattle.net_model.specs.Invariant.{Invariant}
use Rattle.net_model.specs.View.{View, handed_at}
use Rattle.net_model.specs.Needed.{is_needed, masked_fact, port_at}
use Rattle.net_model.specs.Fold.{view_record}
use Rattle.law_base.proofs.Base.{not_false, not_both, number_set_same, when_false}
use Rattle.law_base.proofs.Tables.{learned_keeps, learned_there, learned_new, push_there, facts_of-push, facts_of_one, at_prefix}
use Rattle.law_base.proofs.Grow.{Grows, needs_grows}
use Rattle.law_base.proofs.Knowing.{known_with_grows, AreThere, facts_stay}
use Rattle.law_base.proofs.Parts.{part_starts}
use Rattle.law_recovery.proofs.Shapes.{knowing, still_masked, has_same}
use Rattle.law_recovery.proofs.Staying.{needed_stays, parts_push}
use Rattle.law_recovery.proofs.Following.{Follows, same_shapes, listed_stay, unlisted, handed_only, part_named, seen}

module _ (net : Network) (w : World) (v : ℕ) (d : Durable) (inv : Invariant net.site d w.frames w.unclaimed) (f : Fact) (fresh : has (d.known v) (name_of f) ≡ false)
    (may : MayBeReceived d.facts d.known v f ⊎ MayBeMade net.site d.facts d.known d.handed v f) where
  there : fact_at (learned d.facts f) (name_of f) ≡ Some f
  there = elim may [
    | inl m ↦ ap (λ (T : List Fact). fact_at T (name_of f)) (learned_there d.facts f m.there) ∙ m.there
    | inr m ↦ ap (λ (T : List Fact). fact_at T (name_of f)) (learned_new d.facts f m.free) ∙ push_there d.facts f m.free
  ]

  grows : Grows d.facts (learned d.facts f)
  grows n g h = learned_keeps d.facts f n g h

  abbrev known : List Fact
  known = facts_of d.facts (d.known v)

  abbrev names' : ℕ → List Name
  names' = number_set d.known v (d.known v ++ name_of f ∷ [])

  listed' : facts_of (learned d.facts f) (names' v) ≡ known ++ f ∷ []
  listed' =
      let is_there : AreThere d.facts (d.known v) = λ n k. let r = inv.knowledge.each v n k in (r.fact, r.there) in
      let before = facts_stay d.facts (learned d.facts f) grows (d.known v) is_there in
      let one = facts_of_one (learned d.facts f) (name_of f) f there in
      ap (facts_of (learned d.facts f)) (number_set_same d.known v (d.known v ++ name_of f ∷ [])) ∙ facts_of-push (learned d.facts f) (d.known v) (name_of f) ∙
      (λ i. before i ++ one i)

  -- The fact isn't part of a group key that was handed to its master here.
  no_part : (g : Fact) (p : PartOf) → fact_at d.facts (name_of g) ≡ Some g → part_of g ≡ Some p → origin g ≡ v →
      was_handed (handed_at net.site v d.handed) p.key p.master ≡ true → is_part_of p.key f ≡ false
  no_part g p at is mine handed = not_false (is_part_of p.key f) (λ part.
      let r = part_named (part_of f) p.key part in
      elim may [
        | inl m ↦
            let alike = inv.groups.alike (name_of g) (name_of f) g f p r.0 at m.there is r.1 (sym r.2) in
            let made = inv.table (name_of f) f m.there in
            let here : (name_of f).node ≡ v = made.maker ∙ sym alike.origin ∙ mine in
            not_both (has (d.known v) (name_of f)) (subst (λ (u : ℕ). has (d.known u) (name_of f) ≡ true) here made.made) fresh
        | inr m ↦
            let home : net.site.home p.master ≡ v = sym (part_starts net.site d.facts g p is (inv.table (name_of g) g at).entitled) ∙ mine in
            let got = (handed_only net.site v d.handed p.key p.master handed).1 in
            not_both (was_handed d.handed p.key p.master) got (ap (λ (n : Name). was_handed d.handed n p.master) (sym r.2) ∙ m.unhanded r.0 r.1 p.master home)
      ])

  prefix : Grows known (known ++ f ∷ [])
  prefix n g h = at_prefix known (f ∷ []) n g h

  stays : (g : Fact) → fact_at d.facts (name_of g) ≡ Some g → is_needed (seen net w v d) g ≡ false →
      is_needed (knowing v (known ++ f ∷ []) (d.acked v) (handed_at net.site v d.handed)) g ≡ false
  unfolding is_needed
  stays g at =
      needed_stays v known (known ++ f ∷ []) (d.acked v) (d.acked v) (handed_at net.site v d.handed) (handed_at net.site v d.handed) prefix (λ n k. k) (λ n sae k. k) g
      (λ p is mine handed none. parts_push v known f (d.acked v) (handed_at net.site v d.handed) p.key (no_part g p at is mine handed) none)

  planned_stays : (l : Lane) → needs (learned d.facts f) (w.unclaimed l) ≡ needs d.facts (w.unclaimed l)
  planned_stays l =
      needs_grows d.facts (learned d.facts f) d.known names' grows (known_with_grows d.known v (name_of f)) (sender net.site l) (receiver net.site l) (w.unclaimed l)
      (inv.carried l).wanted

  ports_stay : (ls : List Lane) → map (port_at net (record w { durable = apply_record net.site v (Learned f) d })) ls ≡ map (port_at net (record w { durable = d })) ls
  unfolding apply_record
  ports_stay [] = refl
  ports_stay (l ∷ ls) =
      let one = planned_stays l in
      let rest = ports_stay ls in
      λ i. record (port_at net (record w { durable = d }) l) { planned = length (d.own l) + one i } ∷ rest i

  -- The facts after the new one was appended.
  pushed : (a : View) → Follows a (seen net w v d) → (facts : List Fact) → facts ≡ known ++ f ∷ [] →
      map (masked_fact (knowing v facts (d.acked v) (handed_at net.site v d.handed))) (a.facts ++ f ∷ []) ≡
      map (masked_fact (knowing v facts (d.acked v) (handed_at net.site v d.handed))) facts
  pushed a h facts is =
      let c : View = knowing v (known ++ f ∷ []) (d.acked v) (handed_at net.site v d.handed) in
      subst (λ (fs : List Fact). map (masked_fact (knowing v fs (d.acked v) (handed_at net.site v d.handed))) (a.facts ++ f ∷ []) ≡
      map (masked_fact (knowing v fs (d.acked v) (handed_at net.site v d.handed))) fs) (sym is)
      (map-append (masked_fact c) a.facts (f ∷ []) ∙
      ap (λ (fs : List Fact). fs ++ map (masked_fact c) (f ∷ [])) (still_masked (seen net w v d) c a.facts known h.facts (listed_stay d.facts (seen net w v d) c stays (d.known v))) ∙
      sym (map-append (masked_fact c) known (f ∷ [])))

  pub learned_follows : (a : View) → Follows a (seen net w v d) → Follows (view_record (Learned f) a) (seen net w v (apply_record net.site v (Learned f) d))
  unfolding view_record apply_record is_needed
  learned_follows a h =
      let new : has_fact a.facts (name_of f) ≡ false = has_same (name_of f) a.facts known (same_shapes a (seen net w v d) h) ∙ unlisted d.facts (d.known v) (name_of f) fresh in
      subst (λ (fs : List Fact). Follows (record a { facts = fs }) (seen net w v (apply_record net.site v (Learned f) d)))
      (sym (when_false (has_fact a.facts (name_of f)) a.facts (a.facts ++ f ∷ []) new)) (record {
        me = h.me;
        acked = h.acked;
        handed = h.handed;
        closed = h.closed;
        ports = h.ports ∙ sym (ports_stay (outgoing_lanes net.site v));
        facts = pushed a h (facts_of (learned d.facts f) (names' v)) listed';
      })
