-- The entries that an acknowledgement removes from a window: those of its fact towards the neighbour that sent it.
-- The fact has no others.
use Rattle.std.proofs.Common.{◌≡◌, ℕ, ◌<◌, Bool, true, false, cond, not, ◌&&◌, List, ◌∷◌, ◌++◌, refl, sym, ◌∙◌, ap, subst, arith, Some}
use Rattle.std.specs.Prelude.{slice_get}
use Rattle.std.proofs.lemmas.List.Elements.{filter-append}
use Rattle.std.proofs.lemmas.Bool.Decides.{nat_tests}
use Rattle.qkd_base.specs.Name.{Name, name_eq, has}
use Rattle.qkd_base.specs.Lane.{lane_eq, reverse_lane}
use Rattle.qkd_base.specs.Route.{next_after}
use Rattle.net_model.specs.declared.fact.Fact.{Fact}
use Rattle.net_model.specs.Table.{route_of}
use Rattle.law_base.proofs.Seen.{view_volatile}
use Rattle.qkd_base.specs.declared.lane.Lane.{Lane}
use Rattle.qkd_base.specs.declared.lane.Way.{Way}
use Rattle.qkd_base.specs.declared.lane.Way.TheVariants.{Up, Down}
use Rattle.net_model.specs.Item.{Item, DataItem, AckItem, is_data_of}
use Rattle.net_model.specs.Site.{Site, sender, receiver, of_way}
use Rattle.net_model.specs.Premises.{IsSite, IsLink, IsNetwork}
use Rattle.net_model.specs.Events.{is_lane}
use Rattle.net_model.specs.World.{Network, World, Entry, Volatile}
use Rattle.net_model.specs.View.{View}
use Rattle.net_model.specs.Knowledge.{IsAdjacent, MayCarry}
use Rattle.net_model.specs.Window.{cleared}
use Rattle.net_model.specs.Relay.{owed, receive_ack}
use Rattle.net_model.specs.Invariant.{Conserved}
use Rattle.net_model.specs.Needed.{view_of}
use Rattle.law_base.proofs.Base.{name_eq_from, name_eq_same, lane_eq_from, and_left, and_right, and_both, not_false, not_both, when_true, lane_same}
use Rattle.law_base.proofs.Lists.{any_at, kept_at, reverse_twice}
use Rattle.law_invariant.proofs.Seen.{seen, seen_is}
use Rattle.law_invariant.proofs.Wanted.{owed_known}
use Rattle.law_invariant.proofs.Outgoing.{sender_back}

-- The test whether the acknowledgement removes an entry.
abbrev goes : Lane → Name → Entry → Bool
goes l n e = lane_eq e.transmission.lane (reverse_lane l) && is_data_of n e.transmission.item

data_same : (n : Name) (i : Item) → i ≡ DataItem n → is_data_of n i ≡ true
data_same n i is = ap (is_data_of n) is ∙ name_eq_same n

data_from : (n : Name) (i : Item) → is_data_of n i ≡ true → i ≡ DataItem n
data_from n (DataItem m) h = ap DataItem (name_eq_from m n h)
data_from n (AckItem m) h = cc

goes_where : (l : Lane) (n : Name) (e : Entry) → e.transmission.lane ≡ reverse_lane l → e.transmission.item ≡ DataItem n → goes l n e ≡ true
goes_where l n e lane item =
    and_both (lane_eq e.transmission.lane (reverse_lane l)) (is_data_of n e.transmission.item) (ap (λ (k : Lane). lane_eq k (reverse_lane l)) lane ∙ lane_same (reverse_lane l))
    (data_same n e.transmission.item item)

stays_else : (l : Lane) (n : Name) (e : Entry) → (e.transmission.lane ≡ reverse_lane l → e.transmission.item ≡ DataItem n → ⊥) → goes l n e ≡ false
stays_else l n e other = not_false (goes l n e) (λ t.
    other (lane_eq_from e.transmission.lane (reverse_lane l) (and_left (lane_eq e.transmission.lane (reverse_lane l)) (is_data_of n e.transmission.item) t))
    (data_from n e.transmission.item (and_right (lane_eq e.transmission.lane (reverse_lane l)) (is_data_of n e.transmission.item) t)))

pub leaves : (l : Lane) (n : Name) (prefix rest : List Entry) (e : Entry) → e.transmission.lane ≡ reverse_lane l → e.transmission.item ≡ DataItem n →
    cleared l n (prefix ++ e ∷ rest) ≡ cleared l n (prefix ++ rest)
leaves l n prefix rest e lane item =
    filter-append (λ x. not (goes l n x)) prefix (e ∷ rest) ∙
    ap (λ (t : Bool). cleared l n prefix ++ cond t (e ∷ cleared l n rest) (cleared l n rest)) (ap not (goes_where l n e lane item)) ∙
    sym (filter-append (λ x. not (goes l n x)) prefix rest)

pub stays : (l : Lane) (n : Name) (prefix rest : List Entry) (e : Entry) → (e.transmission.lane ≡ reverse_lane l → e.transmission.item ≡ DataItem n → ⊥) →
    cleared l n (prefix ++ e ∷ rest) ≡ cleared l n prefix ++ e ∷ cleared l n rest
stays l n prefix rest e other =
    filter-append (λ x. not (goes l n x)) prefix (e ∷ rest) ∙
    ap (λ (t : Bool). cleared l n prefix ++ cond t (e ∷ cleared l n rest) (cleared l n rest)) (ap not (stays_else l n e other))

-- A link has just one lane from one of its ends to the other.

one_way : (s : Site) (a b : Way) (link : ℕ) → IsLink s link → of_way a (s.low link) (s.high link) ≡ of_way b (s.low link) (s.high link) → a ≡ b
one_way s Up Up link ok e = refl
one_way s Up Down link ok e = let order = ok.order in absurd (omega arith)
one_way s Down Up link ok e = let order = ok.order in absurd (omega arith)
one_way s Down Down link ok e = refl

receiver_back : (s : Site) (l : Lane) → receiver s (reverse_lane l) ≡ sender s l
receiver_back s l = sym (sender_back s (reverse_lane l)) ∙ ap (sender s) (reverse_twice l)

some_same : {A : Type 0} {a b : A} → Some a ≡ Some b → a ≡ b
some_same h = cc

-- Two links with the same ends, in any direction, are the same link.
one_link : (s : Site) → IsSite s → (a b : Way) (j k : ℕ) → j < s.links → k < s.links → of_way a (s.low j) (s.high j) ≡ of_way b (s.low k) (s.high k) →
    of_way a (s.high j) (s.low j) ≡ of_way b (s.high k) (s.low k) → j ≡ k
one_link s ok Up Up j k h i e d = ok.single j k h i e d
one_link s ok Up Down j k h i e d = let x = (ok.ends j h).order in let y = (ok.ends k i).order in absurd (omega arith)
one_link s ok Down Up j k h i e d = let x = (ok.ends j h).order in let y = (ok.ends k i).order in absurd (omega arith)
one_link s ok Down Down j k h i e d = ok.single j k h i d e

one_lane : (s : Site) → IsSite s → (a b : Lane) → is_lane s a ≡ true → is_lane s b ≡ true → sender s a ≡ sender s b → receiver s a ≡ receiver s b → a ≡ b
one_lane s ok a b here there from to =
    let less : a.link < s.links = grind (arith, nat_tests) in
    let fewer : b.link < s.links = grind (arith, nat_tests) in
    let link = one_link s ok a.way b.way a.link b.link less fewer from to in
    let same : of_way a.way (s.low a.link) (s.high a.link) ≡ of_way b.way (s.low a.link) (s.high a.link) =
    from ∙ (λ i. of_way b.way (s.low (sym link i)) (s.high (sym link i))) in
    let way = one_way s a.way b.way a.link (ok.ends a.link less) same in
    λ i. record { link = link i; way = way i }

module _ (net : Network) (w : World) (network : IsNetwork net) (c : Conserved net w) (l : Lane) (here : is_lane net.site l ≡ true) (n : Name)
    (owes : has (owed (view_of net w (receiver net.site l)) (sender net.site l)) n ≡ true) where
  abbrev v : ℕ
  v = receiver net.site l

  to_neighbour : IsAdjacent w.durable.facts w.durable.known v v (sender net.site l) n
  to_neighbour =
      let found = any_at (λ m. name_eq m n) (owed (seen net w v) (sender net.site l)) (subst (λ (a : View). has (owed a (sender net.site l)) n ≡ true) (seen_is net w v) owes) in
      subst (λ (m : Name). IsAdjacent w.durable.facts w.durable.known v v (sender net.site l) m) (name_eq_from found.1 n found.3)
      (owed_known net w v c (sender net.site l) found.0 found.1 found.2)

  -- Each entry of an owed fact is on the lane to the neighbour to which it is owed.
  on_that_lane : (k : ℕ) (e : Entry) → slice_get (w.volatile v).window k ≡ Some e → e.transmission.item ≡ DataItem n → e.transmission.lane ≡ reverse_lane l
  on_that_lane k e at item =
      let entry = (c.volatile v).entries k e at in
      let lane : Lane = e.transmission.lane in
      let carried : IsAdjacent w.durable.facts w.durable.known (sender net.site lane) (sender net.site lane) (receiver net.site lane) n =
      subst (MayCarry w.durable.facts w.durable.known (sender net.site lane) (receiver net.site lane)) item ((c.now.carried lane).framed entry.number _ entry.frame) in
      let same : to_neighbour.fact ≡ carried.fact = some_same (sym to_neighbour.there ∙ carried.there) in
      let next : Some (receiver net.site lane) ≡ Some (sender net.site l) =
      sym carried.next ∙ ap (next_after (route_of carried.fact)) entry.lane ∙ ap (λ (f : Fact). next_after (route_of f) v) (sym same) ∙ to_neighbour.next in
      one_lane net.site network.site lane (reverse_lane l) entry.site here (entry.lane ∙ sym (sender_back net.site l)) (some_same next ∙ sym (receiver_back net.site l))

  pub none_left : (k : ℕ) (e : Entry) → slice_get (receive_ack (view_of net w v) l (sender net.site l) n).volatile.window k ≡ Some e → e.transmission.item ≡ DataItem n → ⊥
  unfolding receive_ack
  none_left k e at item =
      let see : View = view_of net w v in
      let window : (receive_ack see l (sender net.site l) n).volatile.window ≡ cleared l n (w.volatile v).window =
      ap (λ (x : Volatile). x.window) (when_true (has (owed see (sender net.site l)) n) (record (see.volatile) { window = cleared l n see.volatile.window }) see.volatile owes) ∙
      ap (λ (x : Volatile). cleared l n x.window) (view_volatile net w v) in
      let kept = kept_at (λ x. not (goes l n x)) (w.volatile v).window e k (ap (λ (es : List Entry). slice_get es k) (sym window) ∙ at) in
      let gone = goes_where l n e (on_that_lane kept.0 e kept.1 item) item in
      not_both (not (goes l n e)) kept.2 (ap not gone)
