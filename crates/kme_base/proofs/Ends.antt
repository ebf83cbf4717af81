-- Loops that change the ends of links one after the other.
use Rattle.std.proofs.Common.{◌≡◌, ◌≢◌, ℕ, zero, suc, ◌+◌, ◌/◌, ◌<◌, ◌≤◌, ◌==◌, ◌&&◌, nat_lt, nat_le, Bool, true, false, cond, List, [], ◌∷◌, ◌++◌, length, get_or, take, drop, set, map, add-one, add-zero, Some, inl, inr, zero-add, refl, sym, ap, ◌∙◌, subst, arith}
use Rattle.std.specs.Prelude.{find}
use Rattle.std.proofs.Math.Seq.{drop-cons, take-append_seam, map-set_same}
use Rattle.std.proofs.lemmas.Bool.{cases_eq, le-leb}
use Rattle.std.proofs.lemmas.List.{get_or_default, set-get_or, length-map, take_more_set, map-set, drop-set-lt, get_or-drop}
use Rattle.std.proofs.lemmas.Grind.{drop_more_same}
use Rattle.std.proofs.lemmas.List.Edits.{map_over_more}
use Rattle.qkd_base.specs.declared.lane.Way.{Way}
use Rattle.qkd_base.specs.declared.lane.Way.TheVariants.{Up, Down}
use Rattle.qkd_base.specs.LaneBytes.{lane_len}
use Rattle.net_model.specs.View.{Port, received_of}
use Rattle.net_model.specs.Fold.{with_block, on_lane}
use Rattle.net_model.specs.declared.fact.Fact.{Fact}
use Rattle.net_model.specs.declared.order.Order.{Order}
use Rattle.net_model.specs.Item.{need}
use Rattle.net_model.specs.World.{Transmission, needs}
use Rattle.qkd_base.specs.Lane.{lane_eq}
use Rattle.qkd_base.specs.declared.lane.Lane.{Lane}
use Rattle.kme_base.specs.Steps.{transmission_of_order}
use Rattle.kme_base.specs.Places.{Place, with_port, ports_in, spares_in, HasRoomIn, AreOf, HasBytes, HasBytesFor, lane_need, need_within, order_need, planned_on, planned_within, with_planned}

place : Port → ℕ → Place
place p n = record { port = p; spare = n }

pub lane_bound : (way : Way) (blocks : ℕ) → blocks ≤ 1024 → lane_len way blocks ≤ 524288
lane_bound Up blocks h = omega (arith, h)
lane_bound Down blocks h = omega (arith, h)

pub all_bytes : (blocks : ℕ) → (lane_len Up blocks + lane_len Down blocks) / 1024 ≡ blocks
all_bytes blocks = omega arith

-- One more end is changed.
pub each_step : (f : Port → Port) (xs now : List Place) (i : ℕ) (d x : Place) → i < length xs → length now ≡ length xs → now ≡ map (with_port f) (take i xs) ++ drop i xs → x.port ≡ f (get_or now i d).port → x.spare ≡ (get_or now i d).spare → set now i x ≡ map (with_port f) (take (i + 1) xs) ++ drop (i + 1) xs
unfolding place
each_step f xs now i d x below long so_far port spare =
    ap (λ (y : Place). set now i y) (same x (get_or now i d) port spare)
    ∙ map_over_more (with_port f) xs now i (get_or now i d) below so_far (get_or_default now i d (get_or now i d) (omega (arith, below, long)))
  where
    same : (x y : Place) → x.port ≡ f y.port → x.spare ≡ y.spare → x ≡ with_port f y
    same x y p n = ap (λ (q : Port). place q x.spare) p ∙ ap (place (f y.port)) n

-- If the end at i is not the one sought, the search goes on at i + 1.

pub not_here : (p : Port → Bool) (xs : List Place) (i : ℕ) (d : Place) → i < length xs → find p (ports_in xs) ≡ find p (ports_in (drop i xs)) → p (get_or xs i d).port ≡ false → find p (ports_in xs) ≡ find p (ports_in (drop (i + 1) xs))
not_here p xs i d below so_far no' =
    so_far
    ∙ ap (λ zs. find p (ports_in zs)) (drop-cons xs i d below)
    ∙ ap (λ b. cond b (Some (get_or xs i d).port) (find p (ports_in (drop (suc i) xs)))) no'
    ∙ ap (λ (k : ℕ). find p (ports_in (drop k xs))) (sym (add-one i))

pub found_here : (p : Port → Bool) (xs : List Place) (i : ℕ) (d : Place) → i < length xs → find p (ports_in xs) ≡ find p (ports_in (drop i xs)) → p (get_or xs i d).port ≡ true → Some (get_or xs i d).port ≡ find p (ports_in xs)
found_here p xs i d below so_far yes' =
    sym (so_far
    ∙ ap (λ zs. find p (ports_in zs)) (drop-cons xs i d below)
    ∙ ap (λ b. cond b (Some (get_or xs i d).port) (find p (ports_in (drop (suc i) xs)))) yes')

-- what a change of each end does to ports and rooms

pub ports_with : (f : Port → Port) (xs : List Place) → ports_in (map (with_port f) xs) ≡ map f (ports_in xs)
ports_with f [] = refl
ports_with f (x ∷ xs) = ap (λ ps. f x.port ∷ ps) (ports_with f xs)

pub spares_with : (f : Port → Port) (xs : List Place) → spares_in (map (with_port f) xs) ≡ spares_in xs
spares_with f [] = refl
spares_with f (x ∷ xs) = ap (λ ns. x.spare ∷ ns) (spares_with f xs)

pub port_at : (xs : List Place) (i : ℕ) (d : Place) → i < length xs → get_or (ports_in xs) i d.port ≡ (get_or xs i d).port
port_at [] i d below = absurd (omega (arith, below))
port_at (x ∷ xs) zero d below = refl
port_at (x ∷ xs) (suc i) d below = port_at xs i d (omega (arith, below))

-- The first n items of a list that begins with n given items are these items.
pub whole : {A : Type 0} (n : ℕ) (xs ys rest : List A) → length ys ≡ length xs → length xs ≡ n → take n (ys ++ rest) ≡ ys
whole n xs ys rest same long = ap (λ (k : ℕ). take k (ys ++ rest)) (sym (same ∙ long)) ∙ take-append_seam ys rest

-- Room for one more block.

pub unchanged : (xs : List Place) (i : ℕ) (d x : Place) → x ≡ get_or xs i d → set xs i x ≡ xs
unchanged xs i d x same = ap (λ (y : Place). set xs i y) same ∙ set-get_or xs i d

pub room_at : (xs : List Place) (link i : ℕ) (d : Place) → i < length xs → HasRoomIn xs link → (get_or xs i d).port.lane.link ≡ link → 0 < (get_or xs i d).spare
room_at [] link i d below room = absurd (omega (arith, below))
room_at (x ∷ xs) link zero d below room = room.0
room_at (x ∷ xs) link (suc i) d below room = room_at xs link i d (omega (arith, below)) room.1

pub room_set : (xs : List Place) (link i : ℕ) (x : Place) → HasRoomIn xs link → (x.port.lane.link ≡ link → 0 < x.spare) → HasRoomIn (set xs i x) link
room_set [] link i x room here = tt
room_set (y ∷ xs) link zero x room here = (here, room.1)
room_set (y ∷ xs) link (suc i) x room here = (room.0, room_set xs link i x room.1 here)

room_push : (xs : List Place) (link : ℕ) (x : Place) → HasRoomIn xs link → (x.port.lane.link ≡ link → 0 < x.spare) → HasRoomIn (xs ++ x ∷ []) link
room_push [] link x room here = (here, tt)
room_push (y ∷ xs) link x room here = (room.0, room_push xs link x room.1 here)

-- The first i ends have room for one more block of a link, and no room is lost.
pub record IsRoomed (link i : ℕ) (old now : List Place) : Type 0 where
  pub ports : ports_in now ≡ ports_in old
  pub first : HasRoomIn (take i now) link
  pub kept : (other : ℕ) → HasRoomIn old other → HasRoomIn now other

pub roomed_step : (link i : ℕ) (old now : List Place) (d x : Place) → i < length now → IsRoomed link i old now → x.port ≡ (get_or now i d).port → ((get_or now i d).port.lane.link ≡ link → 0 < x.spare) → ((get_or now i d).port.lane.link ≢ link → x.spare ≡ (get_or now i d).spare) → IsRoomed link (i + 1) old (set now i x)
roomed_step link i old now d x below h port here other_link =
    let lane : x.port.lane.link ≡ (get_or now i d).port.lane.link = ap (λ (p : Port). p.lane.link) port in
    record {
      ports = map-set_same (λ (y : Place). y.port) now i x d port ∙ h.ports;
      first = subst (λ ys. HasRoomIn ys link) (sym (take_more_set now i x below)) (room_push (take i now) link x h.first (λ is. here (sym lane ∙ is)));
      kept = λ other room. room_set now other i x (h.kept other room) (λ is. elim (cases_eq (get_or now i d).port.lane.link link) [
        | inl same ↦ here same
        | inr differ ↦ subst (λ (n : ℕ). 0 < n) (sym (other_link differ)) (room_at now other i d below (h.kept other room) (sym lane ∙ is))
      ]);
    }

same_lane : (link number : ℕ) (bytes : List ℕ) (p : Port) → (with_block link number bytes p).lane.link ≡ p.lane.link
same_lane link number bytes p = one_lane ((p.lane.link == link) && (number == length p.blocks) && nat_lt number 1024) _ p refl
  where
    one_lane : (b : Bool) (q p : Port) → q.lane.link ≡ p.lane.link → (cond b q p).lane.link ≡ p.lane.link
    one_lane true q p same = same
    one_lane false q p same = refl

-- The first i ends have taken a block, and the others are unchanged.
pub record IsTaken (link number : ℕ) (bytes : List ℕ) (i : ℕ) (old now : List Place) : Type 0 where
  pub ports : ports_in now ≡ map (with_block link number bytes) (take i (ports_in old)) ++ drop i (ports_in old)
  pub rest : drop i now ≡ drop i old
  pub kept : (other : ℕ) → other ≢ link → HasRoomIn old other → HasRoomIn now other

first_of_drop : (xs : List Place) (i : ℕ) (d : Place) → get_or (drop i xs) 0 d ≡ get_or xs i d
first_of_drop xs i d = get_or-drop i xs 0 d ∙ ap (λ (k : ℕ). get_or xs k d) (add-zero i)

pub taken_room : (link number : ℕ) (bytes : List ℕ) (i : ℕ) (old now : List Place) (d : Place) → i < length old → HasRoomIn old link → IsTaken link number bytes i old now → (get_or now i d).port.lane.link ≡ link → 0 < (get_or now i d).spare
taken_room link number bytes i old now d below room h is =
    let same : get_or now i d ≡ get_or old i d = sym (first_of_drop now i d) ∙ ap (λ ys. get_or ys 0 d) h.rest ∙ first_of_drop old i d in
    subst (λ (x : Place). 0 < x.spare) (sym same) (room_at old link i d below room (ap (λ (x : Place). x.port.lane.link) (sym same) ∙ is))

pub taken_step : (link number : ℕ) (bytes : List ℕ) (i : ℕ) (old now : List Place) (d x : Place) → i < length old → length now ≡ length old → IsTaken link number bytes i old now → x.port ≡ with_block link number bytes (get_or now i d).port → ((get_or now i d).port.lane.link ≢ link → x.spare ≡ (get_or now i d).spare) → IsTaken link number bytes (i + 1) old (set now i x)
taken_step link number bytes i old now d x below long h port other_link =
    let f = with_block link number bytes in
    let lane : x.port.lane.link ≡ (get_or now i d).port.lane.link = ap (λ (p : Port). p.lane.link) port ∙ same_lane link number bytes (get_or now i d).port in
    let within : i < length now = omega (arith, below, long) in
    record {
      ports =
          map-set (λ (y : Place). y.port) now i x
          ∙ ap (λ (p : Port). set (ports_in now) i p) port
          ∙ map_over_more f (ports_in old) (ports_in now) i (get_or now i d).port (omega (arith, below, length-map old (λ (y : Place). y.port))) h.ports
          (sym (port_at now i d within) ∙ get_or_default (ports_in now) i d.port (get_or now i d).port (omega (arith, within, length-map now (λ (y : Place). y.port))));
      rest = drop-set-lt (i + 1) now i x (omega arith) ∙ drop_more_same now old i h.rest;
      kept = λ other differ room. room_set now other i x (h.kept other differ room) (λ is.
          let apart : (get_or now i d).port.lane.link ≢ link = λ e. differ (sym (sym lane ∙ is) ∙ e) in
          subst (λ (n : ℕ). 0 < n) (sym (other_link apart)) (room_at now other i d within (h.kept other differ room) (sym lane ∙ is)));
    }

-- The bytes that orders need.

needs_step : (facts : List Fact) (l : Lane) (t : Transmission) (n m : ℕ) (b : Bool) (ts : List Transmission) → need facts t.item ≡ n → needs facts ts ≡ m → needs facts (cond b (t ∷ ts) ts) ≡ cond b n 0 + m
needs_step facts l t n m true ts first rest = ap (λ k. k + needs facts ts) first ∙ ap (λ k. n + k) rest
needs_step facts l t n m false ts first rest = rest ∙ sym (zero-add m)

-- The bytes that orders need by the facts are the bytes that they spend.
pub needs_are : (facts : List Fact) (l : Lane) (orders : List Order) → AreOf facts orders → needs facts (on_lane l (map transmission_of_order orders)) ≡ lane_need l orders
needs_are facts l [] h = refl
needs_are facts l (o ∷ os) h = needs_step facts l (transmission_of_order o) (order_need o) (lane_need l os) (lane_eq o.lane l) (on_lane l (map transmission_of_order os)) h.0 (needs_are facts l os h.1)

-- If the bytes are there, all of them are planned.

pub all_planned : (l : Lane) (n : ℕ) (ports : List Port) → HasBytes l n ports → map (planned_within l n) ports ≡ map (planned_on l n) ports
all_planned l n [] h = refl
all_planned l n (p ∷ ps) h =
    ap (λ q. q ∷ map (planned_within l n) ps) (one (lane_eq p.lane l) refl)
    ∙ ap (λ qs. planned_on l n p ∷ qs) (all_planned l n ps h.1)
  where
    one : (b : Bool) → lane_eq p.lane l ≡ b → planned_within l n p ≡ planned_on l n p
    one true is = ap (λ (c : Bool). cond (lane_eq p.lane l && c) (with_planned n p) p) (le-leb (p.planned + n) (received_of p) (h.0 is)) ∙ ap (λ (c : Bool). cond (c && true) (with_planned n p) p) is ∙ sym (ap (λ (c : Bool). cond c (with_planned n p) p) is)
    one false is = ap (λ (c : Bool). cond (c && nat_le (p.planned + n) (received_of p)) (with_planned n p) p) is ∙ sym (ap (λ (c : Bool). cond c (with_planned n p) p) is)

pub planned_needs : (facts : List Fact) (orders : List Order) (ports : List Port) → AreOf facts orders → HasBytesFor orders ports → map (need_within orders) ports ≡ map (λ p. with_planned (needs facts (on_lane p.lane (map transmission_of_order orders))) p) ports
planned_needs facts orders [] h room = refl
planned_needs facts orders (p ∷ ps) h room =
    ap (λ b. cond b (with_planned (lane_need p.lane orders) p) p ∷ map (need_within orders) ps) (le-leb (p.planned + lane_need p.lane orders) (received_of p) room.0)
    ∙ ap (λ n. with_planned n p ∷ map (need_within orders) ps) (sym (needs_are facts p.lane orders h))
    ∙ ap (λ qs. with_planned (needs facts (on_lane p.lane (map transmission_of_order orders))) p ∷ qs) (planned_needs facts orders ps h room.1)
