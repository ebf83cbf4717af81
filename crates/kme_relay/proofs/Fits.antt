-- A draft has the orders that fit, and the first one that doesn't.
use Rattle.std.proofs.Common.{◌≡◌, ℕ, suc, ◌+◌, ◌≤◌, Bool, true, false, List, [], ◌∷◌, ◌++◌, refl, sym, ◌∙◌, ap, subst, arith, append_assoc, Option, Some}
use Rattle.std.specs.Prelude.{nat_lt, map, filter, slice_get, not, if◌then◌else◌}
use Rattle.std.proofs.lemmas.Bool.Decides.{nat_tests}
use Rattle.qkd_base.specs.Name.{Name, name_eq}
use Rattle.qkd_base.specs.Lane.{lane_eq, reverse_lane}
use Rattle.qkd_base.specs.declared.lane.Lane.{Lane}
use Rattle.net_model.specs.declared.fact.Fact.{Fact}
use Rattle.net_model.specs.declared.payload.Payload.{Payload}
use Rattle.net_model.specs.declared.payload.Payload.TheVariants.{Data, Ack}
use Rattle.net_model.specs.Table.{name_of}
use Rattle.net_model.specs.Item.{Item, DataItem, payload, need, data_payload}
use Rattle.net_model.specs.Relay.{owed}
use Rattle.net_model.specs.Site.{Site, receiver}
use Rattle.net_model.specs.View.{View}
use Rattle.net_model.specs.World.{Transmission, Volatile, needs}
use Rattle.net_model.specs.Plan.{spelled_order, spelled_orders, that_fit, short_on, wanted_on}
use Rattle.kme_base.specs.Steps.{item_of_payload, transmission_of_order}
use Rattle.relay_core.specs.Index.{is_owed_to}
use Rattle.relay_core.specs.Knowledge.{Knowledge}
use Rattle.relay_core.proofs.Kept.{somewhere}
use Rattle.relay_core.proofs.Firsts.{find_hits}
use Rattle.relay_core.proofs.Names.{name_eq_from, name_eq_same}
use Rattle.resend_window.specs.Kept.{Kept}
use Rattle.kme_relay.specs.declared.draft.Draft.{Draft}
use Rattle.kme_relay.specs.Keeps.{Knows}
use Rattle.kme_relay.specs.Wanted.{ack_on, data_on, is_awaited, is_held, not_awaited, acks_wanted, facts_from}
use Rattle.kme_relay.specs.Drafts.{with_one, with_all}
use Rattle.kme_relay.proofs.Rests.{full_stays}

-- the draft after these transmissions

pub record IsFilled (facts : List Fact) (l : Lane) (received : ℕ) (old new : Draft) (ts : List Transmission) : Type 0 where
  pub orders : new.orders ≡ old.orders ++ spelled_orders facts old.used (that_fit facts received old.used ts)
  pub shorts : new.shorts ≡ old.shorts ++ short_on facts l received old.used ts
  pub used : new.used ≡ old.used + needs facts (that_fit facts received old.used ts)

append_none : {A : Type 0} (xs : List A) → xs ≡ xs ++ []
append_none [] = refl
append_none (x ∷ xs) = ap (λ ys. x ∷ ys) (append_none xs)

closed_with : List Fact → Lane → ℕ → Draft → Transmission → Draft
closed_with facts l received d t = record d { shorts = d.shorts ++ record { lane = l; used = d.used; need = need facts t.item; received = received } ∷ []; is_full = true }

more_with : List Fact → Draft → Transmission → Draft
more_with facts d t = record d { orders = d.orders ++ spelled_order t d.used (payload facts t.item); used = d.used + need facts t.item }

one_closed : (facts : List Fact) (l : Lane) (received : ℕ) (d : Draft) (t : Transmission) → d.is_full ≡ false → nat_lt received (d.used + need facts t.item) ≡ true → with_one facts l received d t ≡ closed_with facts l received d t
unfolding closed_with more_with
one_closed facts l received d t begun full =
    ap (λ (b : Bool). if b then d else if nat_lt received (d.used + need facts t.item) then closed_with facts l received d t else more_with facts d t) begun
    ∙ ap (λ (b : Bool). if b then closed_with facts l received d t else more_with facts d t) full

one_more : (facts : List Fact) (l : Lane) (received : ℕ) (d : Draft) (t : Transmission) → d.is_full ≡ false → nat_lt received (d.used + need facts t.item) ≡ false → with_one facts l received d t ≡ more_with facts d t
unfolding closed_with more_with
one_more facts l received d t begun fits =
    ap (λ (b : Bool). if b then d else if nat_lt received (d.used + need facts t.item) then closed_with facts l received d t else more_with facts d t) begun
    ∙ ap (λ (b : Bool). if b then closed_with facts l received d t else more_with facts d t) fits

pub filled : (facts : List Fact) (l : Lane) (received : ℕ) (d : Draft) (ts : List Transmission) → d.is_full ≡ false → IsFilled facts l received d (with_all facts l received d ts) ts
unfolding closed_with more_with
filled facts l received d [] begun = record { orders = append_none d.orders; shorts = append_none d.shorts; used = omega arith }
filled facts l received d (t ∷ ts) begun = by (nat_lt received (d.used + need facts t.item)) refl (filled facts l received (more_with facts d t) ts begun)
  where
    by : (b : Bool) → nat_lt received (d.used + need facts t.item) ≡ b → IsFilled facts l received (more_with facts d t) (with_all facts l received (more_with facts d t) ts) ts →
        IsFilled facts l received d (with_all facts l received (with_one facts l received d t) ts) (t ∷ ts)
    by true full rest =
        let one = one_closed facts l received d t begun full in
        let all : with_all facts l received (with_one facts l received d t) ts ≡ closed_with facts l received d t = ap (λ (e : Draft). with_all facts l received e ts) one ∙ full_stays facts l received (closed_with facts l received d t) ts refl in
        let fit : that_fit facts received d.used (t ∷ ts) ≡ [] = ap (λ (b : Bool). if b then [] else t ∷ that_fit facts received (d.used + need facts t.item) ts) full in
        let none : 0 ≡ needs facts (that_fit facts received d.used (t ∷ ts)) = ap (needs facts) (sym fit) in
        record {
          orders = ap (λ (e : Draft). e.orders) all ∙ append_none d.orders ∙ ap (λ (xs : List Transmission). d.orders ++ spelled_orders facts d.used xs) (sym fit);
          shorts = ap (λ (e : Draft). e.shorts) all
              ∙ ap (λ (b : Bool). d.shorts ++ (if b then record { lane = l; used = d.used; need = need facts t.item; received = received } ∷ [] else short_on facts l received (d.used + need facts t.item) ts)) (sym full);
          used = ap (λ (e : Draft). e.used) all ∙ (let z : d.used ≡ d.used + 0 = omega arith in z) ∙ ap (λ n. d.used + n) none;
        }
    by false fits rest =
        let one = one_more facts l received d t begun fits in
        let all : with_all facts l received (with_one facts l received d t) ts ≡ with_all facts l received (more_with facts d t) ts = ap (λ (e : Draft). with_all facts l received e ts) one in
        let fit : t ∷ that_fit facts received (d.used + need facts t.item) ts ≡ that_fit facts received d.used (t ∷ ts) =
        sym (ap (λ (b : Bool). if b then [] else t ∷ that_fit facts received (d.used + need facts t.item) ts) fits) in
        record {
          orders = ap (λ (e : Draft). e.orders) all ∙ rest.orders
              ∙ append_assoc d.orders (spelled_order t d.used (payload facts t.item)) (spelled_orders facts (d.used + need facts t.item) (that_fit facts received (d.used + need facts t.item) ts))
              ∙ ap (λ (xs : List Transmission). d.orders ++ spelled_orders facts d.used xs) fit;
          shorts = ap (λ (e : Draft). e.shorts) all ∙ rest.shorts
              ∙ ap (λ (b : Bool). d.shorts ++ (if b then record { lane = l; used = d.used; need = need facts t.item; received = received } ∷ [] else short_on facts l received (d.used + need facts t.item) ts)) (sym fits);
          used = ap (λ (e : Draft). e.used) all ∙ rest.used
              ∙ (let n = need facts t.item in let m = needs facts (that_fit facts received (d.used + need facts t.item) ts) in let z : (d.used + n) + m ≡ d.used + (n + m) = omega arith in z)
              ∙ ap (λ (xs : List Transmission). d.used + needs facts xs) fit;
        }

-- the draft uses at most the bytes received
pub fits_in : (facts : List Fact) (l : Lane) (received : ℕ) (d : Draft) (ts : List Transmission) → d.used ≤ received → (with_all facts l received d ts).used ≤ received
fits_in facts l received d [] h = h
fits_in facts l received d (t ∷ ts) h = fits_in facts l received (with_one facts l received d t) ts (one d.is_full (nat_lt received (d.used + need facts t.item)) refl)
  where
    one : (a b : Bool) → nat_lt received (d.used + need facts t.item) ≡ b → (if a then d
        else if b then record d { shorts = d.shorts ++ record { lane = l; used = d.used; need = need facts t.item; received = received } ∷ []; is_full = true }
        else record d { orders = d.orders ++ spelled_order t d.used (payload facts t.item); used = d.used + need facts t.item }).used ≤ received
    one true b e = h
    one false true e = h
    one false false e = grind (arith, nat_tests)

pub with_both : (facts : List Fact) (l : Lane) (received : ℕ) (d : Draft) (ts us : List Transmission) → with_all facts l received d (ts ++ us) ≡ with_all facts l received (with_all facts l received d ts) us
with_both facts l received d [] us = refl
with_both facts l received d (t ∷ ts) us = with_both facts l received (with_one facts l received d t) ts us

-- what must be sent on a lane

filter_append : {A : Type 0} (t : A → Bool) (xs ys : List A) → filter t (xs ++ ys) ≡ filter t xs ++ filter t ys
filter_append t [] ys = refl
filter_append {A} t (x ∷ xs) ys = elim (t x) as (λ b. (if b then x ∷ filter t (xs ++ ys) else filter t (xs ++ ys)) ≡ (if b then x ∷ filter t xs else filter t xs) ++ filter t ys) [
  | true ↦ ap (λ zs. x ∷ zs) (filter_append t xs ys)
  | false ↦ filter_append t xs ys
]

wanted_by : Volatile → List Fact → List Name → ℕ → Lane → ℕ → List Transmission
wanted_by vol facts acked me l to =
    not_awaited vol (map (ack_on l) (filter (λ a. lane_eq a.lane (reverse_lane l)) vol.pending_acks)
    ++ map (data_on l) (filter (λ n. not (is_held vol l n)) (map name_of (filter (is_owed_to me acked to) facts))))

wanted_is : (site : Site) (v : View) (l : Lane) → wanted_on site v l ≡ wanted_by v.volatile v.facts v.acked v.me l (receiver site l)
unfolding wanted_by wanted_on owed
wanted_is site v l = refl

pub wanted : (site : Site) (v : View) (l : Lane) (k : Knowledge) (w : Kept) → Knows v k w → wanted_on site v l ≡ acks_wanted w.volatile l ++ facts_from k w.volatile l (receiver site l) 0
unfolding wanted_by
wanted site v l k w knows =
    wanted_is site v l
    ∙ (let vol = knows.volatile in let facts = knows.facts in let acked = knows.acked in let me = knows.me in λ i. wanted_by (vol i) (facts i) (acked i) (me i) l (receiver site l))
    ∙ filter_append (λ t. not (is_awaited w.volatile t)) (map (ack_on l) (filter (λ a. lane_eq a.lane (reverse_lane l)) w.volatile.pending_acks))
    (map (data_on l) (filter (λ n. not (is_held w.volatile l n)) (map name_of (filter (is_owed_to k.me k.acked (receiver site l)) k.facts))))

-- each order sends what was wanted

pub record Spells (facts : List Fact) (t : Transmission) : Type 0 where
  pub spelled : Payload
  pub is : payload facts t.item ≡ Some spelled
  pub sends : item_of_payload spelled ≡ t.item

pub Each : {A : Type 0} → (A → Type 0) → List A → Type 0
Each P [] = Unit {0}
Each P (x ∷ xs) = P x × Each P xs

each_filter : {A : Type 0} (P : A → Type 0) (t : A → Bool) (xs : List A) → Each P xs → Each P (filter t xs)
unfolding Each
each_filter P t [] all = tt
each_filter {A} P t (x ∷ xs) all = elim (t x) as (λ b. Each P (if b then x ∷ filter t xs else filter t xs)) [ true ↦ (all.0, each_filter P t xs all.1) | false ↦ each_filter P t xs all.1 ]

each_append : {A : Type 0} (P : A → Type 0) (xs ys : List A) → Each P xs → Each P ys → Each P (xs ++ ys)
unfolding Each
each_append P [] ys a b = b
each_append P (x ∷ xs) ys a b = (a.0, each_append P xs ys a.1 b)

each_map : {A B : Type 0} (P : B → Type 0) (f : A → B) (xs : List A) → Each (λ x. P (f x)) xs → Each P (map f xs)
unfolding Each
each_map P f [] all = tt
each_map P f (x ∷ xs) all = (all.0, each_map P f xs all.1)

each_all : {A : Type 0} (P : A → Type 0) (xs : List A) → ((x : A) → P x) → Each P xs
unfolding Each
each_all P [] f = tt
each_all P (x ∷ xs) f = (f x, each_all P xs f)

each_at : {A : Type 0} (P : A → Type 0) (xs : List A) → ((i : ℕ) (x : A) → slice_get xs i ≡ Some x → P x) → Each P xs
unfolding Each
each_at P [] f = tt
each_at P (x ∷ xs) f = (f 0 x refl, each_at P xs (λ i y h. f (suc i) y h))

known_spells : (facts : List Fact) (l : Lane) (i : ℕ) (f : Fact) → slice_get facts i ≡ Some f → Spells facts (data_on l (name_of f))
known_spells facts l i f there =
    let at = somewhere (λ g. name_eq (name_of g) (name_of f)) facts (find_hits (λ g. name_eq (name_of g) (name_of f)) facts i f there (name_eq_same (name_of f))) in
    record {
      spelled = Data at.item;
      is = ap data_payload at.found;
      sends = ap DataItem (name_eq_from (name_of at.item) (name_of f) at.passes);
    }

wanted_spells_by : (vol : Volatile) (facts : List Fact) (acked : List Name) (me : ℕ) (l : Lane) (to : ℕ) → Each (Spells facts) (wanted_by vol facts acked me l to)
unfolding wanted_by
wanted_spells_by vol facts acked me l to =
    each_filter (Spells facts) (λ t. not (is_awaited vol t)) (map (ack_on l) (filter (λ a. lane_eq a.lane (reverse_lane l)) vol.pending_acks)
    ++ map (data_on l) (filter (λ n. not (is_held vol l n)) (map name_of (filter (is_owed_to me acked to) facts))))
    (each_append (Spells facts) (map (ack_on l) (filter (λ a. lane_eq a.lane (reverse_lane l)) vol.pending_acks)) (map (data_on l) (filter (λ n. not (is_held vol l n)) (map name_of (filter (is_owed_to me acked to) facts))))
    (each_map (Spells facts) (ack_on l) (filter (λ a. lane_eq a.lane (reverse_lane l)) vol.pending_acks)
    (each_all (λ a. Spells facts (ack_on l a)) (filter (λ a. lane_eq a.lane (reverse_lane l)) vol.pending_acks) (λ a. record { spelled = Ack a.name; is = refl; sends = refl })))
    (each_map (Spells facts) (data_on l) (filter (λ n. not (is_held vol l n)) (map name_of (filter (is_owed_to me acked to) facts)))
    (each_filter (λ n. Spells facts (data_on l n)) (λ n. not (is_held vol l n)) (map name_of (filter (is_owed_to me acked to) facts))
    (each_map (λ n. Spells facts (data_on l n)) name_of (filter (is_owed_to me acked to) facts)
    (each_filter (λ f. Spells facts (data_on l (name_of f))) (is_owed_to me acked to) facts (each_at (λ f. Spells facts (data_on l (name_of f))) facts (known_spells facts l)))))))

wanted_spells : (site : Site) (v : View) (l : Lane) → Each (Spells v.facts) (wanted_on site v l)
wanted_spells site v l = subst (Each (Spells v.facts)) (sym (wanted_is site v l)) (wanted_spells_by v.volatile v.facts v.acked v.me l (receiver site l))

each_fit : (facts : List Fact) (received used : ℕ) (ts : List Transmission) → Each (Spells facts) ts → Each (Spells facts) (that_fit facts received used ts)
unfolding Each
each_fit facts received used [] all = tt
each_fit facts received used (t ∷ ts) all =
    elim (nat_lt received (used + need facts t.item)) as (λ b. Each (Spells facts) (if b then [] else t ∷ that_fit facts received (used + need facts t.item) ts)) [
      | true ↦ tt
      | false ↦ (all.0, each_fit facts received (used + need facts t.item) ts all.1)
    ]

spelled_sends : (facts : List Fact) (used : ℕ) (ts : List Transmission) → Each (Spells facts) ts → map transmission_of_order (spelled_orders facts used ts) ≡ ts
unfolding Each
spelled_sends facts used [] all = refl
spelled_sends facts used (t ∷ ts) all =
    ap (λ (o : Option Payload). map transmission_of_order (spelled_order t used o ++ spelled_orders facts (used + need facts t.item) ts)) all.0.is
    ∙ ap (λ (i : Item). let u : Transmission = record { lane = t.lane; item = i; received_offset = t.received_offset } in u ∷ map transmission_of_order (spelled_orders facts (used + need facts t.item) ts)) all.0.sends
    ∙ ap (λ us. t ∷ us) (spelled_sends facts (used + need facts t.item) ts all.1)

pub orders_send : (site : Site) (v : View) (l : Lane) (received used : ℕ) →
    map transmission_of_order (spelled_orders v.facts used (that_fit v.facts received used (wanted_on site v l))) ≡ that_fit v.facts received used (wanted_on site v l)
orders_send site v l received used = spelled_sends v.facts used (that_fit v.facts received used (wanted_on site v l)) (each_fit v.facts received used (wanted_on site v l) (wanted_spells site v l))
