-- What must be sent from a place on, and what a draft makes of it.
use Rattle.std.proofs.Common.{◌≡◌, ℕ, zero, suc, ◌+◌, ◌<◌, ◌≤◌, Bool, true, false, List, [], ◌∷◌, ◌++◌, length, drop, refl, sym, ◌∙◌, ap, arith, Some, None}
use Rattle.net_model.specs.Item.{payload, need}
use Rattle.net_model.specs.Plan.{spelled_order}
use Rattle.std.specs.Prelude.{nat_lt, map, filter, slice_get, not, option_map, if◌then◌else◌}
use Rattle.qkd_base.specs.Name.{Name}
use Rattle.qkd_base.specs.Lane.{reverse_lane}
use Rattle.qkd_base.specs.declared.lane.Lane.{Lane}
use Rattle.net_model.specs.declared.fact.Fact.{Fact}
use Rattle.net_model.specs.Table.{name_of}
use Rattle.net_model.specs.World.{PendingAck, Transmission, Volatile}
use Rattle.relay_core.specs.Firsts.{IsFirstFrom, IsNoneFrom}
use Rattle.relay_core.specs.Index.{is_owed_to}
use Rattle.relay_core.specs.Knowledge.{Knowledge}
use Rattle.resend_window.specs.Kept.{Kept, pending_from}
use Rattle.kme_relay.specs.declared.draft.Draft.{Draft}
use Rattle.kme_relay.specs.Wanted.{ack_on, data_on, is_awaited, is_held, not_awaited, acks_from, facts_from, names_owed}
use Rattle.kme_relay.specs.Drafts.{with_one, with_all}

-- the first item that passes a test, followed by the others that pass

shifted : {A : Type 0} (t : A → Bool) (y : A) (ys : List A) (from place : ℕ) → IsFirstFrom t (y ∷ ys) (suc from) (suc place) → IsFirstFrom t ys from place
shifted t y ys from place first = record {
  behind = let b = first.behind in omega arith;
  item = first.item;
  there = first.there;
  passes = first.passes;
  before = λ p x lt gt g. first.before (suc p) x (omega arith) (omega arith) g;
}

started : {A : Type 0} (t : A → Bool) (y : A) (ys : List A) (place : ℕ) → IsFirstFrom t (y ∷ ys) zero (suc place) → (t y ≡ false) × IsFirstFrom t ys zero place
started t y ys place first = (
  first.before 0 y (omega arith) (omega arith) refl,
  record {
    behind = omega arith;
    item = first.item;
    there = first.there;
    passes = first.passes;
    before = λ p x lt gt g. first.before (suc p) x (omega arith) (omega arith) g;
  },
)

pub first_filter : {A : Type 0} (t : A → Bool) (xs : List A) (from place : ℕ) (x : A) → IsFirstFrom t xs from place → slice_get xs place ≡ Some x → filter t (drop from xs) ≡ x ∷ filter t (drop (suc place) xs)
first_filter t [] from place x first there = cc
first_filter {A} t (y ∷ ys) zero zero x first there =
    let is : y ≡ x = cc in
    let item : Some first.item ≡ Some x = sym first.there ∙ there in
    let same : first.item ≡ x = cc in
    ap (λ (b : Bool). if b then y ∷ filter t ys else filter t ys) (ap t (is ∙ sym same) ∙ first.passes) ∙ ap (λ (z : A). z ∷ filter t ys) is
first_filter {A} t (y ∷ ys) zero (suc place) x first there =
    let s = started t y ys place first in
    ap (λ (b : Bool). if b then y ∷ filter t ys else filter t ys) s.0 ∙ first_filter t ys zero place x s.1 there
first_filter t (y ∷ ys) (suc from) zero x first there = absurd (let b = first.behind in omega arith)
first_filter t (y ∷ ys) (suc from) (suc place) x first there = first_filter t ys from place x (shifted t y ys from place first) there

pub none_filter : {A : Type 0} (t : A → Bool) (xs : List A) (from : ℕ) → IsNoneFrom t xs from → filter t (drop from xs) ≡ []
none_filter t [] zero none = refl
none_filter t [] (suc from) none = refl
none_filter {A} t (y ∷ ys) zero none =
    ap (λ (b : Bool). if b then y ∷ filter t ys else filter t ys) (none.none 0 y (omega arith) refl) ∙ none_filter t ys zero (record { none = λ p x lt g. none.none (suc p) x (omega arith) g })
none_filter t (y ∷ ys) (suc from) none = none_filter t ys from (record { none = λ p x lt g. none.none (suc p) x (omega arith) g })

-- acknowledgements

pub ack_waits : (w : Kept) (l : Lane) (from : ℕ) (a : PendingAck) (next : ℕ) → pending_from w (reverse_lane l) from ≡ a ∷ pending_from w (reverse_lane l) next → is_awaited w.volatile (ack_on l a) ≡ true →
    acks_from w l from ≡ acks_from w l next
ack_waits w l from a next e waits =
    ap (λ ps. not_awaited w.volatile (map (ack_on l) ps)) e
    ∙ ap (λ (b : Bool). if not b then ack_on l a ∷ acks_from w l next else acks_from w l next) waits

pub ack_goes : (w : Kept) (l : Lane) (from : ℕ) (a : PendingAck) (next : ℕ) → pending_from w (reverse_lane l) from ≡ a ∷ pending_from w (reverse_lane l) next → is_awaited w.volatile (ack_on l a) ≡ false →
    acks_from w l from ≡ ack_on l a ∷ acks_from w l next
ack_goes w l from a next e waits =
    ap (λ ps. not_awaited w.volatile (map (ack_on l) ps)) e
    ∙ ap (λ (b : Bool). if not b then ack_on l a ∷ acks_from w l next else acks_from w l next) waits

pub acks_end : (w : Kept) (l : Lane) (from : ℕ) → pending_from w (reverse_lane l) from ≡ [] → acks_from w l from ≡ []
acks_end w l from e = ap (λ ps. not_awaited w.volatile (map (ack_on l) ps)) e

pub acks_all : (w : Kept) (l : Lane) (ps : List PendingAck) → ps ≡ pending_from w (reverse_lane l) 0 → not_awaited w.volatile (map (ack_on l) ps) ≡ acks_from w l 0
acks_all w l ps e = ap (λ ps. not_awaited w.volatile (map (ack_on l) ps)) e

-- facts

pub record IsOwedAt (k : Knowledge) (to from place : ℕ) (n : Name) : Type 0 where
  pub names : names_owed k to from ≡ n ∷ names_owed k to (place + 1)
  pub within : place < length k.facts
  pub behind : from ≤ place

get_within : {A : Type 0} (xs : List A) (i : ℕ) (x : A) → slice_get xs i ≡ Some x → i < length xs
get_within [] i x h = cc
get_within (y ∷ ys) zero x h = omega arith
get_within (y ∷ ys) (suc i) x h = let lt = get_within ys i x h in omega arith

pub owed_at : (k : Knowledge) (to from place : ℕ) (n : Name) → IsFirstFrom (is_owed_to k.me k.acked to) k.facts from place → Some n ≡ option_map name_of (slice_get k.facts place) → IsOwedAt k to from place n
owed_at k to from place n first named =
    let there : Some n ≡ Some (name_of first.item) = named ∙ ap (option_map name_of) first.there in
    let is : n ≡ name_of first.item = cc in
    let next : suc place ≡ place + 1 = omega arith in
    record {
      names = ap (map name_of) (first_filter (is_owed_to k.me k.acked to) k.facts from place first.item first first.there)
          ∙ ap (λ (m : ℕ). name_of first.item ∷ map name_of (filter (is_owed_to k.me k.acked to) (drop m k.facts))) next
          ∙ ap (λ (m : Name). m ∷ names_owed k to (place + 1)) (sym is);
      within = get_within k.facts place first.item first.there;
      behind = first.behind;
    }

-- a fact that was found has a name
pub no_name : (k : Knowledge) (to from place : ℕ) → IsFirstFrom (is_owed_to k.me k.acked to) k.facts from place → None ≡ option_map name_of (slice_get k.facts place) → ⊥
no_name k to from place first named =
    let u : None ≡ Some (name_of first.item) = named ∙ ap (option_map name_of) first.there in
    let z : ⊥ = cc in z

pub fact_held : (k : Knowledge) (vol : Volatile) (l : Lane) (to from next : ℕ) (n : Name) → names_owed k to from ≡ n ∷ names_owed k to next → is_held vol l n ≡ true → facts_from k vol l to from ≡ facts_from k vol l to next
fact_held k vol l to from next n e held =
    ap (λ ns. not_awaited vol (map (data_on l) (filter (λ n. not (is_held vol l n)) ns))) e
    ∙ ap (λ (b : Bool). not_awaited vol (map (data_on l) (if not b then n ∷ filter (λ n. not (is_held vol l n)) (names_owed k to next) else filter (λ n. not (is_held vol l n)) (names_owed k to next)))) held

pub fact_waits : (k : Knowledge) (vol : Volatile) (l : Lane) (to from next : ℕ) (n : Name) → names_owed k to from ≡ n ∷ names_owed k to next → is_held vol l n ≡ false → is_awaited vol (data_on l n) ≡ true →
    facts_from k vol l to from ≡ facts_from k vol l to next
fact_waits k vol l to from next n e held waits =
    ap (λ ns. not_awaited vol (map (data_on l) (filter (λ n. not (is_held vol l n)) ns))) e
    ∙ ap (λ (b : Bool). not_awaited vol (map (data_on l) (if not b then n ∷ filter (λ n. not (is_held vol l n)) (names_owed k to next) else filter (λ n. not (is_held vol l n)) (names_owed k to next)))) held
    ∙ ap (λ (b : Bool). if not b then data_on l n ∷ facts_from k vol l to next else facts_from k vol l to next) waits

pub fact_goes : (k : Knowledge) (vol : Volatile) (l : Lane) (to from next : ℕ) (n : Name) → names_owed k to from ≡ n ∷ names_owed k to next → is_held vol l n ≡ false → is_awaited vol (data_on l n) ≡ false →
    facts_from k vol l to from ≡ data_on l n ∷ facts_from k vol l to next
fact_goes k vol l to from next n e held waits =
    ap (λ ns. not_awaited vol (map (data_on l) (filter (λ n. not (is_held vol l n)) ns))) e
    ∙ ap (λ (b : Bool). not_awaited vol (map (data_on l) (if not b then n ∷ filter (λ n. not (is_held vol l n)) (names_owed k to next) else filter (λ n. not (is_held vol l n)) (names_owed k to next)))) held
    ∙ ap (λ (b : Bool). if not b then data_on l n ∷ facts_from k vol l to next else facts_from k vol l to next) waits

pub facts_end : (k : Knowledge) (vol : Volatile) (l : Lane) (to from : ℕ) → IsNoneFrom (is_owed_to k.me k.acked to) k.facts from → facts_from k vol l to from ≡ []
facts_end k vol l to from none =
    ap (λ fs. not_awaited vol (map (data_on l) (filter (λ n. not (is_held vol l n)) (map name_of fs)))) (none_filter (is_owed_to k.me k.acked to) k.facts from none)

-- drafts

pub full_stays : (facts : List Fact) (l : Lane) (received : ℕ) (d : Draft) (ts : List Transmission) → d.is_full ≡ true → with_all facts l received d ts ≡ d
full_stays facts l received d [] full = refl
full_stays facts l received d (t ∷ ts) full =
    ap (λ (e : Draft). with_all facts l received e ts) (same d t full) ∙ full_stays facts l received d ts full
  where
    same : (d : Draft) (t : Transmission) → d.is_full ≡ true → with_one facts l received d t ≡ d
    same d t full = ap (λ (b : Bool). if b then d
        else if nat_lt received (d.used + need facts t.item)
        then record d { shorts = d.shorts ++ record { lane = l; used = d.used; need = need facts t.item; received = received } ∷ []; is_full = true }
        else record d { orders = d.orders ++ spelled_order t d.used (payload facts t.item); used = d.used + need facts t.item }) full

pub none_added : (facts : List Fact) (l : Lane) (received : ℕ) (first d : Draft) (all ts : List Transmission) → with_all facts l received first all ≡ with_all facts l received d ts → ts ≡ [] → d ≡ with_all facts l received first all
none_added facts l received first d all ts was e = sym (was ∙ ap (with_all facts l received d) e)

pub one_added : (facts : List Fact) (l : Lane) (received : ℕ) (first d next : Draft) (all ts rest : List Transmission) (t : Transmission) → with_all facts l received first all ≡ with_all facts l received d ts → ts ≡ t ∷ rest →
    next ≡ with_one facts l received d t → with_all facts l received first all ≡ with_all facts l received next rest
one_added facts l received first d next all ts rest t was e one = was ∙ ap (with_all facts l received d) e ∙ ap (λ (x : Draft). with_all facts l received x rest) (sym one)

pub shorter : (ts rest : List Transmission) (t : Transmission) → ts ≡ t ∷ rest → length rest < length ts
shorter ts rest t e = let l = ap (λ xs. length xs) e in omega arith

pub fewer : (ps rest : List PendingAck) (a : PendingAck) → ps ≡ a ∷ rest → length rest < length ps
fewer ps rest a e = let l = ap (λ xs. length xs) e in omega arith
