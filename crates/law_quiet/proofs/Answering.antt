-- What leaves the acknowledgements of a node and the facts in its window as they were.
use Rattle.std.proofs.Common.{◌≡◌, ℕ, Bool, true, not, ◌&&◌, List, [], ◌∷◌, ◌++◌, map, refl, ◌∙◌, ap}
use Rattle.std.specs.Prelude.{◌==◌, is_some, if◌then◌else◌}
use Rattle.std.specs.List.{list_any, AllByRecursion}
use Rattle.qkd_base.specs.Lane.{lane_eq}
use Rattle.qkd_base.specs.Name.{Name}
use Rattle.qkd_base.specs.declared.lane.Lane.{Lane}
use Rattle.net_model.specs.declared.placing.Placing.{Placing}
use Rattle.net_model.specs.declared.record.Record.{Record}
use Rattle.net_model.specs.declared.record.Record.TheVariants.{Block as Block', Lease, Learned, Acked, Handed, Closed, Bare}
use Rattle.net_model.specs.Site.{Site}
use Rattle.net_model.specs.World.{Durable, Entry, PendingAck, Volatile}
use Rattle.net_model.specs.Records.{block_taken, apply_record, replay}
use Rattle.net_model.specs.Window.{transmission_eq, answers_frame, mark_due, acknowledge, stands_at, record_retransmission, transmission_of, entry_of, is_acked_item, complete_one, complete}
use Rattle.law_base.proofs.Base.{by_test}
use Rattle.law_base.proofs.Lists.{all_both}
use Rattle.law_locality.proofs.Managers.{elsewhere}
use Rattle.law_quiet.specs.Flying.{IsUnanswered}
use Rattle.law_quiet.proofs.ChainedEvents.{IsOfEvents}

-- Batches of events acknowledge nothing, and what one node is told changes no other.

abbrev pub AcksNothing : Record → Type 0
AcksNothing (Acked n) = ⊥
AcksNothing _ = Unit {0}

pub acks_none : (s : Site) → IsOfEvents s AcksNothing
acks_none s = record { learned = λ f chain. tt; handed = λ n sae. tt; closed = λ n sae. tt; lease = λ l end. tt }

module _ (s : Site) (v : ℕ) where
  one_leaves : (r : Record) (d : Durable) → AcksNothing r → (apply_record s v r d).acked ≡ d.acked
  unfolding apply_record block_taken
  one_leaves (Block' link number bytes) d none = refl
  one_leaves (Lease lane end) d none = refl
  one_leaves (Learned f) d none = refl
  one_leaves (Acked n) d none = absurd none
  one_leaves (Handed n sae) d none = refl
  one_leaves (Closed n sae) d none = refl
  one_leaves (Bare f) d none = refl

  pub leaves_acked : (rs : List Record) (d : Durable) → AllByRecursion AcksNothing rs → (replay s v rs d).acked ≡ d.acked
  unfolding replay
  leaves_acked [] d none = refl
  leaves_acked (r ∷ rs) d none = leaves_acked rs (apply_record s v r d) none.1 ∙ one_leaves r d none.0

  other_one : (r : Record) (d : Durable) (u : ℕ) → (u ≡ v → ⊥) → (apply_record s v r d).acked u ≡ d.acked u
  unfolding apply_record block_taken
  other_one (Block' link number bytes) d u apart = refl
  other_one (Lease lane end) d u apart = refl
  other_one (Learned f) d u apart = refl
  other_one (Acked n) d u apart = elsewhere d.acked v u (d.acked v ++ n ∷ []) apart
  other_one (Handed n sae) d u apart = refl
  other_one (Closed n sae) d u apart = refl
  other_one (Bare f) d u apart = refl

  pub other_acked : (rs : List Record) (d : Durable) (u : ℕ) → (u ≡ v → ⊥) → (replay s v rs d).acked u ≡ d.acked u
  unfolding replay
  other_acked [] d u apart = refl
  other_acked (r ∷ rs) d u apart = other_acked rs (apply_record s v r d) u apart ∙ other_one r d u apart

-- Changes of entries that keep their items.

pub changed : (acked : List Name) (g : Entry → Entry) → ((e : Entry) → (g e).transmission.item ≡ e.transmission.item) → (es : List Entry) → AllByRecursion (IsUnanswered acked) es →
    AllByRecursion (IsUnanswered acked) (map g es)
changed acked g same [] h = tt
changed acked g same (e ∷ es) h = (ap (is_acked_item acked) (same e) ∙ h.0, changed acked g same es h.1)

pub same_item : (b : Bool) (x e : Entry) → x.transmission.item ≡ e.transmission.item → (if b then x else e).transmission.item ≡ e.transmission.item
same_item b x e h = by_test (λ (y : Entry). y.transmission.item ≡ e.transmission.item) b x e (λ t. h) (λ t. refl)

pub heard_all : (acked : List Name) (vol : Volatile) (l : Lane) (offset : ℕ) (n : Name) → AllByRecursion (IsUnanswered acked) vol.window →
    AllByRecursion (IsUnanswered acked) (acknowledge vol l offset n).window
unfolding acknowledge
heard_all acked vol l offset n h =
    by_test (λ (y : Volatile). AllByRecursion (IsUnanswered acked) y.window) (list_any (λ (e : Entry). answers_frame l offset e.transmission) vol.window) _ _
    (λ t. changed acked (mark_due l offset) (λ e. same_item (answers_frame l offset e.transmission) (record e { due = true }) e refl) vol.window h)
    (λ t. by_test (λ (y : Volatile). AllByRecursion (IsUnanswered acked) y.window) (list_any (λ (a : PendingAck). lane_eq a.lane l && (a.offset == offset)) vol.pending_acks) _ _ (λ k. h) (λ k. h))

noted_one : (acked : List Name) (vol : Volatile) (p : Placing) → AllByRecursion (IsUnanswered acked) vol.window → AllByRecursion (IsUnanswered acked) (complete_one acked vol p).window
unfolding complete_one
noted_one acked vol p h =
    by_test (λ (y : Volatile). AllByRecursion (IsUnanswered acked) y.window) p.fresh _ _
    (λ fresh. by_test (λ (y : Volatile). AllByRecursion (IsUnanswered acked) y.window) (list_any (transmission_eq (transmission_of p)) vol.awaiting && not (list_any (stands_at p) vol.window)) _ _
    (λ t. by_test (AllByRecursion (IsUnanswered acked)) (is_acked_item acked (transmission_of p).item) vol.window (vol.window ++ entry_of p ∷ []) (λ k. h)
    (λ k. all_both (IsUnanswered acked) vol.window (entry_of p ∷ []) h (k, tt))) (λ t. h))
    (λ again. changed acked (record_retransmission p)
    (λ e. same_item (stands_at p e) (if is_some p.number then record e { number = p.number } else record e { due = true }) e
    (by_test (λ (y : Entry). y.transmission.item ≡ e.transmission.item) (is_some p.number) (record e { number = p.number }) (record e { due = true }) (λ t. refl) (λ t. refl))) vol.window h)

pub noted_all : (acked : List Name) (ps : List Placing) (vol : Volatile) → AllByRecursion (IsUnanswered acked) vol.window → AllByRecursion (IsUnanswered acked) (complete acked vol ps).window
unfolding complete
noted_all acked [] vol h = h
noted_all acked (p ∷ ps) vol h = noted_all acked ps (complete_one acked vol p) (noted_one acked vol p h)
