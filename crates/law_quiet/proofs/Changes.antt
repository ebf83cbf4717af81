-- What changes of window entries leave as it was: their transmissions, and so the frames that they answer.
use Rattle.std.proofs.Common.{◌≡◌, ℕ, Bool, ◌&&◌, ◌||◌, List, [], ◌∷◌, map, refl, sym, ◌∙◌, ap, subst}
use Rattle.std.specs.Prelude.{◌==◌, is_some}
use Rattle.std.specs.List.{list_any, AllByRecursion}
use Rattle.qkd_base.specs.Lane.{lane_eq}
use Rattle.qkd_base.specs.declared.lane.Lane.{Lane}
use Rattle.net_model.specs.declared.placing.Placing.{Placing}
use Rattle.net_model.specs.World.{Transmission, Entry}
use Rattle.net_model.specs.Window.{answers_frame, mark_due, is_data_entry, age, sent_again, stands_at, record_retransmission}
use Rattle.law_base.proofs.Base.{by_test}

-- The changed entry sends the same.
abbrev pub SendsSame : (Entry → Entry) → Type 0
SendsSame g = (e : Entry) → (g e).transmission ≡ e.transmission

pub marked_same : (l : Lane) (offset : ℕ) → SendsSame (mark_due l offset)
marked_same l offset e = by_test (λ (x : Entry). x.transmission ≡ e.transmission) (answers_frame l offset e.transmission) _ e (λ t. refl) (λ t. refl)

pub aged_same : SendsSame age
aged_same e = by_test (λ (x : Entry). x.transmission ≡ e.transmission) (is_data_entry e) _ e (λ t. refl) (λ t. refl)

pub again_same : (out : List Entry) → SendsSame (sent_again out)
again_same out e =
    by_test (λ (x : Entry). x.transmission ≡ e.transmission) (list_any (λ (x : Entry). lane_eq x.transmission.lane e.transmission.lane && (x.offset == e.offset)) out) _ e (λ t. refl) (λ t. refl)

pub noted_same : (p : Placing) → SendsSame (record_retransmission p)
noted_same p e =
    by_test (λ (x : Entry). x.transmission ≡ e.transmission) (stands_at p e) _ e
    (λ t. by_test (λ (x : Entry). x.transmission ≡ e.transmission) (is_some p.number) _ _ (λ k. refl) (λ k. refl)) (λ t. refl)

-- What holds of each transmission, and what a test finds among them, stays so.

pub all_sent : (P : Transmission → Type 0) (g : Entry → Entry) → SendsSame g → (es : List Entry) → AllByRecursion (λ (e : Entry). P e.transmission) es →
    AllByRecursion (λ (e : Entry). P e.transmission) (map g es)
all_sent P g same [] h = tt
all_sent P g same (e ∷ es) h = (subst P (sym (same e)) h.0, all_sent P g same es h.1)

pub any_sent : (p : Transmission → Bool) (g : Entry → Entry) → SendsSame g → (es : List Entry) → list_any (λ (e : Entry). p e.transmission) (map g es) ≡ list_any (λ (e : Entry). p e.transmission) es
any_sent p g same [] = refl
any_sent p g same (e ∷ es) = ap (λ (b : Bool). b || list_any (λ (x : Entry). p x.transmission) (map g es)) (ap p (same e)) ∙ ap (λ (b : Bool). p e.transmission || b) (any_sent p g same es)
