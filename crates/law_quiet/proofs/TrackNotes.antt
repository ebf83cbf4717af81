-- A manager is told what became of its frames. So each frame that was put again gets its new number, or is due.
use Rattle.std.proofs.Common.{◌≡◌, ℕ, Bool, true, not, ◌&&◌, List, [], ◌∷◌, ◌++◌, map, refl, sym, ◌∙◌, ap, ◌⊎◌, inl, inr, Option, Some, None}
use Rattle.std.specs.Prelude.{◌==◌, suc, zero, slice_get, is_some, is_none, if◌then◌else◌}
use Rattle.std.specs.List.{list_any, AllByRecursion}
use Rattle.qkd_base.specs.Name.{Name}
use Rattle.qkd_base.specs.Lane.{lane_eq}
use Rattle.qkd_base.specs.declared.lane.Lane.{Lane}
use Rattle.net_model.specs.declared.placing.Placing.{Placing}
use Rattle.net_model.specs.Item.{Item}
use Rattle.net_model.specs.Site.{sender}
use Rattle.net_model.specs.World.{Network, World, Allocation, Entry, Volatile, Transmission}
use Rattle.net_model.specs.Window.{transmission_eq, stands_at, record_retransmission, transmission_of, entry_of, is_acked_item, complete_one}
use Rattle.net_model.specs.Windows.{IsEntry, IsPlaced}
use Rattle.net_model.specs.Invariant.{Conserved}
use Rattle.law_base.proofs.Base.{by_test, and_left, and_right, and_both, or_cases, or_left, or_right, not_both, eq_same, eq_from, lane_eq_from}
use Rattle.law_base.proofs.Lists.{all_both}
use Rattle.law_base.proofs.Owners.{same_frame}
use Rattle.law_quiet.proofs.Tracks.{tells_again, again_at, IsFollowed, Due, Again, Waits, Done, IsEntryKept, IsPlacingKept, all_more}

module _ (net : Network) (w : World) (c : Conserved net w) (l : Lane) (class : Transmission → Bool) (kind : Item → Bool) (of_kind : (t : Transmission) → class t ≡ true → kind t.item ≡ true) (passed : ℕ → Bool) (done : Item → ℕ → Bool) where
  abbrev again : List Placing → ℕ → Bool
  again ps x = again_at l (w.frames l) (w.outgoing l) ps x

  abbrev Kept : List Placing → Entry → Type 0
  Kept ps e = IsEntryKept l class (again ps) passed done e

  -- What is put again is so by another placing, or by this one.
  again_cases : (p : Placing) (ps : List Placing) (x : ℕ) → again (p ∷ ps) x ≡ true → (tells_again l x p ≡ true) ⊎ (again ps x ≡ true)
  again_cases p ps x is = elim (or_cases (list_any _ (w.outgoing l)) _ is) [
    | inl waits ↦ inr (or_left (list_any _ (w.outgoing l)) _ waits)
    | inr told ↦ elim (or_cases (tells_again l x p) _ told) [ inl here ↦ inl here | inr later ↦ inr (or_right (list_any _ (w.outgoing l)) _ later) ]
  ]

  -- A placing that isn't that of the entry leaves it followed.
  not_by_it : (p : Placing) (ps : List Placing) (e : Entry) → (tells_again l e.offset p ≡ true → ⊥) → IsFollowed (again (p ∷ ps)) passed done e → IsFollowed (again ps) passed done e
  not_by_it p ps e other (Due is) = Due is
  not_by_it p ps e other (Again is) = elim (again_cases p ps e.offset is) [ inl it ↦ absurd (other it) | inr later ↦ Again later ]
  not_by_it p ps e other (Waits number put waits) = Waits number put waits
  not_by_it p ps e other (Done is) = Done is

  one_item : (p : Placing) (e : Entry) → IsPlaced net w (sender net.site l) p → IsEntry net w (sender net.site l) e → stands_at p e ≡ true → (transmission_of p).item ≡ e.transmission.item
  one_item p e placed entry at =
      let lane : e.transmission.lane ≡ p.lane = lane_eq_from e.transmission.lane p.lane (and_left (lane_eq e.transmission.lane p.lane) (e.offset == p.offset) at) in
      let offset : e.offset ≡ p.offset = eq_from e.offset p.offset (and_right (lane_eq e.transmission.lane p.lane) (e.offset == p.offset) at) in
      let there : slice_get (w.frames p.lane) entry.number ≡ Some (record { offset = e.offset; item = e.transmission.item }) =
      ap (λ (m : Lane). slice_get (w.frames m) entry.number) (sym lane) ∙ entry.frame in
      let same : placed.number ≡ entry.number =
      same_frame w.durable.facts (w.durable.own p.lane) (w.frames p.lane) _ (c.now.owned p.lane) placed.number entry.number _ _ placed.frame there (sym offset) in
      let alike : ◌≡◌ {A = Option Allocation} (Some (record { offset = p.offset; item = (transmission_of p).item })) (Some (record { offset = e.offset; item = e.transmission.item })) =
      sym placed.frame ∙ ap (slice_get (w.frames p.lane)) same ∙ there in
      items (record { offset = p.offset; item = (transmission_of p).item }) (record { offset = e.offset; item = e.transmission.item }) alike
    where
      items : (a b : Allocation) → Some a ≡ Some b → a.item ≡ b.item
      items a b h = let is : a ≡ b = cc in ap (λ (x : Allocation). x.item) is

  -- It is a repeat.

  put_again : (p : Placing) (ps : List Placing) (e : Entry) → IsPlaced net w (sender net.site l) p → IsEntry net w (sender net.site l) e → IsPlacingKept l kind passed done p → stands_at p e ≡ true →
      (o : Option ℕ) → p.number ≡ o → Kept ps (if is_some o then record e { number = o } else record e { due = true })
  put_again p ps e placed entry told at None is lane of = Due refl
  put_again p ps e placed entry told at (Some k) is lane of =
      let on : e.transmission.lane ≡ p.lane = lane_eq_from e.transmission.lane p.lane (and_left (lane_eq e.transmission.lane p.lane) (e.offset == p.offset) at) in
      let offset : e.offset ≡ p.offset = eq_from e.offset p.offset (and_right (lane_eq e.transmission.lane p.lane) (e.offset == p.offset) at) in
      let item = one_item p e placed entry at in
      elim (told (ap (λ (m : Lane). lane_eq m l) (sym on) ∙ lane) (ap kind item ∙ of_kind e.transmission of) k is) [
        | inl waits ↦ Waits k refl waits
        | inr so ↦ Done (ap (λ (i : Item). done i e.offset) (sym item) ∙ ap (done (transmission_of p).item) offset ∙ so)
      ]

  repeat_kept : (p : Placing) (ps : List Placing) (e : Entry) → IsPlaced net w (sender net.site l) p → IsEntry net w (sender net.site l) e → IsPlacingKept l kind passed done p →
      Kept (p ∷ ps) e → Kept ps (record_retransmission p e)
  repeat_kept p ps e placed entry told kept =
      by_test (Kept ps) (stands_at p e) (if is_some p.number then record e { number = p.number } else record e { due = true }) e
      (λ at. put_again p ps e placed entry told at p.number refl)
      (λ apart lane of. not_by_it p ps e (λ it. not_both (stands_at p e) (meets lane it) apart) (kept lane of))
    where
      meets : lane_eq e.transmission.lane l ≡ true → tells_again l e.offset p ≡ true → stands_at p e ≡ true
      meets lane it =
          let place = and_right (not p.fresh) (lane_eq p.lane l && (p.offset == e.offset)) it in
          let there : p.lane ≡ l = lane_eq_from p.lane l (and_left (lane_eq p.lane l) (p.offset == e.offset) place) in
          let same : p.offset ≡ e.offset = eq_from p.offset e.offset (and_right (lane_eq p.lane l) (p.offset == e.offset) place) in
          and_both (lane_eq e.transmission.lane p.lane) (e.offset == p.offset) (ap (lane_eq e.transmission.lane) there ∙ lane) (ap (λ (x : ℕ). e.offset == x) same ∙ eq_same e.offset)

  repeats_kept : (p : Placing) (ps : List Placing) → IsPlaced net w (sender net.site l) p → IsPlacingKept l kind passed done p → (es : List Entry) →
      ((i : ℕ) (e : Entry) → slice_get es i ≡ Some e → IsEntry net w (sender net.site l) e) → AllByRecursion (Kept (p ∷ ps)) es → AllByRecursion (Kept ps) (map (record_retransmission p) es)
  repeats_kept p ps placed told [] each h = tt
  repeats_kept p ps placed told (e ∷ es) each h = (repeat_kept p ps e placed (each zero e refl) told h.0, repeats_kept p ps placed told es (λ i x at. each (suc i) x at) h.1)

  -- It is a new frame.

  new_kept : (p : Placing) (ps : List Placing) → IsPlacingKept l kind passed done p → (o : Option ℕ) → p.number ≡ o → IsEntryKept l class (again ps) passed done (entry_of p)
  new_kept p ps told None is lane of = Due (ap is_none is)
  new_kept p ps told (Some k) is lane of = elim (told lane (of_kind (transmission_of p) of) k is) [ inl waits ↦ Waits k is waits | inr so ↦ Done so ]

  fresh_kept : (p : Placing) (ps : List Placing) → p.fresh ≡ true → (es : List Entry) → AllByRecursion (Kept (p ∷ ps)) es → AllByRecursion (Kept ps) es
  fresh_kept p ps fresh es h = all_more (Kept (p ∷ ps)) (Kept ps) es
      (λ i e at kept lane of. not_by_it p ps e (λ it. not_both (not p.fresh) (and_left (not p.fresh) _ it) (ap not fresh)) (kept lane of)) h

  pub one_noted : (acked : List Name) (vol : Volatile) (p : Placing) (ps : List Placing) → IsPlaced net w (sender net.site l) p → IsPlacingKept l kind passed done p →
      ((i : ℕ) (e : Entry) → slice_get vol.window i ≡ Some e → IsEntry net w (sender net.site l) e) → AllByRecursion (IsEntryKept l class (again (p ∷ ps)) passed done) vol.window →
      AllByRecursion (IsEntryKept l class (again ps) passed done) (complete_one acked vol p).window
  unfolding complete_one
  one_noted acked vol p ps placed told each h =
      by_test (λ (y : Volatile). AllByRecursion (Kept ps) y.window) p.fresh _ _
      (λ fresh. by_test (λ (y : Volatile). AllByRecursion (Kept ps) y.window) (list_any (transmission_eq (transmission_of p)) vol.awaiting && not (list_any (stands_at p) vol.window)) _ _
      (λ t. by_test (AllByRecursion (Kept ps)) (is_acked_item acked (transmission_of p).item) vol.window (vol.window ++ entry_of p ∷ []) (λ k. fresh_kept p ps fresh vol.window h)
      (λ k. all_both (Kept ps) vol.window (entry_of p ∷ []) (fresh_kept p ps fresh vol.window h) (new_kept p ps told p.number refl, tt)))
      (λ t. fresh_kept p ps fresh vol.window h))
      (λ repeat. repeats_kept p ps placed told vol.window each h)
