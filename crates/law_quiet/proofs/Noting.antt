-- A permitted batch that notes what it teaches targets keeps every such fact noted.
use Rattle.std.proofs.Common.{◌≡◌, ℕ, zero, suc, true, List, [], ◌∷◌, refl, sym, ◌∙◌, ap, subst, Some, ◌⊎◌, inl, inr}
use Rattle.std.specs.Prelude.{reverse, slice_get}
use Rattle.qkd_base.specs.Name.{Name, has}
use Rattle.qkd_base.specs.declared.lane.Lane.{Lane}
use Rattle.net_model.specs.declared.fact.Fact.{Fact}
use Rattle.net_model.specs.declared.fact.Fact.TheVariants.{Stored}
use Rattle.net_model.specs.declared.record.Record.{Record}
use Rattle.net_model.specs.declared.record.Record.TheVariants.{Block, Lease, Learned, Acked, Handed, Closed, Bare}
use Rattle.net_model.specs.Table.{name_of, route_of, target, fact_at, is_secret}
use Rattle.net_model.specs.Site.{Site, outgoing_lane}
use Rattle.net_model.specs.World.{Durable}
use Rattle.net_model.specs.Records.{apply_record, replay, block_taken}
use Rattle.net_model.specs.Doubt.{MayApply, MayReplay}
use Rattle.net_model.specs.Knowledge.{IsKnowledge}
use Rattle.law_base.proofs.Tables.{found_name, learned_there, learned_new, push_there}
use Rattle.law_base.proofs.Knowing.{known_with_cases}
use Rattle.law_base.proofs.Growing.{replay_grows}
use Rattle.law_quiet.specs.Noted.{HasNote, AreNoted, NotesAll}

-- A name that a node knows after a record or a batch was known before, or is that of a fact that it learned.

taken_known : (l : Lane) (d : Durable) → (block_taken l d).known ≡ d.known
unfolding block_taken
taken_known l d = refl

-- The node learns the fact of this name by one of these records.
pub record LearnedBy (v u : ℕ) (rs : List Record) (n : Name) : Type 0 where
  pub is : u ≡ v
  pub place : ℕ
  pub fact : Fact
  pub at : slice_get rs place ≡ Some (Learned fact)
  pub name : name_of fact ≡ n

known_apply : (s : Site) (v : ℕ) (r : Record) (d : Durable) → MayApply s d v r → (u : ℕ) (n : Name) → has ((apply_record s v r d).known u) n ≡ true →
    (has (d.known u) n ≡ true) ⊎ LearnedBy v u (r ∷ []) n
unfolding apply_record
known_apply s v (Block link number bytes) d m u n h = inl (ap (λ (known : ℕ → List Name). has (known u) n) (sym (taken_known (outgoing_lane s v link) d)) ∙ h)
known_apply s v (Lease l end) d m u n h = inl h
known_apply s v (Learned f) d m u n h = elim (known_with_cases d.known v (name_of f) u n h) [
  | inl old ↦ inl old
  | inr (here, name) ↦ inr (record { is = here; place = 0; fact = f; at = refl; name = name })
]
known_apply s v (Acked k) d m u n h = inl h
known_apply s v (Handed k sae) d m u n h = inl h
known_apply s v (Closed k sae) d m u n h = inl h
known_apply s v (Bare f) d m u n h = absurd m

learned_first : (v u : ℕ) (r : Record) (rs : List Record) (n : Name) → (h : LearnedBy v u (r ∷ []) n) → LearnedBy v u (r ∷ rs) n
learned_first v u r rs n h = record { is = h.is; place = 0; fact = h.fact; at = one h.place h.at; name = h.name }
  where
    one : (k : ℕ) → slice_get (r ∷ []) k ≡ Some (Learned h.fact) → slice_get (r ∷ rs) 0 ≡ Some (Learned h.fact)
    one zero e = e
    one (suc k) e = cc

known_replay : (s : Site) (v : ℕ) (rs : List Record) (d : Durable) → MayReplay s d v rs → (u : ℕ) (n : Name) → has ((replay s v rs d).known u) n ≡ true →
    (has (d.known u) n ≡ true) ⊎ LearnedBy v u rs n
unfolding replay
known_replay s v [] d m u n h = inl h
known_replay s v (r ∷ rs) d m u n h = elim (known_replay s v rs (apply_record s v r d) m.1 u n h) [
  | inl here ↦ elim (known_apply s v r d m.0 u n here) [ inl old ↦ inl old | inr new ↦ inr (learned_first v u r rs n new) ]
  | inr later ↦ inr (record { is = later.is; place = suc later.place; fact = later.fact; at = later.at; name = later.name })
]

-- What a permitted batch teaches is in the table afterwards.

taught : (s : Site) (v : ℕ) (f : Fact) (d : Durable) → MayApply s d v (Learned f) → fact_at (apply_record s v (Learned f) d).facts (name_of f) ≡ Some f
unfolding apply_record
taught s v f d m = elim m.1 [
  | inl came ↦ ap (λ (facts : List Fact). fact_at facts (name_of f)) (learned_there d.facts f came.there) ∙ came.there
  | inr made ↦ ap (λ (facts : List Fact). fact_at facts (name_of f)) (learned_new d.facts f made.free) ∙ push_there d.facts f made.free
]

pub taught_there : (s : Site) (v : ℕ) (rs : List Record) (d : Durable) → MayReplay s d v rs → (k : ℕ) (f : Fact) → slice_get rs k ≡ Some (Learned f) →
    fact_at (replay s v rs d).facts (name_of f) ≡ Some f
unfolding replay
taught_there s v [] d m k f at = cc
taught_there s v (r ∷ rs) d m zero f at =
    let is : r ≡ Learned f = cc in
    (replay_grows s v rs (apply_record s v r d)).facts (name_of f) f
    (ap (λ (x : Record). fact_at (apply_record s v x d).facts (name_of f)) is ∙ taught s v f d (subst (λ (x : Record). MayApply s d v x) is m.0))
taught_there s v (r ∷ rs) d m (suc k) f at = taught_there s v rs (apply_record s v r d) m.1 k f at

module _ (s : Site) (d : Durable) (v : ℕ) (rs : List Record) (m : MayReplay s d v rs) (knowledge : IsKnowledge d.facts d.known) (noted : AreNoted d.facts d.known)
    (notes : NotesAll v rs) where
  abbrev after : Durable
  after = replay s v rs d

  old_note : (n : Name) (f : Fact) → fact_at after.facts n ≡ Some f → is_secret f ≡ true → has (d.known (target f)) n ≡ true → HasNote after.facts n f
  old_note n f there secret knows =
      let x = knowledge.each (target f) n knows in
      let stays = (replay_grows s v rs d).facts n x.fact x.there in
      let same : x.fact ≡ f = cc in
      let was : fact_at d.facts n ≡ Some f = x.there ∙ ap Some same in
      let note = noted n f was secret knows in
      record { note = note.note; there = (replay_grows s v rs d).facts note.note _ note.there }

  new_note : (n : Name) (f : Fact) → fact_at after.facts n ≡ Some f → is_secret f ≡ true → LearnedBy v (target f) rs n → HasNote after.facts n f
  new_note n f there secret new =
      let taught' : fact_at after.facts n ≡ Some new.fact = ap (fact_at after.facts) (sym new.name) ∙ taught_there s v rs d m new.place new.fact new.at in
      let same : new.fact ≡ f = cc in
      let at : slice_get rs new.place ≡ Some (Learned f) = new.at ∙ ap (λ (g : Fact). Some (Learned g)) same in
      let note = notes new.place f at secret new.is in
      let made : fact_at after.facts note.0 ≡ Some (Stored note.0 (name_of f) (reverse (route_of f))) = taught_there s v rs d m note.1 (Stored note.0 (name_of f) (reverse (route_of f))) note.2 in
      record { note = note.0; there = made ∙ ap (λ (k : Name). Some (Stored note.0 k (reverse (route_of f)))) (found_name after.facts n f there) }

  pub replay_notes : AreNoted after.facts after.known
  replay_notes n f there secret knows = elim (known_replay s v rs d m (target f) n knows) [
    | inl old ↦ old_note n f there secret old
    | inr new ↦ new_note n f there secret new
  ]
