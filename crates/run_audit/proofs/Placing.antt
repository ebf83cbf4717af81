-- How the tables of frames change when a frame is added.
use Rattle.std.proofs.Common.{◌≡◌, ℕ, ◌+◌, ◌-◌, ◌^◌, ◌<◌, ◌≤◌, min, Bool, true, false, not, ◌&&◌, ◌||◌, cond, eqb, suc, List, [], ◌∷◌, ◌++◌, length, Option, Some, None, refl, sym, ap, ◌∙◌, subst, arith}
use Rattle.std.specs.List.{list_any, list_all}
use Rattle.std.specs.Str.{bytes_eq}
use Rattle.std.specs.BTreeMap.{BTreeMap}
use Rattle.ordered_set.specs.Entries.{has_entry}
use Rattle.qkd_base.specs.declared.lane.Lane.{Lane}
use Rattle.qkd_base.specs.Lane.{lane_eq, lane_place}
use Rattle.run_audit.specs.declared.frames.Frame.{Frame}
use Rattle.run_audit.specs.declared.frames.Places.{Places}
use Rattle.run_audit.specs.Table.{at}
use Rattle.run_audit.specs.Frames.{agrees, is_placed, places}
use Rattle.run_audit.specs.Kept.{place_key, last_entry, last_of, length_at, offset_at, is_last, AreApart, ArePlaced}
use Rattle.run_audit.proofs.Keys.{place_keys, last_entries}

-- The new table has the value under this key, and is the old one elsewhere.
abbrev pub Puts : {X : Type 0} → BTreeMap (List ℕ) X → BTreeMap (List ℕ) X → List ℕ → X → Type 0
Puts old new key value = (k : List ℕ) → at new k ≡ cond (bytes_eq key k) (Some value) (at old k)

-- The new set has this entry, and all entries of the old one.
abbrev pub Inserts : List (List ℕ) → List (List ℕ) → List ℕ → Type 0
Inserts old new entry = (e : List ℕ) → has_entry new e ≡ (bytes_eq entry e || has_entry old e)

pub lengths_more : (old new : BTreeMap (List ℕ) ℕ) (f : Frame) (fs : List Frame) → ((l : Lane) (offset : ℕ) → at old (place_key l offset) ≡ length_at l offset fs) → Puts old new (place_key f.lane f.offset) f.length
    → (l : Lane) (offset : ℕ) → at new (place_key l offset) ≡ length_at l offset (f ∷ fs)
lengths_more old new f fs has put l offset =
    put (place_key l offset)
    ∙ ap (λ (b : Bool). cond b (Some f.length) (at old (place_key l offset))) (place_keys f.lane l f.offset offset)
    ∙ ap (λ (o : Option ℕ). cond (lane_eq f.lane l && eqb f.offset offset) (Some f.length) o) (has l offset)

pub offsets_more : (old new : BTreeMap (List ℕ) ℕ) (f : Frame) (fs : List Frame) → ((l : Lane) (last : ℕ) → at old (place_key l last) ≡ offset_at l last fs) → Puts old new (place_key f.lane (last_of f)) f.offset
    → (l : Lane) (last : ℕ) → at new (place_key l last) ≡ offset_at l last (f ∷ fs)
offsets_more old new f fs has put l last =
    put (place_key l last)
    ∙ ap (λ (b : Bool). cond b (Some f.offset) (at old (place_key l last))) (place_keys f.lane l (last_of f) last)
    ∙ ap (λ (o : Option ℕ). cond (lane_eq f.lane l && eqb (last_of f) last) (Some f.offset) o) (has l last)

pub lasts_more : (old new : List (List ℕ)) (f : Frame) (fs : List Frame) → ((l : Lane) (last : ℕ) → has_entry old (last_entry l last) ≡ is_last l last fs) → Inserts old new (last_entry f.lane (last_of f))
    → (l : Lane) (last : ℕ) → has_entry new (last_entry l last) ≡ is_last l last (f ∷ fs)
lasts_more old new f fs has put l last =
    put (last_entry l last)
    ∙ ap (λ (b : Bool). b || has_entry old (last_entry l last)) (last_entries f.lane l (last_of f) last)
    ∙ ap (λ (b : Bool). (lane_eq f.lane l && eqb (last_of f) last) || b) (has l last)

-- A count that never exceeds 2^32 - 1 is also right with one more.
pub count_more : (n k : ℕ) → k ≡ min n (2 ^ 32 - 1) → min (k + 1) (2 ^ 32 - 1) ≡ min (suc n) (2 ^ 32 - 1)
count_more n k h = omega arith

-- A frame at a known offset adds no new place to the count.
pub count_known : (f : Frame) (fs : List Frame) (k : ℕ) (known : Bool) → k ≡ min (places fs) (2 ^ 32 - 1) → known ≡ is_placed f.lane f.offset fs → cond (not known) (min (k + 1) (2 ^ 32 - 1)) k ≡ min (places (f ∷ fs)) (2 ^ 32 - 1)
count_known f fs k known h e = by_known known (is_placed f.lane f.offset fs) e
  where
    by_known : (a b : Bool) → a ≡ b → cond (not a) (min (k + 1) (2 ^ 32 - 1)) k ≡ min (cond b (places fs) (suc (places fs))) (2 ^ 32 - 1)
    by_known true true e = h
    by_known false false e = count_more (places fs) k h
    by_known true false e = absurd (let u : ⊥ = cc in u)
    by_known false true e = absurd (let u : ⊥ = cc in u)
