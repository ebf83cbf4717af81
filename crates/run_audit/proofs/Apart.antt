-- Frames of a lane with no byte in common, found by the last bytes of frames: one new frame is compared with one known frame.
use Rattle.std.proofs.Common.{◌≡◌, ℕ, ◌+◌, ◌-◌, ◌^◌, ◌<◌, ◌≤◌, min, Bool, true, false, not, ◌&&◌, ◌||◌, cond, eqb, List, [], ◌∷◌, Option, Some, None, refl, sym, ap, ◌∙◌, subst, arith, ◌⊎◌, inl, inr}
use Rattle.std.specs.Prelude.{nat_le, nat_lt, is_some}
use Rattle.std.specs.List.{list_any, list_all}
use Rattle.std.proofs.lemmas.Bool.{cases_Bool, cases_eq, cases_lt, and_parts, and_from, or_parts, or_cases, eq-eqb, ne_eqb, eqb-true, eqb-false, leb-true, le-leb, lt-leb, lt-ltb, le-ltb}
use Rattle.std.proofs.lemmas.Bool.Decides.{nat_tests}
use Rattle.qkd_base.specs.declared.lane.Lane.{Lane}
use Rattle.qkd_base.specs.declared.lane.Way.{Way}
use Rattle.qkd_base.specs.declared.lane.Way.TheVariants.{Up, Down}
use Rattle.qkd_base.specs.Lane.{lane_eq, way_eq}
use Rattle.run_audit.specs.declared.frames.Frame.{Frame}
use Rattle.run_audit.specs.Frames.{end_of, is_apart, agrees, is_placed}
use Rattle.run_audit.specs.Kept.{last_of, length_at, offset_at, is_last, AreApart}

no : {A : Type 0} (b : Bool) → b ≡ true → b ≡ false → A
no b h k = absurd (let e : true ≡ false = sym h ∙ k in let u : ⊥ = cc in u)

-- Two frames of one lane have the same place and length, or one of them ends before the other begins.
pub data Clear (fo fl go gl : ℕ) : Type 0 where
  same_place : go ≡ fo → gl ≡ fl → Clear fo fl go gl
  before : fo + fl + 8 ≤ go → Clear fo fl go gl
  behind : go + gl + 8 ≤ fo → Clear fo fl go gl

pub swapped : {fo fl go gl : ℕ} → Clear fo fl go gl → Clear go gl fo fl
swapped (same_place o l) = same_place (sym o) (sym l)
swapped (before h) = behind h
swapped (behind h) = before h

-- the test whether two frames of one lane have the same place and length, or no byte in common
abbrev agree : (fo fl go gl : ℕ) → Bool
agree fo fl go gl = cond (eqb go fo) (eqb gl fl) (nat_le (fo + fl + 8) go || nat_le (go + gl + 8) fo)

pub clear_of : (fo fl go gl : ℕ) → agree fo fl go gl ≡ true → Clear fo fl go gl
clear_of fo fl go gl h = elim (cases_eq go fo) [
  | inl e ↦ same_place e (eqb-true gl fl (rw (eq-eqb go fo e) at h))
  | inr ne ↦ elim (or_cases (nat_le (fo + fl + 8) go) (nat_le (go + gl + 8) fo) (rw (ne_eqb go fo ne) at h)) [
    | inl le ↦ before (leb-true (fo + fl + 8) go le)
    | inr le ↦ behind (leb-true (go + gl + 8) fo le)
  ]
]

pub agree_of : (fo fl go gl : ℕ) → Clear fo fl go gl → agree fo fl go gl ≡ true
agree_of fo fl go gl (same_place o l) = rw (eq-eqb go fo o, eq-eqb gl fl l) refl
agree_of fo fl go gl (before h) = let ne : go ≡ fo → ⊥ = λ e. omega arith in rw (ne_eqb go fo ne, le-leb (fo + fl + 8) go h) refl
agree_of fo fl go gl (behind h) = let ne : go ≡ fo → ⊥ = λ e. omega arith in rw (ne_eqb go fo ne, le-leb (go + gl + 8) fo h) (or_true (nat_le (fo + fl + 8) go))
  where
    or_true : (b : Bool) → (b || true) ≡ true
    or_true true = refl
    or_true false = refl

abbrev pub AreClear : Frame → Frame → Type 0
AreClear f g = lane_eq g.lane f.lane ≡ true → Clear f.offset f.length g.offset g.length

pub agrees_of : (f g : Frame) → AreClear f g → agrees f g ≡ true
agrees_of f g h = elim (cases_Bool (lane_eq g.lane f.lane)) [
  | inl on ↦ rw (on, agree_of f.offset f.length g.offset g.length (h on)) refl
  | inr off ↦ rw off refl
]

pub clear_from : (f g : Frame) → agrees f g ≡ true → AreClear f g
clear_from f g h on = clear_of f.offset f.length g.offset g.length (rw on at h)

-- ---- all frames of a list

abbrev pub Each : (Frame → Type 0) → List Frame → Type 0
Each P [] = Unit {0}
Each P (f ∷ fs) = P f × Each P fs

pub all_clear : (f : Frame) (fs : List Frame) → list_all (agrees f) fs ≡ true → Each (AreClear f) fs
all_clear f [] h = tt
all_clear f (g ∷ gs) h = let parts = and_parts (agrees f g) (list_all (agrees f) gs) h in (clear_from f g parts.0, all_clear f gs parts.1)

pub clear_all : (f : Frame) (fs : List Frame) → Each (AreClear f) fs → list_all (agrees f) fs ≡ true
clear_all f [] h = refl
clear_all f (g ∷ gs) h = and_from (agrees f g) (list_all (agrees f) gs) (agrees_of f g h.0) (clear_all f gs h.1)

-- ---- lanes

way_same : (v w : Way) → way_eq v w ≡ true → v ≡ w
way_same Up Up h = refl
way_same Up Down h = no (way_eq Up Down) h refl
way_same Down Up h = no (way_eq Down Up) h refl
way_same Down Down h = refl

way_self : (v : Way) → way_eq v v ≡ true
way_self Up = refl
way_self Down = refl

pub lane_same : (k l : Lane) → lane_eq k l ≡ true → k ≡ l
lane_same k l h =
    let parts = and_parts (eqb k.link l.link) (way_eq k.way l.way) h in
    let lane_at : ℕ → Way → Lane = λ link way. record { link = link; way = way } in
    ap (λ (n : ℕ). lane_at n k.way) (eqb-true k.link l.link parts.0) ∙ ap (λ (w : Way). lane_at l.link w) (way_same k.way l.way parts.1)

pub lane_self : (k : Lane) → lane_eq k k ≡ true
lane_self k = and_from (eqb k.link k.link) (way_eq k.way k.way) (eq-eqb k.link k.link refl) (way_self k.way)

-- If two lanes each equal a third one, they are equal.
pub lanes_join : (k l m : Lane) → lane_eq k m ≡ true → lane_eq l m ≡ true → lane_eq k l ≡ true
lanes_join k l m h i = subst (λ (n : Lane). lane_eq k n ≡ true) (sym (lane_same l m i)) h

-- ---- one frame among others

pub data Among (h : Frame) : List Frame → Type 0 where
  here : {fs : List Frame} → Among h (h ∷ fs)
  there : {g : Frame} {fs : List Frame} → Among h fs → Among h (g ∷ fs)

pub each_at : (P : Frame → Type 0) {h : Frame} {fs : List Frame} → Among h fs → Each P fs → P h
each_at P here e = e.0
each_at P (there m) e = each_at P m e.1

pub small_at : {h : Frame} {fs : List Frame} → Among h fs → AreApart fs → (h.offset < 2 ^ 64) × (h.length < 2 ^ 16)
small_at here a = (a.0, a.1)
small_at (there m) a = small_at m a.3

-- a known frame of the lane whose last byte is `last`
pub record IsFound (l : Lane) (last offset : ℕ) (fs : List Frame) : Type 0 where
  pub frame : Frame
  pub among : Among frame fs
  pub on : lane_eq frame.lane l ≡ true
  pub ends : last_of frame ≡ last
  pub begins : frame.offset ≡ offset

some_is : {A : Type 0} {a b : A} → Some a ≡ Some b → a ≡ b
some_is h = cc

pub found_at : (l : Lane) (last offset : ℕ) (fs : List Frame) → offset_at l last fs ≡ Some offset → IsFound l last offset fs
found_at l last offset [] h = absurd (let u : ⊥ = cc in u)
found_at l last offset (g ∷ gs) h = elim (cases_Bool (lane_eq g.lane l && eqb (last_of g) last)) [
  | inl holds ↦
      let parts = and_parts (lane_eq g.lane l) (eqb (last_of g) last) holds in
      record { frame = g; among = here; on = parts.0; ends = eqb-true (last_of g) last parts.1; begins = some_is (rw holds at h) }
  | inr other ↦
      let r = found_at l last offset gs (rw other at h) in
      record { frame = r.frame; among = there r.among; on = r.on; ends = r.ends; begins = r.begins }
]

pub last_is_found : (l : Lane) (last : ℕ) (fs : List Frame) → is_last l last fs ≡ true → offset_at l last fs ≡ None → ⊥
last_is_found l last [] h k = no false h refl
last_is_found l last (g ∷ gs) h k = elim (cases_Bool (lane_eq g.lane l && eqb (last_of g) last)) [
  | inl holds ↦ let e : Some g.offset ≡ None = rw holds at k in let u : ⊥ = cc in u
  | inr other ↦ last_is_found l last gs (rw other at h) (rw other at k)
]

-- a known frame of the lane at this offset
pub record IsPlaced (l : Lane) (offset length : ℕ) (fs : List Frame) : Type 0 where
  pub frame : Frame
  pub among : Among frame fs
  pub on : lane_eq frame.lane l ≡ true
  pub begins : frame.offset ≡ offset
  pub size : frame.length ≡ length

pub placed_at : (l : Lane) (offset length : ℕ) (fs : List Frame) → length_at l offset fs ≡ Some length → IsPlaced l offset length fs
placed_at l offset length [] h = absurd (let u : ⊥ = cc in u)
placed_at l offset length (g ∷ gs) h = elim (cases_Bool (lane_eq g.lane l && eqb g.offset offset)) [
  | inl holds ↦
      let parts = and_parts (lane_eq g.lane l) (eqb g.offset offset) holds in
      record { frame = g; among = here; on = parts.0; begins = eqb-true g.offset offset parts.1; size = some_is (rw holds at h) }
  | inr other ↦
      let r = placed_at l offset length gs (rw other at h) in
      record { frame = r.frame; among = there r.among; on = r.on; begins = r.begins; size = r.size }
]

pub not_placed : (l : Lane) (offset : ℕ) (fs : List Frame) → length_at l offset fs ≡ None → is_placed l offset fs ≡ false
not_placed l offset [] h = refl
not_placed l offset (g ∷ gs) h = elim (cases_Bool (lane_eq g.lane l && eqb g.offset offset)) [
  | inl holds ↦ absurd (let e : Some g.length ≡ None = rw holds at h in let u : ⊥ = cc in u)
  | inr other ↦ rw other (not_placed l offset gs (rw other at h))
]

pub is_placed_at : (l : Lane) (offset length : ℕ) (fs : List Frame) → length_at l offset fs ≡ Some length → is_placed l offset fs ≡ true
is_placed_at l offset length [] h = absurd (let u : ⊥ = cc in u)
is_placed_at l offset length (g ∷ gs) h = elim (cases_Bool (lane_eq g.lane l && eqb g.offset offset)) [
  | inl holds ↦ rw holds refl
  | inr other ↦ rw other (is_placed_at l offset length gs (rw other at h))
]

-- If frame g is on lane l, the frames h and g have the same place and length, or no byte in common.
abbrev pub IsClearOn : Lane → Frame → Frame → Type 0
IsClearOn l h g = lane_eq g.lane l ≡ true → Clear h.offset h.length g.offset g.length

same_clear : (l : Lane) (h : Frame) → lane_eq h.lane l ≡ true → (fs : List Frame) → Each (AreClear h) fs → Each (IsClearOn l h) fs
same_clear l h on [] e = tt
same_clear l h on (g ∷ gs) e = (λ k. e.0 (lanes_join g.lane h.lane l k on), same_clear l h on gs e.1)

pub clear_with : (l : Lane) (h : Frame) → lane_eq h.lane l ≡ true → {fs : List Frame} → Among h fs → AreApart fs → Each (IsClearOn l h) fs
clear_with l h on (here {fs = fs}) a = (λ k. same_place refl refl, same_clear l h on fs (all_clear h fs a.2))
clear_with l h on (there {g = g} {fs = fs} m) a =
    (λ k. let g_h = each_at (AreClear g) m (all_clear g fs a.2) in swapped (g_h (lanes_join h.lane g.lane l on k)), clear_with l h on m a.3)

-- ---- a frame at the offset of a known frame

of_same : (l : Lane) (f h : Frame) → f.lane ≡ l → f.offset ≡ h.offset → f.length ≡ h.length → (fs : List Frame) → Each (IsClearOn l h) fs → Each (AreClear f) fs
of_same l f h lane o n [] e = tt
of_same l f h lane o n (g ∷ gs) e =
    (λ k. clear_as o n (e.0 (subst (λ (m : Lane). lane_eq g.lane m ≡ true) lane k)), of_same l f h lane o n gs e.1)
  where
    clear_as : {a b c d x y : ℕ} → a ≡ c → b ≡ d → Clear c d x y → Clear a b x y
    clear_as p q (same_place i j) = same_place (i ∙ sym p) (j ∙ sym q)
    clear_as p q (before i) = before (omega (arith, p, q, i))
    clear_as p q (behind i) = behind (omega (arith, p, q, i))

-- One frame that doesn't agree is enough: not all frames agree.
not_all : (f h : Frame) → agrees f h ≡ false → {fs : List Frame} → Among h fs → list_all (agrees f) fs ≡ false
not_all f h off (here {fs = fs}) = rw off refl
not_all f h off (there {g = g} {fs = fs} m) = rw (not_all f h off m) (and_false (agrees f g))
  where
    and_false : (b : Bool) → (b && false) ≡ false
    and_false true = refl
    and_false false = refl

-- At the offset of a known frame, a frame agrees with all frames exactly if it has the known frame's length.
pub agrees_at : (f : Frame) (n : ℕ) (fs : List Frame) → AreApart fs → length_at f.lane f.offset fs ≡ Some n → eqb n f.length ≡ list_all (agrees f) fs
agrees_at f n fs apart h =
    let p = placed_at f.lane f.offset n fs h in
    elim (cases_eq n f.length) [
      | inl e ↦
          eq-eqb n f.length e
          ∙ sym (clear_all f fs (of_same f.lane f p.frame refl (sym p.begins) (sym (p.size ∙ e)) fs (clear_with f.lane p.frame p.on p.among apart)))
      | inr ne ↦
          let differ : eqb p.frame.length f.length ≡ false = ne_eqb p.frame.length f.length (λ e. ne (sym p.size ∙ e)) in
          let off : agrees f p.frame ≡ false = rw (p.on, eq-eqb p.frame.offset f.offset p.begins, differ) refl in
          ne_eqb n f.length ne ∙ sym (not_all f p.frame off p.among)
    ]

-- ---- a frame at a new offset

-- From the first byte of f on, `last` is the first byte at which a known frame of the lane ends.
pub record IsFirstEnd (f : Frame) (last : ℕ) (fs : List Frame) : Type 0 where
  pub behind_it : f.offset ≤ last
  pub first : (x : ℕ) → f.offset ≤ x → x < last → is_last f.lane x fs ≡ false

-- A frame of the lane that ends at or behind the byte `from` ends at or behind the byte `last`.
abbrev EndsBehind : (l : Lane) → (from last : ℕ) → Frame → Type 0
EndsBehind l from last g = lane_eq g.lane l ≡ true → from ≤ last_of g → last ≤ last_of g

ends_behind : (l : Lane) (from last : ℕ) (fs : List Frame) → ((x : ℕ) → from ≤ x → x < last → is_last l x fs ≡ false) → Each (EndsBehind l from last) fs
ends_behind l from last [] h = tt
ends_behind l from last (g ∷ gs) h = (
  λ on le. elim (cases_lt (last_of g) last) [
    | inl lt ↦ absurd (no (lane_eq g.lane l && eqb (last_of g) (last_of g)) (and_from (lane_eq g.lane l) (eqb (last_of g) (last_of g)) on (eq-eqb (last_of g) (last_of g) refl)) (or_parts (lane_eq g.lane l && eqb (last_of g) (last_of g)) (is_last l (last_of g) gs) (h (last_of g) le lt)).0)
    | inr ge ↦ ge
  ],
  ends_behind l from last gs (λ x le lt. (or_parts (lane_eq g.lane l && eqb (last_of g) x) (is_last l x gs) (h x le lt)).1),
)

-- A frame that ends before the new one shares no byte with it. Nor does one that ends later, if the first of these begins behind the new frame.
numbers_clear : (fo fl go gl s e : ℕ) (hl : ℕ) → fo < 2 ^ 64 → s < 2 ^ 64 → go < 2 ^ 64 → fo ≤ e → e ≡ min (s + (hl + 7)) (2 ^ 64 - 1) → min (fo + (fl + 7)) (2 ^ 64 - 1) < s
    → (fo ≤ min (go + (gl + 7)) (2 ^ 64 - 1) → e ≤ min (go + (gl + 7)) (2 ^ 64 - 1)) → Clear s hl go gl → Clear fo fl go gl
numbers_clear fo fl go gl s e hl small_f small_s small_g le ends lt behind_e clear = elim (cases_lt (min (go + (gl + 7)) (2 ^ 64 - 1)) fo) [
  | inl less ↦ behind (omega arith)
  | inr ge ↦ past clear (behind_e ge)
]
  where
    past : Clear s hl go gl → e ≤ min (go + (gl + 7)) (2 ^ 64 - 1) → Clear fo fl go gl
    past (same_place o l) far = before (omega arith)
    past (before h) far = before (omega arith)
    past (behind h) far = absurd (omega arith)

all_free : (f h : Frame) (e : ℕ) (fs : List Frame) → AreApart fs → f.offset < 2 ^ 64 → h.offset < 2 ^ 64 → f.offset ≤ e → e ≡ last_of h → last_of f < h.offset → Each (EndsBehind f.lane f.offset e) fs → Each (IsClearOn f.lane h) fs → Each (AreClear f) fs
all_free f h e [] apart small_f small_h le ends lt far clear = tt
all_free f h e (g ∷ gs) apart small_f small_h le ends lt far clear =
    (λ on. numbers_clear f.offset f.length g.offset g.length h.offset e h.length small_f small_h apart.0 le ends lt (far.0 on) (clear.0 on), all_free f h e gs apart.3 small_f small_h le ends lt far.1 clear.1)

-- Take the first frame that ends at or behind the new frame's first byte. If the new frame ends before that one begins, it agrees with all frames.
pub agrees_before : (f : Frame) (e s : ℕ) (fs : List Frame) → AreApart fs → f.offset < 2 ^ 64 → IsFirstEnd f e fs → offset_at f.lane e fs ≡ Some s → last_of f < s → list_all (agrees f) fs ≡ true
agrees_before f e s fs apart small first at lt =
    let p = found_at f.lane e s fs at in
    let small_h = small_at p.among apart in
    let lt_h : last_of f < p.frame.offset = omega (arith, p.begins) in
    clear_all f fs (all_free f p.frame e fs apart small small_h.0 first.behind_it (sym p.ends) lt_h (ends_behind f.lane f.offset e fs first.first) (clear_with f.lane p.frame p.on p.among apart))

meets : (fo fl go gl : ℕ) → fo < 2 ^ 64 → fo ≤ min (go + (gl + 7)) (2 ^ 64 - 1) → go ≤ min (fo + (fl + 7)) (2 ^ 64 - 1) → (go ≡ fo → ⊥) → agree fo fl go gl ≡ false
meets fo fl go gl small le ge ne = rw (ne_eqb go fo ne, lt-leb (fo + fl + 8) go (omega arith), lt-leb (go + gl + 8) fo (omega arith)) refl

-- If a frame of the lane is in the list, its offset is occupied.
placed_of : (l : Lane) (offset : ℕ) (h : Frame) → lane_eq h.lane l ≡ true → h.offset ≡ offset → {fs : List Frame} → Among h fs → is_placed l offset fs ≡ true
placed_of l offset h on e (here {fs = fs}) = rw (on, eq-eqb h.offset offset e) refl
placed_of l offset h on e (there {g = g} {fs = fs} m) = rw (placed_of l offset h on e m) (or_true (lane_eq g.lane l && eqb g.offset offset))
  where
    or_true : (b : Bool) → (b || true) ≡ true
    or_true true = refl
    or_true false = refl

-- If the new frame reaches the first frame that ends at or behind its first byte, it doesn't agree with all frames.
pub meets_at : (f : Frame) (e s : ℕ) (fs : List Frame) → f.offset < 2 ^ 64 → is_placed f.lane f.offset fs ≡ false → f.offset ≤ e → offset_at f.lane e fs ≡ Some s → s ≤ last_of f → list_all (agrees f) fs ≡ false
meets_at f e s fs small new le at reach =
    let p = found_at f.lane e s fs at in
    let apart : p.frame.offset ≡ f.offset → ⊥ = λ same. no (is_placed f.lane f.offset fs) (placed_of f.lane f.offset p.frame p.on same p.among) new in
    let met : agree f.offset f.length p.frame.offset p.frame.length ≡ false = meets f.offset f.length p.frame.offset p.frame.length small (omega (arith, p.ends)) (omega (arith, p.begins)) apart in
    let off : agrees f p.frame ≡ false = rw (p.on, met) refl in
    not_all f p.frame off p.among

-- If no frame of the lane ends at or behind its first byte, a new frame agrees with all frames.
pub agrees_last : (f : Frame) (fs : List Frame) → f.offset < 2 ^ 64 → ((x : ℕ) → f.offset ≤ x → x < 2 ^ 64 → is_last f.lane x fs ≡ false) → list_all (agrees f) fs ≡ true
agrees_last f fs small none = clear_all f fs (all_before fs none)
  where
    all_before : (gs : List Frame) → ((x : ℕ) → f.offset ≤ x → x < 2 ^ 64 → is_last f.lane x gs ≡ false) → Each (AreClear f) gs
    all_before [] h = tt
    all_before (g ∷ gs) h = (
      λ on. elim (cases_lt (last_of g) f.offset) [
        | inl lt ↦ behind (omega arith)
        | inr le ↦ absurd (no (lane_eq g.lane f.lane && eqb (last_of g) (last_of g)) (and_from (lane_eq g.lane f.lane) (eqb (last_of g) (last_of g)) on (eq-eqb (last_of g) (last_of g) refl)) (or_parts (lane_eq g.lane f.lane && eqb (last_of g) (last_of g)) (is_last f.lane (last_of g) gs) (h (last_of g) le (omega arith))).0)
      ],
      all_before gs (λ x le lt. (or_parts (lane_eq g.lane f.lane && eqb (last_of g) x) (is_last f.lane x gs) (h x le lt)).1),
    )

-- So the first frame that ends at or behind the new frame's first byte decides whether the new one agrees with all frames.
pub free_at : (f : Frame) (e s : ℕ) (fs : List Frame) → AreApart fs → f.offset < 2 ^ 64 → is_placed f.lane f.offset fs ≡ false → IsFirstEnd f e fs → offset_at f.lane e fs ≡ Some s → nat_lt (last_of f) s ≡ list_all (agrees f) fs
free_at f e s fs apart small new first at = elim (cases_lt (last_of f) s) [
  | inl lt ↦ lt-ltb (last_of f) s lt ∙ sym (agrees_before f e s fs apart small first at lt)
  | inr le ↦ le-ltb (last_of f) s le ∙ sym (meets_at f e s fs small new first.behind_it at le)
]

pub placed_known : (l : Lane) (offset : ℕ) (fs : List Frame) → is_some (length_at l offset fs) ≡ is_placed l offset fs
placed_known l offset [] = refl
placed_known l offset (g ∷ gs) = elim (cases_Bool (lane_eq g.lane l && eqb g.offset offset)) [
  | inl holds ↦ rw holds refl
  | inr other ↦ rw other (placed_known l offset gs)
]
