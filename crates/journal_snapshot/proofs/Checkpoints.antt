-- What a crash leaves at each stage of a checkpoint.
use Rattle.std.proofs.Common.{◌≡◌, ◌≢◌, ◌≤◌, ◌<◌, ◌⊎◌, inl, inr, ℕ, ◌+◌, ◌-◌, ◌^◌, Bool, true, false, List, [], ◌∷◌, ◌++◌, length, take, replicate, refl, sym, ◌∙◌, ap, subst, arith, length-append}
use Rattle.std.specs.Prelude.{slice_index, ◌==◌}
use Rattle.std.proofs.lemmas.Bool.{cases_Bool, cases_eq, cases_lt, false≢true}
use Rattle.std.proofs.lemmas.List.{get_or_append_left, get_or-append-add, get_or-replicate, length-replicate}
use Rattle.disk_model.specs.Images.{Torn, Only, overlaid}
use Rattle.disk_model.specs.Laws.{torn_overlaid}
use Rattle.range_journal.specs.Batches.{spelled, AreShort, length_of}
use Rattle.range_journal.specs.Header.{IsHeaded}
use Rattle.range_journal.proofs.Once.{before_stands}
use Rattle.journal_snapshot.specs.declared.area.Area.{Area}
use Rattle.journal_snapshot.specs.declared.area.Area.TheVariants.{Header, Field, First, Second}
use Rattle.journal_snapshot.specs.declared.live.Live.{Live}
use Rattle.journal_snapshot.specs.Layout.{area_of, next_area, is_moved, is_slot, mark_place, open_mark, fields_place, fields_of, generation_of, live_of, is_placed, has_open_mark}
use Rattle.journal_snapshot.specs.Standing.{Holds, IsKept}
use Rattle.journal_snapshot.specs.Snapshots.{need_of, moved_to}
use Rattle.journal_snapshot.specs.Checkpoint.{next_generation, mark_of, fields_at, fields_in, cleared, IsClearing, TornTwice, marked, IsStage, IsDraft, IsReady}
use Rattle.journal_snapshot.proofs.Fronts.{Agrees, says_same, same_head, start_floor, start_least, start_plain, longer}
use Rattle.journal_snapshot.proofs.Plain.{long_plain}
use Rattle.journal_snapshot.proofs.Standings.{stands_long}
use Rattle.journal_snapshot.proofs.Marks.{front_len, fields_len, AgreesBut, Written, stays, Turns, turns, HasNoMarks}
use Rattle.journal_snapshot.proofs.Areas.{area, IsArea, need_is, block_long, all_short, stands_of, settled_of, area_of_settled, torn_outside, written_outside, area_outside, laid, laid_long}
use Rattle.journal_snapshot.proofs.Targets.{fields_long, fields_same, mark_low, fields_low, mark_first, front_moved, front_plain, shut_mark, open_there, closed_octet, equal_is, no_marks}

-- the place where the live area's start is said, and the length of the front that says it
module _ (c : List ℕ) (live : Live) (batches : List (List ℕ)) (images : List ℕ → Type 0) (kept : IsKept live batches c images) where
  abbrev pub a : Area
  a = live.area

  abbrev pub t : Area
  t = next_area live.area

  here : area_of c ≡ live.area
  here = ap (λ (l : Live). l.area) kept.holds.says

  start_is : (live_of c).start ≡ live.start
  start_is = ap (λ (l : Live). l.start) kept.holds.says

  front_before : front_len t ≤ live.start
  front_before = elim (cases_Bool (is_moved a)) [
    | inl moved ↦ omega (arith, front_moved a moved, start_floor c (length c) kept.holds.placed (ap is_moved here ∙ moved), start_is)
    | inr plain ↦ omega (arith, front_plain a plain, start_least c (length c) kept.holds.placed, start_is)
  ]

  old_area : IsArea live.start batches c
  old_area = area_of_settled live.start batches c images kept.settled

  -- The old area is complete, and the front is unchanged except for the next area's mark and fields.
  pub record Draws (i : List ℕ) : Type 0 where
    pub same : AgreesBut t c i
    pub whole : IsArea live.start batches i

  pub drawn_first : Draws c
  drawn_first = record { same = λ k lt ne side. refl; whole = old_area }

  abbrev pub Shut : List ℕ → Type 0
  Shut i = (slice_index i (mark_place t) == open_mark t) ≡ false

  held : (more : List (List ℕ)) (i : List ℕ) (new : Live) → IsArea new.start more i → AreShort more → live_of i ≡ new → ((n : ℕ) → new.start < n → is_placed i n ≡ true) → IsHeaded i → Holds new more [] i
  held more i new whole short says placed head =
      let s = stands_of new.start more i short whole in
      record { head = head; says = says; placed = placed (length i) (stands_long new.start i more (before_stands (take new.start i) i more [] s)); stands = s }

  headed : (i : List ℕ) → AgreesBut t c i → IsHeaded i
  headed i same = same_head c i (λ k lt. same k (low k lt) (other k lt) (inl (before k lt))) kept.holds.head
    where
      low_of : (b : Area) (k : ℕ) → k < 8 → (k < front_len (next_area b)) × (k ≢ mark_place (next_area b)) × (k < fields_place (next_area b))
      low_of Header k lt = (omega (arith, lt), λ e. absurd (omega (arith, e, lt)), omega (arith, lt))
      low_of Field k lt = (omega (arith, lt), λ e. absurd (omega (arith, e, lt)), omega (arith, lt))
      low_of First k lt = (omega (arith, lt), λ e. absurd (omega (arith, e, lt)), omega (arith, lt))
      low_of Second k lt = (omega (arith, lt), λ e. absurd (omega (arith, e, lt)), omega (arith, lt))

      low : (k : ℕ) → k < 8 → k < front_len t
      low k lt = (low_of a k lt).0

      other : (k : ℕ) → k < 8 → k ≢ mark_place t
      other k lt = (low_of a k lt).1

      before : (k : ℕ) → k < 8 → k < fields_place t
      before k lt = (low_of a k lt).2

  pub holds_old : (i : List ℕ) → Draws i → Shut i → Holds live batches [] i
  holds_old i d shut =
      let s = stays a c i here d.same shut in
      held batches i live d.whole kept.holds.stands.short (s.live ∙ kept.holds.says)
      (λ n lt. longer i (length c) n (s.placed (length c) ∙ kept.holds.placed) (subst (λ (l : Live). l.start < n) (sym (s.live ∙ kept.holds.says)) lt)) (headed i d.same)

  -- A torn write of the next area's mark changes nothing outside of mark and fields.
  pub draws_mark : (c' i : List ℕ) → Draws c' → Torn (mark_place t) 1 c' i → Draws i
  draws_mark c' i d torn = record {
    same = λ k lt ne side. torn_outside (mark_place t) 1 c' i torn k (beside (mark_place t) k ne) ∙ d.same k lt ne side;
    whole = area_outside (mark_place t) 1 live.start batches c' i torn (inr (omega (arith, mark_low a, front_before))) d.whole;
  }
    where
      beside : (m k : ℕ) → k ≢ m → (k < m) ⊎ (m + 1 ≤ k)
      beside m k ne = elim (cases_lt k m) [
        | inl lt ↦ inl lt
        | inr le ↦ elim (cases_eq k m) [
          | inl e ↦ absurd (ne e)
          | inr ne' ↦ inr (omega (arith, le, ne'))
        ]
      ]

  draws_fields : (n : ℕ) (c' i : List ℕ) → n ≡ fields_len t → Draws c' → Torn (fields_place t) n c' i → Draws i
  draws_fields n c' i n_is d torn =
      record {
        same = λ k lt ne side. torn_outside (fields_place t) n c' i torn k (subst (λ (m : ℕ). (k < fields_place t) ⊎ (fields_place t + m ≤ k)) (sym n_is) side) ∙ d.same k lt ne side;
        whole = area_outside (fields_place t) n live.start batches c' i torn (inr (omega (arith, n_is, fields_low a, front_before))) d.whole;
      }

  draws_area : (at n : ℕ) (c' i : List ℕ) → front_len t ≤ at → (at + n ≤ live.start) ⊎ (live.start + length (area batches) ≤ at) → Draws c' → Torn at n c' i → Draws i
  draws_area at n c' i low apart d torn = record {
    same = λ k lt ne side. torn_outside at n c' i torn k (inl (omega (arith, lt, low))) ∙ d.same k lt ne side;
    whole = area_outside at n live.start batches c' i torn (flipped apart) d.whole;
  }
    where
      flipped : (at + n ≤ live.start) ⊎ (live.start + length (area batches) ≤ at) → (live.start + length (area batches) ≤ at) ⊎ (at + n ≤ live.start)
      flipped (inl x) = inr x
      flipped (inr x) = inl x

  -- the stage in which the mark is being cleared
  module _ (older : Bool) (mark : has_open_mark c live.area ≡ older) where
    pub clearing : (i : List ℕ) → IsClearing older (mark_place t) c i → Holds live batches [] i
    clearing i (inl same) = subst (λ (l : List ℕ). Holds live batches [] l) (sym same) kept.holds
    clearing i (inr torn) =
        let d = draws_mark c i drawn_first torn.1 in
        let there = open_there c a (mark ∙ torn.0) in
        elim (cases_Bool (slice_index i (mark_place t) == open_mark t)) [
          | inr shut ↦ holds_old i d shut
          | inl on ↦
              let stayed : slice_index i (mark_place t) ≡ slice_index c (mark_place t) = equal_is (slice_index i (mark_place t)) (open_mark t) on ∙ there.2 ∙ sym there.1 in
              let every : Agrees 50 c i = λ k lt. elim (cases_eq k (mark_place t)) [
                | inl e ↦ ap (λ (n : ℕ). slice_index i n) e ∙ stayed ∙ ap (λ (n : ℕ). slice_index c n) (sym e)
                | inr ne ↦ torn_outside (mark_place t) 1 c i torn.1 k (split (mark_place t) k ne)
              ] in
              let s = says_same c i (λ k lt. every k (omega (arith, lt)), λ _. every) in
              held batches i live d.whole kept.holds.stands.short (s.live ∙ kept.holds.says)
              (λ n lt. longer i (length c) n (s.placed (length c) ∙ kept.holds.placed) (subst (λ (l : Live). l.start < n) (sym (s.live ∙ kept.holds.says)) lt)) (headed i d.same)
        ]
      where
        split : (m k : ℕ) → k ≢ m → (k < m) ⊎ (m + 1 ≤ k)
        split m k ne = elim (cases_lt k m) [
          | inl lt ↦ inl lt
          | inr le ↦ inr (omega (arith, le, ne))
        ]

    pub cleared_draws : Draws (cleared older (mark_place t) c)
    cleared_draws = elim older as (λ (b : Bool). Draws (cleared b (mark_place t) c)) [
      | true ↦ draws_mark c (overlaid (mark_place t) (0 ∷ []) c) drawn_first (torn_overlaid (mark_place t) 1 (0 ∷ []) c (omega arith))
      | false ↦ drawn_first
    ]

    mark_within : mark_place t ≤ length c
    mark_within = omega (arith, mark_low a, front_before, old_area.long)

    pub cleared_shut : Shut (cleared older (mark_place t) c)
    cleared_shut = elim (cases_Bool older) [
      | inl on ↦
          subst (λ (b : Bool). Shut (cleared b (mark_place t) c)) (sym on)
          (ap (λ (o : ℕ). o == open_mark t) (at_mark (mark_place t) mark_within) ∙ closed_octet a)
      | inr off ↦ subst (λ (b : Bool). Shut (cleared b (mark_place t) c)) (sym off) (shut_mark c a here (mark ∙ off))
    ]
      where
        at_mark : (m : ℕ) → m ≤ length c → slice_index (overlaid m (0 ∷ []) c) m ≡ 0
        at_mark m le = ap (λ (n : ℕ). slice_index (overlaid m (0 ∷ []) c) n) (let e : m ≡ m + 0 = omega arith in e) ∙ laid m (0 ∷ []) c le 0 (omega arith)

    pub cleared_long : length c ≤ length (cleared older (mark_place t) c)
    cleared_long = elim older as (λ (b : Bool). length c ≤ length (cleared b (mark_place t) c)) [
      | true ↦ (torn_overlaid (mark_place t) 1 (0 ∷ []) c (omega arith)).no_shorter
      | false ↦ omega arith
    ]

    -- the stage in which the draft is being written
    module _ (more : List (List ℕ)) (at place : ℕ) (block : List ℕ) (draft : IsDraft live batches more at place block) (small : live.generation < 2 ^ 64 - 1) where
      abbrev pub fields_now : List ℕ
      fields_now = fields_in live place

      fields_size : length fields_now ≡ fields_len t
      fields_size = fields_long t (next_generation live) place

      abbrev pub c1 : List ℕ
      c1 = cleared older (mark_place t) c

      old_need : length (area batches) ≡ length (spelled batches) + 1
      old_need = length-append (spelled batches) (0 ∷ [])

      ends : at + length block ≡ place + need_of more
      ends = omega (arith, draft.before, block_long (place - at) more block draft.is)

      low : front_len t ≤ at
      low = low_of draft.apart
        where
          low_of : ((is_moved live.area ≡ true) × (50 ≤ at) × (place + need_of more ≤ live.start)) ⊎ (at ≡ length_of live.start batches) → front_len t ≤ at
          low_of (inl before) = omega (arith, front_moved a before.0, before.1)
          low_of (inr behind) = omega (arith, front_before, behind)

      apart : (at + length block ≤ live.start) ⊎ (live.start + length (area batches) ≤ at)
      apart = apart_of draft.apart
        where
          apart_of : ((is_moved live.area ≡ true) × (50 ≤ at) × (place + need_of more ≤ live.start)) ⊎ (at ≡ length_of live.start batches) → (at + length block ≤ live.start) ⊎ (live.start + length (area batches) ≤ at)
          apart_of (inl before) = inl (omega (arith, ends, before.2))
          apart_of (inr behind) = inr (omega (arith, behind, old_need))

      pub within : at ≤ length c
      within = within_of draft.apart
        where
          within_of : ((is_moved live.area ≡ true) × (50 ≤ at) × (place + need_of more ≤ live.start)) ⊎ (at ≡ length_of live.start batches) → at ≤ length c
          within_of (inl before) = omega (arith, draft.before, before.2, old_area.long)
          within_of (inr behind) = omega (arith, behind, old_need, old_area.long)

      shut_outside : (w n : ℕ) (c' i : List ℕ) → (mark_place t < w) → Torn w n c' i → Shut c' → Shut i
      shut_outside w n c' i lt torn shut = ap (λ (o : ℕ). o == open_mark t) (torn_outside w n c' i torn (mark_place t) (inl lt)) ∙ shut

      pub drawing : (i : List ℕ) → TornTwice at (length block) (fields_place t) (length fields_now) c1 i → Draws i × Shut i
      drawing i twice =
          let first = draws_area at (length block) c1 twice.mid low apart cleared_draws twice.first in
          let shut = shut_outside at (length block) c1 twice.mid (omega (arith, mark_low a, low)) twice.first cleared_shut in
          (draws_fields (length fields_now) twice.mid i fields_size first twice.second, shut_outside (fields_place t) (length fields_now) twice.mid i (omega (arith, mark_first a)) twice.second shut)

      -- the octets after both writes
      abbrev pub c2 : List ℕ
      c2 = overlaid at block c1

      abbrev pub c3 : List ℕ
      c3 = overlaid (fields_place t) fields_now c2

      twice_is : TornTwice at (length block) (fields_place t) (length fields_now) c1 c3
      twice_is = record {
        mid = c2;
        first = torn_overlaid at (length block) block c1 (omega arith);
        second = torn_overlaid (fields_place t) (length fields_now) fields_now c2 (omega arith);
      }

      c3_draws : Draws c3
      c3_draws = (drawing c3 twice_is).0

      c3_shut : Shut c3
      c3_shut = (drawing c3 twice_is).1

      within_c1 : at ≤ length c1
      within_c1 = omega (arith, within, cleared_long)

      fields_within : fields_place t ≤ length c2
      fields_within = omega (arith, fields_low a, low, laid_long at block c1 within_c1)

      -- The block contains the new area.
      block_area : IsArea place more c2
      block_area =
          let all = laid at block c1 within_c1 in
          record {
            written = λ k lt.
                let zeros : length (replicate (place - at) 0) ≡ place - at = length-replicate {A = ℕ} (place - at) 0 in
                let there : place + k ≡ at + (place - at + k) = omega (arith, draft.before) in
                ap (λ (n : ℕ). slice_index c2 n) there
                ∙ all (place - at + k) (omega (arith, lt, ap length draft.is, length-append (replicate (place - at) 0) (area more), zeros))
                ∙ ap (λ (l : List ℕ). slice_index l (place - at + k)) draft.is
                ∙ ap (λ (n : ℕ). slice_index (replicate (place - at) 0 ++ area more) (n + k)) (sym zeros)
                ∙ get_or-append-add (replicate (place - at) 0) (area more) k 0;
            long = omega (arith, ends, need_is more, laid_long at block c1 within_c1);
          }

      c3_area : IsArea place more c3
      unfolding twice_is
      c3_area =
          area_outside (fields_place t) (length fields_now) place more c2 c3 twice_is.second
          (inr (omega (arith, fields_size, fields_low a, low, draft.before))) block_area

      c3_fields : Written (fields_place t) fields_now c3
      c3_fields = laid (fields_place t) fields_now c2 fields_within

      -- an image from the stage in which the mark may be open
      pub record IsNew (i : List ℕ) : Type 0 where
        pub draws : Draws i
        pub fields : Written (fields_place t) fields_now i
        pub fresh : IsArea place more i
        pub none : HasNoMarks a i

      generation_is : generation_of c a ≡ live.generation
      generation_is = ap (λ (b : Area). generation_of c b) (sym here) ∙ ap (λ (l : Live). l.generation) kept.holds.says

      fields_are : fields_now ≡ fields_of t (generation_of c a + 1) place
      fields_are = sym (fields_same a live.generation place) ∙ ap (λ (n : ℕ). fields_of t (n + 1) place) (sym generation_is)

      small_too : generation_of c a < 2 ^ 64 - 1
      small_too = subst (λ (n : ℕ). n < 2 ^ 64 - 1) (sym generation_is) small

      short_more : AreShort more
      short_more = all_short more (omega (arith, draft.limit))

      place_low : place < 2 ^ 25
      place_low = omega (arith, draft.limit)

      turned : (i : List ℕ) → IsNew i → slice_index i (mark_place t) ≡ open_mark t → Turns c i place
      turned i new mark_is =
          turns a c i place here new.draws.same mark_is new.none draft.fifty place_low small_too (subst (λ (f : List ℕ). Written (fields_place t) f i) fields_are new.fields)

      pub holds_new : (i : List ℕ) → IsNew i → slice_index i (mark_place t) ≡ open_mark t → Holds (moved_to live place) more [] i
      holds_new i new mark_is =
          let u = turned i new mark_is in
          held more i (moved_to live place) new.fresh short_more (u.live ∙ ap (λ (l : Live). moved_to l place) kept.holds.says) u.placed (headed i new.draws.same)

      pub mark_new : (i : List ℕ) → IsNew i → slice_index i (mark_place t) ≡ open_mark t → has_open_mark i (next_area live.area) ≡ is_slot live.area
      mark_new i new mark_is =
          let u = turned i new mark_is in
          ap (λ (b : Area). has_open_mark i (next_area b)) (sym here) ∙ u.mark ∙ ap is_slot here

      at_header : a ≡ Header → live.start ≡ 16
      at_header e = sym start_is ∙ start_plain c (ap is_moved (here ∙ e))

      -- On a disk without a checkpoint the new area begins right after the journal.
      at_behind : a ≡ Header → at ≡ length_of live.start batches
      at_behind e = behind draft.apart
        where
          behind : ((is_moved live.area ≡ true) × (50 ≤ at) × (place + need_of more ≤ live.start)) ⊎ (at ≡ length_of live.start batches) → at ≡ length_of live.start batches
          behind (inl before) = absurd (false≢true (sym (ap is_moved e) ∙ before.0))
          behind (inr is) = is

      seventeen : a ≡ Header → batches ≡ [] → slice_index c3 17 ≡ 0
      unfolding twice_is
      seventeen e none =
          let at_is : at ≡ 17 = at_behind e ∙ omega (arith, at_header e, ap (λ (l : List (List ℕ)). length (spelled l)) none) in
          let some : 0 < place - at = omega (arith, at_is, draft.fifty) in
          let zeros : length (replicate (place - at) 0) ≡ place - at = length-replicate {A = ℕ} (place - at) 0 in
          torn_outside (fields_place t) (length fields_now) c2 c3 twice_is.second 17 (inr (fields_end e))
          ∙ ap (λ (n : ℕ). slice_index c2 n) (let s : 17 ≡ at + 0 = omega (arith, at_is) in s)
          ∙ laid at block c1 within_c1 0 (omega (arith, ends, draft.fifty, at_is))
          ∙ ap (λ (l : List ℕ). slice_index l 0) draft.is
          ∙ get_or_append_left (replicate (place - at) 0) (area more) 0 0 (omega (arith, zeros, some))
          ∙ get_or-replicate (place - at) 0 0 0 some
        where
          fields_end : a ≡ Header → fields_place t + length fields_now ≤ 17
          fields_end h = omega (arith, fields_size, fields_low a, front_plain a (ap is_moved h))

      none_at : (i : List ℕ) → Draws i → (a ≡ Header → batches ≡ [] → slice_index i 17 ≡ 0) → HasNoMarks a i
      none_at i d zero_there = none_of a refl
        where
          none_of : (b : Area) → a ≡ b → HasNoMarks b i
          none_of Header e =
              no_marks batches i (subst (λ (n : ℕ). IsArea n batches i) (at_header e) d.whole) (omega (arith, at_behind e, at_header e, draft.before, draft.limit)) (zero_there e)
          none_of Field e = tt
          none_of First e = tt
          none_of Second e = tt

      new_torn : (i : List ℕ) → Torn (mark_place t) 1 c3 i → IsNew i
      new_torn i torn =
          let draws = draws_mark c3 i c3_draws torn in
          record {
            draws = draws;
            fields = written_outside (mark_place t) 1 (fields_place t) fields_now c3 i torn (inr (mark_first a)) c3_fields;
            fresh = area_outside (mark_place t) 1 place more c3 i torn (inr (omega (arith, mark_low a, low, draft.before))) c3_area;
            none = none_at i draws (λ e none. torn_outside (mark_place t) 1 c3 i torn 17 (inr (omega (arith, mark_low a, front_plain a (ap is_moved e)))) ∙ seventeen e none);
          }

      pub marking : (i : List ℕ) → Torn (mark_place t) 1 c3 i → Holds live batches [] i ⊎ Holds (moved_to live place) more [] i
      marking i torn = elim (cases_Bool (slice_index i (mark_place t) == open_mark t)) [
        | inl on ↦ inr (holds_new i (new_torn i torn) (equal_is (slice_index i (mark_place t)) (open_mark t) on))
        | inr shut ↦ inl (holds_old i (draws_mark c3 i c3_draws torn) shut)
      ]

      abbrev pub c5 : List ℕ
      c5 = overlaid (mark_place t) (open_mark t ∷ []) c3

      c5_new : IsNew c5
      c5_new = new_torn c5 (torn_overlaid (mark_place t) 1 (open_mark t ∷ []) c3 (omega arith))

      c5_mark : slice_index c5 (mark_place t) ≡ open_mark t
      c5_mark =
          ap (λ (n : ℕ). slice_index c5 n) (let e : mark_place t ≡ mark_place t + 0 = omega arith in e)
          ∙ laid (mark_place t) (open_mark t ∷ []) c3 (omega (arith, mark_low a, low, draft.before, c3_area.long)) 0 (omega arith)

      pub done : IsKept (moved_to live place) more c5 (λ i. i ≡ c5)
      done = record { plain = long_plain c5 (omega (arith, c5_new.fresh.long, draft.fifty)); holds = holds_new c5 c5_new c5_mark; settled = settled_of place more c5 (λ i. i ≡ c5) (λ i e. e) c5_new.fresh }

      pub done_mark : has_open_mark c5 (next_area live.area) ≡ is_slot live.area
      done_mark = mark_new c5 c5_new c5_mark

      pub stage : (i : List ℕ) → IsClearing older (mark_place t) c i ⊎ (TornTwice at (length block) (fields_place t) (length fields_now) c1 i ⊎ Torn (mark_place t) 1 c3 i)
          → Holds live batches [] i ⊎ Holds (moved_to live place) more [] i
      stage i (inl clear) = inl (clearing i clear)
      stage i (inr (inl twice)) = let d = drawing i twice in inl (holds_old i d.0 d.1)
      stage i (inr (inr torn)) = marking i torn

      pub spots : (mark_place t + 1 ≤ length c) × (fields_place t + fields_len t ≤ length c) × (at ≤ length c)
      spots = (omega (arith, mark_low a, front_before, old_area.long), omega (arith, fields_low a, front_before, old_area.long), within)

-- the results of all stages of a checkpoint
pub record Results (c : List ℕ) (live : Live) (batches more : List (List ℕ)) (older : Bool) (at place : ℕ) (block : List ℕ) : Type 0 where
  pub stages : (i : List ℕ) → IsStage live older at block place c i → Holds live batches [] i ⊎ Holds (moved_to live place) more [] i
  pub leaves : IsKept (moved_to live place) more (marked live older at block place c) (λ i. i ≡ marked live older at block place c)
  pub mark : has_open_mark (marked live older at block place c) (next_area live.area) ≡ is_slot live.area
  pub spot : (mark_of live + 1 ≤ length c) × (fields_at live + length (fields_in live place) ≤ length c) × (at ≤ length c)

pub results : (c : List ℕ) (live : Live) (batches more : List (List ℕ)) (images : List ℕ → Type 0) (older : Bool) (at place : ℕ) (block : List ℕ) → IsKept live batches c images → has_open_mark c live.area ≡ older
    → IsDraft live batches more at place block → live.generation < 2 ^ 64 - 1 → Results c live batches more older at place block
results c live batches more images older at place block kept mark draft small =
    let spot = spots c live batches images kept older mark more at place block draft small in
    record {
      stages = stage c live batches images kept older mark more at place block draft small;
      leaves = done c live batches images kept older mark more at place block draft small;
      mark = done_mark c live batches images kept older mark more at place block draft small;
      spot = (spot.0, omega (arith, spot.1, fields_long (next_area live.area) (next_generation live) place), spot.2);
    }

-- A disk with the same content as another, and with no other image, keeps the same batches.
pub kept_only : (live : Live) (batches : List (List ℕ)) (c new : List ℕ) (images later : List ℕ → Type 0) → new ≡ c → IsKept live batches c images → Only new later → IsKept live batches new later
kept_only live batches c new images later is kept =
    subst (λ (o : List ℕ). Only o later → IsKept live batches o later) (sym is)
    (λ only. record { plain = kept.plain; holds = kept.holds; settled = record { rest = kept.settled.rest; place = kept.settled.place; is = kept.settled.is; only = only } })

pub ready : (c : List ℕ) (live : Live) (batches more : List (List ℕ)) (images : List ℕ → Type 0) (older : Bool) (at place : ℕ) (block : List ℕ) → Only c images → Results c live batches more older at place block
    → IsReady live older at block place more c images
ready c live batches more images older at place block only r = record { only = only; spots = r.spot; leaves = r.leaves; mark = r.mark }
