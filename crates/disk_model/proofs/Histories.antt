-- How the record of a disk in memory grows.
use Rattle.std.proofs.Common.{◌≡◌, ◌≤◌, ◌<◌, inl, inr, ℕ, zero, suc, ◌+◌, ◌-◌, min, List, [], ◌∷◌, ◌++◌, length, take, drop, map, replicate, get_or, set, refl, sym, ◌∙◌, ap, subst, arith, length-append, append_assoc, vec_capacity}
use Rattle.std.proofs.lemmas.Bool.{cases_lt}
use Rattle.std.proofs.lemmas.Bool.Decides.{nat_tests}
use Rattle.std.proofs.lemmas.List.{take_all, take-take, take-append-le, drop-append-le, drop_all, drop-drop, drop-take, length-drop, length-take, length-take-le, length-replicate, nil_from_length, map-append, take-append-drop, get_or_default, take_at, drop_at}
use Rattle.std.proofs.lemmas.List.Edits.{map_over_more}
use Rattle.disk_model.specs.Images.{Torn, overlaid}
use Rattle.disk_model.specs.Laws.{torn_overlaid}
use Rattle.disk_model.specs.Record.{Used, held, replayed, marked, revived, AreUnsynced}
use Rattle.disk_model.proofs.Replays.{replayed_more}
use Rattle.disk_model.specs.Record.Used.{Wrote, Synced}
use Rattle.disk_model.specs.History.{with_octets, octets_of, marked_write, EndWithin, IsHistory, used_of, past_of, base_of, calls_past, kept_of, restored, back_from, laid_back, undone}
use Rattle.disk_model.specs.declared.history.History.{History}
use Rattle.disk_model.specs.declared.arm.Image.TheVariants.{Lost, Kept, Torn as Filled}
use Rattle.disk_model.specs.declared.arm.Image.{Image}
use Rattle.disk_model.specs.declared.history.Range.{Range}

-- ---- one more write

pub octets_wrote : (writes : List Range) (r : Range) → octets_of (writes ++ r ∷ []) ≡ octets_of writes + r.len
octets_wrote [] r = omega arith
octets_wrote (w ∷ writes) r = omega (arith, octets_wrote writes r)

pub used_wrote : (writes : List Range) (log bytes : List ℕ) (r : Range) → length log ≡ octets_of writes → r.len ≡ length bytes
    → with_octets (writes ++ r ∷ []) (log ++ bytes) ≡ with_octets writes log ++ Wrote r.at bytes r.inside r.state ∷ []
used_wrote [] log bytes r long is =
    let none : log ≡ [] = nil_from_length log long in
    let same : take r.len (log ++ bytes) ≡ bytes = ap (λ (l : List ℕ). take r.len (l ++ bytes)) none ∙ take_all r.len bytes (omega (arith, is)) in
    ap (λ (l : List ℕ). Wrote r.at l r.inside r.state ∷ []) same
used_wrote (w ∷ writes) log bytes r long is =
    let within : w.len ≤ length log = omega (arith, long) in
    let rest : length (drop w.len log) ≡ octets_of writes = omega (arith, length-drop w.len log, long) in
    ap (λ (l : List ℕ). Wrote w.at l w.inside w.state ∷ with_octets (writes ++ r ∷ []) (drop w.len (log ++ bytes))) (take-append-le w.len log bytes within)
    ∙ ap (λ (l : List ℕ). Wrote w.at (take w.len log) w.inside w.state ∷ with_octets (writes ++ r ∷ []) l) (drop-append-le w.len log bytes within)
    ∙ ap (λ (l : List Used). Wrote w.at (take w.len log) w.inside w.state ∷ l) (used_wrote writes (drop w.len log) bytes r rest is)

pub ends_more : (end more : ℕ) (writes : List Range) → end ≤ more → EndWithin end writes → EndWithin more writes
ends_more end more [] le e = tt
ends_more end more (w ∷ writes) le e = (omega (arith, e.0, le), e.1, ends_more end more writes le e.2)

pub ends_wrote : (end : ℕ) (writes : List Range) (r : Range) → EndWithin end writes → r.at + r.len ≤ end → r.inside ≤ r.len → EndWithin end (writes ++ r ∷ [])
ends_wrote end [] r e within inside = (within, inside, tt)
ends_wrote end (w ∷ writes) r e within inside = (e.0, e.1, ends_wrote end writes r e.2 within inside)

-- ---- taking writes back

overlaid_in : (at : ℕ) (bytes old : List ℕ) → at ≤ length old → overlaid at bytes old ≡ take at old ++ bytes ++ drop (at + length bytes) old
overlaid_in at bytes old le = grind (arith, nat_tests)

overlaid_out : (at : ℕ) (bytes old : List ℕ) → length old < at → overlaid at bytes old ≡ old
overlaid_out at bytes old lt = grind (arith, nat_tests)

-- a list is what stands before a place, a part behind it, and the rest
parts : (at k : ℕ) (c : List ℕ) → take at c ++ take k (drop at c) ++ drop (at + k) c ≡ c
parts at k c =
    append_assoc (take at c) (take k (drop at c)) (drop (at + k) c)
    ∙ ap (λ (l : List ℕ). take at c ++ (take k (drop at c) ++ l)) (sym (drop-drop k at c))
    ∙ ap (λ (l : List ℕ). take at c ++ l) (take-append-drop k (drop at c))
    ∙ take-append-drop at c

-- Behind the range, the first `size` octets of a torn content are those of the old one.
module _ (at n : ℕ) (old new : List ℕ) (torn : Torn at n old new) (inside : at ≤ length old) where
  abbrev shorter : List ℕ
  shorter = take (length old) new

  front_same : take at shorter ≡ take at old
  front_same = take-take at (length old) new inside ∙ torn.before

  long : length shorter ≡ length old
  long = length-take-le (length old) new torn.no_shorter

  back_same : (k : ℕ) → k ≡ min n (length old - at) → drop (at + k) shorter ≡ drop (at + k) old
  back_same k is = elim (cases_lt (length old) (at + n)) [
    | inl past ↦
        let all : length old ≤ at + k = omega (arith, is, past, inside) in
        drop_all (at + k) shorter (omega (arith, all, long)) ∙ sym (drop_all (at + k) old all)
    | inr within ↦
        let whole : k ≡ n = omega (arith, is, within, inside) in
        let sum : length old ≡ at + n + (length old - (at + n)) = omega (arith, within) in
        ap (λ (m : ℕ). drop (at + m) shorter) whole
        ∙ ap (λ (m : ℕ). drop (at + n) (take m new)) sum
        ∙ drop-take (at + n) (length old - (at + n)) new
        ∙ ap (λ (l : List ℕ). take (length old - (at + n)) l) torn.after
        ∙ take_all (length old - (at + n)) (drop (at + n) old) (omega (arith, length-drop (at + n) old))
        ∙ ap (λ (m : ℕ). drop (at + m) old) (sym whole)
  ]

-- What was kept of a range brings the old content back.
restored_torn : (r : Range) (saved old new : List ℕ) → Torn r.at r.len old new → r.before ≡ length old
    → take (min r.len (length old - r.at)) saved ≡ take (min r.len (length old - r.at)) (drop r.at old) → restored r saved new ≡ old
restored_torn r saved old new torn before kept =
    let k = min r.len (length old - r.at) in
    ap (λ (m : ℕ). overlaid r.at (take (min r.len (m - r.at)) saved) (take m new)) before ∙ elim (cases_lt (length old) r.at) [
      | inl out ↦
          let short : length (take (length old) new) ≡ length old = length-take-le (length old) new torn.no_shorter in
          overlaid_out r.at (take k saved) (take (length old) new) (omega (arith, out, short))
          ∙ sym (take-take (length old) r.at new (omega (arith, out)))
          ∙ ap (λ (l : List ℕ). take (length old) l) torn.before
          ∙ take-take (length old) r.at old (omega (arith, out))
          ∙ take_all (length old) old (omega arith)
      | inr inside ↦
          let size : length (take k (drop r.at old)) ≡ k = length-take-le k (drop r.at old) (omega (arith, length-drop r.at old)) in
          ap (λ (l : List ℕ). overlaid r.at l (take (length old) new)) kept
          ∙ overlaid_in r.at (take k (drop r.at old)) (take (length old) new) (omega (arith, inside, long r.at r.len old new torn inside))
          ∙ ap (λ (l : List ℕ). l ++ take k (drop r.at old) ++ drop (r.at + length (take k (drop r.at old))) (take (length old) new)) (front_same r.at r.len old new torn inside)
          ∙ ap (λ (m : ℕ). take r.at old ++ take k (drop r.at old) ++ drop (r.at + m) (take (length old) new)) size
          ∙ ap (λ (l : List ℕ). take r.at old ++ take k (drop r.at old) ++ l) (back_same r.at r.len old new torn inside k refl)
          ∙ parts r.at k old
    ]

-- the octets that are kept, whose zeros behind the content's end are never laid back
kept_front : (at n : ℕ) (c : List ℕ) → take (min n (length c - at)) (kept_of at n c) ≡ take (min n (length c - at)) (drop at c)
kept_front at n c =
    let k = min n (length c - at) in
    let size : length (take n (drop at c)) ≡ k = omega (arith, length-take n (drop at c), length-drop at c) in
    take-append-le k (take n (drop at c)) (replicate (n - length (take n (drop at c))) 0) (omega (arith, size)) ∙ take-take k n (drop at c) (omega arith)

pub kept_long : (at n : ℕ) (c : List ℕ) → length (kept_of at n c) ≡ n
kept_long at n c =
    omega (
      arith,
      length-append (take n (drop at c)) (replicate (n - length (take n (drop at c))) 0),
      length-replicate {A = ℕ} (n - length (take n (drop at c))) 0,
      length-take n (drop at c),
    )

-- a write is taken back by what was kept of its range
pub back_held : (r : Range) (bytes content : List ℕ) → r.before ≡ length content → r.len ≡ length bytes
    → laid_back r (kept_of r.at r.len content) (held content (Wrote r.at bytes r.inside r.state)) ≡ content
back_held r bytes content before long = by_state r.state
  where
    by_state : (state : Image) → back_from state r (kept_of r.at r.len content) (held content (Wrote r.at bytes r.inside state)) ≡ content
    by_state Lost = refl
    by_state Kept =
        restored_torn r (kept_of r.at r.len content) content (overlaid r.at bytes content) (torn_overlaid r.at r.len bytes content (omega (arith, long))) before (kept_front r.at r.len content)
    by_state Filled =
        let filled = replicate (min r.inside (length bytes)) 238 in
        restored_torn r (kept_of r.at r.len content) content (overlaid r.at filled content)
        (torn_overlaid r.at r.len filled content (omega (arith, long, length-replicate {A = ℕ} (min r.inside (length bytes)) 238))) before (kept_front r.at r.len content)

-- only the kept octets of a write's own range are laid back
back_front : (r : Range) (saved more content : List ℕ) → r.len ≤ length saved → laid_back r (saved ++ more) content ≡ laid_back r saved content
back_front r saved more content le = by_state r.state
  where
    same : restored r (saved ++ more) content ≡ restored r saved content
    same = ap (λ (l : List ℕ). overlaid r.at l (take r.before content)) (take-append-le (min r.len (r.before - r.at)) saved more (omega (arith, le)))

    by_state : (state : Image) → back_from state r (saved ++ more) content ≡ back_from state r saved content
    by_state Lost = refl
    by_state Kept = same
    by_state Filled = same

-- the last of several writes is taken back first
pub undone_more : (writes : List Range) (r : Range) (saved kept content : List ℕ) → length saved ≡ octets_of writes → undone (writes ++ r ∷ []) (saved ++ kept) content ≡ undone writes saved (laid_back r kept content)
undone_more [] r saved kept content long = ap (λ (l : List ℕ). laid_back r (l ++ kept) content) (nil_from_length saved long)
undone_more (w ∷ writes) r saved kept content long =
    let within : w.len ≤ length saved = omega (arith, long) in
    let rest : length (drop w.len saved) ≡ octets_of writes = omega (arith, length-drop w.len saved, long) in
    ap (λ (l : List ℕ). laid_back w (saved ++ kept) (undone (writes ++ r ∷ []) l content)) (drop-append-le w.len saved kept within)
    ∙ ap (λ (l : List ℕ). laid_back w (saved ++ kept) l) (undone_more writes r (drop w.len saved) kept content rest)
    ∙ back_front w saved kept (undone writes (drop w.len saved) (laid_back r kept content)) within

-- one step of taking writes back
pub undone_last : (writes : List Range) (i : ℕ) (d : Range) (saved content : List ℕ) → i < length writes
    → undone (take (suc i) writes) saved content ≡ undone (take i writes) saved (laid_back (get_or writes i d) (drop (octets_of (take i writes)) saved) content)
undone_last [] i d saved content lt = absurd (omega (arith, lt))
undone_last (w ∷ writes) zero d saved content lt = refl
undone_last (w ∷ writes) (suc i) d saved content lt =
    ap (λ (l : List ℕ). laid_back w saved l) (undone_last writes i d (drop w.len saved) content (omega (arith, lt)))
    ∙ ap (λ (l : List ℕ). laid_back w saved (undone (take i writes) (drop w.len saved) (laid_back (get_or writes i d) l content))) (drop-drop (octets_of (take i writes)) w.len saved)

pub octets_last : (writes : List Range) (i : ℕ) (d : Range) → i < length writes → octets_of (take (suc i) writes) ≡ octets_of (take i writes) + (get_or writes i d).len
octets_last [] i d lt = absurd (omega (arith, lt))
octets_last (w ∷ writes) zero d lt = omega arith
octets_last (w ∷ writes) (suc i) d lt = omega (arith, octets_last writes i d (omega (arith, lt)))

pub octets_take : (n : ℕ) (writes : List Range) → octets_of (take n writes) ≤ octets_of writes
octets_take zero writes = omega arith
octets_take (suc n) [] = omega arith
octets_take (suc n) (w ∷ writes) = omega (arith, octets_take n writes)

pub end_at : (end : ℕ) (writes : List Range) (i : ℕ) (d : Range) → i < length writes → EndWithin end writes → (get_or writes i d).at + (get_or writes i d).len ≤ end
end_at end [] i d lt e = absurd (omega (arith, lt))
end_at end (w ∷ writes) zero d lt e = e.0
end_at end (w ∷ writes) (suc i) d lt e = end_at end writes i d (omega (arith, lt)) e.2

module _ (writes : List Range) (place : ℕ) (d : Range) (below : place ≤ length writes) (some : 0 < place) where
  abbrev last : Range
  last = get_or writes (place - 1) d

  one_more : place ≡ suc (place - 1)
  one_more = omega (arith, some)

  pub octets_here : octets_of (take place writes) ≡ octets_of (take (place - 1) writes) + last.len
  octets_here = ap (λ (n : ℕ). octets_of (take n writes)) one_more ∙ octets_last writes (place - 1) d (omega (arith, below, some))

  pub undone_here : (end : ℕ) (saved content : List ℕ) → end ≡ octets_of (take place writes)
      → undone (take (place - 1) writes) saved (laid_back last (drop (end - last.len) saved) content) ≡ undone (take place writes) saved content
  undone_here end saved content is =
      let at : end - last.len ≡ octets_of (take (place - 1) writes) = omega (arith, is, octets_here) in
      ap (λ (n : ℕ). undone (take (place - 1) writes) saved (laid_back last (drop n saved) content)) at
      ∙ sym (undone_last writes (place - 1) d saved content (omega (arith, below, some)))
      ∙ ap (λ (n : ℕ). undone (take n writes) saved content) (sym one_more)

  pub end_here : (end : ℕ) → EndWithin end writes → last.at + last.len ≤ end
  end_here end e = end_at end writes (place - 1) d (omega (arith, below, some)) e

-- ---- the calls up to the last sync

pub past_synced : (rounds : List (List Range × List ℕ)) (writes : List Range) (log : List ℕ) → calls_past (rounds ++ (writes, log) ∷ []) ≡ calls_past rounds ++ with_octets writes log ++ Synced ∷ []
past_synced [] writes log = refl
past_synced ((w, l) ∷ rounds) writes log =
    ap (λ (u : List Used). with_octets w l ++ Synced ∷ u) (past_synced rounds writes log)
    ∙ ap (λ (u : List Used). with_octets w l ++ Synced ∷ u) (append_assoc (calls_past rounds) (with_octets writes log) (Synced ∷ []))
    ∙ sym (append_assoc (with_octets w l) (Synced ∷ calls_past rounds) (with_octets writes log ++ Synced ∷ []))
    ∙ sym (append_assoc (with_octets w l ++ Synced ∷ calls_past rounds) (with_octets writes log) (Synced ∷ []))

pub rounds_more : {A B : Type 0} (writes_of : A → List Range) (log_of : B → List ℕ) (items : List (A × B)) (a : A) (b : B)
    → calls_past (map (λ round. (writes_of round.0, log_of round.1)) (items ++ (a, b) ∷ [])) ≡ calls_past (map (λ round. (writes_of round.0, log_of round.1)) items) ++ with_octets (writes_of a) (log_of b) ++ Synced ∷ []
rounds_more writes_of log_of items a b =
    ap calls_past (map-append (λ round. (writes_of round.0, log_of round.1)) items ((a, b) ∷ [])) ∙ past_synced (map (λ round. (writes_of round.0, log_of round.1)) items) (writes_of a) (log_of b)

pub replayed_on : (content : List ℕ) (used more : List Used) → replayed content (used ++ more) ≡ replayed (replayed content used) more
replayed_on content [] more = refl
replayed_on content (u ∷ used) more = replayed_on (held content u) used more

pub unsynced_with : (writes : List Range) (log : List ℕ) → AreUnsynced (with_octets writes log)
unsynced_with [] log = tt
unsynced_with (w ∷ writes) log = unsynced_with writes (drop w.len log)

-- the calls behind the last sync are writes
pub unsynced_behind : (h : History) → AreUnsynced (drop (length (past_of h)) (used_of h))
unsynced_behind h = subst AreUnsynced (sym (drop_at (past_of h) (with_octets h.writes.items h.log.items) (length (past_of h)) refl)) (unsynced_with h.writes.items h.log.items)

-- the content follows from the first one and all used calls
whole : (h : History) → base_of h ≡ replayed h.first.items (past_of h) → h.content.items ≡ replayed (base_of h) (with_octets h.writes.items h.log.items) → h.content.items ≡ replayed h.first.items (used_of h)
whole h past behind =
    behind ∙ ap (λ (l : List ℕ). replayed l (with_octets h.writes.items h.log.items)) past ∙ sym (replayed_on h.first.items (past_of h) (with_octets h.writes.items h.log.items))

module _ (old new : History) (is : IsHistory old) (first : new.first ≡ old.first) (grows : vec_capacity old.content ≤ vec_capacity new.content)
    (base : base_of new ≡ base_of old) (past : past_of new ≡ past_of old) where
  past_on : base_of new ≡ replayed new.first.items (past_of new)
  past_on = base ∙ is.past ∙ ap (λ v. replayed v.items (past_of old)) (sym first) ∙ ap (λ u. replayed new.first.items u) (sym past)

  -- more memory, and no other change
  pub grown : new.content.items ≡ old.content.items → new.log.items ≡ old.log.items → new.saved.items ≡ old.saved.items → new.writes.items ≡ old.writes.items → IsHistory new × (used_of new ≡ used_of old)
  grown content log saved writes =
      let tail : with_octets new.writes.items new.log.items ≡ with_octets old.writes.items old.log.items =
      ap (λ (l : List ℕ). with_octets new.writes.items l) log ∙ ap (λ (k : List Range). with_octets k old.log.items) writes in
      let behind : new.content.items ≡ replayed (base_of new) (with_octets new.writes.items new.log.items) =
      content ∙ is.behind ∙ ap (λ u. replayed (base_of old) u) (sym tail) ∙ ap (λ l. replayed l (with_octets new.writes.items new.log.items)) (sym base) in (
        record {
          log = ap length log ∙ is.log ∙ ap octets_of (sym writes);
          saved = ap length saved ∙ is.saved ∙ ap octets_of (sym writes);
          past = past_on;
          content = whole new past_on behind;
          behind = behind;
          back =
              ap (λ k. undone k new.saved.items new.content.items) writes
              ∙ ap (λ l. undone old.writes.items l new.content.items) saved
              ∙ ap (λ l. undone old.writes.items old.saved.items l) content
              ∙ is.back
              ∙ sym base;
          ends = ends_more (vec_capacity old.content) (vec_capacity new.content) new.writes.items grows (subst (λ k. EndWithin (vec_capacity old.content) k) (sym writes) is.ends);
        },
        ap (λ u. u ++ with_octets new.writes.items new.log.items) past ∙ ap (λ u. past_of old ++ u) tail,
      )

  -- the record after a write
  pub wrote : (at : ℕ) (bytes : List ℕ) → new.content.items ≡ overlaid at bytes old.content.items → new.log.items ≡ old.log.items ++ bytes
      → new.saved.items ≡ old.saved.items ++ kept_of at (length bytes) old.content.items
      → new.writes.items ≡ old.writes.items ++ record { at = at; len = length bytes; inside = length bytes; before = length old.content.items; state = Kept } ∷ []
      → at + length bytes ≤ vec_capacity old.content → IsHistory new × (used_of new ≡ used_of old ++ Wrote at bytes (length bytes) Kept ∷ [])
  wrote at bytes content log saved writes fits =
      let r : Range = record { at = at; len = length bytes; inside = length bytes; before = length old.content.items; state = Kept } in
      let u : Used = Wrote at bytes (length bytes) Kept in
      let kept = kept_of at (length bytes) old.content.items in
      let tail : with_octets new.writes.items new.log.items ≡ with_octets old.writes.items old.log.items ++ u ∷ [] =
      ap (λ (l : List ℕ). with_octets new.writes.items l) log ∙ ap (λ (k : List Range). with_octets k (old.log.items ++ bytes)) writes ∙ used_wrote old.writes.items old.log.items bytes r is.log refl in
      let behind : new.content.items ≡ replayed (base_of new) (with_octets new.writes.items new.log.items) =
      content ∙ ap (λ (l : List ℕ). overlaid at bytes l) is.behind ∙ sym (replayed_more (base_of old) (with_octets old.writes.items old.log.items) u)
      ∙ ap (λ w. replayed (base_of old) w) (sym tail) ∙ ap (λ l. replayed l (with_octets new.writes.items new.log.items)) (sym base) in (
        record {
          log = ap length log ∙ length-append old.log.items bytes ∙ ap (λ n. n + length bytes) is.log ∙ sym (octets_wrote old.writes.items r) ∙ ap octets_of (sym writes);
          saved =
              ap length saved ∙ length-append old.saved.items kept ∙ ap (λ n. n + length kept) is.saved ∙ ap (λ n. octets_of old.writes.items + n) (kept_long at (length bytes) old.content.items)
              ∙ sym (octets_wrote old.writes.items r)
              ∙ ap octets_of (sym writes);
          past = past_on;
          content = whole new past_on behind;
          behind = behind;
          back =
              ap (λ k. undone k new.saved.items new.content.items) writes
              ∙ ap (λ l. undone (old.writes.items ++ r ∷ []) l new.content.items) saved
              ∙ undone_more old.writes.items r old.saved.items kept new.content.items is.saved
              ∙ ap (λ l. undone old.writes.items old.saved.items (laid_back r kept l)) content
              ∙ ap (λ l. undone old.writes.items old.saved.items l) (back_held r bytes old.content.items refl refl)
              ∙ is.back
              ∙ sym base;
          ends = subst (λ k. EndWithin (vec_capacity new.content) k) (sym writes)
              (ends_wrote (vec_capacity new.content) old.writes.items r (ends_more (vec_capacity old.content) (vec_capacity new.content) old.writes.items grows is.ends) (omega (arith, fits, grows)) (omega arith));
        },
        ap (λ w. w ++ with_octets new.writes.items new.log.items) past ∙ ap (λ w. past_of old ++ w) tail ∙ sym (append_assoc (past_of old) (with_octets old.writes.items old.log.items) (u ∷ [])),
      )

-- the record after a sync
pub synced_now : (old new : History) → IsHistory old → new.first ≡ old.first → new.content ≡ old.content → new.log.items ≡ [] → new.saved.items ≡ [] → new.writes.items ≡ [] → base_of new ≡ old.content.items
    → past_of new ≡ used_of old ++ Synced ∷ [] → IsHistory new × (used_of new ≡ used_of old ++ Synced ∷ [])
synced_now old new is first content log saved writes base past =
    let tail : with_octets new.writes.items new.log.items ≡ [] = ap (λ (k : List Range). with_octets k new.log.items) writes in
    let earlier : base_of new ≡ replayed new.first.items (past_of new) =
    base ∙ is.content ∙ sym (replayed_more old.first.items (used_of old) Synced) ∙ ap (λ v. replayed v.items (used_of old ++ Synced ∷ [])) (sym first) ∙ ap (λ u. replayed new.first.items u) (sym past) in
    let behind : new.content.items ≡ replayed (base_of new) (with_octets new.writes.items new.log.items) = ap (λ v. v.items) content ∙ sym base ∙ ap (λ u. replayed (base_of new) u) (sym tail) in (
      record {
        log = ap length log ∙ ap octets_of (sym writes);
        saved = ap length saved ∙ ap octets_of (sym writes);
        past = earlier;
        content = whole new earlier behind;
        behind = behind;
        back = ap (λ (k : List Range). undone k new.saved.items new.content.items) writes ∙ ap (λ v. v.items) content ∙ sym base;
        ends = subst (λ k. EndWithin (vec_capacity new.content) k) (sym writes) tt;
      },
      ap (λ u. u ++ with_octets new.writes.items new.log.items) past ∙ ap (λ u. (used_of old ++ Synced ∷ []) ++ u) tail ∙ nothing_more (used_of old ++ Synced ∷ []),
    )
  where
    nothing_more : (used : List Used) → used ++ [] ≡ used
    nothing_more [] = refl
    nothing_more (u ∷ used) = ap (λ (l : List Used). u ∷ l) (nothing_more used)

-- ---- marks

-- writes may be marked before or after they are given their octets
used_marked : (mark : Image) (size : ℕ) (writes : List Range) (log : List ℕ) → with_octets (map (marked_write mark size) writes) log ≡ map (marked mark size) (with_octets writes log)
used_marked mark size [] log = refl
used_marked Lost size (w ∷ writes) log = ap (λ (l : List Used). marked Lost size (Wrote w.at (take w.len log) w.inside w.state) ∷ l) (used_marked Lost size writes (drop w.len log))
used_marked Kept size (w ∷ writes) log = ap (λ (l : List Used). marked Kept size (Wrote w.at (take w.len log) w.inside w.state) ∷ l) (used_marked Kept size writes (drop w.len log))
used_marked Filled size (w ∷ writes) log = ap (λ (l : List Used). marked Filled size (Wrote w.at (take w.len log) w.inside w.state) ∷ l) (used_marked Filled size writes (drop w.len log))

pub octets_marked : (mark : Image) (size : ℕ) (writes : List Range) → octets_of (map (marked_write mark size) writes) ≡ octets_of writes
octets_marked mark size [] = refl
octets_marked Lost size (w ∷ writes) = ap (λ k. w.len + k) (octets_marked Lost size writes)
octets_marked Kept size (w ∷ writes) = ap (λ k. w.len + k) (octets_marked Kept size writes)
octets_marked Filled size (w ∷ writes) = ap (λ k. w.len + k) (octets_marked Filled size writes)

pub ends_marked : (end : ℕ) (mark : Image) (size : ℕ) (writes : List Range) → EndWithin end writes → EndWithin end (map (marked_write mark size) writes)
ends_marked end mark size [] e = tt
ends_marked end Lost size (w ∷ writes) e = (e.0, omega (arith, e.1), ends_marked end Lost size writes e.2)
ends_marked end Kept size (w ∷ writes) e = (e.0, e.1, ends_marked end Kept size writes e.2)
ends_marked end Filled size (w ∷ writes) e = (e.0, e.1, ends_marked end Filled size writes e.2)

-- writes that are marked as lost leave the content unchanged, and there is nothing to take back
lost_all : (content : List ℕ) (size : ℕ) (writes : List Range) (log : List ℕ) → replayed content (with_octets (map (marked_write Lost size) writes) log) ≡ content
lost_all content size [] log = refl
lost_all content size (w ∷ writes) log = lost_all content size writes (drop w.len log)

-- calls that are marked as lost leave the content unchanged
lost_used : (content : List ℕ) (size : ℕ) (used : List Used) → replayed content (map (marked Lost size) used) ≡ content
lost_used content size [] = refl
lost_used content size (Wrote a b s t ∷ used) = lost_used content size used
lost_used content size (Synced ∷ used) = lost_used content size used

pub lost_behind : (content : List ℕ) (size n : ℕ) (used : List Used) → replayed content (take n used) ≡ replayed content (revived Lost size n used)
lost_behind content size zero used = sym (lost_used content size used)
lost_behind content size (suc n) [] = refl
lost_behind content size (suc n) (u ∷ used) = lost_behind (held content u) size n used

lost_back : (content : List ℕ) (size : ℕ) (writes : List Range) (saved : List ℕ) → undone (map (marked_write Lost size) writes) saved content ≡ content
lost_back content size [] saved = refl
lost_back content size (w ∷ writes) saved = lost_back content size writes (drop w.len saved)

kept_all : (size : ℕ) (used : List Used) → map (marked Kept size) used ≡ used
kept_all size [] = refl
kept_all size (Wrote a b s t ∷ used) = ap (λ (l : List Used). Wrote a b s t ∷ l) (kept_all size used)
kept_all size (Synced ∷ used) = ap (λ (l : List Used). Synced ∷ l) (kept_all size used)

pub kept_behind : (size n : ℕ) (used : List Used) → used ≡ revived Kept size n used
kept_behind size n used = sym (take-append-drop n used) ∙ ap (λ (l : List Used). take n used ++ l) (sym (kept_all size (drop n used)))

-- the mark of a torn write doesn't depend on the disk's size
torn_all : (one other : ℕ) (used : List Used) → map (marked Filled one) used ≡ map (marked Filled other) used
torn_all one other [] = refl
torn_all one other (Wrote a b s t ∷ used) = ap (λ (l : List Used). Wrote a b s Filled ∷ l) (torn_all one other used)
torn_all one other (Synced ∷ used) = ap (λ (l : List Used). Synced ∷ l) (torn_all one other used)

pub torn_behind : (one other n : ℕ) (used : List Used) → revived Filled one n used ≡ revived Filled other n used
torn_behind one other n used = ap (λ (l : List Used). take n used ++ l) (torn_all one other (drop n used))

-- the record after a cut, whose writes are marked
module _ (old new : History) (is : IsHistory old) (first : new.first ≡ old.first) (grows : vec_capacity old.content ≤ vec_capacity new.content)
    (base : base_of new ≡ base_of old) (past : past_of new ≡ past_of old) (log : new.log.items ≡ old.log.items) (mark : Image) (size : ℕ) where
  pub revived_used : with_octets new.writes.items old.log.items ≡ with_octets (map (marked_write mark size) old.writes.items) old.log.items → used_of new ≡ revived mark size (length (past_of old)) (used_of old)
  revived_used marks =
      let tail = with_octets old.writes.items old.log.items in
      ap (λ u. u ++ with_octets new.writes.items new.log.items) past
      ∙ ap (λ l. past_of old ++ with_octets new.writes.items l) log
      ∙ ap (λ u. past_of old ++ u) (marks ∙ used_marked mark size old.writes.items old.log.items)
      ∙ ap (λ u. u ++ map (marked mark size) tail) (sym (take_at (past_of old) tail (length (past_of old)) refl))
      ∙ ap (λ u. take (length (past_of old)) (used_of old) ++ map (marked mark size) u) (sym (drop_at (past_of old) tail (length (past_of old)) refl))

  pub revived_sound : length new.saved.items ≡ octets_of new.writes.items → octets_of new.writes.items ≡ octets_of old.writes.items
      → new.content.items ≡ replayed (base_of old) (with_octets new.writes.items old.log.items) → undone new.writes.items new.saved.items new.content.items ≡ base_of old
      → EndWithin (vec_capacity new.content) new.writes.items → IsHistory new
  revived_sound saved octets content back ends =
      let behind : new.content.items ≡ replayed (base_of new) (with_octets new.writes.items new.log.items) =
      content ∙ ap (λ l. replayed (base_of old) (with_octets new.writes.items l)) (sym log) ∙ ap (λ l. replayed l (with_octets new.writes.items new.log.items)) (sym base) in
      record {
        log = ap length log ∙ is.log ∙ sym octets;
        saved = saved;
        past = past_on old new is first grows base past;
        content = whole new (past_on old new is first grows base past) behind;
        behind = behind;
        back = back ∙ sym base;
        ends = ends;
      }

  pub lost_sound : new.saved.items ≡ old.saved.items → new.writes.items ≡ map (marked_write Lost size) old.writes.items → new.content.items ≡ base_of old → IsHistory new
  lost_sound saved writes content =
      let octets : octets_of new.writes.items ≡ octets_of old.writes.items = ap octets_of writes ∙ octets_marked Lost size old.writes.items in
      revived_sound (ap length saved ∙ is.saved ∙ sym octets) octets
      (content ∙ sym (lost_all (base_of old) size old.writes.items old.log.items) ∙ ap (λ k. replayed (base_of old) (with_octets k old.log.items)) (sym writes))
      (ap (λ k. undone k new.saved.items new.content.items) writes ∙ lost_back new.content.items size old.writes.items new.saved.items ∙ content)
      (subst (λ k. EndWithin (vec_capacity new.content) k) (sym writes)
      (ends_marked (vec_capacity new.content) Lost size old.writes.items (ends_more (vec_capacity old.content) (vec_capacity new.content) old.writes.items grows is.ends)))

-- one step of a loop over the writes
pub mark_step : (f : Range → Range) (xs ys : List Range) (i : ℕ) (d r : Range) → i < length xs → length ys ≡ length xs → ys ≡ map f (take i xs) ++ drop i xs → r ≡ f (get_or ys i d) → set ys i r ≡ map f (take (i + 1) xs) ++ drop (i + 1) xs
mark_step f xs ys i d r lt long is e =
    ap (λ (u : Range). set ys i u) e ∙ map_over_more f xs ys i (get_or ys i d) lt is (get_or_default ys i d (get_or ys i d) (omega (arith, lt, long)))
