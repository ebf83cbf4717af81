-- The writes are laid over the content once more, one by one.
use Rattle.std.proofs.Common.{◌≡◌, ◌≤◌, ◌<◌, ℕ, zero, suc, ◌+◌, List, [], ◌∷◌, ◌++◌, length, take, drop, get_or, set, refl, sym, ◌∙◌, ap, arith, length-append}
use Rattle.std.proofs.lemmas.List.{drop-drop, length-drop, length-take-le, take_all}
use Rattle.disk_model.specs.Record.{Used, held, replayed}
use Rattle.disk_model.specs.Record.Used.{Wrote}
use Rattle.disk_model.specs.History.{with_octets, octets_of, undone, laid_back, kept_of, EndWithin}
use Rattle.disk_model.specs.declared.history.Range.{Range}
use Rattle.disk_model.proofs.Histories.{undone_more, back_held, kept_long, octets_wrote, octets_take}
use Rattle.disk_model.proofs.Replays.{replayed_more}

abbrev pub placed : Range → ℕ → Range
placed r before = record r { before = before }

-- The first i writes were laid again over the content that was there, `start`, and are as they were but for the length before each.
pub record IsRedone (start log : List ℕ) (old : List Range) (i : ℕ) (new : List Range) (saved content rest : List ℕ) : Type 0 where
  pub long : length new ≡ length old
  pub later : drop i new ≡ drop i old
  pub octets : octets_of (take i new) ≡ octets_of (take i old)
  pub used : with_octets (take i new) log ≡ with_octets (take i old) log
  pub laid : content ≡ replayed start (with_octets (take i old) log)
  pub back : undone (take i new) saved content ≡ start
  pub keeps : length saved ≡ octets_of (take i new)
  pub left : rest ≡ drop (octets_of (take i old)) log

-- nothing is laid yet
pub redone_none : (content log : List ℕ) (writes : List Range) (saved : List ℕ) → saved ≡ [] → IsRedone content log writes 0 writes saved content log
redone_none content log writes saved none =
    record { long = refl; later = refl; octets = refl; used = refl; laid = refl; back = refl; keeps = ap length none; left = refl }

set_front : (xs : List Range) (i : ℕ) (d x : Range) → i < length xs → take (i + 1) (set xs i x) ≡ take i xs ++ x ∷ []
set_front [] i d x lt = absurd (omega (arith, lt))
set_front (w ∷ xs) zero d x lt = refl
set_front (w ∷ xs) (suc i) d x lt =
    let more : suc i + 1 ≡ suc (i + 1) = omega arith in
    ap (λ (n : ℕ). take n (w ∷ set xs i x)) more ∙ ap (λ (l : List Range). w ∷ l) (set_front xs i d x (omega (arith, lt)))

set_back : (xs : List Range) (i : ℕ) (x : Range) → drop (i + 1) (set xs i x) ≡ drop (i + 1) xs
set_back [] i x = refl
set_back (w ∷ xs) zero x = refl
set_back (w ∷ xs) (suc i) x =
    let more : suc i + 1 ≡ suc (i + 1) = omega arith in
    ap (λ (n : ℕ). drop n (w ∷ set xs i x)) more ∙ set_back xs i x ∙ ap (λ (n : ℕ). drop n (w ∷ xs)) (sym more)

set_long : (xs : List Range) (i : ℕ) (x : Range) → length (set xs i x) ≡ length xs
set_long [] i x = refl
set_long (w ∷ xs) zero x = refl
set_long (w ∷ xs) (suc i) x = ap (λ n. suc n) (set_long xs i x)

front_more : (xs : List Range) (i : ℕ) (d : Range) → i < length xs → take (i + 1) xs ≡ take i xs ++ get_or xs i d ∷ []
front_more [] i d lt = absurd (omega (arith, lt))
front_more (w ∷ xs) zero d lt = refl
front_more (w ∷ xs) (suc i) d lt =
    let more : suc i + 1 ≡ suc (i + 1) = omega arith in
    ap (λ (n : ℕ). take n (w ∷ xs)) more ∙ ap (λ (l : List Range). w ∷ l) (front_more xs i d (omega (arith, lt)))

same_here : (xs ys : List Range) (i : ℕ) (d : Range) → i < length xs → length ys ≡ length xs → drop i ys ≡ drop i xs → get_or ys i d ≡ get_or xs i d
same_here [] ys i d lt long same = absurd (omega (arith, lt))
same_here (w ∷ xs) [] i d lt long same = absurd (omega (arith, long))
same_here (w ∷ xs) (v ∷ ys) zero d lt long same = ap (λ (l : List Range). get_or l 0 d) same
same_here (w ∷ xs) (v ∷ ys) (suc i) d lt long same = same_here xs ys i d (omega (arith, lt)) (omega (arith, long)) same

-- the calls of one more write, whose octets stand behind those of the writes before
used_more : (writes : List Range) (log : List ℕ) (r : Range) → with_octets (writes ++ r ∷ []) log ≡ with_octets writes log ++ Wrote r.at (take r.len (drop (octets_of writes) log)) r.inside r.state ∷ []
used_more [] log r = refl
used_more (w ∷ writes) log r =
    ap (λ (l : List Used). Wrote w.at (take w.len log) w.inside w.state ∷ l) (used_more writes (drop w.len log) r)
    ∙ ap (λ (l : List ℕ). Wrote w.at (take w.len log) w.inside w.state ∷ with_octets writes (drop w.len log) ++ Wrote r.at (take r.len l) r.inside r.state ∷ []) (drop-drop (octets_of writes) w.len log)

module _ (start log : List ℕ) (old : List Range) (i : ℕ) (new : List Range) (saved content rest : List ℕ) (d : Range) (so_far : IsRedone start log old i new saved content rest) (lt : i < length old) where
  abbrev range : Range
  range = placed (get_or new i d) (length content)

  abbrev bytes : List ℕ
  bytes = take range.len rest

  here : get_or new i d ≡ get_or old i d
  here = same_here old new i d lt so_far.long so_far.later

  inside : i < length new
  inside = omega (arith, lt, so_far.long)

  pub redone_more : (new' : List Range) (saved' content' rest' : List ℕ) → length bytes ≡ range.len → new' ≡ set new i range → saved' ≡ saved ++ kept_of range.at range.len content
      → content' ≡ held content (Wrote range.at bytes range.inside range.state) → rest' ≡ drop range.len rest → IsRedone start log old (i + 1) new' saved' content' rest'
  redone_more new' saved' content' rest' whole put kept spread on =
      let front : take (i + 1) new' ≡ take i new ++ range ∷ [] = ap (λ (l : List Range). take (i + 1) l) put ∙ set_front new i d range inside in
      let before : take (i + 1) old ≡ take i old ++ get_or old i d ∷ [] = front_more old i d lt in
      let octets : octets_of (take (i + 1) new') ≡ octets_of (take (i + 1) old) =
      ap octets_of front ∙ octets_wrote (take i new) range ∙ ap (λ (n : ℕ). n + range.len) so_far.octets ∙ ap (λ (r : Range). octets_of (take i old) + r.len) here ∙ sym (octets_wrote (take i old) (get_or old i d))
      ∙ ap octets_of (sym before) in
      let call : Wrote range.at (take range.len (drop (octets_of (take i new)) log)) range.inside range.state ≡ Wrote range.at bytes range.inside range.state =
      ap (λ (n : ℕ). Wrote range.at (take range.len (drop n log)) range.inside range.state) so_far.octets
      ∙ ap (λ (l : List ℕ). Wrote range.at (take range.len l) range.inside range.state) (sym so_far.left) in
      let newer : with_octets (take (i + 1) new') log ≡ with_octets (take i old) log ++ Wrote range.at bytes range.inside range.state ∷ [] =
      ap (λ (l : List Range). with_octets l log) front ∙ used_more (take i new) log range ∙ ap (λ (u : Used). with_octets (take i new) log ++ u ∷ []) call
      ∙ ap (λ (u : List Used). u ++ Wrote range.at bytes range.inside range.state ∷ []) so_far.used in
      let older : with_octets (take (i + 1) old) log ≡ with_octets (take i old) log ++ Wrote range.at bytes range.inside range.state ∷ [] =
      ap (λ (l : List Range). with_octets l log) before ∙ used_more (take i old) log (get_or old i d)
      ∙ ap (λ (r : Range). with_octets (take i old) log ++ Wrote r.at (take r.len (drop (octets_of (take i old)) log)) r.inside r.state ∷ []) (sym here)
      ∙ ap (λ (l : List ℕ). with_octets (take i old) log ++ Wrote range.at (take range.len l) range.inside range.state ∷ []) (sym so_far.left) in
      record {
        long = ap length put ∙ set_long new i range ∙ so_far.long;
        later =
            ap (λ (l : List Range). drop (i + 1) l) put ∙ set_back new i range ∙ sym (drop-drop 1 i new) ∙ ap (λ (l : List Range). drop 1 l) so_far.later ∙ drop-drop 1 i old;
        octets = octets;
        used = newer ∙ sym older;
        laid =
            spread ∙ ap (λ (l : List ℕ). held l (Wrote range.at bytes range.inside range.state)) so_far.laid
            ∙ sym (replayed_more start (with_octets (take i old) log) (Wrote range.at bytes range.inside range.state))
            ∙ ap (λ (u : List Used). replayed start u) (sym older);
        back =
            ap (λ (l : List Range). undone l saved' content') front
            ∙ ap (λ (l : List ℕ). undone (take i new ++ range ∷ []) l content') kept
            ∙ undone_more (take i new) range saved (kept_of range.at range.len content) content' so_far.keeps
            ∙ ap (λ (l : List ℕ). undone (take i new) saved (laid_back range (kept_of range.at range.len content) l)) spread
            ∙ ap (λ (l : List ℕ). undone (take i new) saved l) (back_held range bytes content refl (sym whole))
            ∙ so_far.back;
        keeps =
            ap length kept ∙ length-append saved (kept_of range.at range.len content) ∙ ap (λ (n : ℕ). n + length (kept_of range.at range.len content)) so_far.keeps
            ∙ ap (λ (n : ℕ). octets_of (take i new) + n) (kept_long range.at range.len content) ∙ sym (octets_wrote (take i new) range) ∙ ap octets_of (sym front);
        left =
            on ∙ ap (λ (l : List ℕ). drop range.len l) so_far.left ∙ drop-drop range.len (octets_of (take i old)) log
            ∙ ap (λ (r : Range). drop (octets_of (take i old) + r.len) log) here
            ∙ ap (λ (n : ℕ). drop n log) (sym (octets_wrote (take i old) (get_or old i d)) ∙ ap octets_of (sym before));
      }

  -- the octets of this write and of those before it are among those of all
  pub fits_here : octets_of (take i new) + (get_or new i d).len ≤ octets_of old
  fits_here =
      omega (
        arith,
        so_far.octets,
        ap (λ (r : Range). r.len) here,
        octets_wrote (take i old) (get_or old i d),
        ap octets_of (front_more old i d lt),
        octets_take (i + 1) old,
      )

  pub rest_long : octets_of old ≤ length log → (get_or new i d).len ≤ length rest
  rest_long le = omega (arith, le, fits_here, so_far.octets, ap length so_far.left, length-drop (octets_of (take i old)) log)

  pub bytes_whole : octets_of old ≤ length log → length bytes ≡ range.len
  bytes_whole le = length-take-le range.len rest (rest_long le)

  pub size_here : octets_of (take (i + 1) (set new i range)) ≡ octets_of (take i new) + (get_or new i d).len
  size_here = ap octets_of (set_front new i d range inside) ∙ octets_wrote (take i new) range

ends_get : (end : ℕ) (writes : List Range) (i : ℕ) (d : Range) → i < length writes → EndWithin end writes → ((get_or writes i d).at + (get_or writes i d).len ≤ end) × ((get_or writes i d).inside ≤ (get_or writes i d).len)
ends_get end [] i d lt e = absurd (omega (arith, lt))
ends_get end (w ∷ writes) zero d lt e = (e.0, e.1)
ends_get end (w ∷ writes) (suc i) d lt e = ends_get end writes i d (omega (arith, lt)) e.2

pub end_of : (end : ℕ) (writes : List Range) (i : ℕ) (d : Range) → i < length writes → EndWithin end writes → (get_or writes i d).at + (get_or writes i d).len ≤ end
end_of end writes i d lt e = (ends_get end writes i d lt e).0

pub inside_of : (end : ℕ) (writes : List Range) (i : ℕ) (d : Range) → i < length writes → EndWithin end writes → (get_or writes i d).inside ≤ (get_or writes i d).len
inside_of end writes i d lt e = (ends_get end writes i d lt e).1

pub ends_placed : (end : ℕ) (writes : List Range) (i : ℕ) (d : Range) (before : ℕ) → i < length writes → EndWithin end writes → EndWithin end (set writes i (placed (get_or writes i d) before))
ends_placed end [] i d before lt e = absurd (omega (arith, lt))
ends_placed end (w ∷ writes) zero d before lt e = e
ends_placed end (w ∷ writes) (suc i) d before lt e = (e.0, e.1, ends_placed end writes i d before (omega (arith, lt)) e.2)

-- all writes are laid
module _ (start log : List ℕ) (old : List Range) (i : ℕ) (new : List Range) (saved content rest : List ℕ) (done : IsRedone start log old i new saved content rest) (all : length old ≤ i) where
  whole_old : take i old ≡ old
  whole_old = take_all i old all

  whole_new : take i new ≡ new
  whole_new = take_all i new (omega (arith, all, done.long))

  pub redone_content : content ≡ replayed start (with_octets old log)
  redone_content = done.laid ∙ ap (λ (l : List Range). replayed start (with_octets l log)) whole_old

  pub redone_used : (with_octets new log ≡ with_octets old log) × (octets_of new ≡ octets_of old)
  redone_used = (
    ap (λ (l : List Range). with_octets l log) (sym whole_new) ∙ done.used ∙ ap (λ (l : List Range). with_octets l log) whole_old,
    ap octets_of (sym whole_new) ∙ done.octets ∙ ap octets_of whole_old,
  )

  pub redone_back : undone new saved content ≡ start
  redone_back = ap (λ (l : List Range). undone l saved content) (sym whole_new) ∙ done.back

  pub redone_saved : length saved ≡ octets_of new
  redone_saved = done.keeps ∙ ap octets_of whole_new
