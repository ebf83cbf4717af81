-- Octets stand for at most one list of batches.
use Rattle.std.proofs.Common.{◌≡◌, ◌≢◌, ◌≤◌, ◌<◌, ◌⊎◌, inl, inr, ℕ, Bool, true, false, not, ◌&&◌, nat_le, List, [], ◌∷◌, ◌++◌, length, take, refl, sym, ◌∙◌, ap, subst, arith, length-append, length-take}
use Rattle.std.specs.Prelude.{slice_index}
use Rattle.std.proofs.lemmas.Bool.{cases_Bool, false≢true}
use Rattle.std.proofs.lemmas.Bool.Decides.{nat_tests}
use Rattle.std.proofs.lemmas.List.{length-take-le}
use Rattle.range_journal.specs.Batches.{spelled, Stands}
use Rattle.range_journal.specs.Header.{is_new, is_blank, IsHeaded, HasOtherHead}
use Rattle.range_journal.proofs.Once.{stands_once, not_foreign}
use Rattle.journal_snapshot.specs.declared.live.Live.{Live}
use Rattle.journal_snapshot.specs.Layout.{live_of}
use Rattle.journal_snapshot.specs.Standing.{HasBatches, StandsFor}
use Rattle.journal_snapshot.specs.Opening.{IsClosing, IsOpened, IsRefusedAt, HasOtherField, HasNoBatches}
use Rattle.journal_snapshot.proofs.Fronts.{start_least}
use Rattle.journal_snapshot.proofs.Standings.{front_is, stands_long}

none_of : (batches : List (List ℕ)) → length (spelled batches) ≤ 0 → batches ≡ []
none_of [] few = refl
none_of (b ∷ batches) few = absurd (omega (arith, few))

front_first : (a b : Bool) → (a && b) ≡ true → a ≡ true
front_first true b e = refl
front_first false b e = absurd cc

pub holds_stands : (live : Live) (batches : List (List ℕ)) (image : List ℕ) → HasBatches live batches image → StandsFor image batches
holds_stands live batches image h = elim (cases_Bool (is_blank image)) [
  | inl blank ↦
      let le : nat_le (length image) 17 ≡ true = front_first (nat_le (length image) 17) (not (is_new image)) blank in
      let few : length image ≤ 17 = grind (arith, nat_tests) in
      let least : 16 ≤ live.start = omega (arith, start_least image (length image) h.placed, ap (λ (l : Live). l.start) h.says) in
      let s = h.stands in
      let lt : live.start < length image = stands_long live.start image batches s in
      inl (
        blank,
        none_of batches
            (omega (
              arith,
              few,
              least,
              lt,
              ap length s.is,
              length-append (take live.start image ++ spelled batches) (s.gate ∷ s.rest),
              length-append (take live.start image) (spelled batches),
              length-take live.start image,
            )),
      )
  | inr plain ↦ inr (plain, subst (λ (l : Live). HasBatches l batches image) (sym h.says) h)
]

pub stands_for_once : (content : List ℕ) (one other : List (List ℕ)) → StandsFor content one → StandsFor content other → one ≡ other
stands_for_once content one other (inl a) (inl b) = a.1 ∙ sym b.1
stands_for_once content one other (inl a) (inr b) = absurd (false≢true (sym b.0 ∙ a.0))
stands_for_once content one other (inr a) (inl b) = absurd (false≢true (sym a.0 ∙ b.0))
stands_for_once content one other (inr a) (inr b) = stands_once (take (live_of content).start content) content one other a.1.stands b.1.stands

not_other : (content : List ℕ) (place : ℕ) → IsHeaded content → HasOtherHead content place → ⊥
not_other content place is (inl misnamed) = misnamed.other (is.name place misnamed.here)
not_other content place is (inr misversed) = version is.version
  where
    version : (slice_index content 7 ≡ 1) ⊎ (slice_index content 7 ≡ 2) → ⊥
    version (inl one) = misversed.one one
    version (inr two) = misversed.two two

pub not_refused : (content : List ℕ) (batches : List (List ℕ)) (place : ℕ) → StandsFor content batches → IsRefusedAt content place → ⊥
not_refused content batches place (inl blank) r = false≢true (sym r.0 ∙ blank.0)
not_refused content batches place (inr s) r = why r.1
  where
    behind : HasOtherField content place ⊎ HasNoBatches content place → ⊥
    behind (inl field) = false≢true (sym field.0 ∙ s.1.placed)
    behind (inr none) = not_foreign content (live_of content).start place batches s.1.stands none.1

    why : HasOtherHead content place ⊎ (IsHeaded content × (HasOtherField content place ⊎ HasNoBatches content place)) → ⊥
    why (inl other) = not_other content place s.1.head other
    why (inr headed) = behind headed.1

-- What is opened is what the octets stand for.
pub opened_stands : (read : List ℕ) (live : Live) (batches : List (List ℕ)) → IsOpened read live batches → StandsFor read batches
opened_stands read live batches (inl new) = inl (new.0, new.2)
opened_stands read live batches (inr o) = holds_stands live batches read o.2

-- Opening octets that hold batches in a live area gives these batches.
pub opened_again : (read : List ℕ) (live other : Live) (batches more : List (List ℕ)) → IsOpened read live batches → HasBatches other more read → (batches ≡ more) × ((is_blank read ≡ true) ⊎ (live ≡ other))
opened_again read live other batches more (inl new) h = (stands_for_once read batches more (opened_stands read live batches (inl new)) (holds_stands other more read h), inl new.0)
opened_again read live other batches more (inr o) h = (stands_for_once read batches more (opened_stands read live batches (inr o)) (holds_stands other more read h), inr (o.1 ∙ h.says))

-- A gate that is being closed and isn't open doesn't change the batches.
pub closing_stands : (content image : List ℕ) (batches : List (List ℕ)) → StandsFor content batches → (c : IsClosing content image) → c.gate.other ≢ 1 → StandsFor image batches
closing_stands content image batches (inl blank) c shut = absurd (false≢true (sym c.plain ∙ blank.0))
closing_stands content image batches (inr s) c shut =
    let start = (live_of content).start in
    let front = take start content in
    let was : Stands front c.gate.batches content = record { gate = c.gate.gate; rest = c.gate.rest; is = c.gate.was; shut = c.gate.shut; short = c.gate.short } in
    let same : batches ≡ c.gate.batches = stands_once front content batches c.gate.batches s.1.stands was in
    let now : Stands front c.gate.batches image = record { gate = c.gate.other; rest = c.gate.rest; is = c.gate.is; shut = shut; short = c.gate.short } in
    let long : length front ≡ start = length-take-le start content (omega (arith, stands_long start content batches s.1.stands)) in
    let front_now : take start image ≡ front = front_is front image c.gate.batches start long now in
    subst (λ (l : List (List ℕ)). StandsFor image l) (sym same)
    (holds_stands (live_of content) c.gate.batches image
    (record { head = c.head; says = c.says; placed = c.placed; stands = subst (λ (f : List ℕ). Stands f c.gate.batches image) (sym front_now) now }))
