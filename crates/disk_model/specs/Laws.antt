-- The content of a disk in memory is one of its images.
use Rattle.std.proofs.Common.{◌≡◌, ◌≤◌, ◌<◌, inl, inr, ℕ, ◌+◌, ◌-◌, min, List, [], ◌∷◌, ◌++◌, length, take, drop, replicate, refl, sym, ◌∙◌, ap, subst, arith, append_assoc, length-append}
use Rattle.std.proofs.lemmas.Bool.{cases_lt}
use Rattle.std.proofs.lemmas.Bool.Decides.{nat_tests}
use Rattle.std.proofs.lemmas.List.{take_at, drop_at, take_all, length-take-le, length-replicate, drop-drop, length-drop}
use Rattle.disk_model.specs.Images.{Torn, overlaid}
use Rattle.disk_model.specs.Record.{Used, held, replayed, images, image_of}
use Rattle.disk_model.specs.Record.Used.{Wrote, Synced}
use Rattle.disk_model.specs.declared.arm.Image.{Image}
use Rattle.disk_model.specs.declared.arm.Image.TheVariants.{Lost, Kept, Torn as Filled}

pub torn_same : (at n : ℕ) (c : List ℕ) → Torn at n c c
torn_same at n c = record { before = refl; after = refl; no_shorter = omega arith; no_longer = omega arith }

overlaid_in : (at : ℕ) (bytes old : List ℕ) → at ≤ length old → overlaid at bytes old ≡ take at old ++ bytes ++ drop (at + length bytes) old
overlaid_in at bytes old le = grind (arith, nat_tests)

overlaid_out : (at : ℕ) (bytes old : List ℕ) → length old < at → overlaid at bytes old ≡ old
overlaid_out at bytes old lt = grind (arith, nat_tests)

-- laying octets over a range is one of the states that a torn write may leave
pub torn_overlaid : (at n : ℕ) (bytes old : List ℕ) → length bytes ≤ n → Torn at n old (overlaid at bytes old)
torn_overlaid at n bytes old few = elim (cases_lt (length old) at) [
  | inl out ↦ subst (λ (c : List ℕ). Torn at n old c) (sym (overlaid_out at bytes old out)) (torn_same at n old)
  | inr inside ↦ subst (λ (c : List ℕ). Torn at n old c) (sym (overlaid_in at bytes old inside)) (torn inside)
]
  where
    torn : at ≤ length old → Torn at n old (take at old ++ bytes ++ drop (at + length bytes) old)
    torn inside =
        let prefix : length (take at old) ≡ at = length-take-le at old inside in
        let split : take at old ++ bytes ++ drop (at + length bytes) old ≡ take at old ++ (bytes ++ drop (at + length bytes) old) = append_assoc (take at old) bytes (drop (at + length bytes) old) in
        let head : length (take at old ++ bytes) ≡ at + length bytes = omega (arith, prefix, length-append (take at old) bytes) in
        let long = length-append (take at old ++ bytes) (drop (at + length bytes) old) in
        let back = length-drop (at + length bytes) old in
        let drops : drop (at + length bytes) (take at old ++ bytes ++ drop (at + length bytes) old) ≡ drop (at + length bytes) old = drop_at (take at old ++ bytes) (drop (at + length bytes) old) (at + length bytes) head in
        let sum : at + n ≡ at + length bytes + (n - length bytes) = omega (arith, few) in
        record {
          before = ap (λ (c : List ℕ). take at c) split ∙ take_at (take at old) (bytes ++ drop (at + length bytes) old) at prefix;
          after =
              ap (λ (k : ℕ). drop k (take at old ++ bytes ++ drop (at + length bytes) old)) sum
              ∙ sym (drop-drop (n - length bytes) (at + length bytes) (take at old ++ bytes ++ drop (at + length bytes) old))
              ∙ ap (λ (c : List ℕ). drop (n - length bytes) c) drops
              ∙ drop-drop (n - length bytes) (at + length bytes) old
              ∙ ap (λ (k : ℕ). drop k old) (sym sum);
          no_shorter = omega (arith, long, back, head);
          no_longer = omega (arith, long, back, head, few);
        }

-- what a disk in memory holds of a write is one of the states that a torn write may leave
held_torn : (content : List ℕ) (at : ℕ) (bytes : List ℕ) (size : ℕ) (state : Image) → Torn at (length bytes) content (held content (Wrote at bytes size state))
held_torn content at bytes size Lost = torn_same at (length bytes) content
held_torn content at bytes size Kept = torn_overlaid at (length bytes) bytes content (omega arith)
held_torn content at bytes size Filled =
    torn_overlaid at (length bytes) (replicate (min size (length bytes)) 238) content (omega (arith, length-replicate {A = ℕ} (min size (length bytes)) 238))

-- the content is one of the images
content_left : (left : List ℕ → Type 0) (content : List ℕ) (used : List Used) → left content → images left content used (replayed content used)
content_left left content [] i = i
content_left left content (Wrote a b s t ∷ used) i =
    content_left (λ new. (old : List ℕ) × left old × Torn a (length b) old new) (held content (Wrote a b s t)) used (content, i, held_torn content a b s t)
content_left left content (Synced ∷ used) i = content_left (λ only. only ≡ content) content used refl

pub content_is_image : (first : List ℕ) (used : List Used) → image_of first used (length used) (replayed first used)
content_is_image first used =
    subst (λ (l : List Used). images (λ only. only ≡ first) first l (replayed first used)) (sym (take_all (length used) used (omega arith)))
    (content_left (λ only. only ≡ first) first used refl)
