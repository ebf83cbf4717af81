-- Reading an image gives the batches that it encodes.
use Rattle.std.proofs.Common.{◌≡◌, ◌≢◌, ℕ, zero, suc, ◌+◌, ◌^◌, ◌<◌, ◌≤◌, List, [], ◌∷◌, ◌++◌, length, take, drop, map, refl, sym, ◌∙◌, ap, arith, append_assoc, length-append, take-append-drop, Option, Some}
use Rattle.std.specs.Prelude.{◌==◌, Result, Ok}
use Rattle.std.specs.List.{All}
use Rattle.std.specs.Int.{w32, to_be_bytes, from_be_bytes}
use Rattle.std.proofs.lemmas.Nat.{from_be_bytes-to_be_bytes_4}
use Rattle.std.proofs.lemmas.List.{take_at, drop_at}
use Rattle.net_model.specs.declared.record.Record.{Record}
use Rattle.range_journal.specs.Batches.{spelled, AreShort, Stands}
use Rattle.journal_records.specs.Grammar.{IsBatch, body_octets}
use Rattle.journal_records.specs.declared.version.Version.{Version}
use Rattle.journal_records.proofs.Bodies.{batch_again}
use Rattle.journal_snapshot.specs.declared.live.Live.{Live}
use Rattle.kme_store.specs.Passed.{version_named}
use Rattle.law_base.proofs.Base.{eq_from, not_false, when_false}
use Rattle.net_world.specs.Reading.{ReadsDisks, bodies_from, batch_before, batches_in, batches_on}

-- the first body and the others

abbrev word : List ℕ → List ℕ
word body = to_be_bytes w32 (length body)

spelled_then : (body : List ℕ) (bodies : List (List ℕ)) (t : List ℕ) → spelled (body ∷ bodies) ++ t ≡ 1 ∷ word body ++ (body ++ (spelled bodies ++ t))
spelled_then body bodies t =
    ap (λ (l : List ℕ). 1 ∷ l) (append_assoc (word body ++ body) (spelled bodies) t ∙ append_assoc (word body) body (spelled bodies ++ t))

abbrev read_sized : ℕ → List ℕ → ℕ → List (List ℕ)
read_sized n octets size = take size (drop 4 octets) ∷ bodies_from n (drop (4 + size) octets)

opened : (n : ℕ) (octets : List ℕ) → bodies_from (suc n) (1 ∷ octets) ≡ read_sized n octets (from_be_bytes w32 (take 4 octets))
unfolding bodies_from
opened n octets = refl

shut : (n gate : ℕ) (octets : List ℕ) → gate ≢ 1 → bodies_from (suc n) (gate ∷ octets) ≡ []
unfolding bodies_from
shut n gate octets other = when_false (gate == 1) _ [] (not_false (gate == 1) (λ e. other (eq_from gate 1 e)))

one_body : (n : ℕ) (body t : List ℕ) → length body < 2 ^ 32 → bodies_from (suc n) (1 ∷ word body ++ (body ++ t)) ≡ body ∷ bodies_from n t
one_body n body t short =
    opened n (word body ++ (body ++ t))
    ∙ ap (read_sized n (word body ++ (body ++ t))) (ap (from_be_bytes w32) (take_at (word body) (body ++ t) 4 refl) ∙ from_be_bytes-to_be_bytes_4 (length body) short)
    ∙ ap (λ (l : List ℕ). l ∷ bodies_from n (drop (4 + length body) (word body ++ (body ++ t))))
    (ap (take (length body)) (drop_at (word body) (body ++ t) 4 refl) ∙ take_at body t (length body) refl)
    ∙ ap (λ (l : List ℕ). body ∷ bodies_from n l)
    (ap (drop (4 + length body)) (sym (append_assoc (word body) body t)) ∙ drop_at (word body ++ body) t (4 + length body) (length-append (word body) body))

first_short : (body : List ℕ) (bodies : List (List ℕ)) → AreShort (body ∷ bodies) → length body < 2 ^ 32
first_short body bodies short = short 0 [] (omega arith)

later_short : (body : List ℕ) (bodies : List (List ℕ)) → AreShort (body ∷ bodies) → AreShort bodies
later_short body bodies short = λ k d below. short (suc k) d (omega (arith, below))

bodies_are : (bodies : List (List ℕ)) (n gate : ℕ) (rest : List ℕ) → AreShort bodies → gate ≢ 1 → length bodies ≤ n → bodies_from n (spelled bodies ++ gate ∷ rest) ≡ bodies
unfolding bodies_from
bodies_are [] zero gate rest short other most = refl
bodies_are [] (suc n) gate rest short other most = shut n gate rest other
bodies_are (body ∷ bodies) zero gate rest short other most = absurd (omega (arith, most))
bodies_are (body ∷ bodies) (suc n) gate rest short other most =
    ap (bodies_from (suc n)) (spelled_then body bodies (gate ∷ rest)) ∙ one_body n body (spelled bodies ++ gate ∷ rest) (first_short body bodies short)
    ∙ ap (λ (l : List (List ℕ)). body ∷ l) (bodies_are bodies n gate rest (later_short body bodies short) other (omega (arith, most)))

no_fewer : (bodies : List (List ℕ)) (t : List ℕ) → length bodies ≤ length (spelled bodies ++ t)
no_fewer [] t = omega arith
no_fewer (body ∷ bodies) t =
    let rest = no_fewer bodies t in
    let all = ap length (spelled_then body bodies t) in
    let front = length-append (word body) (body ++ (spelled bodies ++ t)) in
    let back = length-append body (spelled bodies ++ t) in
    omega (arith, rest, all, front, back)

-- the octets after the start of the live area

behind : (x y z : List ℕ) → x ++ y ≡ x ++ z → y ≡ z
behind x y z e = sym (drop_at x y (length x) refl) ∙ ap (λ (l : List ℕ). drop (length x) l) e ∙ drop_at x z (length x) refl

module _ (start : ℕ) (bodies : List (List ℕ)) (image : List ℕ) (s : Stands (take start image) bodies image) where
  left : drop start image ≡ spelled bodies ++ s.gate ∷ s.rest
  left =
      behind (take start image) (drop start image) (spelled bodies ++ s.gate ∷ s.rest)
      (take-append-drop start image ∙ s.is ∙ append_assoc (take start image) (spelled bodies) (s.gate ∷ s.rest))

  enough : length bodies ≤ length image
  enough =
      let some = no_fewer bodies (s.gate ∷ s.rest) in
      let all = ap length s.is ∙ ap length (append_assoc (take start image) (spelled bodies) (s.gate ∷ s.rest)) ∙ length-append (take start image) (spelled bodies ++ s.gate ∷ s.rest) in
      omega (arith, some, all)

  bodies_behind : bodies_from (length image) (drop start image) ≡ bodies
  bodies_behind = ap (bodies_from (length image)) left ∙ bodies_are bodies (length image) s.gate s.rest s.short s.shut enough

-- the batches that the bodies encode

first_batch : (v : Version) (batch : List Record) (story : List (List Record)) → All (IsBatch v) (batch ∷ story) → IsBatch v batch
first_batch v batch story each = each 0 [] (omega arith)

later_batches : (v : Version) (batch : List Record) (story : List (List Record)) → All (IsBatch v) (batch ∷ story) → All (IsBatch v) story
later_batches v batch story each = λ k d below. each (suc k) d (omega (arith, below))

spelled_again : (v : Version) (story : List (List Record)) → All (IsBatch v) story → batches_in v (map (body_octets v) story) ≡ Some story
spelled_again v [] each = refl
spelled_again v (batch ∷ story) each =
    ap (λ (r : Result (List Record) ℕ). batch_before r (batches_in v (map (body_octets v) story))) (batch_again v batch (first_batch v batch story each))
    ∙ ap (λ (o : Option (List (List Record))). batch_before (Ok batch) o) (spelled_again v story (later_batches v batch story each))

pub reads : ReadsDisks batches_on
reads image live bodies story has read =
    ap (λ (l : Live). batches_in (version_named l.version) (bodies_from (length image) (drop l.start image))) has.says
    ∙ ap (batches_in (version_named live.version)) (bodies_behind live.start bodies image has.stands ∙ read.spelled) ∙ spelled_again (version_named live.version) story read.each
