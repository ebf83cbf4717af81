-- Records split into batches one by one, and all at once.
use Rattle.std.proofs.Common.{◌≡◌, ℕ, suc, ◌+◌, ◌*◌, ◌/◌, ◌<◌, ◌≤◌, List, [], ◌∷◌, ◌++◌, length, take, drop, map, refl, sym, ap, subst, ◌∙◌, arith}
use Rattle.std.specs.Prelude.{◌==◌, true, false, sum_by, OnOk, Result, Ok, Err}
use Rattle.std.proofs.lemmas.Bool.Decides.{nat_tests}
use Rattle.std.specs.List.{All, flat_map}
use Rattle.std.proofs.lemmas.List.{append-nil, append_assoc, map-append, length-append, take_at, drop_at, take_all, nil_from_length}
use Rattle.std.proofs.lemmas.List.Elements.{All-head, All-tail, All-push}
use Rattle.std.proofs.lemmas.List.Concat.{flat_map-append}
use Rattle.std.proofs.lemmas.List.Sums.{sum_by-cons}
use Rattle.net_model.specs.declared.record.Record.{Record}
use Rattle.net_model.specs.Journal.{batch_len, batches_of}
use Rattle.journal_records.specs.Grammar.{IsBatch, body_octets}
use Rattle.journal_records.specs.declared.version.Version.TheVariants.{Second}
use Rattle.journal_records.proofs.Bodies.{body_long}
use Rattle.kme_journal.specs.Batches.{AreSpelled, Gathered, Gathers, IsFull, batches_in}

abbrev flat : List (List Record) → List Record
flat bs = flat_map (λ b. b) bs

full_length : (bs : List (List Record)) → All IsFull bs → length (flat bs) ≡ 65535 * length bs
full_length [] all = refl
full_length (b ∷ bs) all =
    let here : length b ≡ 65535 = All-head IsFull b bs all in
    let more = full_length bs (All-tail IsFull b bs all) in
    omega (arith, length-append b (flat bs))

past : (n k : ℕ) → suc n + k ≡ suc (n + k)
past n k = omega arith

after_full : (bs : List (List Record)) (n : ℕ) (rest : List Record) → All IsFull bs → batches_of (length bs + n) (flat bs ++ rest) ≡ bs ++ batches_of n rest
unfolding batches_of
after_full [] n rest all = ap (λ (k : ℕ). batches_of k rest) (omega arith)
after_full (b ∷ bs) n rest all =
    let here : length b ≡ 65535 = All-head IsFull b bs all in
    let joined : flat (b ∷ bs) ++ rest ≡ b ++ (flat bs ++ rest) = append_assoc b (flat bs) rest in
    let first : take 65535 (flat (b ∷ bs) ++ rest) ≡ b = ap (take 65535) joined ∙ take_at b (flat bs ++ rest) 65535 here in
    let others : drop 65535 (flat (b ∷ bs) ++ rest) ≡ flat bs ++ rest = ap (drop 65535) joined ∙ drop_at b (flat bs ++ rest) 65535 here in
    let more : batches_of (length bs + n) (drop 65535 (flat (b ∷ bs) ++ rest)) ≡ bs ++ batches_of n rest =
    ap (batches_of (length bs + n)) others ∙ after_full bs n rest (All-tail IsFull b bs all) in
    ap (λ (k : ℕ). batches_of k (flat (b ∷ bs) ++ rest)) (past (length bs) n) ∙ (λ i. first i ∷ more i)

one_batch : (rest : List Record) → length rest ≤ 65535 → batches_of 1 rest ≡ rest ∷ []
unfolding batches_of
one_batch rest few = ap (λ (b : List Record). b ∷ []) (take_all 65535 rest few)

no_more : (k n : ℕ) → n ≡ 65535 * k → (n + 65534) / 65535 ≡ k + 0
no_more k n is = omega arith

one_more : (k n m : ℕ) → n ≡ 65535 * k + m → 0 < m → m ≤ 65535 → (n + 65534) / 65535 ≡ k + 1
one_more k n m is some few = omega arith

whole_batches : (bs : List (List Record)) → All IsFull bs → batches_in (flat bs ++ []) ≡ bs
unfolding batches_of
whole_batches bs all =
    let count = no_more (length bs) (length (flat bs ++ [])) (ap length (append-nil (flat bs)) ∙ full_length bs all) in
    ap (λ (k : ℕ). batches_of k (flat bs ++ [])) count ∙ after_full bs 0 [] all ∙ append-nil bs

last_batch : (bs : List (List Record)) (rest : List Record) → All IsFull bs → 0 < length rest → length rest ≤ 65535 → batches_in (flat bs ++ rest) ≡ bs ++ rest ∷ []
last_batch bs rest all some few =
    let size : length (flat bs ++ rest) ≡ 65535 * length bs + length rest = omega (arith, length-append (flat bs) rest, full_length bs all) in
    let count = one_more (length bs) (length (flat bs ++ rest)) (length rest) size some few in
    ap (λ (k : ℕ). batches_of k (flat bs ++ rest)) count ∙ after_full bs 1 rest all ∙ ap (λ (xs : List (List Record)). bs ++ xs) (one_batch rest few)

-- one more batch as octets
spelled_more : (bs : List (List Record)) (bodies : List (List ℕ)) (b : List Record) → AreSpelled bs bodies → IsBatch Second b → AreSpelled (bs ++ b ∷ []) (bodies ++ body_octets Second b ∷ [])
spelled_more bs bodies b old grammar = record {
  octets = ap (λ (xs : List (List ℕ)). xs ++ body_octets Second b ∷ []) old.octets ∙ sym (map-append (body_octets Second) bs (b ∷ []));
  grammar = All-push (IsBatch Second) bs b old.grammar grammar;
}

-- no records yet
pub none_gathered : Gathers (record { full = []; rest = [] }) []
none_gathered = record { batches = []; whole = λ k d h. absurd (omega (arith, h)); spelled = record { octets = refl; grammar = λ k d h. absurd (omega (arith, h)) }; all = refl }

-- one more record in a batch that isn't full
pub more_gathered : (old new : Gathered) (rs : List Record) (r : Record) → Gathers old rs → new.full ≡ old.full → new.rest ≡ old.rest ++ r ∷ [] → Gathers new (rs ++ r ∷ [])
more_gathered old new rs r was full rest = record {
  batches = was.batches;
  whole = was.whole;
  spelled = subst (AreSpelled was.batches) (sym full) was.spelled;
  all = ap (λ (xs : List Record). flat was.batches ++ xs) rest ∙ sym (append_assoc (flat was.batches) old.rest (r ∷ [])) ∙ ap (λ (xs : List Record). xs ++ r ∷ []) was.all;
}

-- closing a full batch
pub close_gathered : (old new : Gathered) (rs : List Record) → Gathers old rs → length old.rest ≡ 65535 → new.full ≡ old.full ++ body_octets Second old.rest ∷ [] → new.rest ≡ [] → IsBatch Second old.rest → Gathers new rs
close_gathered old new rs was size full rest grammar = record {
  batches = was.batches ++ old.rest ∷ [];
  whole = All-push IsFull was.batches old.rest was.whole size;
  spelled = subst (AreSpelled (was.batches ++ old.rest ∷ [])) (sym full) (spelled_more was.batches old.full old.rest was.spelled grammar);
  all =
      ap (λ (xs : List Record). flat (was.batches ++ old.rest ∷ []) ++ xs) rest ∙ append-nil (flat (was.batches ++ old.rest ∷ [])) ∙ flat_map-append (λ (b : List Record). b) was.batches (old.rest ∷ []) ∙
      ap (λ (xs : List Record). flat was.batches ++ xs) (append-nil old.rest) ∙ was.all;
}

-- all records are in full batches
pub whole_gathered : (g : Gathered) (rs : List Record) → Gathers g rs → length g.rest ≡ 0 → AreSpelled (batches_in rs) g.full
whole_gathered g rs was none =
    let nil : g.rest ≡ [] = nil_from_length g.rest none in
    let all : flat was.batches ++ [] ≡ rs = ap (λ (xs : List Record). flat was.batches ++ xs) (sym nil) ∙ was.all in
    subst (λ (bs : List (List Record)). AreSpelled bs g.full) (sym (whole_batches was.batches was.whole) ∙ ap batches_in all) was.spelled

-- some records are in a last batch
pub last_gathered : (g : Gathered) (full : List (List ℕ)) (rs : List Record) → Gathers g rs → 0 < length g.rest → length g.rest ≤ 65535 → full ≡ g.full ++ body_octets Second g.rest ∷ [] → IsBatch Second g.rest →
    AreSpelled (batches_in rs) full
last_gathered g full rs was some few is grammar =
    let batches : was.batches ++ g.rest ∷ [] ≡ batches_in rs = sym (last_batch was.batches g.rest was.whole some few) ∙ ap batches_in was.all in
    subst (λ (bs : List (List Record)). AreSpelled bs full) batches
    (subst (AreSpelled (was.batches ++ g.rest ∷ [])) (sym is) (spelled_more was.batches g.full g.rest was.spelled grammar))

pub sizes : (bs : List (List Record)) → sum_by (λ b. 5 + length b) (map (body_octets Second) bs) ≡ sum_by (batch_len 2) bs
sizes [] = refl
sizes (b ∷ bs) =
    omega (arith, sum_by-cons (λ (x : List ℕ). 5 + length x) (body_octets Second b) (map (body_octets Second) bs), sum_by-cons (batch_len 2) b bs, body_long Second b, sizes bs)

-- the bodies take as many octets as their batches
pub spelled_sizes : (bs : List (List Record)) (bodies : List (List ℕ)) → AreSpelled bs bodies → 1 + sum_by (λ b. 5 + length b) bodies ≡ 1 + sum_by (batch_len 2) bs
spelled_sizes bs bodies is = ap (λ (l : List (List ℕ)). 1 + sum_by (λ b. 5 + length b) l) is.octets ∙ ap (λ (n : ℕ). 1 + n) (sizes bs)

-- the contract of a call that succeeds

pub on_ok : {T E : Type 0} (r : Result T E) (P Q : Type 0) → (P → Q) → OnOk r P → OnOk r Q
on_ok (Ok x) P Q f h = f h
on_ok (Err e) P Q f h = tt

pub on_both : {T E : Type 0} (r : Result T E) (P Q R : Type 0) → (P → Q → R) → OnOk r P → OnOk r Q → OnOk r R
on_both (Ok x) P Q R f h k = f h k
on_both (Err e) P Q R f h k = tt

pub some_left : (n : ℕ) → (n == 0) ≡ false → 0 < n
some_left n is = grind (arith, nat_tests)

pub none_left : (n : ℕ) → (n == 0) ≡ true → n ≡ 0
none_left n is = grind (arith, nat_tests)
