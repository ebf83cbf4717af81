-- Drawn octets in a batch change neither its names, nor its length, nor the lengths of its octets.
use Rattle.std.proofs.Common.{◌≡◌, ℕ, zero, suc, ◌+◌, ◌-◌, min, Bool, true, false, ◌&&◌, List, [], ◌∷◌, length, take, drop, refl, sym, ap, subst, ◌∙◌, arith, length-drop, length-append}
use Rattle.std.specs.Prelude.{◌==◌, nat_lt, sum_by, if◌then◌else◌}
use Rattle.std.specs.List.{All, list_all}
use Rattle.std.proofs.lemmas.List.{length-take}
use Rattle.std.proofs.lemmas.List.Elements.{All-cons, All-head, All-tail}
use Rattle.std.proofs.lemmas.List.Sums.{sum_by-cons}
use Rattle.net_model.specs.declared.fact.Fact.{Fact}
use Rattle.net_model.specs.declared.fact.Fact.TheVariants.{Key, Chunk, Stored, Open, Joined, Part}
use Rattle.net_model.specs.declared.record.Record.{Record}
use Rattle.net_model.specs.declared.record.Record.TheVariants.{Block, Lease, Learned, Acked, Handed, Closed, Bare}
use Rattle.net_model.specs.Facts.{fact_len, IsSize, IsWellFormedFact}
use Rattle.net_model.specs.Journal.{record_len, spelled_after, body_len, is_nil, added_len}
use Rattle.net_model.specs.Handle.{is_numbered}
use Rattle.journal_records.specs.Grammar.{IsLearned}
use Rattle.kme_base.specs.Random.{over, fact_over, record_over, spends, with_random}
use Rattle.kme_journal.specs.Spelled.{IsMade}

over_length : (random bytes : List ℕ) → length (over random bytes) ≡ length bytes
over_length random bytes =
    let a : length (over random bytes) ≡ length (take (length bytes) random) + length (drop (length random) bytes) = length-append (take (length bytes) random) (drop (length random) bytes) in
    let b : length (take (length bytes) random) ≡ min (length bytes) (length random) = length-take (length bytes) random in
    let c : length (drop (length random) bytes) ≡ length bytes - length random = length-drop (length random) bytes in
    omega (arith, a, b, c)

fact_length : (random : List ℕ) (f : Fact) → fact_len (fact_over random f) ≡ fact_len f
fact_length random (Key name master slave route bytes) = ap (λ (n : ℕ). 24 + length route + n) (over_length random bytes)
fact_length random (Chunk name stream index route bytes) = ap (λ (n : ℕ). 40 + length route + n) (over_length random bytes)
fact_length random (Stored note about route) = refl
fact_length random (Open stream source peer size route) = refl
fact_length random (Joined note about route) = refl
fact_length random (Part name key master slave route bytes) = ap (λ (n : ℕ). 40 + length route + n) (over_length random bytes)

fact_formed : (random : List ℕ) (f : Fact) → IsWellFormedFact f → IsWellFormedFact (fact_over random f)
fact_formed random (Key name master slave route bytes) is = (is.0, subst IsSize (sym (over_length random bytes)) is.1)
fact_formed random (Chunk name stream index route bytes) is = (is.0, is.1, subst IsSize (sym (over_length random bytes)) is.2)
fact_formed random (Stored note about route) is = is
fact_formed random (Open stream source peer size route) is = is
fact_formed random (Joined note about route) is = is
fact_formed random (Part name key master slave route bytes) is = (is.0, is.1, subst IsSize (sym (over_length random bytes)) is.2)

made : (random : List ℕ) (r : Record) → IsMade r → IsMade (record_over random r)
made random (Block link number bytes) is = is
made random (Lease lane end) is = is
made random (Learned f) is = fact_formed random f is
made random (Acked n) is = is
made random (Handed n sae) is = is
made random (Closed n sae) is = is
made random (Bare f) is = is

learned : (random : List ℕ) (r : Record) → IsLearned r → IsLearned (record_over random r)
learned random (Learned f) is = is
learned random (Block link number bytes) is = is
learned random (Lease lane end) is = is
learned random (Acked n) is = is
learned random (Handed n sae) is = is
learned random (Closed n sae) is = is
learned random (Bare f) is = is

record_length : (names : ℕ) (random : List ℕ) (r : Record) → record_len names (record_over random r) ≡ record_len names r
record_length names random (Block link number bytes) = refl
record_length names random (Lease lane end) = refl
record_length names random (Learned f) = ap (λ (n : ℕ). 3 + n) (fact_length random f)
record_length names random (Acked n) = refl
record_length names random (Handed n sae) = refl
record_length names random (Closed n sae) = refl
record_length names random (Bare f) = refl

numbered_fact : (random : List ℕ) (f : Fact) → is_numbered (Learned (fact_over random f)) ≡ is_numbered (Learned f)
numbered_fact random (Key name master slave route bytes) = refl
numbered_fact random (Chunk name stream index route bytes) = refl
numbered_fact random (Stored note about route) = refl
numbered_fact random (Open stream source peer size route) = refl
numbered_fact random (Joined note about route) = refl
numbered_fact random (Part name key master slave route bytes) = refl

numbered : (random : List ℕ) (r : Record) → is_numbered (record_over random r) ≡ is_numbered r
numbered random (Block link number bytes) = refl
numbered random (Lease lane end) = refl
numbered random (Learned f) = numbered_fact random f
numbered random (Acked n) = refl
numbered random (Handed n sae) = refl
numbered random (Closed n sae) = refl
numbered random (Bare f) = refl

-- batches

pub drawn_length : (random : List ℕ) (rs : List Record) → length (with_random random rs) ≡ length rs
drawn_length random [] = refl
drawn_length random (r ∷ rs) = ap (λ (n : ℕ). suc n) (drawn_length (drop (spends r rs) random) rs)

pub drawn_numbered : (random : List ℕ) (rs : List Record) → list_all is_numbered (with_random random rs) ≡ list_all is_numbered rs
drawn_numbered random [] = refl
drawn_numbered random (r ∷ rs) =
    let next : List ℕ = drop (spends r rs) random in
    ap (λ (b : Bool). b && list_all is_numbered (with_random next rs)) (numbered random r) ∙ ap (λ (b : Bool). is_numbered r && b) (drawn_numbered next rs)

pub drawn_nil : (random : List ℕ) (rs : List Record) → is_nil (with_random random rs) ≡ is_nil rs
drawn_nil random [] = refl
drawn_nil random (r ∷ rs) = refl

sum_first : (random : List ℕ) (rs : List Record) → sum_by (record_len 16) (with_random random rs) ≡ sum_by (record_len 16) rs
sum_first random [] = refl
sum_first random (r ∷ rs) =
    let next : List ℕ = drop (spends r rs) random in
    sum_by-cons (record_len 16) (record_over random r) (with_random next rs)
    ∙ ap (λ (n : ℕ). n + sum_by (record_len 16) (with_random next rs)) (record_length 16 random r) ∙ ap (λ (n : ℕ). record_len 16 r + n) (sum_first next rs)
    ∙ sym (sum_by-cons (record_len 16) r rs)

one_second : (sae names : ℕ) (r : Record) (random : List ℕ) (rs ss : List Record) → ((s n : ℕ) → spelled_after s n ss ≡ spelled_after s n rs) →
    spelled_after sae names (record_over random r ∷ ss) ≡ spelled_after sae names (r ∷ rs)
unfolding spelled_after
one_second sae names (Handed n s) random rs ss same =
    elim (nat_lt 0 names && nat_lt names 128 && (s == sae)) as (λ b. (if b then 7 + spelled_after sae (names + 1) ss else 12 + spelled_after s 1 ss) ≡ (if b then 7 + spelled_after sae (names + 1) rs else 12 + spelled_after s 1 rs)) [
      | true ↦ ap (λ (k : ℕ). 7 + k) (same sae (names + 1))
      | false ↦ ap (λ (k : ℕ). 12 + k) (same s 1)
    ]
one_second sae names (Block link number bytes) random rs ss same = ap (λ (k : ℕ). record_len 7 (Block link number bytes) + k) (same 0 0)
one_second sae names (Lease lane end) random rs ss same = ap (λ (k : ℕ). record_len 7 (Lease lane end) + k) (same 0 0)
one_second sae names (Learned f) random rs ss same =
    ap (λ (k : ℕ). k + spelled_after 0 0 ss) (record_length 7 random (Learned f)) ∙ ap (λ (k : ℕ). record_len 7 (Learned f) + k) (same 0 0)
one_second sae names (Acked n) random rs ss same = ap (λ (k : ℕ). record_len 7 (Acked n) + k) (same 0 0)
one_second sae names (Closed n s) random rs ss same = ap (λ (k : ℕ). record_len 7 (Closed n s) + k) (same 0 0)
one_second sae names (Bare f) random rs ss same = ap (λ (k : ℕ). record_len 7 (Bare f) + k) (same 0 0)

sum_second : (random : List ℕ) (rs : List Record) (sae names : ℕ) → spelled_after sae names (with_random random rs) ≡ spelled_after sae names rs
sum_second random [] sae names = refl
sum_second random (r ∷ rs) sae names = one_second sae names r random rs (with_random (drop (spends r rs) random) rs) (sum_second (drop (spends r rs) random) rs)

pub drawn_body : (version : ℕ) (random : List ℕ) (rs : List Record) → body_len version (with_random random rs) ≡ body_len version rs
unfolding body_len
drawn_body version random rs =
    elim (version == 1) as (λ b. 2 + (if b then sum_by (record_len 16) (with_random random rs) else spelled_after 0 0 (with_random random rs)) ≡ 2 + (if b then sum_by (record_len 16) rs else spelled_after 0 0 rs)) [
      | true ↦ ap (λ (n : ℕ). 2 + n) (sum_first random rs)
      | false ↦ ap (λ (n : ℕ). 2 + n) (sum_second random rs 0 0)
    ]

pub drawn_added : (version : ℕ) (random : List ℕ) (rs : List Record) → added_len version (with_random random rs) ≡ added_len version rs
drawn_added version random [] = refl
drawn_added version random (r ∷ rs) = ap (λ (n : ℕ). 5 + n) (drawn_body version random (r ∷ rs))

pub drawn_made : (random : List ℕ) (rs : List Record) → All IsMade rs → All IsMade (with_random random rs)
drawn_made random [] all = all
drawn_made random (r ∷ rs) all =
    let next : List ℕ = drop (spends r rs) random in
    All-cons IsMade (record_over random r) (with_random next rs) (made random r (All-head IsMade r rs all)) (drawn_made next rs (All-tail IsMade r rs all))

pub drawn_learned : (random : List ℕ) (rs : List Record) → All IsLearned rs → All IsLearned (with_random random rs)
drawn_learned random [] all = all
drawn_learned random (r ∷ rs) all =
    let next : List ℕ = drop (spends r rs) random in
    All-cons IsLearned (record_over random r) (with_random next rs) (learned random r (All-head IsLearned r rs all)) (drawn_learned next rs (All-tail IsLearned r rs all))

-- drawing no octets changes nothing

nothing_over : (bytes : List ℕ) → over [] bytes ≡ bytes
nothing_over [] = refl
nothing_over (b ∷ bs) = refl

nothing_fact : (f : Fact) → fact_over [] f ≡ f
nothing_fact (Key name master slave route bytes) = ap (λ (bs : List ℕ). Key name master slave route bs) (nothing_over bytes)
nothing_fact (Chunk name stream index route bytes) = ap (λ (bs : List ℕ). Chunk name stream index route bs) (nothing_over bytes)
nothing_fact (Stored note about route) = refl
nothing_fact (Open stream source peer size route) = refl
nothing_fact (Joined note about route) = refl
nothing_fact (Part name key master slave route bytes) = ap (λ (bs : List ℕ). Part name key master slave route bs) (nothing_over bytes)

nothing_record : (r : Record) → record_over [] r ≡ r
nothing_record (Block link number bytes) = refl
nothing_record (Lease lane end) = refl
nothing_record (Learned f) = ap (λ (g : Fact). Learned g) (nothing_fact f)
nothing_record (Acked n) = refl
nothing_record (Handed n sae) = refl
nothing_record (Closed n sae) = refl
nothing_record (Bare f) = refl

abbrev none : List ℕ
none = []

drop_nothing : (n : ℕ) → drop n none ≡ none
drop_nothing zero = refl
drop_nothing (suc n) = refl

pub drawn_nothing : (rs : List Record) → with_random [] rs ≡ rs
drawn_nothing [] = refl
drawn_nothing (r ∷ rs) =
    ap (λ (s : Record). s ∷ with_random (drop (spends r rs) []) rs) (nothing_record r)
    ∙ ap (λ (left : List ℕ). r ∷ with_random left rs) (drop_nothing (spends r rs))
    ∙ ap (λ (ss : List Record). r ∷ ss) (drawn_nothing rs)

-- learned facts have the same length in both versions
learned_second : (rs : List Record) → All IsLearned rs → spelled_after 0 0 rs ≡ sum_by (record_len 16) rs
unfolding spelled_after
learned_second [] all = refl
learned_second (Learned f ∷ rs) all = ap (λ (n : ℕ). (3 + fact_len f) + n) (learned_second rs (All-tail IsLearned (Learned f) rs all)) ∙ sym (sum_by-cons (record_len 16) (Learned f) rs)
learned_second (Block link number bytes ∷ rs) all = absurd (All-head IsLearned (Block link number bytes) rs all)
learned_second (Lease lane end ∷ rs) all = absurd (All-head IsLearned (Lease lane end) rs all)
learned_second (Acked n ∷ rs) all = absurd (All-head IsLearned (Acked n) rs all)
learned_second (Handed n sae ∷ rs) all = absurd (All-head IsLearned (Handed n sae) rs all)
learned_second (Closed n sae ∷ rs) all = absurd (All-head IsLearned (Closed n sae) rs all)
learned_second (Bare f ∷ rs) all = absurd (All-head IsLearned (Bare f) rs all)

pub learned_body : (version : ℕ) (rs : List Record) → All IsLearned rs → body_len version rs ≡ body_len 1 rs
unfolding body_len
learned_body version rs all =
    elim (version == 1) as (λ b. 2 + (if b then sum_by (record_len 16) rs else spelled_after 0 0 rs) ≡ 2 + sum_by (record_len 16) rs) [
      | true ↦ refl
      | false ↦ ap (λ (n : ℕ). 2 + n) (learned_second rs all)
    ]
