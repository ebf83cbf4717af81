-- The tallies of a store, and what they say of a stream.
use Rattle.std.proofs.Common.{◌≡◌, ℕ, zero, suc, ◌+◌, ◌-◌, ◌≤◌, Bool, true, false, cond, ◌&&◌, not, List, [], ◌∷◌, ◌++◌, length, refl, sym, ◌∙◌, ap, subst, arith, take}
use Rattle.std.specs.Prelude.{count_by, if◌then◌else◌}
use Rattle.qkd_base.specs.Name.{Name}
use Rattle.net_model.specs.declared.fact.Fact.{Fact}
use Rattle.net_model.specs.declared.fact.Fact.TheVariants.{Key, Chunk, Stored, Open, Joined, Part}
use Rattle.net_model.specs.Table.{name_of, was_handed, has_fact, learned, without_bytes}
use Rattle.net_model.specs.Streams.{is_chunk_of, waiting}
use Rattle.relay_core.specs.Knowledge.{forgotten}
use Rattle.end_store.proofs.Counted.{count_is, number_of}
use Rattle.end_store.specs.Waiting.{Ends}
use Rattle.end_store.specs.Pooled.{ends_view}
use Rattle.stream_core.specs.declared.tallies.Tally.{Tally}
use Rattle.stream_core.specs.Tallied.{is_given, IsTally, AreTallies, all_but_last}
use Rattle.end_store.proofs.Numbers.{number_split}

-- learning a fact

length_push : {A : Type 0} (xs : List A) (x : A) → length (xs ++ x ∷ []) ≡ length xs + 1
length_push [] x = refl
length_push (y ∷ ys) x = let r = length_push ys x in omega arith

take_push : {A : Type 0} (xs : List A) (x : A) → take (length xs) (xs ++ x ∷ []) ≡ xs
take_push [] x = refl
take_push (y ∷ ys) x = ap (λ (zs : _). y ∷ zs) (take_push ys x)

before_push : (facts : List Fact) (f : Fact) → all_but_last (facts ++ f ∷ []) ≡ facts
before_push facts f =
    let n : length (facts ++ f ∷ []) - 1 ≡ length facts = (let l = length_push facts f in omega arith) in
    ap (λ (k : ℕ). take k (facts ++ f ∷ [])) n ∙ take_push facts f

not_true_is : (b : Bool) → true ≡ not b → b ≡ false
not_true_is true h = h
not_true_is false h = refl

not_false_is : (b : Bool) → false ≡ not b → b ≡ true
not_false_is true h = refl
not_false_is false h = h

pub learned_new : (facts after : List Fact) (handed now : List (Name × ℕ)) (ts : List (List ℕ × Tally)) (f : Fact) (new : Bool) → AreTallies facts handed ts → after ≡ learned facts f → now ≡ handed →
    new ≡ not (has_fact facts (name_of f)) → new ≡ true → AreTallies (all_but_last after) now ts
learned_new facts after handed now ts f new h is same told hit =
    let fresh = not_true_is (has_fact facts (name_of f)) (sym hit ∙ told) in
    let e = is ∙ ap (λ (b : Bool). if b then facts else facts ++ f ∷ []) fresh in
    subst (λ (fs : List Fact). AreTallies fs now ts) (sym (ap all_but_last e ∙ before_push facts f)) (subst (λ (pairs : List (Name × ℕ)). AreTallies facts pairs ts) (sym same) h)

pub learned_known : (facts after : List Fact) (handed now : List (Name × ℕ)) (ts : List (List ℕ × Tally)) (f : Fact) (new : Bool) → AreTallies facts handed ts → after ≡ learned facts f → now ≡ handed →
    new ≡ not (has_fact facts (name_of f)) → new ≡ false → AreTallies after now ts
learned_known facts after handed now ts f new h is same told none =
    let known = not_false_is (has_fact facts (name_of f)) (sym none ∙ told) in
    let e = is ∙ ap (λ (b : Bool). if b then facts else facts ++ f ∷ []) known in
    subst (λ (fs : List Fact). AreTallies fs now ts) (sym e) (subst (λ (pairs : List (Name × ℕ)). AreTallies facts pairs ts) (sym same) h)

-- overwriting the bytes of a fact

number_forgotten : (t : Fact → Bool) (facts : List Fact) (place : ℕ) → ((f : Fact) → t (without_bytes f) ≡ t f) → number_of t (forgotten facts place) ≡ number_of t facts
number_forgotten t [] place same = refl
number_forgotten t (f ∷ fs) zero same = ap (λ (b : Bool). cond b 1 0 + number_of t fs) (same f)
number_forgotten t (f ∷ fs) (suc p) same = ap (λ (n : ℕ). cond (t f) 1 0 + n) (number_forgotten t fs p same)

count_forgotten : (t : Fact → Bool) (facts : List Fact) (place : ℕ) → ((f : Fact) → t (without_bytes f) ≡ t f) → count_by t facts ≡ count_by t (forgotten facts place)
count_forgotten t facts place same = count_is t facts ∙ sym (number_forgotten t facts place same) ∙ sym (count_is t (forgotten facts place))

same_chunk : (s : Name) (f : Fact) → is_chunk_of s (without_bytes f) ≡ is_chunk_of s f
same_chunk s (Key name master slave route bytes) = refl
same_chunk s (Chunk name stream index route bytes) = refl
same_chunk s (Stored note about route) = refl
same_chunk s (Open stream source peer size route) = refl
same_chunk s (Joined note about route) = refl
same_chunk s (Part name key master slave route bytes) = refl

same_given : (handed : List (Name × ℕ)) (s : Name) (sae : ℕ) (f : Fact) → is_given handed s sae (without_bytes f) ≡ is_given handed s sae f
same_given handed s sae (Key name master slave route bytes) = refl
same_given handed s sae (Chunk name stream index route bytes) = refl
same_given handed s sae (Stored note about route) = refl
same_given handed s sae (Open stream source peer size route) = refl
same_given handed s sae (Joined note about route) = refl
same_given handed s sae (Part name key master slave route bytes) = refl

pub forgotten_tallies : (facts after : List Fact) (handed now : List (Name × ℕ)) (ts : List (List ℕ × Tally)) (place : ℕ) → AreTallies facts handed ts → after ≡ forgotten facts place → now ≡ handed → AreTallies after now ts
forgotten_tallies facts after handed now ts place h is same =
    subst (λ (fs : List Fact). AreTallies fs now ts) (sym is) (subst (λ (pairs : List (Name × ℕ)). AreTallies (forgotten facts place) pairs ts) (sym same) (record {
      right = λ s t at. record {
        chunks = (h.right s t at).chunks ∙ count_forgotten (is_chunk_of s) facts place (same_chunk s);
        given = (h.right s t at).given ∙ count_forgotten (is_given handed s t.source) facts place (same_given handed s t.source);
      };
    }))

-- the number of chunks that the source hasn't got

pub given_few : (facts : List Fact) (handed : List (Name × ℕ)) (s : Name) (t : Tally) → IsTally facts handed s t → t.given ≤ t.chunks
given_few facts handed s t h =
    let split = number_split (is_chunk_of s) (λ f. was_handed handed (name_of f) t.source) facts in
    let a = h.chunks ∙ count_is (is_chunk_of s) facts in
    let b = h.given ∙ count_is (is_given handed s t.source) facts in
    omega arith

pub waiting_is : (e : Ends) (s : Name) (source : ℕ) (t : Tally) → t.source ≡ source → IsTally e.known.facts e.handed s t → t.chunks - t.given ≡ waiting (ends_view e) s source
waiting_is e s source t same h =
    let split = number_split (is_chunk_of s) (λ f. was_handed e.handed (name_of f) t.source) e.known.facts in
    let a = h.chunks ∙ count_is (is_chunk_of s) e.known.facts in
    let b = h.given ∙ count_is (is_given e.handed s t.source) e.known.facts in
    let c = count_is (λ f. is_chunk_of s f && not (was_handed e.handed (name_of f) t.source)) e.known.facts in
    let all : t.chunks - t.given ≡ count_by (λ f. is_chunk_of s f && not (was_handed e.handed (name_of f) t.source)) e.known.facts = omega arith in
    all ∙ ap (λ (sae : ℕ). count_by (λ f. is_chunk_of s f && not (was_handed e.handed (name_of f) sae)) e.known.facts) same
