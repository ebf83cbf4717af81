-- The chunks of a stream, counted one by one.
use Rattle.std.proofs.Common.{◌≡◌, ℕ, zero, suc, ◌+◌, ◌<◌, ◌≤◌, Bool, true, false, cond, ◌&&◌, List, [], ◌∷◌, length, refl, sym, ◌∙◌, ap, arith, take, Option}
use Rattle.std.specs.Prelude.{slice_get}
use Rattle.std.proofs.lemmas.List.{take_all}
use Rattle.qkd_base.specs.Name.{Name}
use Rattle.net_model.specs.declared.fact.Fact.{Fact}
use Rattle.net_model.specs.Table.{name_of, was_handed}
use Rattle.net_model.specs.Streams.{is_chunk_of}
use Rattle.relay_core.specs.Firsts.{IsFirstFrom, IsNoneFrom}
use Rattle.relay_core.proofs.Firsts.{get_within}
use Rattle.end_store.proofs.Counted.{count_is, number_of}
use Rattle.stream_core.specs.Tallied.{is_given, was_given, IsTally}
use Rattle.end_store.proofs.Numbers.{number_upto, number_rest}

-- `chunks` chunks of the stream are before the place `from`, and the source has got `given` of them
pub record HasChunks (facts : List Fact) (handed : List (Name × ℕ)) (s : Name) (source from chunks given : ℕ) : Type 0 where
  pub of_stream : chunks ≡ number_of (is_chunk_of s) (take from facts)
  pub of_source : given ≡ number_of (is_given handed s source) (take from facts)
  pub within : from ≤ length facts

pub chunks_none : (facts : List Fact) (handed : List (Name × ℕ)) (s : Name) (source : ℕ) → HasChunks facts handed s source 0 0 0
chunks_none facts handed s source = record { of_stream = refl; of_source = refl; within = omega arith }

at_most_one : (b : Bool) → cond b 1 0 ≤ 1
at_most_one true = omega arith
at_most_one false = omega arith

pub one_or_none : (b : Bool) (n : ℕ) → n ≡ cond b 1 0 → n ≤ 1
one_or_none b n e = let m = at_most_one b in omega arith

number_before : {A : Type 0} (t : A → Bool) (xs : List A) (from : ℕ) → number_of t (take from xs) ≤ from
number_before t [] zero = omega arith
number_before t [] (suc f) = omega arith
number_before t (x ∷ xs) zero = omega arith
number_before t (x ∷ xs) (suc f) = let r = number_before t xs f in let b = at_most_one (t x) in omega arith

-- a fact that isn't a chunk of the stream doesn't count as given
given_none : (handed : List (Name × ℕ)) (s : Name) (source : ℕ) (f : Fact) → is_chunk_of s f ≡ false → is_given handed s source f ≡ false
given_none handed s source f miss = ap (λ (b : Bool). b && was_handed handed (name_of f) source) miss

module _ (facts : List Fact) (handed : List (Name × ℕ)) (s : Name) (source from chunks given : ℕ) (h : HasChunks facts handed s source from chunks given) where
  pub chunks_few : (chunks ≤ from) × (given ≤ from)
  chunks_few =
      let a = number_before (is_chunk_of s) facts from in
      let b = number_before (is_given handed s source) facts from in
      let c = h.of_stream in
      let d = h.of_source in
      (omega arith, omega arith)

  pub chunks_all : IsNoneFrom (is_chunk_of s) facts from → IsTally facts handed s (record { source = source; chunks = chunks; given = given })
  chunks_all none = record {
    chunks = h.of_stream ∙ number_rest (is_chunk_of s) facts from none.none ∙ sym (count_is (is_chunk_of s) facts);
    given = h.of_source ∙ number_rest (is_given handed s source) facts from (λ d z low k. given_none handed s source z (none.none d z low k)) ∙ sym (count_is (is_given handed s source) facts);
  }

  pub chunks_end : length facts ≤ from → IsTally facts handed s (record { source = source; chunks = chunks; given = given })
  chunks_end past = record {
    chunks = h.of_stream ∙ ap (number_of (is_chunk_of s)) (take_all from facts past) ∙ sym (count_is (is_chunk_of s) facts);
    given = h.of_source ∙ ap (number_of (is_given handed s source)) (take_all from facts past) ∙ sym (count_is (is_given handed s source) facts);
  }

  module _ (place : ℕ) (first : IsFirstFrom (is_chunk_of s) facts from place) where
    pub chunks_place : place < length facts
    chunks_place = get_within facts place first.item first.there

    pub chunks_one : (more : ℕ) → more ≡ cond (was_given handed source (slice_get facts place)) 1 0 → HasChunks facts handed s source (place + 1) (chunks + 1) (given + more)
    chunks_one more is =
        let e : place + 1 ≡ suc place = omega arith in
        let a = number_upto (is_chunk_of s) facts from place first.item first.behind first.before first.there in
        let one : ◌≡◌ {A = ℕ} (cond (is_chunk_of s first.item) 1 0) 1 = ap (λ (b : Bool). cond b 1 0) first.passes in
        let b = number_upto (is_given handed s source) facts from place first.item first.behind (λ d z low high k. given_none handed s source z (first.before d z low high k)) first.there in
        let two : ◌≡◌ {A = ℕ} (cond (is_given handed s source first.item) 1 0) more =
        ap (λ (b : Bool). cond (b && was_handed handed (name_of first.item) source) 1 0) first.passes ∙ sym (ap (λ (o : Option Fact). cond (was_given handed source o) 1 0) first.there) ∙ sym is in
        let c = h.of_stream in
        let d = h.of_source in
        record {
          of_stream =
              let all : chunks + 1 ≡ number_of (is_chunk_of s) (take (suc place) facts) = omega arith in
              all ∙ ap (λ (n : ℕ). number_of (is_chunk_of s) (take n facts)) (sym e);
          of_source =
              let all : given + more ≡ number_of (is_given handed s source) (take (suc place) facts) = omega arith in
              all ∙ ap (λ (n : ℕ). number_of (is_given handed s source) (take n facts)) (sym e);
          within = let lt = chunks_place in omega arith;
        }
