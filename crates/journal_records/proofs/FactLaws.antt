-- Laws of the facts in records: what decoding and encoding give.
use Rattle.std.proofs.Common.{◌≡◌, ℕ, zero, suc, ◌+◌, ◌-◌, ◌^◌, ◌<◌, ◌≤◌, Bool, true, false, cond, eqb, ltb, List, [], ◌∷◌, ◌++◌, length, get_or, take, drop, replicate, Result, Ok, Err, refl, sym, ap, subst, ◌∙◌, arith, inl, inr, length-append}
use Rattle.std.proofs.lemmas.Bool.{eqb-true, ltb-false, le-ltb}
use Rattle.std.proofs.lemmas.List.{take_at, drop_at, take-append-drop, length-take, length-replicate, append-nil}
use Rattle.qkd_base.specs.declared.key_name.NameKind.TheVariants.{Key as KeyKind, Stream as StreamKind}
use Rattle.qkd_base.specs.Name.{Name, octets_of}
use Rattle.net_model.specs.declared.fact.Fact.{Fact}
use Rattle.net_model.specs.declared.fact.Fact.TheVariants.{Key, Chunk, Stored, Open, Joined, Part}
use Rattle.net_model.specs.declared.payload.Payload.{Payload}
use Rattle.net_model.specs.declared.payload.Payload.TheVariants.{Data, Ack}
use Rattle.net_model.specs.Facts.{IsSize, fact_len}
use Rattle.net_model.specs.Formed.{IsBareFact}
use Rattle.net_model.specs.Table.{is_secret, bytes_of}
use Rattle.frame_codec.specs.Payload.{IsNameOf, IsSae, AreRouteNodes, IsSecret, IsFact, IsPayload, AreOctets, fields, short, long, spelled_route, fact_octets, payload_octets}
use Rattle.frame_codec.specs.Reading.{◌>>=◌, named, of_kind, sae, index, route, payload_of}
use Rattle.frame_codec.proofs.FieldLaws.{Takes, bind_ok, guard_ok, ok_is, AreOctets-take, AreOctets-drop, named_takes, named_again, sae_takes, sae_again, index_takes, index_again, route_takes, route_again}
use Rattle.frame_codec.proofs.KindLaws.{chosen, payload_takes, payload_again}
use Rattle.frame_codec.proofs.Writes.{fact_length}
use Rattle.journal_records.specs.Grammar.{bare_octets}
use Rattle.journal_records.specs.Layout.{octet, within, fact_in, whole_fact, bare_key, bare_chunk, bare_part, bare_of_kind, bare_fact}
use Rattle.journal_records.proofs.FieldLaws.{ahead, fields_then, octet_takes, octet_again, within_again, exact_takes}

abbrev error_of : {A : Type 0} → ℕ → Result A ℕ
error_of n = Err n

abbrev done : {A : Type 0} → A → Result A ℕ
done x = Ok x

pub not_ok : {A : Type 0} (n : ℕ) (x : A) → error_of n ≡ done x → ⊥
not_ok n x e = cc

-- ---- whole facts

record Found (n : ℕ) (octets : List ℕ) (r : Result Payload ℕ) (x : Fact × List ℕ) : Type 0 where
  read : r ≡ Ok (Data x.0)
  rest : x.1 ≡ drop n octets

fact_found : (n : ℕ) (octets : List ℕ) (r : Result Payload ℕ) (x : Fact × List ℕ) → fact_in n octets r ≡ Ok x → Found n octets r x
fact_found n octets (Ok (Data f)) x e = subst (λ y. Found n octets (Ok (Data f)) y) (ok_is (f, drop n octets) x e) (record { read = refl; rest = refl })
fact_found n octets (Ok (Ack name)) x e = absurd (not_ok (length octets) x e)
fact_found n octets (Err place) x e = absurd (not_ok (length octets - place) x e)

payload_is : (octets : List ℕ) (f : Fact) → AreOctets octets → payload_of octets ≡ Ok (Data f) → IsFact f × (octets ≡ fact_octets f)
unfolding payload_octets
payload_is octets f fits e = payload_takes octets (Data f) fits e

payload_back : (f : Fact) → IsFact f → payload_of (fact_octets f) ≡ Ok (Data f)
unfolding payload_octets
payload_back f h = payload_again (Data f) h

pub whole_takes : (n : ℕ) (octets : List ℕ) (x : Fact × List ℕ) → AreOctets octets → whole_fact n octets ≡ Ok x → Takes octets (fact_octets x.0) x.1 × (IsFact x.0 × (length (fact_octets x.0) ≡ n))
unfolding whole_fact
whole_takes n octets x fits e =
    let read = fact_in n octets (payload_of (take n octets)) in
    let g = guard_ok (ltb (length octets) n) (length octets) (cond (eqb (get_or octets 0 0) 3) (Err (length octets)) read) x e in
    let k = guard_ok (eqb (get_or octets 0 0) 3) (length octets) read x g.1 in
    let enough : n ≤ length octets = ltb-false _ _ g.0 in
    let f = fact_found n octets (payload_of (take n octets)) x k.1 in
    let p = payload_is (take n octets) x.0 (AreOctets-take n octets fits) f.read in
    let whole : octets ≡ fact_octets x.0 ++ x.1 =
    sym (take-append-drop n octets) ∙ ap (λ (l : List ℕ). l ++ drop n octets) p.1 ∙ ap (λ (l : List ℕ). fact_octets x.0 ++ l) (sym f.rest) in
    (record { parts = whole; rest_fits = subst AreOctets (sym f.rest) (AreOctets-drop n octets fits) }, (p.0, sym (ap length p.1) ∙ omega (arith, length-take n octets, enough)))

no_ack : (f : Fact) (rest : List ℕ) → eqb (get_or (fact_octets f ++ rest) 0 0) 3 ≡ false
no_ack (Key name master slave nodes bytes) rest = refl
no_ack (Chunk name stream at nodes bytes) rest = refl
no_ack (Part name key master slave nodes bytes) rest = refl
no_ack (Stored note about nodes) rest = refl
no_ack (Open stream source peer n nodes) rest = refl
no_ack (Joined note about nodes) rest = refl

pub whole_again : (f : Fact) (rest : List ℕ) → IsFact f → whole_fact (length (fact_octets f)) (fact_octets f ++ rest) ≡ Ok (f, rest)
unfolding whole_fact
whole_again f rest h =
    let os : List ℕ = fact_octets f in
    let room : ltb (length (os ++ rest)) (length os) ≡ false = le-ltb _ _ (omega (arith, length-append os rest)) in
    let taken : take (length os) (os ++ rest) ≡ os = take_at os rest (length os) refl in
    let left : drop (length os) (os ++ rest) ≡ rest = drop_at os rest (length os) refl in
    let read : payload_of (take (length os) (os ++ rest)) ≡ Ok (Data f) = ap payload_of taken ∙ payload_back f h in
    let none : eqb (get_or (os ++ rest) 0 0) 3 ≡ false = no_ack f rest in
    ap (λ b. cond b (Err (length (os ++ rest))) (cond (eqb (get_or (os ++ rest) 0 0) 3) (Err (length (os ++ rest))) (fact_in (length os) (os ++ rest) (payload_of (take (length os) (os ++ rest)))))) room
    ∙ ap (λ b. cond b (Err (length (os ++ rest))) (fact_in (length os) (os ++ rest) (payload_of (take (length os) (os ++ rest))))) none
    ∙ ap (λ r. fact_in (length os) (os ++ rest) r) read
    ∙ ap (λ (l : List ℕ). done (f, l)) left

-- ---- facts without their bytes

zero_octets : (n : ℕ) → AreOctets (replicate n 0)
zero_octets zero i = omega arith
zero_octets (suc n) zero = omega arith
zero_octets (suc n) (suc i) = zero_octets n i

zeros_secret : (n : ℕ) → IsSize n → IsSecret (replicate n 0)
zeros_secret n size = (subst IsSize (sym (length-replicate n 0)) size, zero_octets n)

abbrev zeros : ℕ → List ℕ
zeros n = replicate n 0

same_zeros : (n : ℕ) → zeros n ≡ zeros (length (zeros n))
same_zeros n = ap zeros (sym (length-replicate n 0))

-- what was read of a fact without its n bytes, after its kind
pub record BareFits (n : ℕ) (f : Fact) : Type 0 where
  pub fact : IsFact f
  pub bare : IsBareFact f
  pub size : length (bytes_of f) ≡ n

pub record BareTells (kind n : ℕ) (octets : List ℕ) (f : Fact) (rest : List ℕ) : Type 0 where
  pub is : kind ∷ octets ≡ bare_octets f ++ rest
  pub fits : BareFits n f
  pub rest_fits : AreOctets rest

bare_key_fits : (n : ℕ) → IsSize n → (name : Name) (master slave : ℕ) (nodes : List ℕ) → IsNameOf KeyKind name → IsSae master → IsSae slave → AreRouteNodes nodes → BareFits n (Key name master slave nodes (replicate n 0))
bare_key_fits n size name master slave nodes a m s w = record {
  fact = (a, m, s, w, zeros_secret n size);
  bare = record { secret = refl; formed = (a.1, (zeros_secret n size).0); zeros = same_zeros n };
  size = length-replicate n 0;
}

bare_chunk_fits : (n : ℕ) → IsSize n → (name stream : Name) (at : ℕ) (nodes : List ℕ) → IsNameOf KeyKind name → IsNameOf StreamKind stream → at < 2 ^ 32 → AreRouteNodes nodes → BareFits n (Chunk name stream at nodes (replicate n 0))
bare_chunk_fits n size name stream at nodes a k i w = record {
  fact = (a, k, i, w, zeros_secret n size);
  bare = record { secret = refl; formed = (a.1, k.1, (zeros_secret n size).0); zeros = same_zeros n };
  size = length-replicate n 0;
}

bare_part_fits : (n : ℕ) → IsSize n → (name key : Name) (master slave : ℕ) (nodes : List ℕ) → IsNameOf KeyKind name → IsNameOf KeyKind key → IsSae master → IsSae slave → AreRouteNodes nodes → BareFits n (Part name key master slave nodes (replicate n 0))
bare_part_fits n size name key master slave nodes a k m s w = record {
  fact = (a, k, m, s, w, zeros_secret n size);
  bare = record { secret = refl; formed = (a.1, k.1, (zeros_secret n size).0); zeros = same_zeros n };
  size = length-replicate n 0;
}

bare_key_takes : (n : ℕ) → IsSize n → (octets : List ℕ) (x : Fact × List ℕ) → AreOctets octets → bare_key n octets ≡ Ok x → BareTells 1 n octets x.0 x.1
unfolding bare_key
bare_key_takes n size octets x fits e =
    let b0 = bind_ok (named (of_kind KeyKind) octets) (λ name. sae name.1 >>= λ master. sae master.1 >>= λ slave. within n n slave.1 >>= λ same. route same.1 >>= λ nodes. Ok (Key name.0 master.0 slave.0 nodes.0 (replicate n 0), nodes.1)) x e in
    let t0 = named_takes KeyKind octets b0.0 fits b0.1 in
    let b1 = bind_ok (sae b0.0.1) (λ master. sae master.1 >>= λ slave. within n n slave.1 >>= λ same. route same.1 >>= λ nodes. Ok (Key b0.0.0 master.0 slave.0 nodes.0 (replicate n 0), nodes.1)) x b0.2 in
    let t1 = sae_takes b0.0.1 b1.0 t0.0.rest_fits b1.1 in
    let b2 = bind_ok (sae b1.0.1) (λ slave. within n n slave.1 >>= λ same. route same.1 >>= λ nodes. Ok (Key b0.0.0 b1.0.0 slave.0 nodes.0 (replicate n 0), nodes.1)) x b1.2 in
    let t2 = sae_takes b1.0.1 b2.0 t1.0.rest_fits b2.1 in
    let b3 = bind_ok (within n n b2.0.1) (λ same. route same.1 >>= λ nodes. Ok (Key b0.0.0 b1.0.0 b2.0.0 nodes.0 (replicate n 0), nodes.1)) x b2.2 in
    let t3 = exact_takes n b2.0.1 b3.0 t2.0.rest_fits b3.1 in
    let b4 = bind_ok (route b3.0.1) (λ nodes. Ok (Key b0.0.0 b1.0.0 b2.0.0 nodes.0 (replicate n 0), nodes.1)) x b3.2 in
    let t4 = route_takes b3.0.1 b4.0 t3.0.rest_fits b4.1 in
    let y : Fact = Key b0.0.0 b1.0.0 b2.0.0 b4.0.0 (replicate n 0) in
    let whole : octets ≡ ahead ((octets_of b0.0.0) ∷ (short b1.0.0) ∷ (short b2.0.0) ∷ (short n) ∷ (spelled_route b4.0.0) ∷ []) b4.0.1 = t0.0.parts ∙ ap (λ (l : List ℕ). octets_of b0.0.0 ++ l) (t1.0.parts ∙ ap (λ (l : List ℕ). short b1.0.0 ++ l) (t2.0.parts ∙ ap (λ (l : List ℕ). short b2.0.0 ++ l) (t3.0.parts ∙ ap (λ (l : List ℕ). short n ++ l) (t4.0.parts)))) in
    subst (λ z. BareTells 1 n octets z.0 z.1) (ok_is (y, b4.0.1) x b4.2) (record {
      is = ap (λ (l : List ℕ). 1 ∷ l) (whole ∙ sym (fields_then ((octets_of b0.0.0) ∷ (short b1.0.0) ∷ (short b2.0.0) ∷ (short n) ∷ (spelled_route b4.0.0) ∷ []) b4.0.1)) ∙ ap (λ (k : ℕ). 1 ∷ (fields ((octets_of b0.0.0) ∷ (short b1.0.0) ∷ (short b2.0.0) ∷ short k ∷ (spelled_route b4.0.0) ∷ []) ++ b4.0.1)) (sym (length-replicate n 0));
      fits = bare_key_fits n size b0.0.0 b1.0.0 b2.0.0 b4.0.0 t0.1 t1.1 t2.1 t4.1;
      rest_fits = t4.0.rest_fits;
    })

bare_chunk_takes : (n : ℕ) → IsSize n → (octets : List ℕ) (x : Fact × List ℕ) → AreOctets octets → bare_chunk n octets ≡ Ok x → BareTells 6 n octets x.0 x.1
unfolding bare_chunk
bare_chunk_takes n size octets x fits e =
    let b0 = bind_ok (named (of_kind KeyKind) octets) (λ name. named (of_kind StreamKind) name.1 >>= λ stream. index stream.1 >>= λ at. within n n at.1 >>= λ same. route same.1 >>= λ nodes. Ok (Chunk name.0 stream.0 at.0 nodes.0 (replicate n 0), nodes.1)) x e in
    let t0 = named_takes KeyKind octets b0.0 fits b0.1 in
    let b1 = bind_ok (named (of_kind StreamKind) b0.0.1) (λ stream. index stream.1 >>= λ at. within n n at.1 >>= λ same. route same.1 >>= λ nodes. Ok (Chunk b0.0.0 stream.0 at.0 nodes.0 (replicate n 0), nodes.1)) x b0.2 in
    let t1 = named_takes StreamKind b0.0.1 b1.0 t0.0.rest_fits b1.1 in
    let b2 = bind_ok (index b1.0.1) (λ at. within n n at.1 >>= λ same. route same.1 >>= λ nodes. Ok (Chunk b0.0.0 b1.0.0 at.0 nodes.0 (replicate n 0), nodes.1)) x b1.2 in
    let t2 = index_takes b1.0.1 b2.0 t1.0.rest_fits b2.1 in
    let b3 = bind_ok (within n n b2.0.1) (λ same. route same.1 >>= λ nodes. Ok (Chunk b0.0.0 b1.0.0 b2.0.0 nodes.0 (replicate n 0), nodes.1)) x b2.2 in
    let t3 = exact_takes n b2.0.1 b3.0 t2.0.rest_fits b3.1 in
    let b4 = bind_ok (route b3.0.1) (λ nodes. Ok (Chunk b0.0.0 b1.0.0 b2.0.0 nodes.0 (replicate n 0), nodes.1)) x b3.2 in
    let t4 = route_takes b3.0.1 b4.0 t3.0.rest_fits b4.1 in
    let y : Fact = Chunk b0.0.0 b1.0.0 b2.0.0 b4.0.0 (replicate n 0) in
    let whole : octets ≡ ahead ((octets_of b0.0.0) ∷ (octets_of b1.0.0) ∷ (long b2.0.0) ∷ (short n) ∷ (spelled_route b4.0.0) ∷ []) b4.0.1 = t0.0.parts ∙ ap (λ (l : List ℕ). octets_of b0.0.0 ++ l) (t1.0.parts ∙ ap (λ (l : List ℕ). octets_of b1.0.0 ++ l) (t2.0.parts ∙ ap (λ (l : List ℕ). long b2.0.0 ++ l) (t3.0.parts ∙ ap (λ (l : List ℕ). short n ++ l) (t4.0.parts)))) in
    subst (λ z. BareTells 6 n octets z.0 z.1) (ok_is (y, b4.0.1) x b4.2) (record {
      is = ap (λ (l : List ℕ). 6 ∷ l) (whole ∙ sym (fields_then ((octets_of b0.0.0) ∷ (octets_of b1.0.0) ∷ (long b2.0.0) ∷ (short n) ∷ (spelled_route b4.0.0) ∷ []) b4.0.1)) ∙ ap (λ (k : ℕ). 6 ∷ (fields ((octets_of b0.0.0) ∷ (octets_of b1.0.0) ∷ (long b2.0.0) ∷ short k ∷ (spelled_route b4.0.0) ∷ []) ++ b4.0.1)) (sym (length-replicate n 0));
      fits = bare_chunk_fits n size b0.0.0 b1.0.0 b2.0.0 b4.0.0 t0.1 t1.1 t2.1 t4.1;
      rest_fits = t4.0.rest_fits;
    })

bare_part_takes : (n : ℕ) → IsSize n → (octets : List ℕ) (x : Fact × List ℕ) → AreOctets octets → bare_part n octets ≡ Ok x → BareTells 7 n octets x.0 x.1
unfolding bare_part
bare_part_takes n size octets x fits e =
    let b0 = bind_ok (named (of_kind KeyKind) octets) (λ name. named (of_kind KeyKind) name.1 >>= λ key. sae key.1 >>= λ master. sae master.1 >>= λ slave. within n n slave.1 >>= λ same. route same.1 >>= λ nodes. Ok (Part name.0 key.0 master.0 slave.0 nodes.0 (replicate n 0), nodes.1)) x e in
    let t0 = named_takes KeyKind octets b0.0 fits b0.1 in
    let b1 = bind_ok (named (of_kind KeyKind) b0.0.1) (λ key. sae key.1 >>= λ master. sae master.1 >>= λ slave. within n n slave.1 >>= λ same. route same.1 >>= λ nodes. Ok (Part b0.0.0 key.0 master.0 slave.0 nodes.0 (replicate n 0), nodes.1)) x b0.2 in
    let t1 = named_takes KeyKind b0.0.1 b1.0 t0.0.rest_fits b1.1 in
    let b2 = bind_ok (sae b1.0.1) (λ master. sae master.1 >>= λ slave. within n n slave.1 >>= λ same. route same.1 >>= λ nodes. Ok (Part b0.0.0 b1.0.0 master.0 slave.0 nodes.0 (replicate n 0), nodes.1)) x b1.2 in
    let t2 = sae_takes b1.0.1 b2.0 t1.0.rest_fits b2.1 in
    let b3 = bind_ok (sae b2.0.1) (λ slave. within n n slave.1 >>= λ same. route same.1 >>= λ nodes. Ok (Part b0.0.0 b1.0.0 b2.0.0 slave.0 nodes.0 (replicate n 0), nodes.1)) x b2.2 in
    let t3 = sae_takes b2.0.1 b3.0 t2.0.rest_fits b3.1 in
    let b4 = bind_ok (within n n b3.0.1) (λ same. route same.1 >>= λ nodes. Ok (Part b0.0.0 b1.0.0 b2.0.0 b3.0.0 nodes.0 (replicate n 0), nodes.1)) x b3.2 in
    let t4 = exact_takes n b3.0.1 b4.0 t3.0.rest_fits b4.1 in
    let b5 = bind_ok (route b4.0.1) (λ nodes. Ok (Part b0.0.0 b1.0.0 b2.0.0 b3.0.0 nodes.0 (replicate n 0), nodes.1)) x b4.2 in
    let t5 = route_takes b4.0.1 b5.0 t4.0.rest_fits b5.1 in
    let y : Fact = Part b0.0.0 b1.0.0 b2.0.0 b3.0.0 b5.0.0 (replicate n 0) in
    let whole : octets ≡ ahead ((octets_of b0.0.0) ∷ (octets_of b1.0.0) ∷ (short b2.0.0) ∷ (short b3.0.0) ∷ (short n) ∷ (spelled_route b5.0.0) ∷ []) b5.0.1 = t0.0.parts ∙ ap (λ (l : List ℕ). octets_of b0.0.0 ++ l) (t1.0.parts ∙ ap (λ (l : List ℕ). octets_of b1.0.0 ++ l) (t2.0.parts ∙ ap (λ (l : List ℕ). short b2.0.0 ++ l) (t3.0.parts ∙ ap (λ (l : List ℕ). short b3.0.0 ++ l) (t4.0.parts ∙ ap (λ (l : List ℕ). short n ++ l) (t5.0.parts))))) in
    subst (λ z. BareTells 7 n octets z.0 z.1) (ok_is (y, b5.0.1) x b5.2) (record {
      is = ap (λ (l : List ℕ). 7 ∷ l) (whole ∙ sym (fields_then ((octets_of b0.0.0) ∷ (octets_of b1.0.0) ∷ (short b2.0.0) ∷ (short b3.0.0) ∷ (short n) ∷ (spelled_route b5.0.0) ∷ []) b5.0.1)) ∙ ap (λ (k : ℕ). 7 ∷ (fields ((octets_of b0.0.0) ∷ (octets_of b1.0.0) ∷ (short b2.0.0) ∷ (short b3.0.0) ∷ short k ∷ (spelled_route b5.0.0) ∷ []) ++ b5.0.1)) (sym (length-replicate n 0));
      fits = bare_part_fits n size b0.0.0 b1.0.0 b2.0.0 b3.0.0 b5.0.0 t0.1 t1.1 t2.1 t3.1 t5.1;
      rest_fits = t5.0.rest_fits;
    })

same_kind : (k kind n : ℕ) (octets : List ℕ) (f : Fact) (rest : List ℕ) → eqb kind k ≡ true → BareTells k n octets f rest → BareTells kind n octets f rest
same_kind k kind n octets f rest e t = record { is = ap (λ (m : ℕ). m ∷ octets) (eqb-true kind k e) ∙ t.is; fits = t.fits; rest_fits = t.rest_fits }

kind_takes : (n left kind : ℕ) → IsSize n → (octets : List ℕ) (x : Fact × List ℕ) → AreOctets octets → bare_of_kind n left kind octets ≡ Ok x → BareTells kind n octets x.0 x.1
kind_takes n left kind size octets x fits e =
    elim (chosen (eqb kind 1) (bare_key n octets) (cond (eqb kind 6) (bare_chunk n octets) (cond (eqb kind 7) (bare_part n octets) (Err left))) (Ok x) e) [
      | inl h ↦ same_kind 1 kind n octets x.0 x.1 h.0 (bare_key_takes n size octets x fits h.1)
      | inr h ↦ elim (chosen (eqb kind 6) (bare_chunk n octets) (cond (eqb kind 7) (bare_part n octets) (Err left)) (Ok x) h.1) [
        | inl h ↦ same_kind 6 kind n octets x.0 x.1 h.0 (bare_chunk_takes n size octets x fits h.1)
        | inr h ↦ elim (chosen (eqb kind 7) (bare_part n octets) (Err left) (Ok x) h.1) [
          | inl h ↦ same_kind 7 kind n octets x.0 x.1 h.0 (bare_part_takes n size octets x fits h.1)
          | inr h ↦ absurd (not_ok left x h.1)
        ]
      ]
    ]

pub bare_takes : (n : ℕ) → IsSize n → (octets : List ℕ) (x : Fact × List ℕ) → AreOctets octets → bare_fact n octets ≡ Ok x → Takes octets (bare_octets x.0) x.1 × BareFits n x.0
unfolding bare_fact
bare_takes n size octets x fits e =
    let b = bind_ok (octet octets) (λ kind. bare_of_kind n (length octets) kind.0 kind.1) x e in
    let t = octet_takes octets b.0 fits b.1 in
    let k = kind_takes n (length octets) b.0.0 size b.0.1 x t.0.rest_fits b.2 in
    (record { parts = t.0.parts ∙ k.is; rest_fits = k.rest_fits }, k.fits)

-- ---- encoding, then decoding

size_fits : (n : ℕ) → IsSize n → n < 65536
size_fits n size = omega (arith, size.1)

bare_key_again : (name : Name) (master slave : ℕ) (nodes bytes rest : List ℕ) → IsNameOf KeyKind name → IsSae master → IsSae slave → AreRouteNodes nodes → IsSize (length bytes) → bytes ≡ replicate (length bytes) 0
    → bare_key (length bytes) (fields (octets_of name ∷ short master ∷ short slave ∷ short (length bytes) ∷ spelled_route nodes ∷ []) ++ rest) ≡ Ok (Key name master slave nodes bytes, rest)
unfolding bare_key
bare_key_again name master slave nodes bytes rest a m s w size zeros =
    let n : ℕ = length bytes in
    let r4 = spelled_route nodes ++ rest in
    let r3 = short n ++ r4 in
    let r2 = short slave ++ r3 in
    let r1 = short master ++ r2 in
    rw (fields_then (octets_of name ∷ short master ∷ short slave ∷ short n ∷ spelled_route nodes ∷ []) rest, named_again KeyKind name r1 a, sae_again master r2 m, sae_again slave r3 s, within_again n n n r4 (size_fits n size) (omega arith) (omega arith), route_again nodes rest w, ← zeros) refl

bare_chunk_again : (name stream : Name) (at : ℕ) (nodes bytes rest : List ℕ) → IsNameOf KeyKind name → IsNameOf StreamKind stream → at < 2 ^ 32 → AreRouteNodes nodes → IsSize (length bytes) → bytes ≡ replicate (length bytes) 0
    → bare_chunk (length bytes) (fields (octets_of name ∷ octets_of stream ∷ long at ∷ short (length bytes) ∷ spelled_route nodes ∷ []) ++ rest) ≡ Ok (Chunk name stream at nodes bytes, rest)
unfolding bare_chunk
bare_chunk_again name stream at nodes bytes rest a k i w size zeros =
    let n : ℕ = length bytes in
    let r3 = spelled_route nodes ++ rest in
    let r2 = short n ++ r3 in
    let r1 = long at ++ r2 in
    rw (fields_then (octets_of name ∷ octets_of stream ∷ long at ∷ short n ∷ spelled_route nodes ∷ []) rest, named_again KeyKind name (octets_of stream ++ r1) a, named_again StreamKind stream r1 k, index_again at r2 i, within_again n n n r3 (size_fits n size) (omega arith) (omega arith), route_again nodes rest w, ← zeros) refl

bare_part_again : (name key : Name) (master slave : ℕ) (nodes bytes rest : List ℕ) → IsNameOf KeyKind name → IsNameOf KeyKind key → IsSae master → IsSae slave → AreRouteNodes nodes → IsSize (length bytes) → bytes ≡ replicate (length bytes) 0
    → bare_part (length bytes) (fields (octets_of name ∷ octets_of key ∷ short master ∷ short slave ∷ short (length bytes) ∷ spelled_route nodes ∷ []) ++ rest) ≡ Ok (Part name key master slave nodes bytes, rest)
unfolding bare_part
bare_part_again name key master slave nodes bytes rest a k m s w size zeros =
    let n : ℕ = length bytes in
    let r4 = spelled_route nodes ++ rest in
    let r3 = short n ++ r4 in
    let r2 = short slave ++ r3 in
    let r1 = short master ++ r2 in
    rw (fields_then (octets_of name ∷ octets_of key ∷ short master ∷ short slave ∷ short n ∷ spelled_route nodes ∷ []) rest, named_again KeyKind name (octets_of key ++ r1) a, named_again KeyKind key r1 k, sae_again master r2 m, sae_again slave r3 s, within_again n n n r4 (size_fits n size) (omega arith) (omega arith), route_again nodes rest w, ← zeros) refl

no_secret : {A : Type 0} → false ≡ true → A
no_secret e = absurd cc

pub bare_again : (f : Fact) (rest : List ℕ) → IsFact f → IsBareFact f → bare_fact (length (bytes_of f)) (bare_octets f ++ rest) ≡ Ok (f, rest)
unfolding bare_fact
bare_again (Key name master slave nodes bytes) rest h b =
    rw (octet_again 1 (fields (octets_of name ∷ short master ∷ short slave ∷ short (length bytes) ∷ spelled_route nodes ∷ []) ++ rest)) (bare_key_again name master slave nodes bytes rest h.0 h.1 h.2 h.3 h.4.0 b.zeros)
bare_again (Chunk name stream at nodes bytes) rest h b =
    rw (octet_again 6 (fields (octets_of name ∷ octets_of stream ∷ long at ∷ short (length bytes) ∷ spelled_route nodes ∷ []) ++ rest)) (bare_chunk_again name stream at nodes bytes rest h.0 h.1 h.2 h.3 h.4.0 b.zeros)
bare_again (Part name key master slave nodes bytes) rest h b =
    rw (octet_again 7 (fields (octets_of name ∷ octets_of key ∷ short master ∷ short slave ∷ short (length bytes) ∷ spelled_route nodes ∷ []) ++ rest)) (bare_part_again name key master slave nodes bytes rest h.0 h.1 h.2 h.3 h.4 h.5.0 b.zeros)
bare_again (Stored note about nodes) rest h b = no_secret b.secret
bare_again (Open stream source peer n nodes) rest h b = no_secret b.secret
bare_again (Joined note about nodes) rest h b = no_secret b.secret

-- The encoding of a fact without its bytes is shorter by the number of these bytes.
pub bare_length : (f : Fact) → length (bare_octets f) ≡ fact_len f - length (bytes_of f)
bare_length (Key name master slave nodes bytes) = omega arith
bare_length (Chunk name stream at nodes bytes) = omega arith
bare_length (Part name key master slave nodes bytes) = omega arith
bare_length (Stored note about nodes) = omega (arith, fact_length (Stored note about nodes))
bare_length (Open stream source peer n nodes) = omega (arith, fact_length (Open stream source peer n nodes))
bare_length (Joined note about nodes) = omega (arith, fact_length (Joined note about nodes))

-- The octets of a fact are its octets without the bytes, and then the bytes.
pub whole_is_bare : (f : Fact) → fact_octets f ≡ bare_octets f ++ bytes_of f
whole_is_bare (Key name master slave nodes bytes) = ap (λ (l : List ℕ). 1 ∷ l) (sym (fields_then (octets_of name ∷ short master ∷ short slave ∷ short (length bytes) ∷ spelled_route nodes ∷ []) bytes))
whole_is_bare (Chunk name stream at nodes bytes) = ap (λ (l : List ℕ). 6 ∷ l) (sym (fields_then (octets_of name ∷ octets_of stream ∷ long at ∷ short (length bytes) ∷ spelled_route nodes ∷ []) bytes))
whole_is_bare (Part name key master slave nodes bytes) = ap (λ (l : List ℕ). 7 ∷ l) (sym (fields_then (octets_of name ∷ octets_of key ∷ short master ∷ short slave ∷ short (length bytes) ∷ spelled_route nodes ∷ []) bytes))
whole_is_bare (Stored note about nodes) = sym (append-nil (fact_octets (Stored note about nodes)))
whole_is_bare (Open stream source peer n nodes) = sym (append-nil (fact_octets (Open stream source peer n nodes)))
whole_is_bare (Joined note about nodes) = sym (append-nil (fact_octets (Joined note about nodes)))
