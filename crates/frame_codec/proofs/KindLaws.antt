-- Kind by kind: the spelling of a payload is read as that payload, and octets that are read as a payload are its spelling.
use Rattle.std.proofs.Common.{◌≡◌, ℕ, suc, ◌+◌, ◌^◌, ◌<◌, Bool, true, false, cond, eqb, List, [], ◌∷◌, ◌++◌, length, Result, Ok, Err, refl, sym, ap, subst, ◌∙◌, ◌⊎◌, inl, inr}
use Rattle.std.proofs.lemmas.Bool.{eqb-true}
use Rattle.std.proofs.lemmas.List.{append-nil, nil_from_length}
use Rattle.qkd_base.specs.declared.key_name.NameKind.{NameKind}
use Rattle.qkd_base.specs.declared.key_name.NameKind.TheVariants.{Key as KeyKind, Stream as StreamKind, Note as NoteKind}
use Rattle.qkd_base.specs.Name.{Name, IsName, octets_of}
use Rattle.net_model.specs.declared.fact.Fact.{Fact}
use Rattle.net_model.specs.declared.fact.Fact.TheVariants.{Key, Chunk, Stored, Open, Joined, Part}
use Rattle.net_model.specs.declared.payload.Payload.{Payload}
use Rattle.net_model.specs.declared.payload.Payload.TheVariants.{Data, Ack}
use Rattle.net_model.specs.Facts.{IsSize}
use Rattle.frame_codec.specs.Payload.{IsNameOf, IsSae, AreRouteNodes, IsSecret, IsFact, IsPayload, AreOctets, fields, short, long, spelled_route, fact_octets, payload_octets}
use Rattle.frame_codec.specs.Reading.{◌>>=◌, named, of_kind, any_kind, sae, size, index, route, last, key_of, note_of, stored_of, joined_of, open_of, chunk_of, part_of, ack_of, as_data, acked, payload_left, place_in, payload_of}
use Rattle.frame_codec.proofs.FieldLaws.{bind_ok, ok_is, named_takes, named_again, any_takes, any_again, sae_takes, sae_again, size_takes, size_again, index_takes, index_again, route_takes, route_again, last_takes, last_again}

size_of : {n m : ℕ} → IsSize n → m ≡ n → IsSize m
size_of {n} {m} h e = subst IsSize (sym e) h

octets_are : {xs ys : List ℕ} → xs ≡ ys → AreOctets xs → AreOctets ys
octets_are {xs} {ys} e h = subst AreOctets e h

-- The fields of a key, which a part of a group key has behind its own name. The octets are their spelling, and the fact is made of them.
record KeyParts (octets : List ℕ) (g : Name → ℕ → ℕ → List ℕ → List ℕ → Result Fact ℕ) (f : Fact) : Type 0 where
  name : Name
  master : ℕ
  slave : ℕ
  nodes : List ℕ
  bytes : List ℕ
  is_name : IsNameOf KeyKind name
  is_master : IsSae master
  is_slave : IsSae slave
  is_way : AreRouteNodes nodes
  is_secret : IsSecret bytes
  parts : octets ≡ fields (octets_of name ∷ short master ∷ short slave ∷ short (length bytes) ∷ spelled_route nodes ∷ bytes ∷ [])
  gives : g name master slave nodes bytes ≡ Ok f

key_parts : (octets : List ℕ) (g : Name → ℕ → ℕ → List ℕ → List ℕ → Result Fact ℕ) (f : Fact) → AreOctets octets
    → (named (of_kind KeyKind) octets >>= λ name. sae name.1 >>= λ master. sae master.1 >>= λ slave. size slave.1 >>= λ n. route n.1 >>= λ nodes. last n.0 nodes.1 >>= λ bytes. g name.0 master.0 slave.0 nodes.0 bytes) ≡ Ok f → KeyParts octets g f
key_parts octets g f fits e =
    let b0 = bind_ok (named (of_kind KeyKind) octets) (λ name. sae name.1 >>= λ master. sae master.1 >>= λ slave. size slave.1 >>= λ n. route n.1 >>= λ nodes. last n.0 nodes.1 >>= λ bytes. g name.0 master.0 slave.0 nodes.0 bytes) f e in
    let t0 = named_takes KeyKind octets b0.0 fits b0.1 in
    let b1 = bind_ok (sae b0.0.1) (λ master. sae master.1 >>= λ slave. size slave.1 >>= λ n. route n.1 >>= λ nodes. last n.0 nodes.1 >>= λ bytes. g b0.0.0 master.0 slave.0 nodes.0 bytes) f b0.2 in
    let t1 = sae_takes b0.0.1 b1.0 t0.0.rest_fits b1.1 in
    let b2 = bind_ok (sae b1.0.1) (λ slave. size slave.1 >>= λ n. route n.1 >>= λ nodes. last n.0 nodes.1 >>= λ bytes. g b0.0.0 b1.0.0 slave.0 nodes.0 bytes) f b1.2 in
    let t2 = sae_takes b1.0.1 b2.0 t1.0.rest_fits b2.1 in
    let b3 = bind_ok (size b2.0.1) (λ n. route n.1 >>= λ nodes. last n.0 nodes.1 >>= λ bytes. g b0.0.0 b1.0.0 b2.0.0 nodes.0 bytes) f b2.2 in
    let t3 = size_takes b2.0.1 b3.0 t2.0.rest_fits b3.1 in
    let b4 = bind_ok (route b3.0.1) (λ nodes. last b3.0.0 nodes.1 >>= λ bytes. g b0.0.0 b1.0.0 b2.0.0 nodes.0 bytes) f b3.2 in
    let t4 = route_takes b3.0.1 b4.0 t3.0.rest_fits b4.1 in
    let b5 = bind_ok (last b3.0.0 b4.0.1) (λ bytes. g b0.0.0 b1.0.0 b2.0.0 b4.0.0 bytes) f b4.2 in
    let t5 = last_takes b3.0.0 b4.0.1 b5.0 b5.1 in
    record {
      name = b0.0.0;
      master = b1.0.0;
      slave = b2.0.0;
      nodes = b4.0.0;
      bytes = b5.0;
      is_name = t0.1;
      is_master = t1.1;
      is_slave = t2.1;
      is_way = t4.1;
      is_secret = (size_of t3.1 t5.1, octets_are t5.0 t4.0.rest_fits);
      parts = t0.0.parts ∙ ap (λ (l : List ℕ). octets_of b0.0.0 ++ l) (t1.0.parts ∙ ap (λ (l : List ℕ). short b1.0.0 ++ l) (t2.0.parts ∙ ap (λ (l : List ℕ). short b2.0.0 ++ l) (t3.0.parts ∙ ap (λ (l : List ℕ). short b3.0.0 ++ l) (t4.0.parts ∙ ap (λ (l : List ℕ). spelled_route b4.0.0 ++ l) (t5.0)) ∙ ap (λ (m : ℕ). short m ++ (spelled_route b4.0.0 ++ b5.0)) (sym t5.1))));
      gives = b5.2;
    }

key_takes : (octets : List ℕ) (f : Fact) → AreOctets octets → key_of octets ≡ Ok f → IsFact f × (1 ∷ octets ≡ fact_octets f)
unfolding key_of
key_takes octets f fits e =
    let k = key_parts octets (λ name master slave nodes bytes. Ok (Key name master slave nodes bytes)) f fits e in
    subst (λ y. IsFact y × (1 ∷ octets ≡ fact_octets y)) (ok_is (Key k.name k.master k.slave k.nodes k.bytes) f k.gives)
    ((k.is_name, k.is_master, k.is_slave, k.is_way, k.is_secret), ap (λ (l : List ℕ). 1 ∷ l) k.parts)

part_takes : (octets : List ℕ) (f : Fact) → AreOctets octets → part_of octets ≡ Ok f → IsFact f × (7 ∷ octets ≡ fact_octets f)
unfolding part_of
part_takes octets f fits e =
    let b = bind_ok (named (of_kind KeyKind) octets) (λ name. named (of_kind KeyKind) name.1 >>= λ key. sae key.1 >>= λ master. sae master.1 >>= λ slave. size slave.1 >>= λ n. route n.1 >>= λ nodes. last n.0 nodes.1 >>= λ bytes. Ok (Part name.0 key.0 master.0 slave.0 nodes.0 bytes)) f e in
    let t = named_takes KeyKind octets b.0 fits b.1 in
    let k = key_parts b.0.1 (λ key master slave nodes bytes. Ok (Part b.0.0 key master slave nodes bytes)) f t.0.rest_fits b.2 in
    subst (λ y. IsFact y × (7 ∷ octets ≡ fact_octets y)) (ok_is (Part b.0.0 k.name k.master k.slave k.nodes k.bytes) f k.gives)
    ((t.1, k.is_name, k.is_master, k.is_slave, k.is_way, k.is_secret), ap (λ (l : List ℕ). 7 ∷ l) (t.0.parts ∙ ap (λ (l : List ℕ). octets_of b.0.0 ++ l) k.parts))

open_takes : (octets : List ℕ) (f : Fact) → AreOctets octets → open_of octets ≡ Ok f → IsFact f × (4 ∷ octets ≡ fact_octets f)
unfolding open_of
open_takes octets f fits e =
    let b0 = bind_ok (named (of_kind StreamKind) octets) (λ stream. sae stream.1 >>= λ source. sae source.1 >>= λ peer. size peer.1 >>= λ n. route n.1 >>= λ nodes. last 0 nodes.1 >>= λ end. Ok (Open stream.0 source.0 peer.0 n.0 nodes.0)) f e in
    let t0 = named_takes StreamKind octets b0.0 fits b0.1 in
    let b1 = bind_ok (sae b0.0.1) (λ source. sae source.1 >>= λ peer. size peer.1 >>= λ n. route n.1 >>= λ nodes. last 0 nodes.1 >>= λ end. Ok (Open b0.0.0 source.0 peer.0 n.0 nodes.0)) f b0.2 in
    let t1 = sae_takes b0.0.1 b1.0 t0.0.rest_fits b1.1 in
    let b2 = bind_ok (sae b1.0.1) (λ peer. size peer.1 >>= λ n. route n.1 >>= λ nodes. last 0 nodes.1 >>= λ end. Ok (Open b0.0.0 b1.0.0 peer.0 n.0 nodes.0)) f b1.2 in
    let t2 = sae_takes b1.0.1 b2.0 t1.0.rest_fits b2.1 in
    let b3 = bind_ok (size b2.0.1) (λ n. route n.1 >>= λ nodes. last 0 nodes.1 >>= λ end. Ok (Open b0.0.0 b1.0.0 b2.0.0 n.0 nodes.0)) f b2.2 in
    let t3 = size_takes b2.0.1 b3.0 t2.0.rest_fits b3.1 in
    let b4 = bind_ok (route b3.0.1) (λ nodes. last 0 nodes.1 >>= λ end. Ok (Open b0.0.0 b1.0.0 b2.0.0 b3.0.0 nodes.0)) f b3.2 in
    let t4 = route_takes b3.0.1 b4.0 t3.0.rest_fits b4.1 in
    let b5 = bind_ok (last 0 b4.0.1) (λ end. Ok (Open b0.0.0 b1.0.0 b2.0.0 b3.0.0 b4.0.0)) f b4.2 in
    let t5 = last_takes 0 b4.0.1 b5.0 b5.1 in
    subst (λ y. IsFact y × (4 ∷ octets ≡ fact_octets y)) (ok_is (Open b0.0.0 b1.0.0 b2.0.0 b3.0.0 b4.0.0) f b5.2) ((t0.1, t1.1, t2.1, t3.1, t4.1), ap (λ (l : List ℕ). 4 ∷ l) (t0.0.parts ∙ ap (λ (l : List ℕ). octets_of b0.0.0 ++ l) (t1.0.parts ∙ ap (λ (l : List ℕ). short b1.0.0 ++ l) (t2.0.parts ∙ ap (λ (l : List ℕ). short b2.0.0 ++ l) (t3.0.parts ∙ ap (λ (l : List ℕ). short b3.0.0 ++ l) (t4.0.parts ∙ ap (λ (l : List ℕ). spelled_route b4.0.0 ++ l) (nil_from_length b4.0.1 (ap length t5.0 ∙ t5.1)) ∙ append-nil (spelled_route b4.0.0)))))))

chunk_takes : (octets : List ℕ) (f : Fact) → AreOctets octets → chunk_of octets ≡ Ok f → IsFact f × (6 ∷ octets ≡ fact_octets f)
unfolding chunk_of
chunk_takes octets f fits e =
    let b0 = bind_ok (named (of_kind KeyKind) octets) (λ name. named (of_kind StreamKind) name.1 >>= λ stream. index stream.1 >>= λ at. size at.1 >>= λ n. route n.1 >>= λ nodes. last n.0 nodes.1 >>= λ bytes. Ok (Chunk name.0 stream.0 at.0 nodes.0 bytes)) f e in
    let t0 = named_takes KeyKind octets b0.0 fits b0.1 in
    let b1 = bind_ok (named (of_kind StreamKind) b0.0.1) (λ stream. index stream.1 >>= λ at. size at.1 >>= λ n. route n.1 >>= λ nodes. last n.0 nodes.1 >>= λ bytes. Ok (Chunk b0.0.0 stream.0 at.0 nodes.0 bytes)) f b0.2 in
    let t1 = named_takes StreamKind b0.0.1 b1.0 t0.0.rest_fits b1.1 in
    let b2 = bind_ok (index b1.0.1) (λ at. size at.1 >>= λ n. route n.1 >>= λ nodes. last n.0 nodes.1 >>= λ bytes. Ok (Chunk b0.0.0 b1.0.0 at.0 nodes.0 bytes)) f b1.2 in
    let t2 = index_takes b1.0.1 b2.0 t1.0.rest_fits b2.1 in
    let b3 = bind_ok (size b2.0.1) (λ n. route n.1 >>= λ nodes. last n.0 nodes.1 >>= λ bytes. Ok (Chunk b0.0.0 b1.0.0 b2.0.0 nodes.0 bytes)) f b2.2 in
    let t3 = size_takes b2.0.1 b3.0 t2.0.rest_fits b3.1 in
    let b4 = bind_ok (route b3.0.1) (λ nodes. last b3.0.0 nodes.1 >>= λ bytes. Ok (Chunk b0.0.0 b1.0.0 b2.0.0 nodes.0 bytes)) f b3.2 in
    let t4 = route_takes b3.0.1 b4.0 t3.0.rest_fits b4.1 in
    let b5 = bind_ok (last b3.0.0 b4.0.1) (λ bytes. Ok (Chunk b0.0.0 b1.0.0 b2.0.0 b4.0.0 bytes)) f b4.2 in
    let t5 = last_takes b3.0.0 b4.0.1 b5.0 b5.1 in
    subst (λ y. IsFact y × (6 ∷ octets ≡ fact_octets y)) (ok_is (Chunk b0.0.0 b1.0.0 b2.0.0 b4.0.0 b5.0) f b5.2) ((t0.1, t1.1, t2.1, t4.1, (size_of t3.1 t5.1, octets_are t5.0 t4.0.rest_fits)), ap (λ (l : List ℕ). 6 ∷ l) (t0.0.parts ∙ ap (λ (l : List ℕ). octets_of b0.0.0 ++ l) (t1.0.parts ∙ ap (λ (l : List ℕ). octets_of b1.0.0 ++ l) (t2.0.parts ∙ ap (λ (l : List ℕ). long b2.0.0 ++ l) (t3.0.parts ∙ ap (λ (l : List ℕ). short b3.0.0 ++ l) (t4.0.parts ∙ ap (λ (l : List ℕ). spelled_route b4.0.0 ++ l) (t5.0)) ∙ ap (λ (m : ℕ). short m ++ (spelled_route b4.0.0 ++ b5.0)) (sym t5.1))))))

note_takes : (kind : NameKind) (octets : List ℕ) (f : Name × Name × List ℕ) → AreOctets octets → note_of kind octets ≡ Ok f → (IsNameOf NoteKind f.0 × IsNameOf kind f.1 × AreRouteNodes f.2) × (octets ≡ fields (octets_of f.0 ∷ octets_of f.1 ∷ spelled_route f.2 ∷ []))
unfolding note_of
note_takes kind octets f fits e =
    let b0 = bind_ok (named (of_kind NoteKind) octets) (λ note. named (of_kind kind) note.1 >>= λ about. route about.1 >>= λ nodes. last 0 nodes.1 >>= λ end. Ok (note.0, about.0, nodes.0)) f e in
    let t0 = named_takes NoteKind octets b0.0 fits b0.1 in
    let b1 = bind_ok (named (of_kind kind) b0.0.1) (λ about. route about.1 >>= λ nodes. last 0 nodes.1 >>= λ end. Ok (b0.0.0, about.0, nodes.0)) f b0.2 in
    let t1 = named_takes kind b0.0.1 b1.0 t0.0.rest_fits b1.1 in
    let b2 = bind_ok (route b1.0.1) (λ nodes. last 0 nodes.1 >>= λ end. Ok (b0.0.0, b1.0.0, nodes.0)) f b1.2 in
    let t2 = route_takes b1.0.1 b2.0 t1.0.rest_fits b2.1 in
    let b3 = bind_ok (last 0 b2.0.1) (λ end. Ok (b0.0.0, b1.0.0, b2.0.0)) f b2.2 in
    let t3 = last_takes 0 b2.0.1 b3.0 b3.1 in
    subst (λ y. (IsNameOf NoteKind y.0 × IsNameOf kind y.1 × AreRouteNodes y.2) × (octets ≡ fields (octets_of y.0 ∷ octets_of y.1 ∷ spelled_route y.2 ∷ []))) (ok_is (b0.0.0, b1.0.0, b2.0.0) f b3.2) ((t0.1, t1.1, t2.1), t0.0.parts ∙ ap (λ (l : List ℕ). octets_of b0.0.0 ++ l) (t1.0.parts ∙ ap (λ (l : List ℕ). octets_of b1.0.0 ++ l) (t2.0.parts ∙ ap (λ (l : List ℕ). spelled_route b2.0.0 ++ l) (nil_from_length b2.0.1 (ap length t3.0 ∙ t3.1)) ∙ append-nil (spelled_route b2.0.0))))

note_again : (kind : NameKind) (note about : Name) (route : List ℕ) → IsNameOf NoteKind note → IsNameOf kind about → AreRouteNodes route → note_of kind (fields (octets_of note ∷ octets_of about ∷ spelled_route route ∷ [])) ≡ Ok (note, about, route)
unfolding note_of
note_again kind note about nodes a b w =
    let last_field : route (spelled_route nodes) ≡ Ok (nodes, []) = ap route (sym (append-nil (spelled_route nodes))) ∙ route_again nodes [] w in
    rw (named_again NoteKind note (octets_of about ++ spelled_route nodes) a, named_again kind about (spelled_route nodes) b, last_field, last_again []) refl

key_again : (name : Name) (master slave : ℕ) (nodes bytes : List ℕ) → IsNameOf KeyKind name → IsSae master → IsSae slave → AreRouteNodes nodes → IsSecret bytes
    → key_of (fields (octets_of name ∷ short master ∷ short slave ∷ short (length bytes) ∷ spelled_route nodes ∷ bytes ∷ [])) ≡ Ok (Key name master slave nodes bytes)
unfolding key_of
key_again name master slave nodes bytes a m s w b =
    let r4 = spelled_route nodes ++ bytes in
    let r3 = short (length bytes) ++ r4 in
    let r2 = short slave ++ r3 in
    let r1 = short master ++ r2 in
    rw (named_again KeyKind name r1 a, sae_again master r2 m, sae_again slave r3 s, size_again (length bytes) r4 b.0, route_again nodes bytes w, last_again bytes) refl

part_again : (name key : Name) (master slave : ℕ) (nodes bytes : List ℕ) → IsNameOf KeyKind name → IsNameOf KeyKind key → IsSae master → IsSae slave → AreRouteNodes nodes → IsSecret bytes
    → part_of (fields (octets_of name ∷ octets_of key ∷ short master ∷ short slave ∷ short (length bytes) ∷ spelled_route nodes ∷ bytes ∷ [])) ≡ Ok (Part name key master slave nodes bytes)
unfolding part_of
part_again name key master slave nodes bytes a k m s w b =
    let r4 = spelled_route nodes ++ bytes in
    let r3 = short (length bytes) ++ r4 in
    let r2 = short slave ++ r3 in
    let r1 = short master ++ r2 in
    rw (named_again KeyKind name (octets_of key ++ r1) a, named_again KeyKind key r1 k, sae_again master r2 m, sae_again slave r3 s, size_again (length bytes) r4 b.0, route_again nodes bytes w, last_again bytes) refl

chunk_again : (name stream : Name) (at : ℕ) (nodes bytes : List ℕ) → IsNameOf KeyKind name → IsNameOf StreamKind stream → at < 2 ^ 32 → AreRouteNodes nodes → IsSecret bytes
    → chunk_of (fields (octets_of name ∷ octets_of stream ∷ long at ∷ short (length bytes) ∷ spelled_route nodes ∷ bytes ∷ [])) ≡ Ok (Chunk name stream at nodes bytes)
unfolding chunk_of
chunk_again name stream at nodes bytes a k i w b =
    let r3 = spelled_route nodes ++ bytes in
    let r2 = short (length bytes) ++ r3 in
    let r1 = long at ++ r2 in
    rw (named_again KeyKind name (octets_of stream ++ r1) a, named_again StreamKind stream r1 k, index_again at r2 i, size_again (length bytes) r3 b.0, route_again nodes bytes w, last_again bytes) refl

open_again : (stream : Name) (source peer n : ℕ) (nodes : List ℕ) → IsNameOf StreamKind stream → IsSae source → IsSae peer → IsSize n → AreRouteNodes nodes
    → open_of (fields (octets_of stream ∷ short source ∷ short peer ∷ short n ∷ spelled_route nodes ∷ [])) ≡ Ok (Open stream source peer n nodes)
unfolding open_of
open_again stream source peer n nodes a m s b w =
    let r3 = short n ++ spelled_route nodes in
    let r2 = short peer ++ r3 in
    let r1 = short source ++ r2 in
    let last_field : route (spelled_route nodes) ≡ Ok (nodes, []) = ap route (sym (append-nil (spelled_route nodes))) ∙ route_again nodes [] w in
    rw (named_again StreamKind stream r1 a, sae_again source r2 m, sae_again peer r3 s, size_again n (spelled_route nodes) b, last_field, last_again []) refl

ack_takes : (octets : List ℕ) (n : Name) → AreOctets octets → ack_of octets ≡ Ok n → IsName n × (3 ∷ octets ≡ 3 ∷ octets_of n)
unfolding ack_of
ack_takes octets n fits e =
    let b0 = bind_ok (named any_kind octets) (λ name. last 0 name.1 >>= λ end. Ok name.0) n e in
    let t0 = any_takes octets b0.0 fits b0.1 in
    let b1 = bind_ok (last 0 b0.0.1) (λ end. Ok b0.0.0) n b0.2 in
    let t1 = last_takes 0 b0.0.1 b1.0 b1.1 in
    let nothing : b0.0.1 ≡ [] = nil_from_length b0.0.1 (ap length t1.0 ∙ t1.1) in
    let whole : octets ≡ octets_of b0.0.0 = t0.0.parts ∙ ap (λ (l : List ℕ). octets_of b0.0.0 ++ l) nothing in
    subst (λ m. IsName m × (3 ∷ octets ≡ 3 ∷ octets_of m)) (ok_is b0.0.0 n b1.2) (t0.1, ap (λ (l : List ℕ). 3 ∷ l) whole)

ack_again : (n : Name) → IsName n → ack_of (octets_of n) ≡ Ok n
unfolding ack_of
ack_again n h = rw (any_again n [] h, last_again []) refl

-- ---- payloads

pub chosen : {A : Type 0} (b : Bool) (x y z : A) → cond b x y ≡ z → ((b ≡ true) × (x ≡ z)) ⊎ ((b ≡ false) × (y ≡ z))
chosen true x y z e = inl (refl, e)
chosen false x y z e = inr (refl, e)

-- The octets behind the kind's octet spell this payload.
abbrev Spelled_by : ℕ → List ℕ → Payload → Type 0
Spelled_by kind octets p = IsPayload p × (kind ∷ octets ≡ payload_octets p)

same_kind : (k kind : ℕ) (octets : List ℕ) (p : Payload) → eqb kind k ≡ true → Spelled_by k octets p → Spelled_by kind octets p
same_kind k kind octets p e t = (t.0, ap (λ (n : ℕ). n ∷ octets) (eqb-true kind k e) ∙ t.1)

by_fact : (k : ℕ) (octets : List ℕ) (read : Result Fact ℕ) (p : Payload) → ((f : Fact) → read ≡ Ok f → IsFact f × (k ∷ octets ≡ fact_octets f)) → as_data read ≡ Ok p → Spelled_by k octets p
unfolding payload_octets
by_fact k octets read p is e =
    let b = bind_ok read (λ fact. Ok (Data fact)) p e in
    subst (Spelled_by k octets) (ok_is (Data b.0) p b.2) (is b.0 b.1)

by_name : (octets : List ℕ) (read : Result Name ℕ) (p : Payload) → ((n : Name) → read ≡ Ok n → IsName n × (3 ∷ octets ≡ 3 ∷ octets_of n)) → acked read ≡ Ok p → Spelled_by 3 octets p
unfolding payload_octets
by_name octets read p is e =
    let b = bind_ok read (λ name. Ok (Ack name)) p e in
    subst (Spelled_by 3 octets) (ok_is (Ack b.0) p b.2) (is b.0 b.1)

stored_takes : (octets : List ℕ) (f : Fact) → AreOctets octets → stored_of octets ≡ Ok f → IsFact f × (2 ∷ octets ≡ fact_octets f)
stored_takes octets f fits e =
    let b = bind_ok (note_of KeyKind octets) (λ n. Ok (Stored n.0 n.1 n.2)) f e in
    let t = note_takes KeyKind octets b.0 fits b.1 in
    subst (λ y. IsFact y × (2 ∷ octets ≡ fact_octets y)) (ok_is (Stored b.0.0 b.0.1 b.0.2) f b.2) (t.0, ap (λ (l : List ℕ). 2 ∷ l) t.1)

joined_takes : (octets : List ℕ) (f : Fact) → AreOctets octets → joined_of octets ≡ Ok f → IsFact f × (5 ∷ octets ≡ fact_octets f)
joined_takes octets f fits e =
    let b = bind_ok (note_of StreamKind octets) (λ n. Ok (Joined n.0 n.1 n.2)) f e in
    let t = note_takes StreamKind octets b.0 fits b.1 in
    subst (λ y. IsFact y × (5 ∷ octets ≡ fact_octets y)) (ok_is (Joined b.0.0 b.0.1 b.0.2) f b.2) (t.0, ap (λ (l : List ℕ). 5 ∷ l) t.1)

abbrev error_of : ℕ → Result Payload ℕ
error_of n = Err n

not_ok : (n : ℕ) (p : Payload) → error_of n ≡ Ok p → ⊥
not_ok n p e = cc

left_takes : (octets : List ℕ) (p : Payload) → AreOctets octets → payload_left octets ≡ Ok p → IsPayload p × (octets ≡ payload_octets p)
unfolding payload_left
left_takes [] p fits e = absurd cc
left_takes (kind ∷ octets) p fits e =
    let rest : AreOctets octets = λ i. fits (suc i) in
    let left = 1 + length octets in
    let e7 = cond (eqb kind 7) (as_data (part_of octets)) (Err left) in
    let e6 = cond (eqb kind 6) (as_data (chunk_of octets)) e7 in
    let e5 = cond (eqb kind 5) (as_data (joined_of octets)) e6 in
    let e4 = cond (eqb kind 4) (as_data (open_of octets)) e5 in
    let e3 = cond (eqb kind 3) (acked (ack_of octets)) e4 in
    let e2 = cond (eqb kind 2) (as_data (stored_of octets)) e3 in
    elim (chosen (eqb kind 1) (as_data (key_of octets)) e2 (Ok p) e) [
      | inl h ↦ same_kind 1 kind octets p h.0 (by_fact 1 octets (key_of octets) p (λ f g. key_takes octets f rest g) h.1)
      | inr h ↦ elim (chosen (eqb kind 2) (as_data (stored_of octets)) e3 (Ok p) h.1) [
        | inl h ↦ same_kind 2 kind octets p h.0 (by_fact 2 octets (stored_of octets) p (λ f g. stored_takes octets f rest g) h.1)
        | inr h ↦ elim (chosen (eqb kind 3) (acked (ack_of octets)) e4 (Ok p) h.1) [
          | inl h ↦ same_kind 3 kind octets p h.0 (by_name octets (ack_of octets) p (λ n g. ack_takes octets n rest g) h.1)
          | inr h ↦ elim (chosen (eqb kind 4) (as_data (open_of octets)) e5 (Ok p) h.1) [
            | inl h ↦ same_kind 4 kind octets p h.0 (by_fact 4 octets (open_of octets) p (λ f g. open_takes octets f rest g) h.1)
            | inr h ↦ elim (chosen (eqb kind 5) (as_data (joined_of octets)) e6 (Ok p) h.1) [
              | inl h ↦ same_kind 5 kind octets p h.0 (by_fact 5 octets (joined_of octets) p (λ f g. joined_takes octets f rest g) h.1)
              | inr h ↦ elim (chosen (eqb kind 6) (as_data (chunk_of octets)) e7 (Ok p) h.1) [
                | inl h ↦ same_kind 6 kind octets p h.0 (by_fact 6 octets (chunk_of octets) p (λ f g. chunk_takes octets f rest g) h.1)
                | inr h ↦ elim (chosen (eqb kind 7) (as_data (part_of octets)) (Err left) (Ok p) h.1) [
                  | inl h ↦ same_kind 7 kind octets p h.0 (by_fact 7 octets (part_of octets) p (λ f g. part_takes octets f rest g) h.1)
                  | inr h ↦ absurd (not_ok left p h.1)
                ]
              ]
            ]
          ]
        ]
      ]
    ]

left_again : (p : Payload) → IsPayload p → payload_left (payload_octets p) ≡ Ok p
unfolding payload_left payload_octets
left_again (Data (Key name master slave nodes bytes)) h = rw (key_again name master slave nodes bytes h.0 h.1 h.2 h.3 h.4) refl
left_again (Data (Stored note about nodes)) h = rw (note_again KeyKind note about nodes h.0 h.1 h.2) refl
left_again (Data (Open stream source peer n nodes)) h = rw (open_again stream source peer n nodes h.0 h.1 h.2 h.3 h.4) refl
left_again (Data (Joined note about nodes)) h = rw (note_again StreamKind note about nodes h.0 h.1 h.2) refl
left_again (Data (Chunk name stream at nodes bytes)) h = rw (chunk_again name stream at nodes bytes h.0 h.1 h.2 h.3 h.4) refl
left_again (Data (Part name key master slave nodes bytes)) h = rw (part_again name key master slave nodes bytes h.0 h.1 h.2 h.3 h.4 h.5) refl
left_again (Ack n) h = rw (ack_again n h) refl

placed_ok : {A : Type 0} (total : ℕ) (r : Result A ℕ) (x : A) → place_in total r ≡ Ok x → r ≡ Ok x
placed_ok total (Ok y) x e = e
placed_ok total (Err n) x e = absurd cc

pub payload_takes : (octets : List ℕ) (p : Payload) → AreOctets octets → payload_of octets ≡ Ok p → IsPayload p × (octets ≡ payload_octets p)
unfolding payload_of
payload_takes octets p fits e = left_takes octets p fits (placed_ok (length octets) (payload_left octets) p e)

pub payload_again : (p : Payload) → IsPayload p → payload_of (payload_octets p) ≡ Ok p
unfolding payload_of
payload_again p h = rw (left_again p h) refl
