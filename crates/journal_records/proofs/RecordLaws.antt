-- Laws of records: what decoding and encoding give.
use Rattle.std.proofs.Common.{◌≡◌, ℕ, zero, suc, ◌+◌, ◌-◌, ◌^◌, ◌<◌, ◌≤◌, Bool, true, false, cond, eqb, List, [], ◌∷◌, ◌++◌, length, Result, Ok, Err, refl, sym, ap, subst, ◌∙◌, arith, inl, inr, length-append}
use Rattle.std.specs.Int.{w64, to_be_bytes}
use Rattle.std.proofs.lemmas.Bool.{eqb-true}
use Rattle.std.proofs.lemmas.List.{append-nil}
use Rattle.qkd_base.specs.declared.key_name.NameKind.TheVariants.{Stream as StreamKind}
use Rattle.qkd_base.specs.Name.{Name}
use Rattle.net_model.specs.declared.fact.Fact.{Fact}
use Rattle.net_model.specs.declared.fact.Fact.TheVariants.{Key, Chunk, Stored, Open, Joined, Part}
use Rattle.net_model.specs.declared.record.Record.{Record}
use Rattle.net_model.specs.declared.record.Record.TheVariants.{Block, Lease, Learned, Acked, Handed, Closed, Bare}
use Rattle.net_model.specs.Facts.{IsSize, fact_len}
use Rattle.net_model.specs.Journal.{record_len}
use Rattle.net_model.specs.Table.{is_secret, bytes_of}
use Rattle.frame_codec.specs.Payload.{IsSae, IsFact, IsPayload, AreOctets, fields, short, long, fact_octets}
use Rattle.frame_codec.specs.Reading.{◌>>=◌, of_kind, any_kind, sae, size, index}
use Rattle.frame_codec.proofs.FieldLaws.{Takes, bind_ok, ok_is, sae_takes, sae_again, size_takes, size_again, index_takes, index_again}
use Rattle.frame_codec.proofs.KindLaws.{chosen}
use Rattle.qkd_base.proofs.Routes.{nine_of}
use Rattle.frame_codec.proofs.Writes.{fact_length}
use Rattle.journal_records.specs.declared.version.Version.{Version}
use Rattle.journal_records.specs.declared.version.Version.TheVariants.{First, Second}
use Rattle.journal_records.specs.Grammar.{IsRecord, name_octets, name_size, way_number, bare_octets, record_kind, record_fields, record_octets}
use Rattle.journal_records.specs.Layout.{link_no, direction, lane_end, within, plain, name_in, whole_fact, bare_fact, block, lease, learned, acked, handed, closed, bare, one_of}
use Rattle.journal_records.proofs.FieldLaws.{ahead, fields_then, link_takes, link_again, way_takes, way_again, end_takes, end_again, within_takes, within_again, plain_takes, plain_again, name_takes, name_again, stream_takes, stream_again}
use Rattle.journal_records.proofs.FactLaws.{not_ok, whole_takes, whole_again, bare_takes, bare_again, bare_length}

-- what was read after the octet of a kind
pub record Tells (v : Version) (kind : ℕ) (octets : List ℕ) (r : Record) (rest : List ℕ) : Type 0 where
  pub is : kind ∷ octets ≡ record_octets v r ++ rest
  pub fits : IsRecord r
  pub rest_fits : AreOctets rest

block_takes : (v : Version) (octets : List ℕ) (x : Record × List ℕ) → AreOctets octets → block octets ≡ Ok x → Tells v 1 octets x.0 x.1
unfolding block
block_takes v octets x fits e =
    let b0 = bind_ok (link_no octets) (λ link. index link.1 >>= λ number. plain 1024 number.1 >>= λ bytes. Ok (Block link.0 number.0 bytes.0, bytes.1)) x e in
    let t0 = link_takes octets b0.0 fits b0.1 in
    let b1 = bind_ok (index b0.0.1) (λ number. plain 1024 number.1 >>= λ bytes. Ok (Block b0.0.0 number.0 bytes.0, bytes.1)) x b0.2 in
    let t1 = index_takes b0.0.1 b1.0 t0.0.rest_fits b1.1 in
    let b2 = bind_ok (plain 1024 b1.0.1) (λ bytes. Ok (Block b0.0.0 b1.0.0 bytes.0, bytes.1)) x b1.2 in
    let t2 = plain_takes 1024 b1.0.1 b2.0 t1.0.rest_fits b2.1 in
    let y : Record = Block b0.0.0 b1.0.0 b2.0.0 in
    let whole : octets ≡ ahead ((b0.0.0 ∷ []) ∷ (long b1.0.0) ∷ (b2.0.0) ∷ []) b2.0.1 = t0.0.parts ∙ ap (λ (l : List ℕ). b0.0.0 ∷ [] ++ l) (t1.0.parts ∙ ap (λ (l : List ℕ). long b1.0.0 ++ l) (t2.0.parts)) in
    subst (λ z. Tells v 1 octets z.0 z.1) (ok_is (y, b2.0.1) x b2.2) (record {
      is = ap (λ (l : List ℕ). 1 ∷ l) (whole ∙ sym (fields_then ((b0.0.0 ∷ []) ∷ (long b1.0.0) ∷ (b2.0.0) ∷ []) b2.0.1));
      fits = (t0.1, t1.1, t2.1.0, t2.1.1);
      rest_fits = t2.0.rest_fits;
    })

lease_takes : (v : Version) (octets : List ℕ) (x : Record × List ℕ) → AreOctets octets → lease octets ≡ Ok x → Tells v 2 octets x.0 x.1
unfolding lease
lease_takes v octets x fits e =
    let b0 = bind_ok (link_no octets) (λ link. direction link.1 >>= λ way. lane_end way.1 >>= λ end. Ok (Lease (record { link = link.0; way = way.0 }) end.0, end.1)) x e in
    let t0 = link_takes octets b0.0 fits b0.1 in
    let b1 = bind_ok (direction b0.0.1) (λ way. lane_end way.1 >>= λ end. Ok (Lease (record { link = b0.0.0; way = way.0 }) end.0, end.1)) x b0.2 in
    let t1 = way_takes b0.0.1 b1.0 t0.0.rest_fits b1.1 in
    let b2 = bind_ok (lane_end b1.0.1) (λ end. Ok (Lease (record { link = b0.0.0; way = b1.0.0 }) end.0, end.1)) x b1.2 in
    let t2 = end_takes b1.0.1 b2.0 t1.0.rest_fits b2.1 in
    let y : Record = Lease (record { link = b0.0.0; way = b1.0.0 }) b2.0.0 in
    let whole : octets ≡ ahead ((b0.0.0 ∷ []) ∷ (way_number b1.0.0 ∷ []) ∷ (to_be_bytes w64 b2.0.0) ∷ []) b2.0.1 = t0.0.parts ∙ ap (λ (l : List ℕ). b0.0.0 ∷ [] ++ l) (t1.0.parts ∙ ap (λ (l : List ℕ). way_number b1.0.0 ∷ [] ++ l) (t2.0.parts)) in
    subst (λ z. Tells v 2 octets z.0 z.1) (ok_is (y, b2.0.1) x b2.2) (record {
      is = ap (λ (l : List ℕ). 2 ∷ l) (whole ∙ sym (fields_then ((b0.0.0 ∷ []) ∷ (way_number b1.0.0 ∷ []) ∷ (to_be_bytes w64 b2.0.0) ∷ []) b2.0.1));
      fits = (t0.1, t2.1);
      rest_fits = t2.0.rest_fits;
    })

acked_takes : (v : Version) (octets : List ℕ) (x : Record × List ℕ) → AreOctets octets → acked v octets ≡ Ok x → Tells v 4 octets x.0 x.1
unfolding acked
acked_takes v octets x fits e =
    let b0 = bind_ok (name_in v any_kind octets) (λ name. Ok (Acked name.0, name.1)) x e in
    let t0 = name_takes v octets b0.0 fits b0.1 in
    let y : Record = Acked b0.0.0 in
    let whole : octets ≡ ahead ((name_octets v b0.0.0) ∷ []) b0.0.1 = t0.0.parts in
    subst (λ z. Tells v 4 octets z.0 z.1) (ok_is (y, b0.0.1) x b0.2) (record {
      is = ap (λ (l : List ℕ). 4 ∷ l) (whole ∙ sym (fields_then ((name_octets v b0.0.0) ∷ []) b0.0.1));
      fits = t0.1;
      rest_fits = t0.0.rest_fits;
    })

handed_takes : (v : Version) (octets : List ℕ) (x : Record × List ℕ) → AreOctets octets → handed v octets ≡ Ok x → Tells v 5 octets x.0 x.1
unfolding handed
handed_takes v octets x fits e =
    let b0 = bind_ok (name_in v any_kind octets) (λ name. sae name.1 >>= λ to. Ok (Handed name.0 to.0, to.1)) x e in
    let t0 = name_takes v octets b0.0 fits b0.1 in
    let b1 = bind_ok (sae b0.0.1) (λ to. Ok (Handed b0.0.0 to.0, to.1)) x b0.2 in
    let t1 = sae_takes b0.0.1 b1.0 t0.0.rest_fits b1.1 in
    let y : Record = Handed b0.0.0 b1.0.0 in
    let whole : octets ≡ ahead ((name_octets v b0.0.0) ∷ (short b1.0.0) ∷ []) b1.0.1 = t0.0.parts ∙ ap (λ (l : List ℕ). name_octets v b0.0.0 ++ l) (t1.0.parts) in
    subst (λ z. Tells v 5 octets z.0 z.1) (ok_is (y, b1.0.1) x b1.2) (record {
      is = ap (λ (l : List ℕ). 5 ∷ l) (whole ∙ sym (fields_then ((name_octets v b0.0.0) ∷ (short b1.0.0) ∷ []) b1.0.1));
      fits = (t0.1, t1.1);
      rest_fits = t1.0.rest_fits;
    })

closed_takes : (v : Version) (octets : List ℕ) (x : Record × List ℕ) → AreOctets octets → closed v octets ≡ Ok x → Tells v 6 octets x.0 x.1
unfolding closed
closed_takes v octets x fits e =
    let b0 = bind_ok (name_in v (of_kind StreamKind) octets) (λ stream. sae stream.1 >>= λ by. Ok (Closed stream.0 by.0, by.1)) x e in
    let t0 = stream_takes v octets b0.0 fits b0.1 in
    let b1 = bind_ok (sae b0.0.1) (λ by. Ok (Closed b0.0.0 by.0, by.1)) x b0.2 in
    let t1 = sae_takes b0.0.1 b1.0 t0.0.rest_fits b1.1 in
    let y : Record = Closed b0.0.0 b1.0.0 in
    let whole : octets ≡ ahead ((name_octets v b0.0.0) ∷ (short b1.0.0) ∷ []) b1.0.1 = t0.0.parts ∙ ap (λ (l : List ℕ). name_octets v b0.0.0 ++ l) (t1.0.parts) in
    subst (λ z. Tells v 6 octets z.0 z.1) (ok_is (y, b1.0.1) x b1.2) (record {
      is = ap (λ (l : List ℕ). 6 ∷ l) (whole ∙ sym (fields_then ((name_octets v b0.0.0) ∷ (short b1.0.0) ∷ []) b1.0.1));
      fits = (t0.1, t1.1);
      rest_fits = t1.0.rest_fits;
    })

learned_takes : (v : Version) (octets : List ℕ) (x : Record × List ℕ) → AreOctets octets → learned octets ≡ Ok x → Tells v 3 octets x.0 x.1
unfolding learned
learned_takes v octets x fits e =
    let b0 = bind_ok (within 0 65535 octets) (λ n. whole_fact n.0 n.1 >>= λ f. Ok (Learned f.0, f.1)) x e in
    let t0 = within_takes 0 65535 octets b0.0 fits b0.1 in
    let b1 = bind_ok (whole_fact b0.0.0 b0.0.1) (λ f. Ok (Learned f.0, f.1)) x b0.2 in
    let t1 = whole_takes b0.0.0 b0.0.1 b1.0 t0.0.rest_fits b1.1 in
    let f : Fact = b1.0.0 in
    let y : Record = Learned f in
    let whole : octets ≡ ahead (short (length (fact_octets f)) ∷ fact_octets f ∷ []) b1.0.1 =
    t0.0.parts ∙ ap (λ (l : List ℕ). short b0.0.0 ++ l) t1.0.parts ∙ ap (λ (k : ℕ). short k ++ (fact_octets f ++ b1.0.1)) (sym t1.1.1) in
    subst (λ z. Tells v 3 octets z.0 z.1) (ok_is (y, b1.0.1) x b1.2) (record {
      is = ap (λ (l : List ℕ). 3 ∷ l) (whole ∙ sym (fields_then (short (length (fact_octets f)) ∷ fact_octets f ∷ []) b1.0.1));
      fits = t1.1.0;
      rest_fits = t1.0.rest_fits;
    })

bare_record_takes : (v : Version) (octets : List ℕ) (x : Record × List ℕ) → AreOctets octets → bare octets ≡ Ok x → Tells v 7 octets x.0 x.1
unfolding bare
bare_record_takes v octets x fits e =
    let b0 = bind_ok (size octets) (λ n. bare_fact n.0 n.1 >>= λ f. Ok (Bare f.0, f.1)) x e in
    let t0 = size_takes octets b0.0 fits b0.1 in
    let b1 = bind_ok (bare_fact b0.0.0 b0.0.1) (λ f. Ok (Bare f.0, f.1)) x b0.2 in
    let t1 = bare_takes b0.0.0 t0.1 b0.0.1 b1.0 t0.0.rest_fits b1.1 in
    let f : Fact = b1.0.0 in
    let y : Record = Bare f in
    let whole : octets ≡ ahead (short (length (bytes_of f)) ∷ bare_octets f ∷ []) b1.0.1 =
    t0.0.parts ∙ ap (λ (l : List ℕ). short b0.0.0 ++ l) t1.0.parts ∙ ap (λ (k : ℕ). short k ++ (bare_octets f ++ b1.0.1)) (sym t1.1.size) in
    subst (λ z. Tells v 7 octets z.0 z.1) (ok_is (y, b1.0.1) x b1.2) (record {
      is = ap (λ (l : List ℕ). 7 ∷ l) (whole ∙ sym (fields_then (short (length (bytes_of f)) ∷ bare_octets f ∷ []) b1.0.1));
      fits = (t1.1.fact, t1.1.bare);
      rest_fits = t1.0.rest_fits;
    })

same_kind : (v : Version) (k kind : ℕ) (octets : List ℕ) (r : Record) (rest : List ℕ) → eqb kind k ≡ true → Tells v k octets r rest → Tells v kind octets r rest
same_kind v k kind octets r rest e t = record { is = ap (λ (m : ℕ). m ∷ octets) (eqb-true kind k e) ∙ t.is; fits = t.fits; rest_fits = t.rest_fits }

pub one_takes : (v : Version) (left kind : ℕ) (octets : List ℕ) (x : Record × List ℕ) → AreOctets octets → one_of v left kind octets ≡ Ok x → Tells v kind octets x.0 x.1
one_takes v left kind octets x fits e =
    let e7 = cond (eqb kind 7) (bare octets) (Err left) in
    let e6 = cond (eqb kind 6) (closed v octets) e7 in
    let e5 = cond (eqb kind 5) (handed v octets) e6 in
    let e4 = cond (eqb kind 4) (acked v octets) e5 in
    let e3 = cond (eqb kind 3) (learned octets) e4 in
    let e2 = cond (eqb kind 2) (lease octets) e3 in
    elim (chosen (eqb kind 1) (block octets) e2 (Ok x) e) [
      | inl h ↦ same_kind v 1 kind octets x.0 x.1 h.0 (block_takes v octets x fits h.1)
      | inr h ↦ elim (chosen (eqb kind 2) (lease octets) e3 (Ok x) h.1) [
        | inl h ↦ same_kind v 2 kind octets x.0 x.1 h.0 (lease_takes v octets x fits h.1)
        | inr h ↦ elim (chosen (eqb kind 3) (learned octets) e4 (Ok x) h.1) [
          | inl h ↦ same_kind v 3 kind octets x.0 x.1 h.0 (learned_takes v octets x fits h.1)
          | inr h ↦ elim (chosen (eqb kind 4) (acked v octets) e5 (Ok x) h.1) [
            | inl h ↦ same_kind v 4 kind octets x.0 x.1 h.0 (acked_takes v octets x fits h.1)
            | inr h ↦ elim (chosen (eqb kind 5) (handed v octets) e6 (Ok x) h.1) [
              | inl h ↦ same_kind v 5 kind octets x.0 x.1 h.0 (handed_takes v octets x fits h.1)
              | inr h ↦ elim (chosen (eqb kind 6) (closed v octets) e7 (Ok x) h.1) [
                | inl h ↦ same_kind v 6 kind octets x.0 x.1 h.0 (closed_takes v octets x fits h.1)
                | inr h ↦ elim (chosen (eqb kind 7) (bare octets) (Err left) (Ok x) h.1) [
                  | inl h ↦ same_kind v 7 kind octets x.0 x.1 h.0 (bare_record_takes v octets x fits h.1)
                  | inr h ↦ absurd (not_ok left x h.1)
                ]
              ]
            ]
          ]
        ]
      ]
    ]

-- ---- encoding, then decoding

fact_small : (f : Fact) → IsFact f → fact_len f ≤ 561
fact_small (Key name master slave nodes bytes) h = let n = nine_of nodes h.3.0 in omega (arith, n, h.4.0.1)
fact_small (Chunk name stream at nodes bytes) h = let n = nine_of nodes h.3.0 in omega (arith, n, h.4.0.1)
fact_small (Stored note about nodes) h = let n = nine_of nodes h.2.0 in omega (arith, n)
fact_small (Open stream source peer k nodes) h = let n = nine_of nodes h.4.0 in omega (arith, n)
fact_small (Joined note about nodes) h = let n = nine_of nodes h.2.0 in omega (arith, n)
fact_small (Part name key master slave nodes bytes) h = let n = nine_of nodes h.4.0 in omega (arith, n, h.5.0.1)

no_secret : {A : Type 0} → false ≡ true → A
no_secret e = absurd cc

bare_sized : (f : Fact) → IsFact f → is_secret f ≡ true → IsSize (length (bytes_of f))
bare_sized (Key name master slave nodes bytes) h secret = h.4.0
bare_sized (Chunk name stream at nodes bytes) h secret = h.4.0
bare_sized (Part name key master slave nodes bytes) h secret = h.5.0
bare_sized (Stored note about nodes) h secret = no_secret secret
bare_sized (Open stream source peer k nodes) h secret = no_secret secret
bare_sized (Joined note about nodes) h secret = no_secret secret

fact_fits : (f : Fact) → IsFact f → length (fact_octets f) ≤ 65535
fact_fits f h = omega (arith, fact_length f, fact_small f h)

pub one_again : (v : Version) (left : ℕ) (r : Record) (rest : List ℕ) → IsRecord r → one_of v left (record_kind r) (fields (record_fields v r) ++ rest) ≡ Ok (r, rest)
unfolding block lease learned acked handed closed bare
one_again v left (Block link number bytes) rest h =
    rw (fields_then ((link ∷ []) ∷ long number ∷ bytes ∷ []) rest, link_again link (long number ++ (bytes ++ rest)) h.0, index_again number (bytes ++ rest) h.1, plain_again 1024 bytes rest h.2) refl
one_again v left (Lease lane end) rest h =
    rw (fields_then ((lane.link ∷ []) ∷ (way_number lane.way ∷ []) ∷ to_be_bytes w64 end ∷ []) rest, link_again lane.link (way_number lane.way ∷ (to_be_bytes w64 end ++ rest)) h.0, way_again lane.way (to_be_bytes w64 end ++ rest), end_again end rest h.1) refl
one_again v left (Learned f) rest h =
    let n : ℕ = length (fact_octets f) in
    rw (fields_then (short n ∷ fact_octets f ∷ []) rest, within_again 0 65535 n (fact_octets f ++ rest) (omega (arith, fact_fits f h)) (omega arith) (fact_fits f h), whole_again f rest h) refl
one_again v left (Acked n) rest h = rw (name_again v n rest h) refl
one_again v left (Handed n to) rest h =
    rw (fields_then (name_octets v n ∷ short to ∷ []) rest, name_again v n (short to ++ rest) h.0, sae_again to rest h.1) refl
one_again v left (Closed n by) rest h =
    rw (fields_then (name_octets v n ∷ short by ∷ []) rest, stream_again v n (short by ++ rest) h.0, sae_again by rest h.1) refl
one_again v left (Bare f) rest h =
    let n : ℕ = length (bytes_of f) in
    rw (fields_then (short n ∷ bare_octets f ∷ []) rest, size_again n (bare_octets f ++ rest) (bare_sized f h.0 h.1.secret), bare_again f rest h.0 h.1) refl

-- ---- lengths

name_long : (v : Version) (n : Name) → length (name_octets v n) ≡ name_size v
name_long First n = refl
name_long Second n = refl

pub record_length : (v : Version) (r : Record) → length (record_octets v r) ≡ record_len (name_size v) r
record_length v (Block link number bytes) = omega arith
record_length v (Lease lane end) = omega arith
record_length v (Learned f) = omega (arith, fact_length f)
record_length v (Acked n) = omega (arith, name_long v n)
record_length v (Handed n to) = omega (arith, name_long v n, length-append (name_octets v n) (short to))
record_length v (Closed n by) = omega (arith, name_long v n, length-append (name_octets v n) (short by))
record_length v (Bare f) = omega (arith, bare_length f)
