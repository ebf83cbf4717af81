-- Spellings and frames are octets: each number in them is below 256.
use Rattle.std.proofs.Common.{◌≡◌, ℕ, zero, suc, ◌/◌, ◌^◌, ◌<◌, ◌≤◌, true, false, List, [], ◌∷◌, ◌++◌, length, drop, replicate, refl, ◌∙◌, arith}
use Rattle.std.specs.Prelude.{nat_lt, nat_le, ◌&&◌, bit_xor, Bool}
use Rattle.std.specs.Int.{w64, to_be_bytes, bytes_high_first, byte_at}
use Rattle.std.specs.List.{list_all}
use Rattle.std.proofs.lemmas.Bool.Decides.{nat_tests}
use Rattle.std.proofs.lemmas.List.Folds.{list_all-append}
use Rattle.std.proofs.lemmas.Nat.{xor_lt}
use Rattle.qkd_base.specs.Name.{Name, IsName, octets_of, kind_number}
use Rattle.qkd_base.specs.Route.{are_nodes, is_distinct}
use Rattle.qkd_base.specs.Lane.{way_number}
use Rattle.qkd_base.specs.declared.key_name.NameKind.{NameKind}
use Rattle.qkd_base.specs.declared.key_name.NameKind.TheVariants.{Key as KeyKind, Stream as StreamKind, Note as NoteKind}
use Rattle.qkd_base.specs.declared.lane.Way.{Way}
use Rattle.qkd_base.specs.declared.lane.Way.TheVariants.{Up, Down}
use Rattle.qkd_base.specs.declared.lane.Lane.{Lane}
use Rattle.net_model.specs.declared.fact.Fact.{Fact}
use Rattle.net_model.specs.declared.fact.Fact.TheVariants.{Key, Chunk, Stored, Open, Joined, Part}
use Rattle.net_model.specs.declared.payload.Payload.{Payload}
use Rattle.net_model.specs.declared.payload.Payload.TheVariants.{Data, Ack}
use Rattle.net_model.specs.Facts.{IsWellFormed}
use Rattle.net_model.specs.Ranges.{IsOctets, IsRoute, IsRangedFact, IsRanged}
use Rattle.frame_codec.specs.Payload.{IsPayload, AreOctets, spelled_route, fact_octets, payload_octets}
use Rattle.hop_frames.specs.Frame.{header, masked, number_of, hash_key, text_of, tag_octets, framed, spell}

both : (a b : Bool) → a ≡ true → b ≡ true → (a && b) ≡ true
both a b h k = rw (h, k) refl

left : (a b : Bool) → (a && b) ≡ true → a ≡ true
left true b h = refl
left false b h = cc

right : (a b : Bool) → (a && b) ≡ true → b ≡ true
right true b h = h
right false b h = cc

below : (n : ℕ) → n < 256 → nat_lt n 256 ≡ true
below n h = grind (arith, nat_tests)

-- The record names its list, so that a proof of it determines the list.
record Below (xs : List ℕ) : Type 0 where
  octets : IsOctets xs

cons : (x : ℕ) {xs : List ℕ} → x < 256 → Below xs → Below (x ∷ xs)
cons x {xs} h k = record { octets = both (nat_lt x 256) (list_all (λ b. nat_lt b 256) xs) (below x h) k.octets }

append : {xs ys : List ℕ} → Below xs → Below ys → Below (xs ++ ys)
append {xs} {ys} x y = record { octets = list_all-append (λ b. nat_lt b 256) xs ys ∙ both _ _ x.octets y.octets }

none : Below []
none = record { octets = refl }

first : (x : ℕ) (xs : List ℕ) → IsOctets (x ∷ xs) → x < 256
first x xs h = let e : nat_lt x 256 ≡ true = left (nat_lt x 256) (list_all (λ b. nat_lt b 256) xs) h in grind (arith, nat_tests)

others : (x : ℕ) (xs : List ℕ) → IsOctets (x ∷ xs) → IsOctets xs
others x xs h = right (nat_lt x 256) (list_all (λ b. nat_lt b 256) xs) h

dropped : (n : ℕ) (xs : List ℕ) → IsOctets xs → IsOctets (drop n xs)
dropped zero xs h = h
dropped (suc n) [] h = h
dropped (suc n) (x ∷ xs) h = dropped n xs (others x xs h)

-- ---- numbers

byte_below : (k n : ℕ) → byte_at k n < 256
byte_below zero n = omega arith
byte_below (suc k) n = let m : ℕ = n / 256 ^ suc k in omega arith

bytes_below : (k n : ℕ) → Below (bytes_high_first k n)
bytes_below zero n = none
bytes_below (suc k) n = cons (byte_at k n) (byte_below k n) (bytes_below k n)

-- ---- names and routes

kind_below : (k : NameKind) → kind_number k < 256
kind_below KeyKind = omega arith
kind_below StreamKind = omega arith
kind_below NoteKind = omega arith

name_below : (n : Name) → IsName n → Below (octets_of n)
name_below n h =
    let count : Below (drop 2 (to_be_bytes w64 n.count)) = record { octets = dropped 2 (to_be_bytes w64 n.count) (bytes_below 8 n.count).octets } in
    let prefix : Below (replicate 6 0) = record { octets = refl } in
    append prefix (cons 128 (omega arith) (cons n.node (omega (arith, h.node)) (cons 128 (omega arith) (cons (kind_number n.kind) (kind_below n.kind) count))))

nodes_below : (ns : List ℕ) → are_nodes ns ≡ true → Below ns
nodes_below [] h = none
nodes_below (n ∷ ns) h =
    let e : nat_lt n 16 ≡ true = left (nat_lt n 16) (list_all (λ x. nat_lt x 16) ns) h in
    let low : n < 16 = grind (arith, nat_tests) in
    cons n (omega (arith, low)) (nodes_below ns (right (nat_lt n 16) (list_all (λ x. nat_lt x 16) ns) h))

route_below : (ns : List ℕ) → IsRoute ns → Below (spelled_route ns)
route_below ns h =
    let e : nat_le (length ns) 9 ≡ true = right (nat_le 2 (length ns)) (nat_le (length ns) 9) (left (nat_le 2 (length ns) && nat_le (length ns) 9) (is_distinct ns) h.0) in
    let most : length ns ≤ 9 = grind (arith, nat_tests) in
    cons (length ns) (omega (arith, most)) (nodes_below ns h.1)

-- ---- payloads

secret : (xs : List ℕ) → IsOctets xs → Below xs
secret xs h = record { octets = h }

fact_below : (f : Fact) → IsRangedFact f → Below (fact_octets f)
fact_below (Key name master slave route bytes) h =
    cons 1 (omega arith) (append (name_below name h.0) (append (bytes_below 2 master) (append (bytes_below 2 slave) (append (bytes_below 2 (length bytes)) (append (route_below route h.3) (secret bytes h.4))))))
fact_below (Chunk name stream index route bytes) h =
    cons 6 (omega arith) (append (name_below name h.0) (append (name_below stream h.1) (append (bytes_below 4 index) (append (bytes_below 2 (length bytes)) (append (route_below route h.3) (secret bytes h.4))))))
fact_below (Stored note about route) h = cons 2 (omega arith) (append (name_below note h.0) (append (name_below about h.1) (route_below route h.2)))
fact_below (Open stream source peer size route) h =
    cons 4 (omega arith) (append (name_below stream h.0) (append (bytes_below 2 source) (append (bytes_below 2 peer) (append (bytes_below 2 size) (route_below route h.3)))))
fact_below (Joined note about route) h = cons 5 (omega arith) (append (name_below note h.0) (append (name_below about h.1) (route_below route h.2)))
fact_below (Part name key master slave route bytes) h =
    cons 7 (omega arith) (append (name_below name h.0) (append (name_below key h.1) (append (bytes_below 2 master) (append (bytes_below 2 slave) (append (bytes_below 2 (length bytes)) (append (route_below route h.4) (secret bytes h.5)))))))

payload_below : (p : Payload) → IsRanged p → Below (payload_octets p)
unfolding payload_octets
payload_below (Data f) h = fact_below f h
payload_below (Ack n) h = cons 3 (omega arith) (name_below n h)

-- ---- a well-formed payload with all numbers in range has a spelling

are_octets : (xs : List ℕ) → IsOctets xs → AreOctets xs
are_octets [] h zero = omega arith
are_octets [] h (suc i) = omega arith
are_octets (x ∷ xs) h zero = first x xs h
are_octets (x ∷ xs) h (suc i) = are_octets xs (others x xs h) i

pub payload_is : (p : Payload) → IsWellFormed p → IsRanged p → IsPayload p
payload_is (Data (Key name master slave route bytes)) f r = ((r.0, f.0), r.1, r.2, r.3, (f.1, are_octets bytes r.4))
payload_is (Data (Chunk name stream index route bytes)) f r = ((r.0, f.0), (r.1, f.1), r.2, r.3, (f.2, are_octets bytes r.4))
payload_is (Data (Stored note about route)) f r = ((r.0, f.0), (r.1, f.1), r.2)
payload_is (Data (Open stream source peer size route)) f r = ((r.0, f.0), r.1, r.2, f.1, r.3)
payload_is (Data (Joined note about route)) f r = ((r.0, f.0), (r.1, f.1), r.2)
payload_is (Data (Part name key master slave route bytes)) f r = ((r.0, f.0), (r.1, f.1), r.2, r.3, r.4, (f.2, are_octets bytes r.5))
payload_is (Ack n) f r = r

-- ---- frames

masked_below : (octets pads : List ℕ) → IsOctets octets → IsOctets pads → Below (masked octets pads)
masked_below [] pads h k = none
masked_below (p ∷ ps) [] h k = cons p (first p ps h) (masked_below ps [] (others p ps h) refl)
masked_below (p ∷ ps) (l ∷ ls) h k = cons (bit_xor p l) (xor_lt 8 p l (first p ps h) (first l ls k)) (masked_below ps ls (others p ps h) (others l ls k))

way_number_below : (d : Way) → way_number d < 256
way_number_below Up = omega arith
way_number_below Down = omega arith

header_below : (lane : Lane) (offset size : ℕ) → lane.link < 32 → Below (header lane offset size)
header_below lane offset size h =
    cons 1 (omega arith) (cons lane.link (omega (arith, h)) (cons (way_number lane.way) (way_number_below lane.way) (cons 0 (omega arith)
    (append (bytes_below 2 size) (cons 0 (omega arith) (cons 0 (omega arith) (bytes_below 8 offset)))))))

pub frame_below : (lane : Lane) (bytes : List ℕ) (offset : ℕ) (p : Payload) → lane.link < 32 → IsOctets bytes → IsRanged p → IsOctets (spell lane offset bytes (payload_octets p))
unfolding framed
frame_below lane bytes offset p link h r =
    let octets : List ℕ = payload_octets p in
    let text : Below (text_of lane offset (drop offset bytes) octets) =
    append (header_below lane offset (length octets) link) (masked_below octets (drop offset bytes) (payload_below p r).octets (dropped offset bytes h)) in
    let end : Below (tag_octets (hash_key bytes) (text_of lane offset (drop offset bytes) octets) (number_of (drop (length octets) (drop offset bytes)))) = bytes_below 8 _ in
    (append text end).octets
