-- Masked octets, and which lane bytes a frame depends on.
use Rattle.std.proofs.Common.{◌≡◌, ℕ, zero, suc, ◌+◌, ◌<◌, ◌≤◌, List, [], ◌∷◌, ◌++◌, length, take, drop, get_or, set, refl, sym, ap, ◌∙◌, append_assoc, length-append, arith}
use Rattle.std.specs.Prelude.{bit_xor}
use Rattle.std.proofs.lemmas.List.{take-take, length-take-le, take_all, take_at, drop_at, drop-take, take-append-le, drop-append-le, length-drop}
use Rattle.std.proofs.lemmas.Nat.{xor_comm}
use Rattle.std.specs.Int.{w64, to_be_bytes, from_be_bytes}
use Rattle.std.specs.Int.Bits.{xor_assoc, xor_self, xor_zero_r}
use Rattle.qkd_base.specs.declared.lane.Lane.{Lane}
use Rattle.wc_tags.specs.Tag.{tag}
use Rattle.hop_frames.specs.Frame.{header, masked, number_of, hash_key, text_of, framed, spell}

pub length-masked : (octets pads : List ℕ) → length (masked octets pads) ≡ length octets
length-masked [] pads = refl
length-masked (p ∷ ps) [] = ap suc (length-masked ps [])
length-masked (p ∷ ps) (l ∷ ls) = ap suc (length-masked ps ls)

-- Masking one more octet where it stands extends the masked ones by one.
pub mask_more : (octets pads : List ℕ) (i : ℕ) → i < length octets → i < length pads
    → set (masked (take i octets) pads ++ drop i octets) i (bit_xor (get_or (masked (take i octets) pads ++ drop i octets) i 0) (get_or pads i 0)) ≡ masked (take (suc i) octets) pads ++ drop (suc i) octets
mask_more [] pads i lt le = absurd (omega arith)
mask_more (p ∷ ps) [] i lt le = absurd (omega arith)
mask_more (p ∷ ps) (l ∷ ls) zero lt le = refl
mask_more (p ∷ ps) (l ∷ ls) (suc i) lt le = ap (λ (x : List ℕ). bit_xor p l ∷ x) (mask_more ps ls i (omega (arith, lt)) (omega (arith, le)))

-- Octets and as many pads mask each other alike.
pub masked_swap : (octets pads : List ℕ) → length octets ≡ length pads → masked octets pads ≡ masked pads octets
masked_swap [] [] same = refl
masked_swap [] (l ∷ ls) same = absurd (omega (arith, same))
masked_swap (p ∷ ps) [] same = absurd (omega (arith, same))
masked_swap (p ∷ ps) (l ∷ ls) same = rw (xor_comm p l) (ap (λ (x : List ℕ). bit_xor l p ∷ x) (masked_swap ps ls (omega (arith, same))))

-- The text of a frame whose header was written in front of a payload, and whose payload was then masked.
pub text_written : (into head body post pads : List ℕ) (size k : ℕ) → length head ≡ 16 → 16 + size ≤ length into → k ≡ size → body ≡ masked (take k (drop 16 (head ++ drop 16 into))) pads
    → take (16 + size) (take 16 (head ++ drop 16 into) ++ (body ++ post)) ≡ take 16 head ++ masked (take size (drop 16 into)) pads
text_written into head body post pads size k long room is masks =
    let behind : drop 16 (head ++ drop 16 into) ≡ drop 16 into = drop_at head (drop 16 into) 16 long in
    let front : take 16 (head ++ drop 16 into) ≡ head = take_at head (drop 16 into) 16 long in
    let whole : take 16 head ≡ head = take_all 16 head (omega (arith, long)) in
    let body_is : body ≡ masked (take size (drop 16 into)) pads = masks ∙ ap (λ (l : List ℕ). masked (take k l) pads) behind ∙ ap (λ (n : ℕ). masked (take n (drop 16 into)) pads) is in
    let few : length body ≡ size = ap length body_is ∙ length-masked (take size (drop 16 into)) pads ∙ length-take-le size (drop 16 into) (omega (arith, length-drop 16 into, room)) in
    let both : length (head ++ body) ≡ 16 + size = omega (arith, length-append head body, long, few) in
    ap (λ (l : List ℕ). take (16 + size) (l ++ (body ++ post))) front
    ∙ ap (take (16 + size)) (sym (append_assoc head body post))
    ∙ take_at (head ++ body) post (16 + size) both
    ∙ ap (λ (l : List ℕ). l ++ body) (sym whole)
    ∙ ap (λ (l : List ℕ). take 16 head ++ l) body_is

-- The payload that was written behind the room of a header.
pub payload_behind : (room old payload : List ℕ) (n : ℕ) → 16 ≤ length old → length payload ≡ n → take (16 + n) room ≡ take 16 old ++ payload → take n (drop 16 (take (24 + n) room)) ≡ payload
payload_behind room old payload n long size is =
    sym (drop-take 16 n (take (24 + n) room)) ∙ ap (drop 16) (take-take (16 + n) (24 + n) room (omega arith) ∙ is) ∙ drop_at (take 16 old) payload 16 (length-take-le 16 old long)

xor_twice : (a b : ℕ) → bit_xor (bit_xor a b) b ≡ a
xor_twice a b = xor_assoc a b b ∙ ap (bit_xor a) (xor_self b) ∙ xor_zero_r a

pub masked_twice : (octets pads : List ℕ) → masked (masked octets pads) pads ≡ octets
masked_twice [] pads = refl
masked_twice (p ∷ ps) [] = ap (λ (x : List ℕ). p ∷ x) (masked_twice ps [])
masked_twice (p ∷ ps) (l ∷ ls) = rw (xor_twice p l) (ap (λ (x : List ℕ). p ∷ x) (masked_twice ps ls))

-- ---- only the pads of the payload and of the tag count

masked_prefix : (octets pads : List ℕ) → masked octets pads ≡ masked octets (take (length octets) pads)
masked_prefix [] pads = refl
masked_prefix (p ∷ ps) [] = refl
masked_prefix (p ∷ ps) (l ∷ ls) = ap (λ (x : List ℕ). bit_xor p l ∷ x) (masked_prefix ps ls)

pub same_masked : (octets a b : List ℕ) (n : ℕ) → length octets ≤ n → take n a ≡ take n b → masked octets a ≡ masked octets b
same_masked octets a b n le e =
    let one : (l : List ℕ) → masked octets (take n l) ≡ masked octets l =
    λ l. masked_prefix octets (take n l) ∙ ap (masked octets) (take-take (length octets) n l le) ∙ sym (masked_prefix octets l) in
    sym (one a) ∙ ap (masked octets) e ∙ one b

pub same_number : (a b : List ℕ) (n : ℕ) → take (n + 8) a ≡ take (n + 8) b → number_of (drop n a) ≡ number_of (drop n b)
same_number a b n e = ap (from_be_bytes w64) (sym (drop-take n 8 a) ∙ ap (drop n) e ∙ drop-take n 8 b)

-- a frame from its authenticated text, the hash key and the tag's mask
abbrev with_tag : List ℕ → ℕ → ℕ → List ℕ
with_tag text key mask = text ++ to_be_bytes w64 (tag key text mask)

pub same_framed : (lane : Lane) (offset key : ℕ) (a b payload : List ℕ) → take (length payload + 8) a ≡ take (length payload + 8) b → framed lane offset key a payload ≡ framed lane offset key b payload
unfolding framed
same_framed lane offset key a b payload e =
    let text : text_of lane offset a payload ≡ text_of lane offset b payload = ap (λ (m : List ℕ). header lane offset (length payload) ++ m) (same_masked payload a b (length payload + 8) (omega arith) e) in
    ap (λ (t : List ℕ). with_tag t key (number_of (drop (length payload) a))) text ∙ ap (with_tag (text_of lane offset b payload) key) (same_number a b (length payload) e)

-- A frame that is sealed with the bytes of a range is the frame over the whole lane.
pub framed_of_range : (lane : Lane) (start key : ℕ) (pads bytes payload : List ℕ) (len : ℕ) → len ≡ length payload + 8 → key ≡ hash_key bytes → pads ≡ take len (drop start bytes) → framed lane start key pads payload ≡ spell lane start bytes payload
framed_of_range lane start key pads bytes payload len size is e =
    same_framed lane start key pads (drop start bytes) payload
    (ap (take (length payload + 8)) (e ∙ ap (λ (n : ℕ). take n (drop start bytes)) size) ∙ take-take (length payload + 8) (length payload + 8) (drop start bytes) (omega arith))
    ∙ ap (λ (k : ℕ). framed lane start k (drop start bytes) payload) is

-- More lane bytes behind those that a frame needs don't change the frame.
pub spell_prefix : (lane : Lane) (offset : ℕ) (bytes more payload : List ℕ) → offset + length payload + 8 ≤ length bytes → spell lane offset (bytes ++ more) payload ≡ spell lane offset bytes payload
spell_prefix lane offset bytes more payload le =
    let pads : take (length payload + 8) (drop offset (bytes ++ more)) ≡ take (length payload + 8) (drop offset bytes) =
    ap (take (length payload + 8)) (drop-append-le offset bytes more (omega (arith, le))) ∙ take-append-le (length payload + 8) (drop offset bytes) more (omega (arith, length-drop offset bytes, le)) in
    let key : hash_key (bytes ++ more) ≡ hash_key bytes = ap (from_be_bytes w64) (take-append-le 8 bytes more (omega (arith, le))) in
    same_framed lane offset (hash_key (bytes ++ more)) (drop offset (bytes ++ more)) (drop offset bytes) payload pads ∙ ap (λ (k : ℕ). framed lane offset k (drop offset bytes) payload) key

-- Pads that are a long enough prefix of other pads mask alike.
pub masked_part : (octets pads rest : List ℕ) (n : ℕ) → pads ≡ take n rest → length octets ≤ n → masked octets pads ≡ masked octets rest
masked_part octets pads rest n e le = same_masked octets pads rest n le (ap (take n) e ∙ take-take n n rest (omega arith))

-- A buffer into which the header, the masked payload and the tag were written has the frame.
pub frame_written : (lane : Lane) (offset key : ℕ) (pads payload one two three octets : List ℕ) (size mask sum : ℕ) → size ≡ length payload → take 16 one ≡ header lane offset size → take (16 + size) two ≡ take 16 one ++ masked payload pads
    → mask ≡ number_of (drop size pads) → sum ≡ tag key (take (16 + size) two) mask → octets ≡ to_be_bytes w64 sum → take (24 + size) three ≡ take (16 + size) two ++ octets → take (24 + length payload) three ≡ framed lane offset key pads payload
unfolding framed
frame_written lane offset key pads payload one two three octets size mask sum is first second mask_is sum_is octets_are third =
    let text : take (16 + size) two ≡ text_of lane offset pads payload = second ∙ ap (λ (l : List ℕ). l ++ masked payload pads) (first ∙ ap (header lane offset) is) in
    let number : mask ≡ number_of (drop (length payload) pads) = mask_is ∙ ap (λ (k : ℕ). number_of (drop k pads)) is in
    ap (λ (k : ℕ). take (24 + k) three) (sym is) ∙ third ∙ ap (λ (l : List ℕ). take (16 + size) two ++ l) (octets_are ∙ ap (to_be_bytes w64) sum_is)
    ∙ ap (λ (t : List ℕ). with_tag t key mask) text ∙ ap (with_tag (text_of lane offset pads payload) key) number
