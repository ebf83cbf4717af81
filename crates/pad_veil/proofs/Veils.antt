-- Exchanging payloads in a lane leaves the other bytes as they are, and leaves the frames as they are.
use Rattle.std.proofs.Common.{◌≡◌, ℕ, zero, suc, ◌+◌, ◌-◌, ◌<◌, ◌≤◌, ◌⊎◌, inl, inr, ⊎_elim, false, List, [], ◌∷◌, ◌++◌, length, take, drop, get_or, set, refl, sym, ap, ◌∙◌, arith, length-append, length-drop}
use Rattle.std.specs.Prelude.{bit_xor, nat_lt}
use Rattle.std.specs.List.{All}
use Rattle.std.specs.Int.{w64, from_be_bytes}
use Rattle.std.specs.Int.Bits.{xor_assoc, xor_self, xor_zero_r}
use Rattle.std.proofs.lemmas.Nat.{xor_comm}
use Rattle.std.proofs.lemmas.Bool.{and_cases, cases_lt, ltb-false}
use Rattle.std.proofs.lemmas.List.{take_at, drop_at, take-take, drop-drop, drop-take, length-take-le, get_or-drop, get_or-take, ext_get_or}
use Rattle.std.proofs.lemmas.List.Elements.{All-nil, All-cons, All-head, All-tail, All-weaker}
use Rattle.qkd_base.specs.declared.lane.Lane.{Lane}
use Rattle.hop_frames.specs.Frame.{header, masked, number_of, hash_key, text_of, tag_octets, framed, spell}
use Rattle.hop_frames.proofs.Masks.{length-masked, same_framed}
use Rattle.pad_veil.specs.declared.sealed_frame.SealedFrame.{SealedFrame}
use Rattle.pad_veil.specs.Faults.{end_of, meet, LieApart}
use Rattle.pad_veil.specs.Veil.{relaid, exchanged, veil, pads_of, IsVeil, Fits}

-- ---- octets xored onto bytes

pub masked_none : (bytes : List ℕ) → masked bytes [] ≡ bytes
masked_none [] = refl
masked_none (b ∷ bs) = ap (λ (l : List ℕ). b ∷ l) (masked_none bs)

-- One more octet is xored onto its byte.
pub masked_more : (bytes octets : List ℕ) (i : ℕ) → i < length octets → i < length bytes
    → set (masked bytes (take i octets)) i (bit_xor (get_or (masked bytes (take i octets)) i 0) (get_or octets i 0)) ≡ masked bytes (take (suc i) octets)
masked_more [] octets i lt le = absurd (omega arith)
masked_more (b ∷ bs) [] i lt le = absurd (omega arith)
masked_more (b ∷ bs) (o ∷ os) zero lt le = ap (λ (l : List ℕ). bit_xor b o ∷ l) (masked_none bs ∙ sym (masked_none bs))
masked_more (b ∷ bs) (o ∷ os) (suc i) lt le = ap (λ (l : List ℕ). bit_xor b o ∷ l) (masked_more bs os i (omega (arith, lt)) (omega (arith, le)))

drop-masked : (bytes octets : List ℕ) (n : ℕ) → length octets ≤ n → drop n (masked bytes octets) ≡ drop n bytes
drop-masked [] octets n le = refl
drop-masked (b ∷ bs) [] n le = ap (λ (l : List ℕ). drop n (b ∷ l)) (masked_none bs)
drop-masked (b ∷ bs) (o ∷ os) zero le = absurd (omega arith)
drop-masked (b ∷ bs) (o ∷ os) (suc n) le = drop-masked bs os n (omega (arith, le))

take-masked : (n : ℕ) (bytes octets : List ℕ) → take n (masked bytes octets) ≡ masked (take n bytes) octets
take-masked zero bytes octets = refl
take-masked (suc n) [] octets = refl
take-masked (suc n) (b ∷ bs) [] = ap (λ (l : List ℕ). b ∷ l) (take-masked n bs [])
take-masked (suc n) (b ∷ bs) (o ∷ os) = ap (λ (l : List ℕ). bit_xor b o ∷ l) (take-masked n bs os)

refit_one : (o n p : ℕ) → bit_xor o p ≡ bit_xor n (bit_xor (bit_xor p o) n)
refit_one o n p = sym (xor_comm n (bit_xor (bit_xor p o) n) ∙ xor_assoc (bit_xor p o) n n ∙ ap (bit_xor (bit_xor p o)) (xor_self n) ∙ xor_zero_r (bit_xor p o) ∙ xor_comm p o)

-- The new payload, masked by the exchanged bytes, is the old payload masked by the old bytes.
refit : (old new pads : List ℕ) → length old ≡ length new → length old ≤ length pads → masked old pads ≡ masked new (masked (masked pads old) new)
refit [] [] pads e le = refl
refit [] (n ∷ ns) pads e le = absurd (omega arith)
refit (o ∷ os) [] pads e le = absurd (omega arith)
refit (o ∷ os) (n ∷ ns) [] e le = absurd (omega arith)
refit (o ∷ os) (n ∷ ns) (p ∷ ps) e le =
    let one = refit_one o n p in
    let rest = refit os ns ps (omega (arith, e)) (omega (arith, le)) in
    cc

-- ---- the bytes of one payload exchanged

record Room (f : SealedFrame) (bytes : List ℕ) : Type 0 where
  equal : length f.old ≡ length f.new
  low : 8 ≤ f.offset
  high : end_of f ≤ length bytes

exchanged_before : (f : SealedFrame) (bytes : List ℕ) → Room f bytes → take f.offset (exchanged f bytes) ≡ take f.offset bytes
exchanged_before f bytes r = take_at (take f.offset bytes) (relaid f (drop f.offset bytes)) f.offset (length-take-le f.offset bytes (omega (arith, r.high)))

exchanged_from : (f : SealedFrame) (bytes : List ℕ) → Room f bytes → drop f.offset (exchanged f bytes) ≡ relaid f (drop f.offset bytes)
exchanged_from f bytes r = drop_at (take f.offset bytes) (relaid f (drop f.offset bytes)) f.offset (length-take-le f.offset bytes (omega (arith, r.high)))

drop-relaid : (f : SealedFrame) (pads : List ℕ) (n : ℕ) → length f.old ≡ length f.new → length f.old ≤ n → drop n (relaid f pads) ≡ drop n pads
drop-relaid f pads n e le = drop-masked (masked pads f.old) f.new n (omega (arith, e, le)) ∙ drop-masked pads f.old n le

exchanged_after : (f : SealedFrame) (bytes : List ℕ) (n : ℕ) → Room f bytes → f.offset + length f.old ≤ n → drop n (exchanged f bytes) ≡ drop n bytes
exchanged_after f bytes n r le =
    let m : ℕ = n - f.offset in
    let is : n ≡ f.offset + m = omega (arith, le) in
    rw is (sym (drop-drop m f.offset (exchanged f bytes)) ∙ ap (drop m) (exchanged_from f bytes r) ∙ drop-relaid f (drop f.offset bytes) m r.equal (omega (arith, le)) ∙ drop-drop m f.offset bytes)

pub length-exchanged : (f : SealedFrame) (bytes : List ℕ) → f.offset ≤ length bytes → length (exchanged f bytes) ≡ length bytes
length-exchanged f bytes le =
    omega (arith, length-append (take f.offset bytes) (relaid f (drop f.offset bytes)), length-masked (masked (drop f.offset bytes) f.old) f.new, length-masked (drop f.offset bytes) f.old, length-take-le f.offset bytes le, length-drop f.offset bytes)

-- The `size` bytes from `at` on lie before the bytes of the frame's payload or behind them.
abbrev Beside : ℕ → ℕ → SealedFrame → Type 0
Beside at size f = (at + size ≤ f.offset) ⊎ (f.offset + length f.old ≤ at)

front_stays : (xs ys : List ℕ) (at size n : ℕ) → at + size ≤ n → take n xs ≡ take n ys → take size (drop at xs) ≡ take size (drop at ys)
front_stays xs ys at size n le e =
    sym (drop-take at size xs) ∙ ap (drop at) (sym (take-take (at + size) n xs le) ∙ ap (take (at + size)) e ∙ take-take (at + size) n ys le) ∙ drop-take at size ys

part_stays : (f : SealedFrame) (bytes : List ℕ) (at size : ℕ) → Room f bytes → Beside at size f → take size (drop at (exchanged f bytes)) ≡ take size (drop at bytes)
part_stays f bytes at size r b =
    ⊎_elim (λ le. front_stays (exchanged f bytes) bytes at size f.offset le (exchanged_before f bytes r)) (λ le. ap (take size) (exchanged_after f bytes at r le)) b

pads_relaid : (f : SealedFrame) (bytes : List ℕ) → Room f bytes → pads_of f (exchanged f bytes) ≡ relaid f (pads_of f bytes)
pads_relaid f bytes r =
    ap (take (length f.old)) (exchanged_from f bytes r) ∙ take-masked (length f.old) (masked (drop f.offset bytes) f.old) f.new
    ∙ ap (λ (l : List ℕ). masked l f.new) (take-masked (length f.old) (drop f.offset bytes) f.old)

-- ---- a frame over an exchanged payload

-- If the hash key and the bytes of a frame stay, the frame stays.
same_spell : (lane : Lane) (offset : ℕ) (a b payload : List ℕ) → take 8 (drop 0 a) ≡ take 8 (drop 0 b) → take (length payload + 8) (drop offset a) ≡ take (length payload + 8) (drop offset b) → spell lane offset a payload ≡ spell lane offset b payload
same_spell lane offset a b payload key pads =
    ap (λ (l : List ℕ). framed lane offset (from_be_bytes w64 l) (drop offset a) payload) key ∙ same_framed lane offset (hash_key b) (drop offset a) (drop offset b) payload pads

-- If the masked payload and the mask of the tag stay, the frame stays.
same_masks : (lane : Lane) (offset key : ℕ) (a b old new : List ℕ) → length old ≡ length new → masked old a ≡ masked new b → drop (length old) a ≡ drop (length new) b → framed lane offset key a old ≡ framed lane offset key b new
unfolding framed
same_masks lane offset key a b old new e m d =
    let text : text_of lane offset a old ≡ text_of lane offset b new =
    ap (λ (n : ℕ). header lane offset n ++ masked old a) e ∙ ap (λ (l : List ℕ). header lane offset (length new) ++ l) m in
    ap (λ (t : List ℕ). t ++ tag_octets key t (number_of (drop (length old) a))) text ∙ ap (λ (l : List ℕ). text_of lane offset b new ++ tag_octets key (text_of lane offset b new) (number_of l)) d

fits_itself : (f : SealedFrame) (bytes : List ℕ) → Room f bytes → Fits bytes (exchanged f bytes) f
fits_itself f bytes r lane =
    let pads : List ℕ = drop f.offset bytes in
    let key : take 8 (drop 0 (exchanged f bytes)) ≡ take 8 (drop 0 bytes) = part_stays f bytes 0 8 r (inl (omega (arith, r.low))) in
    same_masks lane f.offset (hash_key bytes) pads (relaid f pads) f.old f.new r.equal (refit f.old f.new pads r.equal (omega (arith, length-drop f.offset bytes, r.high)))
    (ap (λ (n : ℕ). drop n pads) r.equal ∙ sym (drop-relaid f pads (length f.new) r.equal (omega (arith, r.equal))))
    ∙ ap (λ (l : List ℕ). framed lane f.offset (hash_key bytes) l f.new) (sym (exchanged_from f bytes r))
    ∙ ap (λ (l : List ℕ). framed lane f.offset (from_be_bytes w64 l) (drop f.offset (exchanged f bytes)) f.new) (sym key)

-- ---- the bytes of all payloads exchanged

apart_cases : (f g : SealedFrame) → meet f g ≡ false → (end_of f ≤ g.offset) ⊎ (end_of g ≤ f.offset)
apart_cases f g h =
    ⊎_elim (λ e. inr (ltb-false f.offset (end_of g) e)) (λ e. inl (ltb-false g.offset (end_of f) e)) (and_cases (nat_lt f.offset (end_of g)) (nat_lt g.offset (end_of f)) h)

-- If two frames don't overlap, the bytes that one spends lie beside the payload bytes of the other.
beside_met : (f g : SealedFrame) (at size : ℕ) → f.offset ≡ at → size ≤ length f.old + 8 → meet f g ≡ false → Beside at size g
beside_met f g at size e le h = ⊎_elim (λ k. inl (omega (arith, e, le, k))) (λ k. inr (omega (arith, e, k))) (apart_cases f g h)

beside_other : (f g : SealedFrame) (at size : ℕ) → f.offset ≡ at → size ≤ length f.old + 8 → meet g f ≡ false → Beside at size g
beside_other f g at size e le h = ⊎_elim (λ k. inr (omega (arith, e, k))) (λ k. inl (omega (arith, e, le, k))) (apart_cases g f h)

first_room : (f : SealedFrame) (fs : List SealedFrame) (bytes : List ℕ) → LieApart (length bytes) (f ∷ fs) → Room f bytes
first_room f fs bytes h = record {
  equal = All-head (λ (g : SealedFrame). length g.old ≡ length g.new) f fs h.equal;
  low = All-head (λ (g : SealedFrame). 8 ≤ g.offset) f fs h.low;
  high = All-head (λ (g : SealedFrame). end_of g ≤ length bytes) f fs h.high;
}

pub rest_apart : (size : ℕ) (f : SealedFrame) (fs : List SealedFrame) → LieApart size (f ∷ fs) → LieApart size fs
rest_apart size f fs h = record {
  equal = All-tail (λ (g : SealedFrame). length g.old ≡ length g.new) f fs h.equal;
  low = All-tail (λ (g : SealedFrame). 8 ≤ g.offset) f fs h.low;
  high = All-tail (λ (g : SealedFrame). end_of g ≤ size) f fs h.high;
  apart = λ i j d lt le. h.apart (suc i) (suc j) d (omega (arith, lt)) (omega (arith, le));
}

others_apart : (size : ℕ) (f : SealedFrame) (fs : List SealedFrame) → LieApart size (f ∷ fs) → All (λ g. meet g f ≡ false) fs
others_apart size f fs h k d le = h.apart 0 (suc k) d (omega arith) (omega (arith, le))

step_apart : (f : SealedFrame) (fs : List SealedFrame) (bytes : List ℕ) → LieApart (length bytes) (f ∷ fs) → LieApart (length (exchanged f bytes)) fs
step_apart f fs bytes h =
    let r = first_room f fs bytes h in
    rw (length-exchanged f bytes (omega (arith, r.high))) (rest_apart (length bytes) f fs h)

pub length-veil : (bytes : List ℕ) (frames : List SealedFrame) → LieApart (length bytes) frames → length (veil bytes frames) ≡ length bytes
length-veil bytes [] h = refl
length-veil bytes (f ∷ fs) h =
    let r = first_room f fs bytes h in
    length-veil (exchanged f bytes) fs (step_apart f fs bytes h) ∙ length-exchanged f bytes (omega (arith, r.high))

veil_stays : (bytes : List ℕ) (frames : List SealedFrame) (at size : ℕ) → LieApart (length bytes) frames → All (Beside at size) frames → take size (drop at (veil bytes frames)) ≡ take size (drop at bytes)
veil_stays bytes [] at size h b = refl
veil_stays bytes (f ∷ fs) at size h b =
    veil_stays (exchanged f bytes) fs at size (step_apart f fs bytes h) (All-tail (Beside at size) f fs b) ∙ part_stays f bytes at size (first_room f fs bytes h) (All-head (Beside at size) f fs b)

pub all_fit : (bytes : List ℕ) (frames : List SealedFrame) → LieApart (length bytes) frames → All (Fits bytes (veil bytes frames)) frames
all_fit bytes [] h = All-nil (Fits bytes bytes)
all_fit bytes (f ∷ fs) h =
    let r = first_room f fs bytes h in
    let after : List ℕ = exchanged f bytes in
    let end : List ℕ = veil after fs in
    let later = step_apart f fs bytes h in
    let others = others_apart (length bytes) f fs h in
    let key : (g : SealedFrame) → 8 ≤ g.offset → Beside 0 8 g = λ g le. inl (omega (arith, le)) in
    let keys : take 8 (drop 0 end) ≡ take 8 (drop 0 after) = veil_stays after fs 0 8 later (All-weaker (λ (g : SealedFrame). 8 ≤ g.offset) (Beside 0 8) key fs later.low) in
    let pads : take (length f.new + 8) (drop f.offset end) ≡ take (length f.new + 8) (drop f.offset after) =
    veil_stays after fs f.offset (length f.new + 8) later (λ k d le. beside_other f (get_or fs k d) f.offset (length f.new + 8) refl (omega (arith, r.equal)) (others k d le)) in
    All-cons (Fits bytes end) f fs
    (λ lane. fits_itself f bytes r lane ∙ sym (same_spell lane f.offset end after f.new keys pads))
    (λ k d le lane.
    let g : SealedFrame = get_or fs k d in
    sym (same_spell lane g.offset after bytes g.old (part_stays f bytes 0 8 r (key f r.low)) (part_stays f bytes g.offset (length g.old + 8) r (beside_met g f g.offset (length g.old + 8) refl (omega arith) (others k d le))))
    ∙ all_fit after fs later k d le lane)

-- ---- the bytes of a veil

all_relaid : (bytes : List ℕ) (frames : List SealedFrame) → LieApart (length bytes) frames → All (λ f. pads_of f (veil bytes frames) ≡ relaid f (pads_of f bytes)) frames
all_relaid bytes [] h = All-nil (λ (f : SealedFrame). pads_of f bytes ≡ relaid f (pads_of f bytes))
all_relaid bytes (f ∷ fs) h =
    let r = first_room f fs bytes h in
    let after : List ℕ = exchanged f bytes in
    let later = step_apart f fs bytes h in
    let others = others_apart (length bytes) f fs h in
    All-cons (λ (g : SealedFrame). pads_of g (veil after fs) ≡ relaid g (pads_of g bytes)) f fs
    (veil_stays after fs f.offset (length f.old) later (λ k d le. beside_other f (get_or fs k d) f.offset (length f.old) refl (omega arith) (others k d le)) ∙ pads_relaid f bytes r)
    (λ k d le.
    let g : SealedFrame = get_or fs k d in
    all_relaid after fs later k d le ∙ ap (relaid g) (part_stays f bytes g.offset (length g.old) r (beside_met g f g.offset (length g.old) refl (omega arith) (others k d le))))

byte_of : (xs : List ℕ) (x : ℕ) → get_or xs x 0 ≡ get_or (take 1 (drop x xs)) 0 0
byte_of xs x =
    let here : x ≡ x + 0 = omega arith in
    ap (λ (n : ℕ). get_or xs n 0) here ∙ sym (get_or-drop x xs 0 0) ∙ sym (get_or-take 1 (drop x xs) 0 0 (omega arith))

pub is_veil : (bytes : List ℕ) (frames : List SealedFrame) → LieApart (length bytes) frames → IsVeil bytes frames (veil bytes frames)
is_veil bytes frames h = record {
  payloads = all_relaid bytes frames h;
  others = λ x b.
      byte_of (veil bytes frames) x
      ∙ ap (λ (l : List ℕ). get_or l 0 0)
      (veil_stays bytes frames x 1 h (λ k d le. ⊎_elim (λ lt. inl (omega (arith, lt))) (λ past. inr past) (b k d le)))
      ∙ sym (byte_of bytes x);
  len = length-veil bytes frames h;
}

-- ---- only one list of bytes is a veil

abbrev Out : ℕ → SealedFrame → Type 0
Out x f = (x < f.offset) ⊎ (f.offset + length f.old ≤ x)

byte_at_pad : (f : SealedFrame) (xs : List ℕ) (x : ℕ) → f.offset ≤ x → x < f.offset + length f.old → get_or xs x 0 ≡ get_or (pads_of f xs) (x - f.offset) 0
byte_at_pad f xs x low high =
    let k : ℕ = x - f.offset in
    let is : x ≡ f.offset + k = omega (arith, low) in
    ap (λ (n : ℕ). get_or xs n 0) is ∙ sym (get_or-drop f.offset xs k 0) ∙ sym (get_or-take (length f.old) (drop f.offset xs) k 0 (omega (arith, low, high)))

same_byte : (x : ℕ) (v w : List ℕ) (frames : List SealedFrame) → All (λ f. pads_of f v ≡ pads_of f w) frames → (All (Out x) frames → get_or v x 0 ≡ get_or w x 0) → get_or v x 0 ≡ get_or w x 0
same_byte x v w [] same h = h (All-nil (Out x))
same_byte x v w (f ∷ fs) same h =
    let rest : Out x f → get_or v x 0 ≡ get_or w x 0 =
    λ out. same_byte x v w fs (All-tail (λ (g : SealedFrame). pads_of g v ≡ pads_of g w) f fs same) (λ all. h (All-cons (Out x) f fs out all)) in
    ⊎_elim (λ before. rest (inl before))
    (λ low. ⊎_elim
    (λ high. byte_at_pad f v x low high ∙ ap (λ (l : List ℕ). get_or l (x - f.offset) 0) (All-head (λ (g : SealedFrame). pads_of g v ≡ pads_of g w) f fs same) ∙ sym (byte_at_pad f w x low high))
    (λ past. rest (inr past)) (cases_lt x (f.offset + length f.old)))
    (cases_lt x f.offset)

pub one_veil : (bytes : List ℕ) (frames : List SealedFrame) (v w : List ℕ) → IsVeil bytes frames v → IsVeil bytes frames w → v ≡ w
one_veil bytes frames v w a b =
    ext_get_or 0 v w (a.len ∙ sym b.len)
    (λ x lt. same_byte x v w frames (λ k d le. a.payloads k d le ∙ sym (b.payloads k d le)) (λ out. a.others x out ∙ sym (b.others x out)))
