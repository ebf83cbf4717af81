-- The text of a key's name is read as that name.
use Rattle.std.proofs.Common.{◌≡◌, ℕ, zero, suc, ◌%◌, ◌/◌, ◌<◌, Bool, true, false, ◌&&◌, List, [], ◌∷◌, length, Some, None, refl, sym, ◌∙◌, arith, inl}
use Rattle.std.specs.Prelude.{if◌then◌else◌}
use Rattle.std.specs.List.{list_all, All}
use Rattle.std.specs.Str.{bytes_eq}
use Rattle.std.proofs.lemmas.Slice.Eq.{bytes_eq-Decides}
use Rattle.std.proofs.lemmas.List.Folds.{list_all-append}
use Rattle.uuid.specs.Text.{parsed, lower, by_index, hex_digit, nibble, digit_place, is_hyphen_place, hyphen}
use Rattle.uuid.proofs.RoundTrips.{parses_hyphenated}
use Rattle.uuid.proofs.TextLemmas.{by_index_length}
use Rattle.qkd_base.specs.declared.key_name.NameKind.{NameKind}
use Rattle.qkd_base.specs.declared.key_name.NameKind.TheVariants.{Key, Stream, Note}
use Rattle.qkd_base.specs.Name.{Name, IsName, is_name, octets_of, kind_number, candidate, name_at}
use Rattle.qkd_base.proofs.Names.{candidate_back, is_name-true}
use Rattle.scenario_text.specs.Fields.{name_of}
use Rattle.scenario_format.proofs.Clean.{is_inner, is_clean, and_both}
use Rattle.scenario_format.specs.Spelling.{name_word}

-- ---- the octets of a name

kind_small : (k : NameKind) → kind_number k < 256
kind_small Key = omega arith
kind_small Stream = omega arith
kind_small Note = omega arith

same_bytes : (xs : List ℕ) → bytes_eq xs xs ≡ true
same_bytes xs = (bytes_eq-Decides xs xs).1 refl

guard : (x y : Bool) (n : Name) → x ≡ true → y ≡ true → (if x && y then Some n else None) ≡ Some n
guard x y n a b = rw (a, b) refl

by_parts : (c n : Name) (os : List ℕ) → c ≡ n → is_name n ≡ true → bytes_eq os (octets_of n) ≡ true → (if is_name c && bytes_eq os (octets_of c) then Some c else None) ≡ Some n
by_parts c n os e a b = rw e (guard (is_name n) (bytes_eq os (octets_of n)) n a b)

named : (n : Name) → IsName n → name_at (octets_of n) ≡ Some n
unfolding name_at
named n h = by_parts (candidate (octets_of n)) n (octets_of n) (candidate_back n h) (is_name-true n h) (same_bytes (octets_of n))

byte_rest : (n : ℕ) → n % 256 < 256
byte_rest n = omega arith

each_byte : (n : Name) → IsName n → All (λ b. b < 256) (octets_of n)
each_byte n h zero d lt = omega arith
each_byte n h (suc zero) d lt = omega arith
each_byte n h (suc (suc zero)) d lt = omega arith
each_byte n h (suc (suc (suc zero))) d lt = omega arith
each_byte n h (suc (suc (suc (suc zero)))) d lt = omega arith
each_byte n h (suc (suc (suc (suc (suc zero))))) d lt = omega arith
each_byte n h (suc (suc (suc (suc (suc (suc zero)))))) d lt = omega arith
each_byte n h (suc (suc (suc (suc (suc (suc (suc zero))))))) d lt = let a = h.node in omega arith
each_byte n h (suc (suc (suc (suc (suc (suc (suc (suc zero)))))))) d lt = omega arith
each_byte n h (suc (suc (suc (suc (suc (suc (suc (suc (suc zero))))))))) d lt = kind_small n.kind
each_byte n h (suc (suc (suc (suc (suc (suc (suc (suc (suc (suc zero)))))))))) d lt = byte_rest (n.count / 1099511627776)
each_byte n h (suc (suc (suc (suc (suc (suc (suc (suc (suc (suc (suc zero))))))))))) d lt = byte_rest (n.count / 4294967296)
each_byte n h (suc (suc (suc (suc (suc (suc (suc (suc (suc (suc (suc (suc zero)))))))))))) d lt = byte_rest (n.count / 16777216)
each_byte n h (suc (suc (suc (suc (suc (suc (suc (suc (suc (suc (suc (suc (suc zero))))))))))))) d lt = byte_rest (n.count / 65536)
each_byte n h (suc (suc (suc (suc (suc (suc (suc (suc (suc (suc (suc (suc (suc (suc zero)))))))))))))) d lt = byte_rest (n.count / 256)
each_byte n h (suc (suc (suc (suc (suc (suc (suc (suc (suc (suc (suc (suc (suc (suc (suc zero))))))))))))))) d lt = byte_rest n.count
each_byte n h (suc (suc (suc (suc (suc (suc (suc (suc (suc (suc (suc (suc (suc (suc (suc (suc k)))))))))))))))) d lt = absurd (omega arith)

pub name_is : (n : Name) → IsName n → name_of (name_word n) ≡ Some n
unfolding name_of
name_is n h =
    let read : parsed (name_word n) ≡ Some (octets_of n) = sym (parses_hyphenated lower (octets_of n) (inl refl) refl (each_byte n h)) in
    rw (read, named n h, same_bytes (name_word n)) refl

-- ---- the text of a name is one clean word

nibble_small : (xs : List ℕ) (k : ℕ) → nibble xs k < 16
nibble_small xs k = grind arith

digit_inner : (d : ℕ) → d < 16 → is_inner (hex_digit lower d) ≡ true
digit_inner d h = grind arith

place_inner : (b : Bool) (d : ℕ) → d < 16 → is_inner (if b then hyphen else hex_digit lower d) ≡ true
place_inner true d h = refl
place_inner false d h = digit_inner d h

all_by_index : (n : ℕ) (f : ℕ → ℕ) → ((k : ℕ) → is_inner (f k) ≡ true) → list_all is_inner (by_index n f) ≡ true
unfolding by_index
all_by_index zero f h = refl
all_by_index (suc n) f h = list_all-append is_inner (by_index n f) (f n ∷ []) ∙ and_both (list_all is_inner (by_index n f)) (is_inner (f n) && true) (all_by_index n f h) (and_both (is_inner (f n)) true (h n) refl)

clean_of : (w : List ℕ) → 0 < length w → list_all is_inner w ≡ true → is_clean w ≡ true
clean_of [] some h = absurd (omega arith)
clean_of (b ∷ bs) some h = h

pub name_clean : (n : Name) → is_clean (name_word n) ≡ true
name_clean n =
    clean_of (name_word n) (let e : length (name_word n) ≡ 36 = by_index_length 36 _ in omega arith)
    (all_by_index 36 _ (λ k. place_inner (is_hyphen_place k) (nibble (octets_of n) (digit_place k)) (nibble_small (octets_of n) (digit_place k))))
