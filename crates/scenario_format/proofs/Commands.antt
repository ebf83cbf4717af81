-- The words that spell a command are clean, and the reader gets the same command from them.
use Rattle.std.proofs.Common.{◌++◌, ◌∙◌, sym, append-nil, append_assoc, ◌≡◌, ℕ, zero, suc, ◌%◌, ◌^◌, ◌≤◌, ◌<◌, Bool, true, false, ◌&&◌, List, [], ◌∷◌, length, get_or, ◌/◌, Some, refl, ap, arith}
use Rattle.std.specs.Prelude.{nat_le, slice_index, map}
use Rattle.std.specs.List.{list_all}
use Rattle.std.specs.Str.{bytes_eq}
use Rattle.std.proofs.lemmas.Slice.Eq.{bytes_eq-Decides}
use Rattle.uuid.proofs.TextLemmas.{by_index_length}
use Rattle.std.specs.Fmt.{decimal}
use Rattle.hex.specs.Hex.{encode_lower, encode_with, lower_digits}
use Rattle.hex.proofs.HexLemmas.{decode_of-encode_lower, length-encode_with}
use lib.Chars.{codes}
use Rattle.qkd_base.specs.declared.lane.Way.{Way}
use Rattle.qkd_base.specs.declared.lane.Way.TheVariants.{Up, Down}
use Rattle.qkd_base.specs.declared.lane.Lane.{Lane}
use Rattle.qkd_base.specs.Name.{Name, IsName}
use Rattle.declared_site.specs.declared.site.Site.{Site}
use Rattle.run_types.specs.declared.end.Ends.{Ends}
use Rattle.run_types.specs.declared.end.Ends.TheVariants.{Low, High, Both}
use Rattle.run_types.specs.declared.image.Image.{Image}
use Rattle.run_types.specs.declared.image.Image.TheVariants.{Lost, Kept, Torn}
use Rattle.run_types.specs.declared.stream_call.StreamCall.{StreamCall}
use Rattle.run_types.specs.declared.stream_call.StreamCall.TheVariants as calls
use Rattle.run_types.specs.declared.command.Command.{Command}
use Rattle.run_types.specs.declared.command.Command.TheVariants as commands
use Rattle.scenario_text.specs.Words.{Word, is_name, is_name_octet}
use Rattle.scenario_text.specs.Fields.{way_of, lane_of, stream_of, size_of, ends_named, image_named, octets_of_hex}
use Rattle.scenario_text.specs.Commanding.{names_of, few_names_of, bits_at, fill_at, feed_at, tick_at, settle_at, pass_at, flip_at, forge_at, crash_at, start_at, cut_at, fail_at, link_up_at, link_down_at, enc_at, dec_at, status_at, http_at, show_at, ledger_at, slaves_after, group_of, fill_group_at, enc_group_at}
use Rattle.scenario_text.specs.Calling.{stream_at, call_at, open_at, get_at, close_at}
use Rattle.scenario_text.specs.Line.{command_at, further_command_at}
use Rattle.scenario_format.specs.Spelling.{keyword, arguments, call_words, node_word, sae_word, way_word, ends_word, image_word, name_word}
use Rattle.scenario_format.specs.Readable.{HasNode, HasSae, HasLink, IsKeySize, IsWithin, IsStream, AreNames, AreOctets, AreOthers, IsGroup, CanCall, CanSay}
use Rattle.scenario_format.proofs.Clean.{is_inner, is_clean, are_clean, and_left, and_right, and_both}
use Rattle.scenario_format.proofs.Numerals.{number_is, number_in_is, number_clean}
use Rattle.scenario_format.proofs.Names.{name_is, name_clean}

-- ---- single words

way_is : (w : Way) → way_of (way_word w) ≡ Some w
way_is Up = refl
way_is Down = refl

way_clean : (w : Way) → is_clean (way_word w) ≡ true
way_clean Up = refl
way_clean Down = refl

ends_is : (e : Ends) → ends_named (ends_word e) ≡ Some e
ends_is Low = refl
ends_is High = refl
ends_is Both = refl

ends_clean : (e : Ends) → is_clean (ends_word e) ≡ true
ends_clean Low = refl
ends_clean High = refl
ends_clean Both = refl

image_is : (i : Image) → image_named (image_word i) ≡ Some i
image_is Lost = refl
image_is Kept = refl
image_is Torn = refl

image_clean : (i : Image) → is_clean (image_word i) ≡ true
image_clean Lost = refl
image_clean Kept = refl
image_clean Torn = refl

pub size_is : (bits : ℕ) → IsKeySize bits → size_of (decimal bits) ≡ Some bits
unfolding size_of
size_is bits h = rw (number_in_is 64 4096 bits h.0 h.1 (omega arith), h.2) refl

stream_is : (n : Name) → IsStream n → stream_of (name_word n) ≡ Some n
unfolding stream_of
stream_is n h = rw (name_is n h.0, h.1) refl

inner_octet : (b : ℕ) → is_name_octet b ≡ true → is_inner b ≡ true
inner_octet b h = grind arith

inner_name : (w : Word) → list_all is_name_octet w ≡ true → list_all is_inner w ≡ true
inner_name [] h = refl
inner_name (b ∷ bs) h = and_both (is_inner b) (list_all is_inner bs) (inner_octet b (and_left (is_name_octet b) (list_all is_name_octet bs) h)) (inner_name bs (and_right (is_name_octet b) (list_all is_name_octet bs) h))

clean_by : (w : Word) → 1 ≤ length w → list_all is_inner w ≡ true → is_clean w ≡ true
clean_by [] some h = absurd (omega arith)
clean_by (b ∷ bs) some h = h

clean_name : (most : ℕ) (w : Word) → 1 ≤ length w → is_name most w ≡ true → is_clean w ≡ true
unfolding is_name
clean_name most w some h = clean_by w some (inner_name w (and_right (nat_le (length w) most) (list_all is_name_octet w) h))

node_clean : (site : Site) (v : ℕ) → HasNode site v → is_clean (node_word site v) ≡ true
node_clean site v h = clean_name 32 (node_word site v) h.some h.name

sae_clean : (site : Site) (n : ℕ) → HasSae site n → is_clean (sae_word site n) ≡ true
sae_clean site n h = clean_name 64 (sae_word site n) h.some h.name

digits_clean : (n : ℕ) → n < 2 ^ 32 → is_clean (decimal n) ≡ true
digits_clean n h = number_clean n (omega arith)

table_inner : (k : ℕ) → k < 16 → is_inner (slice_index lower_digits k) ≡ true
table_inner zero h = refl
table_inner (suc zero) h = refl
table_inner (suc (suc zero)) h = refl
table_inner (suc (suc (suc zero))) h = refl
table_inner (suc (suc (suc (suc zero)))) h = refl
table_inner (suc (suc (suc (suc (suc zero))))) h = refl
table_inner (suc (suc (suc (suc (suc (suc zero)))))) h = refl
table_inner (suc (suc (suc (suc (suc (suc (suc zero))))))) h = refl
table_inner (suc (suc (suc (suc (suc (suc (suc (suc zero)))))))) h = refl
table_inner (suc (suc (suc (suc (suc (suc (suc (suc (suc zero))))))))) h = refl
table_inner (suc (suc (suc (suc (suc (suc (suc (suc (suc (suc zero)))))))))) h = refl
table_inner (suc (suc (suc (suc (suc (suc (suc (suc (suc (suc (suc zero))))))))))) h = refl
table_inner (suc (suc (suc (suc (suc (suc (suc (suc (suc (suc (suc (suc zero)))))))))))) h = refl
table_inner (suc (suc (suc (suc (suc (suc (suc (suc (suc (suc (suc (suc (suc zero))))))))))))) h = refl
table_inner (suc (suc (suc (suc (suc (suc (suc (suc (suc (suc (suc (suc (suc (suc zero)))))))))))))) h = refl
table_inner (suc (suc (suc (suc (suc (suc (suc (suc (suc (suc (suc (suc (suc (suc (suc zero))))))))))))))) h = refl
table_inner (suc (suc (suc (suc (suc (suc (suc (suc (suc (suc (suc (suc (suc (suc (suc (suc k)))))))))))))))) h = absurd (omega arith)

high_digit : (b : ℕ) → b < 256 → b / 16 < 16
high_digit b h = omega arith

low_digit : (b : ℕ) → b % 16 < 16
low_digit b = omega arith

hex_inner : (bs : List ℕ) → ((i : ℕ) → get_or bs i 0 < 256) → list_all is_inner (encode_with lower_digits bs) ≡ true
unfolding encode_with
hex_inner [] h = refl
hex_inner (b ∷ bs) h =
    and_both (is_inner (slice_index lower_digits (b / 16))) (is_inner (slice_index lower_digits (b % 16)) && list_all is_inner (encode_with lower_digits bs)) (table_inner (b / 16) (high_digit b (h 0)))
    (and_both (is_inner (slice_index lower_digits (b % 16))) (list_all is_inner (encode_with lower_digits bs)) (table_inner (b % 16) (low_digit b)) (hex_inner bs (λ i. h (suc i))))

hex_clean : (most : ℕ) (bs : List ℕ) → AreOctets most bs → is_clean (encode_lower bs) ≡ true
hex_clean most bs h = clean_by (encode_lower bs) (let e = length-encode_with lower_digits bs in let k = h.1 in omega arith) (hex_inner bs h.0)

within_test : (least most n : ℕ) → IsWithin least most n → (nat_le least n && nat_le n most) ≡ true
within_test least most n h = let a = h.0 in let b = h.1 in grind arith

hex_is : (most : ℕ) (bs : List ℕ) → AreOctets most bs → octets_of_hex most (encode_lower bs) ≡ Some bs
unfolding octets_of_hex
hex_is most bs h = rw (decode_of-encode_lower bs h.0, within_test 1 most (length bs) (h.1, h.2)) refl

lane_is : (site : Site) (l : Lane) → HasLink site l.link → lane_of site (decimal l.link) (way_word l.way) ≡ Some l
unfolding lane_of
lane_is site l h = rw (h.read, way_is l.way) refl

link_clean : (site : Site) (l : ℕ) → HasLink site l → is_clean (decimal l) ≡ true
link_clean site l h = let s = h.small in digits_clean l (omega arith)

-- ---- names of keys

names_are : (ns : List Name) → AreNames ns → names_of (map name_word ns) ≡ Some ns
names_are [] h = refl
names_are (n ∷ ns) h = rw (name_is n h.0, names_are ns h.1) refl

names_clean : (ns : List Name) → are_clean (map name_word ns) ≡ true
names_clean [] = refl
names_clean (n ∷ ns) = and_both (is_clean (name_word n)) (are_clean (map name_word ns)) (name_clean n) (names_clean ns)

names_many : (ns : List Name) → length (map name_word ns) ≡ length ns
names_many [] = refl
names_many (n ∷ ns) = ap suc (names_many ns)

few_names_are : (ns : List Name) → AreNames ns → IsWithin 1 128 (length ns) → few_names_of (map name_word ns) ≡ Some ns
unfolding few_names_of
few_names_are ns h k = rw (names_many ns, within_test 1 128 (length ns) k) (names_are ns h)

-- ---- commands with applications, sizes and counts

two_clean : (a b : Word) → is_clean a ≡ true → is_clean b ≡ true → are_clean (a ∷ b ∷ []) ≡ true
two_clean a b h g = rw (h, g) refl

three_clean : (a b c : Word) → is_clean a ≡ true → is_clean b ≡ true → is_clean c ≡ true → are_clean (a ∷ b ∷ c ∷ []) ≡ true
three_clean a b c h g f = rw (h, g, f) refl

four_clean : (a b c d : Word) → is_clean a ≡ true → is_clean b ≡ true → is_clean c ≡ true → is_clean d ≡ true → are_clean (a ∷ b ∷ c ∷ d ∷ []) ≡ true
four_clean a b c d h g f e = rw (h, g, f, e) refl

five_clean : (a b c d e : Word) → is_clean a ≡ true → is_clean b ≡ true → is_clean c ≡ true → is_clean d ≡ true → is_clean e ≡ true → are_clean (a ∷ b ∷ c ∷ d ∷ e ∷ []) ≡ true
five_clean a b c d e h g f i j = rw (h, g, f, i, j) refl

one_clean : (a : Word) → is_clean a ≡ true → are_clean (a ∷ []) ≡ true
one_clean a h = rw h refl

pub bits_is : (site : Site) (link count : ℕ) (ends : Ends) → HasLink site link → IsWithin 1 1024 count → command_at site (codes "bits") (decimal link ∷ ends_word ends ∷ decimal count ∷ []) ≡ Some (commands.Bits link ends count)
unfolding command_at bits_at
bits_is site link count ends l n = rw (l.read, ends_is ends, number_in_is 1 1024 count n.0 n.1 (omega arith)) refl

pub fill_is : (site : Site) (master slave bits count : ℕ) → HasSae site master → HasSae site slave → IsKeySize bits → IsWithin 1 128 count →
    command_at site (codes "fill") (sae_word site master ∷ sae_word site slave ∷ decimal bits ∷ decimal count ∷ []) ≡ Some (commands.Fill master slave bits count)
unfolding command_at fill_at
fill_is site master slave bits count m s b n = rw (m.read, s.read, size_is bits b, number_in_is 1 128 count n.0 n.1 (omega arith)) refl

pub settle_is : (site : Site) (rounds : ℕ) → IsWithin 1 1000 rounds → command_at site (codes "settle") (decimal rounds ∷ []) ≡ Some (commands.Settle rounds)
unfolding command_at settle_at
settle_is site rounds n = rw (number_in_is 1 1000 rounds n.0 n.1 (omega arith)) refl

pub enc_is : (site : Site) (node master slave count bits : ℕ) → HasNode site node → HasSae site master → HasSae site slave → IsWithin 1 128 count → IsKeySize bits →
    command_at site (codes "enc") (node_word site node ∷ sae_word site master ∷ sae_word site slave ∷ decimal count ∷ decimal bits ∷ []) ≡ Some (commands.Enc node master slave count bits)
unfolding command_at further_command_at enc_at
enc_is site node master slave count bits v m s n b = rw (v.read, m.read, s.read, number_in_is 1 128 count n.0 n.1 (omega arith), size_is bits b) refl

pub dec_is : (site : Site) (node slave master : ℕ) (names : List Name) → HasNode site node → HasSae site slave → HasSae site master → AreNames names → IsWithin 1 128 (length names) →
    command_at site (codes "dec") (node_word site node ∷ sae_word site slave ∷ sae_word site master ∷ map name_word names) ≡ Some (commands.Dec node slave master names)
unfolding command_at further_command_at dec_at
dec_is site node slave master names v s m ns n = rw (v.read, s.read, m.read, few_names_are names ns n) refl

pub ledger_is : (site : Site) (l : Lane) → HasLink site l.link → command_at site (codes "ledger") (decimal l.link ∷ way_word l.way ∷ []) ≡ Some (commands.Ledger l)
unfolding command_at further_command_at ledger_at
ledger_is site l h = rw (lane_is site l h) refl

-- ---- the other commands, and calls of streams

below : (n m : ℕ) → n < m → nat_le m n ≡ false
below n m h = grind arith

feed_is : (site : Site) (n : Name) (count : ℕ) → IsName n → IsWithin 1 128 count → n.node < length site.nodes → command_at site (codes "feed") (name_word n ∷ decimal count ∷ []) ≡ Some (commands.Feed n count)
unfolding command_at feed_at
feed_is site n count h k lt = rw (name_is n h, number_in_is 1 128 count k.0 k.1 (omega arith), below n.node (length site.nodes) lt) refl

tick_is : (site : Site) (v : ℕ) → HasNode site v → command_at site (codes "tick") (node_word site v ∷ []) ≡ Some (commands.Tick v)
unfolding command_at tick_at
tick_is site v h = rw h.read refl

pass_is : (site : Site) (l : Lane) (n : ℕ) → HasLink site l.link → n < 2 ^ 32 → command_at site (codes "pass") (decimal l.link ∷ way_word l.way ∷ decimal n ∷ []) ≡ Some (commands.Pass l n)
unfolding command_at pass_at
pass_is site l n h k = rw (lane_is site l h, number_is n k) refl

flip_is : (site : Site) (l : Lane) (n bit : ℕ) → HasLink site l.link → n < 2 ^ 32 → bit < 2 ^ 32 → command_at site (codes "flip") (decimal l.link ∷ way_word l.way ∷ decimal n ∷ decimal bit ∷ []) ≡ Some (commands.Flip l n bit)
unfolding command_at flip_at
flip_is site l n bit h k b = rw (lane_is site l h, number_is n k, number_is bit b) refl

forge_is : (site : Site) (l : Lane) (octets : List ℕ) → HasLink site l.link → AreOctets 600 octets → command_at site (codes "forge") (decimal l.link ∷ way_word l.way ∷ encode_lower octets ∷ []) ≡ Some (commands.Forge l octets)
unfolding command_at forge_at
forge_is site l octets h k = rw (lane_is site l h, hex_is 600 octets k) refl

crash_is : (site : Site) (v : ℕ) → HasNode site v → command_at site (codes "crash") (node_word site v ∷ []) ≡ Some (commands.Crash v)
unfolding command_at crash_at
crash_is site v h = rw h.read refl

start_is : (site : Site) (v : ℕ) → HasNode site v → command_at site (codes "start") (node_word site v ∷ []) ≡ Some (commands.Start v)
unfolding command_at start_at
start_is site v h = rw h.read refl

cut_is : (site : Site) (v call : ℕ) (image : Image) → HasNode site v → IsWithin 1 1000000 call → command_at site (codes "cut") (node_word site v ∷ decimal call ∷ image_word image ∷ []) ≡ Some (commands.Cut v call image)
unfolding command_at cut_at
cut_is site v call image h k = rw (h.read, number_in_is 1 1000000 call k.0 k.1 (omega arith), image_is image) refl

fail_is : (site : Site) (v call : ℕ) → HasNode site v → IsWithin 1 1000000 call → command_at site (codes "fail") (node_word site v ∷ decimal call ∷ []) ≡ Some (commands.Fail v call)
unfolding command_at fail_at
fail_is site v call h k = rw (h.read, number_in_is 1 1000000 call k.0 k.1 (omega arith)) refl

link_up_is : (site : Site) (l : ℕ) → HasLink site l → command_at site (codes "link-up") (decimal l ∷ []) ≡ Some (commands.LinkUp l)
unfolding command_at further_command_at link_up_at
link_up_is site l h = rw h.read refl

link_down_is : (site : Site) (l : ℕ) → HasLink site l → command_at site (codes "link-down") (decimal l ∷ []) ≡ Some (commands.LinkDown l)
unfolding command_at further_command_at link_down_at
link_down_is site l h = rw h.read refl

status_is : (site : Site) (v master slave : ℕ) → HasNode site v → HasSae site master → HasSae site slave →
    command_at site (codes "status") (node_word site v ∷ sae_word site master ∷ sae_word site slave ∷ []) ≡ Some (commands.Status v master slave)
unfolding command_at further_command_at status_at
status_is site v master slave h m s = rw (h.read, m.read, s.read) refl

http_is : (site : Site) (v : ℕ) (octets : List ℕ) → HasNode site v → AreOctets 73728 octets → command_at site (codes "http") (node_word site v ∷ encode_lower octets ∷ []) ≡ Some (commands.Http v octets)
unfolding command_at further_command_at http_at
http_is site v octets h k = rw (h.read, hex_is 73728 octets k) refl

show_is : (site : Site) (v : ℕ) (n : Name) → HasNode site v → IsName n → command_at site (codes "show") (node_word site v ∷ name_word n ∷ []) ≡ Some (commands.Show v n)
unfolding command_at further_command_at show_at
show_is site v n h k = rw (h.read, name_is n k) refl

open_is : (site : Site) (v source peer bits : ℕ) → HasNode site v → HasSae site source → HasSae site peer → bits ≤ 65535 →
    command_at site (codes "q004") (node_word site v ∷ codes "OPEN_CONNECT" ∷ sae_word site source ∷ sae_word site peer ∷ codes "-" ∷ decimal bits ∷ []) ≡ Some (commands.Stream v (calls.Open source peer bits))
unfolding command_at further_command_at stream_at call_at open_at
open_is site v source peer bits h s p b = rw (h.read, s.read, p.read, number_in_is 0 65535 bits (omega arith) b (omega arith)) refl

get_is : (site : Site) (v caller index : ℕ) (n : Name) → HasNode site v → HasSae site caller → IsStream n → index < 2 ^ 32 →
    command_at site (codes "q004") (node_word site v ∷ codes "GET_KEY" ∷ sae_word site caller ∷ name_word n ∷ decimal index ∷ []) ≡ Some (commands.Stream v (calls.Get caller n index))
unfolding command_at further_command_at stream_at call_at get_at
get_is site v caller index n h c k i = rw (h.read, c.read, stream_is n k, number_is index i) refl

close_is : (site : Site) (v caller : ℕ) (n : Name) → HasNode site v → HasSae site caller → IsStream n →
    command_at site (codes "q004") (node_word site v ∷ codes "CLOSE" ∷ sae_word site caller ∷ name_word n ∷ []) ≡ Some (commands.Stream v (calls.Close caller n))
unfolding command_at further_command_at stream_at call_at close_at
close_is site v caller n h c k = rw (h.read, c.read, stream_is n k) refl

-- The text of a name has at least two octets, so it is no hyphen.
longer : (b : Bool) (w : Word) → (b ≡ true → w ≡ codes "-") → 2 ≤ length w → b ≡ false
longer true w same h = let e : length w ≡ 1 = ap length (same refl) in absurd (omega arith)
longer false w same h = refl

no_hyphen : (n : Name) → bytes_eq (name_word n) (codes "-") ≡ false
no_hyphen n = longer (bytes_eq (name_word n) (codes "-")) (name_word n) (bytes_eq-Decides (name_word n) (codes "-")).0 (let e : length (name_word n) ≡ 36 = by_index_length 36 _ in omega arith)

join_is : (site : Site) (v caller source bits : ℕ) (n : Name) → HasNode site v → HasSae site caller → HasSae site source → IsStream n → bits ≤ 65535 →
    command_at site (codes "q004") (node_word site v ∷ codes "OPEN_CONNECT" ∷ sae_word site caller ∷ sae_word site source ∷ name_word n ∷ decimal bits ∷ []) ≡ Some (commands.Stream v (calls.Join caller source n bits))
unfolding command_at further_command_at stream_at call_at open_at
join_is site v caller source bits n h c s k b = rw (h.read, c.read, s.read, number_in_is 0 65535 bits (omega arith) b (omega arith), no_hyphen n, stream_is n k) refl

call_is : (site : Site) (v : ℕ) (call : StreamCall) → HasNode site v → CanCall site call → command_at site (codes "q004") (node_word site v ∷ call_words site call) ≡ Some (commands.Stream v call)
call_is site v (calls.Open source peer bits) h k = open_is site v source peer bits h k.0 k.1 k.2
call_is site v (calls.Join caller source stream bits) h k = join_is site v caller source bits stream h k.0 k.1 k.2 k.3
call_is site v (calls.Get caller stream index) h k = get_is site v caller index stream h k.0 k.1 k.2
call_is site v (calls.Close caller stream) h k = close_is site v caller stream h k.0 k.1

call_clean : (site : Site) (call : StreamCall) → CanCall site call → are_clean (call_words site call) ≡ true
call_clean site (calls.Open source peer bits) k = five_clean (codes "OPEN_CONNECT") (sae_word site source) (sae_word site peer) (codes "-") (decimal bits) refl (sae_clean site source k.0) (sae_clean site peer k.1) refl (let b = k.2 in digits_clean bits (omega arith))
call_clean site (calls.Join caller source stream bits) k =
    five_clean (codes "OPEN_CONNECT") (sae_word site caller) (sae_word site source) (name_word stream) (decimal bits) refl (sae_clean site caller k.0) (sae_clean site source k.1) (name_clean stream) (let b = k.3 in digits_clean bits (omega arith))
call_clean site (calls.Get caller stream index) k = four_clean (codes "GET_KEY") (sae_word site caller) (name_word stream) (decimal index) refl (sae_clean site caller k.0) (name_clean stream) (digits_clean index k.2)
call_clean site (calls.Close caller stream) k = three_clean (codes "CLOSE") (sae_word site caller) (name_word stream) refl (sae_clean site caller k.0) (name_clean stream)

-- ---- commands of group keys

slaves_are : (site : Site) (before slaves : List ℕ) → AreOthers site before slaves → slaves_after site before (map (sae_word site) slaves) ≡ Some (before ++ slaves)
slaves_are site before [] h = ap Some (sym (append-nil before))
slaves_are site before (s ∷ ss) h = rw (h.0.read, h.1) (slaves_are site (before ++ s ∷ []) ss h.2 ∙ ap Some (append_assoc before (s ∷ []) ss))

slaves_many : (site : Site) (slaves : List ℕ) → length (map (sae_word site) slaves) ≡ length slaves
slaves_many site [] = refl
slaves_many site (s ∷ ss) = ap suc (slaves_many site ss)

slaves_clean : (site : Site) (before slaves : List ℕ) → AreOthers site before slaves → are_clean (map (sae_word site) slaves) ≡ true
slaves_clean site before [] h = refl
slaves_clean site before (s ∷ ss) h = and_both (is_clean (sae_word site s)) (are_clean (map (sae_word site) ss)) (sae_clean site s h.0) (slaves_clean site (before ++ s ∷ []) ss h.2)

group_is : (site : Site) (slaves : List ℕ) → IsGroup site slaves → group_of site (map (sae_word site) slaves) ≡ Some slaves
unfolding group_of
group_is site slaves h = rw (slaves_many site slaves, within_test 2 5 (length slaves) h.1) (slaves_are site [] slaves h.0)

fill_group_is : (site : Site) (master bits count : ℕ) (slaves : List ℕ) → HasSae site master → IsKeySize bits → IsWithin 1 128 count → IsGroup site slaves →
    command_at site (codes "fill-group") (sae_word site master ∷ decimal bits ∷ decimal count ∷ map (sae_word site) slaves) ≡ Some (commands.FillGroup master bits count slaves)
unfolding command_at further_command_at fill_group_at
fill_group_is site master bits count slaves m b n g = rw (m.read, size_is bits b, number_in_is 1 128 count n.0 n.1 (omega arith), group_is site slaves g) refl

enc_group_is : (site : Site) (node master count bits : ℕ) (slaves : List ℕ) → HasNode site node → HasSae site master → IsWithin 1 128 count → IsKeySize bits → IsGroup site slaves →
    command_at site (codes "enc-group") (node_word site node ∷ sae_word site master ∷ decimal count ∷ decimal bits ∷ map (sae_word site) slaves) ≡ Some (commands.EncGroup node master count bits slaves)
unfolding command_at further_command_at enc_group_at
enc_group_is site node master count bits slaves v m n b g = rw (v.read, m.read, number_in_is 1 128 count n.0 n.1 (omega arith), size_is bits b, group_is site slaves g) refl

small : (least most n : ℕ) → IsWithin least most n → most < 2 ^ 32 → n < 2 ^ 32
small least most n h k = let b = h.1 in omega arith

size_clean : (bits : ℕ) → IsKeySize bits → is_clean (decimal bits) ≡ true
size_clean bits h = let b = h.1 in digits_clean bits (omega arith)

count_clean : (least most n : ℕ) → IsWithin least most n → most < 2 ^ 32 → is_clean (decimal n) ≡ true
count_clean least most n h k = digits_clean n (small least most n h k)

pub reads_back : (site : Site) (c : Command) → CanSay site c → command_at site (keyword c) (arguments site c) ≡ Some c
reads_back site (commands.Bits link ends count) h = bits_is site link count ends h.0 h.1
reads_back site (commands.Fill master slave bits count) h = fill_is site master slave bits count h.0 h.1 h.2 h.3
reads_back site (commands.Feed stream count) h = feed_is site stream count h.0 h.1 h.2
reads_back site (commands.Tick node) h = tick_is site node h
reads_back site (commands.Settle rounds) h = settle_is site rounds h
reads_back site (commands.Pass lane number) h = pass_is site lane number h.0 h.1
reads_back site (commands.Flip lane number bit) h = flip_is site lane number bit h.0 h.1 h.2
reads_back site (commands.Forge lane octets) h = forge_is site lane octets h.0 h.1
reads_back site (commands.Crash node) h = crash_is site node h
reads_back site (commands.Start node) h = start_is site node h
reads_back site (commands.Cut node call image) h = cut_is site node call image h.0 h.1
reads_back site (commands.Fail node call) h = fail_is site node call h.0 h.1
reads_back site (commands.LinkUp link) h = link_up_is site link h
reads_back site (commands.LinkDown link) h = link_down_is site link h
reads_back site (commands.Enc node master slave count bits) h = enc_is site node master slave count bits h.0 h.1 h.2 h.3 h.4
reads_back site (commands.Dec node slave master names) h = dec_is site node slave master names h.0 h.1 h.2 h.3 h.4
reads_back site (commands.Status node master slave) h = status_is site node master slave h.0 h.1 h.2
reads_back site (commands.Http node octets) h = http_is site node octets h.0 h.1
reads_back site (commands.Stream node call) h = call_is site node call h.0 h.1
reads_back site (commands.Show node name) h = show_is site node name h.0 h.1
reads_back site (commands.Ledger lane) h = ledger_is site lane h
reads_back site (commands.FillGroup master bits count slaves) h = fill_group_is site master bits count slaves h.0 h.1 h.2 h.3
reads_back site (commands.EncGroup node master count bits slaves) h = enc_group_is site node master count bits slaves h.0 h.1 h.2 h.3 h.4

pub words_clean : (site : Site) (c : Command) → CanSay site c → are_clean (arguments site c) ≡ true
words_clean site (commands.Bits link ends count) h = three_clean (decimal link) (ends_word ends) (decimal count) (link_clean site link h.0) (ends_clean ends) (count_clean 1 1024 count h.1 (omega arith))
words_clean site (commands.Fill master slave bits count) h = four_clean (sae_word site master) (sae_word site slave) (decimal bits) (decimal count) (sae_clean site master h.0) (sae_clean site slave h.1) (size_clean bits h.2) (count_clean 1 128 count h.3 (omega arith))
words_clean site (commands.Feed stream count) h = two_clean (name_word stream) (decimal count) (name_clean stream) (count_clean 1 128 count h.1 (omega arith))
words_clean site (commands.Tick node) h = one_clean (node_word site node) (node_clean site node h)
words_clean site (commands.Settle rounds) h = one_clean (decimal rounds) (count_clean 1 1000 rounds h (omega arith))
words_clean site (commands.Pass lane number) h = three_clean (decimal lane.link) (way_word lane.way) (decimal number) (link_clean site lane.link h.0) (way_clean lane.way) (digits_clean number h.1)
words_clean site (commands.Flip lane number bit) h = four_clean (decimal lane.link) (way_word lane.way) (decimal number) (decimal bit) (link_clean site lane.link h.0) (way_clean lane.way) (digits_clean number h.1) (digits_clean bit h.2)
words_clean site (commands.Forge lane octets) h = three_clean (decimal lane.link) (way_word lane.way) (encode_lower octets) (link_clean site lane.link h.0) (way_clean lane.way) (hex_clean 600 octets h.1)
words_clean site (commands.Crash node) h = one_clean (node_word site node) (node_clean site node h)
words_clean site (commands.Start node) h = one_clean (node_word site node) (node_clean site node h)
words_clean site (commands.Cut node call image) h = three_clean (node_word site node) (decimal call) (image_word image) (node_clean site node h.0) (count_clean 1 1000000 call h.1 (omega arith)) (image_clean image)
words_clean site (commands.Fail node call) h = two_clean (node_word site node) (decimal call) (node_clean site node h.0) (count_clean 1 1000000 call h.1 (omega arith))
words_clean site (commands.LinkUp link) h = one_clean (decimal link) (link_clean site link h)
words_clean site (commands.LinkDown link) h = one_clean (decimal link) (link_clean site link h)
words_clean site (commands.Enc node master slave count bits) h =
    five_clean (node_word site node) (sae_word site master) (sae_word site slave) (decimal count) (decimal bits) (node_clean site node h.0) (sae_clean site master h.1) (sae_clean site slave h.2) (count_clean 1 128 count h.3 (omega arith)) (size_clean bits h.4)
words_clean site (commands.Dec node slave master names) h = rw (node_clean site node h.0, sae_clean site slave h.1, sae_clean site master h.2) (names_clean names)
words_clean site (commands.Status node master slave) h = three_clean (node_word site node) (sae_word site master) (sae_word site slave) (node_clean site node h.0) (sae_clean site master h.1) (sae_clean site slave h.2)
words_clean site (commands.Http node octets) h = two_clean (node_word site node) (encode_lower octets) (node_clean site node h.0) (hex_clean 73728 octets h.1)
words_clean site (commands.Stream node call) h = rw (node_clean site node h.0) (call_clean site call h.1)
words_clean site (commands.Show node name) h = two_clean (node_word site node) (name_word name) (node_clean site node h.0) (name_clean name)
words_clean site (commands.Ledger lane) h = two_clean (decimal lane.link) (way_word lane.way) (link_clean site lane.link h) (way_clean lane.way)
words_clean site (commands.FillGroup master bits count slaves) h = rw (sae_clean site master h.0, size_clean bits h.1, count_clean 1 128 count h.2 (omega arith)) (slaves_clean site [] slaves h.3.0)
words_clean site (commands.EncGroup node master count bits slaves) h = rw (node_clean site node h.0, sae_clean site master h.1, count_clean 1 128 count h.2 (omega arith), size_clean bits h.3) (slaves_clean site [] slaves h.4.0)
