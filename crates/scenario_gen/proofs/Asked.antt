-- The commands of the generated load can be written for its ring of eight nodes.
use Rattle.std.proofs.Common.{◌≡◌, ℕ, zero, suc, ◌+◌, ◌*◌, ◌^◌, ◌≤◌, ◌<◌, true, ◌||◌, eqb, List, [], ◌∷◌, ◌++◌, length, Some, refl, sym, ◌∙◌, arith, length-append, subst, lit≤}
use Rattle.std.specs.Prelude.{map, is_some}
use Rattle.std.specs.List.{flat_map}
use Rattle.std.specs.Fmt.{decimal, digits}
use Rattle.std.proofs.lemmas.Fmt.{length-decimal-le}
use Rattle.std.proofs.lemmas.List.Sums.{count_by-le-length}
use Rattle.std.proofs.lemmas.Grind.{flat_map-append}
use Rattle.uuid.proofs.TextLemmas.{by_index_length}
use Rattle.qkd_base.specs.declared.lane.Way.{Way}
use Rattle.qkd_base.specs.declared.lane.Way.TheVariants.{Up, Down}
use Rattle.qkd_base.specs.declared.key_name.NameKind.TheVariants.{Key}
use Rattle.qkd_base.specs.Name.{Name, IsName}
use Rattle.net_model.specs.Site.{lane_of, count_up}
use Rattle.route_table.specs.Table.{ends_of}
use Rattle.declared_site.specs.declared.site.Site.{Site}
use Rattle.run_types.specs.declared.command.Command.{Command}
use Rattle.run_types.specs.declared.command.Command.TheVariants as commands
use Rattle.scenario_text.specs.Words.{is_name}
use Rattle.scenario_text.specs.Fields.{node_of, sae_of, link_of}
use Rattle.scenario_text.specs.Line.{rounds_with}
use Rattle.scenario_format.specs.Spelling.{spelled, node_word, sae_word, name_word}
use Rattle.scenario_format.specs.Readable.{HasNode, HasSae, HasLink, CanSay}
use Rattle.scenario_format.proofs.Numerals.{number_in_is}
use Rattle.run_model.specs.Load.{load_site, round_lines, master_in, slave_in, names_before}
use Rattle.scenario_gen.specs.LoadText.{bits_of, ledgers_of, load_commands}

-- ---- the ring's nodes, applications and links

pub has_node : (v : ℕ) → v < 8 → HasNode load_site v
unfolding is_name node_of digits
has_node zero h = record { name = refl; some = lit≤ tt; read = refl }
has_node (suc zero) h = record { name = refl; some = lit≤ tt; read = refl }
has_node (suc (suc zero)) h = record { name = refl; some = lit≤ tt; read = refl }
has_node (suc (suc (suc zero))) h = record { name = refl; some = lit≤ tt; read = refl }
has_node (suc (suc (suc (suc zero)))) h = record { name = refl; some = lit≤ tt; read = refl }
has_node (suc (suc (suc (suc (suc zero))))) h = record { name = refl; some = lit≤ tt; read = refl }
has_node (suc (suc (suc (suc (suc (suc zero)))))) h = record { name = refl; some = lit≤ tt; read = refl }
has_node (suc (suc (suc (suc (suc (suc (suc zero))))))) h = record { name = refl; some = lit≤ tt; read = refl }
has_node (suc (suc (suc (suc (suc (suc (suc (suc v)))))))) h = absurd (omega arith)

pub has_sae : (v : ℕ) → v < 8 → HasSae load_site v
unfolding is_name sae_of digits
has_sae zero h = record { name = refl; some = lit≤ tt; read = refl }
has_sae (suc zero) h = record { name = refl; some = lit≤ tt; read = refl }
has_sae (suc (suc zero)) h = record { name = refl; some = lit≤ tt; read = refl }
has_sae (suc (suc (suc zero))) h = record { name = refl; some = lit≤ tt; read = refl }
has_sae (suc (suc (suc (suc zero)))) h = record { name = refl; some = lit≤ tt; read = refl }
has_sae (suc (suc (suc (suc (suc zero))))) h = record { name = refl; some = lit≤ tt; read = refl }
has_sae (suc (suc (suc (suc (suc (suc zero)))))) h = record { name = refl; some = lit≤ tt; read = refl }
has_sae (suc (suc (suc (suc (suc (suc (suc zero))))))) h = record { name = refl; some = lit≤ tt; read = refl }
has_sae (suc (suc (suc (suc (suc (suc (suc (suc v)))))))) h = absurd (omega arith)

link_there : (l : ℕ) → l < 8 → is_some (ends_of load_site.routes l) ≡ true
link_there zero h = refl
link_there (suc zero) h = refl
link_there (suc (suc zero)) h = refl
link_there (suc (suc (suc zero))) h = refl
link_there (suc (suc (suc (suc zero)))) h = refl
link_there (suc (suc (suc (suc (suc zero))))) h = refl
link_there (suc (suc (suc (suc (suc (suc zero)))))) h = refl
link_there (suc (suc (suc (suc (suc (suc (suc zero))))))) h = refl
link_there (suc (suc (suc (suc (suc (suc (suc (suc l)))))))) h = absurd (omega arith)

link_read : (site : Site) (l : ℕ) → l < 32 → is_some (ends_of site.routes l) ≡ true → link_of site (decimal l) ≡ Some l
unfolding link_of
link_read site l h there = rw (number_in_is 0 31 l (omega arith) (omega arith) (omega arith), there) refl

pub has_link : (l : ℕ) → l < 8 → HasLink load_site l
has_link l h = record { small = omega arith; read = link_read load_site l (omega arith) (link_there l h) }

-- ---- lengths of words

node_short : (v : ℕ) → v < 8 → length (node_word load_site v) ≤ 32
unfolding is_name
node_short v h = let e = (has_node v h).name in grind arith

sae_short : (v : ℕ) → v < 8 → length (sae_word load_site v) ≤ 64
unfolding is_name
sae_short v h = let e = (has_sae v h).name in grind arith

number_short : (n : ℕ) → n < 2 ^ 32 → length (decimal n) ≤ 10
number_short n h = length-decimal-le 10 n (omega arith) (omega arith) (omega arith)

name_short : (n : Name) → length (name_word n) ≡ 36
name_short n = by_index_length 36 _

-- ---- each command

-- The command can be written for the ring, adds at most 40 rounds of settles, and has a short line.
pub record IsGood (c : Command) : Type 0 where
  pub can : CanSay load_site c
  pub rounds : (k : ℕ) → rounds_with k c ≤ k + 40
  pub short : length (spelled load_site c) ≤ 400

pub good_bits : (rounds link : ℕ) → 1 ≤ rounds → rounds ≤ 500 → link < 8 → IsGood (bits_of rounds link)
good_bits rounds link low high h = record {
  can = (has_link link h, (omega arith, omega arith));
  rounds = λ k. omega arith;
  short = let a = number_short link (omega arith) in let b = number_short (2 * rounds) (omega arith) in simp length-append (omega arith);
}

pub good_ledger : (link : ℕ) (way : Way) → link < 8 → IsGood (commands.Ledger (lane_of link way))
good_ledger link Up h = record { can = has_link link h; rounds = λ k. omega arith; short = let a = number_short link (omega arith) in simp length-append (omega arith) }
good_ledger link Down h = record { can = has_link link h; rounds = λ k. omega arith; short = let a = number_short link (omega arith) in simp length-append (omega arith) }

good_fill : (master slave : ℕ) → master < 8 → slave < 8 → IsGood (commands.Fill master slave 256 4)
good_fill master slave m s = record {
  can = (has_sae master m, has_sae slave s, (lit≤ tt, lit≤ tt, refl), (lit≤ tt, lit≤ tt));
  rounds = λ k. omega arith;
  short = let a = sae_short master m in let b = sae_short slave s in let c = number_short 256 (omega arith) in let d = number_short 4 (omega arith) in simp length-append (omega arith);
}

good_settle : IsGood (commands.Settle 40)
good_settle = record { can = (lit≤ tt, lit≤ tt); rounds = λ k. omega arith; short = let a = number_short 40 (omega arith) in simp length-append (omega arith) }

good_enc : (master slave : ℕ) → master < 8 → slave < 8 → IsGood (commands.Enc master master slave 4 256)
good_enc master slave m s = record {
  can = (has_node master m, has_sae master m, has_sae slave s, (lit≤ tt, lit≤ tt), (lit≤ tt, lit≤ tt, refl));
  rounds = λ k. omega arith;
  short =
      let a = sae_short master m in let b = sae_short slave s in let c = number_short 256 (omega arith) in let d = number_short 4 (omega arith) in let e = node_short master m in
      simp length-append (omega arith);
}

good_name : (node before k : ℕ) → node < 8 → before ≤ 4000 → 1 ≤ k → k ≤ 4 → IsName (record { node = node; kind = Key; count = before + k })
good_name node before k n b low high = record { node = omega arith; positive = omega arith; count = omega arith }

good_dec : (slave master node before : ℕ) → slave < 8 → master < 8 → node < 8 → before ≤ 4000 → IsGood (commands.Dec slave slave master (map (λ k. record { node = node; kind = Key; count = before + k }) (1 ∷ 2 ∷ 3 ∷ 4 ∷ [])))
good_dec slave master node before s m n b = record {
  can = (has_node slave s, has_sae slave s, has_sae master m, (good_name node before 1 n b (lit≤ tt) (lit≤ tt), (good_name node before 2 n b (lit≤ tt) (lit≤ tt), (good_name node before 3 n b (lit≤ tt) (lit≤ tt), (good_name node before 4 n b (lit≤ tt) (lit≤ tt), tt)))), (lit≤ tt, lit≤ tt));
  rounds = λ k. omega arith;
  short =
      let a = sae_short master m in let c = sae_short slave s in let e = node_short slave s in
      let f = name_short (record { node = node; kind = Key; count = before + 1 }) in let g = name_short (record { node = node; kind = Key; count = before + 2 }) in
      let h = name_short (record { node = node; kind = Key; count = before + 3 }) in let i = name_short (record { node = node; kind = Key; count = before + 4 }) in
      simp length-append (omega arith);
}

-- ---- the commands of a round

pub length_up : (n : ℕ) → length (count_up n) ≡ n
length_up zero = refl
length_up (suc n) = length-append (count_up n) (n ∷ []) ∙ (let e = length_up n in omega arith)

pub few_before : (node round : ℕ) → round ≤ 500 → names_before node round ≤ 4000
few_before node round h =
    let e = length_up round in
    let f = count_by-le-length (λ r. eqb (master_in r) node || eqb (slave_in r) node) (count_up round) in
    omega arith

abbrev pub AllGood : List Command → Type 0
AllGood [] = Unit {0}
AllGood (c ∷ cs) = IsGood c × AllGood cs

pub good_round : (round : ℕ) → round ≤ 500 → AllGood (round_lines round)
good_round round h =
    let m : master_in round < 8 = omega arith in
    let s : slave_in round < 8 = omega arith in
    (good_fill (master_in round) (slave_in round) m s, (good_settle, (good_enc (master_in round) (slave_in round) m s, (good_dec (slave_in round) (master_in round) (master_in round) (names_before (master_in round) round) s m m (few_before (master_in round) round h), tt))))

both_good : (cs ds : List Command) → AllGood cs → AllGood ds → AllGood (cs ++ ds)
both_good [] ds a b = b
both_good (c ∷ cs) ds a b = (a.0, both_good cs ds a.1 b)

-- If the commands of each index below n are good, so are the commands of all these indexes together.
each_good : (f : ℕ → List Command) (n : ℕ) → ((i : ℕ) → i < n → AllGood (f i)) → AllGood (flat_map f (count_up n))
each_good f zero good = tt
each_good f (suc n) good =
    let here : AllGood (flat_map f (count_up n) ++ flat_map f (n ∷ [])) = both_good (flat_map f (count_up n)) (f n ++ []) (each_good f n (λ i h. good i (omega arith))) (both_good (f n) [] (good n (omega arith)) tt) in
    let P : List Command → Type 0 = λ cs. AllGood cs in
    subst P (sym (flat_map-append f (count_up n) (n ∷ []))) here

map_good : (f : ℕ → Command) (ns : List ℕ) → AllGood (flat_map (λ n. f n ∷ []) ns) → AllGood (map f ns)
map_good f [] good = tt
map_good f (n ∷ ns) good = (good.0, map_good f ns good.1)

pub load_good : (rounds : ℕ) → 1 ≤ rounds → rounds ≤ 500 → AllGood (load_commands rounds)
load_good rounds low high =
    let bits : AllGood (map (bits_of rounds) (count_up 8)) = map_good (bits_of rounds) (count_up 8) (each_good (λ link. bits_of rounds link ∷ []) 8 (λ link h. (good_bits rounds link low high h, tt))) in
    let keys : AllGood (flat_map round_lines (count_up rounds)) = each_good round_lines rounds (λ round h. good_round round (omega arith)) in
    let ledgers : AllGood (flat_map ledgers_of (count_up 8)) = each_good ledgers_of 8 (λ link h. (good_ledger link Up h, (good_ledger link Down h, tt))) in
    both_good (map (bits_of rounds) (count_up 8) ++ flat_map round_lines (count_up rounds)) (flat_map ledgers_of (count_up 8)) (both_good (map (bits_of rounds) (count_up 8)) (flat_map round_lines (count_up rounds)) bits keys) ledgers
