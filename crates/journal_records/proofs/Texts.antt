-- The octets of records in version 2, where the head of a run tells in advance how many names it has.
use Rattle.std.proofs.Common.{◌≡◌, ℕ, zero, suc, ◌+◌, ◌-◌, ◌*◌, ◌<◌, ◌≤◌, ◌⊎◌, inl, inr, Bool, true, false, cond, eqb, ltb, ◌&&◌, List, [], ◌∷◌, ◌++◌, length, map, refl, sym, ap, subst, ◌∙◌, arith, append_assoc, length-append}
use Rattle.std.specs.List.{All, flat_map}
use Rattle.std.proofs.lemmas.Bool.{cases_Bool, eqb-true}
use Rattle.std.proofs.lemmas.List.{append-nil}
use Rattle.std.proofs.lemmas.List.Elements.{All-head, All-tail}
use Rattle.qkd_base.specs.Name.{Name}
use Rattle.net_model.specs.declared.record.Record.{Record}
use Rattle.net_model.specs.declared.record.Record.TheVariants.{Block, Lease, Learned, Acked, Handed, Closed, Bare}
use Rattle.frame_codec.specs.Payload.{short, fact_octets}
use Rattle.journal_records.specs.declared.version.Version.{Version}
use Rattle.journal_records.specs.declared.version.Version.TheVariants.{First, Second}
use Rattle.journal_records.specs.Grammar.{IsLearned, short_name, record_octets, Item, item_octets, goes_on, closing, grouped, run_len, run_head, left_in, octets_left, rest_octets, items, body_octets}
use Rattle.journal_records.specs.Grammar.Item.{One, Run}
use Rattle.journal_records.proofs.ItemLaws.{texts}
use Rattle.journal_records.proofs.Groups.{is_handing, IsHanding, cases_handing, grouped_other, grouped_more, grouped_new, grouped_end, on_true}
use Rattle.journal_records.proofs.Bodies.{first_texts}

no_handing : {A : Type 0} → true ≡ false → A
no_handing e = absurd cc

-- ---- the length of a run, counted in advance

pub run_end : (sae most : ℕ) → run_len sae most [] ≡ 0
unfolding run_len
run_end sae zero = refl
run_end sae (suc most) = refl

pub run_none : (sae : ℕ) (rs : List Record) → run_len sae 0 rs ≡ 0
unfolding run_len
run_none sae rs = refl

pub run_other : (sae most : ℕ) (r : Record) (rs : List Record) → is_handing r ≡ false → run_len sae most (r ∷ rs) ≡ 0
unfolding run_len
run_other sae zero r rs e = refl
run_other sae (suc most) (Handed n to) rs e = no_handing e
run_other sae (suc most) (Block link number bytes) rs e = refl
run_other sae (suc most) (Lease lane end) rs e = refl
run_other sae (suc most) (Learned f) rs e = refl
run_other sae (suc most) (Acked n) rs e = refl
run_other sae (suc most) (Closed n by) rs e = refl
run_other sae (suc most) (Bare f) rs e = refl

pub run_first : (sae most : ℕ) (n : Name) (to : ℕ) (rs : List Record) → run_len sae (suc most) (Handed n to ∷ rs) ≡ cond (eqb to sae) (1 + run_len sae most rs) 0
unfolding run_len
run_first sae most n to rs = refl

same_test : (a b : ℕ) → a ≡ b → eqb a b ≡ true
same_test a b h = grind arith

pub run_more : (sae most : ℕ) (n : Name) (rs : List Record) → run_len sae (suc most) (Handed n sae ∷ rs) ≡ 1 + run_len sae most rs
run_more sae most n rs = run_first sae most n sae rs ∙ ap (λ b. cond b (1 + run_len sae most rs) 0) (same_test sae sae refl)

-- If the handing doesn't continue a run of k names, the run ends with k names.
run_stops : (sae k : ℕ) (n : Name) (to : ℕ) (rs : List Record) → 0 < k → k ≤ 128 → goes_on sae k to ≡ false → run_len sae (128 - k) (Handed n to ∷ rs) ≡ 0
run_stops sae k n to rs some few off = by_left (128 - k) refl
  where
    by_left : (left : ℕ) → left ≡ 128 - k → run_len sae left (Handed n to ∷ rs) ≡ 0
    by_left zero is = run_none sae (Handed n to ∷ rs)
    by_left (suc left) is = run_first sae left n to rs ∙ ap (λ b. cond b (1 + run_len sae left rs) 0) (differ (omega (arith, is)))
      where
        low : ltb 0 k ≡ true
        low = grind arith

        differ : k < 128 → eqb to sae ≡ false
        differ lt = elim (cases_Bool (eqb to sae)) [
          | inl same ↦
              let high : ltb k 128 ≡ true = below k lt in
              let on : goes_on sae k to ≡ true = rw (low, high, same) refl in
              no_handing (sym on ∙ off)
          | inr other ↦ other
        ]
          where
            below : (m : ℕ) → m < 128 → ltb m 128 ≡ true
            below m h = grind arith

-- ---- the names of a run that are left

pub left_end : (left : ℕ) → octets_left left [] ≡ []
unfolding octets_left
left_end left = refl

pub left_other : (left : ℕ) (r : Record) (rs : List Record) → is_handing r ≡ false → octets_left left (r ∷ rs) ≡ record_octets Second r ++ octets_left 0 rs
unfolding octets_left
left_other left (Handed n to) rs e = no_handing e
left_other left (Block link number bytes) rs e = refl
left_other left (Lease lane end) rs e = refl
left_other left (Learned f) rs e = refl
left_other left (Acked n) rs e = refl
left_other left (Closed n by) rs e = refl
left_other left (Bare f) rs e = refl

pub left_new : (n : Name) (to : ℕ) (rs : List Record) → octets_left 0 (Handed n to ∷ rs) ≡ run_head to (run_len to 128 (Handed n to ∷ rs)) ++ (short_name n ++ octets_left (run_len to 128 (Handed n to ∷ rs) - 1) rs)
unfolding octets_left
left_new n to rs = refl

not_zero : (left : ℕ) → 0 < left → eqb left 0 ≡ false
not_zero left h = grind arith

pub left_more : (left : ℕ) (n : Name) (to : ℕ) (rs : List Record) → 0 < left → octets_left left (Handed n to ∷ rs) ≡ short_name n ++ octets_left (left - 1) rs
unfolding octets_left
left_more left n to rs some =
    ap (λ b. (cond b (run_head to (run_len to 128 (Handed n to ∷ rs))) []) ++ (short_name n ++ octets_left (cond b (run_len to 128 (Handed n to ∷ rs)) left - 1) rs)) (not_zero left some)

text-append : (xs ys : List Item) → texts Second (xs ++ ys) ≡ texts Second xs ++ texts Second ys
text-append [] ys = refl
text-append (x ∷ xs) ys = ap (λ (l : List ℕ). item_octets Second x ++ l) (text-append xs ys) ∙ sym (append_assoc (item_octets Second x) (texts Second xs) (texts Second ys))

abbrev names_octets : List Name → List ℕ
names_octets names = flat_map short_name names

names_more : (names : List Name) (n : Name) → names_octets (names ++ n ∷ []) ≡ names_octets names ++ short_name n
names_more [] n = refl
names_more (m ∷ names) n = ap (λ (l : List ℕ). short_name m ++ l) (names_more names n) ∙ sym (append_assoc (short_name m) (names_octets names) (short_name n))

-- the head of a run of `all` names, its names so far, and the octets that follow
abbrev run_then : ℕ → ℕ → List Name → List ℕ → List ℕ
run_then sae all names rest = run_head sae all ++ (names_octets names ++ rest)

run_text : (sae : ℕ) (names : List Name) (rest : List ℕ) → item_octets Second (Run sae names) ++ rest ≡ run_then sae (length names) names rest
run_text sae names rest = refl

record Written (rs : List Record) : Type 0 where
  none : texts Second (grouped 0 [] rs) ≡ octets_left 0 rs
  run : (sae : ℕ) (n : Name) (names : List Name) (k : ℕ) → k ≡ length (n ∷ names) → k ≤ 128
      → texts Second (grouped sae (n ∷ names) rs) ≡ run_then sae (k + run_len sae (128 - k) rs) (n ∷ names) (octets_left (run_len sae (128 - k) rs) rs)

fresh : (rs : List Record) → Written rs → (m : Name) (to : ℕ) → texts Second (grouped to (m ∷ []) rs) ≡ octets_left 0 (Handed m to ∷ rs)
fresh rs later m to =
    let one : run_len to 128 (Handed m to ∷ rs) ≡ 1 + run_len to 127 rs = run_more to 127 m rs in
    let tail : octets_left (run_len to 127 rs) rs ≡ octets_left (1 + run_len to 127 rs - 1) rs = ap (λ (j : ℕ). octets_left j rs) (omega arith) in
    later.run to m [] 1 refl (omega arith)
    ∙ ap (λ (l : List ℕ). run_head to (1 + run_len to 127 rs) ++ (short_name m ++ l)) tail
    ∙ ap (λ (j : ℕ). run_head to j ++ (short_name m ++ octets_left (j - 1) rs)) (sym one)
    ∙ sym (left_new m to rs)

handed : (rs : List Record) → Written rs → (m : Name) (to : ℕ) → Written (Handed m to ∷ rs)
handed rs later m to = record {
  none = ap (λ is. texts Second is) (grouped_new 0 [] m to rs refl) ∙ fresh rs later m to;
  run = λ sae n names k is few. elim (cases_Bool (goes_on sae (length (n ∷ names)) to)) [
    | inl on ↦
        let g = on_true sae (length (n ∷ names)) to on in
        let j : ℕ = run_len sae (128 - (k + 1)) rs in
        let left : 128 - k ≡ suc (128 - (k + 1)) = omega (arith, is, g.few) in
        let one : run_len sae (128 - k) (Handed m to ∷ rs) ≡ 1 + j =
        ap (λ (a : ℕ). run_len sae a (Handed m to ∷ rs)) left ∙ ap (λ (t : ℕ). run_len sae (suc (128 - (k + 1))) (Handed m t ∷ rs)) g.same ∙ run_more sae (128 - (k + 1)) m rs in
        ap (λ l. texts Second l) (grouped_more sae (n ∷ names) m to rs on)
        ∙ later.run sae n (names ++ m ∷ []) (k + 1) (omega (arith, is, length-append names (m ∷ []))) (omega (arith, is, g.few))
        ∙ ap (λ (a : ℕ). run_then sae a (n ∷ (names ++ m ∷ [])) (octets_left j rs)) (omega arith)
        ∙ ap (λ (l : List ℕ). run_head sae (k + (1 + j)) ++ (l ++ octets_left j rs)) (names_more (n ∷ names) m)
        ∙ ap (λ (l : List ℕ). run_head sae (k + (1 + j)) ++ l) (append_assoc (names_octets (n ∷ names)) (short_name m) (octets_left j rs))
        ∙ ap (λ (l : List ℕ). run_then sae (k + (1 + j)) (n ∷ names) l) (sym (left_more (1 + j) m to rs (omega arith) ∙ ap (λ (a : ℕ). short_name m ++ octets_left a rs) (omega arith)))
        ∙ ap (λ (a : ℕ). run_then sae (k + a) (n ∷ names) (octets_left a (Handed m to ∷ rs))) (sym one)
    | inr off ↦
        let stops : run_len sae (128 - k) (Handed m to ∷ rs) ≡ 0 = run_stops sae k m to rs (omega (arith, is)) few (ap (λ (a : ℕ). goes_on sae a to) is ∙ off) in
        ap (λ l. texts Second l) (grouped_new sae (n ∷ names) m to rs off)
        ∙ ap (λ (l : List ℕ). item_octets Second (Run sae (n ∷ names)) ++ l) (fresh rs later m to)
        ∙ run_text sae (n ∷ names) (octets_left 0 (Handed m to ∷ rs))
        ∙ ap (λ (a : ℕ). run_then sae a (n ∷ names) (octets_left 0 (Handed m to ∷ rs))) (omega (arith, is, stops))
        ∙ ap (λ (a : ℕ). run_then sae (k + run_len sae (128 - k) (Handed m to ∷ rs)) (n ∷ names) (octets_left a (Handed m to ∷ rs))) (sym stops)
  ];
}

written : (rs : List Record) → Written rs
written [] = record {
  none = ap (λ is. texts Second is) (grouped_end 0 []) ∙ sym (left_end 0);
  run = λ sae n names k is few.
      let zero_more : run_len sae (128 - k) [] ≡ 0 = run_end sae (128 - k) in
      ap (λ l. texts Second l) (grouped_end sae (n ∷ names)) ∙ run_text sae (n ∷ names) []
      ∙ ap (λ (m : ℕ). run_then sae m (n ∷ names) []) (omega (arith, is, zero_more))
      ∙ ap (λ (l : List ℕ). run_then sae (k + run_len sae (128 - k) []) (n ∷ names) l) (sym (left_end (run_len sae (128 - k) [])));
}
written (r ∷ rs) = elim (cases_handing r) [
  | inl h ↦ subst (λ q. Written (q ∷ rs)) (sym h.is) (handed rs (written rs) h.name h.to)
  | inr plain ↦
      let later = written rs in
      record {
        none = ap (λ is. texts Second is) (grouped_other 0 [] r rs plain) ∙ ap (λ (l : List ℕ). record_octets Second r ++ l) later.none ∙ sym (left_other 0 r rs plain);
        run = λ sae n names k is few.
            let zero_more : run_len sae (128 - k) (r ∷ rs) ≡ 0 = run_other sae (128 - k) r rs plain in
            ap (λ l. texts Second l) (grouped_other sae (n ∷ names) r rs plain)
            ∙ ap (λ (l : List ℕ). item_octets Second (Run sae (n ∷ names)) ++ (record_octets Second r ++ l)) later.none
            ∙ ap (λ (l : List ℕ). item_octets Second (Run sae (n ∷ names)) ++ l) (sym (left_other 0 r rs plain))
            ∙ run_text sae (n ∷ names) (octets_left 0 (r ∷ rs))
            ∙ ap (λ (m : ℕ). run_then sae m (n ∷ names) (octets_left 0 (r ∷ rs))) (omega (arith, is, zero_more))
            ∙ ap (λ (m : ℕ). run_then sae (k + run_len sae (128 - k) (r ∷ rs)) (n ∷ names) (octets_left m (r ∷ rs))) (sym zero_more);
      }
]

-- The octets of all spelled records are those that the writer writes, in both versions.
pub texts_are : (v : Version) (rs : List Record) → texts v (items v rs) ≡ rest_octets v 0 rs
texts_are First rs = first_texts rs
texts_are Second rs = (written rs).none

-- ---- what holds in both versions

learned_left : (rs : List Record) → All IsLearned rs → octets_left 0 rs ≡ flat_map (record_octets First) rs
learned_left [] each = left_end 0
learned_left (Learned f ∷ rs) each = left_other 0 (Learned f) rs refl ∙ ap (λ (l : List ℕ). record_octets First (Learned f) ++ l) (learned_left rs (All-tail IsLearned (Learned f) rs each))
learned_left (Block link number bytes ∷ rs) each = absurd (All-head IsLearned (Block link number bytes) rs each)
learned_left (Lease lane end ∷ rs) each = absurd (All-head IsLearned (Lease lane end) rs each)
learned_left (Acked n ∷ rs) each = absurd (All-head IsLearned (Acked n) rs each)
learned_left (Handed n to ∷ rs) each = absurd (All-head IsLearned (Handed n to) rs each)
learned_left (Closed n by ∷ rs) each = absurd (All-head IsLearned (Closed n by) rs each)
learned_left (Bare f ∷ rs) each = absurd (All-head IsLearned (Bare f) rs each)

learned_items : (rs : List Record) → All IsLearned rs → items Second rs ≡ items First rs
learned_items [] each = grouped_end 0 []
learned_items (Learned f ∷ rs) each = grouped_other 0 [] (Learned f) rs refl ∙ ap (λ (l : List Item). One (Learned f) ∷ l) (learned_items rs (All-tail IsLearned (Learned f) rs each))
learned_items (Block link number bytes ∷ rs) each = absurd (All-head IsLearned (Block link number bytes) rs each)
learned_items (Lease lane end ∷ rs) each = absurd (All-head IsLearned (Lease lane end) rs each)
learned_items (Acked n ∷ rs) each = absurd (All-head IsLearned (Acked n) rs each)
learned_items (Handed n to ∷ rs) each = absurd (All-head IsLearned (Handed n to) rs each)
learned_items (Closed n by ∷ rs) each = absurd (All-head IsLearned (Closed n by) rs each)
learned_items (Bare f ∷ rs) each = absurd (All-head IsLearned (Bare f) rs each)

pub learned_alike : (rs : List Record) → All IsLearned rs → body_octets Second rs ≡ body_octets First rs
unfolding body_octets
learned_alike rs each =
    ap (λ (l : List Item). short (length l) ++ texts Second (items Second rs)) (learned_items rs each)
    ∙ ap (λ (l : List ℕ). short (length (items First rs)) ++ l) (texts_are Second rs ∙ learned_left rs each ∙ sym (first_texts rs))
