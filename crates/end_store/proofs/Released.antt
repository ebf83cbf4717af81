-- A key that is handed to its master leaves the index, and nothing that still waits does.
use Rattle.std.proofs.Common.{◌≡◌, ℕ, Bool, true, false, List, refl, sym, ◌∙◌, ap, Option, Some, None}
use Rattle.std.specs.Prelude.{slice_get, ◌==◌, if◌then◌else◌}
use Rattle.std.specs.Str.{bytes_eq}
use Rattle.std.proofs.lemmas.Slice.Eq.{bytes_eq-Decides}
use Rattle.qkd_base.specs.Name.{Name, name_eq}
use Rattle.net_model.specs.declared.fact.Fact.{Fact}
use Rattle.net_model.specs.declared.fact.Fact.TheVariants.{Key, Chunk, Stored, Open, Joined, Part}
use Rattle.net_model.specs.Table.{was_handed}
use Rattle.ordered_set.specs.Entries.{has_entry}
use Rattle.relay_core.proofs.Firsts.{not_true}
use Rattle.relay_core.proofs.Names.{name_eq_from, eq_from, and_left, and_right}
use Rattle.end_store.specs.declared.pool.Pool.{Pool}
use Rattle.end_store.specs.declared.pool.Line.{Line}
use Rattle.end_store.specs.declared.pool.Line.TheVariants.{Stock, Keys, Parts}
use Rattle.end_store.specs.Waiting.{own, is_in, is_own, pool_of, stands, is_taken, line_entry, place_entry, count_entry, ShrinksBy, AreWaiting}
use Rattle.end_store.proofs.Lines.{in_pool, some_list, same_line}
use Rattle.end_store.proofs.Readied.{own_name}

left_kept : (old new : List (List ℕ)) (o : Option (List ℕ)) (e : List ℕ) → ShrinksBy old new o → (o ≡ Some e → ⊥) → has_entry old e ≡ true → has_entry new e ≡ true
left_kept old new None e shrinks other h = ap (λ (es : List (List ℕ)). has_entry es e) shrinks ∙ h
left_kept old new (Some x) e shrinks other h =
    shrinks.has e ∙ ap (λ (b : Bool). if b then false else has_entry old e) (not_true (bytes_eq x e) (λ same. other (ap Some ((bytes_eq-Decides x e).0 same)))) ∙ h

-- a fact in the stock of a pool at a count is at the place of this count

stock_place : (me : ℕ) (p : Pool) (c i : ℕ) (x : Fact) → stands me (Stock p) c i x ≡ true → i ≡ c
stock_place me p c i (Key name m s route bytes) h = eq_from i c (and_right (is_in p m s bytes) (i == c) h)
stock_place me p c i (Part name key m s route bytes) h = cc
stock_place me p c i (Chunk name stream index route bytes) h = cc
stock_place me p c i (Stored note about route) h = cc
stock_place me p c i (Open stream source peer size route) h = cc
stock_place me p c i (Joined note about route) h = cc

key_taken : (me : ℕ) (handed : List (Name × ℕ)) (p : Pool) (c i : ℕ) (x : Fact) → stands me (Keys p) c i x ≡ true → is_taken handed x ≡ was_handed handed (own me c) p.master
key_taken me handed p c i (Key name m s route bytes) h =
    ap (λ (n : Name). was_handed handed n m) (name_eq_from name (own me c) (and_right (is_in p m s bytes) (name_eq name (own me c)) h))
    ∙ ap (was_handed handed (own me c)) (in_pool p m s bytes (and_left (is_in p m s bytes) (name_eq name (own me c)) h)).master
key_taken me handed p c i (Part name key m s route bytes) h = cc
key_taken me handed p c i (Chunk name stream index route bytes) h = cc
key_taken me handed p c i (Stored note about route) h = cc
key_taken me handed p c i (Open stream source peer size route) h = cc
key_taken me handed p c i (Joined note about route) h = cc

part_taken : (me : ℕ) (handed : List (Name × ℕ)) (p : Pool) (c i : ℕ) (x : Fact) → stands me (Parts p) c i x ≡ true → is_taken handed x ≡ was_handed handed (own me c) p.master
part_taken me handed p c i (Part name key m s route bytes) h =
    ap (λ (n : Name). was_handed handed n m) (name_eq_from key (own me c) (and_right (is_in p m s bytes) (name_eq key (own me c)) h))
    ∙ ap (was_handed handed (own me c)) (in_pool p m s bytes (and_left (is_in p m s bytes) (name_eq key (own me c)) h)).master
part_taken me handed p c i (Key name m s route bytes) h = cc
part_taken me handed p c i (Chunk name stream index route bytes) h = cc
part_taken me handed p c i (Stored note about route) h = cc
part_taken me handed p c i (Open stream source peer size route) h = cc
part_taken me handed p c i (Joined note about route) h = cc

both_ways : (b : Bool) → b ≡ true → b ≡ false → ⊥
both_ways b h k = let t : true ≡ false = sym h ∙ k in let u : ⊥ = cc in u

-- the entry of a fact that its master has got isn't the entry of anything that waits

place_other : (me : ℕ) (facts : List Fact) (handed : List (Name × ℕ)) (l : Line) (c i place : ℕ) (x f : Fact) → slice_get facts i ≡ Some x → slice_get facts place ≡ Some f →
    stands me l c i x ≡ true → is_taken handed x ≡ false → is_taken handed f ≡ true → place_entry place f ≡ Some (line_entry l c) → ⊥
place_other me facts handed l c i place x (Key name m s route bytes) at there stood free taken e =
    let same = same_line (Stock (pool_of m s bytes)) l place c (some_list (line_entry (Stock (pool_of m s bytes)) place) (line_entry l c) e) in
    let i_is = stock_place me (pool_of m s bytes) c i x (ap (λ (k : Line). stands me k c i x) same.line ∙ stood) ∙ sym same.count in
    let some : Some x ≡ Some (Key name m s route bytes) = sym at ∙ ap (slice_get facts) i_is ∙ there in
    let is : x ≡ Key name m s route bytes = cc in
    both_ways (is_taken handed x) (ap (is_taken handed) is ∙ taken) free
place_other me facts handed l c i place x (Part name key m s route bytes) at there stood free taken e = cc
place_other me facts handed l c i place x (Chunk name stream index route bytes) at there stood free taken e = cc
place_other me facts handed l c i place x (Stored note about route) at there stood free taken e = cc
place_other me facts handed l c i place x (Open stream source peer size route) at there stood free taken e = cc
place_other me facts handed l c i place x (Joined note about route) at there stood free taken e = cc

count_other : (me : ℕ) (handed : List (Name × ℕ)) (l : Line) (c i : ℕ) (x f : Fact) → stands me l c i x ≡ true → is_taken handed x ≡ false → is_taken handed f ≡ true →
    count_entry me f ≡ Some (line_entry l c) → ⊥
count_other me handed l c i x (Key name m s route bytes) stood free taken e = by (is_own me name) refl e
  where
    by : (b : Bool) → is_own me name ≡ b → (if b then Some (line_entry (Keys (pool_of m s bytes)) name.count) else None) ≡ Some (line_entry l c) → ⊥
    by false own_is h = cc
    by true own_is h =
        let same = same_line (Keys (pool_of m s bytes)) l name.count c (some_list (line_entry (Keys (pool_of m s bytes)) name.count) (line_entry l c) h) in
        let name_is = own_name me name own_is ∙ ap (own me) same.count in
        both_ways (is_taken handed x)
        (key_taken me handed (pool_of m s bytes) c i x (ap (λ (k : Line). stands me k c i x) same.line ∙ stood) ∙ ap (λ (n : Name). was_handed handed n m) (sym name_is) ∙ taken)
        free
count_other me handed l c i x (Part name key m s route bytes) stood free taken e = by (is_own me key) refl e
  where
    by : (b : Bool) → is_own me key ≡ b → (if b then Some (line_entry (Parts (pool_of m s bytes)) key.count) else None) ≡ Some (line_entry l c) → ⊥
    by false own_is h = cc
    by true own_is h =
        let same = same_line (Parts (pool_of m s bytes)) l key.count c (some_list (line_entry (Parts (pool_of m s bytes)) key.count) (line_entry l c) h) in
        let name_is = own_name me key own_is ∙ ap (own me) same.count in
        both_ways (is_taken handed x)
        (part_taken me handed (pool_of m s bytes) c i x (ap (λ (k : Line). stands me k c i x) same.line ∙ stood) ∙ ap (λ (n : Name). was_handed handed n m) (sym name_is) ∙ taken)
        free
count_other me handed l c i x (Chunk name stream index route bytes) stood free taken e = cc
count_other me handed l c i x (Stored note about route) stood free taken e = cc
count_other me handed l c i x (Open stream source peer size route) stood free taken e = cc
count_other me handed l c i x (Joined note about route) stood free taken e = cc

pub released : (me : ℕ) (facts : List Fact) (handed : List (Name × ℕ)) (old mid new : List (List ℕ)) (count place : ℕ) (f : Fact) → AreWaiting me facts handed old count → slice_get facts place ≡ Some f →
    is_taken handed f ≡ true → ShrinksBy old mid (place_entry place f) → ShrinksBy mid new (count_entry me f) → AreWaiting me facts handed new count
released me facts handed old mid new count place f waiting there taken a b = record {
  within = waiting.within;
  complete = λ l c i x lt at stood free noted.
      left_kept mid new (count_entry me f) (line_entry l c) b (count_other me handed l c i x f stood free taken)
      (left_kept old mid (place_entry place f) (line_entry l c) a (place_other me facts handed l c i place x f at there stood free taken)
      (waiting.complete l c i x lt at stood free noted));
}
