-- How records change the state.
use Rattle.std.proofs.Common.{◌≡◌, ℕ, suc, ◌+◌, ◌≤◌, Bool, true, false, ◌&&◌, ◌||◌, List, [], ◌∷◌, ◌++◌, length, refl, sym, ◌∙◌, ap, subst, arith, Some, None}
use Rattle.std.specs.Prelude.{if◌then◌else◌, ◌==◌, Result, Ok, Err, OnOk, IsOk}
use Rattle.std.specs.List.{list_any}
use Rattle.qkd_base.specs.Name.{Name, name_eq}
use Rattle.qkd_base.specs.declared.lane.Lane.{Lane}
use Rattle.net_model.specs.declared.fact.Fact.{Fact}
use Rattle.net_model.specs.declared.fact.Fact.TheVariants.{Key, Chunk, Stored, Open, Joined, Part}
use Rattle.net_model.specs.declared.record.Record.{Record}
use Rattle.net_model.specs.declared.record.Record.TheVariants.{Block, Lease, Learned, Acked, Handed, Closed, Bare}
use Rattle.net_model.specs.Table.{name_of, fact_at, learned, is_part_of}
use Rattle.net_model.specs.Fold.{marked, view_record, view_records}
use Rattle.relay_core.specs.Knowledge.{Knowledge, AreDistinct, acked_with}
use Rattle.relay_core.proofs.Kept.{test_of, named_any}
use Rattle.stream_core.specs.Kept.{StreamEnds}
use Rattle.kme_facts.specs.Needs.{kept_view}
use Rattle.kme_facts.specs.Taken.{is_end_at, may_give, may_close, HasRoom}

-- the fact of a name

pub none_named : (facts : List Fact) (n : Name) (q : Fact → Bool) → AreDistinct facts → fact_at facts n ≡ None → false ≡ list_any (λ g. name_eq (name_of g) n && q g) facts
unfolding test_of
none_named facts n q distinct e = sym (named_any facts n q distinct ∙ ap (test_of q) e)

pub some_named : (facts : List Fact) (n : Name) (q : Fact → Bool) (f : Fact) (r : Bool) → AreDistinct facts → fact_at facts n ≡ Some f → r ≡ q f → r ≡ list_any (λ g. name_eq (name_of g) n && q g) facts
unfolding test_of
some_named facts n q f r distinct e is = is ∙ sym (named_any facts n q distinct ∙ ap (test_of q) e)

-- the fact of a name, or a part of its group key

named_alone : (e a r : Bool) → (e && (a && r)) ≡ ((a && (e && (a && r))) || (false && (e && (a && r))))
named_alone true true true = refl
named_alone true true false = refl
named_alone true false r = refl
named_alone false true r = refl
named_alone false false r = refl

chunk_alone : (e a : Bool) → (e && a) ≡ ((a && (e && a)) || (false && (e && a)))
chunk_alone true true = refl
chunk_alone true false = refl
chunk_alone false true = refl
chunk_alone false false = refl

part_alone : (e m a r : Bool) → (e && (a && r)) ≡ ((m && (e && (a && r))) || (a && (e && (a && r))))
part_alone true true true true = refl
part_alone true true true false = refl
part_alone true true false r = refl
part_alone true false true r = refl
part_alone true false false r = refl
part_alone false true true r = refl
part_alone false true false r = refl
part_alone false false true r = refl
part_alone false false false r = refl

none_alone : (e m : Bool) → (e && false) ≡ ((m && (e && false)) || (false && (e && false)))
none_alone true true = refl
none_alone true false = refl
none_alone false true = refl
none_alone false false = refl

one_gives : (me : ℕ) (n : Name) (sae : ℕ) (f : Fact) → may_give me n sae f ≡ ((name_eq (name_of f) n && may_give me n sae f) || (is_part_of n f && may_give me n sae f))
one_gives me n sae (Key name master slave route bytes) = named_alone (is_end_at me (Key name master slave route bytes)) (name_eq name n) ((master == sae) || (slave == sae))
one_gives me n sae (Chunk name stream index route bytes) = chunk_alone (is_end_at me (Chunk name stream index route bytes)) (name_eq name n)
one_gives me n sae (Part name key master slave route bytes) = part_alone (is_end_at me (Part name key master slave route bytes)) (name_eq name n) (name_eq key n) ((master == sae) || (slave == sae))
one_gives me n sae (Stored note about route) = none_alone (is_end_at me (Stored note about route)) (name_eq note n)
one_gives me n sae (Open stream source peer size route) = none_alone (is_end_at me (Open stream source peer size route)) (name_eq stream n)
one_gives me n sae (Joined note about route) = none_alone (is_end_at me (Joined note about route)) (name_eq note n)

shuffle : (a b c d : Bool) → ((a || b) || (c || d)) ≡ ((a || c) || (b || d))
shuffle true b c d = refl
shuffle false true true d = refl
shuffle false true false d = refl
shuffle false false true d = refl
shuffle false false false d = refl

any_split : (t a b : Fact → Bool) → ((f : Fact) → t f ≡ (a f || b f)) → (fs : List Fact) → list_any t fs ≡ (list_any a fs || list_any b fs)
any_split t a b each [] = refl
any_split t a b each (f ∷ fs) =
    ap (λ (x : Bool). x || list_any t fs) (each f) ∙ ap (λ (x : Bool). (a f || b f) || x) (any_split t a b each fs) ∙ shuffle (a f) (b f) (list_any a fs) (list_any b fs)

pub gives_split : (me : ℕ) (n : Name) (sae : ℕ) (facts : List Fact) → list_any (may_give me n sae) facts ≡
    (list_any (λ f. name_eq (name_of f) n && may_give me n sae f) facts || list_any (λ f. is_part_of n f && may_give me n sae f) facts)
gives_split me n sae facts = any_split (may_give me n sae) (λ f. name_eq (name_of f) n && may_give me n sae f) (λ f. is_part_of n f && may_give me n sae f) (one_gives me n sae) facts

-- closing an end of a stream

closing : (e a : Bool) → (e && a) ≡ (a && (e && a))
closing true true = refl
closing true false = refl
closing false true = refl
closing false false = refl

no_closing : (e m : Bool) → (e && false) ≡ (m && (e && false))
no_closing true true = refl
no_closing true false = refl
no_closing false true = refl
no_closing false false = refl

one_closes : (me : ℕ) (n : Name) (f : Fact) → may_close me n f ≡ (name_eq (name_of f) n && may_close me n f)
one_closes me n (Open stream source peer size route) = closing (is_end_at me (Open stream source peer size route)) (name_eq stream n)
one_closes me n (Key name master slave route bytes) = no_closing (is_end_at me (Key name master slave route bytes)) (name_eq name n)
one_closes me n (Chunk name stream index route bytes) = no_closing (is_end_at me (Chunk name stream index route bytes)) (name_eq name n)
one_closes me n (Stored note about route) = no_closing (is_end_at me (Stored note about route)) (name_eq note n)
one_closes me n (Joined note about route) = no_closing (is_end_at me (Joined note about route)) (name_eq note n)
one_closes me n (Part name key master slave route bytes) = no_closing (is_end_at me (Part name key master slave route bytes)) (name_eq name n)

pub closes_named : (me : ℕ) (n : Name) (facts : List Fact) → list_any (λ f. name_eq (name_of f) n && may_close me n f) facts ≡ list_any (may_close me n) facts
closes_named me n [] = refl
closes_named me n (f ∷ fs) = ap (λ (x : Bool). x || list_any (λ g. name_eq (name_of g) n && may_close me n g) fs) (sym (one_closes me n f)) ∙ ap (λ (x : Bool). may_close me n f || x) (closes_named me n fs)

-- the effect of each record

pub told_ok : {A B : Type 0} (r : Result A B) (P : Type 0) → OnOk r P → IsOk r → P
told_ok (Ok x) P h k = h
told_ok (Err e) P h k = absurd (let u : ⊥ = cc in u)

pub learned_view : (old new : StreamEnds) (f : Fact) → new.ends.known.facts ≡ learned old.ends.known.facts f → new.ends.known.me ≡ old.ends.known.me → new.ends.known.acked ≡ old.ends.known.acked →
    new.ends.handed ≡ old.ends.handed → new.closed ≡ old.closed → kept_view new ≡ view_record (Learned f) (kept_view old)
unfolding view_record
learned_view old new f facts me acked handed closed = λ i. record (kept_view old) { me = me i; facts = facts i; acked = acked i; handed = handed i; closed = closed i }

pub acked_view : (old new : StreamEnds) (n : Name) → new.ends.known.acked ≡ acked_with old.ends.known.me old.ends.known.acked old.ends.known.facts n → new.ends.known.me ≡ old.ends.known.me →
    new.ends.known.facts ≡ old.ends.known.facts → new.ends.handed ≡ old.ends.handed → new.closed ≡ old.closed → kept_view new ≡ view_record (Acked n) (kept_view old)
unfolding view_record
acked_view old new n acked me facts handed closed =
    (λ i. record (kept_view old) { me = me i; facts = facts i; acked = acked i; handed = handed i; closed = closed i })
    ∙ pick (owed old n)
  where
    owed : (s : StreamEnds) (m : Name) → Bool
    owed s m = Rattle.relay_core.specs.Knowledge.owes_fact s.ends.known.me s.ends.known.acked s.ends.known.facts m

    pick : (b : Bool) → (record (kept_view old) { acked = if b then old.ends.known.acked ++ n ∷ [] else old.ends.known.acked }) ≡ (if b then record (kept_view old) { acked = old.ends.known.acked ++ n ∷ [] } else kept_view old)
    pick true = refl
    pick false = refl

pub handed_view : (old new : StreamEnds) (n : Name) (sae : ℕ) → list_any (may_give old.ends.known.me n sae) old.ends.known.facts ≡ true → new.ends.handed ≡ marked old.ends.handed n sae →
    new.ends.known ≡ old.ends.known → new.closed ≡ old.closed → kept_view new ≡ view_record (Handed n sae) (kept_view old)
unfolding view_record
handed_view old new n sae fits handed known closed =
    (λ i. record (kept_view old) { me = (known i).me; facts = (known i).facts; acked = (known i).acked; handed = handed i; closed = closed i })
    ∙ sym (ap (λ (b : Bool). if b then record (kept_view old) { handed = marked old.ends.handed n sae } else kept_view old) fits)

pub unhanded_view : (old : StreamEnds) (n : Name) (sae : ℕ) → list_any (may_give old.ends.known.me n sae) old.ends.known.facts ≡ false → kept_view old ≡ view_record (Handed n sae) (kept_view old)
unfolding view_record
unhanded_view old n sae misfits = sym (ap (λ (b : Bool). if b then record (kept_view old) { handed = marked old.ends.handed n sae } else kept_view old) misfits)

pub closed_view : (old new : StreamEnds) (n : Name) (sae : ℕ) → list_any (may_close old.ends.known.me n) old.ends.known.facts ≡ true → new.closed ≡ marked old.closed n sae → new.ends ≡ old.ends →
    kept_view new ≡ view_record (Closed n sae) (kept_view old)
unfolding view_record
closed_view old new n sae fits closed ends =
    (λ i. record (kept_view old) { me = (ends i).known.me; facts = (ends i).known.facts; acked = (ends i).known.acked; handed = (ends i).handed; closed = closed i })
    ∙ sym (ap (λ (b : Bool). if b then record (kept_view old) { closed = marked old.closed n sae } else kept_view old) fits)

pub unclosed_view : (old : StreamEnds) (n : Name) (sae : ℕ) → list_any (may_close old.ends.known.me n) old.ends.known.facts ≡ false → kept_view old ≡ view_record (Closed n sae) (kept_view old)
unfolding view_record
unclosed_view old n sae misfits = sym (ap (λ (b : Bool). if b then record (kept_view old) { closed = marked old.closed n sae } else kept_view old) misfits)

pub bare_view : (s : StreamEnds) (f : Fact) → view_record (Bare f) (kept_view s) ≡ view_record (Learned f) (kept_view s)
unfolding view_record
bare_view s f = refl

pub block_view : (s : StreamEnds) (link number : ℕ) (bytes : List ℕ) → kept_view s ≡ view_record (Block link number bytes) (kept_view s)
unfolding view_record
block_view s link number bytes = refl

pub lease_view : (s : StreamEnds) (lane : Lane) (end : ℕ) → kept_view s ≡ view_record (Lease lane end) (kept_view s)
unfolding view_record
lease_view s lane end = refl

-- the room that is left

pub room_known : (s t : StreamEnds) → t.ends.known ≡ s.ends.known → t.ends.handed_spare ≡ s.ends.handed_spare → t.closed_spare ≡ s.closed_spare → (n : ℕ) → HasRoom s n → HasRoom t n
room_known s t known handed closed n room = record {
  facts = subst (λ (k : Knowledge). n ≤ k.facts_spare) (sym known) room.facts;
  acked = subst (λ (k : Knowledge). n ≤ k.acked_spare) (sym known) room.acked;
  handed = subst (λ (k : ℕ). n ≤ k) (sym handed) room.handed;
  closed = subst (λ (k : ℕ). n ≤ k) (sym closed) room.closed;
}

pub less_room : (s : StreamEnds) (n : ℕ) → HasRoom s (n + 1) → HasRoom s n
less_room s n room =
    let f = room.facts in
    let a = room.acked in
    let h = room.handed in
    let c = room.closed in
    record { facts = omega arith; acked = omega arith; handed = omega arith; closed = omega arith }

-- applying records in order

pub record IsTaking (first now : StreamEnds) (all rest : List Record) (left : ℕ) : Type 0 where
  pub leads : view_records rest (kept_view now) ≡ view_records all (kept_view first)
  pub room : HasRoom now (length rest)
  pub left_room : (n : ℕ) → HasRoom first (n + length all) → HasRoom now (n + length rest)
  pub long : left ≡ length rest

pub room_for_one : (first now : StreamEnds) (all rest : List Record) (left : ℕ) (r : Record) (rs : List Record) → IsTaking first now all rest left → rest ≡ r ∷ rs → HasRoom now 1
room_for_one first now all rest left r rs t e =
    let l = ap (λ (xs : List Record). length xs) e in
    let f = t.room.facts in
    let a = t.room.acked in
    let h = t.room.handed in
    let c = t.room.closed in
    record { facts = omega arith; acked = omega arith; handed = omega arith; closed = omega arith }

pub one_taken : (first now next : StreamEnds) (all rest rs : List Record) (left more : ℕ) (r : Record) → IsTaking first now all rest left → rest ≡ r ∷ rs → more ≡ length rs →
    kept_view next ≡ view_record r (kept_view now) → ((n : ℕ) → HasRoom now (n + 1) → HasRoom next n) → IsTaking first next all rs more
unfolding view_records
one_taken first now next all rest rs left more r t e long view room =
    let l : length rest ≡ length rs + 1 = ap (λ (xs : List Record). length xs) e ∙ plus (length rs) in
    record {
      leads = ap (view_records rs) view ∙ sym (ap (λ (xs : List Record). view_records xs (kept_view now)) e) ∙ t.leads;
      room = room (length rs) (subst (HasRoom now) l t.room);
      left_room = λ n h. room (n + length rs) (subst (HasRoom now) (ap (λ (k : ℕ). n + k) l ∙ plus_more n (length rs)) (t.left_room n h));
      long = long;
    }
  where
    plus : (k : ℕ) → suc k ≡ k + 1
    plus k = omega arith

    plus_more : (n k : ℕ) → n + (k + 1) ≡ n + k + 1
    plus_more n k = omega arith

pub all_taken : (first now : StreamEnds) (all rest : List Record) (left : ℕ) → IsTaking first now all rest left → left ≡ 0 → (kept_view now ≡ view_records all (kept_view first)) × ((n : ℕ) → HasRoom first (n + length all) → HasRoom now n)
unfolding view_records
all_taken first now all [] left t e = (t.leads, λ n h. subst (HasRoom now) (none n) (t.left_room n h))
  where
    none : (n : ℕ) → n + 0 ≡ n
    none n = omega arith
all_taken first now all (r ∷ rs) left t e = let l = t.long in absurd (omega arith)

pub taking_start : (first now : StreamEnds) (all rest records : List Record) (left : ℕ) → now ≡ first → rest ≡ all → all ≡ records → left ≡ length rest → HasRoom first (length records) → IsTaking first now all rest left
taking_start first now all rest records left same e is long room = record {
  leads = ap (λ (xs : List Record). view_records xs (kept_view now)) e ∙ ap (λ (s : StreamEnds). view_records all (kept_view s)) same;
  room = subst (λ (s : StreamEnds). HasRoom s (length rest)) (sym same) (subst (λ (xs : List Record). HasRoom first (length xs)) (sym (e ∙ is)) room);
  left_room = λ n h. subst (λ (s : StreamEnds). HasRoom s (n + length rest)) (sym same) (subst (λ (xs : List Record). HasRoom first (n + length xs)) (sym e) h);
  long = long;
}
