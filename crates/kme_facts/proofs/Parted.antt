-- What is shown of a group key, by its parts; and that a view agrees with the state.
use Rattle.std.proofs.Common.{◌≡◌, ℕ, Bool, true, false, cond, ◌&&◌, ◌||◌, List, [], ◌∷◌, refl, sym, ◌∙◌, ap, Option, Some, None, Result, Ok, Err}
use Rattle.std.specs.Prelude.{slice_get, filter, find, not, is_some, ◌==◌, if◌then◌else◌, IfSome, IfNone, IfOk}
use Rattle.std.specs.List.{list_any, list_all}
use Rattle.qkd_base.specs.Name.{Name}
use Rattle.net_model.specs.declared.fact.Fact.{Fact}
use Rattle.net_model.specs.declared.fact.Fact.TheVariants.{Key, Chunk, Stored, Open, Joined, Part}
use Rattle.net_model.specs.declared.held.Held.TheVariants.{Absent, Relayed}
use Rattle.net_model.specs.declared.reply.Reply.TheVariants.{Shown}
use Rattle.net_model.specs.Table.{part_of, parts_of, is_part_of, name_of, bytes_of, origin, target, fact_at, sae_at}
use Rattle.net_model.specs.World.{no_volatile}
use Rattle.net_model.specs.View.{View}
use Rattle.net_model.specs.Needed.{has_it, is_needed}
use Rattle.net_model.specs.Decision.{is_confirmed}
use Rattle.net_model.specs.Groups.{is_group_ready}
use Rattle.net_model.specs.Show.{needed_bytes, origin_state, target_state, shown_one, slave_has, master_has, bytes_shown, shown_at_target, shown_group, shown_part, shown, show}
use Rattle.law_base.proofs.Blind.{needed_alike}
use Rattle.relay_core.specs.Firsts.{IsFirstFrom, IsNoneFrom}
use Rattle.relay_core.proofs.Firsts.{first_any, none_any, first_find, none_find}
use Rattle.end_store.specs.Pooled.{ends_view}
use Rattle.stream_core.specs.Kept.{StreamEnds, Sees}
use Rattle.kme_facts.specs.declared.part_test.PartTest.TheVariants.{Unconfirmed, Here, Lacking, NeededHere}
use Rattle.kme_facts.specs.Parts.{passes}
use Rattle.kme_facts.proofs.Finding.{any_filtered}

-- the items that a filter keeps

module _ {A : Type 0} (t u : A → Bool) where
  all_filtered : (xs : List A) → list_all u (filter t xs) ≡ not (list_any (λ x. t x && not (u x)) xs)
  all_filtered [] = refl
  all_filtered (x ∷ xs) =
      elim (t x) as (λ b. list_all u (cond b (x ∷ filter t xs) (filter t xs)) ≡ not ((b && not (u x)) || list_any (λ y. t y && not (u y)) xs)) [
        | true ↦ elim (u x) as (λ b. (b && list_all u (filter t xs)) ≡ not (not b || list_any (λ y. t y && not (u y)) xs)) [ true ↦ all_filtered xs | false ↦ refl ]
        | false ↦ all_filtered xs
      ]

  pub find_filtered : (xs : List A) → find u (filter t xs) ≡ find (λ x. t x && u x) xs
  find_filtered [] = refl
  find_filtered (x ∷ xs) =
      elim (t x) as (λ b. find u (cond b (x ∷ filter t xs) (filter t xs)) ≡ (if b && u x then Some x else find (λ y. t y && u y) xs)) [
        | true ↦ ap (λ (o : Option A). if u x then Some x else o) (find_filtered xs)
        | false ↦ find_filtered xs
      ]

-- a list that isn't empty
record HasHead {A : Type 0} (xs : List A) : Type 0 where
  pub head : A
  pub rest : List A
  pub is : xs ≡ head ∷ rest

any_filter : {A : Type 0} (t : A → Bool) (xs : List A) → list_any t xs ≡ true → HasHead (filter t xs)
any_filter t [] h = cc
any_filter {A} t (x ∷ xs) h =
    elim (t x) as (λ b. (b || list_any t xs) ≡ true → HasHead (cond b (x ∷ filter t xs) (filter t xs))) [
      | true ↦ λ e. record { head = x; rest = filter t xs; is = refl }
      | false ↦ λ e. any_filter t xs e
    ] h

none_filter : {A : Type 0} (t : A → Bool) (xs : List A) → list_any t xs ≡ false → filter t xs ≡ []
none_filter t [] h = refl
none_filter {A} t (x ∷ xs) h =
    elim (t x) as (λ b. (b || list_any t xs) ≡ false → cond b (x ∷ filter t xs) (filter t xs) ≡ []) [
      | true ↦ λ e. cc
      | false ↦ λ e. none_filter t xs e
    ] h

find_none_filter : {A : Type 0} (t : A → Bool) (xs : List A) → find t xs ≡ None → filter t xs ≡ []
find_none_filter t [] h = refl
find_none_filter {A} t (x ∷ xs) h =
    elim (t x) as (λ b. (if b then Some x else find t xs) ≡ None → cond b (x ∷ filter t xs) (filter t xs) ≡ []) [
      | true ↦ λ e. cc
      | false ↦ λ e. find_none_filter t xs e
    ] h

record StartsWith {A : Type 0} (xs : List A) (x : A) : Type 0 where
  pub rest : List A
  pub is : xs ≡ x ∷ rest

find_filter : {A : Type 0} (t : A → Bool) (xs : List A) (x : A) → find t xs ≡ Some x → StartsWith (filter t xs) x
find_filter t [] x h = cc
find_filter {A} t (y ∷ ys) x h =
    elim (t y) as (λ b. (if b then Some y else find t ys) ≡ Some x → StartsWith (cond b (y ∷ filter t ys) (filter t ys)) x) [
      | true ↦ λ e. record { rest = filter t ys; is = let same : y ≡ x = cc in ap (λ (z : A). z ∷ filter t ys) same }
      | false ↦ λ e. find_filter t ys x e
    ] h

-- whether an item was found

pub found_any : {A : Type 0} (t : A → Bool) (xs : List A) (o : Option ℕ) (r : Bool) → IfSome o (IsFirstFrom t xs 0) → IfNone o (IsNoneFrom t xs 0) → is_some o ≡ not r → r ≡ not (list_any t xs)
found_any t xs None r some none e = turned false r e ∙ ap not (sym (none_any t xs none))
  where
    turned : (b c : Bool) → b ≡ not c → c ≡ not b
    turned b true h = ap not (sym h)
    turned b false h = ap not (sym h)
found_any t xs (Some p) r some none e = turned true r e ∙ ap not (sym (first_any t xs p some))
  where
    turned : (b c : Bool) → b ≡ not c → c ≡ not b
    turned b true h = ap not (sym h)
    turned b false h = ap not (sym h)

not_twice : (b : Bool) → not b ≡ true → b ≡ false
not_twice true h = cc
not_twice false h = refl

not_once : (b : Bool) → not b ≡ false → b ≡ true
not_once true h = refl
not_once false h = cc

-- a result that equals a value if it is `Ok` also equals any equal value

pub ok_same : {A E : Type 0} (r : Result A E) (a b : A) → IfOk r (λ x. x ≡ a) → a ≡ b → IfOk r (λ x. x ≡ b)
ok_same (Ok x) a b h e = h ∙ e
ok_same (Err x) a b h e = h

-- group keys

pub group_ready : (v : View) (n : Name) (r : Bool) → r ≡ not (list_any (λ f. is_part_of n f && passes v Unconfirmed f) v.facts) → r ≡ is_group_ready v n
group_ready v n r e = e ∙ sym (all_filtered (is_part_of n) (λ f. is_confirmed v (name_of f)) v.facts)

pub no_group : (v : View) (n : Name) → find (is_part_of n) v.facts ≡ None → Shown Absent [] ≡ shown_group v n (parts_of v.facts n)
no_group v n e = sym (ap (shown_group v n) (find_none_filter (is_part_of n) v.facts e))

pub group_at_origin : (v : View) (n : Name) (p : Fact) → find (is_part_of n) v.facts ≡ Some p → (origin p == v.me) ≡ true →
    Shown (origin_state (master_has v (part_of p)) (is_group_ready v n)) (needed_bytes v p) ≡ shown_group v n (parts_of v.facts n)
group_at_origin v n p e here =
    let starts = find_filter (is_part_of n) v.facts p e in
    sym (ap (shown_group v n) starts.is
    ∙ ap (λ (b : Bool). if b then Shown (origin_state (master_has v (part_of p)) (is_group_ready v n)) (needed_bytes v p) else shown_at_target v (filter (λ f. target f == v.me) (p ∷ starts.rest))) here)

pub group_elsewhere : (v : View) (n : Name) (p : Fact) → find (is_part_of n) v.facts ≡ Some p → (origin p == v.me) ≡ false →
    shown_at_target v (filter (λ f. target f == v.me) (parts_of v.facts n)) ≡ shown_group v n (parts_of v.facts n)
group_elsewhere v n p e here =
    let starts = find_filter (is_part_of n) v.facts p e in
    sym (ap (shown_group v n) starts.is
    ∙ ap (λ (b : Bool). if b then Shown (origin_state (master_has v (part_of p)) (is_group_ready v n)) (needed_bytes v p) else shown_at_target v (filter (λ f. target f == v.me) (p ∷ starts.rest))) here
    ∙ ap (λ (ps : List Fact). shown_at_target v (filter (λ f. target f == v.me) ps)) (sym starts.is))

abbrev pub here_of : View → Name → List Fact
here_of v n = filter (λ f. target f == v.me) (parts_of v.facts n)

here_any : (v : View) (n : Name) → list_any (λ f. target f == v.me) (parts_of v.facts n) ≡ list_any (λ f. is_part_of n f && passes v Here f) v.facts
here_any v n = any_filtered (is_part_of n) (λ f. target f == v.me) v.facts

pub none_here : (v : View) (n : Name) (r : Bool) → r ≡ not (list_any (λ f. is_part_of n f && passes v Here f) v.facts) → r ≡ true → Shown Absent [] ≡ shown_at_target v (here_of v n)
none_here v n r e h =
    let none = here_any v n ∙ not_twice (list_any (λ f. is_part_of n f && passes v Here f) v.facts) (sym e ∙ h) in
    sym (ap (shown_at_target v) (none_filter (λ f. target f == v.me) (parts_of v.facts n) none))

pub some_here : (v : View) (n : Name) (r given : Bool) (bytes : List ℕ) → r ≡ not (list_any (λ f. is_part_of n f && passes v Here f) v.facts) → r ≡ false →
    given ≡ not (list_any (λ f. is_part_of n f && passes v Lacking f) v.facts) → bytes ≡ bytes_shown v (find (λ f. is_part_of n f && passes v NeededHere f) v.facts) →
    Shown (target_state given) bytes ≡ shown_at_target v (here_of v n)
some_here v n r given bytes e h g b =
    let some = here_any v n ∙ not_once (list_any (λ f. is_part_of n f && passes v Here f) v.facts) (sym e ∙ h) in
    let head = any_filter (λ f. target f == v.me) (parts_of v.facts n) some in
    let all : given ≡ list_all (λ f. slave_has v (part_of f)) (here_of v n) =
    g ∙ sym (all_filtered (λ f. target f == v.me) (λ f. slave_has v (part_of f)) (parts_of v.facts n)
    ∙ ap not (any_filtered (is_part_of n) (λ f. (target f == v.me) && not (slave_has v (part_of f))) v.facts)) in
    let needed : bytes ≡ bytes_shown v (find (is_needed v) (here_of v n)) =
    b ∙ ap (bytes_shown v) (sym (find_filtered (λ f. target f == v.me) (is_needed v) (parts_of v.facts n) ∙ find_filtered (is_part_of n) (λ f. (target f == v.me) && is_needed v f) v.facts)) in
    (λ i. Shown (target_state (all i)) (needed i)) ∙ shown_head (here_of v n) head
  where
    shown_head : (ps : List Fact) → HasHead ps → Shown (target_state (list_all (λ f. slave_has v (part_of f)) ps)) (bytes_shown v (find (is_needed v) ps)) ≡ shown_at_target v ps
    shown_head [] head = let e : [] ≡ head.head ∷ head.rest = head.is in cc
    shown_head (p ∷ ps) head = refl

-- the bytes of a part

pub no_bytes : (v : View) (t : Fact → Bool) (bytes : List ℕ) → IsNoneFrom t v.facts 0 → bytes ≡ [] → bytes ≡ bytes_shown v (find t v.facts)
no_bytes v t bytes none e = e ∙ sym (ap (bytes_shown v) (none_find t v.facts none))

pub some_bytes : (v : View) (t : Fact → Bool) (place : ℕ) (f : Fact) → IsFirstFrom t v.facts 0 place → slice_get v.facts place ≡ Some f → bytes_of f ≡ bytes_shown v (find t v.facts)
some_bytes v t place f first there = sym (ap (bytes_shown v) (first_find t v.facts place first ∙ there))

-- a view that agrees with the state

abbrev four : View → View
four v = record { me = v.me; facts = v.facts; acked = v.acked; handed = v.handed; closed = []; ports = []; volatile = no_volatile }

module _ (v : View) where
  needs_four : (f : Fact) → is_needed (four v) f ≡ is_needed v f
  needs_four f = needed_alike (four v) v f (record { me = refl; acked = refl; handed = refl; facts = refl })

  bytes_four : (f : Fact) → needed_bytes (four v) f ≡ needed_bytes v f
  bytes_four f = ap (λ (b : Bool). if b then bytes_of f else []) (needs_four f)

  one_four : (f : Fact) → shown_one (four v) f ≡ shown_one v f
  one_four f =
      let bytes = bytes_four f in
      λ i. if origin f == v.me then Shown (origin_state (has_it v (name_of f) (sae_at v.facts true f)) (is_confirmed v (name_of f))) (bytes i)
      else if target f == v.me then Shown (target_state (has_it v (name_of f) (sae_at v.facts false f))) (bytes i)
      else Shown Relayed (bytes i)

  part_four : (f : Fact) → shown_part (four v) f ≡ shown_part v f
  part_four f = let bytes = bytes_four f in λ i. if (origin f == v.me) || (target f == v.me) then Shown Absent [] else Shown Relayed (bytes i)

  find_four : (fs : List Fact) → find (is_needed (four v)) fs ≡ find (is_needed v) fs
  find_four [] = refl
  find_four (f ∷ fs) = let one = needs_four f in let rest = find_four fs in λ i. if one i then Some f else rest i

  target_four : (fs : List Fact) → shown_at_target (four v) fs ≡ shown_at_target v fs
  target_four [] = refl
  target_four (f ∷ fs) = ap (λ (o : Option Fact). Shown (target_state (list_all (λ g. slave_has v (part_of g)) (f ∷ fs))) (bytes_shown v o)) (find_four (f ∷ fs))

  group_four : (n : Name) (fs : List Fact) → shown_group (four v) n fs ≡ shown_group v n fs
  group_four n [] = refl
  group_four n (f ∷ fs) =
      let bytes = bytes_four f in
      let here = target_four (filter (λ g. target g == v.me) (f ∷ fs)) in
      λ i. if origin f == v.me then Shown (origin_state (master_has v (part_of f)) (is_group_ready v n)) (bytes i) else here i

  shown_four : (n : Name) (o : Option Fact) → shown (four v) n o ≡ shown v n o
  shown_four n None = group_four n (parts_of v.facts n)
  shown_four n (Some (Key name master slave route bytes)) = one_four (Key name master slave route bytes)
  shown_four n (Some (Chunk name stream index route bytes)) = one_four (Chunk name stream index route bytes)
  shown_four n (Some (Part name key master slave route bytes)) = part_four (Part name key master slave route bytes)
  shown_four n (Some (Stored note about route)) = group_four n (parts_of v.facts n)
  shown_four n (Some (Open stream source peer size route)) = group_four n (parts_of v.facts n)
  shown_four n (Some (Joined note about route)) = group_four n (parts_of v.facts n)

pub show_seen : (v : View) (s : StreamEnds) (n : Name) → Sees v s → show (ends_view s.ends) n ≡ show v n
unfolding show
show_seen v s n sees =
    let me = sees.ends.me in
    let facts = sees.ends.facts in
    let acked = sees.ends.acked in
    let handed = sees.ends.handed in
    let same : four v ≡ ends_view s.ends = λ i. record (four v) { me = me i; facts = facts i; acked = acked i; handed = handed i } in
    sym (ap (λ (w : View). show w n) same) ∙ shown_four v n (fact_at v.facts n)
