-- The counts of two lists of actions in order add up to the counts of both.
use Rattle.std.proofs.Common.{◌≡◌, ℕ, ◌+◌, ◌-◌, ◌^◌, ◌<◌, ◌≤◌, Bool, List, [], ◌∷◌, ◌++◌, length, refl, sym, ◌∙◌, ap, subst, arith, Option, Some, length-append}
use Rattle.std.specs.Prelude.{min, slice_get, count_by, cond}
use Rattle.std.specs.Option.{option_map}
use Rattle.std.specs.List.{filter_map}
use Rattle.std.proofs.lemmas.Option.{slice_get_within}
use Rattle.std.proofs.lemmas.List.Sums.{sum_by-append}
use Rattle.std.proofs.lemmas.List.Elements.{filter_map-append}
use Rattle.disk_model.specs.declared.arm.Armings.{Armings}
use Rattle.net_model.specs.Site.{Site}
use Rattle.net_model.specs.Action.{Action, Fault}
use Rattle.net_model.specs.Faults.{disk_faults, entropy_faults, device_faults, wire_faults, armings, is_disk_fault, is_random_fault, is_block_fault, is_wire_fault, fault_armed}
use Rattle.world_nodes.specs.Passed.{Post}
use Rattle.lane_sender.specs.Lane.{LaneForm}
use Rattle.world_nodes.proofs.LaneGoing.{get_within}
use Rattle.run_model.specs.Bench.{last_of_both}
use Rattle.run_ops.specs.Acting.{fault_of}
use Rattle.world_state.specs.Stands.{place_of}
use Rattle.world_state.specs.Tallied.{Counted, IsArmedBy, PostTallied, Tallied}
use Rattle.world_nodes.specs.Counts.{disk_of, entropy_of}
use Rattle.world_state.specs.declared.state.State.{State}
use Rattle.world_state.specs.Outside.{Outside}

-- counts

counted_most : (m n a b c top : ℕ) → min (a + m) top ≤ b → min (b + n) top ≤ c → min (a + (m + n)) top ≤ c
counted_most m n a b c top h k = omega (arith, h, k)

none_most : (a top : ℕ) → min (a + 0) top ≤ a
none_most a top = omega arith

none_before : (m n : ℕ) → m + n ≡ 0 → m ≡ 0
none_before m n none = omega arith

none_after : (m n : ℕ) → m + n ≡ 0 → n ≡ 0
none_after m n none = omega arith

pub counted_more : (m n a b c : ℕ) → Counted m a b → Counted n b c → Counted (m + n) a c
counted_more m n a b c h k = record { rose = counted_most m n a b c (2 ^ 64 - 1) h.rose k.rose; calm = λ none. k.calm (none_after m n none) ∙ h.calm (none_before m n none) }

pub none_counted : (a : ℕ) → Counted 0 a a
none_counted a = record { rose = none_most a (2 ^ 64 - 1); calm = λ none. refl }

count_both : {A : Type 0} (p : A → Bool) (xs ys : List A) → count_by p (xs ++ ys) ≡ count_by p xs + count_by p ys
count_both p xs ys = sum_by-append (λ x. cond (p x) 1 0) xs ys

some_same : {A : Type 0} {a b : A} → ◌≡◌ {A = Option A} (Some a) (Some b) → a ≡ b
some_same h = cc

within_same : {A : Type 0} (xs ys : List A) (i : ℕ) (x : A) → length ys ≡ length xs → slice_get xs i ≡ Some x → i < length ys
within_same xs ys i x same at = let below = slice_get_within xs i x at in omega (arith, same, below)

-- armings

last_more : (o : Option Fault) (xs ys : List Fault) → last_of_both o (xs ++ ys) ≡ last_of_both (last_of_both o xs) ys
last_more o [] ys = refl
last_more o (x ∷ xs) ys = last_more (Some x) xs ys

armed_more : (xs ys : List Fault) (a b c : Armings) → IsArmedBy xs a b → IsArmedBy ys b c → IsArmedBy (xs ++ ys) a c
armed_more xs ys a b c h k = record {
  times = let both = length-append xs ys in let p = h.times in let q = k.times in omega (arith, p, q, both);
  last = k.last ∙ ap (λ (o : Option Fault). last_of_both o ys) h.last ∙ sym (last_more (option_map fault_of a.last) xs ys);
}

-- posts

module _ {K Q E X : Type 0} (outside : Outside K Q E X) (site : Site) where
  post_more : (v : ℕ) (xs ys : List Action) (p q r : Post K E) → PostTallied outside.disk outside.entropy site v xs p q → PostTallied outside.disk outside.entropy site v ys q r →
      PostTallied outside.disk outside.entropy site v (xs ++ ys) p r
  unfolding disk_faults entropy_faults armings
  post_more v xs ys p q r h k =
      let same : h.now ≡ k.before = some_same (sym h.is ∙ k.was) in
      let fails : Counted (count_by (is_disk_fault site v) xs) (outside.disk.faults h.before) (outside.disk.faults k.before) =
      subst (λ (x : K). Counted (count_by (is_disk_fault site v) xs) (outside.disk.faults h.before) (outside.disk.faults x)) same h.failed in
      record {
        before = h.before;
        now = k.now;
        was = h.was;
        is = k.is;
        failed = subst (λ (n : ℕ). Counted n (outside.disk.faults h.before) (outside.disk.faults k.now)) (sym (count_both (is_disk_fault site v) xs ys)) (counted_more _ _ (outside.disk.faults h.before) (outside.disk.faults k.before) (outside.disk.faults k.now) fails k.failed);
        armed_with = subst (λ (fs : List Fault). IsArmedBy fs (outside.disk.armings h.before) (outside.disk.armings k.now)) (sym (filter_map-append (fault_armed v) xs ys))
            (armed_more (filter_map (fault_armed v) xs) (filter_map (fault_armed v) ys) (outside.disk.armings h.before) (outside.disk.armings k.before) (outside.disk.armings k.now)
            (subst (λ (x : K). IsArmedBy (filter_map (fault_armed v) xs) (outside.disk.armings h.before) (outside.disk.armings x)) same h.armed_with) k.armed_with);
        refused = subst (λ (n : ℕ). Counted n (outside.entropy.faults (entropy_of p)) (outside.entropy.faults (entropy_of r))) (sym (count_both (is_random_fault v) xs ys))
            (counted_more _ _ (outside.entropy.faults (entropy_of p)) (outside.entropy.faults (entropy_of q)) (outside.entropy.faults (entropy_of r)) h.refused k.refused);
      }

  abbrev All : State K Q E X → State K Q E X → List Action → Type 0
  All old new actions = Tallied outside old new site actions

  pub tallied_more : (a b c : State K Q E X) (xs ys : List Action) → All a b xs → All b c ys → All a c (xs ++ ys)
  unfolding device_faults wire_faults
  tallied_more a b c xs ys h k = record {
    nodes = k.nodes ∙ h.nodes;
    posts = λ v p r old new.
        let mid = get_within b.posts.items v (within_same a.posts.items b.posts.items v p h.nodes old) in
        post_more v xs ys p mid.0 r (h.posts v p mid.0 old mid.1) (k.posts v mid.0 r mid.1 new);
    links = k.links ∙ h.links;
    devices = λ link p r old new.
        let mid = get_within b.devices.items link (within_same a.devices.items b.devices.items link p h.links old) in
        subst (λ (n : ℕ). Counted n (outside.device.faults p) (outside.device.faults r)) (sym (count_both (is_block_fault link) xs ys))
        (counted_more _ _ (outside.device.faults p) (outside.device.faults mid.0) (outside.device.faults r) (h.devices link p mid.0 old mid.1) (k.devices link mid.0 r mid.1 new));
    sides = k.sides ∙ h.sides;
    wires = λ l p r old new.
        let mid = get_within b.lanes.items (place_of l) (within_same a.lanes.items b.lanes.items (place_of l) p h.sides old) in
        subst (λ (n : ℕ). Counted n (outside.wire.faults p.wire) (outside.wire.faults r.wire)) (sym (count_both (is_wire_fault l) xs ys))
        (counted_more _ _ (outside.wire.faults p.wire) (outside.wire.faults mid.0.wire) (outside.wire.faults r.wire) (h.wires l p mid.0 old mid.1) (k.wires l mid.0 r mid.1 new));
  }

  post_same : (v : ℕ) (p : Post K E) (k : K) → disk_of p ≡ Some k → PostTallied outside.disk outside.entropy site v [] p p
  unfolding disk_faults entropy_faults armings
  post_same v p k has = record {
    before = k;
    now = k;
    was = has;
    is = has;
    failed = none_counted (outside.disk.faults k);
    armed_with = record { times = omega arith; last = refl };
    refused = none_counted (outside.entropy.faults (entropy_of p));
  }

  pub none_tallied : (s : State K Q E X) → ((v : ℕ) (p : Post K E) → slice_get s.posts.items v ≡ Some p → (k : K) × (disk_of p ≡ Some k)) → All s s []
  unfolding device_faults wire_faults
  none_tallied s has = record {
    nodes = refl;
    posts = λ v p q old new.
        let same : p ≡ q = some_same (sym old ∙ new) in
        let disk = has v p old in
        subst (λ (x : Post K E). PostTallied outside.disk outside.entropy site v [] p x) same (post_same v p disk.0 disk.1);
    links = refl;
    devices = λ link p q old new. let same : p ≡ q = some_same (sym old ∙ new) in subst (λ (x : Q). Counted 0 (outside.device.faults p) (outside.device.faults x)) same (none_counted (outside.device.faults p));
    sides = refl;
    wires = λ l p q old new. let same : p ≡ q = some_same (sym old ∙ new) in subst (λ (x : LaneForm X). Counted 0 (outside.wire.faults p.wire) (outside.wire.faults x.wire)) same (none_counted (outside.wire.faults p.wire));
  }
