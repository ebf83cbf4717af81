-- A worker's own turns send on a lane just the frames that the worker is to send there.
use Rattle.std.proofs.Common.{◌≡◌, ℕ, Bool, true, false, List, [], ◌∷◌, ◌++◌, map, refl, sym, ◌∙◌, ap, ap₂, subst, arith, Some}
use Rattle.std.specs.Prelude.{◌==◌, ◌%◌, cond, filter, slice_get}
use Rattle.std.specs.List.{flat_map, AllByRecursion}
use Rattle.std.proofs.lemmas.Grind.{flat_map-append}
use Rattle.std.proofs.lemmas.List.Elements.{filter-append}
use Rattle.std.proofs.lemmas.List.Folds.{flat_map-map}
use Rattle.qkd_base.specs.Lane.{lane_eq}
use Rattle.qkd_base.specs.declared.lane.Lane.{Lane}
use Rattle.net_model.specs.Site.{sender}
use Rattle.net_model.specs.World.{Network, World}
use Rattle.net_model.specs.Premises.{IsNetwork}
use Rattle.net_model.specs.Events.{is_lane}
use Rattle.net_model.specs.Action.{Outcome}
use Rattle.net_model.specs.Tick.{Emission}
use Rattle.run_model.specs.Works.{Work, Done, flat, done_from, wanted_put}
use Rattle.run_ops.specs.Together.{turn_done}
use Rattle.law_base.proofs.Base.{eq_from, eq_same, lane_eq_from, not_false}
use Rattle.law_base.proofs.Lists.{all_at, all_from, mapped_at}
use Rattle.shared_objects.proofs.Holding.{all_of_merge}
use Rattle.law_parallel.specs.Logs.{wanted_on}
use Rattle.law_parallel.specs.Putting.{lane_of, wanted_by}
use Rattle.law_parallel.specs.Workers.{of_worker}
use Rattle.law_parallel.proofs.Quiet.{sender_node}
use Rattle.world_state.proofs.Passed.{get_within, get-map}
use Rattle.par_frames.specs.Owning.{NodeTurn, told_by, wants_of, turns_at, SendsItsOwn, AreOwnTurns}
use Rattle.par_frames.proofs.Picking.{made_of_one, made_of_part}

-- lists of lists

kept_of_all : {A B : Type 0} (p : B → Bool) (f : A → List B) (xs : List A) → filter p (flat_map f xs) ≡ flat_map (λ x. filter p (f x)) xs
kept_of_all p f [] = refl
kept_of_all {B = B} p f (x ∷ xs) = filter-append p (f x) (flat_map f xs) ∙ ap (λ (ys : List B). filter p (f x) ++ ys) (kept_of_all p f xs)

of_flat : {A B : Type 0} (f : A → List B) (xss : List (List A)) → flat_map f (flat xss) ≡ flat_map (flat_map f) xss
of_flat f [] = refl
of_flat {B = B} f (xs ∷ xss) = flat_map-append f xs (flat xss) ∙ ap (λ (ys : List B). flat_map f xs ++ ys) (of_flat f xss)

nothing : {A B : Type 0} (f : A → List B) (xs : List A) → AllByRecursion (λ x. f x ≡ []) xs → flat_map f xs ≡ []
nothing f [] h = refl
nothing {B = B} f (x ∷ xs) h = ap₂ (λ (ys zs : List B). ys ++ zs) h.0 (nothing f xs h.1)

module _ (net : Network) (l : Lane) where
  abbrev v : ℕ
  v = sender net.site l

  abbrev on : ℕ × Emission → Bool
  on x = lane_eq (lane_of x.1) l

  -- A turn of another node sends nothing on the lane.

  other_lane : (line n : ℕ) (es : List Emission) → AllByRecursion (λ e. sender net.site (lane_of e) ≡ n) es → (n ≡ v → ⊥) → wanted_on l (map (λ e. (line, e)) es) ≡ []
  other_lane line n [] h apart = refl
  other_lane line n (e ∷ es) h apart = elim (lane_eq (lane_of e) l) as (λ t. lane_eq (lane_of e) l ≡ t → cond t ((line, e) ∷ wanted_on l (map (λ x. (line, x)) es)) (wanted_on l (map (λ x. (line, x)) es)) ≡ []) [
    | true ↦ λ f. absurd (apart (sym h.0 ∙ ap (sender net.site) (lane_eq_from (lane_of e) l f)))
    | false ↦ λ f. other_lane line n es h.1 apart
  ] refl

  module _ (workers k : ℕ) where
    abbrev wants : ℕ × Outcome → List (ℕ × Emission)
    wants p = map (λ e. (p.0, e)) (wanted_put p.1)

    -- the worker's part of a turn
    abbrev mine : ℕ × Outcome → List (ℕ × Emission)
    mine p = of_worker workers k (wanted_on l (wants p))

    -- The frames of the worker's own turns are its own, and no others.

    own_line : (line : ℕ) (es : List Emission) → (line % workers == k) ≡ true → of_worker workers k (wanted_on l (map (λ e. (line, e)) es)) ≡ wanted_on l (map (λ e. (line, e)) es)
    own_line line [] is = refl
    own_line line (e ∷ es) is =
        let rest = own_line line es is in
        let later : List (ℕ × Emission) = wanted_on l (map (λ x. (line, x)) es) in
        elim (lane_eq (lane_of e) l) as (λ t. of_worker workers k (cond t ((line, e) ∷ later) later) ≡ cond t ((line, e) ∷ later) later) [
          | true ↦ ap (λ (b : Bool). cond b ((line, e) ∷ of_worker workers k later) (of_worker workers k later)) is ∙ ap (λ (xs : List (ℕ × Emission)). (line, e) ∷ xs) rest
          | false ↦ rest
        ]

    other_line : (line : ℕ) (es : List Emission) → (line % workers == k) ≡ false → of_worker workers k (wanted_on l (map (λ e. (line, e)) es)) ≡ []
    other_line line [] is = refl
    other_line line (e ∷ es) is =
        let rest = other_line line es is in
        let later : List (ℕ × Emission) = wanted_on l (map (λ x. (line, x)) es) in
        elim (lane_eq (lane_of e) l) as (λ t. of_worker workers k (cond t ((line, e) ∷ later) later) ≡ []) [
          | true ↦ ap (λ (b : Bool). cond b ((line, e) ∷ of_worker workers k later) (of_worker workers k later)) is ∙ rest
          | false ↦ rest
        ]

    -- ---- all turns of one worker

    own_turns : (ts : List NodeTurn) → AllByRecursion (λ (t : NodeTurn). t.line % workers ≡ k) ts → AllByRecursion (SendsItsOwn net) ts →
        flat_map mine (map told_by (turns_at v ts)) ≡ wanted_on l (flat_map wants_of ts)
    own_turns [] lines sends = refl
    own_turns (t ∷ ts) lines sends =
        let rest = own_turns ts lines.1 sends.1 in
        let both = filter-append on (wants_of t) (flat_map wants_of ts) in
        elim (t.node == v) as (λ b. (t.node == v) ≡ b → flat_map mine (map told_by (cond b (t ∷ turns_at v ts) (turns_at v ts))) ≡ wanted_on l (flat_map wants_of (t ∷ ts))) [
          | true ↦ λ e.
              let one = own_line t.line (wanted_put t.outcome) (ap (λ (n : ℕ). n == k) lines.0 ∙ eq_same k) in
              ap₂ (λ (xs ys : List (ℕ × Emission)). xs ++ ys) one rest ∙ sym both
          | false ↦ λ e.
              let none = other_lane t.line t.node (wanted_put t.outcome) sends.0 (λ f. let no = sym e ∙ ap (λ (n : ℕ). n == v) f ∙ eq_same v in cc) in
              rest ∙ ap (λ (xs : List (ℕ × Emission)). xs ++ wanted_on l (flat_map wants_of ts)) (sym none) ∙ sym both
        ] refl

    -- ---- the turns of other workers, and of other nodes

    other_worker : (n : ℕ) (ts : List NodeTurn) → (n ≡ k → ⊥) → AllByRecursion (λ (t : NodeTurn). t.line % workers ≡ n) ts → (u : ℕ) → flat_map mine (map told_by (turns_at u ts)) ≡ []
    other_worker n [] apart lines u = refl
    other_worker n (t ∷ ts) apart lines u =
        let rest = other_worker n ts apart lines.1 u in
        elim (t.node == u) as (λ b. flat_map mine (map told_by (cond b (t ∷ turns_at u ts) (turns_at u ts))) ≡ []) [
          | true ↦
              let none = other_line t.line (wanted_put t.outcome) (not_false (t.line % workers == k) (λ e. apart (sym lines.0 ∙ eq_from (t.line % workers) k e))) in
              ap₂ (λ (xs ys : List (ℕ × Emission)). xs ++ ys) none rest
          | false ↦ rest
        ]

    other_node : (u : ℕ) (ts : List NodeTurn) → (u ≡ v → ⊥) → AllByRecursion (SendsItsOwn net) ts → AllByRecursion (λ p. mine p ≡ []) (map told_by (turns_at u ts))
    other_node u [] apart sends = tt
    other_node u (t ∷ ts) apart sends =
        let rest = other_node u ts apart sends.1 in
        elim (t.node == u) as (λ b. (t.node == u) ≡ b → AllByRecursion (λ p. mine p ≡ []) (map told_by (cond b (t ∷ turns_at u ts) (turns_at u ts)))) [
          | true ↦ λ e. (ap (of_worker workers k) (other_lane t.line t.node (wanted_put t.outcome) sends.0 (λ f. apart (sym (eq_from t.node u e) ∙ f))), rest)
          | false ↦ λ e. rest
        ] refl

    module _ (network : IsNetwork net) (w : World) (histories : List (List Work)) (own : List (List NodeTurn)) (h : AreOwnTurns net workers w histories own) (declared : is_lane net.site l ≡ true)
        (ts : List NodeTurn) (at : slice_get own k ≡ Some ts) where
      abbrev done : List Done
      done = done_from net w (flat histories)

      by_node : of_worker workers k (wanted_on l (wanted_by done)) ≡ flat_map (flat_map mine) h.turned
      by_node =
          ap (λ (xs : List (ℕ × Emission)). of_worker workers k (wanted_on l xs)) (sym (flat_map-map wants turn_done done) ∙ ap (flat_map wants) (sym h.told))
          ∙ ap (of_worker workers k) (kept_of_all on wants (flat h.turned)) ∙ kept_of_all (λ (x : ℕ × Emission). x.0 % workers == k) (λ p. wanted_on l (wants p)) (flat h.turned)
          ∙ of_flat mine h.turned

      others_none : (u : ℕ) (log : List (ℕ × Outcome)) → slice_get h.turned u ≡ Some log → (u ≡ v → ⊥) → flat_map mine log ≡ []
      others_none u log there apart =
          nothing mine log (all_of_merge (λ p. mine p ≡ []) (h.merged u log there)
          (all_from (AllByRecursion (λ p. mine p ≡ [])) (map (λ xs. map told_by (turns_at u xs)) own) (λ n part is.
          let x = mapped_at (λ xs. map told_by (turns_at u xs)) own part n is in
          subst (AllByRecursion (λ p. mine p ≡ [])) x.2 (other_node u x.0 apart (all_at (AllByRecursion (SendsItsOwn net)) own n x.0 h.sends x.1)))))

      there : (log : List (ℕ × Outcome)) × (slice_get h.turned v ≡ Some log)
      there = get_within h.turned v (let less = sender_node net network l declared in let long = h.managers in omega (arith, less, long))

      at_node : flat_map mine there.0 ≡ flat_map mine (map told_by (turns_at v ts))
      at_node =
          made_of_part mine k (map (λ xs. map told_by (turns_at v xs)) own) there.0 (map told_by (turns_at v ts)) (h.merged v there.0 there.1) (get-map (λ xs. map told_by (turns_at v xs)) own k ts at)
          (λ n part is apart.
          let x = mapped_at (λ xs. map told_by (turns_at v xs)) own part n is in
          ap (flat_map mine) (sym x.2) ∙ other_worker n x.0 apart (h.lines n x.0 x.1) v)

      pub own_wanted : of_worker workers k (wanted_on l (wanted_by done)) ≡ wanted_on l (flat_map wants_of ts)
      own_wanted =
          by_node ∙ made_of_one (flat_map mine) h.turned v there.0 there.1 (λ u log is apart. others_none u log is apart) ∙ at_node
          ∙ own_turns ts (h.lines k ts at) (all_at (AllByRecursion (SendsItsOwn net)) own k ts h.sends at)
