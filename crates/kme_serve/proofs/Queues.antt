-- The connections that wait at ports, and which listeners take them.
use Rattle.std.proofs.Common.{◌≡◌, ◌⊎◌, inl, inr, ℕ, zero, suc, ◌+◌, ◌*◌, ◌/◌, ◌%◌, ◌<◌, ◌≤◌, List, [], ◌∷◌, ◌++◌, length, drop, sym, ap, subst, ◌∙◌, arith}
use Rattle.std.specs.Prelude.{Option, Some, None, Ok, MatchOption, slice_get, slice_set}
use Rattle.std.proofs.Math.Nat.{add-div_right, add-mod_right, div-add-mod, div-eq_of_lt, div-eq_of_lt-le, eq-or-lt_of_le, mod-eq_of_lt, mod-lt, mul-le-mul_left}
use Rattle.std.proofs.lemmas.List.{length-set}
use Rattle.std.proofs.lemmas.Option.{slice_get_within}
use Rattle.edge_io.specs.Connections.{IsFirstQueue}
use Rattle.kme_serve.specs.Door.{Door}
use Rattle.kme_serve.specs.Doors.{Queues, AreQueued, HaveFirstQueues}
use Rattle.kme_serve.specs.Twins.{IsTwinned}
use Rattle.kme_serve.proofs.Listeners.{last_cases, placed, set_there}

-- ---- one queue

-- a listener has the queue with this number
abbrev HasQueue : Queues → ℕ → Option (List (List ℕ)) → Type 0
HasQueue told number waiting = MatchOption told (Unit {0}) (λ queues. waiting ≡ slice_get queues number)

-- the queues from this number on are left
abbrev pub AreLeftFrom : Queues → ℕ → Queues → Type 0
AreLeftFrom told number left = MatchOption told (Unit {0}) (λ queues. left ≡ Some (drop number queues))

queue_taken : (number : ℕ) (queues : List (List (List ℕ))) (waiting : Option (List (List ℕ))) (left : Queues) → IsFirstQueue (Some (drop number queues)) waiting left →
    (waiting ≡ slice_get queues number) × (left ≡ Some (drop (suc number) queues))
queue_taken zero [] waiting left first = absurd first
queue_taken zero (queue ∷ queues) waiting left first = first
queue_taken (suc number) [] waiting left first = absurd first
queue_taken (suc number) (queue ∷ queues) waiting left first = queue_taken number queues waiting left first

first_taken : (told : Queues) (waiting : Option (List (List ℕ))) (left : Queues) → IsFirstQueue told waiting left → HasQueue told 0 waiting × AreLeftFrom told 1 left
first_taken None waiting left first = (tt, tt)
first_taken (Some queues) waiting left first = queue_taken zero queues waiting left first

next_taken : (told : Queues) (number : ℕ) (before : Queues) (waiting : Option (List (List ℕ))) (left : Queues) → AreLeftFrom told number before →
    IsFirstQueue before waiting left → HasQueue told number waiting × AreLeftFrom told (suc number) left
next_taken None number before waiting left from first = (tt, tt)
next_taken (Some queues) number before waiting left from first =
    queue_taken number queues waiting left (subst (λ (told : Queues). IsFirstQueue told waiting left) from first)

-- ---- which worker is the next one of its node

order : (a b : ℕ) → (a ≤ b) ⊎ (b < a)
order zero b = inl (omega arith)
order (suc a) zero = inr (omega arith)
order (suc a) (suc b) = elim (order a b) [ inl le ↦ inl (omega (arith, le)) | inr lt ↦ inr (omega (arith, lt)) ]

-- Fewer than `nodes` workers behind a worker, none is of the same node.
apart : (nodes place k : ℕ) → place < k → k < place + nodes → k % nodes ≡ place % nodes → ⊥
apart nodes place k later near same = elim (order (k / nodes) (place / nodes)) [
  | inl le ↦ let few = mul-le-mul_left nodes le in omega (arith, div-add-mod k nodes, div-add-mod place nodes, few)
  | inr lt ↦
      let more : nodes * (place / nodes + 1) ≤ nodes * (k / nodes) = mul-le-mul_left nodes (omega (arith, lt)) in
      let one : nodes * (place / nodes + 1) ≡ nodes * (place / nodes) + nodes = omega arith in
      omega (arith, div-add-mod k nodes, div-add-mod place nodes, more, one)
]

-- the first worker of a node that has no listener yet, while each listener is its node's first
second : (nodes many k : ℕ) → many ≤ nodes → many ≤ k → k < many + nodes → k % nodes < many → k / nodes ≡ 1
second nodes many k few from upto within = elim (order nodes k) [
  | inl le ↦ div-eq_of_lt-le {k = 1} nodes (omega (arith, le)) (omega (arith, few, upto))
  | inr lt ↦ absurd (let same = mod-eq_of_lt lt in omega (arith, same, within, from))
]

some_same : {A : Type 0} {o : Option A} {a b : A} → o ≡ Some a → o ≡ Some b → a ≡ b
some_same p q = cc

module _ {D : Type 0} (tell : D → Door) (twins : D → Queues) (queues : ℕ → Queues) (port : ℕ) where
  pub no_queues : (doors : List D) → doors ≡ [] → HaveFirstQueues tell twins queues port doors
  no_queues doors none k d at = absurd (let here : ◌≡◌ {A = Option D} None (Some d) = subst (λ (ds : List D). slice_get ds k ≡ Some d) none at in cc)

  -- one more port was opened
  pub next_first : (doors after : List D) (door : D) → after ≡ doors ++ door ∷ [] → HaveFirstQueues tell twins queues port doors →
      IsFirstQueue (queues (port + length doors)) (tell door).waiting (twins door) → HaveFirstQueues tell twins queues port after
  next_first doors after door is first last k d at = elim (last_cases doors door k d (subst (λ (ds : List D). slice_get ds k ≡ Some d) is at)) [
    | inl old ↦ first k d old
    | inr here ↦
        subst (λ (e : D). IsFirstQueue (queues (port + k)) (tell e).waiting (twins e)) (sym here.1)
        (subst (λ (n : ℕ). IsFirstQueue (queues (port + n)) (tell door).waiting (twins door)) (sym here.0) last)
  ]

module _ {D : Type 0} (tell : D → Door) (twins : D → Queues) (queues : ℕ → Queues) (port nodes : ℕ) where
  -- The listeners of the nodes keep the queues of the next `nodes` workers, and those behind them.
  abbrev pub AreLeft : (place : ℕ) → List D → Type 0
  AreLeft place doors =
      (k : ℕ) (d : D) → place ≤ k → k < place + nodes → slice_get doors (k % nodes) ≡ Some d → AreLeftFrom (queues (port + k % nodes)) (k / nodes) (twins d)

  module _ (doors : List D) (few : length doors ≤ nodes) (first : HaveFirstQueues tell twins queues port doors) where
    pub first_queued : AreQueued tell queues port nodes doors
    first_queued k d at =
        let within = slice_get_within doors k d at in
        let below : k < nodes = omega (arith, within, few) in
        subst (λ (n : ℕ). HasQueue (queues (port + n)) (k / nodes) (tell d).waiting) (sym (mod-eq_of_lt below))
        (subst (λ (n : ℕ). HasQueue (queues (port + k)) n (tell d).waiting) (sym (div-eq_of_lt below))
        (first_taken (queues (port + k)) (tell d).waiting (twins d) (first k d at)).0)

    pub first_left : AreLeft (length doors) doors
    first_left k d from upto at =
        let within : k % nodes < length doors = slice_get_within doors (k % nodes) d at in
        subst (λ (n : ℕ). AreLeftFrom (queues (port + k % nodes)) n (twins d)) (sym (second nodes (length doors) k few from upto within))
        (first_taken (queues (port + k % nodes)) (tell d).waiting (twins d) (first (k % nodes) d at)).1

  module _ {E : Type 0} (failed : D → ℕ) (place : ℕ) (before after all : List D) (twin : D) (t : IsTwinned {E = E} tell failed twins (place % nodes) before after (Ok twin))
      (is : all ≡ after ++ twin ∷ []) (long : length before ≡ place) (some : 0 < nodes) (left : AreLeft place before) where
    taken : HasQueue (queues (port + place % nodes)) (place / nodes) (tell twin).waiting × AreLeftFrom (queues (port + place % nodes)) (suc (place / nodes)) (twins t.left)
    taken = next_taken (queues (port + place % nodes)) (place / nodes) (twins t.asked) (tell twin).waiting (twins t.left) (left place t.asked (omega arith) (omega (arith, some)) t.asked_is) t.gives.2

    long_after : length after ≡ place
    long_after = ap length t.after_is ∙ length-set before (place % nodes) t.left ∙ long

    pub twin_queued : AreQueued tell queues port nodes before → AreQueued tell queues port nodes all
    twin_queued queued k d at = elim (last_cases after twin k d (subst (λ (ds : List D). slice_get ds k ≡ Some d) is at)) [
      | inl there ↦ elim (placed before (place % nodes) t.left k d (subst (λ (ds : List D). slice_get ds k ≡ Some d) t.after_is there)) [
        | inl asked ↦
            subst (λ (e : D). HasQueue (queues (port + k % nodes)) (k / nodes) (tell e).waiting) (sym asked.1)
            (subst (λ (door : Door). HasQueue (queues (port + k % nodes)) (k / nodes) door.waiting) (sym t.same)
            (queued k t.asked (subst (λ (n : ℕ). slice_get before n ≡ Some t.asked) (sym asked.0) t.asked_is)))
        | inr old ↦ queued k d old
      ]
      | inr last ↦
          subst (λ (e : D). HasQueue (queues (port + k % nodes)) (k / nodes) (tell e).waiting) (sym last.1)
          (subst (λ (n : ℕ). HasQueue (queues (port + n % nodes)) (n / nodes) (tell twin).waiting) (sym (last.0 ∙ long_after)) taken.0)
    ]

    pub twin_left : nodes ≤ place → AreLeft (place + 1) all
    twin_left many k d from upto at = elim (last_cases after twin (k % nodes) d (subst (λ (ds : List D). slice_get ds (k % nodes) ≡ Some d) is at)) [
      | inl there ↦
          let set : slice_get (slice_set before (place % nodes) t.left) (k % nodes) ≡ Some d = subst (λ (ds : List D). slice_get ds (k % nodes) ≡ Some d) t.after_is there in
          elim (eq-or-lt_of_le {n = k} {m = place + nodes} (omega (arith, upto))) [
            | inr near ↦ elim (placed before (place % nodes) t.left (k % nodes) d set) [
              | inl asked ↦ absurd (apart nodes place k (omega (arith, from)) near asked.0)
              | inr old ↦ left k d (omega (arith, from)) near old
            ]
            | inl last ↦ of_left k d last set
          ]
      | inr last ↦ absurd (let below : k % nodes < nodes = mod-lt k some in omega (arith, last.0, long_after, below, many))
    ] where
      of_left : (k : ℕ) (d : D) → k ≡ place + nodes → slice_get (slice_set before (place % nodes) t.left) (k % nodes) ≡ Some d → AreLeftFrom (queues (port + k % nodes)) (k / nodes) (twins d)
      of_left k d last set =
          let turn : k % nodes ≡ place % nodes = ap (λ (n : ℕ). n % nodes) last ∙ add-mod_right place nodes in
          let number : k / nodes ≡ suc (place / nodes) = ap (λ (n : ℕ). n / nodes) last ∙ add-div_right place some ∙ omega arith in
          let here : slice_get (slice_set before (place % nodes) t.left) (place % nodes) ≡ Some d = subst (λ (n : ℕ). slice_get (slice_set before (place % nodes) t.left) n ≡ Some d) turn set in
          let same : t.left ≡ d = some_same (set_there before (place % nodes) t.left t.asked t.asked_is) here in
          subst (λ (e : D). AreLeftFrom (queues (port + k % nodes)) (k / nodes) (twins e)) same
          (subst (λ (n : ℕ). AreLeftFrom (queues (port + n)) (k / nodes) (twins t.left)) (sym turn)
          (subst (λ (n : ℕ). AreLeftFrom (queues (port + place % nodes)) n (twins t.left)) (sym number) taken.1))
