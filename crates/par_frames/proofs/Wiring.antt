-- A lane's wire after calls of the lane: its earlier frames, and then those that it took.
use Rattle.std.proofs.Common.{◌≡◌, ℕ, ◌<◌, Bool, true, List, [], ◌∷◌, ◌++◌, length, map, take, refl, sym, ◌∙◌, ap, subst, append_assoc, arith, Option, Some, None, Result, Ok, Err}
use Rattle.std.specs.Prelude.{slice_get, slice_index_or, filter, is_some, IfSome}
use Rattle.std.specs.List.{flat_map, AllByRecursion}
use Rattle.std.proofs.lemmas.Bool.{lt-ltb}
use Rattle.std.proofs.lemmas.List.{length-append, append-nil, take_at}
use Rattle.std.proofs.lemmas.Option.{slice_get_within}
use Rattle.qkd_base.specs.declared.lane.Lane.{Lane}
use Rattle.net_model.specs.World.{Network, World}
use Rattle.net_model.specs.Action.{Environment}
use Rattle.net_model.specs.Frames.{octets_sent}
use Rattle.source_devices.specs.declared.wire.WireFailed.{WireFailed}
use Rattle.source_devices.specs.declared.wire.WireFailed.TheVariants.{Fault, Memory}
use Rattle.source_devices.specs.Frames.{TakesFrame, TakesAgain}
use Rattle.lane_sender.specs.Lane.{LaneForm}
use Rattle.lane_sender.specs.Sending.{answer_of, TakesEither, TakesNumbered}
use Rattle.law_base.proofs.Lists.{get_prefix}
use Rattle.law_parallel.specs.Puts.{LaneFrame, is_taken, octets_on_wire}
use Rattle.world_state.specs.Passed.{wire_answer}
use Rattle.world_state.proofs.Passed.{index_from, added, IsNumbered, told_more, tells_more}
use Rattle.par_frames.specs.LaneCalls.{LaneCall, ClaimsFor, PutsFor, RepeatsFor}
use Rattle.par_frames.proofs.Agreeing.{octets}
use Rattle.par_frames.proofs.Found.{new_frame, old_frame, puts_by}
use Rattle.par_frames.proofs.Good.{IsThere, Good}
use Rattle.par_frames.proofs.Stepping.{Leading}
use Rattle.source_devices.specs.declared.wire.Wire as Wire

-- What is added follows what is there.
added_behind : {A : Type 0} (answer : Result ℕ WireFailed) (xs : List A) (x : A) → added answer xs x ≡ xs ++ added answer [] x
added_behind (Ok n) xs x = refl
added_behind (Err e) xs x = sym (append-nil xs)

-- Putting the frame of a number again puts a frame with the same octets.
by_number : (old new : Option (List (List ℕ))) (answer : Result ℕ WireFailed) (all : List (List ℕ)) (n : ℕ) (frame : List ℕ) →
    IfSome old (λ x. x ≡ all) → slice_get all n ≡ Some frame → TakesAgain old new answer n → TakesFrame old new answer frame
by_number None new answer all n frame is at takes = takes
by_number (Some xs) new answer all n frame is at takes =
    subst (TakesFrame (Some xs) new answer) (ap (λ (ys : List (List ℕ)). slice_index_or ys n []) is ∙ index_from all n frame [] at) takes

module _ {X : Type 0} (wire_says : Wire.Ghosts X) where
  -- A wire has exactly these frames, as far as it tells.
  pub record Has (wire : X) (all : List (List ℕ)) : Type 0 where
    pub count : wire_says.counted wire ≡ length all
    pub tells : is_some (wire_says.frames wire) ≡ true
    pub told : IfSome (wire_says.frames wire) (λ x. x ≡ all)

  length_added : (answer : Result ℕ WireFailed) (old new : ℕ) (all : List (List ℕ)) (frame : List ℕ) → IsNumbered answer old new → old ≡ length all → new ≡ length (added answer all frame)
  length_added (Ok n) old new all frame h is = omega (arith, h.1, is, length-append all (frame ∷ []))
  length_added (Err e) old new all frame h is = h ∙ is

  has_more : (old new : X) (answer : Result ℕ WireFailed) (all : List (List ℕ)) (frame : List ℕ) → Has old all → TakesFrame (wire_says.frames old) (wire_says.frames new) answer frame →
      IsNumbered answer (wire_says.counted old) (wire_says.counted new) → Has new (all ++ added answer [] frame)
  has_more old new answer all frame h takes number =
      subst (Has new) (added_behind answer all frame) (record {
        count = length_added answer (wire_says.counted old) (wire_says.counted new) all frame number h.count;
        tells = tells_more (wire_says.frames old) (wire_says.frames new) answer frame h.tells takes;
        told = told_more (wire_says.frames old) (wire_says.frames new) answer all frame h.told takes;
      })

  module _ (cap : ℕ) (net : Network) (w : World) (l : Lane) (all : List LaneCall) where
    abbrev base : List (List ℕ)
    base = octets_on_wire net w l

    -- the octets of the frames that the wire took
    abbrev pub taken_of : List (LaneFrame × Environment) → List (List ℕ)
    taken_of ps = map (λ (p : LaneFrame × Environment). octets net w l p.0) (filter (λ (p : LaneFrame × Environment). is_taken p.1) ps)

    abbrev taken : List LaneCall → List (List ℕ)
    taken log = taken_of (flat_map (puts_by net w l all) log)

    taken_first : (f : LaneFrame) (answer : Result ℕ WireFailed) (ps : List (LaneFrame × Environment)) → added answer [] (octets net w l f) ++ taken_of ps ≡ taken_of ((f, wire_answer answer) ∷ ps)
    taken_first f (Ok n) ps = refl
    taken_first f (Err Fault) ps = refl
    taken_first f (Err Memory) ps = refl

    behind : (more : List (List ℕ)) (f : LaneFrame) (answer : Result ℕ WireFailed) (ps : List (LaneFrame × Environment)) →
        base ++ ((more ++ added answer [] (octets net w l f)) ++ taken_of ps) ≡ base ++ (more ++ taken_of ((f, wire_answer answer) ∷ ps))
    behind more f answer ps =
        ap (λ (xs : List (List ℕ)). base ++ xs) (append_assoc more (added answer [] (octets net w l f)) (taken_of ps) ∙ ap (λ (xs : List (List ℕ)). more ++ xs) (taken_first f answer ps))

    -- A repeat is put by its number or by its octets.
    takes_old : (number : Option ℕ) (more : List (List ℕ)) (wire : X) (after : Option (List (List ℕ))) (answer : Result ℕ WireFailed) (frame own : List ℕ) → own ≡ frame →
        IsThere net w l all number frame → Has wire (base ++ more) → TakesNumbered (wire_says.counted wire) (wire_says.frames wire) after answer number own → TakesFrame (wire_says.frames wire) after answer frame
    takes_old None more wire after answer frame own same there h takes = subst (TakesFrame (wire_says.frames wire) after answer) same takes
    takes_old (Some n) more wire after answer frame own same there h takes =
        let at : slice_get (base ++ more) n ≡ Some frame = get_prefix base more n frame there in
        let lt : n < wire_says.counted wire = omega (arith, slice_get_within (base ++ more) n frame at, h.count) in
        by_number (wire_says.frames wire) after answer (base ++ more) n frame h.told at
        (subst (λ (b : Bool). TakesEither b (wire_says.frames wire) after answer n own) (lt-ltb n (wire_says.counted wire) lt) takes)

    pub wired : (log : List LaneCall) (old new : LaneForm X) → Leading wire_says cap l (octets_sent net w l) old log new → AllByRecursion (Good net w l all) log → (more : List (List ℕ)) →
        Has old.wire (base ++ more) → Has new.wire (base ++ (more ++ taken log))
    wired [] old new h good more has =
        subst (Has new.wire) (ap (λ (xs : List (List ℕ)). base ++ xs) (sym (append-nil more))) (subst (λ (s : LaneForm X). Has s.wire (base ++ more)) h has)
    wired (ClaimsFor line o grant claimed ∷ log) old new h good more has =
        wired log h.0 new h.2 good.1 more (subst (λ (s : LaneForm X). Has s.wire (base ++ more)) (sym h.1.after) has)
    wired (PutsFor claim o claimed out ∷ log) old new h good more has =
        let f = new_frame net w l all claim o claimed out.line in
        let answer = answer_of out.sent in
        let takes = subst (TakesFrame (wire_says.frames old.wire) (wire_says.frames h.0.wire) answer) (take_at _ _ _ refl ∙ good.0.octets') h.1.taken in
        let more' = more ++ added answer [] (octets net w l f) in
        subst (Has new.wire) (behind more f answer (flat_map (puts_by net w l all) log))
        (wired log h.0 new h.2 good.1 more'
        (subst (Has h.0.wire) (append_assoc base more (added answer [] (octets net w l f))) (has_more old.wire h.0.wire answer (base ++ more) (octets net w l f) has takes h.1.number)))
    wired (RepeatsFor r out ∷ log) old new h good more has =
        let f = old_frame net w l all r out.line in
        let answer = answer_of out.sent in
        let takes = takes_old r.number more old.wire (wire_says.frames h.0.wire) answer (octets net w l f) (take r.length r.frame.octets) good.0.octets' good.0.there has h.1.taken in
        let more' = more ++ added answer [] (octets net w l f) in
        subst (Has new.wire) (behind more f answer (flat_map (puts_by net w l all) log))
        (wired log h.0 new h.2 good.1 more'
        (subst (Has h.0.wire) (append_assoc base more (added answer [] (octets net w l f))) (has_more old.wire h.0.wire answer (base ++ more) (octets net w l f) has takes h.1.number)))
