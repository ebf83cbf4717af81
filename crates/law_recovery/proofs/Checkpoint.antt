-- The records of a checkpoint, in sequence or in batches, build the manager for which they were written.
use Rattle.std.proofs.Common.{◌≡◌, ℕ, Bool, true, false, not, ◌&&◌, List, [], ◌∷◌, ◌++◌, ◌+◌, ◌/◌, length, append-nil, refl, sym, ◌∙◌, ap, subst, map}
use Rattle.std.specs.Prelude.{sum_by, if◌then◌else◌}
use Rattle.std.specs.List.{list_any}
use Rattle.std.proofs.lemmas.List.Folds.{list_any-append, flat_map-map}
use Rattle.qkd_base.specs.Name.{Name, has}
use Rattle.net_model.specs.declared.fact.Fact.{Fact}
use Rattle.net_model.specs.declared.record.Record.{Record}
use Rattle.net_model.specs.declared.record.Record.TheVariants.{Learned, Acked, Handed, Closed, Bare}
use Rattle.net_model.specs.Table.{PartOf, parts_of, name_of, is_secret, has_fact, learned, without_bytes, was_handed}
use Rattle.net_model.specs.Site.{Site}
use Rattle.net_model.specs.World.{no_volatile}
use Rattle.net_model.specs.Journal.{block_records, lease_records, fact_record, batch_len, batches_of, checkpoint_records, checkpoint_batches, checkpoint_need}
use Rattle.net_model.specs.View.{View, Port}
use Rattle.net_model.specs.Needed.{is_owed, is_needed, masked_fact, masked}
use Rattle.net_model.specs.Fold.{owes, is_handed_by, is_stream_of, view_record, view_records, view_restarted, empty_view, recovered_view}
use Rattle.law_base.proofs.Base.{was_not, and_left, and_right, or_left, when_true, when_false}
use Rattle.law_base.proofs.Grow.{Grows}
use Rattle.law_base.proofs.Tables.{at_prefix}
use Rattle.law_recovery.proofs.Shapes.{knowing, AllStay}
use Rattle.law_recovery.proofs.Staying.{needed_stays}
use Rattle.law_recovery.proofs.Ends.{is_here}
use Rattle.law_recovery.proofs.Starting.{at_lease}
use Rattle.law_recovery.specs.GivesBack.{GivesBack}
use Rattle.law_recovery.proofs.Accumulating.{StaysMasked, masked_then_more, records_then, stage_goes, stage_masked, batches_go}
use Rattle.law_recovery.proofs.Restarting.{recovered_masked, recovered_restarts}
use Rattle.law_recovery.proofs.Kept.{new_fact, may_ack, may_hand, may_close, IsKept, recovered_kept}
use Rattle.law_recovery.proofs.Spelled.{port_records, leased, leased_lease, all_spelled_ports, all_masked_ports}

-- What masking leaves unchanged stays unchanged under a view that needs no less.

prefix_same : (g : Fact → Fact) (prefix rest : List Fact) → map g (prefix ++ rest) ≡ prefix ++ rest → map g prefix ≡ prefix
prefix_same g [] rest h = refl
prefix_same g (f ∷ prefix) rest h =
    let one : g f ≡ f = cc in
    let more : map g (prefix ++ rest) ≡ prefix ++ rest = cc in
    let rest = prefix_same g prefix rest more in
    λ i. one i ∷ rest i

same_bytes : (u v : View) (f : Fact) → masked_fact v f ≡ f → (is_needed u f ≡ false → is_needed v f ≡ false) → masked_fact u f ≡ f
same_bytes u v f same stay = elim (is_needed u f) as (λ t. (t ≡ false → is_needed v f ≡ false) → (if t then f else without_bytes f) ≡ f) [
  | true ↦ λ k. refl
  | false ↦ λ k. sym (when_false (is_needed v f) f (without_bytes f) (k refl)) ∙ same
] stay

all_same : (u v : View) (fs : List Fact) → map (masked_fact v) fs ≡ fs → AllStay u v fs → map (masked_fact u) fs ≡ fs
all_same u v [] same stay = refl
all_same u v (f ∷ fs) same stay =
    let head : masked_fact v f ≡ f = cc in
    let tail : map (masked_fact v) fs ≡ fs = cc in
    let one = same_bytes u v f head stay.0 in
    let rest = all_same u v fs tail stay.1 in
    λ i. one i ∷ rest i

module _ (site : Site) (v : View) (kept : IsKept site v.me v) (whole : masked v ≡ v) where
  -- The view with only these parts of its lists.
  abbrev stage : List Fact → List Name → List (Name × ℕ) → List (Name × ℕ) → View
  stage facts acked handed closed =
      record { me = v.me; facts = facts; acked = acked; handed = handed; closed = closed; ports = map leased v.ports; volatile = no_volatile }

  whole_facts : map (masked_fact v) v.facts ≡ v.facts
  unfolding masked
  whole_facts = ap (λ (x : View). x.facts) whole

  all_stay : (fs : List Fact) (facts : List Fact) (acked : List Name) (handed closed : List (Name × ℕ)) → Grows facts v.facts → ((n : Name) → has acked n ≡ true → has v.acked n ≡ true) →
      ((n : Name) (sae : ℕ) → was_handed handed n sae ≡ true → was_handed v.handed n sae ≡ true) →
      ((p : PartOf) → was_handed handed p.key p.master ≡ true → list_any (is_owed (knowing v.me facts acked handed)) (parts_of facts p.key) ≡ false →
      list_any (is_owed (knowing v.me v.facts v.acked v.handed)) (parts_of v.facts p.key) ≡ false) →
      AllStay (stage facts acked handed closed) v fs
  unfolding is_needed
  all_stay [] facts acked handed closed grows acks hands parts = tt
  all_stay (f ∷ fs) facts acked handed closed grows acks hands parts = (
    needed_stays v.me facts v.facts acked v.acked handed v.handed grows acks hands f (λ p is at has' none. parts p has' none),
    all_stay fs facts acked handed closed grows acks hands parts,
  )

  still : (facts rest : List Fact) (acked more : List Name) (handed marks closed : List (Name × ℕ)) → facts ++ rest ≡ v.facts → acked ++ more ≡ v.acked → handed ++ marks ≡ v.handed →
      ((p : PartOf) → was_handed handed p.key p.master ≡ true → list_any (is_owed (knowing v.me facts acked handed)) (parts_of facts p.key) ≡ false →
      list_any (is_owed (knowing v.me v.facts v.acked v.handed)) (parts_of v.facts p.key) ≡ false) →
      masked (stage facts acked handed closed) ≡ stage facts acked handed closed
  unfolding masked
  still facts rest acked more handed marks closed fe ae he parts =
      let grows : Grows facts v.facts = λ n f k. subst (λ (fs : List Fact). Grows facts fs) fe (λ m g x. at_prefix facts rest m g x) n f k in
      let acks : (n : Name) → has acked n ≡ true → has v.acked n ≡ true =
      λ n k. ap (λ (ns : List Name). has ns n) (sym ae) ∙ list_any-append _ acked more ∙ or_left (has acked n) (has more n) k in
      let hands : (n : Name) (sae : ℕ) → was_handed handed n sae ≡ true → was_handed v.handed n sae ≡ true =
      λ n sae k. ap (λ (hs : List (Name × ℕ)). was_handed hs n sae) (sym he) ∙ list_any-append _ handed marks ∙ or_left (was_handed handed n sae) (was_handed marks n sae) k in
      let same : map (masked_fact v) facts ≡ facts =
      prefix_same (masked_fact v) facts rest (subst (λ (fs : List Fact). map (masked_fact v) fs ≡ fs) (sym fe) whole_facts) in
      let all = all_same (stage facts acked handed closed) v facts same (all_stay facts facts acked handed closed grows acks hands parts) in
      λ i. record (stage facts acked handed closed) { facts = all i }

  -- Each record appends its item.

  one_fact : (done : List Fact) (f : Fact) → new_fact done f ≡ true → view_record (fact_record v f) (stage done [] [] []) ≡ stage (done ++ f ∷ []) [] [] []
  unfolding view_record
  one_fact done f h =
      (elim (is_secret f && not (is_needed v f)) as (λ t. view_record (if t then Bare f else Learned f) (stage done [] [] []) ≡ stage (learned done f) [] [] []) [ true ↦ refl | false ↦ refl ]) ∙
      ap (λ (fs : List Fact). stage fs [] [] []) (when_false (has_fact done (name_of f)) done (done ++ f ∷ []) (was_not (has_fact done (name_of f)) h))

  one_ack : (done : List Name) (n : Name) → may_ack v.me v.facts done n ≡ true → view_record (Acked n) (stage v.facts done [] []) ≡ stage v.facts (done ++ n ∷ []) [] []
  unfolding view_record
  one_ack done n h = when_true (owes (stage v.facts done [] []) n) (stage v.facts (done ++ n ∷ []) [] []) (stage v.facts done [] []) h

  one_hand : (done : List (Name × ℕ)) (h : Name × ℕ) → may_hand v.me v.facts done h ≡ true →
      view_record (Handed h.0 h.1) (stage v.facts v.acked done []) ≡ stage v.facts v.acked (done ++ h ∷ []) []
  unfolding view_record
  one_hand done h may =
      let is_end : Bool = list_any (λ f. is_here v.me f && is_handed_by h.0 h.1 f) v.facts in
      let fresh = was_not (was_handed done h.0 h.1) (and_right is_end (not (was_handed done h.0 h.1)) may) in
      when_true is_end (stage v.facts v.acked (if was_handed done h.0 h.1 then done else done ++ h ∷ []) []) (stage v.facts v.acked done [])
      (and_left is_end (not (was_handed done h.0 h.1)) may) ∙
      ap (λ (hs : List (Name × ℕ)). stage v.facts v.acked hs []) (when_false (was_handed done h.0 h.1) done (done ++ h ∷ []) fresh)

  one_close : (done : List (Name × ℕ)) (h : Name × ℕ) → may_close v.me v.facts done h ≡ true →
      view_record (Closed h.0 h.1) (stage v.facts v.acked v.handed done) ≡ stage v.facts v.acked v.handed (done ++ h ∷ [])
  unfolding view_record
  one_close done h may =
      let here : Bool = list_any (λ f. is_here v.me f && is_stream_of h.0 f) v.facts in
      let fresh = was_not (was_handed done h.0 h.1) (and_right here (not (was_handed done h.0 h.1)) may) in
      when_true here (stage v.facts v.acked v.handed (if was_handed done h.0 h.1 then done else done ++ h ∷ [])) (stage v.facts v.acked v.handed done)
      (and_left here (not (was_handed done h.0 h.1)) may) ∙
      ap (λ (hs : List (Name × ℕ)). stage v.facts v.acked v.handed hs) (when_false (was_handed done h.0 h.1) done (done ++ h ∷ []) fresh)

  -- The records lead from one view to another.

  abbrev From : List Record → View → View → Type 0
  From rs a b = StaysMasked rs a × (view_records rs a ≡ b)

  then_from : (rs more : List Record) (a b c : View) → From rs a b → From more b c → From (rs ++ more) a c
  then_from rs more a b c h k = (
    masked_then_more rs more a h.0 (subst (StaysMasked more) (sym h.1) k.0),
    records_then rs more a ∙ ap (view_records more) h.1 ∙ k.1,
  )

  no_part : (p : PartOf) → was_handed [] p.key p.master ≡ true → (b c : Bool) → b ≡ false → c ≡ false
  no_part p h b c k = cc

  facts_from : From (map (fact_record v) v.facts) (stage [] [] [] []) (stage v.facts [] [] [])
  facts_from = (
    stage_masked (fact_record v) (λ fs. stage fs [] [] []) new_fact one_fact [] v.facts kept.lists.names
        (λ prefix rest e. still prefix rest [] v.acked [] v.handed [] e refl refl (λ p h k. no_part p h _ _ k)),
    stage_goes (fact_record v) (λ fs. stage fs [] [] []) new_fact one_fact [] v.facts kept.lists.names,
  )

  acks_from : From (map (λ n. Acked n) v.acked) (stage v.facts [] [] []) (stage v.facts v.acked [] [])
  acks_from = (
    stage_masked (λ n. Acked n) (λ ns. stage v.facts ns [] []) (may_ack v.me v.facts) one_ack [] v.acked kept.lists.acks
        (λ prefix rest e. still v.facts [] prefix rest [] v.handed [] (append-nil v.facts) e refl (λ p h k. no_part p h _ _ k)),
    stage_goes (λ n. Acked n) (λ ns. stage v.facts ns [] []) (may_ack v.me v.facts) one_ack [] v.acked kept.lists.acks,
  )

  hands_from : From (map (λ h. Handed h.0 h.1) v.handed) (stage v.facts v.acked [] []) (stage v.facts v.acked v.handed [])
  hands_from = (
    stage_masked (λ h. Handed h.0 h.1) (λ hs. stage v.facts v.acked hs []) (may_hand v.me v.facts) one_hand [] v.handed kept.lists.hands
        (λ prefix rest e. still v.facts [] v.acked [] prefix rest [] (append-nil v.facts) (append-nil v.acked) e (λ p h k. k)),
    stage_goes (λ h. Handed h.0 h.1) (λ hs. stage v.facts v.acked hs []) (may_hand v.me v.facts) one_hand [] v.handed kept.lists.hands,
  )

  closes_from : From (map (λ h. Closed h.0 h.1) v.closed) (stage v.facts v.acked v.handed []) (stage v.facts v.acked v.handed v.closed)
  closes_from = (
    stage_masked (λ h. Closed h.0 h.1) (λ hs. stage v.facts v.acked v.handed hs) (may_close v.me v.facts) one_close [] v.closed kept.lists.closes
        (λ prefix rest e. still v.facts [] v.acked [] v.handed [] prefix (append-nil v.facts) (append-nil v.acked) (append-nil v.handed) (λ p h k. k)),
    stage_goes (λ h. Closed h.0 h.1) (λ hs. stage v.facts v.acked v.handed hs) (may_close v.me v.facts) one_close [] v.closed kept.lists.closes,
  )

  ports_from : From (port_records v.ports) (empty_view site v.me) (stage [] [] [] [])
  ports_from = (all_masked_ports site v.me v.ports kept.lanes kept.ports, all_spelled_ports site v.me v.ports kept.lanes kept.ports)

  -- Lemmas on blocks, leases, facts and marks together.
  all_from : From (checkpoint_records v) (empty_view site v.me) (stage v.facts v.acked v.handed v.closed)
  unfolding checkpoint_records
  all_from =
      let ports : List Record = port_records v.ports in
      let facts : List Record = map (fact_record v) v.facts in
      let acks : List Record = map (λ n. Acked n) v.acked in
      let hands : List Record = map (λ h. Handed h.0 h.1) v.handed in
      let start : View = empty_view site v.me in
      let known = then_from ports facts start (stage [] [] [] []) (stage v.facts [] [] []) ports_from facts_from in
      let acked = then_from (ports ++ facts) acks start (stage v.facts [] [] []) (stage v.facts v.acked [] []) known acks_from in
      let handed = then_from (ports ++ facts ++ acks) hands start (stage v.facts v.acked [] []) (stage v.facts v.acked v.handed []) acked hands_from in
      then_from (ports ++ facts ++ acks ++ hands) (map (λ h. Closed h.0 h.1) v.closed) start (stage v.facts v.acked v.handed []) (stage v.facts v.acked v.handed v.closed) handed closes_from

  given : recovered_view site v.me (checkpoint_batches v) ≡ view_restarted v
  unfolding recovered_view view_restarted
  given =
      let ports = leased_lease v.ports in
      ap view_restarted (batches_go (checkpoint_records v) (empty_view site v.me) all_from.0 ∙ all_from.1) ∙
      (λ i. record v { volatile = no_volatile; ports = ports i })

-- A checkpoint depends only on the parts of a view that journals record.
same_checkpoint : (v : View) → checkpoint_batches (view_restarted v) ≡ checkpoint_batches v
unfolding checkpoint_records view_restarted is_needed
same_checkpoint v =
    let blocks = flat_map-map (λ (p : Port). block_records p.lane.link 0 p.blocks) at_lease v.ports in
    let leases = flat_map-map lease_records at_lease v.ports in
    ap (λ (rs : List Record). batches_of ((length rs + 65534) / 65535) rs)
    (λ i. blocks i ++ leases i ++ map (fact_record v) v.facts ++ map (λ n. Acked n) v.acked ++ map (λ h. Handed h.0 h.1) v.handed ++ map (λ h. Closed h.0 h.1) v.closed)

pub same_batches : (a b : View) → view_restarted a ≡ view_restarted b → checkpoint_batches a ≡ checkpoint_batches b
same_batches a b h = sym (same_checkpoint a) ∙ ap checkpoint_batches h ∙ same_checkpoint b

pub same_need : (a b : View) → view_restarted a ≡ view_restarted b → checkpoint_need a ≡ checkpoint_need b
unfolding checkpoint_need
same_need a b h = ap (λ (bs : List (List Record)). 1 + sum_by (batch_len 2) bs) (same_batches a b h)

pub checkpoint_given : (site : Site) (me : ℕ) (batches : List (List Record)) (v : View) → GivesBack site me batches v → GivesBack site me (checkpoint_batches v) v
checkpoint_given site me batches v h =
    let x : View = recovered_view site me batches in
    let kept : IsKept site me x = recovered_kept site me batches in
    let one = given site x (subst (λ (n : ℕ). IsKept site n x) (sym kept.me) kept) (recovered_masked site me batches) in
    let same : checkpoint_batches v ≡ checkpoint_batches x = same_batches v x (sym h ∙ recovered_restarts site me batches) in
    ap (recovered_view site me) same ∙ subst (λ (n : ℕ). recovered_view site n (checkpoint_batches x) ≡ view_restarted x) kept.me one ∙ sym (recovered_restarts site me batches) ∙ h
