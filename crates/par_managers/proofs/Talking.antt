-- A worker's calls in its jobs, in order.
use Rattle.std.proofs.Common.{◌≡◌, ℕ, suc, ◌+◌, ◌<◌, Bool, true, false, List, [], ◌∷◌, ◌++◌, map, filter, length, refl, sym, ap, ap₂, subst, ◌∙◌, arith, append_assoc, append-nil, Option, Some, None}
use Rattle.std.specs.Prelude.{◌==◌, if◌then◌else◌, slice_get, IfSome}
use Rattle.std.specs.List.{AllByRecursion}
use Rattle.std.proofs.lemmas.List.{map-append}
use Rattle.std.proofs.lemmas.List.Elements.{filter-append}
use Rattle.block_run.specs.Jobs.{Chains}
use Rattle.law_base.proofs.Base.{eq_from}
use Rattle.net_model.specs.Tick.{Emission}
use Rattle.run_ops.specs.declared.job.Job.{Job}
use Rattle.lane_sender.specs.Lane.{LaneForm}
use Rattle.par_lanes.specs.declared.ask.LaneAsk.{LaneAsk}
use Rattle.par_lanes.specs.declared.ask.LaneAnswer.{LaneAnswer}
use Rattle.shared_objects.specs.declared.call.Call.{Call}
use Rattle.shared_objects.specs.Asked.{requests_on}
use Rattle.shared_objects.specs.Said.{Said, said_on, all_said}
use Rattle.shared_objects.specs.Laws.{said_behind}
use Rattle.par_managers.specs.declared.turn.Turn.{Turn}
use Rattle.par_lanes.specs.declared.emitted.Emitted.{Emitted}
use Rattle.par_lanes.specs.declared.frame_log.FrameLog.{FrameLog}
use Rattle.par_lanes.specs.Calls.{IsOf, CallAllBy, emitted_at}
use Rattle.par_lanes.specs.Saying.{desk_call, IsCalledFor}
use Rattle.par_lanes.specs.Emitting.{AreLogged}
use Rattle.par_managers.specs.declared.ask.PlanAsk.{PlanAsk}
use Rattle.par_managers.specs.declared.ask.PlanAnswer.{PlanAnswer}
use Rattle.par_managers.specs.declared.keep.Replied.{Replied}
use Rattle.par_managers.specs.declared.keep.Keep.{Keep}
use Rattle.par_managers.specs.Doing.{Ask, Answer, HasAsked, DidTurn, DidEntry, DoesJob}
use Rattle.par_managers.specs.Talking.{manager_call, line_asked, line_of, reply_kept, wanted_of, HasTurned, HasTalked}
use Rattle.par_managers.proofs.TalkCounting.{apart_test, none_said, lane_said}

all_append : {A : Type 0} (P : A → Type 0) (xs ys : List A) → AllByRecursion P xs → AllByRecursion P ys → AllByRecursion P (xs ++ ys)
all_append P [] ys h k = k
all_append P (x ∷ xs) ys h k = (h.0, all_append P xs ys h.1 k)

call_all_append : {X : Type 0} (side : LaneForm X) (xs ys : List (Emission × Emitted)) (cs ds : List (ℕ × (LaneAsk × LaneAnswer))) → CallAllBy side xs cs → CallAllBy side ys ds → CallAllBy side (xs ++ ys) (cs ++ ds)
call_all_append side [] ys cs ds h k = subst (λ (u : List (ℕ × (LaneAsk × LaneAnswer))). CallAllBy side ys (u ++ ds)) (sym h) k
call_all_append side (x ∷ xs) ys cs ds (first, rest, is, by, h) k =
    (first, rest ++ ds, ap (λ (u : List (ℕ × (LaneAsk × LaneAnswer))). u ++ ds) is ∙ append_assoc first rest ds, by, call_all_append side xs ys rest ds h k)

-- ---- logs

logged_none : (log : FrameLog) → AreLogged [] log log
logged_none log = record { whole = λ h. h; added = λ h. sym (append-nil log.frames.items) }

logged_more : (xs ys : List Emitted) (a b c : FrameLog) → AreLogged xs a b → AreLogged ys b c → AreLogged (xs ++ ys) a c
logged_more xs ys a b c h k = record {
  whole = λ w. h.whole (k.whole w);
  added = λ w. k.added w ∙ ap (λ (zs : List Emitted). zs ++ ys) (h.added (k.whole w)) ∙ append_assoc a.frames.items xs ys;
}

-- The frame was sent for its line.

its_line : (line : ℕ) (e : Emission) (out : Emitted) → IsOf line e out → IsOf out.line e out
its_line line e out of = subst (λ (n : ℕ). IsOf n e out) (sym of.line) of

of_lines : (line : ℕ) (xs : List (Emission × Emitted)) → AllByRecursion (λ (x : Emission × Emitted). IsOf line x.0 x.1) xs → AllByRecursion (λ (x : Emission × Emitted). IsOf x.1.line x.0 x.1) xs
of_lines line [] h = tt
of_lines line (x ∷ xs) h = (its_line line x.0 x.1 h.0, of_lines line xs h.1)

wanted_for : (line : ℕ) (xs : List (Emission × Emitted)) → AllByRecursion (λ (x : Emission × Emitted). IsOf line x.0 x.1) xs → map wanted_of xs ≡ map (λ (e : Emission). (line, e)) (map (λ (x : Emission × Emitted). x.0) xs)
wanted_for line [] h = refl
wanted_for line (x ∷ xs) h = ap₂ (λ (n : ℕ) (rest : List (ℕ × Emission)). (n, x.0) ∷ rest) h.0.line (wanted_for line xs h.1)

module _ {X : Type 0} (lanes : List (LaneForm X)) (first : ℕ) where
  Talked : Keep → List (Said Ask Answer) → Keep → Type 0
  Talked = HasTalked lanes first

  -- No job is left.
  talked_none : (keep : Keep) → keep.shift.items ≡ [] → HasTalked lanes first keep [] keep
  talked_none keep empty = record {
    mine = [];
    outs = [];
    kept = sym (append-nil keep.replies.items);
    logged = logged_none keep.log;
    of = tt;
    wanted = refl;
    nodes = tt;
    turned = λ v below. record { calls = []; are = refl; asked = sym (ap (λ (s : List (Option (Call Turn))). map line_of (requests_on v s)) empty); replied = refl };
    sent = λ i side there. record { calls = []; are = refl; by = refl };
  }

  -- A job calls no manager.
  talked_idle : (keep next after : Keep) (said later : List (Said Ask Answer)) → keep.shift.items ≡ None ∷ next.shift.items → DidEntry lanes first None said keep.replies.items keep.log next.replies.items next.log →
      HasTalked lanes first next later after → HasTalked lanes first keep (said ++ later) after
  talked_idle keep next after said later is did h =
      let silent : said ++ later ≡ later = ap (λ (s : List (Said Ask Answer)). s ++ later) did.0 in
      record {
        mine = h.mine;
        outs = h.outs;
        kept = h.kept ∙ ap (λ (rs : List Replied). rs ++ h.mine) did.1;
        logged = subst (λ (log : FrameLog). AreLogged (map (λ x. x.1) h.outs) log after.log) did.2 h.logged;
        of = h.of;
        wanted = h.wanted;
        nodes = h.nodes;
        turned = λ v below.
            let t = h.turned v below in
            record {
              calls = t.calls;
              are = ap (λ (s : List (Said Ask Answer)). said_on v s) silent ∙ t.are;
              asked = t.asked ∙ sym (ap (λ (s : List (Option (Call Turn))). map line_of (requests_on v s)) is);
              replied = t.replied;
            };
        sent = λ i side there.
            let t = h.sent i side there in
            record { calls = t.calls; are = ap (λ (s : List (Said Ask Answer)). said_on (first + i) s) silent ∙ t.are; by = t.by };
      }

  -- A job calls a manager.
  module _ (keep next after : Keep) (said later : List (Said Ask Answer)) (call : Call Turn) (is : keep.shift.items ≡ Some call ∷ next.shift.items) (below : call.machine < first)
      (did : DidTurn lanes first call said keep.replies.items keep.log next.replies.items next.log) (h : HasTalked lanes first next later after) where
    abbrev asked : HasAsked call did.front did.replied
    asked = did.asked

    abbrev line : ℕ
    line = did.replied.turned.place

    abbrev emitted : List (Emission × Emitted)
    emitted = did.put.emitted

    -- ---- the only call of the manager
    abbrev one_call : ℕ × (PlanAsk × PlanAnswer)
    one_call = (did.replied.at, (asked.ask, asked.answer))

    front_there : (i : ℕ) → (call.machine == i) ≡ true → said_on i did.front ≡ manager_call one_call ∷ []
    front_there i e = ap (λ (s : List (Said Ask Answer)). said_on i s) asked.are ∙ ap (λ (t : Bool). if t then manager_call one_call ∷ [] else []) e

    front_else : (i : ℕ) → (call.machine == i) ≡ false → said_on i did.front ≡ []
    front_else i e = ap (λ (s : List (Said Ask Answer)). said_on i s) asked.are ∙ ap (λ (t : Bool). if t then manager_call one_call ∷ [] else []) e

    said_here : (i : ℕ) → said_on i (said ++ later) ≡ said_on i did.front ++ (said_on i did.later ++ said_on i later)
    said_here i =
        said_behind i said later ∙ ap (λ (s : List (ℕ × (Ask × Answer))). s ++ said_on i later) (ap (λ (s : List (Said Ask Answer)). said_on i s) did.are ∙ said_behind i did.front did.later)
        ∙ append_assoc (said_on i did.front) (said_on i did.later) (said_on i later)

    line_is : line_asked one_call ≡ line_of call.request
    line_is i = (asked.asked.0 i, asked.asked.1 i)

    same_line : asked.ask.place ≡ line
    same_line = asked.asked.0 ∙ sym (ap (λ (r : Replied). r.turned.place) asked.is)

    reply_is : (v : ℕ) → (call.machine == v) ≡ true → reply_kept v one_call ≡ did.replied
    reply_is v e =
        ap₂ (λ (n place : ℕ). record { node = n; at = did.replied.at; turned = record { place = place; reply = asked.answer.reply } }) (sym (eq_from call.machine v e)) asked.asked.0 ∙ sym asked.is

    node_test : (v : ℕ) → (did.replied.node == v) ≡ (call.machine == v)
    node_test v = ap (λ (r : Replied). r.node == v) asked.is

    turned_at : (v : ℕ) → v < first → HasTurned v keep.shift.items (said ++ later) (did.replied ∷ h.mine)
    turned_at v low =
        let t = h.turned v low in
        let none : said_on v did.later ≡ [] = none_said lanes first v low emitted did.later did.put.called in
        let rest : said_on v did.later ++ said_on v later ≡ map manager_call t.calls = ap₂ (λ (a b : List (ℕ × (Ask × Answer))). a ++ b) none t.are in
        let requests : requests_on v keep.shift.items ≡ (if call.machine == v then call.request ∷ requests_on v next.shift.items else requests_on v next.shift.items) = ap (λ (s : List (Option (Call Turn))). requests_on v s) is in
        let mine : List Replied = filter (λ (r : Replied). r.node == v) h.mine in
        elim (call.machine == v) as (λ t. (call.machine == v) ≡ t → HasTurned v keep.shift.items (said ++ later) (did.replied ∷ h.mine)) [
          | true ↦ λ e. record {
            calls = one_call ∷ t.calls;
            are = said_here v ∙ ap₂ (λ (a b : List (ℕ × (Ask × Answer))). a ++ b) (front_there v e) rest;
            asked = ap₂ (λ (w : ℕ × Job) (ws : List (ℕ × Job)). w ∷ ws) line_is t.asked ∙ sym (ap (λ (xs : List Turn). map line_of xs) (requests ∙ ap (λ (b : Bool). if b then call.request ∷ requests_on v next.shift.items else requests_on v next.shift.items) e));
            replied = ap₂ (λ (r : Replied) (rs : List Replied). r ∷ rs) (reply_is v e) t.replied ∙ sym (ap (λ (b : Bool). if b then did.replied ∷ mine else mine) (node_test v ∙ e));
          }
          | false ↦ λ e. record {
            calls = t.calls;
            are = said_here v ∙ ap₂ (λ (a b : List (ℕ × (Ask × Answer))). a ++ b) (front_else v e) rest;
            asked = t.asked ∙ sym (ap (λ (xs : List Turn). map line_of xs) (requests ∙ ap (λ (b : Bool). if b then call.request ∷ requests_on v next.shift.items else requests_on v next.shift.items) e));
            replied = t.replied ∙ sym (ap (λ (b : Bool). if b then did.replied ∷ mine else mine) (node_test v ∙ e));
          }
        ] refl

    sent_at : (i : ℕ) (side : LaneForm X) → slice_get lanes i ≡ Some side → IsCalledFor side (first + i) i (emitted ++ h.outs) (said ++ later)
    sent_at i side there =
        let t = h.sent i side there in
        let now = lane_said lanes first i side there emitted did.later did.put.called in
        let not : (call.machine == first + i) ≡ false = apart_test call.machine (first + i) (λ same. omega (arith, same, below)) in
        record {
          calls = now.calls ++ t.calls;
          are = said_here (first + i) ∙ ap₂ (λ (a b : List (ℕ × (Ask × Answer))). a ++ b) (front_else (first + i) not) (ap₂ (λ (a b : List (ℕ × (Ask × Answer))). a ++ b) now.are t.are) ∙ sym (map-append desk_call now.calls t.calls);
          by = subst (λ (ys : List (Emission × Emitted)). CallAllBy side ys (now.calls ++ t.calls)) (sym (filter-append _ emitted h.outs)) (call_all_append side (emitted_at i emitted) (emitted_at i h.outs) now.calls t.calls now.by t.by);
        }

    talked_turn : HasTalked lanes first keep (said ++ later) after
    talked_turn = record {
      mine = did.replied ∷ h.mine;
      outs = emitted ++ h.outs;
      kept = h.kept ∙ ap (λ (rs : List Replied). rs ++ h.mine) did.kept ∙ append_assoc keep.replies.items (did.replied ∷ []) h.mine;
      logged = subst (λ (xs : List Emitted). AreLogged xs keep.log after.log) (sym (map-append (λ x. x.1) emitted h.outs)) (logged_more (map (λ x. x.1) emitted) (map (λ x. x.1) h.outs) keep.log next.log after.log did.put.logged h.logged);
      of = all_append (λ (x : Emission × Emitted). IsOf x.1.line x.0 x.1) emitted h.outs (of_lines line emitted did.put.of) h.of;
      wanted =
          map-append wanted_of emitted h.outs
          ∙ ap₂ (λ (a b : List (ℕ × Emission)). a ++ b) (wanted_for line emitted did.put.of ∙ ap (λ (es : List Emission). map (λ (e : Emission). (line, e)) es) did.put.wanted) h.wanted;
      nodes = (subst (λ (n : ℕ). n < first) (sym (ap (λ (r : Replied). r.node) asked.is)) below, h.nodes);
      turned = turned_at;
      sent = sent_at;
    }

  -- ---- all jobs
  one_left : (keep : Keep) (jobs : List ℕ) (entry : Option (Call Turn)) (shift : List (Option (Call Turn))) → keep.shift.items ≡ entry ∷ shift → length keep.shift.items ≡ suc (length jobs) → length shift ≡ length jobs
  one_left keep jobs entry shift is many = let e = ap (λ (s : List (Option (Call Turn))). length s) is in omega (arith, e, many)

  pub talks : (jobs : List ℕ) (keep next : Keep) (talk : List (ℕ × List (Said Ask Answer))) → Chains (DoesJob lanes first) jobs keep talk next → length keep.shift.items ≡ length jobs →
      AllByRecursion (λ entry. IfSome entry (λ call. call.machine < first)) keep.shift.items → HasTalked lanes first keep (all_said talk) next
  talks [] keep next talk (none, same) many below =
      subst (λ (t : List (ℕ × List (Said Ask Answer))). HasTalked lanes first keep (all_said t) next) (sym none)
      (subst (λ (k : Keep). HasTalked lanes first keep [] k) (sym same) (talked_none keep (empty keep.shift.items many)))
    where
      empty : (s : List (Option (Call Turn))) → length s ≡ 0 → s ≡ []
      empty [] e = refl
      empty (x ∷ xs) e = absurd (omega (arith, e))
  talks (job ∷ jobs) keep next talk (said, mid, rest, (entry, is, did), told, chain) many below =
      let lows = subst (λ (s : List (Option (Call Turn))). AllByRecursion (λ entry. IfSome entry (λ call. call.machine < first)) s) is below in
      let later = talks jobs mid next rest chain (one_left keep jobs entry mid.shift.items is many) lows.1 in
      subst (λ (t : List (ℕ × List (Said Ask Answer))). HasTalked lanes first keep (all_said t) next) (sym told) (by_entry entry is did lows.0 later)
    where
      by_entry : (entry : Option (Call Turn)) → keep.shift.items ≡ entry ∷ mid.shift.items → DidEntry lanes first entry said keep.replies.items keep.log mid.replies.items mid.log → IfSome entry (λ call. call.machine < first) →
          HasTalked lanes first mid (all_said rest) next → HasTalked lanes first keep (said ++ all_said rest) next
      by_entry None is did low later = talked_idle keep mid next said (all_said rest) is did later
      by_entry (Some call) is did low later = talked_turn keep mid next said (all_said rest) call is low did later
