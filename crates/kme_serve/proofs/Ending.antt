-- How a connection ends at an exchange.
use Rattle.std.proofs.Common.{◌≡◌, ◌⊎◌, ℕ, ◌<◌, Bool, true, false, not, List, [], ◌++◌, length, Option, Some, None, Ok, Err, refl, sym, ap, subst, ◌∙◌, arith, add-zero, append-nil, inl, inr}
use Rattle.std.specs.Prelude.{IsSome}
use Rattle.std.specs.Option.{option_map}
use Rattle.std.specs.Io.KnownBytes.{Consumes, Appends}
use Rattle.edge_io.specs.Writes.{AppendsPrefix, WritesUpTo}
use Rattle.edge_io.specs.declared.ended.Ended.{Ended}
use Rattle.edge_io.specs.declared.ended.Ended.TheVariants as endings
use Rattle.sae_entitlements.specs.Grants.{Grants}
use Rattle.http_front.specs.Front.{IsRefused}
use Rattle.http_front.specs.Reading.{IsAnswer, IsEnd, FaultsFor}
use Rattle.http_front.specs.Response.{response_text}
use Rattle.http_front.specs.declared.request.HttpRequest.{HttpRequest}
use Rattle.http_front.specs.declared.refusal.FrontRefusal.{FrontRefusal}
use Rattle.http_front.specs.declared.refusal.FrontRefusal.TheVariants as refusals
use Rattle.qkd014_api.specs.Texts.{error_response}
use Rattle.qkd014_api.specs.Fronts.{front_message}
use Rattle.kme_serve.specs.declared.turn.Turn.{Turn}
use Rattle.kme_serve.specs.Exchange.{Exchange, event_of, IsTurnOf, IsLost, answer_to, refusal_answer, text_with, text_of, closes}
use Rattle.kme_serve.specs.Turns.{Takes}
use Rattle.kme_serve.specs.Connection.{Moment, RoseOnly, is_read_fault, is_write_fault, EndsBy, IsServed}
use Rattle.kme_serve.specs.Owed.{Owes, IsUnpaid, IsGivenUp}
use Rattle.kme_serve.specs.Steps.{Edge, moment, IsAsked, IsUnread, IsNoRequest, IsRefusedBy, IsResponseTo, IsAnswered, StaysOpen}
use Rattle.kme_serve.proofs.Owing.{appends_none, prefix_more, wrote_behind, owes_paid, owes_unpaid, owes_more, owed_before}

consumes_none : (before after : Option (List ℕ)) → after ≡ before → Consumes before after []
consumes_none None after same = tt
consumes_none (Some xs) after same = subst (λ (known : Option (List ℕ)). Consumes (Some xs) known []) (sym same) refl

-- If a response tells the cause of a refusal, the source didn't fail.
calm_told : (e : FrontRefusal) (text : List ℕ) (before after : ℕ) → front_message e ≡ Some text → FaultsFor e before after → after ≡ before
calm_told refusals.ReadFault text before after told faults = cc
calm_told refusals.NoRequest text before after told faults = faults
calm_told refusals.BadHead text before after told faults = faults
calm_told refusals.TooManyHeaders text before after told faults = faults
calm_told refusals.HeadTooLong text before after told faults = faults
calm_told refusals.Chunked text before after told faults = faults
calm_told refusals.NoLength text before after told faults = faults
calm_told refusals.BadLength text before after told faults = faults
calm_told refusals.BodyTooLong text before after told faults = faults
calm_told refusals.EndOfInput text before after told faults = faults
calm_told refusals.Memory text before after told faults = faults

calm_unless : (e : FrontRefusal) (before after : ℕ) → ¬ (e ≡ refusals.ReadFault) → FaultsFor e before after → after ≡ before
calm_unless refusals.ReadFault before after other faults = absurd (other refl)
calm_unless refusals.NoRequest before after other faults = faults
calm_unless refusals.BadHead before after other faults = faults
calm_unless refusals.TooManyHeaders before after other faults = faults
calm_unless refusals.HeadTooLong before after other faults = faults
calm_unless refusals.Chunked before after other faults = faults
calm_unless refusals.NoLength before after other faults = faults
calm_unless refusals.BadLength before after other faults = faults
calm_unless refusals.BodyTooLong before after other faults = faults
calm_unless refusals.EndOfInput before after other faults = faults
calm_unless refusals.Memory before after other faults = faults

module _ (nodes : List (List ℕ)) (g : Grants) (node : ℕ) {P : Type 0} (Answers : P → Turn → P → Type 0) (seen : P → ℕ) where
  -- ---- if no request was read

  module _ (count : ℕ) (kept owed : List ℕ) (before after : Moment P) (octets : List ℕ) where
    -- Nothing is answered, and all octets are left.
    ends_unanswered : (ended : Ended) → count < 1000 → Consumes before.left after.left octets → after.pass ≡ before.pass
        → WritesUpTo before.taken after.taken (not (is_write_fault ended)) (owed ++ []) → EndsBy nodes g node ended count None (kept ++ octets) after.left []
        → RoseOnly (is_read_fault ended) before.read_faults after.read_faults → RoseOnly (is_write_fault ended) before.write_faults after.write_faults
        → IsServed nodes g node Answers seen count kept owed before after ended
    ends_unanswered ended few consumed pass written ends read_faults write_faults = record {
      octets = octets;
      consumed = consumed;
      answered = [];
      last = None;
      rest = kept ++ octets;
      means = refl;
      stays_open = tt;
      few = omega arith;
      events = tt;
      turns = pass;
      text = [];
      written = written;
      ends = subst (λ (n : ℕ). EndsBy nodes g node ended n None (kept ++ octets) after.left []) (sym (add-zero count)) ends;
      read_faults = read_faults;
      write_faults = write_faults;
    }

  module _ (count : ℕ) (kept kept_after : List ℕ) (before after : Moment P) (octets : List ℕ) where
    -- Octets that are no request are answered.
    ends_refused : (ended : Ended) (e : FrontRefusal) (text : List ℕ) → count < 1000 → Consumes before.left after.left octets → after.pass ≡ before.pass
        → front_message e ≡ Some text → IsRefused (kept ++ octets) e → WritesUpTo before.taken after.taken (not (is_write_fault ended)) (response_text (error_response 400 text true))
        → EndsBy nodes g node ended count (Some (record { read = Err e; turn = None })) (kept ++ octets) after.left (response_text (error_response 400 text true))
        → RoseOnly (is_read_fault ended) before.read_faults after.read_faults → RoseOnly (is_write_fault ended) before.write_faults after.write_faults
        → IsServed nodes g node Answers seen count kept [] before after ended
    ends_refused ended e text few consumed pass told refused written ends read_faults write_faults = record {
      octets = octets;
      consumed = consumed;
      answered = [];
      last = Some (record { read = Err e; turn = None });
      rest = kept ++ octets;
      means = (kept ++ octets, (refl, refused), refl);
      stays_open = tt;
      few = omega arith;
      events = (refl, tt);
      turns = (before.pass, refl, pass);
      text = response_text (error_response 400 text true);
      written = written;
      ends = subst (λ (n : ℕ). EndsBy nodes g node ended n (Some (record { read = Err e; turn = None })) (kept ++ octets) after.left (response_text (error_response 400 text true)))
          (sym (add-zero count)) ends;
      read_faults = read_faults;
      write_faults = write_faults;
    }

    has_message : (e : FrontRefusal) (text : List ℕ) → front_message e ≡ Some text → IsSome (option_map refusal_answer (front_message e))
    has_message e text told = subst (λ (message : Option (List ℕ)). IsSome (option_map refusal_answer message)) (sym told) refl

    its_text : (e : FrontRefusal) (text : List ℕ) → front_message e ≡ Some text
        → response_text (error_response 400 text true) ≡ text_of nodes g node true (record { read = Err e; turn = None })
    its_text e text told = ap (λ (message : Option (List ℕ)). text_with true (option_map refusal_answer message)) (sym told)

    pub refused_ends : (ended : Ended) (e : FrontRefusal) → count < 1000 → Consumes before.left after.left octets → after.pass ≡ before.pass
        → IsAnswer (kept ++ octets) kept_after after.left (Err e) → FaultsFor e before.read_faults after.read_faults
        → IsRefusedBy e before.taken after.taken before.write_faults after.write_faults ended → IsServed nodes g node Answers seen count kept [] before after ended
    refused_ends endings.Closed e few consumed pass answer faults by =
        elim by.0 [
          | inl none ↦
              ends_unanswered count kept [] before after octets endings.Closed few consumed pass (appends_none before.taken after.taken none.1)
              (subst (IsRefused (kept ++ octets)) none.0 answer.1, subst (λ (cause : FrontRefusal). IsEnd cause after.left) none.0 answer.2, refl)
              (subst (λ (cause : FrontRefusal). FaultsFor cause before.read_faults after.read_faults) none.0 faults) by.1
          | inr told ↦
              ends_refused endings.Closed e told.0 few consumed pass told.1 answer.1 told.2
              (refl, has_message e told.0 told.1, answer.2, its_text e told.0 told.1) (calm_told e told.0 _ _ told.1 faults) by.1
        ]
    refused_ends endings.ReadFault e few consumed pass answer faults by =
        ends_unanswered count kept [] before after octets endings.ReadFault few consumed pass (appends_none before.taken after.taken by.0.1) refl
        (subst (λ (cause : FrontRefusal). FaultsFor cause before.read_faults after.read_faults) by.0.0 faults) by.1
    refused_ends endings.WriteFault e few consumed pass answer faults by =
        let told = by.0 in
        ends_refused endings.WriteFault e told.0 few consumed pass told.1 answer.1 told.2
        (inl (has_message e told.0 told.1), answer.2, its_text e told.0 told.1) (calm_told e told.0 _ _ told.1 faults) by.1
    refused_ends endings.Memory e few consumed pass answer faults by =
        ends_unanswered count kept [] before after octets endings.Memory few consumed pass (appends_none before.taken after.taken by.1) refl (calm_unless e _ _ by.0 faults) by.2

  -- What was owed was written first.
  pub paid_first : (count : ℕ) (kept owed : List ℕ) (before after : Moment P) (paid : Option (List ℕ)) (ended : Ended) → Appends before.taken paid owed
      → IsServed nodes g node Answers seen count kept [] (record before { taken = paid }) after ended → IsServed nodes g node Answers seen count kept owed before after ended
  paid_first count kept owed before after paid ended first later = record {
    octets = later.octets;
    consumed = later.consumed;
    answered = later.answered;
    last = later.last;
    rest = later.rest;
    means = later.means;
    stays_open = later.stays_open;
    few = later.few;
    events = later.events;
    turns = later.turns;
    text = later.text;
    written = wrote_behind before.taken paid after.taken (not (is_write_fault ended)) owed _ first later.written;
    ends = later.ends;
    read_faults = later.read_faults;
    write_faults = later.write_faults;
  }

  -- The connection ends because no request was read.
  pub next_ends : (count : ℕ) (kept kept_after owed owed_after : List ℕ) (before after : Edge) (pass : P) (ended : Ended) → count < 1000 → (0 < length owed → 0 < count)
      → IsUnread kept kept_after owed owed_after before after ended ⊎ IsNoRequest kept kept_after owed owed_after before after ended
      → IsServed nodes g node Answers seen count kept owed (moment before pass) (moment after pass) ended
  next_ends count kept kept_after owed owed_after before after pass ended few room (inl unread) =
      subst (λ (e : Ended). IsServed nodes g node Answers seen count kept owed (moment before pass) (moment after pass) e) (sym unread.ended)
      (ends_unanswered count kept owed (moment before pass) (moment after pass) [] endings.WriteFault few (consumes_none before.left after.left unread.left) refl
      (prefix_more before.taken after.taken owed [] unread.unpaid.0) (room unread.unpaid.2, refl) unread.read_faults unread.unpaid.1)
  next_ends count kept kept_after owed owed_after before after pass ended few room (inr none) =
      paid_first count kept owed (moment before pass) (moment after pass) none.paid ended none.wrote
      (refused_ends count kept kept_after (record (moment before pass) { taken = none.paid }) (moment after pass) none.octets ended none.cause few none.consumed refl none.answer
      none.faults none.refused)

  -- ---- if a request was read

  module _ (count : ℕ) (kept kept_after owed owed_mid : List ℕ) (edge mid : Edge) (pass pass_after : P) (taken : Option (List ℕ)) (faults : ℕ) (q : HttpRequest) (few : count < 1000)
      (room : 0 < length owed → 0 < count) (came : IsAsked kept kept_after owed owed_mid edge mid q) where
    abbrev before : Moment P
    before = moment edge pass

    abbrev after : Moment P
    after = moment (record mid { taken = taken; write_faults = faults }) pass_after

    -- The response to the request has this text.
    ends_asked : (ended : Ended) (turn : Option Turn) (text : List ℕ) → IsTurnOf (event_of g node (Ok q)) turn → Takes Answers seen pass turn pass_after
        → WritesUpTo edge.taken taken (not (is_write_fault ended)) (owed ++ text)
        → EndsBy nodes g node ended count (Some (record { read = Ok q; turn = turn })) kept_after mid.left text
        → RoseOnly (is_read_fault ended) edge.read_faults mid.read_faults → RoseOnly (is_write_fault ended) edge.write_faults faults
        → IsServed nodes g node Answers seen count kept owed before after ended
    ends_asked ended turn text event takes written ends read_faults write_faults = record {
      octets = came.octets;
      consumed = came.consumed;
      answered = [];
      last = Some (record { read = Ok q; turn = turn });
      rest = kept_after;
      means = (kept_after, came.request, refl);
      stays_open = tt;
      few = omega arith;
      events = (event, tt);
      turns = (pass_after, takes, refl);
      text = text;
      written = written;
      ends = subst (λ (n : ℕ). EndsBy nodes g node ended n (Some (record { read = Ok q; turn = turn })) kept_after mid.left text) (sym (add-zero count)) ends;
      read_faults = read_faults;
      write_faults = write_faults;
    }

    risen : RoseOnly true mid.write_faults faults → RoseOnly true edge.write_faults faults
    risen rose = subst (λ (n : ℕ). RoseOnly true n faults) came.write_faults rose

    -- A prefix of the owed octets is also a prefix of the owed octets and a response.
    first_part : (text : List ℕ) → AppendsPrefix mid.taken taken owed_mid → AppendsPrefix edge.taken taken (owed ++ text)
    first_part text unpaid =
        prefix_more edge.taken taken owed text
        (subst (AppendsPrefix edge.taken taken) (append-nil owed) (owes_unpaid edge.taken mid.taken taken owed [] owed_mid came.owes unpaid))

    -- Memory ran out.
    ends_wanting : (ended : Ended) (turn : Option Turn) → (turn ≡ None) ⊎ (IsTurnOf (event_of g node (Ok q)) turn × IsLost turn) → Takes Answers seen pass turn pass_after
        → IsGivenUp mid.taken taken mid.write_faults faults owed_mid ended → IsServed nodes g node Answers seen count kept owed before after ended
    ends_wanting endings.Memory turn (inl none) takes up =
        ends_unanswered count kept owed before after came.octets endings.Memory few came.consumed (subst (λ (t : Option Turn). Takes Answers seen pass t pass_after) none takes)
        (owes_paid edge.taken mid.taken taken owed [] owed_mid came.owes up.0) refl came.read_faults (up.1 ∙ came.write_faults)
    ends_wanting endings.Memory turn (inr asked) takes up =
        ends_asked endings.Memory turn [] asked.0 takes (owes_paid edge.taken mid.taken taken owed [] owed_mid came.owes up.0) (asked.1, refl) came.read_faults
        (up.1 ∙ came.write_faults)
    ends_wanting endings.WriteFault turn (inl none) takes up =
        ends_unanswered count kept owed before after came.octets endings.WriteFault few came.consumed (subst (λ (t : Option Turn). Takes Answers seen pass t pass_after) none takes)
        (first_part [] up.0) (room (owed_before edge.taken mid.taken owed owed_mid came.owes up.2), refl) came.read_faults (risen up.1)
    ends_wanting endings.WriteFault turn (inr asked) takes up =
        ends_asked endings.WriteFault turn (text_of nodes g node (closes count (Ok q)) (record { read = Ok q; turn = turn })) asked.0 takes (first_part _ up.0)
        (inr asked.1, tt, refl) came.read_faults (risen up.1)
    ends_wanting endings.Closed turn is takes up = absurd up
    ends_wanting endings.ReadFault turn is takes up = absurd up

    pub memory_ends : {E : Type 0} (close : Bool) (m : E) (ended : Ended) → IsAnswered nodes g node Answers seen q close pass pass_after (Err m)
        → IsGivenUp mid.taken taken mid.write_faults faults owed_mid ended → IsServed nodes g node Answers seen count kept owed before after ended
    memory_ends close m ended answered up = ends_wanting ended answered.turn answered.response answered.takes up

    module _ {E : Type 0} (text : List ℕ) (close : Bool) (answered : IsAnswered nodes g node Answers seen {E = E} q close pass pass_after (Ok text))
        (same : close ≡ closes count (Ok q)) where
      abbrev its : Exchange
      its = record { read = Ok q; turn = answered.turn }

      is : IsResponseTo nodes g node {E = E} q close answered.turn (Ok text)
      is = answered.response

      has_answer : IsSome (answer_to nodes g node its)
      has_answer = subst IsSome (sym is.1.1) refl

      its_own_text : text ≡ text_of nodes g node close its
      its_own_text = is.1.2 ∙ ap (text_with close) (sym is.1.1)

      -- The sink failed.
      write_ends : AppendsPrefix edge.taken taken (owed ++ text_of nodes g node (closes count (Ok q)) its) → RoseOnly true mid.write_faults faults
          → IsServed nodes g node Answers seen count kept owed before after endings.WriteFault
      write_ends first rose =
          ends_asked endings.WriteFault answered.turn (text_of nodes g node (closes count (Ok q)) its) is.0 answered.takes first (inl has_answer, tt, refl) came.read_faults (risen rose)

      -- The response was not added to the owed octets.
      pub fault_ends : IsUnpaid mid.taken taken mid.write_faults faults owed_mid → IsServed nodes g node Answers seen count kept owed before after endings.WriteFault
      fault_ends unpaid = write_ends (first_part _ unpaid.0) unpaid.1

      -- The response was added to the owed octets, which are then written or not.
      module _ (owed_now : List ℕ) (now : Option (List ℕ)) (owes : Owes mid.taken now owed_mid text owed_now) where
        owes_all : Owes edge.taken now owed text owed_now
        owes_all = owes_more edge.taken mid.taken now owed [] owed_mid came.owes text owed_now owes

        pub response_closes : close ≡ true → Appends now taken owed_now → faults ≡ mid.write_faults → IsServed nodes g node Answers seen count kept owed before after endings.Closed
        response_closes closing paid calm =
            ends_asked endings.Closed answered.turn text is.0 answered.takes (owes_paid edge.taken now taken owed text owed_now owes_all paid)
            (sym same ∙ closing, has_answer, tt, its_own_text ∙ ap (λ (c : Bool). text_of nodes g node c its) closing) came.read_faults (calm ∙ came.write_faults)

        pub response_fails : IsUnpaid now taken mid.write_faults faults owed_now → IsServed nodes g node Answers seen count kept owed before after endings.WriteFault
        response_fails unpaid =
            write_ends
            (subst (λ (t : List ℕ). AppendsPrefix edge.taken taken (owed ++ t)) (its_own_text ∙ ap (λ (c : Bool). text_of nodes g node c its) same)
            (owes_unpaid edge.taken now taken owed text owed_now owes_all unpaid.0)) unpaid.1

      pub response_stays : (owed_now : List ℕ) → Owes mid.taken taken owed_mid text owed_now → close ≡ false → faults ≡ mid.write_faults
          → StaysOpen nodes g node Answers seen count kept kept_after owed owed_now before after
      response_stays owed_now owes staying calm = record {
        octets = came.octets;
        consumed = came.consumed;
        exchange = its;
        means = came.request;
        stays = sym same ∙ staying;
        answered = has_answer;
        event = is.0;
        takes = answered.takes;
        owes = subst (λ (t : List ℕ). Owes edge.taken taken owed t owed_now) (its_own_text ∙ ap (λ (c : Bool). text_of nodes g node c its) staying)
            (owes_all owed_now taken owes);
        read_faults = came.read_faults;
        write_faults = calm ∙ came.write_faults;
      }
