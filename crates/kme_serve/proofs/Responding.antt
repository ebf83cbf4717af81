-- The response to a request: after the manager's turn, or to a fault.
use Rattle.std.proofs.Common.{◌≡◌, ℕ, ◌+◌, ◌≤◌, Bool, List, Option, Some, None, Result, Ok, Err, refl, sym, ap, ◌∙◌, inl, inr}
use Rattle.std.specs.Prelude.{IfOk, OnErr}
use Rattle.net_model.specs.declared.event.Event.{Event}
use Rattle.sae_entitlements.specs.Grants.{Grants}
use Rattle.http_front.specs.declared.request.HttpRequest.{HttpRequest}
use Rattle.http_front.specs.declared.response.HttpResponse.{HttpResponse}
use Rattle.http_front.specs.Response.{response_text}
use Rattle.qkd014_api.specs.Calls.{asked, fault_status, fault_message, IsCalled}
use Rattle.qkd014_api.specs.declared.fault.CallRefusal.{CallRefusal}
use Rattle.qkd014_api.specs.declared.fault.CallRefusal.TheVariants as refusals
use Rattle.qkd014_api.specs.Texts.{message_body}
use Rattle.qkd014_api.specs.Answers.{Answer, answer_of}
use Rattle.qkd014_api.specs.Ready.{MayBeLost}
use Rattle.qkd014_api.specs.declared.fault.CallFault.{CallFault}
use Rattle.kme_serve.specs.declared.turn.Turn.{Turn}
use Rattle.kme_serve.specs.Exchange.{event_in, event_of, IsTurnOf, reply_answer, response_with}
use Rattle.kme_serve.specs.Steps.{IsAtOnce, IsTextOf, IsResponseTo, IsAnswered}

-- A text is made from an answer.
its_answer : (answer : Option Answer) (close : Bool) (text : List ℕ) → IsTextOf answer close text
    → (a : Answer) × (answer ≡ Some a) × (text ≡ response_text (response_with close a))
its_answer None close text is = absurd is
its_answer (Some a) close text is = (a, refl, is)

module _ (nodes : List (List ℕ)) (g : Grants) (node : ℕ) {P : Type 0} (Answers : P → Turn → P → Type 0) (seen : P → ℕ) where
  asked_turn : (q : HttpRequest) (event : Event) (turn : Turn) → asked g node q ≡ Ok event → turn.event ≡ event → IsTurnOf (event_of g node (Ok q)) (Some turn)
  asked_turn q event turn is same = ap (λ (e : Event). Some e) same ∙ sym (ap event_in is)

  module _ {E : Type 0} (q : HttpRequest) (close : Bool) where
    responds : (event : Event) (turn : Turn) (result : Result (List ℕ) E) → asked g node q ≡ Ok event → turn.event ≡ event
        → IfOk result (IsTextOf (answer_of nodes g turn.event turn.reply) close) → OnErr result (MayBeLost turn.event turn.reply) → IsResponseTo nodes g node q close (Some turn) result
    responds event turn (Err e) is same text lost = inr (asked_turn q event turn is same, lost)
    responds event turn (Ok r) is same text lost =
        let own = its_answer (answer_of nodes g turn.event turn.reply) close r text in (
          asked_turn q event turn is same,
          (own.0, ap (λ (means : Result Event CallFault). reply_answer nodes g means (Some turn)) is ∙ ap (λ (e : Event). answer_of nodes g e turn.reply) (sym same) ∙ own.1, own.2),
        )

    pub answers_turn : (before after : P) (event : Event) (turn : Turn) (result : Result (List ℕ) E) → asked g node q ≡ Ok event → turn.event ≡ event → Answers before turn after
        → (seen before ≤ turn.place) × (seen after ≡ turn.place + 1) → IfOk result (IsTextOf (answer_of nodes g turn.event turn.reply) close) → OnErr result (MayBeLost turn.event turn.reply)
        → IsAnswered nodes g node Answers seen q close before after result
    answers_turn before after event turn result is same answers place text lost = record {
      turn = Some turn;
      takes = (answers, place.0, place.1);
      response = responds event turn result is same text lost;
    }

    -- Memory ran out before the manager was asked.
    pub answers_none : (pass : P) (e : E) → IsAnswered nodes g node Answers seen q close pass pass (Err e)
    answers_none pass e = record { turn = None; takes = refl; response = inl refl }

    -- A fault is answered at once, or memory ran out.
    pub answers_refusal : (pass : P) (refusal : CallRefusal) (result : Result (List ℕ) E) → IsCalled (asked g node q) q.close (Err refusal) → IsAtOnce refusal close result
        → IsAnswered nodes g node Answers seen q close pass pass result
    answers_refusal pass refusals.Memory (Err e) called told = answers_none pass e
    answers_refusal pass refusals.Memory (Ok response) called told = absurd told
    answers_refusal pass (refusals.Answer response) (Err e) called told = answers_none pass e
    answers_refusal pass (refusals.Answer first) (Ok response) called told = record {
      turn = None;
      takes = refl;
      response = (
        sym (ap event_in called.1),
        (
          (fault_status called.0, message_body (fault_message called.0)),
          ap (λ (means : Result Event CallFault). reply_answer nodes g means None) called.1,
          told ∙ ap (λ (r : HttpResponse). response_text (record r { close = close })) called.2,
        ),
      );
    }
