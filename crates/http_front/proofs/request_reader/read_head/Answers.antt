use Rattle.std.proofs.Common.{◌<◌, ◌≤◌, length, take, sym, ap, ◌∙◌, Ok, Err, refl, arith, rules, List, ℕ, subst}
use Rattle.std.proofs.lemmas.Result.{err_from_is_err_and}
use Rattle.http_front.specs.Front.{IsRefused, IsScarce}
use Rattle.http_front.specs.Reading.{no_more}
use Rattle.http_front.specs.declared.refusal.FrontRefusal.{FrontRefusal}
use Rattle.http_front.proofs.Meaning.{look-head, look-refused, look-scarce, look-open, open-scarce, any-scarce, open-too-long, open-ended, open-none, came-trans}
use Rattle.http_front.proofs.request_reader.read_head.Goals as goal

pub returns-in-Some-clause-head : goal.returns-in-Some-clause-head
returns-in-Some-clause-head g c =
    look-head c.look.octets.items c.front.result.now (Ok c.in_ok-head.field-0) c.in-Some.head (c.front.ensures.front ∙ ap (take 8193) c.deref.ensures.value)
    (ap Ok c.in-Some.is) c.in_ok-head.ensures

pub returns-in_err-head-clause-refused : goal.returns-in_err-head-clause-refused
returns-in_err-head-clause-refused g c =
    let err = err_from_is_err_and c.from_residual.result c.from_residual.ensures.1 in
    rw (err.1, err.2)
    (look-refused c.look.octets.items c.front.result.now (Err c.in_err-head.field-0.0) c.in_err-head.field-0.0 (c.front.ensures.front ∙ ap (take 8193) c.deref.ensures.value)
    refl c.in_err-head.ensures)

pub returns-in_err-head-clause-memory : goal.returns-in_err-head-clause-memory
returns-in_err-head-clause-memory g c =
    let err = err_from_is_err_and c.from_residual.result c.from_residual.ensures.1 in
    rw (err.1, err.2)
    (look-scarce c.look.octets.items c.front.result.now (Err c.in_err-head.field-0.0) c.in_err-head.field-0.0 (c.front.ensures.front ∙ ap (take 8193) c.deref.ensures.value)
    refl c.in_err-head.ensures)

pub returns-in_err-came-clause-memory : goal.returns-in_err-came-clause-memory
returns-in_err-came-clause-memory g c =
    let seen = look-open c.look.octets.items c.front.result.now (Ok c.in_ok-head.field-0) (c.front.ensures.front ∙ ap (take 8193) c.deref.ensures.value)
    (ap Ok c.in-None.is) c.in_ok-head.ensures in
    let short : length c.look.octets.items ≤ 8192 = search (rules, c.len.ensures, c.if-len-gt-HEAD_LIMIT.false) in
    any-scarce _ c.fetch.new.octets.items
    (λ e. subst (IsScarce e) (sym c.in_err-came.ensures.kept) (open-scarce c.look.octets.items e short seen))

pub returns-then-len-gt-HEAD_LIMIT-clause-refused :
    goal.returns-then-len-gt-HEAD_LIMIT-clause-refused
returns-then-len-gt-HEAD_LIMIT-clause-refused g c =
    let seen = look-open c.look.octets.items c.front.result.now (Ok c.in_ok-head.field-0) (c.front.ensures.front ∙ ap (take 8193) c.deref.ensures.value)
    (ap Ok c.in-None.is) c.in_ok-head.ensures in
    let long : 8192 < length c.look.octets.items = search (rules, c.len.ensures, c.if-len-gt-HEAD_LIMIT.true) in
    open-too-long c.look.octets.items long seen

pub returns-in_err-came-clause-came : goal.returns-in_err-came-clause-came
returns-in_err-came-clause-came g c = came-trans _ _ _ _ _ _ c.look.invariant.came c.fetch.ensures.came

pub returns-then-not-came-clause-came : goal.returns-then-not-came-clause-came
returns-then-not-came-clause-came g c = came-trans _ _ _ _ _ _ c.look.invariant.came c.fetch.ensures.came

pub returns-then-not-came-clause-refused : goal.returns-then-not-came-clause-refused
returns-then-not-came-clause-refused g c =
    let seen = look-open c.look.octets.items c.front.result.now (Ok c.in_ok-head.field-0) (c.front.ensures.front ∙ ap (take 8193) c.deref.ensures.value)
    (ap Ok c.in-None.is) c.in_ok-head.ensures in
    let short : length c.look.octets.items ≤ 8192 = search (rules, c.len.ensures, c.if-len-gt-HEAD_LIMIT.false) in
    let end = c.in_ok-came.ensures.end (ap Ok c.if-not-came.true) in
    subst (λ (e : FrontRefusal). IsRefused c.fetch.new.octets.items e) (sym (c.ended.ensures ∙ ap no_more c.deref-then-not-came.ensures.value))
    (subst (λ (t : List ℕ). IsRefused t (no_more t)) (sym end.0) (open-ended c.look.octets.items short seen))

pub returns-in_err-came-clause-still : goal.returns-in_err-came-clause-still
returns-in_err-came-clause-still g c = λ some.
    let seen = look-open c.look.octets.items c.front.result.now (Ok c.in_ok-head.field-0) (c.front.ensures.front ∙ ap (take 8193) c.deref.ensures.value)
    (ap Ok c.in-None.is) c.in_ok-head.ensures in
    absurd (open-none _ _ _ c.look.octets.items c.look.invariant.came seen some)

pub returns-then-not-came-clause-still : goal.returns-then-not-came-clause-still
returns-then-not-came-clause-still g c = λ some.
    let seen = look-open c.look.octets.items c.front.result.now (Ok c.in_ok-head.field-0) (c.front.ensures.front ∙ ap (take 8193) c.deref.ensures.value)
    (ap Ok c.in-None.is) c.in_ok-head.ensures in
    absurd (open-none _ _ _ c.look.octets.items c.look.invariant.came seen some)

pub look-preserved : goal.look-preserved
look-preserved g c = record {
  came = came-trans _ _ _ _ _ _ c.look.invariant.came c.fetch.ensures.came;
  limit = omega (arith, c.fetch.ensures.limit);
  faults = c.in_ok-came.ensures.faults ∙ c.look.invariant.faults;
  still = λ some.
      let seen = look-open c.look.octets.items c.front.result.now (Ok c.in_ok-head.field-0) (c.front.ensures.front ∙ ap (take 8193) c.deref.ensures.value)
      (ap Ok c.in-None.is) c.in_ok-head.ensures in
      absurd (open-none _ _ _ c.look.octets.items c.look.invariant.came seen some);
}
