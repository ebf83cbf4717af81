use Rattle.law_quiet.proofs.Flights.{heard, answered, noted}
use Rattle.law_quiet.proofs.still_laws.law_flight_stays.Goals as goal

pub returns-clause-heard : goal.returns-clause-heard
returns-clause-heard c = λ l m k offset n vol old. heard l k vol old m offset n

pub returns-clause-answered : goal.returns-clause-answered
returns-clause-answered c = λ l m k n vol old. answered l k vol old m n

pub returns-clause-noted : goal.returns-clause-noted
returns-clause-noted c = λ l k acked p vol old apart. noted l k vol old acked p apart
