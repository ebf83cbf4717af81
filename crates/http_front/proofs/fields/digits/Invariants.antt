use Rattle.std.proofs.Common.{◌≡◌, ◌<◌, ◌^◌, true, take, drop}
use Rattle.std.specs.List.{list_all}
use Rattle.std.specs.Char.{is_ascii_digit}
use Rattle.http_front.specs.Fields.{number_on}
use Rattle.http_front.proofs.fields.digits.Given as goal

abbrev pub invariant-loop-b : goal.invariant-loop-b
invariant-loop-b l = record {
  digits : list_all is_ascii_digit (take l.b-index l.octets) ≡ true;
  on : number_on l.value (drop l.b-index l.octets) ≡ number_on 0 l.octets;
  small : l.value < 10 ^ l.b-index;
}
