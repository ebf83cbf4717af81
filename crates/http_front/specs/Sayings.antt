-- What a refusal says.
use Rattle.std.specs.Prelude.{ℕ, List, codes}
use Rattle.http_front.specs.declared.refusal.FrontRefusal.{FrontRefusal}
use Rattle.http_front.specs.declared.refusal.FrontRefusal.TheVariants.{NoRequest, BadHead, TooManyHeaders, HeadTooLong, Chunked, NoLength, BadLength, BodyTooLong, EndOfInput, ReadFault, Memory}

abbrev pub said_of : FrontRefusal → List ℕ
said_of NoRequest = codes "no request"
said_of BadHead = codes "bad request head"
said_of TooManyHeaders = codes "more than 32 header fields"
said_of HeadTooLong = codes "head too long"
said_of Chunked = codes "transfer encoding refused"
said_of NoLength = codes "length missing"
said_of BadLength = codes "bad length"
said_of BodyTooLong = codes "body too long"
said_of EndOfInput = codes "input ended"
said_of ReadFault = codes "read fault"
said_of Memory = codes "out of memory"
