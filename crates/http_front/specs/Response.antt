-- The text of a response (RFC 9112, section 4).
use Rattle.std.specs.Prelude.{ℕ, ◌==◌, ◌||◌, Bool, if◌then◌else◌, List, ◌++◌, length, codes}
use Rattle.std.specs.Fmt.{decimal}
use Rattle.http_front.specs.declared.response.HttpResponse.{HttpResponse}

-- the only statuses that this server sends
abbrev pub has_reason : ℕ → Bool
has_reason status = status == 200 || status == 400 || status == 401 || status == 500 || status == 503

-- the reason phrases of these statuses (RFC 9110, section 15)
abbrev pub reason_text : ℕ → List ℕ
reason_text status =
    if status == 200 then codes "OK"
    else if status == 400 then codes "Bad Request"
    else if status == 401 then codes "Unauthorized"
    else if status == 500 then codes "Internal Server Error"
    else codes "Service Unavailable"

abbrev pub connection_text : Bool → List ℕ
connection_text close = if close then codes "close" else codes "keep-alive"

-- the status line, which ends with CR LF
unfoldable pub status_text : ℕ → List ℕ
status_text status = codes "HTTP/1.1 " ++ decimal status ++ codes " " ++ reason_text status ++ codes "\r\n"

-- the status line, the three fields, an empty line, and the body
abbrev pub response_text : HttpResponse → List ℕ
response_text r =
    status_text r.status
    ++ codes "Content-Type: application/json\r\nContent-Length: " ++ decimal (length r.body)
    ++ codes "\r\nConnection: " ++ connection_text r.close
    ++ codes "\r\n\r\n" ++ r.body
