-- Rule 16, as to texts: the bodies that a status can have.
use Rattle.std.specs.Prelude.{ℕ, ◌+◌, ◌-◌, ◌==◌, Bool, false, ◌&&◌, ◌||◌, nat_le, nat_lt, codes, if◌then◌else◌, List, length, take, drop}
use Rattle.std.specs.List.{list_all}
use Rattle.std.specs.Str.{bytes_eq}

-- The text begins and ends so.
abbrev pub is_framed : (head tail text : List ℕ) → Bool
is_framed head tail text =
    nat_le (length head + length tail) (length text) && bytes_eq (take (length head) text) head && bytes_eq (drop (length text - length tail) text) tail

-- what stands between such a head and tail
abbrev pub between : (head tail text : List ℕ) → List ℕ
between head tail text = take (length text - length tail - length head) (drop (length head) text)

abbrev pub is_digit : ℕ → Bool
is_digit d = nat_le 48 d && nat_le d 57

-- The text is a number in such a frame.
abbrev pub has_number : (head tail text : List ℕ) → Bool
has_number head tail text =
    is_framed head tail text && nat_lt (length head + length tail) (length text) && list_all is_digit (between head tail text)

-- ---- messages

-- The request's head isn't one, or has no end, or its body isn't as told.
abbrev pub is_of_head : (text : List ℕ) → Bool
is_of_head text =
    bytes_eq text (codes "bad request head") || bytes_eq text (codes "head too long") || bytes_eq text (codes "transfer encoding refused")
    || bytes_eq text (codes "length missing") || bytes_eq text (codes "bad length") || bytes_eq text (codes "body too long") || bytes_eq text (codes "input ended")

-- The request asks for something that there isn't.
abbrev pub is_of_request : (text : List ℕ) → Bool
is_of_request text =
    bytes_eq text (codes "unknown resource") || bytes_eq text (codes "bad body") || bytes_eq text (codes "bad number") || bytes_eq text (codes "bad size")
    || bytes_eq text (codes "additional_slave_SAE_IDs refused") || bytes_eq text (codes "extension_mandatory refused")
    || bytes_eq text (codes "bad key_ID") || bytes_eq text (codes "bad key_IDs")

abbrev pub is_told_of_key : (tail text : List ℕ) → Bool
is_told_of_key tail text = has_number (codes "key ") tail text

abbrev pub is_again : (text : List ℕ) → Bool
is_again text = is_told_of_key (codes " is repeated") text || is_told_of_key (codes " was handed already") text

-- One of the keys that were asked for isn't there to be had.
abbrev pub is_of_key : (text : List ℕ) → Bool
is_of_key text = is_told_of_key (codes " is unknown") text || is_again text

abbrev pub is_of_manager : (text : List ℕ) → Bool
is_of_manager text =
    bytes_eq text (codes "manager down") || bytes_eq text (codes "manager stopped") || bytes_eq text (codes "journal full")
    || has_number (codes "") (codes " keys ready") text

abbrev pub is_told_with : (status : ℕ) → (text : List ℕ) → Bool
is_told_with status text =
    if status == 400 then is_of_head text || is_of_request text || is_of_key text
    else if status == 401 then bytes_eq text (codes "X-SAE-ID missing") || bytes_eq text (codes "not allowed")
    else if status == 500 then bytes_eq text (codes "out of memory")
    else if status == 503 then is_of_manager text
    else false

abbrev pub is_told_between : (status : ℕ) → (head tail body : List ℕ) → Bool
is_told_between status head tail body = is_framed head tail body && is_told_with status (between head tail body)

abbrev pub is_message : (status : ℕ) → (body : List ℕ) → Bool
is_message status body = is_told_between status (codes "{\"message\":\"") (codes "\"}") body

-- ---- all

-- Keys, or the numbers of a pair's keys.
abbrev pub is_answer : (body : List ℕ) → Bool
is_answer body =
    is_framed (codes "{\"keys\":[{\"key\":\"") (codes "\"}]}") body
    || is_framed (codes "{\"key_size\":256,\"master_SAE_ID\":\"") (codes "\"}") body

abbrev pub is_response : (status : ℕ) → (body : List ℕ) → Bool
is_response status body = if status == 200 then is_answer body else is_message status body
