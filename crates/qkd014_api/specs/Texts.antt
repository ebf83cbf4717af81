-- The JSON texts of ETSI GS QKD 014 V1.1.1 (section 6): without white space, and with members in the order of their names'
-- bytes.
use Rattle.std.specs.Prelude.{ℕ, Bool, true, false, if◌then◌else◌, List, [], ◌∷◌, ◌++◌, codes}
use Rattle.std.specs.Fmt.{decimal}
use Rattle.uuid.specs.Text.{lower, hyphenated_text}
use Rattle.base64.specs.GeneralPurpose.{encode_of}
use Rattle.base64.specs.Engines.{standard}
use Rattle.serde_json.specs.Data.{string}
use Rattle.serde_json.specs.Written.{compact_text}
use Rattle.qkd_base.specs.Name.{Name, octets_of}
use Rattle.http_front.specs.declared.response.HttpResponse.{HttpResponse}

-- ---- errors

unfoldable pub message_body : List ℕ → List ℕ
message_body text = codes "{\"message\":\"" ++ text ++ codes "\"}"

abbrev pub error_response : (status : ℕ) (text : List ℕ) (close : Bool) → HttpResponse
error_response status text close = record { status = status; body = message_body text; close = close }

-- ---- keys

unfoldable pub key_text : Name → List ℕ → List ℕ
key_text name bytes =
    codes "{\"key\":\"" ++ encode_of standard bytes ++ codes "\",\"key_ID\":\"" ++ hyphenated_text lower (octets_of name) ++ codes "\"}"

-- A comma stands before each key except the first.
abbrev pub comma_text : Bool → List ℕ
comma_text later = if later then codes "," else []

abbrev pub keys_text : (later : Bool) → List (Name × List ℕ) → List ℕ
keys_text later [] = []
keys_text later (k ∷ keys) = (comma_text later ++ key_text k.0 k.1) ++ keys_text true keys

unfoldable pub keys_body : List (Name × List ℕ) → List ℕ
keys_body keys = codes "{\"keys\":[" ++ keys_text false keys ++ codes "]}"

-- ---- status

-- a quoted text with JSON escapes where they are needed
unfoldable pub quoted_text : List ℕ → List ℕ
quoted_text text = compact_text (string text)

unfoldable pub master_label : List ℕ
master_label = codes "{\"key_size\":256,\"master_SAE_ID\":"

-- the limits of this interface, up to the slave's ID
unfoldable pub slave_label : List ℕ
slave_label = codes ",\"max_SAE_ID_count\":4,\"max_key_count\":4096,\"max_key_per_request\":128,\"max_key_size\":4096,\"min_key_size\":64,\"slave_SAE_ID\":"

unfoldable pub source_label : List ℕ
source_label = codes ",\"source_KME_ID\":"

unfoldable pub count_label : List ℕ
count_label = codes ",\"stored_key_count\":"

unfoldable pub target_label : List ℕ
target_label = codes ",\"target_KME_ID\":"

abbrev pub status_body : (master slave source target : List ℕ) → (count : ℕ) → List ℕ
status_body master slave source target count =
    master_label ++ quoted_text master ++ slave_label ++ quoted_text slave ++ source_label ++ quoted_text source
    ++ count_label ++ decimal count ++ target_label ++ quoted_text target ++ codes "}"
