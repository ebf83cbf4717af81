-- A test, octet by octet, of whether a text ends inside the target of a request.
use Rattle.std.specs.Prelude.{ℕ, Bool, true, false, ◌==◌, ◌&&◌, ◌||◌, if◌then◌else◌, List, [], ◌∷◌}
use Rattle.std.specs.List.{list_all}
use Rattle.httparse.specs.Grammar.{is_token_byte, is_uri_byte}

abbrev pub begins_lf : List ℕ → Bool
begins_lf [] = false
begins_lf (b ∷ text) = b == 10

-- the text without the line ends that it begins with
abbrev pub behind_line_ends : List ℕ → List ℕ
behind_line_ends [] = []
behind_line_ends (b ∷ text) = if b == 10 || (b == 13 && begins_lf text) then behind_line_ends text else b ∷ text

-- The line is a method and a space, followed only by octets of a target. `some` says that octets of the method were read before.
abbrev pub opens_target : (some : Bool) → List ℕ → Bool
opens_target some [] = false
opens_target some (b ∷ line) = if is_token_byte b then opens_target true line else some && b == 32 && list_all is_uri_byte line
