-- Two requests over HTTP, octet by octet, to a node where alice is at home, who may have keys with bob.
use Rattle.std.specs.Prelude.{ℕ, List, codes}
use Rattle.sae_entitlements.specs.Grants.{Grants, none, with_sae, with_pair}

abbrev pub alice_and_bob : Grants
alice_and_bob = with_pair (with_sae (with_sae none (codes "alice") 0) (codes "bob") 1) 0 1

abbrev pub by_alice : List ℕ
by_alice = codes "GET /api/v1/keys/bob/enc_keys HTTP/1.1\r\nX-SAE-ID: alice\r\n\r\n"

abbrev pub by_carol : List ℕ
by_carol = codes "GET /api/v1/keys/bob/enc_keys HTTP/1.1\r\nX-SAE-ID: carol\r\n\r\n"
