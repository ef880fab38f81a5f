-- The words of an ask: what is asked of which server.
use Rattle.std.specs.Prelude.{◌≡◌, ◌⊎◌, ℕ, Bool, true, false, ◌&&◌, ◌||◌, ◌==◌, nat_le, List, [], ◌∷◌, length, get_or, map, String, codes, string_bytes, IsTrue}
use Rattle.std.specs.List.{list_all, list_any}
use Rattle.std.specs.Char.{is_ascii_alphanumeric}
use Rattle.std.specs.declared.alloc.Global.{Global}
use Rattle.dtdl_cmd.specs.Words.{IsNumberUpTo}

-- What is asked of which server, and whether the request has a body.
pub record Client : Type 0 where
  pub host : List ℕ
  pub port : ℕ
  pub method : List ℕ
  pub has_body : Bool
  pub target : List ℕ

-- A host is 1 to 255 letters, digits, points and hyphens.
abbrev pub is_host_byte : ℕ → Bool
is_host_byte b = is_ascii_alphanumeric b || (b == 46) || (b == 45)

abbrev pub is_host : List ℕ → Bool
is_host host = nat_le 1 (length host) && nat_le (length host) 255 && list_all is_host_byte host

-- The methods, by whether their requests have a body.
abbrev pub IsMethod : List ℕ → Bool → Type 0
IsMethod method false = (method ≡ codes "GET") ⊎ (method ≡ codes "DELETE")
IsMethod method true = (method ≡ codes "PUT") ⊎ (method ≡ codes "POST") ⊎ (method ≡ codes "PATCH")

-- A target begins with `/`, and is at most 8,192 letters, digits and other bytes that a URL may have (RFC 3986, section 3).
abbrev pub is_target_byte : ℕ → Bool
is_target_byte b = is_ascii_alphanumeric b || list_any (λ c. c == b) (codes "-._~:@!$&'()*+,;=/?%")

abbrev pub is_target : List ℕ → Bool
is_target target = (get_or target 0 0 == 47) && nat_le (length target) 8192 && list_all is_target_byte target

-- The words are the word of an ask, a host, a port from 1 to 65,535, a method and a target.
pub record IsAsk (words : List (String Global)) (client : Client) : Type 0 where
  pub port_word : List ℕ
  pub are : map string_bytes words ≡ codes "ask" ∷ client.host ∷ port_word ∷ client.method ∷ client.target ∷ []
  pub host : IsTrue (is_host client.host)
  pub port : IsNumberUpTo 65535 port_word client.port
  pub method : IsMethod client.method client.has_body
  pub target : IsTrue (is_target client.target)

-- The words are no ask.
abbrev pub AreNoAsk : List (String Global) → Type 0
AreNoAsk words = (client : Client) → IsAsk words client → ⊥
