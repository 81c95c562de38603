-- The message of SASL PLAIN (RFC 4616).
use Rattle.std.specs.Prelude.{◌≡◌, ◌≢◌, ℕ, Bool, List, [], ◌∷◌, ◌++◌, length, Option, Some, None, All, ◌⊎◌, ◌==◌, ◌&&◌, ◌||◌, not, is_none}
use Rattle.std.specs.Prelude.{option_map, option_and_then, if◌then◌else◌}
use Rattle.std.specs.Str.{bytes_eq}
use Rattle.kb_api_group.specs.declared.plain.PlainLogin.{PlainLogin}

-- no byte is NUL
abbrev pub HasNoNul : List ℕ → Type 0
HasNoNul bytes = All (λ b. b ≢ 0) bytes

-- RFC 4616, section 2: message = [authzid] NUL authcid NUL passwd; and an authzid is the authcid
pub record IsPlain (message : List ℕ) (login : PlainLogin) : Type 0 where
  pub authzid : List ℕ
  pub spelled : message ≡ authzid ++ 0 ∷ login.authcid ++ 0 ∷ login.passwd
  pub two_nuls : HasNoNul authzid × HasNoNul login.authcid × HasNoNul login.passwd
  pub named : login.authcid ≢ []
  pub secret : login.passwd ≢ []
  pub same : (authzid ≡ []) ⊎ (authzid ≡ login.authcid)

-- the bytes before the first NUL and those behind it
abbrev pub at_nul : List ℕ → Option (List ℕ × List ℕ)
at_nul [] = None
at_nul (b ∷ rest) = if b == 0 then Some ([], rest) else option_map (λ p. (b ∷ p.0, p.1)) (at_nul rest)

-- no byte
abbrev pub is_empty : List ℕ → Bool
is_empty bytes = length bytes == 0

-- what the parts of a message say
abbrev pub login_of : List ℕ → List ℕ → List ℕ → Option PlainLogin
login_of authzid authcid passwd = if is_none (at_nul passwd) && not (is_empty authcid) && not (is_empty passwd)
    && (is_empty authzid || bytes_eq authzid authcid) then Some (record { authcid = authcid; passwd = passwd }) else None

-- what a message says
unfoldable pub plain : List ℕ → Option PlainLogin
plain message = option_and_then (λ a. option_and_then (λ b. login_of a.0 b.0 b.1) (at_nul a.1)) (at_nul message)
