-- ConnMan's IPv4 and IPv6 in text: two words, or an address with its length and perhaps a gateway, between slashes.
use Rattle.std.specs.Prelude.{ℕ, cond, List, [], ◌∷◌, Option, None, Some}
use Rattle.text.specs.Parts.{pieces}
use Rattle.text.specs.Words.{word, same}
use Rattle.text.specs.Options.{and_then}
use Rattle.addressing.specs.Addressing.{Addressing, auto, off, static}

-- "address `/` mask or length (1 to 32, no leading zero), and optionally `/` gateway"; "address/length with an optional gateway" (2026-03).
-- What is an address, and what a length, is the family's to say.
abbrev pub fixed : (List ℕ → Option (List ℕ)) → (List ℕ → Option ℕ) → List (List ℕ) → Option Addressing
fixed read size [] = None
fixed read size (a ∷ []) = None
fixed read size (a ∷ m ∷ []) = and_then (read a) (λ x. and_then (size m) (λ n. Some (static x n None)))
fixed read size (a ∷ m ∷ g ∷ []) =
    and_then (read a) (λ x. and_then (size m) (λ n. and_then (read g) (λ y. Some (static x n (Some y)))))
fixed read size (a ∷ m ∷ g ∷ h ∷ t) = None

-- "ConnMan IPv4 is `off`, `dhcp`, or" those; "IPv6 (off, auto)" and those
abbrev pub addressing : List ℕ → (List ℕ → Option (List ℕ)) → (List ℕ → Option ℕ) → List ℕ → Option Addressing
addressing automatic read size s =
    cond (same s (word "off")) (Some off) (cond (same s automatic) (Some auto) (fixed read size (pieces 47 s)))
