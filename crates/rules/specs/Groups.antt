-- "Rules over a group": what a service, or an iwd file as a whole, lacks (14) or contradicts (15).
use Rattle.std.specs.Prelude.{ℕ, Bool, true, false, cond, not, ◌&&◌, ◌||◌, List, [], ◌∷◌, Option, None, Some}
use Rattle.text.specs.Words.{word}
use Rattle.text.specs.Options.{and_then, or_else}
use Rattle.text.specs.declared.Dialect.TheVariants.{Iwd}
use Rattle.named_words.specs.NamedWords.{flag, word_of}
use Rattle.named_words.specs.declared.Word.{Word}
use Rattle.named_words.specs.declared.Word.TheVariants.{Wifi, Ethernet, Psk}
use Rattle.named_words.specs.declared.WordList.{WordList}
use Rattle.named_words.specs.declared.WordList.TheVariants as W
use Rattle.names.specs.declared.Suffix.{Suffix}
use Rattle.names.specs.declared.Suffix.TheVariants as S
use Rattle.rules.specs.Sections.{Entry, Section, given, entry_of, entries_in, serves}
use Rattle.rules.specs.WordNumbers.{is_word}
use Rattle.rules.specs.Faults.{fault_at}
use Rattle.rules.specs.declared.Fault.{Fault}
use Rattle.rules.specs.declared.Refusal.{Refusal}
use Rattle.rules.specs.declared.Refusal.TheVariants.{Missing, Contradiction}

-- 14 before 15
abbrev pub lack_or_clash : Bool → Bool → Option Refusal
lack_or_clash lacks clashes = cond lacks (Some Missing) (cond clashes (Some Contradiction) None)

-- ---- a service

-- the word that the setting with a key gives
abbrev pub word_given : WordList → List ℕ → List Entry → Option Word
word_given l k es = and_then (entry_of k es) (λ x. word_of l x.value)

abbrev pub type_is : Word → List Entry → Bool
type_is w es = is_word w (word_given W.ServiceType (word "Type") es)

abbrev pub security_is : Word → List Entry → Bool
security_is w es = is_word w (word_given W.Security (word "Security") es)

-- The rules are said over any way to tell which keys are given, and whether Type and Security are a word: by the settings
-- below, by the table of places in verdicts.

-- "ConnMan 14: Type missing; wifi with neither Name nor SSID; Security psk without Passphrase."
abbrev pub nameless_by : (List ℕ → Bool) → (Word → Bool) → Bool
nameless_by has type = type Wifi && not (has (word "Name") || has (word "SSID"))

abbrev pub keyless_by : (List ℕ → Bool) → (Word → Bool) → Bool
keyless_by has security = security Psk && not (has (word "Passphrase"))

abbrev pub lacks_by : (List ℕ → Bool) → (Word → Bool) → (Word → Bool) → Bool
lacks_by has type security = not (has (word "Type")) || (nameless_by has type || keyless_by has security)

-- "ConnMan 15: ethernet with Name, SSID, Passphrase, Security or Hidden; Security none with Passphrase."
abbrev pub wireless_by : (List ℕ → Bool) → Bool
wireless_by has =
    has (word "Name")
    || (has (word "SSID")
    || (has (word "Passphrase")
    || (has (word "Security")
    || has (word "Hidden"))))

abbrev pub clashes_by : (List ℕ → Bool) → (Word → Bool) → (Word → Bool) → Bool
clashes_by has type security = (type Ethernet && wireless_by has) || (security Word.None && has (word "Passphrase"))

-- by the settings
abbrev pub lacks : List Entry → Bool
lacks es = lacks_by (λ k. given k es) (λ w. type_is w es) (λ w. security_is w es)

abbrev pub wireless : List Entry → Bool
wireless es = wireless_by (λ k. given k es)

abbrev pub clashes : List Entry → Bool
clashes es = clashes_by (λ k. given k es) (λ w. type_is w es) (λ w. security_is w es)

unfoldable pub service_fault : List Entry → Option Refusal
service_fault es = lack_or_clash (lacks es) (clashes es)

-- "then each service in file order", "service header"
abbrev pub section_fault : Section → Option Fault
section_fault g = cond (serves g.group) (fault_at g.line (service_fault g.entries)) None

abbrev pub services_fault : List Section → Option Fault
services_fault [] = None
services_fault (g ∷ gs) = or_else (section_fault g) (services_fault gs)

-- ---- an iwd file

-- whether the group with a name has a key
abbrev pub has : List ℕ → List ℕ → List Section → Bool
has n k gs = given k (entries_in n gs)

abbrev pub is_open : Suffix → Bool
is_open S.Open = true
is_open S.Psk = false

-- "iwd 14: .psk with neither key ..; Address without Gateway; Gateway, Netmask or Broadcast without Address.", and by request
-- 2026-03 of IPv6 "Gateway without Address or the reverse".
-- Of the groups Security, IPv4 and IPv6, each by itself, is told which keys are given.
abbrev pub secret_by : (List ℕ → Bool) → Bool
secret_by security = security (word "Passphrase") || security (word "PreSharedKey")

abbrev pub gatewayless_by : (List ℕ → Bool) → Bool
gatewayless_by group = group (word "Address") && not (group (word "Gateway"))

abbrev pub addressless_by : (List ℕ → Bool) → Bool
addressless_by ipv4 =
    (ipv4 (word "Gateway") || (ipv4 (word "Netmask") || ipv4 (word "Broadcast"))) && not (ipv4 (word "Address"))

abbrev pub unpaired_by : (List ℕ → Bool) → Bool
unpaired_by ipv6 = (ipv6 (word "Gateway") && not (ipv6 (word "Address"))) || gatewayless_by ipv6

abbrev pub file_lacks_by : Suffix → (List ℕ → Bool) → (List ℕ → Bool) → (List ℕ → Bool) → Bool
file_lacks_by s security ipv4 ipv6 =
    (not (is_open s) && not (secret_by security)) || ((gatewayless_by ipv4 || addressless_by ipv4) || unpaired_by ipv6)

-- "iwd 15: .open with either key.", and by request 2026-03 "Enabled false beside Address".
-- Of IPv6 is told, too, whether Enabled is false.
abbrev pub file_clashes_by : Suffix → (List ℕ → Bool) → (List ℕ → Bool) → Bool → Bool
file_clashes_by s security ipv6 disabled = (is_open s && secret_by security) || (disabled && ipv6 (word "Address"))

-- by the settings
abbrev pub has_secret : List Section → Bool
has_secret gs = secret_by (λ k. has (word "Security") k gs)

-- whether a yes/no is given and is a no
abbrev pub is_no : Option Bool → Bool
is_no None = false
is_no (Some b) = not b

-- the yes/no that the setting with a key gives, in iwd
abbrev pub flag_given : List ℕ → List Entry → Option Bool
flag_given k es = and_then (entry_of k es) (λ x. flag Iwd x.value)

abbrev pub ipv6_disabled : List Section → Bool
ipv6_disabled gs = is_no (flag_given (word "Enabled") (entries_in (word "IPv6") gs))

abbrev pub file_lacks : Suffix → List Section → Bool
file_lacks s gs =
    file_lacks_by s (λ k. has (word "Security") k gs) (λ k. has (word "IPv4") k gs) (λ k. has (word "IPv6") k gs)

abbrev pub file_clashes : Suffix → List Section → Bool
file_clashes s gs =
    file_clashes_by s (λ k. has (word "Security") k gs) (λ k. has (word "IPv6") k gs) (ipv6_disabled gs)

-- "iwd 0": the line
unfoldable pub file_fault : Suffix → List Section → Option Fault
file_fault s gs = fault_at 0 (lack_or_clash (file_lacks s gs) (file_clashes s gs))
