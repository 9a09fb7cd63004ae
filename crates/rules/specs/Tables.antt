-- The groups, their keys, and each key's kind: document 01's lists under "Settings and their kinds".
use Rattle.std.specs.Prelude.{ℕ, Bool, cond, ◌&&◌, List, [], ◌∷◌, take, drop, Option, Some}
use Rattle.text.specs.Bytes.{is_identifier}
use Rattle.text.specs.Parts.{all}
use Rattle.text.specs.Words.{word, same, named}
use Rattle.text.specs.Options.{is_some, only, sized}
use Rattle.text.specs.declared.Dialect.{Dialect}
use Rattle.text.specs.declared.Dialect.TheVariants.{Iwd, ConnMan}
use Rattle.addresses.specs.declared.Separator.TheVariants.{Spaces, Comma}
use Rattle.kinds.specs.declared.Kind.{Kind}
use Rattle.kinds.specs.declared.Kind.TheVariants as K
use Rattle.named_words.specs.declared.WordList.TheVariants as W
use Rattle.rules.specs.declared.Group.{Group}
use Rattle.rules.specs.declared.Group.TheVariants.{Settings, Security, Ipv4, Ipv6, Global, Service}

-- "iwd groups: Settings: .. Security: .. IPv4: .. IPv6: .."
abbrev pub iwd_groups : List (List ℕ × Group)
iwd_groups = (word "Settings", Settings) ∷ (word "Security", Security) ∷ (word "IPv4", Ipv4) ∷ (word "IPv6", Ipv6) ∷ []

-- "`service_` and 1 to 32 letters, digits or `_`"
unfoldable pub is_service : List ℕ → Bool
is_service n =
    same (take 8 n) (word "service_") && (is_some (sized 1 32 (Some (drop 8 n))) && all is_identifier (drop 8 n))

-- "ConnMan groups: `global`: .. `service_` ..": the group that a name names
unfoldable pub group_of : Dialect → List ℕ → Option Group
group_of Iwd n = named n iwd_groups
group_of ConnMan n = cond (same n (word "global")) (Some Global) (only (is_service n) (Some Service))

-- the keys of each group, with their kinds; by request 2026-03 "iwd's group gains Address (length 128 if left off) and Gateway"
unfoldable pub keys_of : Group → List (List ℕ × Kind)
keys_of Settings =
    (word "AutoConnect", K.Flag) ∷ (word "Hidden", K.Flag) ∷ (word "AlwaysRandomizeAddress", K.Flag) ∷ (word "AddressOverride", K.Mac) ∷ []
keys_of Security = (word "Passphrase", K.Passphrase) ∷ (word "PreSharedKey", K.PreSharedKey) ∷ []
keys_of Ipv4 =
    (word "Address", K.Address)
    ∷ (word "Gateway", K.Address)
    ∷ (word "Broadcast", K.Address)
    ∷ (word "Netmask", K.Netmask)
    ∷ (word "DNS", K.Addresses Spaces)
    ∷ (word "DomainName", K.Text 1 253)
    ∷ (word "SendHostname", K.Flag)
    ∷ []
keys_of Ipv6 = (word "Enabled", K.Flag) ∷ (word "Address", K.Ipv6WithLength) ∷ (word "Gateway", K.Ipv6Address) ∷ []
keys_of Global = (word "Name", K.Text 1 253) ∷ (word "Description", K.Text 1 253) ∷ []
keys_of Service =
    (word "Type", K.Named W.ServiceType)
    ∷ (word "IPv4", K.Ipv4)
    ∷ (word "IPv6", K.Ipv6)
    ∷ (word "IPv6.Privacy", K.Named W.Privacy)
    ∷ (word "MAC", K.Mac)
    ∷ (word "Nameservers", K.Addresses Comma)
    ∷ (word "SearchDomains", K.Entries)
    ∷ (word "Timeservers", K.Entries)
    ∷ (word "Domain", K.Text 1 253)
    ∷ (word "Name", K.Text 1 32)
    ∷ (word "SSID", K.Ssid)
    ∷ (word "Passphrase", K.Passphrase)
    ∷ (word "Security", K.Named W.Security)
    ∷ (word "Hidden", K.Flag)
    ∷ []

abbrev pub kind_of : Group → List ℕ → Option Kind
kind_of g k = named k (keys_of g)
