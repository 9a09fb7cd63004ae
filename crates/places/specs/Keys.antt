-- The keys that document 01 lists, by name: each with its group, its word, its kind, and its place in the group's row.
use Rattle.std.specs.Prelude.{ℕ, List}
use Rattle.text.specs.Words.{word}
use Rattle.addresses.specs.declared.Separator.TheVariants.{Spaces, Comma}
use Rattle.kinds.specs.declared.Kind.{Kind}
use Rattle.kinds.specs.declared.Kind.TheVariants as Kinds
use Rattle.kinds.specs.declared.Kind.TheVariants.{Flag, Named, Address, Netmask, Ipv4, Ipv6, Ipv6Address, Ipv6WithLength, Addresses, Entries, Mac, Ssid, Passphrase, Text}
use Rattle.named_words.specs.declared.WordList.TheVariants as W
use Rattle.rules.specs.declared.Group.{Group}
use Rattle.rules.specs.declared.Group.TheVariants as G
use Rattle.places.specs.declared.KeyName.{KeyName}
use Rattle.places.specs.declared.KeyName.TheVariants as N

-- a key's group, its word, its kind, and its place in the row
pub record NamedKey : Type 0 where
  pub group : Group
  pub name : List ℕ
  pub kind : Kind
  pub slot : ℕ

abbrev pub key_named : KeyName → NamedKey
key_named N.AutoConnect = record { group = G.Settings; name = word "AutoConnect"; kind = Flag; slot = 1 }
key_named N.IwdHidden = record { group = G.Settings; name = word "Hidden"; kind = Flag; slot = 2 }
key_named N.AlwaysRandomizeAddress =
    record { group = G.Settings; name = word "AlwaysRandomizeAddress"; kind = Flag; slot = 3 }
key_named N.AddressOverride = record { group = G.Settings; name = word "AddressOverride"; kind = Mac; slot = 4 }
key_named N.IwdPassphrase = record { group = G.Security; name = word "Passphrase"; kind = Passphrase; slot = 1 }
key_named N.PreSharedKey = record { group = G.Security; name = word "PreSharedKey"; kind = Kinds.PreSharedKey; slot = 2 }
key_named N.Address = record { group = G.Ipv4; name = word "Address"; kind = Address; slot = 1 }
key_named N.Gateway = record { group = G.Ipv4; name = word "Gateway"; kind = Address; slot = 2 }
key_named N.Broadcast = record { group = G.Ipv4; name = word "Broadcast"; kind = Address; slot = 3 }
key_named N.Netmask = record { group = G.Ipv4; name = word "Netmask"; kind = Netmask; slot = 4 }
key_named N.Dns = record { group = G.Ipv4; name = word "DNS"; kind = (Addresses Spaces); slot = 5 }
key_named N.DomainName = record { group = G.Ipv4; name = word "DomainName"; kind = (Text 1 253); slot = 6 }
key_named N.SendHostname = record { group = G.Ipv4; name = word "SendHostname"; kind = Flag; slot = 7 }
key_named N.Enabled = record { group = G.Ipv6; name = word "Enabled"; kind = Flag; slot = 1 }
key_named N.Ipv6Address = record { group = G.Ipv6; name = word "Address"; kind = Ipv6WithLength; slot = 2 }
key_named N.Ipv6Gateway = record { group = G.Ipv6; name = word "Gateway"; kind = Ipv6Address; slot = 3 }
key_named N.GlobalName = record { group = G.Global; name = word "Name"; kind = (Text 1 253); slot = 1 }
key_named N.Description = record { group = G.Global; name = word "Description"; kind = (Text 1 253); slot = 2 }
key_named N.Type = record { group = G.Service; name = word "Type"; kind = (Named W.ServiceType); slot = 1 }
key_named N.Ipv4 = record { group = G.Service; name = word "IPv4"; kind = Ipv4; slot = 2 }
key_named N.Ipv6 = record { group = G.Service; name = word "IPv6"; kind = Ipv6; slot = 3 }
key_named N.Privacy = record { group = G.Service; name = word "IPv6.Privacy"; kind = (Named W.Privacy); slot = 4 }
key_named N.Mac = record { group = G.Service; name = word "MAC"; kind = Mac; slot = 5 }
key_named N.Nameservers = record { group = G.Service; name = word "Nameservers"; kind = (Addresses Comma); slot = 6 }
key_named N.SearchDomains = record { group = G.Service; name = word "SearchDomains"; kind = Entries; slot = 7 }
key_named N.Timeservers = record { group = G.Service; name = word "Timeservers"; kind = Entries; slot = 8 }
key_named N.Domain = record { group = G.Service; name = word "Domain"; kind = (Text 1 253); slot = 9 }
key_named N.Name = record { group = G.Service; name = word "Name"; kind = (Text 1 32); slot = 10 }
key_named N.Ssid = record { group = G.Service; name = word "SSID"; kind = Ssid; slot = 11 }
key_named N.Passphrase = record { group = G.Service; name = word "Passphrase"; kind = Passphrase; slot = 12 }
key_named N.Security = record { group = G.Service; name = word "Security"; kind = (Named W.Security); slot = 13 }
key_named N.Hidden = record { group = G.Service; name = word "Hidden"; kind = Flag; slot = 14 }

abbrev pub key_group : KeyName → Group
key_group k = (key_named k).group

abbrev pub key_word : KeyName → List ℕ
key_word k = (key_named k).name

abbrev pub key_kind : KeyName → Kind
key_kind k = (key_named k).kind

abbrev pub key_place : KeyName → ℕ
key_place k = (key_named k).slot
