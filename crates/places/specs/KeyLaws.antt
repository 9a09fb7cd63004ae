-- The keys by name stand where the tables of the groups have them, with the kinds that those tables say.
use Rattle.std.specs.Prelude.{◌<◌, ◌≡◌, refl, Some}
use Rattle.std.proofs.Common.{arith}
use Rattle.text.specs.Words.{place}
use Rattle.rules.specs.Tables.{keys_of, kind_of}
use Rattle.tables.specs.KeyPlaces.{key_names}
use Rattle.places.specs.Store.{row_length}
use Rattle.places.specs.Keys.{NamedKey, key_named, key_group, key_word, key_kind, key_place}
use Rattle.places.specs.declared.KeyName.{KeyName}
use Rattle.places.specs.declared.KeyName.TheVariants as N

pub record Listed (k : NamedKey) : Type 0 where
  pub placed : place k.name (key_names k.group) ≡ k.slot
  pub kind : kind_of k.group k.name ≡ Some k.kind
  pub few : (0 < k.slot) × (k.slot < row_length)

listed : (k : KeyName) → Listed (key_named k)
unfolding keys_of
listed N.AutoConnect = record { placed = refl; kind = refl; few = (omega arith, omega arith) }
listed N.IwdHidden = record { placed = refl; kind = refl; few = (omega arith, omega arith) }
listed N.AlwaysRandomizeAddress = record { placed = refl; kind = refl; few = (omega arith, omega arith) }
listed N.AddressOverride = record { placed = refl; kind = refl; few = (omega arith, omega arith) }
listed N.IwdPassphrase = record { placed = refl; kind = refl; few = (omega arith, omega arith) }
listed N.PreSharedKey = record { placed = refl; kind = refl; few = (omega arith, omega arith) }
listed N.Address = record { placed = refl; kind = refl; few = (omega arith, omega arith) }
listed N.Gateway = record { placed = refl; kind = refl; few = (omega arith, omega arith) }
listed N.Broadcast = record { placed = refl; kind = refl; few = (omega arith, omega arith) }
listed N.Netmask = record { placed = refl; kind = refl; few = (omega arith, omega arith) }
listed N.Dns = record { placed = refl; kind = refl; few = (omega arith, omega arith) }
listed N.DomainName = record { placed = refl; kind = refl; few = (omega arith, omega arith) }
listed N.SendHostname = record { placed = refl; kind = refl; few = (omega arith, omega arith) }
listed N.Enabled = record { placed = refl; kind = refl; few = (omega arith, omega arith) }
listed N.Ipv6Address = record { placed = refl; kind = refl; few = (omega arith, omega arith) }
listed N.Ipv6Gateway = record { placed = refl; kind = refl; few = (omega arith, omega arith) }
listed N.GlobalName = record { placed = refl; kind = refl; few = (omega arith, omega arith) }
listed N.Description = record { placed = refl; kind = refl; few = (omega arith, omega arith) }
listed N.Type = record { placed = refl; kind = refl; few = (omega arith, omega arith) }
listed N.Ipv4 = record { placed = refl; kind = refl; few = (omega arith, omega arith) }
listed N.Ipv6 = record { placed = refl; kind = refl; few = (omega arith, omega arith) }
listed N.Privacy = record { placed = refl; kind = refl; few = (omega arith, omega arith) }
listed N.Mac = record { placed = refl; kind = refl; few = (omega arith, omega arith) }
listed N.Nameservers = record { placed = refl; kind = refl; few = (omega arith, omega arith) }
listed N.SearchDomains = record { placed = refl; kind = refl; few = (omega arith, omega arith) }
listed N.Timeservers = record { placed = refl; kind = refl; few = (omega arith, omega arith) }
listed N.Domain = record { placed = refl; kind = refl; few = (omega arith, omega arith) }
listed N.Name = record { placed = refl; kind = refl; few = (omega arith, omega arith) }
listed N.Ssid = record { placed = refl; kind = refl; few = (omega arith, omega arith) }
listed N.Passphrase = record { placed = refl; kind = refl; few = (omega arith, omega arith) }
listed N.Security = record { placed = refl; kind = refl; few = (omega arith, omega arith) }
listed N.Hidden = record { placed = refl; kind = refl; few = (omega arith, omega arith) }

pub listed_placed : (k : KeyName) → place (key_word k) (key_names (key_group k)) ≡ key_place k
listed_placed k = (listed k).placed

pub listed_kind : (k : KeyName) → kind_of (key_group k) (key_word k) ≡ Some (key_kind k)
listed_kind k = (listed k).kind

pub listed_few : (k : KeyName) → (0 < key_place k) × (key_place k < row_length)
listed_few k = (listed k).few
