-- Document 01's worked example, whose texts the worked cases of the crates above share: a ConnMan file, and the iwd file that its service
-- becomes. By request 2026-02 the passphrase has a tab, which the first writes as an escape and the second as it is.
use Prim.Native.String.{String}

-- `shop.config`
abbrev pub shop : String
shop = "[service_till]\nType = wifi\nName = Desk 4\nPassphrase = low\\tide 88\nIPv4 = 10.20.0.14/24/10.20.0.1\nNameservers = 10.20.0.2,10.20.0.3\nHidden = true\nIPv6 = off\n"

-- `Desk 4.psk`
abbrev pub desk : String
desk = "[Settings]\nHidden=true\n[Security]\nPassphrase=low\tide 88\n[IPv4]\nAddress=10.20.0.14\nNetmask=255.255.255.0\nGateway=10.20.0.1\nDNS=10.20.0.2 10.20.0.3\n[IPv6]\nEnabled=false\n"
