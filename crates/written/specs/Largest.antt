-- The records that take the most room, "some record reaches each figure" of request 2026-01: one by its file, and one by its
-- name. None does both: the longest file has a passphrase, so that its name ends in `.psk`, which is shorter than `.open`.
use Rattle.std.specs.Prelude.{ℕ, ◌≡◌, true, false, List, [], length, replicate, Some}
use Rattle.addressing.specs.Addressing.{auto, static}
use Rattle.records.specs.Record.{Secret, no_secret, passphrase, Join}
use Rattle.records.specs.Formed.{WellFormed}
use Rattle.written.specs.Written.{has_place, name_text, file_text}

-- 255.255.255.255, than which no IPv4 address is longer
abbrev pub longest_address : List ℕ
longest_address = replicate 4 255

-- ffff:ffff:ffff:ffff:ffff:ffff:ffff:ffff, than which no IPv6 address is longer
abbrev pub longest_ipv6 : List ℕ
longest_ipv6 = replicate 16 255

-- 32 bytes that do not stand plainly in a file's name
abbrev pub longest_network : List ℕ
longest_network = replicate 32 255

-- backslashes, each of which is written as two
abbrev pub backslashes : ℕ → List ℕ
backslashes n = replicate n 92

-- every line, each with its greatest length
abbrev pub largest_file : Join
largest_file =
    record {
      name = longest_network;
      credential = passphrase (backslashes 63);
      hidden = true;
      ipv4 = static longest_address 32 (Some longest_address);
      servers = replicate 4 longest_address;
      domain = backslashes 253;
      ipv6 = static longest_ipv6 128 (Some longest_ipv6);
    }

-- a network and its credential, all else by default
abbrev pub plainly : List ℕ → Secret → List ℕ → Join
plainly n c d = record { name = n; credential = c; hidden = false; ipv4 = auto; servers = []; domain = d; ipv6 = auto }

-- an open network whose name is written as hex
abbrev pub largest_name : Join
largest_name = plainly longest_network no_secret []

-- a well-formed record that iwd has a place for, whose name is n and whose file f bytes long
pub record Takes (j : Join) (n f : ℕ) : Type 0 where
  pub good : WellFormed j
  pub placed : has_place j ≡ true
  pub name : length (name_text j) ≡ n
  pub file : length (file_text j) ≡ f
