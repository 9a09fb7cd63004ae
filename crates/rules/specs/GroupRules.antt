-- "Rules over a group": what a service, or an iwd file as a whole, lacks (14) or contradicts (15), said of its lines.
use Rattle.std.specs.Prelude.{ℕ, ◌≡◌, false, List, [], ◌∷◌, ◌++◌, ◌⊎◌}
use Prim.Native.String.{String}
use Rattle.text.specs.Words.{word}
use Rattle.text.specs.Relations.{Any}
use Rattle.text.specs.Occurrences.{Everywhere, FirstBad}
use Rattle.text.specs.declared.Dialect.{Dialect}
use Rattle.text.specs.declared.Dialect.TheVariants.{Iwd}
use Rattle.named_words.specs.WordRules.{Means, flag_rows}
use Rattle.lines.specs.Lines.{Line, blank, comment, header, setting, broken}
use Rattle.names.specs.declared.Suffix.{Suffix}
use Rattle.names.specs.declared.Suffix.TheVariants as S
use Rattle.rules.specs.LineOrder.{SettingThat, GivesKey, ServiceHeader}
use Rattle.rules.specs.Reading.{Name, iwd_name, connman_file}
use Rattle.rules.specs.declared.Refusal.{Refusal}
use Rattle.rules.specs.declared.Refusal.TheVariants as R

-- the lines of a group: those behind its header, up to the next header
abbrev pub group_lines : List Line → List Line
group_lines [] = []
group_lines (blank ∷ ls) = blank ∷ group_lines ls
group_lines (comment ∷ ls) = comment ∷ group_lines ls
group_lines (header name ∷ ls) = []
group_lines (setting key value ∷ ls) = setting key value ∷ group_lines ls
group_lines (broken b ∷ ls) = broken b ∷ group_lines ls

-- one of the lines gives the key; one of them gives it this value
abbrev pub Has : String → List Line → Type 0
Has key ls = Any (GivesKey (word key)) ls

abbrev pub GivesValue : List ℕ → List ℕ → Line → Type 0
GivesValue key value l = SettingThat (λ k v. (key ≡ k) × (value ≡ v)) l

abbrev pub HasValue : String → String → List Line → Type 0
HasValue key value ls = Any (GivesValue (word key) (word value)) ls

-- "14 before 15 within it"
pub data Faulty (lacks clashes : Type 0) : Refusal → Type 0 where
  missing : lacks → Faulty lacks clashes R.Missing
  contradicts : ¬ lacks → clashes → Faulty lacks clashes R.Contradiction

-- ---- a service

-- "ConnMan 14: Type missing; wifi with neither Name nor SSID; Security psk without Passphrase."
abbrev pub ServiceLacks : List Line → Type 0
ServiceLacks ls =
    (¬ Has "Type" ls)
    ⊎ ((HasValue "Type" "wifi" ls × (¬ (Has "Name" ls ⊎ Has "SSID" ls)))
    ⊎ (HasValue "Security" "psk" ls × (¬ Has "Passphrase" ls)))

-- "ConnMan 15: ethernet with Name, SSID, Passphrase, Security or Hidden; Security none with Passphrase."
abbrev pub Wireless : List Line → Type 0
Wireless ls = Has "Name" ls ⊎ (Has "SSID" ls ⊎ (Has "Passphrase" ls ⊎ (Has "Security" ls ⊎ Has "Hidden" ls)))

abbrev pub ServiceClashes : List Line → Type 0
ServiceClashes ls =
    (HasValue "Type" "ethernet" ls × Wireless ls)
    ⊎ (HasValue "Security" "none" ls × Has "Passphrase" ls)

-- at a service's header: what stands behind it, as far as the service goes, breaks neither rule; or it breaks one
abbrev pub SoundService : Dialect → List Line → Line → List Line → Type 0
SoundService d before l rest =
    ServiceHeader d l → (¬ ServiceLacks (group_lines rest)) × (¬ ServiceClashes (group_lines rest))

abbrev pub FaultyService : Dialect → List Line → Line → List Line → Refusal → Type 0
FaultyService d before l rest r =
    ServiceHeader d l × Faulty (ServiceLacks (group_lines rest)) (ServiceClashes (group_lines rest)) r

-- ---- an iwd file

-- a group with this name stands among the lines, and its own lines are so
pub record InGroup (group : String) (So : List Line → Type 0) (ls : List Line) : Type 0 where
  pub before : List Line
  pub rest : List Line
  pub is : ls ≡ before ++ header (word group) ∷ rest
  pub so : So (group_lines rest)

-- one of its lines gives the key; one of them gives it as no: `false` or `0`
abbrev pub In : String → String → List Line → Type 0
In group key ls = InGroup group (Has key) ls

abbrev pub GivesNo : List ℕ → Line → Type 0
GivesNo key l = SettingThat (λ k v. (key ≡ k) × Means (flag_rows Iwd) v false) l

abbrev pub InAsNo : String → String → List Line → Type 0
InAsNo group key ls = InGroup group (λ own. Any (GivesNo (word key)) own) ls

-- "either key"
abbrev pub EitherKey : List Line → Type 0
EitherKey ls = In "Security" "Passphrase" ls ⊎ In "Security" "PreSharedKey" ls

-- "iwd 14: .psk with neither key ..; Address without Gateway; Gateway, Netmask or Broadcast without Address.", and by request
-- 2026-03 of IPv6 "Gateway without Address or the reverse"
abbrev pub Gatewayless : String → List Line → Type 0
Gatewayless group ls = In group "Address" ls × (¬ In group "Gateway" ls)

abbrev pub FileLacks : Suffix → List Line → Type 0
FileLacks s ls =
    ((s ≡ S.Psk) × (¬ EitherKey ls))
    ⊎ ((Gatewayless "IPv4" ls
    ⊎ ((In "IPv4" "Gateway" ls ⊎ (In "IPv4" "Netmask" ls ⊎ In "IPv4" "Broadcast" ls)) × (¬ In "IPv4" "Address" ls)))
    ⊎ ((In "IPv6" "Gateway" ls × (¬ In "IPv6" "Address" ls))
    ⊎ Gatewayless "IPv6" ls))

-- "iwd 15: .open with either key.", and by request 2026-03 "Enabled false beside Address"
abbrev pub FileClashes : Suffix → List Line → Type 0
FileClashes s ls = ((s ≡ S.Open) × EitherKey ls) ⊎ (InAsNo "IPv6" "Enabled" ls × In "IPv6" "Address" ls)

-- ---- all groups of a file

-- "then each service in file order (iwd: the file)": none breaks a rule
abbrev pub GroupsSound : Dialect → Name → List Line → Type 0
GroupsSound d (iwd_name s) ls = (¬ FileLacks s ls) × (¬ FileClashes s ls)
GroupsSound d connman_file ls = Everywhere (SoundService d) ls

-- the first that breaks one, and the line: "service header; iwd 0"
abbrev pub FaultyGroup : Dialect → Name → List Line → Refusal → ℕ → Type 0
FaultyGroup d (iwd_name s) ls r n = Faulty (FileLacks s ls) (FileClashes s ls) r × (n ≡ 0)
FaultyGroup d connman_file ls r n = FirstBad (SoundService d) (FaultyService d) ls r n
