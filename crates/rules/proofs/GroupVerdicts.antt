-- The fault of the groups that were read is the first that their lines have, of each service in file order or of an iwd
-- file as a whole; without one they break no rule.
use Rattle.std.specs.Prelude.{ℕ, ◌≡◌, refl, Bool, true, false, cond, not, ◌⊎◌, Option, None, Some}
use Prim.Native.String.{String}
use Rattle.std.proofs.Common.{arith, ap, sym, ◌∙◌, inl, inr}
use Rattle.std.proofs.lemmas.Bool.{false≢true}
use mathlib.Core.List.{List, [], ◌∷◌, ◌++◌, append_assoc, append-nil, reverse, reverse-cons}
use Rattle.text.specs.Options.{or_else}
use Rattle.text.specs.Words.{word, same}
use Rattle.text.specs.Laws.{same_refl}
use Rattle.text.specs.Relations.{Each, Any}
use Rattle.text.specs.RelationLaws.{each_at}
use Rattle.text.specs.Occurrences.{Everywhere, FirstBad}
use Rattle.text.specs.OccurrenceLaws.{Compared, alike, later, sooner, compare}
use Rattle.text.specs.Decides.{Decides, holds, fails, decides, decides_not, decides_alike, decides_and, decides_or, same_decides}
use Rattle.text.specs.declared.Dialect.{Dialect}
use Rattle.text.specs.declared.Dialect.TheVariants.{Iwd}
use Rattle.named_words.specs.NamedWords.{flag}
use Rattle.named_words.specs.WordRules.{Means, flag_rows}
use Rattle.named_words.specs.WordRuleLaws.{flag_means, means_flag}
use Rattle.lines.specs.Lines.{Line, blank, comment, header, setting, broken}
use Rattle.names.specs.declared.Suffix.{Suffix}
use Rattle.names.specs.declared.Suffix.TheVariants as S
use Rattle.rules.specs.Sections.{Section, entries_in}
use Rattle.rules.specs.Faults.{fault_at}
use Rattle.rules.specs.declared.Fault.{Fault}
use Rattle.rules.specs.Groups.{lack_or_clash, service_fault, section_fault, services_fault, has, has_secret, is_open, gatewayless_by, is_no, ipv6_disabled, file_lacks, file_clashes, file_fault}
use Rattle.rules.specs.Reading.{Name, iwd_name, connman_file, groups_fault}
use Rattle.rules.specs.GroupKeys.{GroupIs}
use Rattle.rules.specs.LineOrder.{SettingThat, IsHeader, NamesGroup, LinesAllowed}
use Rattle.rules.specs.GroupRules.{group_lines, ServiceLacks, ServiceClashes, SoundService, FaultyService, InGroup, In, InAsNo, EitherKey, Gatewayless, FileLacks, FileClashes, GroupsSound, FaultyGroup}
use Rattle.rules.proofs.TableLaws.{serves_tells}
use Rattle.rules.proofs.HereLaws.{that_header}
use Rattle.rules.proofs.SectionLaws.{Once, entry_pairs, line_pairs, pairs_tell, given_tells, SectionRead, SectionsRead}
use Rattle.rules.proofs.ServiceVerdicts.{value_tells, Ruled, ruled, service_ruled}
use Rattle.rules.specs.declared.Group.TheVariants.{Service}
use Rattle.rules.specs.declared.Refusal.{Refusal}

-- ---- the lines of a group

group_lines_cons : (l : Line) (ls : List Line) → ¬ IsHeader l → group_lines (l ∷ ls) ≡ l ∷ group_lines ls
group_lines_cons blank ls h = refl
group_lines_cons comment ls h = refl
group_lines_cons (header n) ls h = absurd (h tt)
group_lines_cons (setting k v) ls h = refl
group_lines_cons (broken b) ls h = refl

group_lines_stop : (l : Line) (ls : List Line) → IsHeader l → group_lines (l ∷ ls) ≡ []
group_lines_stop blank ls h = absurd h
group_lines_stop comment ls h = absurd h
group_lines_stop (header n) ls h = refl
group_lines_stop (setting k v) ls h = absurd h
group_lines_stop (broken b) ls h = absurd h

header_tells : (l : Line) → IsHeader l ⊎ (¬ IsHeader l)
header_tells blank = inr (λ z. z)
header_tells comment = inr (λ z. z)
header_tells (header n) = inl tt
header_tells (setting k v) = inr (λ z. z)
header_tells (broken b) = inr (λ z. z)

group_lines_headless : (a b : List Line) → Each (λ l. ¬ IsHeader l) a → group_lines b ≡ [] → group_lines (a ++ b) ≡ a
group_lines_headless [] b h e = e
group_lines_headless (l ∷ a) b h e =
    group_lines_cons l (a ++ b) h.0 ∙ ap (λ (r : List Line). l ∷ r) (group_lines_headless a b h.1 e)

group_lines_append : (a b : List Line) → group_lines b ≡ [] → group_lines (a ++ b) ≡ group_lines a
group_lines_append [] b e = e
group_lines_append (l ∷ a) b e = go (header_tells l) (group_lines_append a b e)
  where
    go : IsHeader l ⊎ (¬ IsHeader l) → group_lines (a ++ b) ≡ group_lines a → group_lines (l ∷ a ++ b) ≡ group_lines (l ∷ a)
    go (inl h) q = group_lines_stop l (a ++ b) h ∙ sym (group_lines_stop l a h)
    go (inr h) q = group_lines_cons l (a ++ b) h ∙ ap (λ (r : List Line). l ∷ r) q ∙ sym (group_lines_cons l a h)

group_lines_whole : (a : List Line) → Each (λ l. ¬ IsHeader l) a → group_lines a ≡ a
group_lines_whole a h = rw (append-nil a) at (group_lines_headless a [] h refl)

-- ---- each service

module _ (d : Dialect) where
  abbrev ServicesVerdict : List Line → Option Fault → Type 0
  ServicesVerdict ls None = Everywhere (SoundService d) ls
  ServicesVerdict ls (Some f) = FirstBad (SoundService d) (FaultyService d) ls f.refusal f.line

  -- a service's header ends the group before it
  sound_before : (a : List Line) (x : Line) (t : List Line) (l : Line) (rest : List Line) →
      IsHeader l → SoundService d a x t → SoundService d a x (t ++ l ∷ rest)
  sound_before a x t l rest h g = rw (group_lines_append t (l ∷ rest) (group_lines_stop l rest h)) g

  before_sound : (a : List Line) (x : Line) (t : List Line) (l : Line) (rest : List Line) →
      IsHeader l → SoundService d a x (t ++ l ∷ rest) → SoundService d a x t
  before_sound a x t l rest h g = rw (group_lines_append t (l ∷ rest) (group_lines_stop l rest h)) at g

  no_service : (ls : List Line) → Each (λ l. ¬ IsHeader l) ls → Everywhere (SoundService d) ls
  no_service ls h a x c e s =
      absurd (each_at (λ l. ¬ IsHeader l) a x c (rw e at h) (that_header (λ n. GroupIs d n Service) x s))

  module _ (earlier : List Line) (m : List ℕ) (since : List Line) (latest : Each (λ l. ¬ IsHeader l) since) where
    -- one group more: if it is sound too, if one before it is not, and if it is not
    sound_more : Everywhere (SoundService d) earlier → SoundService d earlier (header m) since →
        Everywhere (SoundService d) (earlier ++ header m ∷ since)
    sound_more g k a x c e = go (compare earlier (header m) since a x c e)
      where
        go : Compared earlier (header m) since a x c → SoundService d a x c
        go (alike i j l) = rw (← j, ← l) k
        go (later t i j) = rw j (sound_before a x t (header m) since tt (g a x t i))
        go (sooner t i j) = no_service since latest t x c j

    faulty_before : {r : Refusal} {n : ℕ} → FirstBad (SoundService d) (FaultyService d) earlier r n →
        FirstBad (SoundService d) (FaultyService d) (earlier ++ header m ∷ since) r n
    faulty_before f = record {
      before = f.before;
      at = f.at;
      rest = f.rest ++ header m ∷ since;
      is = ap (λ (r : List Line). r ++ header m ∷ since) f.is ∙ append_assoc f.before (f.at ∷ f.rest) (header m ∷ since);
      good = λ a x t i.
          sound_before a x t f.at (f.rest ++ header m ∷ since) headed
          (before_sound a x t f.at f.rest headed (f.good a x t i));
      bad = (f.bad.0, rw (group_lines_append f.rest (header m ∷ since) refl) f.bad.1);
      counted = f.counted;
    }
      where
        headed : IsHeader f.at
        headed = that_header (λ n. GroupIs d n Service) f.at f.bad.0

  section_verdict : (g : Section) (before earlier since : List Line) → SectionRead d g before earlier since →
      Everywhere (SoundService d) earlier → ServicesVerdict (earlier ++ header g.name ∷ since) (section_fault g)
  section_verdict g before earlier since a h =
      go (serves_tells d g.name g.group a.grouped) (service_fault g.entries)
      (service_ruled g.entries since a.entries a.once)
    where
      go : {b : Bool} → Decides (GroupIs d g.name Service) b → (o : Option Refusal) →
          Ruled (ServiceLacks since) (ServiceClashes since) o →
          ServicesVerdict (earlier ++ header g.name ∷ since) (cond b (fault_at g.line o) None)
      go (fails n) o v = sound_more earlier g.name since a.latest h (λ s. absurd (n s))
      go (holds s) None v =
          sound_more earlier g.name since a.latest h (λ t. rw (group_lines_whole since a.latest) v)
      go (holds s) (Some r) v = record {
        before = earlier;
        at = header g.name;
        rest = since;
        is = refl;
        good = λ b x t i. sound_before b x t (header g.name) since tt (h b x t i);
        bad = (s, rw (group_lines_whole since a.latest) v);
        counted = a.line;
      }

  faults_append : (a : List Section) (g : Section) →
      services_fault (a ++ (g ∷ [])) ≡ or_else (services_fault a) (section_fault g)
  faults_append [] g = go (section_fault g)
    where
      go : (o : Option Fault) → or_else o None ≡ o
      go None = refl
      go (Some f) = refl
  faults_append (x ∷ a) g = go (section_fault x) (faults_append a g)
    where
      go : (o : Option Fault) → services_fault (a ++ (g ∷ [])) ≡ or_else (services_fault a) (section_fault g) →
          or_else o (services_fault (a ++ (g ∷ []))) ≡ or_else (or_else o (services_fault a)) (section_fault g)
      go None e = e
      go (Some f) e = refl

  services_verdict : (gs : List Section) (before : List Line) → SectionsRead d gs before →
      ServicesVerdict before (services_fault (reverse gs))
  services_verdict [] before s = no_service before s.0
  services_verdict (g ∷ gs) before s =
      rw (s.2.is, reverse-cons g gs, faults_append (reverse gs) g)
      (go (services_fault (reverse gs)) (services_verdict gs s.0 s.3))
    where
      go : (o : Option Fault) → ServicesVerdict s.0 o →
          ServicesVerdict (s.0 ++ header g.name ∷ s.1) (or_else o (section_fault g))
      go None v = section_verdict g before s.0 s.1 s.2 v
      go (Some f) v = faulty_before s.0 g.name s.1 s.2.latest v

-- ---- an iwd file as a whole

-- the lines of the first group with a name
abbrev lines_in : List ℕ → List Line → List Line
lines_in n [] = []
lines_in n (blank ∷ ls) = lines_in n ls
lines_in n (comment ∷ ls) = lines_in n ls
lines_in n (header m ∷ ls) = cond (same n m) (group_lines ls) (lines_in n ls)
lines_in n (setting k v ∷ ls) = lines_in n ls
lines_in n (broken b ∷ ls) = lines_in n ls

lines_in_cons : (n : List ℕ) (l : Line) (ls : List Line) → ¬ IsHeader l → lines_in n (l ∷ ls) ≡ lines_in n ls
lines_in_cons n blank ls h = refl
lines_in_cons n comment ls h = refl
lines_in_cons n (header m) ls h = absurd (h tt)
lines_in_cons n (setting k v) ls h = refl
lines_in_cons n (broken b) ls h = refl

lines_in_headless : (n : List ℕ) (a b : List Line) → Each (λ l. ¬ IsHeader l) a → lines_in n (a ++ b) ≡ lines_in n b
lines_in_headless n [] b h = refl
lines_in_headless n (l ∷ a) b h = lines_in_cons n l (a ++ b) h.0 ∙ lines_in_headless n a b h.1

lines_in_first : (n : List ℕ) (a c : List Line) → ¬ Any (NamesGroup n) a → lines_in n (a ++ header n ∷ c) ≡ group_lines c
lines_in_first n [] c h = rw (same_refl n)
lines_in_first n (header m ∷ a) c h = go (same_decides n m) (lines_in_first n a c (λ k. h (inr k)))
  where
    go : {b : Bool} → Decides (n ≡ m) b → lines_in n (a ++ header n ∷ c) ≡ group_lines c →
        cond b (group_lines (a ++ header n ∷ c)) (lines_in n (a ++ header n ∷ c)) ≡ group_lines c
    go (holds e) q = absurd (h (inl e))
    go (fails e) q = q
lines_in_first n (blank ∷ a) c h = lines_in_first n a c (λ k. h (inr k))
lines_in_first n (comment ∷ a) c h = lines_in_first n a c (λ k. h (inr k))
lines_in_first n (setting j v ∷ a) c h = lines_in_first n a c (λ k. h (inr k))
lines_in_first n (broken b ∷ a) c h = lines_in_first n a c (λ k. h (inr k))

-- the settings of the group with a name are those of these lines
entries_lines : (d : Dialect) (n : List ℕ) (gs : List Section) (before : List Line) → SectionsRead d gs before →
    (hs : List Section) (tail : List Line) → group_lines tail ≡ [] →
    entry_pairs (entries_in n hs) ≡ line_pairs (lines_in n tail) →
    entry_pairs (entries_in n (reverse gs ++ hs)) ≡ line_pairs (lines_in n (before ++ tail))
entries_lines d n [] before s hs tail e q = q ∙ ap line_pairs (sym (lines_in_headless n before tail s.0))
entries_lines d n (g ∷ gs) before s hs tail e q =
    rw (s.2.is, reverse-cons g gs, append_assoc (reverse gs) (g ∷ []) hs, append_assoc s.0 (header g.name ∷ s.1) tail)
    (entries_lines d n gs s.0 s.3 (g ∷ hs) (header g.name ∷ s.1 ++ tail) refl (go (same n g.name)))
  where
    go : (b : Bool) →
        entry_pairs (cond b g.entries (entries_in n hs)) ≡ line_pairs (cond b (group_lines (s.1 ++ tail)) (lines_in n (s.1 ++ tail)))
    go true = s.2.entries ∙ ap line_pairs (sym (group_lines_headless s.1 tail s.2.latest e))
    go false = q ∙ ap line_pairs (sym (lines_in_headless n s.1 tail s.2.latest))

-- no key is given twice among them
entries_once : (d : Dialect) (n : List ℕ) (gs : List Section) (before : List Line) → SectionsRead d gs before →
    (hs : List Section) → Once (entry_pairs (entries_in n hs)) → Once (entry_pairs (entries_in n (reverse gs ++ hs)))
entries_once d n [] before s hs o = o
entries_once d n (g ∷ gs) before s hs o =
    rw (reverse-cons g gs, append_assoc (reverse gs) (g ∷ []) hs)
    (entries_once d n gs s.0 s.3 (g ∷ hs) (go (same n g.name)))
  where
    go : (b : Bool) → Once (entry_pairs (cond b g.entries (entries_in n hs)))
    go true = rw s.2.entries s.2.once
    go false = o

module _ (g : String) (P : List ℕ → List ℕ → Type 0) where
  -- a group with the name g has a setting that is so
  abbrev InThat : List Line → Type 0
  InThat ls = InGroup g (λ own. Any (SettingThat P) own) ls

  in_more : (l : Line) (ls : List Line) → InThat ls → InThat (l ∷ ls)
  in_more l ls h =
      record { before = l ∷ h.before; rest = h.rest; is = ap (λ (r : List Line). l ∷ r) h.is; so = h.so }

  lines_in_lem : (ls : List Line) → Any (SettingThat P) (lines_in (word g) ls) → InThat ls
  lines_in_lem [] h = absurd h
  lines_in_lem (blank ∷ ls) h = in_more blank ls (lines_in_lem ls h)
  lines_in_lem (comment ∷ ls) h = in_more comment ls (lines_in_lem ls h)
  lines_in_lem (setting j v ∷ ls) h = in_more (setting j v) ls (lines_in_lem ls h)
  lines_in_lem (broken b ∷ ls) h = in_more (broken b) ls (lines_in_lem ls h)
  lines_in_lem (header m ∷ ls) h = go (same_decides (word g) m) (lines_in_lem ls) h
    where
      go : {b : Bool} → Decides (word g ≡ m) b → (Any (SettingThat P) (lines_in (word g) ls) → InThat ls) →
          Any (SettingThat P) (cond b (group_lines ls) (lines_in (word g) ls)) → InThat (header m ∷ ls)
      go (holds e) f h = record { before = []; rest = ls; is = ap (λ (n : List ℕ). header n ∷ ls) (sym e); so = h }
      go (fails e) f h = in_more (header m) ls (f h)

-- a no in iwd: what the reading gives is what the rows of the rules say
no_tells : (u : List ℕ) → Decides (Means (flag_rows Iwd) u false) (is_no (flag Iwd u))
no_tells u = decides (is_no (flag Iwd u)) (λ e. flag_means Iwd u (no_is (flag Iwd u) e)) (λ h. ap is_no (means_flag Iwd u h))
  where
    no_is : (o : Option Bool) → is_no o ≡ true → o ≡ Some false
    no_is None e = absurd (false≢true e)
    no_is (Some true) e = absurd (false≢true e)
    no_is (Some false) e = refl

module _ (d : Dialect) (gs : List Section) (ls : List Line) (s : SectionsRead d gs ls) (allowed : LinesAllowed d ls) where
  entries_whole : (n : List ℕ) → entry_pairs (entries_in n (reverse gs)) ≡ line_pairs (lines_in n ls)
  entries_whole n = rw (append-nil (reverse gs), append-nil ls) at (entries_lines d n gs ls s [] [] refl refl)

  module _ (g : String) (P : List ℕ → List ℕ → Type 0) where
    in_lines : InThat g P ls → Any (SettingThat P) (lines_in (word g) ls)
    in_lines h =
        let once = (allowed h.before (header (word g)) h.rest h.is).once in
        rw (h.is, lines_in_first (word g) h.before h.rest once) h.so

    in_group_tells : {b : Bool} → Decides (Any (λ p. P p.0 p.1) (entry_pairs (entries_in (word g) (reverse gs)))) b →
        Decides (InThat g P ls) b
    in_group_tells t =
        decides_alike (lines_in_lem g P ls) in_lines
        (pairs_tell P (entries_in (word g) (reverse gs)) (lines_in (word g) ls) (entries_whole (word g)) t)

  in_tells : (g k : String) → Decides (In g k ls) (has (word g) (word k) (reverse gs))
  in_tells g k = in_group_tells g (λ j u. word k ≡ j) (given_tells (word k) (entries_in (word g) (reverse gs)))

  disabled_tells : Decides (InAsNo "IPv6" "Enabled" ls) (ipv6_disabled (reverse gs))
  disabled_tells =
      in_group_tells "IPv6" (λ j u. (word "Enabled" ≡ j) × Means (flag_rows Iwd) u false)
      (value_tells (flag Iwd) is_no refl (λ u. Means (flag_rows Iwd) u false) no_tells (word "Enabled")
      (entries_in (word "IPv6") (reverse gs)) (rw (append-nil (reverse gs)) at (entries_once d (word "IPv6") gs ls s [] tt)))

  either_tells : Decides (EitherKey ls) (has_secret (reverse gs))
  either_tells = decides_or (in_tells "Security" "Passphrase") (in_tells "Security" "PreSharedKey")

  open_tells : (x : Suffix) → Decides (x ≡ S.Open) (is_open x)
  open_tells S.Open = holds refl
  open_tells S.Psk = fails (λ e. let z : ◌≡◌ {A = ℕ} 0 1 = cc in omega arith)

  psk_tells : (x : Suffix) → Decides (x ≡ S.Psk) (not (is_open x))
  psk_tells S.Open = fails (λ e. let z : ◌≡◌ {A = ℕ} 0 1 = cc in omega arith)
  psk_tells S.Psk = holds refl

  gatewayless_tells : (g : String) → Decides (Gatewayless g ls) (gatewayless_by (λ k. has (word g) k (reverse gs)))
  gatewayless_tells g = decides_and (in_tells g "Address") (decides_not (in_tells g "Gateway"))

  lacks_tells : (x : Suffix) → Decides (FileLacks x ls) (file_lacks x (reverse gs))
  lacks_tells x =
      decides_or (decides_and (psk_tells x) (decides_not either_tells))
      (decides_or
      (decides_or (gatewayless_tells "IPv4")
      (decides_and (decides_or (in_tells "IPv4" "Gateway") (decides_or (in_tells "IPv4" "Netmask") (in_tells "IPv4" "Broadcast")))
      (decides_not (in_tells "IPv4" "Address"))))
      (decides_or (decides_and (in_tells "IPv6" "Gateway") (decides_not (in_tells "IPv6" "Address")))
      (gatewayless_tells "IPv6")))

  clashes_tells : (x : Suffix) → Decides (FileClashes x ls) (file_clashes x (reverse gs))
  clashes_tells x =
      decides_or (decides_and (open_tells x) either_tells) (decides_and disabled_tells (in_tells "IPv6" "Address"))

-- ---- the groups of a file

abbrev pub GroupsVerdict : Dialect → Name → List Line → Option Fault → Type 0
GroupsVerdict d k ls None = GroupsSound d k ls
GroupsVerdict d k ls (Some f) = FaultyGroup d k ls f.refusal f.line

module _ (d : Dialect) (gs : List Section) (ls : List Line) (s : SectionsRead d gs ls) (a : LinesAllowed d ls) where
  file_verdict : (x : Suffix) → GroupsVerdict d (iwd_name x) ls (file_fault x (reverse gs))
  unfolding file_fault
  file_verdict x =
      go (lack_or_clash (file_lacks x (reverse gs)) (file_clashes x (reverse gs)))
      (ruled (lacks_tells d gs ls s a x) (clashes_tells d gs ls s a x))
    where
      go : (o : Option Refusal) → Ruled (FileLacks x ls) (FileClashes x ls) o →
          GroupsVerdict d (iwd_name x) ls (fault_at 0 o)
      go None v = v
      go (Some r) v = (v, refl)

  pub groups_verdict : (k : Name) → GroupsVerdict d k ls (groups_fault k (reverse gs))
  groups_verdict (iwd_name x) = file_verdict x
  groups_verdict connman_file = go (services_fault (reverse gs)) (services_verdict d gs ls s)
    where
      go : (o : Option Fault) → ServicesVerdict d ls o → GroupsVerdict d connman_file ls o
      go None v = v
      go (Some f) v = v
