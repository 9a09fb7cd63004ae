-- Each place that is answered lies in the file, and the value stands there: of a string, and of each entry of a list.
use Rattle.std.specs.Prelude.{ℕ, zero, suc, ◌+◌, ◌-◌, ◌≤◌, ◌<◌, ◌≡◌, refl, Bool, true, false, cond, List, [], ◌∷◌, ◌++◌, eqb, length, map, take, drop, get_or, replicate, Option, None, Some, Ok, Err}
use Rattle.std.proofs.Common.{arith, ap, ap₂, sym, ◌∙◌, subst, true≢false, eq-eqb, take-append-drop, drop-drop}
use Rattle.std.proofs.lemmas.Option.{same_Some, none-some}
use Rattle.text.specs.Bytes.{is_entry_byte}
use Rattle.text.specs.Parts.{all, onto, part, pieces}
use Rattle.text.specs.Words.{word}
use Rattle.text.specs.Options.{mapped, only, each, prepend, or_empty}
use Rattle.text.specs.OptionLaws.{IfSome, sized_some, then_some, only_some}
use Rattle.text.specs.declared.Dialect.{Dialect}
use Rattle.text.specs.declared.Dialect.TheVariants.{Iwd, ConnMan}
use Rattle.entry_lists.specs.EntryLists.{entry, entries}
use Rattle.entry_lists.specs.Places.{places_from, no_place, entries_laid}
use Rattle.text.specs.declared.Place.{Place}
use Rattle.boundary.specs.declared.CEntries.{CEntries}
use Rattle.rules.specs.Sections.{Entry}
use Rattle.rules.specs.Reading.{sections_of, reading}
use Rattle.rules.specs.Asking.{iwd_entry, service_at, read_as, entry_start, asked, asked_of}
use Rattle.rules.specs.Tables.{keys_of}
use Rattle.rules.proofs.EntryPlaces.{EntryStands, group_stands, service_stands}
use Rattle.rules.specs.Numbers.{number_of, answer_number}
use Rattle.settings.specs.Asked.{service_answer_of, service_servers_of}
use Rattle.lookups.specs.Lookups.{lookup_of, group_lookup, service_lookup, lookup_place}
use Rattle.joins.specs.Joins.{service_setting}
use Rattle.record_layout.specs.Records.{lent_servers}
use Rattle.boundary.specs.Answers.{text_at}
use Rattle.boundary.specs.Settings.{place_length, entries_at, service_settings_at}
use Rattle.demands.specs.Exports.{StringStands, EntryAt, ListStands, entries_of, Lists, ExportedStrings, ExportedLists}
use Rattle.demands.proofs.ExportsHold.{refusal_number}
use Rattle.rules.specs.Answering.{Answer}

-- ---- strings

string_stands : (file : List ℕ) (a : Answer) (o : Option Entry) → IfSome (EntryStands file) o →
    StringStands file (lookup_of a o) (text_at (lookup_place (lookup_of a o)))
string_stands file (Ok u) None h = record { within = omega arith; value = refl }
string_stands file (Ok u) (Some e) h =
    let q : e.start + length e.value - e.start ≡ length e.value = omega arith in
    record { within = omega (arith, h.within); value = ap (λ (n : ℕ). part e.start (e.start + n) file) q ∙ h.value }
string_stands file (Err f) o h = record { within = omega arith; value = refl }

group_string : (d : Dialect) (name file group key : List ℕ) →
    StringStands file (group_lookup d group key name file) (text_at (lookup_place (group_lookup d group key name file)))
group_string d name file group key =
    string_stands file (asked (reading d name file)) (iwd_entry (sections_of d file) group key) (group_stands d file group key)

service_string : (name file : List ℕ) (w : ℕ) (key : List ℕ) →
    StringStands file (service_lookup w key name file) (text_at (lookup_place (service_lookup w key name file)))
service_string name file w key =
    string_stands file (asked_of w (reading ConnMan name file)) (service_setting w file key) (service_stands ConnMan file w key)

pub exported_strings : ExportedStrings
exported_strings name file w =
    record {
      iwd_passphrase_lem = group_string Iwd name file (word "Security") (word "Passphrase");
      iwd_domain_name_lem = group_string Iwd name file (word "IPv4") (word "DomainName");
      global_name_lem = group_string ConnMan name file (word "global") (word "Name");
      global_description_lem = group_string ConnMan name file (word "global") (word "Description");
      service_name_lem = service_string name file w (word "Name");
      service_passphrase_lem = service_string name file w (word "Passphrase");
      service_domain_lem = service_string name file w (word "Domain");
    }

-- ---- lists

-- an entry in front of what stands at a place of the file, one byte, and the next entry behind it
abbrev Spread : List ℕ → ℕ → List (List ℕ) → Type 0
Spread file at [] = Unit
Spread file at (e ∷ es) =
    (at + length e ≤ length file) × (take (length e) (drop at file) ≡ e) × Spread file (at + length e + 1) es

module _ (file : List ℕ) where
  -- a byte in front of the first
  spread_onto : (at x : ℕ) (r : List ℕ) (ps : List (List ℕ)) → at < length file → drop at file ≡ x ∷ r →
      Spread file (at + 1) ps → Spread file at (onto x ps)
  spread_onto at x r [] h q s = (omega arith, ap (take 1) q, tt)
  spread_onto at x r (p ∷ ps) h q s =
      let d : drop (at + 1) file ≡ r = sym (drop-drop 1 at file) ∙ ap (drop 1) q in
      let k : at + 1 + length p + 1 ≡ at + suc (length p) + 1 = omega arith in
      (omega (arith, s.0), ap (take (suc (length p))) q ∙ ap (λ (t : List ℕ). x ∷ t) (ap (take (length p)) (sym d) ∙ s.1), subst (λ (i : ℕ). Spread file i ps) k s.2)

  pieces_spread : (at : ℕ) (s r : List ℕ) → at + length s ≤ length file → drop at file ≡ s ++ r →
      Spread file at (pieces 44 s)
  pieces_spread at [] r h q = (omega (arith, h), refl, tt)
  pieces_spread at (x ∷ s) r h q =
      go (eqb x 44) (pieces_spread (at + 1) s r (omega (arith, h)) (sym (drop-drop 1 at file) ∙ ap (drop 1) q))
    where
      go : (b : Bool) → Spread file (at + 1) (pieces 44 s) →
          Spread file at (cond b ([] ∷ pieces 44 s) (onto x (pieces 44 s)))
      go true k =
          let i : at + 1 ≡ at + 0 + 1 = omega arith in
          (omega (arith, h), refl, subst (λ (j : ℕ). Spread file j (pieces 44 s)) i k)
      go false k = spread_onto at x (s ++ r) (pieces 44 s) (omega (arith, h)) q k

-- entries that are spread from `at` on, laid out with other places behind them
abbrev laid_places : ℕ → List Place → CEntries
laid_places n ps = record { count = n; start = map (λ p. p.start) ps; length = map place_length ps }

laid_entry : (file : List ℕ) (at n : ℕ) (es : List (List ℕ)) (rest : List Place) → Spread file at es → (i : ℕ) →
    i < length es → EntryAt file es (laid_places n (places_from at es ++ rest)) i
laid_entry file at n [] rest s i h = absurd (omega arith)
laid_entry file at n (e ∷ es) rest s zero h =
    let q : at + (at + length e - at) ≡ at + length e = omega arith in
    let w : at + length e - at ≡ length e = omega arith in
    record { within = omega (arith, q, s.0); value = ap (λ (m : ℕ). part at m file) q ∙ ap (λ (m : ℕ). take m (drop at file)) w ∙ s.1 }
laid_entry file at n (e ∷ es) rest s (suc i) h =
    let b = laid_entry file (at + length e + 1) n es rest s.2 i (omega arith) in
    record { within = b.within; value = b.value }

-- what is read of each piece is that piece
each_entry : (ps : List (List ℕ)) {es : List (List ℕ)} → each entry ps ≡ Some es → ps ≡ es
each_entry [] {es} e = same_Some [] es e
each_entry (p ∷ ps) {es} e =
    let t = then_some (entry p) (λ a. prepend a (each entry ps)) e in
    let z = sized_some 1 253 (only (all is_entry_byte p) (Some p)) t.1 in
    let o = only_some (all is_entry_byte p) (Some p) z.1 in
    go t.0 (same_Some p t.0 o.1) (each entry ps) refl (λ t k. each_entry ps k) t.2
  where
    go : (a : List ℕ) → p ≡ a → (o : Option (List (List ℕ))) → each entry ps ≡ o →
        ((t : List (List ℕ)) → each entry ps ≡ Some t → ps ≡ t) → prepend a o ≡ Some es → p ∷ ps ≡ es
    go a q None k f z = absurd (none-some es z)
    go a q (Some t) k f z =
        ap₂ (λ (x : List ℕ) (y : List (List ℕ)). x ∷ y) q (f t k) ∙ same_Some (a ∷ t) es z

list_stands : (file : List ℕ) (o : Option Entry) → IfSome (EntryStands file) o →
    ListStands file (or_empty (read_as entries o)) (entries_at (mapped (entries_laid (entry_start o)) (read_as entries o)))
unfolding entries
list_stands file None h = record { count = refl; each = λ i k. absurd (omega (arith, k)) }
list_stands file (Some e) h = go (entries e.value) refl
  where
    go : (r : Option (List (List ℕ))) → entries e.value ≡ r →
        ListStands file (or_empty r) (entries_at (mapped (entries_laid e.start) r))
    go None q = record { count = refl; each = λ i k. absurd (omega (arith, k)) }
    go (Some es) q =
        let s = sized_some 1 4 (each entry (pieces 44 e.value)) q in
        let n : e.start + length e.value - e.start ≡ length e.value = omega arith in
        let t : take (length e.value) (drop e.start file) ≡ e.value = sym (ap (λ (i : ℕ). take i (drop e.start file)) n) ∙ h.value in
        let d : drop e.start file ≡ e.value ++ drop (length e.value) (drop e.start file) = sym (take-append-drop (length e.value) (drop e.start file)) ∙ ap (λ (x : List ℕ). x ++ drop (length e.value) (drop e.start file)) t in
        let w = subst (Spread file e.start) (each_entry (pieces 44 e.value) s.1) (pieces_spread file e.start e.value (drop (length e.value) (drop e.start file)) h.within d) in
        record { count = refl; each = laid_entry file e.start (length es) es (replicate (4 - length es) no_place) w }

pub exported_lists : ExportedLists
unfolding keys_of
exported_lists name file w e = go (asked_of w (reading ConnMan name file)) e
  where
    stands : (key : List ℕ) →
        ListStands file (entries_of file w key) (entries_at (mapped (entries_laid (entry_start (service_setting w file key))) (read_as entries (service_setting w file key))))
    stands key = list_stands file (service_setting w file key) (service_stands ConnMan file w key)

    go : (a : Answer) → answer_number (service_answer_of a (service_at w (sections_of ConnMan file))).answer ≡ 0 →
        Lists file w (service_settings_at (service_answer_of a (service_at w (sections_of ConnMan file))) (service_servers_of a (service_at w (sections_of ConnMan file)) lent_servers))
    go (Ok u) e = record { search_domains_lem = stands (word "SearchDomains"); timeservers = stands (word "Timeservers") }
    go (Err f) e = absurd (true≢false (sym (eq-eqb (number_of f.refusal) 0 e) ∙ refusal_number f.refusal))
