-- "Security absent means psk with a Passphrase, none without", and Security psk or none means what it says, of every
-- record that is answered: a service needs a key exactly when it has a Passphrase line; with psk it needs one, and with
-- none it needs none.
use Rattle.std.specs.Prelude.{ℕ, ◌≡◌, refl, Bool, true, false, not, ◌&&◌, ◌||◌, List, Option, None, Some}
use Rattle.std.proofs.Math.Path.{ap}
use Rattle.std.proofs.Common.{sym, ◌∙◌}
use Rattle.text.specs.Options.{is_some}
use Rattle.text.specs.Words.{word}
use Rattle.text.specs.declared.Dialect.TheVariants as D
use Rattle.named_words.specs.NamedWords.{word_of}
use Rattle.named_words.specs.declared.Word.{Word}
use Rattle.named_words.specs.declared.Word.TheVariants as W
use Rattle.named_words.specs.declared.WordList.TheVariants as L
use Rattle.rules.specs.Tables.{keys_of}
use Rattle.rules.specs.Sections.{Entry, given}
use Rattle.rules.specs.WordNumbers.{is_word}
use Rattle.rules.specs.Groups.{type_is, security_is, wireless}
use Rattle.rules.specs.Reading.{sections_of}
use Rattle.rules.specs.Asking.{service_at}
use Rattle.rules.specs.ListedValues.{value_of}
use Rattle.rules.proofs.GivenValues.{service_given}
use Rattle.rules.specs.declared.Group.TheVariants as G
use Rattle.records.specs.Record.{Join}
use Rattle.joins.specs.Joins.{joined, secret_from, secret_given, needs_key, service_setting, service_joined}
use Rattle.joins.specs.Joining.{ServiceObeys, or_false_lem, service_joining}

-- ---- what the rules over a group say of Security

module _ (es : List Entry) (o : ServiceObeys es) where
  -- "Security psk without Passphrase" (14)
  psk_given : security_is W.Psk es ≡ true → given (word "Passphrase") es ≡ true
  psk_given s =
      go (given (word "Passphrase") es) (sym (ap (λ (b : Bool). b && not (given (word "Passphrase") es)) s) ∙ phraseless)
    where
      phraseless : security_is W.Psk es && not (given (word "Passphrase") es) ≡ false
      phraseless =
          (or_false_lem (type_is W.Wifi es && not (given (word "Name") es || given (word "SSID") es)) _ (or_false_lem (not (given (word "Type") es)) _ o.lacking).1).1

      go : (b : Bool) → not b ≡ false → b ≡ true
      go true e = refl
      go false e = sym e

  -- "Security none with Passphrase" (15)
  none_given : security_is W.None es ≡ true → given (word "Passphrase") es ≡ false
  none_given s =
      sym (ap (λ (b : Bool). b && given (word "Passphrase") es) s)
      ∙ (or_false_lem (type_is W.Ethernet es && wireless es) _ o.clashing).1

-- ---- the record that is answered

secret_some : (o : Option (List ℕ)) → secret_given (secret_from o None) ≡ is_some o
secret_some None = refl
secret_some (Some p) = refl

module _ (name file : List ℕ) (w : ℕ) {j : Join} (a : service_joined name file w ≡ joined j) where
  -- whatever Security says, or says not
  pub key_needed : needs_key j ≡ given (word "Passphrase") (service_at w (sections_of D.ConnMan file))
  unfolding keys_of
  key_needed =
      let h = service_joining name file w a in
      ap needs_key (sym h.is) ∙ secret_some (value_of G.Service (service_setting w file) (word "Passphrase")) ∙ service_given name file h.accepted w (word "Passphrase")

  -- a Security line with a word
  module _ {e : Entry} (l : service_setting w file (word "Security") ≡ Some e) where
    security_is_lem : (s : Word) {v : List ℕ} → e.value ≡ v → is_word s (word_of L.Security v) ≡ true →
        security_is s (service_at w (sections_of D.ConnMan file)) ≡ true
    security_is_lem s q t = rw (l, q) t

    pub psk_needs_key : e.value ≡ word "psk" → needs_key j ≡ true
    unfolding word_of
    psk_needs_key q =
        key_needed
        ∙ psk_given (service_at w (sections_of D.ConnMan file)) (service_joining name file w a).obeys (security_is_lem W.Psk q refl)

    pub none_needs_no_key : e.value ≡ word "none" → needs_key j ≡ false
    unfolding word_of
    none_needs_no_key q =
        key_needed
        ∙ none_given (service_at w (sections_of D.ConnMan file)) (service_joining name file w a).obeys (security_is_lem W.None q refl)
