-- The code's judgements by what each reader answers.
use Rattle.std.specs.Prelude.{ℕ, Bool, true, false, cond, Option, Some, None, Result, Ok, Err}
use Rattle.text.specs.Bytes.{between}
use Rattle.text.specs.declared.Place.{Place}
use Rattle.kinds.specs.declared.Kind.{Kind}
use Rattle.kinds.specs.declared.Kind.TheVariants as K
use Rattle.kinds.specs.declared.Value.{Value}
use Rattle.kinds.specs.declared.Value.TheVariants.{Text}
use Rattle.kinds.specs.declared.Broken.{Broken}
use Rattle.kinds.specs.declared.Broken.TheVariants as B

abbrev pub kept_at : Place → Bool → Result Value Broken
kept_at p good = cond good (Ok (Text p)) (Err B.Kind)

abbrev pub string_judgement : Place → ℕ → ℕ → Option ℕ → Result Value Broken
string_judgement p low high (Some n) = kept_at p (between low high n)
string_judgement p low high None = Err B.Text

-- the kinds whose good values may hold more than printable ASCII
abbrev pub is_free_text : Kind → Bool
is_free_text K.Flag = false
is_free_text (K.Named w) = false
is_free_text K.Address = false
is_free_text K.Netmask = false
is_free_text K.Ipv4 = false
is_free_text K.Ipv6 = false
is_free_text K.Ipv6Address = false
is_free_text K.Ipv6WithLength = false
is_free_text (K.Addresses sep) = false
is_free_text K.Entries = true
is_free_text K.Mac = false
is_free_text K.PreSharedKey = false
is_free_text K.Ssid = false
is_free_text K.Passphrase = true
is_free_text (K.Text low high) = true

-- why a value is not good that breaks its kind, by whether its text is good
abbrev pub broken_by : Bool → Broken
broken_by text_good = cond text_good B.Kind B.Text
