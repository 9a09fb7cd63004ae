-- Worked cases.
use Rattle.std.specs.Prelude.{◌≡◌, refl, List, [], ◌∷◌, map}
use Prim.Native.String.{String}
use Rattle.text.specs.Words.{word}
use Rattle.text.specs.Bytes.{is_key_byte}
use Rattle.text.specs.declared.Dialect.{Dialect}
use Rattle.text.specs.declared.Dialect.TheVariants.{Iwd, ConnMan}
use Rattle.lines.specs.Lines.{Line, blank, comment, header, setting, broken, bracket_of, setting_of, line_of}
use Rattle.lines.specs.declared.Break.TheVariants.{Unrecognized, Extension, BadHeader}

abbrev Case : Type 0
Case = Dialect × String × Line

abbrev cases : List Case
cases =
    (Iwd, "", blank)
    ∷ (Iwd, " \t", blank)
    ∷ (ConnMan, "\t# any = [bytes", comment)
    ∷ (Iwd, "; no comment", broken Unrecognized)
    ∷ (Iwd, "  [IPv4] \t", header (word "IPv4"))
    ∷ (Iwd, "[ IPv4 ]", header (word " IPv4 "))
    ∷ (Iwd, "[]", broken BadHeader)
    ∷ (Iwd, "[IPv4", broken BadHeader)
    ∷ (Iwd, "[IPv4] x", broken BadHeader)
    ∷ (Iwd, "[IP[v4]", broken BadHeader)
    ∷ (Iwd, "[@pem@ca]", broken Extension)
    ∷ (Iwd, "[@", broken Extension)
    ∷ (ConnMan, "[@pem@ca]", header (word "@pem@ca"))
    ∷ (Iwd, "Passphrase=1234567 ", setting (word "Passphrase") (word "1234567 "))
    ∷ (ConnMan, "Passphrase=1234567 ", setting (word "Passphrase") (word "1234567"))
    ∷ (ConnMan, " IPv6.Privacy \t=  a = b\t ", setting (word "IPv6.Privacy") (word "a = b"))
    ∷ (Iwd, "IPv6.Privacy = enabled", broken Unrecognized)
    ∷ (Iwd, "Hidden=", setting (word "Hidden") [])
    ∷ (Iwd, "=x", broken Unrecognized)
    ∷ (Iwd, "Hidden", broken Unrecognized)
    ∷ (Iwd, "Hid den=true", broken Unrecognized)
    ∷ []

abbrev of : Case → Line
of c = line_of c.0 (word c.1)

abbrev answer : Case → Line
answer c = c.2

pub table : map of cases ≡ map answer cases
unfolding line_of bracket_of setting_of is_key_byte
table = refl
