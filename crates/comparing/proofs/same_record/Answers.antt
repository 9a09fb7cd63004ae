-- The derived `==` asks place by place, in the order of the struct; `same_record` asks the same in its parts.
use Rattle.std.proofs.Common.{arith, ◌≡◌, Bool, true, false, ◌∙◌}
use Rattle.std.specs.Prelude.{◌&&◌, eqb}
use mathlib.Core.Bool.{beq}
use mathlib.Core.Path.{refl, ap₂}
use denote.Enum.Bare.{sameb}
use denote.Enum.Declared.{tag_of}
use Rattle.text.specs.Words.{same}
use Rattle.addressing.specs.contracts.Method as method
use Rattle.addressing.specs.declared.Method.{Method}
use Rattle.addressing.specs.declared.Method.TheVariants as M
use Rattle.records.specs.contracts.Credential as credential
use Rattle.records.specs.declared.Credential.{Credential}
use Rattle.records.specs.declared.Credential.TheVariants as C
use Rattle.comparing.specs.Same.{credential_case, method_case, same_flag, same_record}
use Rattle.comparing.proofs.same_record.Goals as goal

flags : (a b : Bool) → beq a b ≡ same_flag a b
flags true true = refl
flags true false = refl
flags false true = refl
flags false false = refl

credentials : (a b : Credential) → sameb credential.the_type a b ≡ eqb (credential_case a) (credential_case b)
credentials a b = ap₂ eqb (number a) (number b)
  where
    number : (c : Credential) → tag_of credential.the_type c ≡ credential_case c
    number C.None = refl
    number C.Passphrase = refl
    number C.Key = refl

methods : (a b : Method) → sameb method.the_type a b ≡ eqb (method_case a) (method_case b)
methods a b = ap₂ eqb (number a) (number b)
  where
    number : (m : Method) → tag_of method.the_type m ≡ method_case m
    number M.Auto = refl
    number M.Off = refl
    number M.Static = refl

-- the answers at a record's places, from the struct's order to the order of the parts
arranged :
    (n nm c pl p k h m a l g gw sc dl d m6 a6 l6 g6 gw6 : Bool) →
    (n && (nm && (c && (pl && (p && (k && (h && (m && (a && (l && (g && (gw
    && (sc && (dl && (d && (m6 && (a6 && (l6 && (g6 && gw6))))))))))))))))))) ≡
    ((n && nm) && ((c && (pl && (p && k))) && (((m && (l && g)) && (a && gw))
    && (((m6 && (l6 && g6)) && (a6 && gw6)) && ((dl && d) && (sc && h))))))
arranged n nm c pl p k h m a l g gw sc dl d m6 a6 l6 g6 gw6 = grind arith

pub returns : goal.returns
unfolding same_record
returns c =
    let a = c.args.a in
    let b = c.args.b in
    c.eq.ensures
    ∙ arranged
    (eqb a.name_len b.name_len)
    (same a.name b.name)
    (sameb credential.the_type a.credential b.credential)
    (eqb a.passphrase_len b.passphrase_len)
    (same a.passphrase b.passphrase)
    (same a.key b.key)
    (beq a.hidden b.hidden)
    (sameb method.the_type a.ipv4 b.ipv4)
    (same a.address b.address)
    (eqb a.length b.length)
    (beq a.has_gateway b.has_gateway)
    (same a.gateway b.gateway)
    (eqb a.server_count b.server_count)
    (eqb a.domain_len b.domain_len)
    (same a.domain b.domain)
    (sameb method.the_type a.ipv6 b.ipv6)
    (same a.ipv6_address b.ipv6_address)
    (eqb a.ipv6_length b.ipv6_length)
    (beq a.has_ipv6_gateway b.has_ipv6_gateway)
    (same a.ipv6_gateway b.ipv6_gateway)
    ∙ rw (credentials a.credential b.credential, methods a.ipv4 b.ipv4, methods a.ipv6 b.ipv6)
    (rw (flags a.hidden b.hidden, flags a.has_gateway b.has_gateway, flags a.has_ipv6_gateway b.has_ipv6_gateway))
