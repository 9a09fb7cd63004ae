-- A file's name is read as what the rule for names says, and as nothing else.
use Rattle.std.specs.Prelude.{ℕ, ◌≡◌, refl, Bool, true, false, not, List, ◌++◌, Option, None, Some}
use Rattle.std.proofs.Common.{ap, sym, ◌∙◌, subst}
use Rattle.std.proofs.lemmas.Option.{same_Some, none-some}
use Rattle.text.specs.Bytes.{is_alphanumeric}
use Rattle.text.specs.Parts.{front, after, empty}
use Rattle.text.specs.Words.{word, same}
use Rattle.text.specs.Options.{mapped, only}
use Rattle.text.specs.Laws.{and_true, front_append, after_append, same_eq}
use Rattle.text.specs.RunLaws.{front_all, front_after, some_empty, empty_some}
use Rattle.text.specs.declared.Dialect.{Dialect}
use Rattle.text.specs.declared.Dialect.TheVariants.{Iwd, ConnMan}
use Rattle.names.specs.Names.{Network, network_of, connman_name}
use Rattle.names.specs.Laws.{network_file_name, file_name_network, network_bytes}
use Rattle.rules.specs.Reading.{Name, iwd_name, connman_file, name_in}
use Rattle.rules.specs.FileRules.{ConnmanName, FileNamed}

-- ---- ConnMan's names

is_connman : (name : List ℕ) → ConnmanName name → connman_name name ≡ true
is_connman name h =
    let a = front_append is_alphanumeric h.base 46 (word "config") h.bytes refl in
    let b = after_append is_alphanumeric h.base 46 (word "config") h.bytes refl in
    ap connman_name h.is ∙ rw (a, b, some_empty h.base h.some)

connman_is : (name : List ℕ) → connman_name name ≡ true → ConnmanName name
connman_is name e =
    let p = and_true (not (empty (front is_alphanumeric name))) (same (after is_alphanumeric name) (word ".config")) e in
    let q = same_eq (after is_alphanumeric name) (word ".config") p.1 in
    record {
      base = front is_alphanumeric name;
      some = empty_some (front is_alphanumeric name) p.0;
      bytes = front_all is_alphanumeric name;
      is = sym (front_after is_alphanumeric name) ∙ ap (λ (r : List ℕ). front is_alphanumeric name ++ r) q;
    }

-- ---- both

pub named_is : (d : Dialect) (name : List ℕ) (k : Name) → FileNamed d name k → name_in d name ≡ Some k
named_is Iwd name (iwd_name s) h =
    ap (name_in Iwd) h.2 ∙ ap (mapped (λ (x : Network). iwd_name x.suffix)) (network_file_name h.0 s h.1)
named_is Iwd name connman_file h = absurd h
named_is ConnMan name (iwd_name s) h = absurd h
named_is ConnMan name connman_file h = ap (λ (b : Bool). only b (Some connman_file)) (is_connman name h)

pub is_named : (d : Dialect) (name : List ℕ) (k : Name) → name_in d name ≡ Some k → FileNamed d name k
is_named Iwd name k e = go (network_of name) refl e
  where
    go : (o : Option Network) → network_of name ≡ o → mapped (λ (x : Network). iwd_name x.suffix) o ≡ Some k →
        FileNamed Iwd name k
    go None i q = absurd (none-some k q)
    go (Some x) i q =
        subst (FileNamed Iwd name) (same_Some (iwd_name x.suffix) k q)
        (x.name, network_bytes name i, sym (file_name_network name i))
is_named ConnMan name k e = go (connman_name name) refl e
  where
    go : (b : Bool) → connman_name name ≡ b → only b (Some connman_file) ≡ Some k → FileNamed ConnMan name k
    go false i q = absurd (none-some k q)
    go true i q = subst (FileNamed ConnMan name) (same_Some connman_file k q) (connman_is name i)

pub unnamed : (d : Dialect) (name : List ℕ) → ((k : Name) → ¬ FileNamed d name k) → name_in d name ≡ None
unnamed d name h = go (name_in d name) refl
  where
    go : (o : Option Name) → name_in d name ≡ o → o ≡ None
    go None e = refl
    go (Some k) e = absurd (h k (is_named d name k e))

pub none_named : (d : Dialect) (name : List ℕ) → name_in d name ≡ None → (k : Name) → ¬ FileNamed d name k
none_named d name e k h = none-some k (sym e ∙ named_is d name k h)
