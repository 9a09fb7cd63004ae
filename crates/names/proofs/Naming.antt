-- The returns of the functions, one law for each: what the code's tests say of the definitions.
use mathlib.Core.Path.{◌≡◌, refl, ap, ap₂, sym, ◌∙◌}
use mathlib.Core.Bool.{Bool, true, false, cond, not, ◌&&◌, true≢false}
use mathlib.Core.List.{List, [], ◌∷◌}
use Rattle.std.specs.Prelude.{Option, None, Some}
use Prim.Native.Nat.{ℕ, ◌+◌, ◌-◌, ◌*◌, ◌/◌, ◌≤◌, ◌<◌}
use native.Mathlib.Nat.{le_refl}
use native.Mathlib.Omega.{arith}
use borrow.Author.Tests.{eq-eqb, ne_eqb, not-true, not-false}
use lib.Dec.{eqb}
use lib.ListN.{length, take, drop, get_or, length-append, length-drop}
use lib.Seq.{take_at, take_all}
use Rattle.text.specs.Bytes.{other, is_plain, is_lower_hex, is_alphanumeric}
use Rattle.text.specs.Parts.{all, after, part, empty, padded}
use Rattle.text.specs.Words.{word, same, named}
use Rattle.text.specs.Options.{is_some, mapped, and_then, only, sized, or_empty, ReadsUpTo}
use Rattle.text.specs.Laws.{inside, over, part_some}
use Rattle.text.specs.Scans.{Stop}
use Rattle.text.proofs.ScanLaws.{stop_front, stop_after}
use Rattle.hex_digits.specs.Hex.{unhex, hex}
use Rattle.hex_digits.specs.Laws.{hex_length, unhex_length}
use Rattle.names.specs.declared.Suffix.{Suffix}
use Rattle.put.specs.declared.Bounded.{Bounded}
use Rattle.put.specs.Texts.{bounded}
use Rattle.std.proofs.lemmas.Option.{none-some, same_Some}
use Rattle.names.specs.Names.{stem, unplain, hex_name, name_of, suffix_of, suffixes, network, network_of, network_laid, file_name, connman_name}
use Rattle.text.specs.OptionLaws.{some_is}

-- ---- hex behind `=`: each test that it fails refuses it, and hex that passes them all gives a name

-- lower-case hex, and the bytes that it gives
pub record Decoded (h : List ℕ) : Type 0 where
  pub lower : all is_lower_hex h ≡ true
  pub text : List ℕ
  pub is : unhex h ≡ Some text

module _ (h : List ℕ) where
  pub decoded : {x y : Bool} → x ≡ all is_lower_hex h → not x ≡ false → y ≡ is_some (unhex h) → not y ≡ false → Decoded h
  decoded {x} {y} p e q f =
      let n = some_is (unhex h) (sym q ∙ not-false y f) in
      record { lower = sym p ∙ not-false x e; text = n.0; is = n.1 }

  pub hex_long : 64 < length h → None ≡ mapped (bounded 32) (sized 1 32 (hex_name h))
  hex_long l = go (all is_lower_hex h) (unhex h) refl
    where
      long : (n : List ℕ) (t : Bool) → 32 < length n → None ≡ mapped (bounded 32) (sized 1 32 (only t (Some n)))
      long n true m = rw (over {x = length n} 1 32 m)
      long n false m = refl

      go : (t : Bool) (o : Option (List ℕ)) → unhex h ≡ o → None ≡ mapped (bounded 32) (sized 1 32 (only t (and_then o unplain)))
      go false o e = refl
      go true None e = refl
      go true (Some n) e = long n (not (all is_plain n)) (omega (arith, unhex_length h e))

  pub hex_other : {x : Bool} → x ≡ all is_lower_hex h → not x ≡ true → None ≡ mapped (bounded 32) (sized 1 32 (hex_name h))
  hex_other {x} p e = rw (sym p ∙ not-true x e)

  pub hex_odd : {y : Bool} → y ≡ is_some (unhex h) → not y ≡ true → None ≡ mapped (bounded 32) (sized 1 32 (hex_name h))
  hex_odd {y} p e = go (all is_lower_hex h) (unhex h) (sym p ∙ not-true y e)
    where
      go : (t : Bool) (o : Option (List ℕ)) → is_some o ≡ false → None ≡ mapped (bounded 32) (sized 1 32 (only t (and_then o unplain)))
      go false o e = refl
      go true None e = refl
      go true (Some n) e = absurd (true≢false e)

module _ {h : List ℕ} (d : Decoded h) (l : length h ≤ 64) where
  decoded_length : length h ≡ 2 * length d.text
  decoded_length = unhex_length h d.is

  pub decoded_fits : ReadsUpTo 32 (unhex h)
  decoded_fits = rw d.is (omega (arith, decoded_length))

  module _ {a : List ℕ} (w : a ≡ padded 32 (or_empty (unhex h))) where
    decoded_padded : a ≡ padded 32 d.text
    decoded_padded = w ∙ ap (λ (o : Option (List ℕ)). padded 32 (or_empty o)) d.is

    decoded_part : take (length h / 2) a ≡ d.text
    decoded_part = ap (take (length h / 2)) decoded_padded ∙ take_at d.text _ (length h / 2) (omega (arith, decoded_length))

    module _ {t : List ℕ} (s : t ≡ take (length h / 2) a) {z : Bool} (e : z ≡ all is_plain t) where
      decoded_plain : all is_plain d.text ≡ z
      decoded_plain = ap (all is_plain) (sym (s ∙ decoded_part)) ∙ sym e

      pub hex_plain : z ≡ true → None ≡ mapped (bounded 32) (sized 1 32 (hex_name h))
      hex_plain b = rw (d.lower, d.is, decoded_plain ∙ b)

      pub hex_good : z ≡ false → Some (record { len = length h / 2; bytes = a }) ≡ mapped (bounded 32) (sized 1 32 (hex_name h))
      hex_good b =
          let n : length h / 2 ≡ length d.text = omega (arith, decoded_length) in
          rw (n, decoded_padded, d.lower, d.is, decoded_plain ∙ b, inside {x = length d.text} 1 32 (some_text d.text (decoded_plain ∙ b)) (omega (arith, decoded_length)))
        where
          some_text : (t : List ℕ) → all is_plain t ≡ false → 1 ≤ length t
          some_text [] e = absurd (true≢false e)
          some_text (c ∷ t) e = omega arith

-- ---- a stem

stem_none : (s : List ℕ) → length s ≡ 0 → name_of s ≡ None
unfolding name_of
stem_none [] h = refl
stem_none (c ∷ s) h = absurd (omega arith)

stem_view : (s : List ℕ) → (length s ≡ 0 → ⊥) → name_of s ≡ sized 1 32 (cond (eqb (get_or s 0 0) 61) (hex_name (drop 1 s)) (only (all is_plain s) (Some s)))
unfolding name_of
stem_view [] h = absurd (h refl)
stem_view (c ∷ s) h = refl

module _ (s : List ℕ) where
  pub stem_empty : length s ≡ 0 → None ≡ mapped (bounded 32) (name_of s)
  stem_empty h = rw (stem_none s h)

  module _ (h : length s ≡ 0 → ⊥) where
    pub stem_in_hex : get_or s 0 0 ≡ 61 → {r : Option (Bounded 32)} → r ≡ mapped (bounded 32) (sized 1 32 (hex_name (take (length s - 1) (drop 1 s)))) → r ≡ mapped (bounded 32) (name_of s)
    stem_in_hex e p = rw (stem_view s h, eq-eqb (get_or s 0 0) 61 e) (rw (take_all (length s - 1) (drop 1 s) (simp length-drop (le_refl _))) at p)

    module _ (n : get_or s 0 0 ≡ 61 → ⊥) where
      stem_as_is : name_of s ≡ sized 1 32 (only (all is_plain s) (Some s))
      stem_as_is = stem_view s h ∙ rw (ne_eqb (get_or s 0 0) 61 n)

      pub stem_long : 32 < length s → None ≡ mapped (bounded 32) (name_of s)
      stem_long l = rw stem_as_is (go (all is_plain s))
        where
          go : (t : Bool) → None ≡ mapped (bounded 32) (sized 1 32 (only t (Some s)))
          go true = rw (over {x = length s} 1 32 l)
          go false = refl

      module _ {x : Bool} (p : x ≡ all is_plain s) where
        pub stem_other : not x ≡ true → None ≡ mapped (bounded 32) (name_of s)
        stem_other e = rw (stem_as_is, sym p ∙ not-true x e)

        pub stem_good : not x ≡ false → length s ≤ 32 → {a : Bounded 32} → a ≡ bounded 32 s → Some a ≡ mapped (bounded 32) (name_of s)
        stem_good e l w = let m : 1 ≤ length s = omega (arith, h) in rw (w, stem_as_is, sym p ∙ not-false x e, inside {x = length s} 1 32 m l)

-- ---- a file name, whose first dot stands at e

after_part : {p : ℕ → Bool} {f : List ℕ} {e : ℕ} → Stop p f 0 e → after p f ≡ take (length f - e) (drop e f)
after_part {p} {f} {e} h = stop_after h ∙ sym (take_all (length f - e) (drop e f) (simp length-drop (le_refl _)))

module _ {f : List ℕ} {e : ℕ} (h : Stop (other 46) f 0 e) where
  network_view : network_of f ≡ and_then (named (take (length f - e) (drop e f)) suffixes) (λ k. and_then (name_of (part 0 e f)) (network k))
  unfolding network_of
  network_view = ap₂ (λ (w s : List ℕ). and_then (named w suffixes) (λ k. and_then (name_of s) (network k))) (after_part h) (stop_front h)

  pub network_other : None ≡ named (take (length f - e) (drop e f)) suffixes → None ≡ mapped network_laid (network_of f)
  network_other p = rw (network_view, sym p)

  module _ {k : Suffix} (p : Some k ≡ named (take (length f - e) (drop e f)) suffixes) where
    pub network_unnamed : None ≡ mapped (bounded 32) (name_of (part 0 e f)) → None ≡ mapped network_laid (network_of f)
    network_unnamed q = rw (network_view, sym p) (go (name_of (part 0 e f)) q)
      where
        go : (o : Option (List ℕ)) → None ≡ mapped (bounded 32) o → None ≡ mapped network_laid (and_then o (network k))
        go None q = refl
        go (Some n) q = absurd (none-some (bounded 32 n) q)

    pub network_named : {b : Bounded 32} → Some b ≡ mapped (bounded 32) (name_of (part 0 e f)) → Some (record { suffix = k; name = b }) ≡ mapped network_laid (network_of f)
    network_named {b} q = rw (network_view, sym p) (go (name_of (part 0 e f)) q)
      where
        go : (o : Option (List ℕ)) → Some b ≡ mapped (bounded 32) o → Some (record { suffix = k; name = b }) ≡ mapped network_laid (and_then o (network k))
        go None q = absurd (none-some b (sym q))
        go (Some n) q = let i : b ≡ bounded 32 n = same_Some b (bounded 32 n) q in rw i

-- ---- ConnMan's, whose letters and digits end at e

module _ {f : List ℕ} {e : ℕ} (h : Stop is_alphanumeric f 0 e) where
  connman_view : connman_name f ≡ (not (empty (part 0 e f)) && same (take (length f - e) (drop e f)) (word ".config"))
  connman_view = ap₂ (λ (s w : List ℕ). not (empty s) && same w (word ".config")) (stop_front h) (after_part h)

  pub connman_empty : e ≡ 0 → false ≡ connman_name f
  connman_empty z = sym (connman_view ∙ rw z)

  pub connman_rest : (e ≡ 0 → ⊥) → {r : Bool} → r ≡ same (take (length f - e) (drop e f)) (word ".config") → r ≡ connman_name f
  connman_rest n p = let l : 0 < e = omega (arith, n) in p ∙ sym (connman_view ∙ rw (part_some f 0 e l h.within))

-- ---- writing

module _ (n : List ℕ) {x : Bool} (p : x ≡ all is_plain n) where
  pub stem_plain : x ≡ true → stem n ≡ n
  unfolding stem
  stem_plain e = rw (sym p ∙ e)

  pub stem_hex : x ≡ false → stem n ≡ 61 ∷ hex n
  unfolding stem
  stem_hex e = rw (sym p ∙ e)

  module _ (k : Suffix) {b : ℕ} (q : b ≡ length (suffix_of k)) where
    pub length_plain : x ≡ true → length n + b ≡ length (file_name n k)
    length_plain e = simp length-append (omega (arith, ap length (stem_plain e)))

    pub length_hex : x ≡ false → 1 + 2 * length n + b ≡ length (file_name n k)
    length_hex e = simp length-append (omega (arith, ap length (stem_hex e), hex_length n))
