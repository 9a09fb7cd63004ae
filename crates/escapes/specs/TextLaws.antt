-- What is escaped is a value's text just where it was a record's, and what is read of a value's text is a record's text.
use Rattle.std.specs.Prelude.{◌≡◌, refl, Bool, true, false, ◌&&◌, ℕ, ◌<◌, ◌≤◌, Some}
use Rattle.std.proofs.Math.Path.{ap}
use Rattle.std.proofs.Common.{ap₂, sym, ◌∙◌, arith, ne_eqb}
use mathlib.Core.List.{List, [], ◌∷◌, ◌++◌}
use Rattle.text.specs.Bytes.{between}
use Rattle.text.specs.Parts.{all}
use Rattle.text.specs.Laws.{and_true, all_cons}
use Rattle.utf8.specs.Utf8.{Range, follow, utf8_from, utf8, text_byte, text, value_text, record_text}
use Rattle.utf8.specs.Laws.{follow_ascii}
use Rattle.utf8.specs.ByteLaws.{AllTrailing, end, more, follow_trailing, trailing_ascii, value_record_byte}
use Rattle.escapes.specs.Escapes.{shown, unescape, escape_from, escape}
use Rattle.escapes.specs.StringRules.{Escape, space, tab, return, newline, backslash, Unescaped, no_more, as_it_stands, escaped}
use Rattle.escapes.specs.StringRuleLaws.{unescape_is}
use Rattle.escapes.specs.Laws.{shown_cases}

-- ---- written

-- a byte below 128 stands for itself, and breaks a sequence that is not whole
abbrev whole : List Range → Bool → Bool
whole [] b = b
whole (r ∷ rs) b = false

low : (rs : List Range) → AllTrailing rs → (x : ℕ) → x < 128 → (s : List ℕ) →
    utf8_from rs (x ∷ s) ≡ whole rs (utf8_from [] s)
unfolding utf8_from
low [] a x l s = ap (λ (rs : List Range). utf8_from rs s) (follow_ascii x (omega arith))
low (r ∷ rs) (more h a) x l s = rw (trailing_ascii h x l)

-- what is written of a byte, in front of what is written of the rest
module _ (w t : List ℕ) (rest : (rs : List Range) → AllTrailing rs → utf8_from rs w ≡ utf8_from rs t) (rs : List Range) (a : AllTrailing rs) where
  pair : (y z x : ℕ) → y < 128 → z < 128 → x < 128 → utf8_from rs (y ∷ z ∷ w) ≡ utf8_from rs (x ∷ t)
  pair y z x ly lz lx = low rs a y ly (z ∷ w) ∙ ap (whole rs) (low [] end z lz w ∙ rest [] end) ∙ sym (low rs a x lx t)

  same : (x : ℕ) → utf8_from rs (x ∷ w) ≡ utf8_from rs (x ∷ t)
  unfolding utf8_from
  same x = go rs a
    where
      go : (rs : List Range) → AllTrailing rs → utf8_from rs (x ∷ w) ≡ utf8_from rs (x ∷ t)
      go [] b = rest (follow x) (follow_trailing x)
      go (r ∷ rs) (more h b) = ap (λ (k : Bool). between r.low r.high x && k) (rest rs b)

  one : (f : Bool) (c : ℕ) → utf8_from rs (shown f c ++ w) ≡ utf8_from rs (c ∷ t)
  one f = shown_cases (λ (c : ℕ) (l : List ℕ). utf8_from rs (l ++ w) ≡ utf8_from rs (c ∷ t)) f (pair 92 110 10 (omega arith) (omega arith) (omega arith)) (pair 92 114 13 (omega arith) (omega arith) (omega arith)) (pair 92 92 92 (omega arith) (omega arith) (omega arith)) (blank f) (blank' f) (λ c hn hr hb hs ht. same c)
    where
      blank : (f : Bool) → utf8_from rs (shown f 32 ++ w) ≡ utf8_from rs (32 ∷ t)
      blank true = pair 92 115 32 (omega arith) (omega arith) (omega arith)
      blank false = same 32

      blank' : (f : Bool) → utf8_from rs (shown f 9 ++ w) ≡ utf8_from rs (9 ∷ t)
      blank' true = pair 92 116 9 (omega arith) (omega arith) (omega arith)
      blank' false = same 9

escape_from_utf8 : (f : Bool) (t : List ℕ) (rs : List Range) → AllTrailing rs →
    utf8_from rs (escape_from f t) ≡ utf8_from rs t
unfolding escape_from
escape_from_utf8 f [] rs a = refl
escape_from_utf8 f (c ∷ t) rs a = one (escape_from false t) t (λ rs a. escape_from_utf8 false t rs a) rs a f c

pub escape_utf8 : (t : List ℕ) → utf8 (escape t) ≡ utf8 t
escape_utf8 t = escape_from_utf8 true t [] end

-- the bytes
all_shown : (f : Bool) (r : List ℕ) (c : ℕ) →
    all (text_byte true) (shown f c ++ r) ≡ (text_byte false c && all (text_byte true) r)
all_shown true r = shown_cases (λ (c : ℕ) (l : List ℕ). all (text_byte true) (l ++ r) ≡ (text_byte false c && all (text_byte true) r)) true refl refl refl refl refl (λ c hn hr hb hs ht. rw (ne_eqb c 13 hr))
all_shown false r = shown_cases (λ (c : ℕ) (l : List ℕ). all (text_byte true) (l ++ r) ≡ (text_byte false c && all (text_byte true) r)) false refl refl refl refl refl (λ c hn hr hb hs ht. rw (ne_eqb c 13 hr))

escape_from_bytes : (f : Bool) (t : List ℕ) → all (text_byte true) (escape_from f t) ≡ all (text_byte false) t
unfolding escape_from
escape_from_bytes f [] = refl
escape_from_bytes f (c ∷ t) = all_shown f (escape_from false t) c ∙ ap (λ (k : Bool). text_byte false c && k) (escape_from_bytes false t)

pub escape_text : (t : List ℕ) → text true (escape t) ≡ text false t
unfolding text
escape_text t = ap₂ ◌&&◌ (escape_from_bytes true t) (escape_utf8 t)

-- ---- read

escape_ascii : {c byte : ℕ} → Escape c byte → (c ≤ 127) × (byte ≤ 127)
escape_ascii space = (omega arith, omega arith)
escape_ascii tab = (omega arith, omega arith)
escape_ascii return = (omega arith, omega arith)
escape_ascii newline = (omega arith, omega arith)
escape_ascii backslash = (omega arith, omega arith)

utf8_ascii : (b : ℕ) (s : List ℕ) → b ≤ 127 → utf8 (b ∷ s) ≡ utf8 s
unfolding utf8_from
utf8_ascii b s h = ap (λ (rs : List Range). utf8_from rs s) (follow_ascii b h)

unescaped_utf8 : {s t : List ℕ} (rs : List Range) → AllTrailing rs → Unescaped s t → utf8_from rs s ≡ true →
    utf8_from rs t ≡ true
unfolding utf8_from
unescaped_utf8 rs k no_more e = e
unescaped_utf8 [] k (as_it_stands {c} d h) e = unescaped_utf8 (follow c) (follow_trailing c) h e
unescaped_utf8 (r ∷ rs) (more f k) (as_it_stands {c} {s} d h) e =
    let g = and_true (between r.low r.high c) (utf8_from rs s) e in
    rw g.0 (unescaped_utf8 rs k h g.1)
unescaped_utf8 [] k (escaped {c} {byte} {s} {t} d h) e =
    let a = escape_ascii d in
    utf8_ascii byte t a.1
    ∙ unescaped_utf8 [] end h (sym (utf8_ascii 92 (c ∷ s) (omega arith) ∙ utf8_ascii c s a.0) ∙ e)
unescaped_utf8 (r ∷ rs) (more f k) (escaped {c} {byte} {s} d h) e =
    absurd (omega (arith, (f.within 92 (and_true (between r.low r.high 92) (utf8_from rs (c ∷ s)) e).0).0))

escape_byte : {c byte : ℕ} → Escape c byte → text_byte false byte ≡ true
escape_byte space = refl
escape_byte tab = refl
escape_byte return = refl
escape_byte newline = refl
escape_byte backslash = refl

unescaped_bytes : {s t : List ℕ} → Unescaped s t → all (text_byte true) s ≡ true → all (text_byte false) t ≡ true
unescaped_bytes no_more e = refl
unescaped_bytes (as_it_stands {c} {s} d h) e =
    let k = all_cons (text_byte true) c s e in
    rw (value_record_byte c k.0) (unescaped_bytes h k.1)
unescaped_bytes (escaped {c} {byte} {s} d h) e =
    let k = all_cons (text_byte true) c s (all_cons (text_byte true) 92 (c ∷ s) e).1 in
    rw (escape_byte d) (unescaped_bytes h k.1)

pub unescape_text : (v : List ℕ) {t : List ℕ} → value_text v ≡ true → unescape v ≡ Some t → record_text t ≡ true
unfolding text
unescape_text v e r =
    let k = and_true (all (text_byte true) v) (utf8 v) e in
    let h = unescape_is v r in
    rw (unescaped_bytes h k.0) (unescaped_utf8 [] end h k.1)
