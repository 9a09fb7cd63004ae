-- What UTF-8 is made of: its numbers are bytes, those behind a first byte are not ASCII, and a value's text is a record's.
use Rattle.std.specs.Prelude.{ℕ, ◌≤◌, ◌<◌, ◌≡◌, refl, Bool, true, false, cond, not, List, [], ◌∷◌, eqb, leb}
use Rattle.std.proofs.Common.{arith, leb-true, leb-false, lt-ltb}
use Rattle.std.proofs.lemmas.Bool.{false≢true}
use Rattle.text.specs.Bytes.{is_byte, between, other}
use Rattle.text.specs.Parts.{all}
use Rattle.text.specs.Laws.{and_true, all_weaken, over, between_low, between_high}
use Rattle.utf8.specs.Utf8.{Range, ◌to◌, follow, utf8_from, utf8, text_byte, text, value_text, record_text}

-- ---- the ranges behind a first byte

-- a range of bytes from 128 on, and such ranges
pub record Trailing (r : Range) : Type 0 where
  pub within : (x : ℕ) → between r.low r.high x ≡ true → (128 ≤ x) × (x < 256)

pub data AllTrailing : List Range → Type 0 where
  end : AllTrailing []
  more : {r : Range} {rs : List Range} → Trailing r → AllTrailing rs → AllTrailing (r ∷ rs)

trailing : (l h : ℕ) → 128 ≤ l → h < 256 → Trailing (l to h)
trailing l h j k =
    record { within = λ x e. (omega (arith, between_low {x = x} l h e), omega (arith, between_high {x = x} l h e)) }

-- the range that holds nothing
nothing_trailing : Trailing (1 to 0)
nothing_trailing =
    record { within = λ x e. absurd (omega (arith, between_low {x = x} 1 0 e, between_high {x = x} 1 0 e)) }

either : (t : Bool) {a b : List Range} → AllTrailing a → AllTrailing b → AllTrailing (cond t a b)
either true f g = f
either false f g = g

pub follow_trailing : (b : ℕ) → AllTrailing (follow b)
unfolding follow
follow_trailing b =
    let t : Trailing (128 to 191) = trailing 128 191 (omega arith) (omega arith) in
    either (between 0 127 b) end
    (either (between 194 223 b) (more t end)
    (either (between 224 224 b) (more (trailing 160 191 (omega arith) (omega arith)) (more t end))
    (either (between 225 236 b) (more t (more t end))
    (either (between 237 237 b) (more (trailing 128 159 (omega arith) (omega arith)) (more t end))
    (either (between 238 239 b) (more t (more t end))
    (either (between 240 240 b) (more (trailing 144 191 (omega arith) (omega arith)) (more t (more t end)))
    (either (between 241 243 b) (more t (more t (more t end)))
    (either (between 244 244 b) (more (trailing 128 143 (omega arith) (omega arith)) (more t (more t end)))
    (more nothing_trailing end)))))))))

-- such a range holds no ASCII
pub trailing_ascii : {r : Range} → Trailing r → (x : ℕ) → x < 128 → between r.low r.high x ≡ false
trailing_ascii {r} h x l = go (between r.low r.high x) refl
  where
    go : (t : Bool) → between r.low r.high x ≡ t → t ≡ false
    go true e = absurd (omega (arith, (h.within x e).0))
    go false e = refl

-- ---- text is bytes

-- a number above 255 is first in no sequence
follow_over : (b : ℕ) → 255 < b → follow b ≡ 1 to 0 ∷ []
unfolding follow
follow_over b h =
    rw (
      over {x = b} 0 127 (omega arith),
      over {x = b} 194 223 (omega arith),
      over {x = b} 224 224 (omega arith),
      over {x = b} 225 236 (omega arith),
      over {x = b} 237 237 (omega arith),
      over {x = b} 238 239 (omega arith),
      over {x = b} 240 240 (omega arith),
      over {x = b} 241 243 (omega arith),
      over {x = b} 244 244 (omega arith),
    )

never_from : (s : List ℕ) → utf8_from (1 to 0 ∷ []) s ≡ true → ⊥
unfolding utf8_from
never_from [] e = false≢true e
never_from (x ∷ s) e =
    let h = (and_true (between 1 0 x) (utf8_from [] s) e).0 in
    omega (arith, between_low {x = x} 1 0 h, between_high {x = x} 1 0 h)

first_byte : (b : ℕ) (s : List ℕ) → utf8_from (follow b) s ≡ true → is_byte b ≡ true
first_byte b s e = go (leb b 255) refl
  where
    go : (t : Bool) → leb b 255 ≡ t → is_byte b ≡ true
    go true h = lt-ltb b 256 (omega (arith, leb-true b 255 h))
    go false h = absurd (never_from s (rw (follow_over b (omega (arith, leb-false b 255 h))) at e))

from_bytes : (rs : List Range) → AllTrailing rs → (s : List ℕ) → utf8_from rs s ≡ true → all is_byte s ≡ true
unfolding utf8_from
from_bytes [] k [] e = refl
from_bytes (r ∷ rs) k [] e = absurd (false≢true e)
from_bytes [] k (b ∷ s) e = rw (first_byte b s e) (from_bytes (follow b) (follow_trailing b) s e)
from_bytes (r ∷ rs) (more h k) (b ∷ s) e =
    let f = and_true (between r.low r.high b) (utf8_from rs s) e in
    rw (lt-ltb b 256 (h.within b f.0).1) (from_bytes rs k s f.1)

pub text_bytes : (t : List ℕ) → record_text t ≡ true → all is_byte t ≡ true
unfolding text
text_bytes t e = from_bytes [] end t (and_true (all (text_byte false) t) (utf8 t) e).1

-- ---- a value's text is a record's

pub value_record_byte : (b : ℕ) → text_byte true b ≡ true → text_byte false b ≡ true
value_record_byte b e = rw (and_true (other 0 b) (not (eqb b 13)) e).0

pub value_record : (v : List ℕ) → value_text v ≡ true → record_text v ≡ true
unfolding text
value_record v e =
    let h = and_true (all (text_byte true) v) (utf8 v) e in
    rw (all_weaken (text_byte true) (text_byte false) value_record_byte v h.0) h.1
