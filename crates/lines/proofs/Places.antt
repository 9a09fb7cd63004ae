-- What the form of a line says of it: it is the line, its places lie in it, and a value starts where `value_start` says.
use Prim.Native.Nat.{ℕ, suc, ◌+◌, ◌-◌, ◌≤◌, ◌<◌}
use native.Mathlib.Nat.{le_refl}
use native.Mathlib.Omega.{arith}
use mathlib.Core.Path.{◌≡◌, refl, ap, ap₂, sym, ◌∙◌}
use mathlib.Core.Bool.{Bool, true, false, cond, not, ◌&&◌}
use mathlib.Core.List.{List, [], ◌∷◌}
use lib.Dec.{eqb}
use lib.ListN.{length, take, drop, length-drop}
use lib.Seq.{take_all, drop-drop}
use Rattle.text.specs.Bytes.{is_blank, is_header_byte, is_key_byte}
use Rattle.text.specs.Parts.{lead, front, after, all, empty, part_at, Inside, trimmed}
use Rattle.text.specs.Scans.{Stop}
use Rattle.text.proofs.ScanLaws.{stop_low, stop_front, stop_after}
use Rattle.text.specs.declared.Dialect.{Dialect}
use Rattle.text.specs.declared.Dialect.TheVariants.{Iwd, ConnMan}
use Rattle.lines.specs.Lines.{Line, blank, comment, header, setting, broken, extends, closed, bracket_of, ended, equal_of, behind_equal, setting_of, body_of, line_of, value_start}
use Rattle.lines.specs.Forms.{run_end, value_from, value_place, form_in, form_at}
use Rattle.std.specs.Prelude.{Result, Ok, Err}
use Rattle.lines.specs.declared.Break.{Break}
use Rattle.lines.specs.declared.Form.{Form}
use Rattle.lines.specs.declared.Form.TheVariants.{Blank, Comment, Header, Setting}
use Rattle.lines.specs.declared.Break.TheVariants.{Unrecognized, Extension, BadHeader}

-- ---- what a form says of its line

-- the line that a form with places in l stands for
abbrev pub line_of_form : List ℕ → Result Form Break → Line
line_of_form l (Ok Blank) = blank
line_of_form l (Ok Comment) = comment
line_of_form l (Ok (Header p)) = header (part_at l p)
line_of_form l (Ok (Setting k v)) = setting (part_at l k) (part_at l v)
line_of_form l (Err b) = broken b

-- the places lie in n bytes
abbrev pub PlacesInside : ℕ → Result Form Break → Type 0
PlacesInside n (Ok Blank) = Unit
PlacesInside n (Ok Comment) = Unit
PlacesInside n (Ok (Header p)) = Inside n p
PlacesInside n (Ok (Setting k v)) = Inside n k × Inside n v
PlacesInside n (Err b) = Unit

-- a value starts where `value_start` says
abbrev pub ValueStarts : Dialect → List ℕ → Result Form Break → Type 0
ValueStarts d l (Ok Blank) = Unit
ValueStarts d l (Ok Comment) = Unit
ValueStarts d l (Ok (Header p)) = Unit
ValueStarts d l (Ok (Setting k v)) = v.start ≡ value_start d l
ValueStarts d l (Err b) = Unit

-- the form r is the line l, and its places lie in l
pub record Forms (d : Dialect) (l : List ℕ) (r : Result Form Break) : Type 0 where
  pub is : line_of_form l r ≡ line_of d l
  pub placed : PlacesInside (length l) r
  pub starts : ValueStarts d l r

-- two lines of different kinds
never : {A : Type 0} → ◌≡◌ {A = ℕ} 0 1 → A
never z = absurd (omega arith)

-- ---- runs and values by their ends

lead_length : (p : ℕ → Bool) (s : List ℕ) → lead p s ≤ length s
lead_length p [] = omega arith
lead_length p (x ∷ s) = go (p x) (lead_length p s)
  where
    go : (b : Bool) → lead p s ≤ length s → cond b (suc (lead p s)) 0 ≤ suc (length s)
    go true h = omega arith
    go false h = omega arith

run_stop : (p : ℕ → Bool) (l : List ℕ) (i : ℕ) → i ≤ length l → Stop p l i (run_end p l i)
run_stop p l i h = record { is = refl; within = omega (arith, lead_length p (drop i l), length-drop i l) }

stop_inside : {p : ℕ → Bool} {l : List ℕ} {i e : ℕ} → Stop p l i e → Inside (length l) (record { start = i; end = e })
stop_inside h = record { low = stop_low h; high = h.within }

-- a value without its trailing blanks is a front of it
record Fronted (t v : List ℕ) : Type 0 where
  short : length v ≤ length t
  is : take (length v) t ≡ v

trimmed_fronted : (t : List ℕ) → Fronted t (trimmed t)
trimmed_fronted [] = record { short = omega arith; is = refl }
trimmed_fronted (x ∷ t) = go (is_blank x && all is_blank t) (trimmed_fronted t)
  where
    go : (b : Bool) → Fronted t (trimmed t) → Fronted (x ∷ t) (cond b [] (x ∷ trimmed t))
    go true h = record { short = omega arith; is = refl }
    go false h = record { short = omega (arith, h.short); is = ap (λ (s : List ℕ). x ∷ s) h.is }

ended_fronted : (d : Dialect) (t : List ℕ) → Fronted t (ended d t)
ended_fronted Iwd t = record { short = le_refl (length t); is = take_all (length t) t (le_refl _) }
ended_fronted ConnMan t = trimmed_fronted t

module _ (d : Dialect) (l : List ℕ) (v : ℕ) (h : v ≤ length l) where
  value_part : part_at l (value_place d l v) ≡ ended d (drop v l)
  value_part = ap (λ (n : ℕ). take n (drop v l)) (let z : v + length (ended d (drop v l)) - v ≡ length (ended d (drop v l)) = omega arith in z) ∙ (ended_fronted d (drop v l)).is

  value_inside : Inside (length l) (value_place d l v)
  value_inside = record { low = omega arith; high = omega (arith, (ended_fronted d (drop v l)).short, length-drop v l) }

-- ---- what a header and a setting are made of

bracket_header : (d : Dialect) (s : List ℕ) {n : List ℕ} → bracket_of d s ≡ header n → front is_header_byte s ≡ n
unfolding bracket_of
bracket_header d s {n} e = go (extends d s) (not (empty (front is_header_byte s)) && closed (after is_header_byte s)) e
  where
    go : (a b : Bool) → cond a (broken Extension) (cond b (header (front is_header_byte s)) (broken BadHeader)) ≡ header n → front is_header_byte s ≡ n
    go true b q = never (cc)
    go false true q = cc
    go false false q = never (cc)

bracket_setting : {A : Type 0} (d : Dialect) (s : List ℕ) {k v : List ℕ} → bracket_of d s ≡ setting k v → A
unfolding bracket_of
bracket_setting {A} d s {k} {v} e = go (extends d s) (not (empty (front is_header_byte s)) && closed (after is_header_byte s)) e
  where
    go : (a b : Bool) → cond a (broken Extension) (cond b (header (front is_header_byte s)) (broken BadHeader)) ≡ setting k v → A
    go true b q = never (cc)
    go false true q = never (cc)
    go false false q = never (cc)

setting_header : {A : Type 0} (d : Dialect) (s : List ℕ) {n : List ℕ} → setting_of d s ≡ header n → A
unfolding setting_of
setting_header {A} d s {n} e = go (front (is_key_byte d) s) (after is_blank (after (is_key_byte d) s)) e
  where
    cases : (k v : List ℕ) (b : Bool) → cond b (setting k v) (broken Unrecognized) ≡ header n → A
    cases k v true q = never (cc)
    cases k v false q = never (cc)

    go : (k r : List ℕ) → equal_of d k r ≡ header n → A
    go k [] q = never (cc)
    go k (c ∷ r) q = cases k (ended d (after is_blank r)) (not (empty k) && eqb c 61) q

-- the key and the value of a setting, and that something stands behind the key and its whitespace
record Made (d : Dialect) (key rest k v : List ℕ) : Type 0 where
  key_is : key ≡ k
  value_is : ended d (after is_blank (drop 1 rest)) ≡ v
  more : 0 < length rest

setting_made : (d : Dialect) (s : List ℕ) {k v : List ℕ} → setting_of d s ≡ setting k v → Made d (front (is_key_byte d) s) (after is_blank (after (is_key_byte d) s)) k v
unfolding setting_of
setting_made d s {k} {v} e = go (front (is_key_byte d) s) (after is_blank (after (is_key_byte d) s)) e
  where
    cases : (key : List ℕ) (c : ℕ) (r : List ℕ) (b : Bool) → cond b (setting key (ended d (after is_blank r))) (broken Unrecognized) ≡ setting k v → Made d key (c ∷ r) k v
    cases key c r true q = record { key_is = cc; value_is = cc; more = omega arith }
    cases key c r false q = never (cc)

    go : (key r : List ℕ) → equal_of d key r ≡ setting k v → Made d key r k v
    go key [] q = never (cc)
    go key (c ∷ r) q = cases key c r (not (empty key) && eqb c 61) q

-- ---- a line whose first byte that is no blank is at i

-- which of the two a header and a setting are
record HeaderAt (d : Dialect) (l : List ℕ) (i : ℕ) (n : List ℕ) : Type 0 where
  within : i < length l
  is : bracket_of d (drop (i + 1) l) ≡ header n

record SettingAt (d : Dialect) (l : List ℕ) (i : ℕ) (k v : List ℕ) : Type 0 where
  within : i ≤ length l
  is : setting_of d (drop i l) ≡ setting k v

module _ (d : Dialect) (l : List ℕ) (i : ℕ) (h : i ≤ length l) where
  behind : {c : ℕ} {s : List ℕ} → drop i l ≡ c ∷ s → s ≡ drop (i + 1) l
  behind e = sym (ap (drop 1) e) ∙ drop-drop 1 i l

  inside : {c : ℕ} {s : List ℕ} → drop i l ≡ c ∷ s → i < length l
  inside e = omega (arith, length-drop i l, ap length e)

  body_header : {n : List ℕ} → body_of d (drop i l) ≡ header n → HeaderAt d l i n
  body_header {n} e = go (drop i l) refl e
    where
      cases : (a b : Bool) (c : ℕ) (s : List ℕ) → drop i l ≡ c ∷ s → cond a comment (cond b (bracket_of d s) (setting_of d (c ∷ s))) ≡ header n → HeaderAt d l i n
      cases true b c s q r = never (cc)
      cases false true c s q r = record { within = inside q; is = ap (bracket_of d) (sym (behind q)) ∙ r }
      cases false false c s q r = setting_header d (c ∷ s) r

      go : (t : List ℕ) → drop i l ≡ t → body_of d t ≡ header n → HeaderAt d l i n
      go [] q r = never (cc)
      go (c ∷ s) q r = cases (eqb c 35) (eqb c 91) c s q r

  body_setting : {k v : List ℕ} → body_of d (drop i l) ≡ setting k v → SettingAt d l i k v
  body_setting {k} {v} e = go (drop i l) refl e
    where
      cases : (a b : Bool) (c : ℕ) (s : List ℕ) → drop i l ≡ c ∷ s → cond a comment (cond b (bracket_of d s) (setting_of d (c ∷ s))) ≡ setting k v → SettingAt d l i k v
      cases true b c s q r = never (cc)
      cases false true c s q r = bracket_setting d s r
      cases false false c s q r = record { within = h; is = ap (setting_of d) q ∙ r }

      go : (t : List ℕ) → drop i l ≡ t → body_of d t ≡ setting k v → SettingAt d l i k v
      go [] q r = never (cc)
      go (c ∷ s) q r = cases (eqb c 35) (eqb c 91) c s q r

-- what is to be shown of the form of the line x, whose text starts at i
record FormFits (d : Dialect) (l : List ℕ) (i : ℕ) (x : Line) : Type 0 where
  is : line_of_form l (form_in d l i x) ≡ x
  placed : PlacesInside (length l) (form_in d l i x)
  starts : length l - length (behind_equal d (drop i l)) ≡ value_start d l → ValueStarts d l (form_in d l i x)

header_fits : (d : Dialect) (l : List ℕ) (i : ℕ) {n : List ℕ} → HeaderAt d l i n → FormFits d l i (header n)
header_fits d l i h =
    let s : Stop is_header_byte l (i + 1) (run_end is_header_byte l (i + 1)) = run_stop is_header_byte l (i + 1) (omega (arith, h.within)) in
    record { is = ap header (sym (stop_front s) ∙ bracket_header d (drop (i + 1) l) h.is); placed = stop_inside s; starts = λ e. tt }

setting_fits : (d : Dialect) (l : List ℕ) (i : ℕ) {k v : List ℕ} → SettingAt d l i k v → FormFits d l i (setting k v)
setting_fits d l i {k} {v} h =
    record {
      is = ap₂ setting (sym (stop_front key) ∙ made.key_is) (value_part d l start value.within ∙ sym (ap (ended d) value_rest) ∙ made.value_is);
      placed = (stop_inside key, value_inside d l start value.within);
      starts = λ e. starting ∙ e;
    }
  where
    end : ℕ
    end = run_end (is_key_byte d) l i

    equal : ℕ
    equal = run_end is_blank l end

    start : ℕ
    start = value_from l end

    made : Made d (front (is_key_byte d) (drop i l)) (after is_blank (after (is_key_byte d) (drop i l))) k v
    made = setting_made d (drop i l) h.is

    key : Stop (is_key_byte d) l i end
    key = run_stop (is_key_byte d) l i h.within

    blanks : Stop is_blank l end equal
    blanks = run_stop is_blank l end key.within

    rest : after is_blank (after (is_key_byte d) (drop i l)) ≡ drop equal l
    rest = ap (after is_blank) (stop_after key) ∙ stop_after blanks

    value : Stop is_blank l (equal + 1) start
    value = run_stop is_blank l (equal + 1) (omega (arith, made.more, ap length rest, length-drop equal l))

    value_rest : behind_equal d (drop i l) ≡ drop start l
    value_rest = ap (λ (r : List ℕ). after is_blank (drop 1 r)) rest ∙ ap (after is_blank) (drop-drop 1 equal l) ∙ stop_after value

    starting : start ≡ length l - length (behind_equal d (drop i l))
    starting = omega (arith, ap length value_rest, length-drop start l, value.within)

-- ---- the form of a line

pub form_says : (d : Dialect) (l : List ℕ) → Forms d l (form_at d l)
unfolding form_at line_of value_start
form_says d l = let w = fits (line_of d l) refl in record { is = w.is; placed = w.placed; starts = w.starts refl }
  where
    first : lead is_blank l ≤ length l
    first = lead_length is_blank l

    fits : (x : Line) → line_of d l ≡ x → FormFits d l (lead is_blank l) x
    fits blank e = record { is = refl; placed = tt; starts = λ q. tt }
    fits comment e = record { is = refl; placed = tt; starts = λ q. tt }
    fits (header n) e = header_fits d l (lead is_blank l) (body_header d l (lead is_blank l) first e)
    fits (setting k v) e = setting_fits d l (lead is_blank l) (body_setting d l (lead is_blank l) first e)
    fits (broken b) e = record { is = refl; placed = tt; starts = λ q. tt }
