-- What a line is, by places in the file: one law for each return of `line_at`.
use Prim.Native.Nat.{ℕ, ◌+◌, ◌≤◌}
use native.Mathlib.Omega.{arith}
use mathlib.Core.Path.{◌≡◌, ap, ap₂, sym, ◌∙◌, subst}
use mathlib.Core.List.{List}
use lib.ListN.{length}
use Rattle.text.specs.Parts.{part, part_at, Inside}
use Rattle.text.specs.Laws.{part_long, part_part}
use Rattle.text.specs.declared.Dialect.{Dialect}
use Rattle.text.specs.declared.Place.{Place}
use Rattle.lines.specs.Lines.{header, setting, line_of, value_start}
use Rattle.lines.specs.Forms.{form_at}
use Rattle.lines.specs.declared.Break.{Break}
use Rattle.lines.specs.declared.Form.{Form}
use Rattle.lines.specs.declared.Form.TheVariants as F
use Rattle.lines.proofs.Places.{Forms, line_of_form, PlacesInside, ValueStarts, form_says}
use Rattle.rules.specs.Sections.{Section}
use Rattle.rules.specs.Faults.{break_of, fault}
use Rattle.rules.specs.declared.Refusal.{Refusal}
use Rattle.reader.specs.Says.{SettingIs, SettingSays}
use Rattle.reader.specs.Steps.{LineIs, LineSays}
use Rattle.places.specs.declared.Current.{Current}
use Rattle.std.specs.Prelude.{Result, Ok, Err}
use Rattle.reader.specs.declared.Line.{Line}
use Rattle.reader.specs.declared.Line.TheVariants as L

-- ---- the line from s to e, whose form is f

module _ (d : Dialect) (file : List ℕ) (s e : ℕ) (low : s ≤ e) (within : e ≤ length file) where
  abbrev line : List ℕ
  line = part s e file

  abbrev moved : Place → Place
  moved p = record { start = s + p.start; end = s + p.end }

  fits : {p : Place} → Inside (length line) p → (p.start ≤ p.end) × (s + p.end ≤ length file)
  fits i = (i.low, omega (arith, i.high, part_long file s e low within))

  inside : {p : Place} → Inside (length line) p → Inside (length file) (moved p)
  inside i = record { low = omega (arith, i.low); high = (fits i).1 }

  part_moved : {p : Place} → Inside (length line) p → part_at line p ≡ part_at file (moved p)
  part_moved {p} i = part_part file s e p.start p.end low within i.low i.high

  module _ {f : Result Form Break} (at : f ≡ form_at d line) where
    h : Forms d line f
    h = subst (Forms d line) (sym at) (form_says d line)

    pub line_blank : {x : List ℕ} {c : Current} → f ≡ Ok F.Blank → LineSays d file x c s line (Ok L.Blank)
    line_blank q = record { says = λ gs e rows. sym h.is ∙ ap (line_of_form line) q }

    pub line_comment : {x : List ℕ} {c : Current} → f ≡ Ok F.Comment → LineSays d file x c s line (Ok L.Comment)
    line_comment q = record { says = λ gs e rows. sym h.is ∙ ap (line_of_form line) q }

    pub line_broken : {x : List ℕ} {c : Current} {b : Break} → f ≡ Err b → {r : Refusal} → r ≡ break_of b → LineSays d file x c s line (Err r)
    unfolding fault
    line_broken q v = record { says = λ gs e rows. rw (sym h.is ∙ ap (line_of_form line) q, v) }

    module _ {p : Place} (q : f ≡ Ok (F.Header p)) where
      header_inside : Inside (length line) p
      header_inside = subst (PlacesInside (length line)) q h.placed

      pub header_fits : (p.start ≤ p.end) × (s + p.end ≤ length file)
      header_fits = fits header_inside

      pub line_header : {x : List ℕ} {c : Current} {r : Place} → r ≡ moved p → LineSays d file x c s line (Ok (L.Header r))
      line_header v = rw v (record { says = λ gs e rows. (sym h.is ∙ ap (line_of_form line) q ∙ ap header (part_moved header_inside), inside header_inside) })

    module _ {k v : Place} (q : f ≡ Ok (F.Setting k v)) where
      setting_inside : Inside (length line) k × Inside (length line) v
      setting_inside = subst (PlacesInside (length line)) q h.placed

      pub key_fits : (k.start ≤ k.end) × (s + k.end ≤ length file)
      key_fits = fits setting_inside.0

      pub value_fits : (v.start ≤ v.end) × (s + v.end ≤ length file)
      value_fits = fits setting_inside.1

      module _ {a b : Place} (m : a ≡ moved k) (n : b ≡ moved v) where
        pub setting_inside_file : Inside (length file) a × Inside (length file) b
        setting_inside_file = rw (m, n) (inside setting_inside.0, inside setting_inside.1)

        is_setting : line_of d line ≡ setting (part_at file a) (part_at file b)
        is_setting = rw (m, n) (sym h.is ∙ ap (line_of_form line) q ∙ ap₂ setting (part_moved setting_inside.0) (part_moved setting_inside.1))

        starts : b.start ≡ s + value_start d line
        starts = ap (λ (p : Place). p.start) n ∙ ap (λ (i : ℕ). s + i) (subst (ValueStarts d line) q h.starts)

        pub line_setting : {x : List ℕ} {c : Current} {r : Result Line Refusal} → SettingSays d file x c a b r → LineSays d file x c s line r
        line_setting {r = r} t = record { says = λ gs e rows. go r gs (t.says gs e rows) }
          where
            go : (r : Result Line Refusal) (gs : List Section) → SettingIs d file gs a b r → LineIs d file gs s line r
            go (Ok L.Blank) gs w = absurd w
            go (Ok L.Comment) gs w = absurd w
            go (Ok (L.Header p)) gs w = absurd w
            go (Ok (L.Setting i v)) gs w =
                record {
                  key = part_at file a;
                  place = b;
                  is = is_setting;
                  good = rw is_setting w.0;
                  new = w.1;
                  inside = setting_inside_file.1;
                  starts = starts;
                }
            go (Err r) gs w = rw is_setting w
