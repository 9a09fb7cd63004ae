-- The code's answers: a typed value and a judgement laid out in the code's types.
use Rattle.std.specs.Prelude.{Result, Ok, Err}
use Rattle.text.specs.declared.Place.{Place}
use Rattle.kinds.specs.Typed as T
use Rattle.kinds.specs.Typed.{Typed, Judged, good, broken_text, broken_kind}
use Rattle.kinds.specs.declared.Value.{Value}
use Rattle.kinds.specs.declared.Value.TheVariants.{Flag, Mask, Word as WordValue, Text}
use Rattle.kinds.specs.declared.Broken.{Broken}
use Rattle.kinds.specs.declared.Broken.TheVariants as B

-- the value enum: "yes/no, mask length, named word, or place of a text; no array inside"
abbrev pub value_at : Place → Typed → Value
value_at p (T.flag b) = Flag b
value_at p (T.mask_length n) = Mask n
value_at p (T.word w) = WordValue w
value_at p (T.address a) = Text p
value_at p (T.addresses l) = Text p
value_at p (T.entries l) = Text p
value_at p (T.addressing i) = Text p
value_at p (T.with_length w) = Text p
value_at p (T.bytes b) = Text p

abbrev pub judgement_at : Place → Judged → Result Value Broken
judgement_at p (good t) = Ok (value_at p t)
judgement_at p broken_text = Err B.Text
judgement_at p broken_kind = Err B.Kind
