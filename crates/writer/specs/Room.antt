-- Nothing that is written is longer than ample buffers, so they never meet 17; a byte less meets it.
use Rattle.std.specs.Prelude.{ℕ, ◌≤◌, ◌<◌, ◌≡◌, refl, Bool, true, false, cond, ◌&&◌, List, leb, length}
use Rattle.std.proofs.Common.{arith, ap, ap₂, sym, ◌∙◌, le-leb, leb-true}
use Rattle.std.proofs.lemmas.Bool.{lt-leb}
use Rattle.rules.specs.Numbers.{answer_number}
use Rattle.rules.specs.declared.Refusal.TheVariants.{ShortBuffer, NoPlace, Malformed}
use Rattle.records.specs.Record.{Join, laid, laid_servers, joined}
use Rattle.records.specs.Formed.{WellFormed, Arrays, formed}
use Rattle.records.specs.Laws.{joined_good, laid_formed, joined_laid}
use Rattle.records.specs.declared.JoinRecord.{JoinRecord}
use Rattle.written.specs.Written.{has_place, name_text, file_text}
use Rattle.written.proofs.LengthLaws.{name_short, file_short}
use Rattle.written.specs.Largest.{Takes}
use Rattle.writer.specs.Writing.{Writing, writes, refuses, room, Ample, writing_of, writing_placed, writing, written_answer}

-- the number that a writing is answered with
abbrev pub written_number : Writing → ℕ
written_number w = answer_number (written_answer w).answer

-- ---- buffers with room

pub roomy : (j : Join) (n f : List ℕ) → length (name_text j) ≤ length n → length (file_text j) ≤ length f →
    writing_of j n f ≡ writes (name_text j) (file_text j)
roomy j n f h g =
    ap₂ (λ (a b : Bool). cond (a && b) (writes (name_text j) (file_text j)) (refuses ShortBuffer 0))
    (le-leb (length (name_text j)) (length n) h)
    (le-leb (length (file_text j)) (length f) g)

-- what is answered of a record that has a place, with room and without
pub data RoomIs (j : Join) (n f : List ℕ) : Writing → Type 0 where
  enough : length (name_text j) ≤ length n → length (file_text j) ≤ length f →
      RoomIs j n f (writes (name_text j) (file_text j))
  short : RoomIs j n f (refuses ShortBuffer 0)

pub room_is : (j : Join) (n f : List ℕ) → RoomIs j n f (writing_of j n f)
room_is j n f = go (room (name_text j) n) refl (room (file_text j) f) refl
  where
    go : (a : Bool) → room (name_text j) n ≡ a → (b : Bool) → room (file_text j) f ≡ b →
        RoomIs j n f (cond (a && b) (writes (name_text j) (file_text j)) (refuses ShortBuffer 0))
    go true p true q =
        enough (leb-true (length (name_text j)) (length n) p) (leb-true (length (file_text j)) (length f) q)
    go true p false q = short
    go false p b q = short

-- the number is 0 or 17: what holds of both holds of it
pub placed_number : (j : Join) (n f : List ℕ) (P : ℕ → Type 0) → P 0 → P 17 → P (written_number (writing_of j n f))
placed_number j n f P x y = go (writing_of j n f) (room_is j n f)
  where
    go : (m : Writing) → RoomIs j n f m → P (written_number m)
    go m (enough a b) = x
    go m short = y

-- ample buffers have room for every well-formed record
pub ample_writes : (j : Join) (n f : List ℕ) → WellFormed j → Ample n f →
    writing_of j n f ≡ writes (name_text j) (file_text j)
ample_writes j n f w a =
    roomy j n f (omega (arith, name_short j w, a.name)) (omega (arith, file_short j w, a.file))

-- ---- what the writer answers, case by case

-- 19; 16; or of a formed struct whose record has a place what there is room for
pub data WritingIs (r : JoinRecord) (s : List (List ℕ)) (n f : List ℕ) : Writing → Type 0 where
  malformed : WritingIs r s n f (refuses Malformed 0)
  no_place : WritingIs r s n f (refuses NoPlace 0)
  placed : formed r s ≡ true → has_place (joined r s) ≡ true → WritingIs r s n f (writing_of (joined r s) n f)

pub writing_is : (r : JoinRecord) (s : List (List ℕ)) (n f : List ℕ) → WritingIs r s n f (writing r s n f)
unfolding writing
writing_is r s n f = go (formed r s) refl (has_place (joined r s)) refl
  where
    go : (b : Bool) → formed r s ≡ b → (p : Bool) → has_place (joined r s) ≡ p →
        WritingIs r s n f (cond b (cond p (writing_of (joined r s) n f) (refuses NoPlace 0)) (refuses Malformed 0))
    go true e true q = placed e q
    go true e false q = no_place
    go false e p q = malformed

-- so 17 never comes into ample buffers, whatever the record
pub writing_never_17 : (r : JoinRecord) (s : List (List ℕ)) (n f : List ℕ) → Arrays r s → Ample n f →
    written_number (writing r s n f) ≡ 17 → ⊥
writing_never_17 r s n f a h = go (writing r s n f) (writing_is r s n f)
  where
    go : (m : Writing) → WritingIs r s n f m → written_number m ≡ 17 → ⊥
    go m malformed q = omega (arith, q)
    go m no_place q = omega (arith, q)
    go m (placed e p) q = omega (arith, ap written_number (sym (ample_writes (joined r s) n f (joined_good a e) h)) ∙ q)

-- ---- a record that is laid out

pub laid_writing : (j : Join) (n f : List ℕ) → WellFormed j → has_place j ≡ true →
    writing (laid j) (laid_servers j) n f ≡ writing_of j n f
unfolding writing
laid_writing j n f w p =
    ap (λ (b : Bool). cond b (writing_placed (joined (laid j) (laid_servers j)) n f) (refuses Malformed 0)) (laid_formed j w)
    ∙ ap (λ (i : Join). writing_placed i n f) (joined_laid j)
    ∙ ap (λ (b : Bool). cond b (writing_of j n f) (refuses NoPlace 0)) p

-- one that takes so many bytes: a byte less of either buffer meets 17
module _ {j : Join} {a b : ℕ} (t : Takes j a b) (n f : List ℕ) where
  writing_number : written_number (writing (laid j) (laid_servers j) n f) ≡ written_number (writing_of j n f)
  writing_number = ap written_number (laid_writing j n f t.good t.placed)

  pub less_name_17 : length n < a → written_number (writing (laid j) (laid_servers j) n f) ≡ 17
  less_name_17 h = writing_number ∙ rw (lt-leb (length (name_text j)) (length n) (omega (arith, t.name, h)))

  pub less_file_17 : length f < b → written_number (writing (laid j) (laid_servers j) n f) ≡ 17
  less_file_17 h = writing_number ∙ go (leb (length (name_text j)) (length n))
    where
      go : (x : Bool) →
          written_number (cond (x && leb (length (file_text j)) (length f)) (writes (name_text j) (file_text j)) (refuses ShortBuffer 0)) ≡ 17
      go true = rw (lt-leb (length (file_text j)) (length f) (omega (arith, t.file, h)))
      go false = refl
