-- Good groups that are written read back: each line obeys the rules, and what is left are the groups that have a setting.
use Rattle.std.specs.Prelude.{ℕ, suc, ◌+◌, ◌≡◌, refl, Bool, true, false, cond, not, ◌||◌, length, None, Some}
use Rattle.std.proofs.Common.{ap, ap₂, sym, ◌∙◌, subst}
use mathlib.Core.List.{List, [], ◌∷◌, ◌++◌, map, reverse, reverse-cons, append-nil, append_assoc}
use Rattle.std.proofs.lemmas.Bool.{not-true}
use Rattle.text.specs.Parts.{lines}
use Rattle.text.specs.Words.{same}
use Rattle.text.specs.Options.{is_some}
use Rattle.text.specs.Laws.{and_true}
use Rattle.text.specs.declared.Dialect.{Dialect}
use Rattle.lines.specs.Lines.{Line, header, setting, value_start}
use Rattle.lines.specs.Rendering.{render, rendered, WritableLine, WritableLines}
use Rattle.lines.specs.Laws.{line_render, lines_rendered}
use Rattle.rules.specs.Sections.{Entry, Section, given, name_given, with_line}
use Rattle.rules.specs.Faults.{fault}
use Rattle.rules.specs.Reading.{grown, sections_of}
use Rattle.rules.proofs.Acceptance.{LinesObey}
use Rattle.rules.specs.declared.Group.{Group}
use Rattle.written.specs.Written.{WrittenRow, Block, row_lines, headed_lines, block_lines}
use Rattle.round_trip.specs.Blocks.{bare, bare_blocks, or_skipped, kept, row_value, GoodRow, GoodRows, keys_apart, GoodBlock, GoodBlocks, name_free, names_apart, Unnamed}

-- ---- what is bare

pub given_bare : (k : List ℕ) (es : List Entry) → given k es ≡ is_some (row_value k (bare es))
given_bare k [] = refl
given_bare k (x ∷ es) = go (same k x.key) (given_bare k es)
  where
    go : (b : Bool) → given k es ≡ is_some (row_value k (bare es)) →
        (b || given k es) ≡ is_some (cond b (Some x.value) (row_value k (bare es)))
    go true e = refl
    go false e = e

bare_more : (es : List Entry) (x : Entry) → bare (es ++ (x ∷ [])) ≡ bare es ++ ((x.key, x.value) ∷ [])
bare_more [] x = refl
bare_more (y ∷ es) x = ap (λ (rs : List WrittenRow). (y.key, y.value) ∷ rs) (bare_more es x)

blocks_append : (a b : List Section) → bare_blocks (a ++ b) ≡ bare_blocks a ++ bare_blocks b
blocks_append [] b = refl
blocks_append (g ∷ a) b = ap (λ (bs : List Block). record { name = g.name; rows = bare g.entries } ∷ bs) (blocks_append a b)

-- ---- a line further: whatever the numbers and the places of the lines are

-- after the groups gs, the lines ls obey, and leave the groups bs, in file order
pub record LeavesBlocks (d : Dialect) (gs : List Section) (ls : List Line) (bs : List Block) : Type 0 where
  pub obey : (n s : ℕ) → LinesObey d n s gs (map (render d) ls)
  pub leaves : (n s : ℕ) → bare_blocks (reverse (grown d n s gs (map (render d) ls))) ≡ bs

reads_none : (d : Dialect) (gs : List Section) → LeavesBlocks d gs [] (bare_blocks (reverse gs))
unfolding grown
reads_none d gs = record { obey = λ n s. tt; leaves = λ n s. refl }

reads_line : (d : Dialect) (gs : List Section) (l : Line) (ls : List Line) (bs : List Block) → WritableLine d l →
    fault d gs l ≡ None → ((n s at : ℕ) → LeavesBlocks d (with_line d n s at l gs) ls bs) →
    LeavesBlocks d gs (l ∷ ls) bs
unfolding grown
reads_line d gs l ls bs w f h =
    record {
      obey = λ n s. (rw (line_render d l w) f, rw (line_render d l w) ((h n s (value_start d (render d l))).obey (suc n) (s + length (render d l) + 1)));
      leaves =
          λ n s.
          ap (λ (x : Line). bare_blocks (reverse (grown d (suc n) (s + length (render d l) + 1) (with_line d n s (value_start d (render d l)) x gs) (map (render d) ls)))) (line_render d l w)
          ∙ (h n s (value_start d (render d l))).leaves (suc n) (s + length (render d l) + 1);
    }

-- ---- the settings of a group

row_fault_lem : (d : Dialect) (g : Section) (gs : List Section) (r : WrittenRow) → GoodRow d g.group r →
    is_some (row_value r.0 (bare g.entries)) ≡ false → fault d (g ∷ gs) (setting r.0 r.1) ≡ None
unfolding fault
row_fault_lem d g gs r w e = rw (w.listed, given_bare r.0 g.entries, e) w.good

-- more are the lines behind them, and h is the group with them
reads_rows : (d : Dialect) (rs : List WrittenRow) (g : Section) (gs : List Section) (more : List Line) (bs : List Block) →
    GoodRows d g.group rs → keys_apart (bare g.entries) rs ≡ true →
    ((h : Section) → h.name ≡ g.name → bare h.entries ≡ bare g.entries ++ rs → LeavesBlocks d (h ∷ gs) more bs) →
    LeavesBlocks d (g ∷ gs) (row_lines rs ++ more) bs
unfolding with_line
reads_rows d [] g gs more bs w a f = f g refl (sym (append-nil (bare g.entries)))
reads_rows d (r ∷ rs) g gs more bs w a f =
    let k = and_true (not (is_some (row_value r.0 (bare g.entries)))) (keys_apart (bare g.entries ++ (r ∷ [])) rs) a in
    reads_line d (g ∷ gs) (setting r.0 r.1) (row_lines rs ++ more) bs w.0.text (row_fault_lem d g gs r w.0 (not-true (is_some (row_value r.0 (bare g.entries))) k.0))
    (λ n s at.
    let x : Entry = record { key = r.0; value = r.1; line = n; start = s + at } in
    let b : bare (g.entries ++ (x ∷ [])) ≡ bare g.entries ++ (r ∷ []) = bare_more g.entries x in
    reads_rows d rs (record { name = g.name; group = g.group; line = g.line; start = g.start; entries = g.entries ++ (x ∷ []) }) gs more bs w.1 (ap (λ (done : List WrittenRow). keys_apart done rs) b ∙ k.1)
    (λ h p q. f h p (q ∙ ap (λ (done : List WrittenRow). done ++ rs) b ∙ append_assoc (bare g.entries) (r ∷ []) rs)))

-- ---- groups

unnamed_more : (bs : List Block) (h : Section) (gs : List Section) → name_free h.name bs ≡ true → Unnamed bs gs →
    Unnamed bs (h ∷ gs)
unnamed_more [] h gs e u = tt
unnamed_more (b ∷ bs) h gs e u =
    let k = and_true (not (same b.name h.name)) (name_free h.name bs) e in
    (rw (not-true (same b.name h.name) k.0) u.0, unnamed_more bs h gs k.1 u.1)

header_fault_lem : (d : Dialect) (b : Block) (gs : List Section) → GoodBlock d b → name_given b.name gs ≡ false →
    fault d gs (header b.name) ≡ None
unfolding fault
header_fault_lem d b gs w u = rw (w.named, u, w.plain)

-- a group, once read, stands behind those before it
blocks_last : (h : Section) (gs : List Section) (b : Block) (bs : List Block) → h.name ≡ b.name →
    bare h.entries ≡ b.rows → bare_blocks (reverse (h ∷ gs)) ++ bs ≡ bare_blocks (reverse gs) ++ (b ∷ bs)
blocks_last h gs b bs p q =
    ap (λ (a : List Section). bare_blocks a ++ bs) (reverse-cons h gs)
    ∙ ap (λ (a : List Block). a ++ bs) (blocks_append (reverse gs) (h ∷ []))
    ∙ append_assoc (bare_blocks (reverse gs)) (record { name = h.name; rows = bare h.entries } ∷ []) bs
    ∙ ap₂ (λ (n : List ℕ) (rs : List WrittenRow). bare_blocks (reverse gs) ++ (record { name = n; rows = rs } ∷ bs)) p q

pub reads_blocks : (d : Dialect) (bs : List Block) (gs : List Section) → GoodBlocks d bs → names_apart bs ≡ true →
    Unnamed bs gs → LeavesBlocks d gs (block_lines bs) (bare_blocks (reverse gs) ++ kept bs)
unfolding with_line
reads_blocks d [] gs w a u = subst (λ (bs : List Block). LeavesBlocks d gs [] bs) (sym (append-nil (bare_blocks (reverse gs)))) (reads_none d gs)
reads_blocks d (b ∷ bs) gs w a u = go b.rows w.0.rows w.0.apart (λ hs v. reads_blocks d bs hs w.1 k.1 v)
  where
    k : (name_free b.name bs ≡ true) × (names_apart bs ≡ true)
    k = and_true (name_free b.name bs) (names_apart bs) a

    go : (rs : List WrittenRow) → GoodRows d w.0.group rs → keys_apart [] rs ≡ true →
        ((hs : List Section) → Unnamed bs hs → LeavesBlocks d hs (block_lines bs) (bare_blocks (reverse hs) ++ kept bs)) →
        LeavesBlocks d gs (headed_lines b.name rs ++ block_lines bs) (bare_blocks (reverse gs) ++ or_skipped b.name rs (kept bs))
    go [] v x ih = ih gs u.1
    go (r ∷ rs) v x ih =
        reads_line d gs (header b.name) (row_lines (r ∷ rs) ++ block_lines bs) (bare_blocks (reverse gs) ++ or_skipped b.name (r ∷ rs) (kept bs)) w.0.header (header_fault_lem d b gs w.0 u.0)
        (λ n s at.
        rw w.0.named
        (reads_rows d (r ∷ rs) (record { name = b.name; group = w.0.group; line = n; start = s; entries = [] }) gs (block_lines bs) (bare_blocks (reverse gs) ++ or_skipped b.name (r ∷ rs) (kept bs)) v x
        (λ h p q. subst (λ (o : List Block). LeavesBlocks d (h ∷ gs) (block_lines bs) o) (blocks_last h gs (record { name = b.name; rows = r ∷ rs }) (kept bs) p q) (ih (h ∷ gs) (unnamed_more bs h gs (ap (λ (m : List ℕ). name_free m bs) p ∙ k.0) u.1)))))

-- ---- a file

writable_append : (d : Dialect) (a b : List Line) → WritableLines d a → WritableLines d b → WritableLines d (a ++ b)
writable_append d [] b v w = w
writable_append d (l ∷ a) b v w = (v.0, writable_append d a b v.1 w)

rows_writable : (d : Dialect) (g : Group) (rs : List WrittenRow) → GoodRows d g rs → WritableLines d (row_lines rs)
rows_writable d g [] w = tt
rows_writable d g (r ∷ rs) w = (w.0.text, rows_writable d g rs w.1)

group_writable : (d : Dialect) (b : Block) (w : GoodBlock d b) (rs : List WrittenRow) → GoodRows d w.group rs →
    WritableLines d (headed_lines b.name rs)
group_writable d b w [] v = tt
group_writable d b w (r ∷ rs) v = (w.header, rows_writable d w.group (r ∷ rs) v)

pub blocks_writable : (d : Dialect) (bs : List Block) → GoodBlocks d bs → WritableLines d (block_lines bs)
blocks_writable d [] w = tt
blocks_writable d (b ∷ bs) w = writable_append d (headed_lines b.name b.rows) (block_lines bs) (group_writable d b w.0 b.rows w.0.rows) (blocks_writable d bs w.1)

module _ (d : Dialect) (bs : List Block) (w : GoodBlocks d bs) (a : names_apart bs ≡ true) where
  unnamed_first : (bs : List Block) → Unnamed bs []
  unnamed_first [] = tt
  unnamed_first (b ∷ bs) = (refl, unnamed_first bs)

  reads_file : LeavesBlocks d [] (block_lines bs) (kept bs)
  reads_file = reads_blocks d bs [] w a (unnamed_first bs)

  pub file_obeys : LinesObey d 1 0 [] (lines (rendered d (block_lines bs)))
  file_obeys = rw (lines_rendered d (block_lines bs) (blocks_writable d bs w)) (reads_file.obey 1 0)

  pub file_blocks : bare_blocks (sections_of d (rendered d (block_lines bs))) ≡ kept bs
  unfolding sections_of
  file_blocks = rw (lines_rendered d (block_lines bs) (blocks_writable d bs w)) (reads_file.leaves 1 0)
