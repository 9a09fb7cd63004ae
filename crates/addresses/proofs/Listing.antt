-- Where the next field of a list starts, and the loop that reads the fields: a law for each turn and each return.
use Rattle.std.proofs.Common.{◌≡◌, ℕ, ◌+◌, ◌-◌, ◌<◌, ◌≤◌, Bool, true, false, not, eqb, List, [], ◌∷◌, ◌++◌, length, get_or, drop, set, replicate, sym, refl, ap, ◌∙◌, arith}
use Rattle.std.specs.Prelude.{None, Some}
use Rattle.text.specs.declared.Class.TheVariants.{Space}
use Rattle.text.specs.Bytes.{other, member_of}
use Rattle.text.specs.Parts.{front, after, onto, pieces}
use Rattle.text.specs.Options.{sized, each}
use Rattle.text.specs.Laws.{inside, is_other, not_other, pass_other, view_more, view_end, pieces_some}
use Rattle.text.specs.Scans.{Stop}
use Rattle.text.proofs.ScanLaws.{stop_after}
use Rattle.addresses.specs.declared.Separator.{Separator}
use Rattle.addresses.specs.declared.Separator.TheVariants.{Spaces, Comma}
use Rattle.addresses.specs.Addresses.{separator, non_empty, spaced, fields, address, addresses, no_address, rows}
use Rattle.addresses.specs.Fields.{Includes, run, ReadAt, NoneAt, is_address_byte, others, FieldAt, NoField, FilledBy}
use Rattle.put.proofs.Gathering.{Gathered, gathered_first, gathered_turn, gathered_broken, gathered_end, gathered_full}
use Rattle.addresses.proofs.Runs.{Whole, read_end, read_before, read_followed, read_stop, behind, pieces_first}

-- the fields behind some spaces: none where nothing follows them
abbrev behind_spaces : List ℕ → List (List ℕ)
behind_spaces [] = []
behind_spaces (x ∷ t) = spaced (pieces 32 (x ∷ t))

spaces_skipped : (t : List ℕ) → non_empty (pieces 32 t) ≡ behind_spaces (after (member_of Space) t)
spaces_skipped [] = refl
spaces_skipped (x ∷ t) = go (eqb x 32) refl (spaces_skipped t)
  where
    word : (ps : List (List ℕ)) → non_empty (onto x ps) ≡ spaced (onto x ps)
    word [] = refl
    word (p ∷ ps) = refl

    go : (b : Bool) → eqb x 32 ≡ b → non_empty (pieces 32 t) ≡ behind_spaces (after (member_of Space) t) → non_empty (pieces 32 (x ∷ t)) ≡ behind_spaces (after (member_of Space) (x ∷ t))
    go true e h = rw e h
    go false e h = rw e (rw e (word (pieces 32 t)))

spaces_stop : {s : List ℕ} {i n : ℕ} → Stop (member_of Space) s i n →
    non_empty (pieces 32 (drop i s)) ≡ behind_spaces (drop n s)
spaces_stop {s} {i} t = spaces_skipped (drop i s) ∙ ap behind_spaces (stop_after t)

-- one law for each return of `next_field`
module _ (sep : Separator) {s : List ℕ} {i : ℕ} where
  pub next_comma : sep ≡ Comma → i < length s → FieldAt sep s i (i + 1)
  next_comma w l = record { within = omega arith; is = rw w }

  module _ (w : sep ≡ Spaces) {n : ℕ} (t : Stop (member_of Space) s (i + 1) n) where
    pub next_none : n ≡ length s → NoField sep s i
    next_none l = record { is_none = rw w (spaces_stop t ∙ rw (view_end s n l)) }

    pub next_spaces : (n ≡ length s → ⊥) → FieldAt sep s i n
    next_spaces l =
        let m : n < length s = omega (arith, t.within, l) in
        record { within = t.within; is = rw w (spaces_stop t ∙ go (drop n s) (view_more s n m)) }
      where
        go : (l : List ℕ) → l ≡ get_or s n 0 ∷ drop (n + 1) s → behind_spaces l ≡ spaced (pieces 32 l)
        go l v = rw v

-- the fields of a text, by its first piece
fields_first : (sep : Separator) (t : List ℕ) →
    fields sep t ≡ front (other (separator sep)) t ∷ others sep (behind (separator sep) (after (other (separator sep)) t))
fields_first Spaces t = ap spaced (pieces_first 32 t)
fields_first Comma t = pieces_first 44 t

others_none : (sep : Separator) → others sep [] ≡ []
others_none Spaces = refl
others_none Comma = refl

-- a byte of an address is no separator
address_apart : (sep : Separator) → Includes (other (separator sep)) is_address_byte
address_apart Spaces x e = ap not (pass_other is_address_byte 32 refl x e)
address_apart Comma x e = ap not (pass_other is_address_byte 44 refl x e)

-- ---- the loop over the fields: n addresses are read and stand in x, and those from index at on are still to be read

pub record Addressing (sep : Separator) (s : List ℕ) (x : List (List ℕ)) (at n : ℕ) : Type 0 where
  pub within : at ≤ length s
  pub gathered : Gathered address no_address (fields sep s) (fields sep (drop at s)) x n

pub addressing_first : (sep : Separator) (s : List ℕ) {x : List (List ℕ)} → x ≡ rows None → Addressing sep s x 0 0
addressing_first sep s e = rw e (record { within = omega arith; gathered = gathered_first })

fields_some : (sep : Separator) (s : List ℕ) → 1 ≤ length (fields sep s)
fields_some Comma s = pieces_some 44 s
fields_some Spaces s = go (pieces 32 s) (pieces_some 32 s)
  where
    go : (ps : List (List ℕ)) → 1 ≤ length ps → 1 ≤ length (spaced ps)
    go [] h = h
    go (p ∷ ps) h = omega arith

module _ {sep : Separator} {s : List ℕ} {x : List (List ℕ)} {at n : ℕ} (h : Addressing sep s x at n) where
  pub addressing_full : 4 ≤ n → addresses sep s ≡ None
  unfolding addresses
  addressing_full k = gathered_full h.gathered 1 k (fields_some sep (drop at s))

  -- a byte of the field at at
  abbrev apart : ℕ → Bool
  apart = other (separator sep)

  unread : address (run apart s at) ≡ None → addresses sep s ≡ None
  unfolding addresses
  unread k = gathered_broken h.gathered 1 (fields_first sep (drop at s)) k

  pub addressing_broken : NoneAt address is_address_byte s at → addresses sep s ≡ None
  addressing_broken a = unread (a.is_none apart (address_apart sep))

  module _ {e : ℕ} {b : List ℕ} (a : ReadAt address is_address_byte s at e b) where
    module _ (l : n < 4) where
      -- one address more is read, and the fields qs are left
      abbrev Turned : List (List ℕ) → Type 0
      Turned qs = Gathered address no_address (fields sep s) qs (set x n b) (n + 1)

      turned : {qs : List (List ℕ)} → Whole address apart s at e b →
          others sep (behind (separator sep) (drop e s)) ≡ qs → Turned qs
      turned t k = gathered_turn h.gathered (fields_first sep (drop at s) ∙ rw (stop_after t.stop, k)) t.value l

      whole : {qs : List (List ℕ)} → Turned qs → qs ≡ [] → FilledBy (addresses sep s) (set x n b) (n + 1)
      unfolding addresses
      whole g k =
          let i = inside {x = n + 1} 1 4 (omega arith) (omega arith) in
          let w : sized 1 4 (each address (fields sep s)) ≡ Some g.done = gathered_end g 1 k ∙ rw i in
          let y = ap (λ (j : ℕ). g.done ++ replicate (4 - j) no_address) (sym g.long) in
          rw w (record { count = sym g.long; array = g.array ∙ y })

      pub addressing_last : e ≡ length s → FilledBy (addresses sep s) (set x n b) (n + 1)
      addressing_last k =
          whole (turned (read_end a apart (address_apart sep) k) (rw (view_end s e k) (others_none sep))) refl

    module _ (k : e ≡ length s → ⊥) where
      pub addressing_before : e < length s
      addressing_before = read_before a apart (address_apart sep) k

      -- the byte behind the address is a separator, or none
      module _ {d : ℕ} (v : d ≡ separator sep) where
        pub addressing_apart : (get_or s e 0 ≡ d → ⊥) → addresses sep s ≡ None
        addressing_apart c =
            unread
            (read_followed a apart (address_apart sep) k
            (is_other (get_or s e 0) (separator sep) (λ i. c (i ∙ sym v))))

        module _ (c : get_or s e 0 ≡ d) (l : n < 4) where
          next : {qs : List (List ℕ)} → others sep (pieces (separator sep) (drop (e + 1) s)) ≡ qs → Turned l qs
          next f =
              turned l (read_stop a apart (address_apart sep) k (not_other (get_or s e 0) (separator sep) (c ∙ v)))
              (rw (view_more s e addressing_before) f)

          pub addressing_end : NoField sep s e → FilledBy (addresses sep s) (set x n b) (n + 1)
          addressing_end f = whole l (next f.is_none) refl

          pub addressing_turn : {m : ℕ} → FieldAt sep s e m → Addressing sep s (set x n b) m (n + 1)
          addressing_turn f = record { within = f.within; gathered = next f.is }
