-- What the code says of a line that has no place in iwd, and of the buffers, by the row of a service.
use Rattle.std.specs.Prelude.{ℕ, not, List, ◌++◌, Option, None, Some}
use Rattle.std.specs.Bool.{then_some}
use Rattle.text.specs.Words.{word}
use Rattle.text.specs.declared.Dialect.TheVariants.{ConnMan}
use Rattle.rules.specs.Sections.{Entry, entry_of}
use Rattle.rules.specs.declared.Group.TheVariants.{Service}
use Rattle.places.specs.Holds.{RowKeeps}
use Rattle.places.specs.KeySlots.{key_slot, is_taken}
use Rattle.places.specs.declared.KeyName.{KeyName}
use Rattle.places.specs.declared.KeyName.TheVariants as N
use Rattle.writer.specs.Writing.{Writes}
use Rattle.writer.specs.declared.Written.{Written}
use Rattle.joins.specs.Joins.{service_join}
use Rattle.written.specs.Written.{ipv4_placed, ipv6_placed}
use Rattle.mover.specs.Moves.{line_if, line_given, least, moving_of}

-- ---- lines

-- the earlier of two lines that may be absent
abbrev pub earlier_of : Option ℕ → Option ℕ → Option ℕ
earlier_of None o = o
earlier_of (Some l) o = Some (least l o)

-- ---- the row from b on

-- the line of a key that is given
abbrev pub slot_line : List ℕ → ℕ → KeyName → Option ℕ
slot_line x b k = then_some (is_taken x b k) (key_slot x b k).line

-- the earliest of MAC, IPv6.Privacy, SearchDomains and Timeservers
abbrev pub given_slots : List ℕ → ℕ → Option ℕ
given_slots x b =
    earlier_of (slot_line x b N.Mac) (earlier_of (slot_line x b N.Privacy)
    (earlier_of (slot_line x b N.SearchDomains) (slot_line x b N.Timeservers)))

-- the lists of the move's list, each in front of those behind it: what has no place whatever it says; IPv6 and IPv4 in front of it
abbrev pub given_lines : (List ℕ → Option Entry) → List ℕ
given_lines at =
    line_given (at (word "MAC"))
    ++ (line_given (at (word "IPv6.Privacy"))
    ++ (line_given (at (word "SearchDomains"))
    ++ line_given (at (word "Timeservers"))))

abbrev pub ipv6_lines : (List ℕ → Option Entry) → List ℕ
ipv6_lines at = line_if (not (ipv6_placed (service_join at).ipv6)) (at (word "IPv6")) ++ given_lines at

abbrev pub ipv4_lines : (List ℕ → Option Entry) → List ℕ
ipv4_lines at = line_if (not (ipv4_placed (service_join at).ipv4)) (at (word "IPv4")) ++ ipv6_lines at

-- the move of the service whose settings the row keeps: the answer a, and the buffers x and y, which held n and f
pub record MovesBy (file t : List ℕ) (b : ℕ) (n f x y : List ℕ) (a : Written) : Type 0 where
  pub is : (es : List Entry) → RowKeeps ConnMan file t b Service es →
      Writes (moving_of (λ k. entry_of k es) n f) n f x y a
