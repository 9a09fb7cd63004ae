-- By the credential: what stands in front of it, itself, and the end of the line (`line_size`).
use mathlib.Core.Path.{ap}
use native.Mathlib.Omega.{arith}
use lib.ListN.{length}
use Rattle.text.specs.Words.{word}
use Rattle.escapes.specs.Laws.{escape_length}
use Rattle.hex_digits.specs.Hex.{hex}
use Rattle.hex_digits.specs.Laws.{hex_length}
use Rattle.rendering.proofs.ExactSizes.{line_size}
use Rattle.rendering.proofs.GroupTexts.{security_key}
use Rattle.rendering.proofs.sizes.security_len.Goals as goal

pub overflow_add-result : goal.overflow_add-result
overflow_add-result c = omega (arith, escape_length c.args.passphrase.now, c.requires.0, c.escaped_len.ensures)

pub returns-in-Key : goal.returns-in-Key
returns-in-Key c = omega (arith, ap length (security_key c.args.passphrase.now c.args.key.now c.in-Key.is), line_size (word "[Security]\nPreSharedKey=") (hex c.args.key.now), hex_length c.args.key.now, c.requires.1)
