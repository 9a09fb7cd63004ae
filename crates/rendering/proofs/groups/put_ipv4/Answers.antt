-- The header and the settings are written where there is a setting, and nothing where there is none.
use mathlib.Core.Path.{sym, ◌∙◌}
use Rattle.rendering.proofs.GroupTexts.{ipv4_wrote}
use Rattle.rendering.proofs.groups.put_ipv4.Goals as goal

pub returns-then-has_ipv4 : goal.returns-then-has_ipv4
returns-then-has_ipv4 c = ipv4_wrote _ (sym c.has_ipv4.ensures ∙ c.if-has_ipv4.true) c.put_text-at.ensures c.put_ipv4_rows.ensures
