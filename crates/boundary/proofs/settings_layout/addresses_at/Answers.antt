-- Each part of it: what is given, or the numbers of none.
use Rattle.std.proofs.Common.{◌≡◌, ap, ◌∙◌}
use Rattle.std.specs.Prelude.{unwrap_or}
use Rattle.boundary.specs.Settings.{numbers_or0}
use Rattle.boundary.proofs.settings_layout.addresses_at.Goals as goal

pub returns : goal.returns
returns c =
    let p : c.unwrap_or-ipv4.result ≡ numbers_or0 4 c.args.s.ipv4 = c.unwrap_or-ipv4.ensures ∙ ap (unwrap_or c.args.s.ipv4) c.unnumbered.ensures in
    let q : c.unwrap_or-ipv6.result ≡ numbers_or0 16 c.args.s.ipv6 = c.unwrap_or-ipv6.ensures ∙ ap (unwrap_or c.args.s.ipv6) c.unnumbered-2.ensures in
    cc (p, q)
