-- The header with the address, and then the gateway (`ipv6_wrote`).
use Rattle.addressing.specs.Addressing.{gateway_if}
use Rattle.rendering.proofs.GroupTexts.{ipv6_wrote}
use Rattle.rendering.proofs.groups.put_ipv6_static.Goals as goal

pub returns : goal.returns
returns c = ipv6_wrote c.args.i.address c.args.i.length (gateway_if c.args.i.has_gateway c.args.i.gateway) c.put_ipv6_address-at.ensures c.put_ipv6_gateway.ensures
