-- A service's name: its length, its front, its identifier.
use Rattle.tables.proofs.ServiceNames.{service_short, service_long, service_other, service_name_lem}
use Rattle.tables.proofs.groups.is_service.Goals as goal

pub returns-then-name-lt9 : goal.returns-then-name-lt9
returns-then-name-lt9 c = service_short _ c.if-name-lt9.true

pub returns-then-name-gt40 : goal.returns-then-name-gt40
returns-then-name-gt40 c = service_long _ c.if-name-gt40.true

pub returns-then-equal : goal.returns-then-equal
returns-then-equal c = service_name_lem _ c.equal.ensures c.if-equal.true c.if-name-lt9.false c.if-name-gt40.false c.all_of.ensures

pub returns : goal.returns
returns c = service_other _ c.equal.ensures c.if-equal.false
