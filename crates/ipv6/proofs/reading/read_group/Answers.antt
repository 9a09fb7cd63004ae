-- The number that one to four hex digits write, up to the next colon: the loop values them (`Digits`).
use Rattle.std.proofs.Common.{◌<◌, arith, sym, ◌∙◌}
use Rattle.hex_digits.specs.Laws.{digit_is}
use Rattle.ipv6.proofs.Parsing.{digits_first, digits_colon, digits_broken, digits_long, digits_room, digits_turn, digits_end}
use Rattle.ipv6.proofs.reading.read_group.Goals as goal

pub loop-i-init : goal.loop-i-init
loop-i-init c = digits_first _ _ c.requires

pub returns-then-c-eq58 : goal.returns-then-c-eq58
returns-then-c-eq58 c = digits_colon c.loop-i.invariant c.loop-i-test.true c.if-c-eq58.true c.then_some.ensures

pub returns-in_default : goal.returns-in_default
returns-in_default c = digits_broken c.loop-i.invariant c.loop-i-test.true c.digit_value.ensures c.in_default.is c.if-c-eq58.false c.find_near.ensures

pub returns-then-i-at-ge4 : goal.returns-then-i-at-ge4
returns-then-i-at-ge4 c = digits_long c.loop-i.invariant c.loop-i-test.true c.digit_value.ensures c.in-Some.is c.if-i-at-ge4.true c.find_near-then-i-at-ge4.ensures

pub overflow_mul-v : goal.overflow_mul-v
overflow_mul-v c = let h : c.loop-i.v < 4096 = digits_room c.loop-i.invariant c.loop-i-test.true c.digit_value.ensures c.in-Some.is c.if-i-at-ge4.false in omega arith

pub overflow_add-v : goal.overflow_add-v
overflow_add-v c =
    let h : c.loop-i.v < 4096 = digits_room c.loop-i.invariant c.loop-i-test.true c.digit_value.ensures c.in-Some.is c.if-i-at-ge4.false in
    let k : c.in-Some.d < 16 = (digit_is _ (sym c.digit_value.ensures ∙ c.in-Some.is)).1 in
    omega (arith, h, k)

pub loop-i-preserved : goal.loop-i-preserved
loop-i-preserved c = digits_turn c.loop-i.invariant c.loop-i-test.true c.digit_value.ensures c.in-Some.is c.if-i-at-ge4.false

pub returns : goal.returns
returns c = digits_end c.loop-i.invariant c.loop-i-test.false c.then_some-2.ensures
