-- A setting's line, by the laws of `SettingLine`, one for each return.
use native.Mathlib.Omega.{arith}
use Rattle.std.proofs.lemmas.Result.{err_from_is_err_and}
use Rattle.reader.proofs.SettingLine.{setting_outside, setting_unknown, setting_repeated, setting_faulty, setting_good, slot_small}
use Rattle.reader.proofs.judging.setting_line.Goals as goal

pub returns-in_default : goal.returns-in_default
returns-in_default c = setting_outside _ _ _ _ _ _ c.in_default.is

pub returns-in_err-listed : goal.returns-in_err-listed
returns-in_err-listed c =
    let p = err_from_is_err_and c.from_residual.result c.from_residual.ensures.1 in
    rw (p.1, p.2) (setting_unknown _ _ _ _ _ _ c.in-In.is c.key_of.ensures c.ok_or.ensures.value c.in_err-listed.was)

pub overflow_add-i : goal.overflow_add-i
overflow_add-i c = omega (arith, slot_small c.args.d c.args.file.now c.args.x.now c.args.current c.args.key c.args.value c.in-In.is c.key_of.ensures c.ok_or.ensures.value c.in_ok-listed.was c.requires.rows, c.requires.rows.long)

pub overflow_add-i-2 : goal.overflow_add-i-2
overflow_add-i-2 c = omega (arith, slot_small c.args.d c.args.file.now c.args.x.now c.args.current c.args.key c.args.value c.in-In.is c.key_of.ensures c.ok_or.ensures.value c.in_ok-listed.was c.requires.rows, c.requires.rows.long)

pub offset_bounds-x-i : goal.offset_bounds-x-i
offset_bounds-x-i c = omega (arith, slot_small c.args.d c.args.file.now c.args.x.now c.args.current c.args.key c.args.value c.in-In.is c.key_of.ensures c.ok_or.ensures.value c.in_ok-listed.was c.requires.rows, c.requires.rows.long)

pub bounds-x-i : goal.bounds-x-i
bounds-x-i c = omega (arith, slot_small c.args.d c.args.file.now c.args.x.now c.args.current c.args.key c.args.value c.in-In.is c.key_of.ensures c.ok_or.ensures.value c.in_ok-listed.was c.requires.rows, c.requires.rows.long)

pub returns-then-x-i-ne0 : goal.returns-then-x-i-ne0
returns-then-x-i-ne0 c = setting_repeated _ _ _ _ _ _ c.in-In.is c.key_of.ensures c.ok_or.ensures.value c.in_ok-listed.was c.if-x-i-ne0.true

pub returns-in_err-v : goal.returns-in_err-v
returns-in_err-v c =
    let p = err_from_is_err_and c.from_residual-in_err-v.result c.from_residual-in_err-v.ensures.1 in
    rw (p.1, p.2) (setting_faulty _ _ _ _ _ _ c.in-In.is c.key_of.ensures c.ok_or.ensures.value c.in_ok-listed.was c.if-x-i-ne0.false c.judge.ensures c.in_err-v.was)

pub returns : goal.returns
returns c = setting_good _ _ _ _ _ _ c.in-In.is c.key_of.ensures c.ok_or.ensures.value c.in_ok-listed.was c.if-x-i-ne0.false c.judge.ensures c.in_ok-v.was
