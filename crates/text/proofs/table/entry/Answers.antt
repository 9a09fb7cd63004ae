-- The entry of a byte is what its arm says: `entry_in` for the keys of an arm, `entry_out` for what is in none.
use mathlib.Core.Path.{refl}
use borrow.Author.Rules.{rules}
use Rattle.text.specs.ByteTable.{entry_of}
use Rattle.text.proofs.ByteArms.{arm, entry_in, entry_out}
use Rattle.text.proofs.table.entry.Goals as goal

pub returns-in-137 : goal.returns-in-137
unfolding entry_of
returns-in-137 c = entry_in 8 (arm 0) refl c.args.x (search rules) c.in-137.is

pub returns-in-160 : goal.returns-in-160
unfolding entry_of
returns-in-160 c = entry_in 136 (arm 1) refl c.args.x (search rules) c.in-160.is

pub returns-in-223 : goal.returns-in-223
unfolding entry_of
returns-in-223 c = entry_in 16 (arm 2) refl c.args.x (search rules) c.in-223.is

pub returns-in-173 : goal.returns-in-173
unfolding entry_of
returns-in-173 c = entry_in 32 (arm 3) refl c.args.x (search rules) c.in-173.is

pub returns-in-174 : goal.returns-in-174
unfolding entry_of
returns-in-174 c = entry_in 64 (arm 4) refl c.args.x (search rules) c.in-174.is

pub returns-in-176 : goal.returns-in-176
unfolding entry_of
returns-in-176 c = entry_in 6 (arm 5) refl c.args.x (search rules) c.in-176.is

pub returns-in-177 : goal.returns-in-177
unfolding entry_of
returns-in-177 c = entry_in 6 (arm 6) refl c.args.x (search rules) c.in-177.is

pub returns-in-194 : goal.returns-in-194
unfolding entry_of
returns-in-194 c = entry_in 5 (arm 7) refl c.args.x (search rules) c.in-194.is

pub returns-in-193 : goal.returns-in-193
unfolding entry_of
returns-in-193 c = entry_in 5 (arm 8) refl c.args.x (search rules) c.in-193.is

pub returns-in-200 : goal.returns-in-200
unfolding entry_of
returns-in-200 c = entry_in 1 (arm 9) refl c.args.x (search rules) c.in-200.is

pub returns-in-199 : goal.returns-in-199
unfolding entry_of
returns-in-199 c = entry_in 1 (arm 10) refl c.args.x (search rules) c.in-199.is

pub returns-in-232 : goal.returns-in-232
unfolding entry_of
returns-in-232 c = entry_in 1 (arm 11) refl c.args.x (search rules) c.in-232.is

pub returns-in-231 : goal.returns-in-231
unfolding entry_of
returns-in-231 c = entry_in 1 (arm 12) refl c.args.x (search rules) c.in-231.is

pub returns-in-128 : goal.returns-in-128
unfolding entry_of
returns-in-128 c = entry_in 0 (arm 13) refl c.args.x (search rules) c.in-128.is

pub returns-in-129 : goal.returns-in-129
unfolding entry_of
returns-in-129 c = entry_in 0 (arm 14) refl c.args.x (search rules) c.in-129.is

pub returns-in-138 : goal.returns-in-138
unfolding entry_of
returns-in-138 c = entry_in 0 (arm 15) refl c.args.x (search rules) c.in-138.is

pub returns-in-139 : goal.returns-in-139
unfolding entry_of
returns-in-139 c = entry_in 0 (arm 16) refl c.args.x (search rules) c.in-139.is

pub returns-in-186 : goal.returns-in-186
unfolding entry_of
returns-in-186 c = entry_in 0 (arm 17) refl c.args.x (search rules) c.in-186.is

pub returns-in-175 : goal.returns-in-175
unfolding entry_of
returns-in-175 c = entry_in 0 (arm 18) refl c.args.x (search rules) c.in-175.is

pub returns-in-0 : goal.returns-in-0
unfolding entry_of
returns-in-0 c = entry_in 0 (arm 19) refl c.args.x (search rules) c.in-0.is

pub returns-in-1 : goal.returns-in-1
unfolding entry_of
returns-in-1 c = entry_in 0 (arm 20) refl c.args.x (search rules) c.in-1.is

pub returns-in-34 : goal.returns-in-34
unfolding entry_of
returns-in-34 c = entry_in 0 (arm 21) refl c.args.x (search rules) c.in-34.is

pub returns-in-35 : goal.returns-in-35
unfolding entry_of
returns-in-35 c = entry_in 0 (arm 22) refl c.args.x (search rules) c.in-35.is

pub returns-in-68 : goal.returns-in-68
unfolding entry_of
returns-in-68 c = entry_in 0 (arm 23) refl c.args.x (search rules) c.in-68.is

pub returns-in-69 : goal.returns-in-69
unfolding entry_of
returns-in-69 c = entry_in 0 (arm 24) refl c.args.x (search rules) c.in-69.is

pub returns-in-102 : goal.returns-in-102
unfolding entry_of
returns-in-102 c = entry_in 0 (arm 25) refl c.args.x (search rules) c.in-102.is

pub returns-in-103 : goal.returns-in-103
unfolding entry_of
returns-in-103 c = entry_in 0 (arm 26) refl c.args.x (search rules) c.in-103.is

pub returns-in_default : goal.returns-in_default
unfolding entry_of
returns-in_default c = entry_out _ c.args.x (search rules) c.in_default.in_default-own.rest
