-- The groups, or those in front of the longest run, "::" and those behind it (`plain_text`, `gapped_whole`).
use Rattle.std.proofs.Common.{◌≡◌, length, sym, arith, rules, length-take-le}
use Rattle.ipv6.proofs.Putting.{run_fits, plain_text, gapped_front, gapped_colons, gapped_back, gapped_whole}
use Rattle.ipv6.proofs.writing.put_address.Goals as goal

pub put_joined-requires : goal.put_joined-requires
put_joined-requires c = let g = c.groups_of-gs in let r = c.longest_run-run in let long : length g.result ≡ 8 = search rules in rw (plain_text c.args.a g.ensures r.ensures long c.if-run-lt2.true) at c.requires

pub returns-then-run-lt2 : goal.returns-then-run-lt2
returns-then-run-lt2 c = let g = c.groups_of-gs in let r = c.longest_run-run in let long : length g.result ≡ 8 = search rules in rw (plain_text c.args.a g.ensures r.ensures long c.if-run-lt2.true) c.put_joined.ensures

pub slice_bounds-gs-end : goal.slice_bounds-gs-end
slice_bounds-gs-end c = let g = c.groups_of-gs in let r = c.longest_run-run in let long : length g.result ≡ 8 = search rules in omega (arith, run_fits c.args.a g.ensures r.ensures long)

pub slice_bounds-put_joined-end-2 : goal.slice_bounds-put_joined-end-2
slice_bounds-put_joined-end-2 c = let g = c.groups_of-gs in let r = c.longest_run-run in let long : length g.result ≡ 8 = search rules in let k = run_fits c.args.a g.ensures r.ensures long in sym (length-take-le r.result.start g.result (omega arith))

pub put_joined-p-requires : goal.put_joined-p-requires
put_joined-p-requires c = let g = c.groups_of-gs in let r = c.longest_run-run in let long : length g.result ≡ 8 = search rules in gapped_front c.args.a g.ensures r.ensures long c.if-run-lt2.false c.args.at c.args.out.now c.requires

pub put_text-q-requires : goal.put_text-q-requires
put_text-q-requires c = let g = c.groups_of-gs in let r = c.longest_run-run in let long : length g.result ≡ 8 = search rules in gapped_colons c.args.a g.ensures r.ensures long c.if-run-lt2.false c.args.at c.args.out.now c.requires c.put_joined-p.ensures

pub overflow_add-run : goal.overflow_add-run
overflow_add-run c = let g = c.groups_of-gs in let r = c.longest_run-run in let long : length g.result ≡ 8 = search rules in omega (arith, run_fits c.args.a g.ensures r.ensures long)

pub offset_bounds-gs-run : goal.offset_bounds-gs-run
offset_bounds-gs-run c = let g = c.groups_of-gs in let r = c.longest_run-run in let long : length g.result ≡ 8 = search rules in omega (arith, run_fits c.args.a g.ensures r.ensures long)

pub slice_bounds-put_joined-count : goal.slice_bounds-put_joined-count
slice_bounds-put_joined-count c = let g = c.groups_of-gs in let r = c.longest_run-run in let long : length g.result ≡ 8 = search rules in omega (arith, run_fits c.args.a g.ensures r.ensures long)

pub slice_bounds-put_joined-start : goal.slice_bounds-put_joined-start
slice_bounds-put_joined-start c = let g = c.groups_of-gs in let r = c.longest_run-run in let long : length g.result ≡ 8 = search rules in omega (arith, run_fits c.args.a g.ensures r.ensures long)

pub put_joined-requires-2 : goal.put_joined-requires-2
put_joined-requires-2 c = let g = c.groups_of-gs in let r = c.longest_run-run in let long : length g.result ≡ 8 = search rules in gapped_back c.args.a g.ensures r.ensures long c.if-run-lt2.false c.args.at c.args.out.now c.requires c.put_joined-p.ensures c.put_text-q.ensures

pub returns : goal.returns
returns c = let g = c.groups_of-gs in let r = c.longest_run-run in let long : length g.result ≡ 8 = search rules in gapped_whole c.args.a g.ensures r.ensures long c.if-run-lt2.false c.args.at c.args.out.now c.requires c.put_joined-p.ensures c.put_text-q.ensures c.put_joined-2.ensures
