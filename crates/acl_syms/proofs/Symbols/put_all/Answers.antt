use Rattle.std.specs.Prelude.{◌<◌, ◌≤◌, length, map, []}
use Rattle.std.proofs.Common.{arith, sym}
use Rattle.std.proofs.lemmas.List.{length-map, get_or-map}
use Rattle.acl_syms.proofs.OpeningLemmas.{with_all-more, room_left}
use Rattle.acl_syms.proofs.Symbols.put_all.Goals as goal

pub put_one-requires-clause-room : goal.put_one-requires-clause-room
put_one-requires-clause-room c =
    let xs = c.args.names.now in
    let names = map (λ n. n.now) xs in
    let low : c.loop-name.name-index ≤ length names = omega (arith, c.loop-name-test.true, length-map xs (λ n. n.now)) in
    omega (arith, c.requires.room, c.loop-name-test.true, room_left c.args.self.now c.loop-name.self c.args.p.0 names c.loop-name.name-index c.loop-name.invariant low)

pub loop-name-preserved : goal.loop-name-preserved
loop-name-preserved c =
    let xs = c.args.names.now in
    let names = map (λ n. n.now) xs in
    let low : c.loop-name.name-index < length names = omega (arith, c.loop-name-test.true, length-map xs (λ n. n.now)) in
    with_all-more c.args.self.now c.loop-name.self c.put_one.new.self c.args.p.0 names c.loop-name.name-index _ c.loop-name.invariant low
    (sym (get_or-map (λ n. n.now) xs c.loop-name.name-index _ [] c.loop-name-test.true)) c.in_ok-put_one.ensures
