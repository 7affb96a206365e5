use Rattle.std.specs.Prelude.{◌≡◌, map, take}
use Rattle.acl_syms.specs.Opening.{with_all, names_in}
use Rattle.acl_syms.proofs.Symbols.put_all.Given as goal

abbrev pub invariant-loop-name : goal.invariant-loop-name
invariant-loop-name l = l.self ≡ with_all l.fn.self (names_in l.fn.self l.p.0 (take l.name-index (map (λ n. n.now) l.names)))
