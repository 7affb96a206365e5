use Rattle.std.specs.Prelude.{◌≡◌, ◌+◌, drop}
use Rattle.model_text.specs.Next.{run}
use Rattle.acl_read_scan.specs.Built.{state_at, IsBuilt, packages_of, Grows}
use Rattle.acl_read_scan.proofs.scanning.scan.Given as goal

abbrev pub invariant-loop-byte : goal.invariant-loop-byte
invariant-loop-byte l = record {
  grown : Grows l.fn.syms l.syms;
  built : IsBuilt l.syms l.built;
  at : l.built.at ≡ l.fn.built.at + l.byte-index;
  same : run (packages_of l.fn.syms l.current) (state_at l.syms l.built) (drop l.byte-index l.bytes) ≡ run (packages_of l.fn.syms l.current) (state_at l.fn.syms l.fn.built) l.bytes;
}
