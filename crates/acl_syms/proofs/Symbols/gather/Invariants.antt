use Rattle.std.specs.Prelude.{take}
use Rattle.model_symbols.specs.Tables.{symbols_at}
use Rattle.acl_syms.specs.Answers.{numbers}
use Rattle.acl_syms.specs.Imports.{Gathers}
use Rattle.acl_syms.proofs.Symbols.gather.Given as goal

abbrev pub invariant-loop-s : goal.invariant-loop-s
invariant-loop-s l = Gathers (λ k. k.items) l.self.symbols (symbols_at l.self.symbols (numbers (take l.s-index l.imports))) l.known
