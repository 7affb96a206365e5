-- The end of the input.
use Rattle.std.specs.Prelude.{◌≡◌, ◌<◌, length}
use Rattle.std.proofs.Common.{arith}
use Rattle.std.proofs.lemmas.Bool.Decides.{nat_tests}
use Rattle.model_symbols.specs.Symbols.{Table}
use Rattle.model_text.specs.Next.{State, at_end, Faulty}
use Rattle.model_text.specs.declared.TextCause.TheVariants.{Unfinished}
use Rattle.acl_read_scan.specs.declared.Built.{Built}
use Rattle.acl_read_scan.specs.Built.{IsBuilt, state_at}
use Rattle.acl_read_scan.proofs.BuiltLemmas.{open_count}

at_end_open : (s : State) → 0 < length s.parts → at_end s ≡ Faulty Unfinished s.first
at_end_open s l = grind (arith, nat_tests)

-- parts are open where the input ends
pub unfinished_parts : (t : Table) (b : Built) → IsBuilt t b → 0 < length b.frames.items → at_end (state_at t b) ≡ Faulty Unfinished b.first
unfinished_parts t b i l =
    let p : 0 < length (state_at t b).parts = omega (arith, open_count t.symbols b.frames.items b.lexemes.items i.opens) in
    at_end_open (state_at t b) p
