use Rattle.std.specs.Prelude.{◌≡◌, length, map, refl, [], ◌∷◌}
use Rattle.std.proofs.Common.{ap, ◌∙◌, arith}
use Rattle.model_symbols.specs.Symbols.{Table}
use Rattle.model_symbols.specs.Opening.{acl2_text}
use Rattle.acl_syms.specs.Opening.{with_all, names_in, full_packages}
use Rattle.acl_syms.specs.declared.opening.TheConstants.{ACL2_NAMES}
use Rattle.acl_syms.proofs.Stages.{acl2_table, acl2_stage, hidden_stage, full_many, acl2_many}
use Rattle.acl_syms.proofs.Symbols.new.Goals as goal

put : (t u : Table) → t ≡ full_packages → u ≡ with_all t (names_in t 2 (map (λ n. n.now) ACL2_NAMES)) → u ≡ acl2_table
unfolding acl2_text
put t u e h = h ∙ (ap (λ (x : Table). with_all x (names_in x 2 (map (λ n. n.now) ACL2_NAMES))) e ∙ acl2_stage (map (λ n. n.now) ACL2_NAMES) refl)

pub put_all-requires-clause-within : goal.put_all-requires-clause-within
put_all-requires-clause-within c = omega (arith, full_many.0, ap (λ (t : Table). length t.packages) c.in_ok-put_packages.ensures)

pub put_all-requires-clause-room : goal.put_all-requires-clause-room
put_all-requires-clause-room c = omega (arith, full_many.1, ap (λ (t : Table). length t.symbols) c.in_ok-put_packages.ensures)

pub put_all-requires-2-clause-within : goal.put_all-requires-2-clause-within
put_all-requires-2-clause-within c = omega (arith, acl2_many.0, ap (λ (t : Table). length t.packages) (put c.put_packages.new.self c.put_all.new.self c.in_ok-put_packages.ensures c.in_ok-put_all.ensures))

pub put_all-requires-2-clause-room : goal.put_all-requires-2-clause-room
put_all-requires-2-clause-room c = omega (arith, acl2_many.1, ap (λ (t : Table). length t.symbols) (put c.put_packages.new.self c.put_all.new.self c.in_ok-put_packages.ensures c.in_ok-put_all.ensures))

pub returns : goal.returns
returns c =
    c.in_ok-put_all-2.ensures
    ∙ (ap (λ (t : Table). with_all t (names_in t 3 ((86 ∷ []) ∷ []))) (put c.put_packages.new.self c.put_all.new.self c.in_ok-put_packages.ensures c.in_ok-put_all.ensures)
    ∙ hidden_stage)
