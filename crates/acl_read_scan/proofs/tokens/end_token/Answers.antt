use Rattle.std.specs.Prelude.{◌<◌, length}
use Rattle.std.proofs.Common.{sym, subst, rules}
use Rattle.model_text.specs.Next.{Step}
use Rattle.acl_read_scan.specs.Scanning.{Does}
use Rattle.acl_read_scan.proofs.BuiltLemmas.{built_later, token_step}
use Rattle.acl_read_scan.proofs.tokens.end_token.Goals as goal

pub place-requires-clause-built : goal.place-requires-clause-built
place-requires-clause-built c = built_later c.read_token.ensures.grows c.requires.built

pub returns-clause-does : goal.returns-clause-does
returns-clause-does c =
    let some : 0 < length c.args.built.now.token.items = search rules in
    subst (λ (s : Step). Does c.read_token.new.syms c.place.new.built s c.place.result)
    (sym (token_step c.args.syms.now c.read_token.new.syms c.args.built.now c.args.current c.in_ok-standing.standing c.lexeme_of.result c.as_slice.result.now c.saturating_sub-start.result
    c.read_token.ensures.grows c.requires.built some c.as_slice.ensures.value (search rules) c.lexeme_of.ensures c.in_ok-standing.ensures.stands))
    c.place.ensures.does
