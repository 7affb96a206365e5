use Rattle.std.specs.List.{list_any}
use Rattle.std.specs.Str.{bytes_eq}
use Rattle.std.proofs.Common.{sym, ap, ◌∙◌}
use Rattle.acl_answers.proofs.NameLemmas.{any_named}
use Rattle.acl_answers.proofs.reserved.is_own_name.Goals as goal

pub returns : goal.returns
returns c = c.is_among.ensures ∙ (sym (any_named (λ name. name.now) (bytes_eq c.args.name.now) c.own_names.result.now) ∙ ap (list_any (bytes_eq c.args.name.now)) c.own_names.ensures)
