use Rattle.acl_terms.specs.Laws.{IsKept, AreSeen}
use Rattle.acl_terms.specs.Growth.{seen_core-later, seen_definition-later, seen_definitions-later, seen-name}
use Rattle.acl_terms.specs.FormLaws.{seen_var, seen_const, seen_if, seen_let, seen_mv, seen_mv_let, seen_stobj_let, seen_with_local, seen_must_be_equal, seen_call}

pub is_kept : IsKept
is_kept = record {
  core = λ h h' f e l. seen_core-later e f l;
  definition = λ h h' d e l. seen_definition-later e d l;
  definitions = λ h h' ds e l. seen_definitions-later e ds l;
}

pub are_seen : AreSeen
are_seen = record {
  var = seen_var;
  const = seen_const;
  if_ = seen_if;
  let_ = seen_let;
  mv = seen_mv;
  mv_let = seen_mv_let;
  stobj_let = seen_stobj_let;
  with_local = seen_with_local;
  must_be_equal = seen_must_be_equal;
  call = seen_call;
  name = seen-name;
}
