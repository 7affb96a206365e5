use Rattle.std.specs.Prelude.{◌≡◌, ◌∷◌}
use Rattle.std.proofs.Common.{rules, sym, ap, ◌∙◌, subst}
use Rattle.std.proofs.lemmas.Result.{err_from_is_err_and}
use Rattle.model_symbols.proofs.TableLemmas.{Extends-then}
use Rattle.acl_terms.specs.Forms.{numbers}
use Rattle.acl_layers.proofs.BindingLemmas.{numbers_push}
use Rattle.acl_stobj_read.specs.Written.{seen_renaming}
use Rattle.acl_stobj.specs.Texts.{makings_of}
use Rattle.acl_stobj.specs.Making.{AreMaking}
use Rattle.acl_stobj.proofs.RenameLemmas.{later}
use Rattle.acl_stobj.proofs.LoopLemmas.{names_more, names_fail, names_refused, many_more}
use Rattle.acl_stobj.proofs.making.make_names.Goals as goal

pub make_name-requires-clause-renames : goal.make_name-requires-clause-renames
make_name-requires-clause-renames c = later _ _ _ _ c.requires.renames c.names.invariant.grows.longer

pub returns-in-Err-clause-err : goal.returns-in-Err-clause-err
returns-in-Err-clause-err c =
    let first : c.names.rest.now ≡ c.in-Some.purpose.now ∷ c.in-Some.others.now = search rules in
    names_fail (seen_renaming c.args.renaming.now) c.args.syms.now c.names.syms c.args.s.0 c.in-Some.purpose.now c.names.rest.now c.in-Some.others.now c.args.purposes.now (numbers c.names.names) c.make_name.new.syms c.in-Err.unmade c.names.invariant.grows c.requires.known c.names.invariant.packages c.names.invariant.making first c.in-Err.ensures.err

pub returns-in_err-push_name-in-Ok-clause-err : goal.returns-in_err-push_name-in-Ok-clause-err
returns-in_err-push_name-in-Ok-clause-err c =
    let first : c.names.rest.now ≡ c.in-Some.purpose.now ∷ c.in-Some.others.now = search rules in
    let p = err_from_is_err_and c.from_residual.result c.from_residual.ensures.1 in
    rw (p.1, p.2)
    (names_refused (seen_renaming c.args.renaming.now) c.args.syms.now c.names.syms c.args.s.0 c.in-Some.purpose.now c.names.rest.now c.in-Some.others.now c.args.purposes.now (numbers c.names.names) c.make_name.new.syms c.in-Ok.name.0 c.names.invariant.grows c.requires.known c.names.invariant.packages c.names.invariant.making first c.in-Ok.ensures.ok)

pub names-preserved : goal.names-preserved
names-preserved c =
    let first : c.names.rest.now ≡ c.in-Some.purpose.now ∷ c.in-Some.others.now = search rules in
    record {
      grows = Extends-then c.names.invariant.grows c.in-Ok.ensures.grows;
      packages = c.in-Ok.ensures.packages ∙ c.names.invariant.packages;
      many = many_more c.names.names c.push_name.new.names c.in-Ok.name c.in-Some.purpose.now c.names.rest.now c.in-Some.others.now _ c.names.invariant.many first c.in_ok-push_name-in-Ok.ensures;
      making =
          subst (λ xs. AreMaking c.args.syms.now.packages (seen_renaming c.args.renaming.now) (makings_of c.args.syms.now.symbols c.args.s.0 c.args.purposes.now) c.args.syms.now.symbols xs (makings_of c.args.syms.now.symbols c.args.s.0 c.in-Some.others.now) c.make_name.new.syms.symbols)
          (sym (ap numbers c.in_ok-push_name-in-Ok.ensures ∙ numbers_push c.names.names c.in-Ok.name))
          (names_more (seen_renaming c.args.renaming.now) c.args.syms.now c.names.syms c.args.s.0 c.in-Some.purpose.now c.names.rest.now c.in-Some.others.now c.args.purposes.now (numbers c.names.names) c.make_name.new.syms c.in-Ok.name.0 c.names.invariant.grows c.requires.known c.names.invariant.packages c.names.invariant.making first c.in-Ok.ensures.ok);
    }
