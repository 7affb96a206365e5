use Rattle.std.proofs.Common.{◌≡◌, rules, ap, ◌∙◌}
use Rattle.model_eval.specs.Variables.{handed_back}
use Rattle.acl_terms.specs.Forms.{numbers}
use Rattle.acl_keep.specs.Seen.{all_seen}
use Rattle.acl_list_scope.specs.Scopes.{scope}
use Rattle.acl_list_scope.proofs.scope.give_back.Goals as goal

pub returns-clause-is : goal.returns-clause-is
returns-clause-is c cs h =
    let s : c.as_slice.result.now ≡ c.args.bindings.now.items = search rules in
    let o : c.replace-inner.new.dest.items ≡ c.args.outer.items = search rules in
    c.hand_back.ensures.is cs h
    ∙ (ap (λ bs. handed_back (numbers c.args.formals.now) (all_seen h c.args.actuals.now) (scope cs bs) (scope cs c.replace-inner.new.dest.items)) s
    ∙ ap (λ bs. handed_back (numbers c.args.formals.now) (all_seen h c.args.actuals.now) (scope cs c.args.bindings.now.items) (scope cs bs)) o)
