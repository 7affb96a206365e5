use Rattle.std.specs.Prelude.{◌-◌, refl, Option, Some, IfSome, ◌||◌, if◌then◌else◌, true, false}
use Rattle.std.proofs.Common.{arith, sym, ap, ◌∙◌, subst, get_or}
use Rattle.std.proofs.lemmas.List.{length-set}
use Rattle.acl_base.specs.declared.SymId.{SymId}
use Rattle.std.specs.Option.{option_map}
use Rattle.model_output_so_far.specs.Reserved.{is_reserved}
use Rattle.acl_answers.specs.Views.{name_of}
use Rattle.acl_answers.specs.Whole.{IsKnown}
use Rattle.acl_answers.proofs.UseLemmas.{seen_more, in_use_more, name_known, known_before, other_default}
use Rattle.acl_answers.proofs.naming.first_in_use.Goals as goal

pub loop-left-preserved : goal.loop-left-preserved
loop-left-preserved c =
    let t = c.args.syms.now in
    let names = c.args.names.now in
    let left = c.loop-left.left in
    let i = c.loop-left.invariant in
    let none : SymId = record { 0 = 0 } in
    let s : SymId = get_or names (left - 1) none in
    record {
      within = omega (arith, i.within);
      size = length-set c.loop-left.comes_later.items s.0 true ∙ i.size;
      seen = seen_more t c.is_table.ensures names c.requires left i.within c.loop-left-test.true s none refl c.loop-left.comes_later.items i.size i.seen;
      known = subst (λ (o : Option SymId). IfSome o (IsKnown t)) (sym c.before-found.ensures)
          (known_before t c.is_table.ensures names c.requires left i.within c.loop-left-test.true s none refl (c.is_reserved.result || c.index.result.now) c.loop-left.found i.known);
      same = ap (option_map (name_of t)) (c.before-found.ensures
          ∙ (ap (λ b. if b || c.index.result.now then Some s else c.loop-left.found) c.is_reserved.ensures
          ∙ ap (λ b. if is_reserved (name_of t s) || b then Some s else c.loop-left.found)
          (c.index.ensures ∙ other_default c.loop-left.comes_later.items s.0 c.index.result.now false (omega (arith, i.size, name_known t c.is_table.ensures names c.requires left i.within c.loop-left-test.true s none refl)))))
          ∙ in_use_more t c.is_table.ensures names c.requires left i.within c.loop-left-test.true s none refl c.loop-left.comes_later.items i.size i.seen c.loop-left.found i.same;
    }
