-- What the obligations of an export say of its functions.
use Rattle.std.proofs.Common.{◌≡◌, ℕ, List, [], ◌∷◌, map, Bool, true, false, refl, sym, ap, ◌∙◌, subst}
use Rattle.std.specs.Prelude.{if◌then◌else◌}
use Rattle.model_objects.specs.Object.{Symbol}
use Rattle.model_symbols.specs.Opening.{truth_name}
use Rattle.model_prims.specs.Kinds.{by_name, is_nil}
use Rattle.model_prims.specs.Lists.{element}
use Rattle.model_terms.specs.Cores.{Core, Var, If, Call, none, more}
use Rattle.model_terms.specs.Worlds.{Out, AbstractFunction, AbstractDescriptor}
use Rattle.model_expansion.specs.TypeTerms.{false_core}
use Rattle.model_stobjs.specs.Abstracts.{signature, export_formals, logic_guard}
use Rattle.model_stobjs.specs.Obligations.{Correspondence, Preserved, Obligation, all_core, is_true_core, and_guard, call_of, part_of, corresponds, st, is_well_formed, exec_actuals, logic_call, exec_call, outputs_correspond}
use Rattle.model_logic.specs.Logic.{Theory, Thing, Values, value_in, found, form_value, form_values, EndsWith, CallEndsWith}
use Rattle.model_abstract.specs.Corresponding.{CallHolds}
use Rattle.model_abstract_books.specs.Holding.{IsSupposed, Holds}
use Rattle.model_follows.specs.Costs.{Counted, caller, form_counted, Ends}
use Rattle.model_follows.specs.PartLaw.{AllEnd}
use Rattle.model_follows.proofs.CostLemmas.{costs_nothing, ends_then, ends_more, ends_with}
use Rattle.model_follows.proofs.LaterLemmas.{call_costs, form_costs}
use Rattle.model_follows.proofs.PartLemmas.{parts_end}
use Rattle.model_logic_laws.specs.Equations.{HasEqualAndNth, EndsTrue, OutputsMeet}
use Rattle.model_logic_laws.specs.Exports.{ObligationsTellExports}
use Rattle.model_logic_laws.proofs.EquationLemmas.{Part, part_tells, call_ends, one_value, equations_tell_outputs}

truth_is_not_nil : is_nil by_name (Symbol truth_name) ≡ false
truth_is_not_nil = refl

module _ (b : Theory) (values : Values) where
  -- ---- forms that hold, from their parts

  var_costs : (x : ℕ) → Ends (form_counted b (Var x) values) (value_in values x)
  unfolding form_value
  var_costs x = (0, costs_nothing (value_in values x))

  two_hold : (f x y : ℕ) → CallHolds b f (value_in values x ∷ value_in values y ∷ []) → EndsTrue b (call_of f (Var x ∷ Var y ∷ [])) values
  unfolding form_value form_values
  two_hold f x y h = (
    h.0,
    ends_with b (Call f (more (Var x) (more (Var y) none))) values h.0
        (ends_more b (Var x) (more (Var y) none) values [] (λ os budget nest calls. caller b budget nest f os calls) (value_in values x) h.0 (var_costs x)
        (ends_more b (Var y) none values (value_in values x ∷ []) (λ os budget nest calls. caller b budget nest f os calls) (value_in values y) h.0 (var_costs y) (call_costs b f (value_in values x ∷ value_in values y ∷ []) h.0 h.1))),
    h.2,
  )

  one_holds : (f x : ℕ) → CallHolds b f (value_in values x ∷ []) → EndsTrue b (call_of f (Var x ∷ [])) values
  unfolding form_value form_values
  one_holds f x h = (
    h.0,
    ends_with b (Call f (more (Var x) none)) values h.0
        (ends_more b (Var x) none values [] (λ os budget nest calls. caller b budget nest f os calls) (value_in values x) h.0 (var_costs x) (call_costs b f (value_in values x ∷ []) h.0 h.1)),
    h.2,
  )

  if_holds : (p q : Core) → EndsTrue b p values → EndsTrue b q values → EndsTrue b (If p q false_core) values
  unfolding form_value
  if_holds p q h g = (
    g.0,
    ends_with b (If p q false_core) values g.0
        (ends_then (form_counted b p values) go h.0 g.0 (form_costs b p values h.0 h.1)
        (subst (λ (t : Bool). Ends (λ budget nest start. if t then form_counted b false_core values budget nest start else form_counted b q values budget nest start) g.0) (sym h.2) (form_costs b q values g.0 g.1))),
    g.2,
  )
    where
      go : Thing → Counted
      go v = λ budget nest start. if is_nil by_name v then form_counted b false_core values budget nest start else form_counted b q values budget nest start

  supposed : (h g : Core) → EndsTrue b h values → EndsTrue b g values → IsSupposed b (and_guard h g) values
  supposed h g p q = go (is_true_core g)
    where
      go : (t : Bool) → IsSupposed b (if t then h ∷ [] else h ∷ g ∷ []) values
      go true = p
      go false = if_holds h g p q

  -- ---- a list that is well formed

  pub record OneArg (f : ℕ) (p : Core) (v : Thing) : Type 0 where
    pub x : Thing
    pub first : EndsWith b p values x
    pub call : CallEndsWith b f (x ∷ []) v

  pub one_arg : (f : ℕ) (p : Core) (v : Thing) → EndsWith b (call_of f (p ∷ [])) values v → OneArg f p v
  one_arg f p v e = go (parts_end.calls b f (more p none) values v e)
    where
      go : (os : List Thing) × AllEnd b (more p none) values os × CallEndsWith b f os v → OneArg f p v
      go ([], h, g) = absurd h
      go (x ∷ [], h, g) = record { x = x; first = h.0; call = g }
      go (x ∷ (y ∷ ys), h, g) = absurd h.1

  kept : (d : AbstractDescriptor) (f : AbstractFunction) → HasEqualAndNth b → (i : ℕ) (alone : Bool) (v : Thing) → v ≡ Symbol truth_name
      → EndsWith b (is_well_formed b.world b.symbols d (if alone then logic_call b.world b.symbols d f else part_of i (logic_call b.world b.symbols d f))) values v
      → (l : Thing) → CallEndsWith b f.logic (map (value_in values) (export_formals b.world d f)) l → CallEndsWith b d.recognizer.logic ((if alone then l else element by_name i l) ∷ []) (Symbol truth_name)
  kept d f h i true v t e l g =
      let one : OneArg d.recognizer.logic (logic_call b.world b.symbols d f) v = one_arg d.recognizer.logic (logic_call b.world b.symbols d f) v e in
      let same : one.x ≡ l = one_value b values f.logic (map (value_in values) (export_formals b.world d f)) one.x l (call_ends b values f.logic (export_formals b.world d f) one.x one.first) g in
      subst (λ (r : Thing). CallEndsWith b d.recognizer.logic (l ∷ []) r) t (subst (λ (x : Thing). CallEndsWith b d.recognizer.logic (x ∷ []) v) same one.call)
  kept d f h i false v t e l g =
      let one : OneArg d.recognizer.logic (part_of i (logic_call b.world b.symbols d f)) v = one_arg d.recognizer.logic (part_of i (logic_call b.world b.symbols d f)) v e in
      let part : Part b values h i (logic_call b.world b.symbols d f) one.x = part_tells b values h i (logic_call b.world b.symbols d f) one.x one.first in
      let same : part.whole ≡ l
      = one_value b values f.logic (map (value_in values) (export_formals b.world d f)) part.whole l (call_ends b values f.logic (export_formals b.world d f) part.whole part.ends) g in
      subst (λ (r : Thing). CallEndsWith b d.recognizer.logic (element by_name i l ∷ []) r) t
      (subst (λ (x : Thing). CallEndsWith b d.recognizer.logic (x ∷ []) v) (part.part ∙ ap (element by_name i) same) one.call)

pub obligations_tell_exports : ObligationsTellExports
obligations_tell_exports = record {
  correspondence = λ b d f h at_nil first others outs holds values corr guard.
      let met = holds.holds values (supposed b values (corresponds b.world b.symbols d (Var d.foundation) (st b.world b.symbols d)) (logic_guard b.world d f) (two_hold b values d.corr d.foundation d.name corr) guard) in
      equations_tell_outputs.tell b b.symbols d h at_nil first others f.logic f.exec (export_formals b.world d f) (exec_actuals b.world b.symbols d f) values
      (subst (λ (ks : List Out). EndsTrue b (all_core (outputs_correspond b.world b.symbols d ks (logic_call b.world b.symbols d f) (exec_call b.world b.symbols d f))) values) outs met);
  preserved = λ b d f h i alone holds values well guard l ends.
      let met = holds.holds values (supposed b values (is_well_formed b.world b.symbols d (st b.world b.symbols d)) (logic_guard b.world d f) (one_holds b values d.recognizer.logic d.name (Symbol truth_name, well, truth_is_not_nil)) guard) in
      kept b values d f h i alone met.0 met.2 met.1 l ends;
}
