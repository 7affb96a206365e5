-- A constant whose form was evaluated.
use Rattle.std.specs.Prelude.{◌≡◌, ◌≢◌, ℕ, ◌≤◌, List, [], ◌∷◌, length, true, false, Option, Some, None, refl}
use Rattle.std.proofs.Common.{sym, ap, ◌∙◌, subst}
use Rattle.model_prims.specs.Kinds.{by_number}
use Rattle.model_terms.specs.Worlds as worlds
use Rattle.model_eval.specs.Outcomes as outcomes
use Rattle.model_eval.specs.Variables as variables
use Rattle.model_eval.specs.Variables.{single}
use Rattle.model_expansion.specs.Expansion.{evaluated_to}
use Rattle.model_stobjs.specs.Answers as answer
use Rattle.model_events.specs.Constants.{valued}
use Rattle.acl_base.specs.declared.SymId.{SymId}
use Rattle.acl_base.specs.declared.Word.{Word}
use Rattle.acl_heap.specs.Objects.{Objects, Denotes}
use Rattle.acl_terms.specs.declared.definition.Definition.TheVariants as definition
use Rattle.acl_terms.specs.declared.outcome.Stop.{Stop}
use Rattle.acl_terms.specs.declared.outcome.Stop.TheVariants as stop
use Rattle.acl_engine.specs.declared.outcome.Outcome.{Outcome}
use Rattle.acl_worlds.specs.Contents.{Content, with_definition}
use Rattle.acl_engine.specs.Outcomes.{IsOutcome, all_shown, all_shown_reach, ended, ended_reach, state_at}
use Rattle.acl_constants.specs.Entries.{is_memory, granting, EntersConstant, HaltsConstant}

module _ (h : Objects) (name : SymId) (o : Outcome) where
  pub values_lie : o.stop ≡ None → ended_reach o o.stop ≤ length h → all_shown_reach o.values.items ≤ length h
  values_lie e l = let i : ended_reach o None ≤ length h = subst (λ x. ended_reach o x ≤ length h) e l in i

  none_free : o.stop ≡ None → o.stop ≢ Some stop.Memory
  none_free e = λ f. let g : None ≡ Some stop.Memory = sym e ∙ f in cc

  pub enters : (old new : Content) (v : Word) → o.stop ≡ None → Denotes h v (variables.object_of by_number (single by_number (all_shown h o.values.items))) → new ≡ with_definition old (definition.Constant name v)
      → EntersConstant h name o old new v
  enters old new v e d f = record {
    world = f;
    lies = d.lies;
    grants = λ symbols x i p.
        let go = granting name.0 in
        let state = state_at symbols [] o in
        ap (λ y. valued y go p) (sym (i.is (none_free e)))
        ∙ (ap (λ s. valued (ended h symbols [] o s) go p) e
        ∙ ap (λ value. answer.Grants (worlds.Constant name.0 value ∷ []) (evaluated_to p (outcomes.here state) state)) (sym d.is));
  }

  stop_free : (s : Stop) → o.stop ≡ Some s → is_memory s ≡ false → o.stop ≢ Some stop.Memory
  stop_free s e m = λ f.
      let g : Some s ≡ Some stop.Memory = sym e ∙ f in
      let q : s ≡ stop.Memory = cc in
      let t : is_memory s ≡ true = ap is_memory q in
      cc

  pub halts : (s : Stop) → o.stop ≡ Some s → is_memory s ≡ false → HaltsConstant h name o s
  halts s e m = record {
    stop = e;
    halts = λ symbols x i p.
        ap (λ y. valued y (granting name.0) p) (sym (i.is (stop_free s e m))) ∙ ap (λ y. valued (ended h symbols [] o y) (granting name.0) p) e;
  }
