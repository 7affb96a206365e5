-- In a threaded world functions give only the stobjs that they are given, where those that are defined do.
use Rattle.std.proofs.Common.{◌≡◌, ℕ, List, [], ◌∷◌, map, Bool, true, false, Some, refl, sym, ap, ◌∙◌, subst}
use Rattle.std.specs.Prelude.{◌||◌, nat_eq}
use Rattle.model_terms.specs.declared.role.Role.{Role}
use Rattle.model_terms.specs.declared.role.Role.TheVariants as role
use Rattle.model_terms.specs.declared.role.AbstractRole.{AbstractRole}
use Rattle.model_terms.specs.declared.role.AbstractRole.TheVariants as abstract_role
use Rattle.model_terms.specs.Worlds.{World, Out, Ordinary, Definition, FunctionOfAbstract, definition, Primitive, Defined, Macro, Constant, Concrete, Generated, Abstract, OfAbstract, Named, Signed, Signature}
use Rattle.model_terms.specs.Worlds as worlds
use Rattle.model_terms.specs.Classes.{has, stobjs}
use Rattle.model_terms.specs.Outputs.{signature_in}
use Rattle.model_terms.specs.Accessors.{is_internal, is_creator}
use Rattle.model_accepted.specs.Threaded.{IsMade, IsThreaded, IsExport, role_outs, abstracted}
use Rattle.model_accepted.proofs.AcceptLemmas.{false_true, true_false}
use Rattle.model_accepted.proofs.ScopeLemmas.{some_same, none_some}
use Rattle.model_fitting.specs.Giving.{GivesOnlyGiven, DefinedGiveOnlyGiven}
use Rattle.model_fitting.specs.Laws.{GivenWhereDefinedGive}
use Rattle.model_fitting.proofs.DefinitionLemmas.{abstracted_objects}

-- a function that a stobj comes with writes its only stobj, or gives none
made_gives : (r : Role) (stobj : ℕ) (ins outs : List Out) (x : ℕ) → outs ≡ role_outs r stobj → (outs ≡ worlds.Stobj stobj ∷ [] → stobjs ins ≡ stobj ∷ []) → has (stobjs outs) x ≡ true → has (stobjs ins) x ≡ true
made_gives r stobj ins outs x e only h = go r e
  where
    reads : {A : Type 0} (os : List Out) → outs ≡ os → has (stobjs os) x ≡ false → A
    reads os e n = true_false (sym (subst (λ (os : List Out). has (stobjs os) x ≡ true) e h) ∙ n)

    writes : outs ≡ worlds.Stobj stobj ∷ [] → has (stobjs ins) x ≡ true
    writes e = subst (λ (xs : List ℕ). has xs x ≡ true) (sym (only e)) (subst (λ (os : List Out). has (stobjs os) x ≡ true) e h)

    go : (r : Role) → outs ≡ role_outs r stobj → has (stobjs ins) x ≡ true
    go role.Recognizer e = reads _ e refl
    go role.Creator e = writes e
    go role.FieldRecognizer e = reads _ e refl
    go role.Access e = reads _ e refl
    go role.Update e = writes e
    go role.Length e = reads _ e refl
    go role.Resize e = writes e
    go role.HashGet e = reads _ e refl
    go role.HashBoundp e = reads _ e refl
    go role.HashGetBound e = reads _ e refl
    go role.HashPut e = writes e
    go role.HashRem e = writes e
    go role.HashCount e = reads _ e refl
    go role.HashClear e = writes e

-- an export gives its stobj alone
abstracted_gives : (stobj : ℕ) (outs : List Out) (x : ℕ) → has (stobjs (map (abstracted stobj) outs)) x ≡ true → has (stobj ∷ []) x ≡ true
abstracted_gives stobj [] x h = false_true h
abstracted_gives stobj (Ordinary ∷ outs) x h = abstracted_gives stobj outs x h
abstracted_gives stobj (worlds.Stobj y ∷ outs) x h = go (nat_eq x stobj) h (abstracted_gives stobj outs x)
  where
    go : (b : Bool) → (b || has (stobjs (map (abstracted stobj) outs)) x) ≡ true → (has (stobjs (map (abstracted stobj) outs)) x ≡ true → (b || false) ≡ true) → (b || false) ≡ true
    go true h later = refl
    go false h later = later h

module _ (w : World) (threaded : IsThreaded w) (defined : DefinedGiveOnlyGiven w) where
  export_gives : (f : ℕ) (g : FunctionOfAbstract) (r : AbstractRole) → definition w f ≡ Some (OfAbstract g) → g.role ≡ r → is_creator r ≡ false → GivesOnlyGiven g.signature
  export_gives f g abstract_role.Recognizer there e kept =
      record { each = λ x h. false_true (subst (λ (os : List Out). has (stobjs os) x ≡ true) (threaded.recognizers f g there e).outs h) }
  export_gives f g abstract_role.Creator there e kept = true_false kept
  export_gives f g abstract_role.Export there e kept =
      let i : IsExport w g = threaded.exports f g there e in
      record {
        each = λ x h.
            subst (λ (xs : List ℕ). has xs x ≡ true) (sym (ap stobjs i.ins ∙ abstracted_objects g.stobj i.signature.ins i.foundation i.only))
            (abstracted_gives g.stobj i.signature.outs x (subst (λ (os : List Out). has (stobjs os) x ≡ true) i.outs h));
      }

  definition_gives : (f : ℕ) (d : Definition) (s : Signature) → definition w f ≡ Some d → signature_in d ≡ Some s → is_internal w d ≡ false → GivesOnlyGiven s
  definition_gives f (Primitive name row) s there signed kept = subst (λ (z : Signature). GivesOnlyGiven z) (some_same signed) (record { each = λ x h. false_true h })
  definition_gives f (Defined g) s there signed kept = subst (λ (z : Signature). GivesOnlyGiven z) (some_same signed) (defined.functions f g there)
  definition_gives f (Macro name formals body) s there signed kept = none_some signed
  definition_gives f (Constant name value) s there signed kept = none_some signed
  definition_gives f (Concrete d class) s there signed kept = none_some signed
  definition_gives f (Generated g) s there signed kept =
      let made : IsMade w g = threaded.made f g there kept in
      subst (λ (z : Signature). GivesOnlyGiven z) (some_same signed) (record { each = λ x h. made_gives g.role g.stobj g.signature.ins g.signature.outs x made.outs made.only h })
  definition_gives f (Abstract d) s there signed kept = none_some signed
  definition_gives f (OfAbstract g) s there signed kept = subst (λ (z : Signature). GivesOnlyGiven z) (some_same signed) (export_gives f g g.role there refl kept)
  definition_gives f (Named name formals) s there signed kept = none_some signed
  definition_gives f (Signed name formals signature executable) s there signed kept = subst (λ (z : Signature). GivesOnlyGiven z) (some_same signed) (defined.admitted f name formals signature executable there)

pub given_where_defined_give : GivenWhereDefinedGive
given_where_defined_give = record { given = λ w threaded defined. record { functions = definition_gives w threaded defined } }
